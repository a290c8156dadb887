-- What the tables of arcs, of rings and of vertices hold.
use Rattle.std.specs.Prelude.{ℕ, ◌≡◌, ◌≢◌, ◌⊎◌, ◌<◌, ◌≤◌, ◌+◌, ◌==◌, if◌then◌else◌}
use Rattle.std.specs.Prelude.{Bool, true, not, Option, Some, None, is_some, Result, IfOk, OnErr, vec_len, vec_capacity}
use Rattle.std.specs.Prelude.{List, [], ◌∷◌, ◌++◌, take, map, filter, Contains, length, get_or}
use Rattle.std.specs.Option.{option_map_or}
use Rattle.std.specs.List.{list_any, flat_map, AllByRecursion}
use Rattle.slab.specs.Slab.{Slab, get, ContainsKey}
use Rattle.arc_tables.specs.declared.arc.Use.{Use}
use Rattle.arc_tables.specs.declared.arc.Arc.{Arc}
use Rattle.arc_tables.specs.declared.arc.Ring.{Ring}
use Rattle.arc_tables.specs.declared.arc.Stand.{Stand}
use Rattle.arc_tables.specs.declared.arc.NewUses.{NewUses}
use Rattle.arc_tables.specs.declared.tables.Tables.{Tables}
use Rattle.arc_tables.specs.Ways.{Store, both_parts, links, Grows, Keeps, OpenAt}

-- some use is of the arc
abbrev pub uses_arc : ℕ → List Use → Bool
uses_arc i us = list_any (λ u. u.arc == i) us

-- a and b, or for back b and a, stand beside each other in the path, from this place on
pub record IsPlace (ps : List ℕ) (at : ℕ) (back : Bool) (a b : ℕ) : Type 0 where
  pub within : at + 1 < length ps
  pub here : get_or ps at 0 ≡ (if back then b else a)
  pub next : get_or ps (at + 1) 0 ≡ (if back then a else b)

-- the same keys hold a value
abbrev pub SameKeys : {T : Type 0} → Slab T → Slab T → Type 0
SameKeys old new = (k : ℕ) → is_some (get new k) ≡ is_some (get old k)

-- no number stands in the list twice
abbrev pub AllDifferent : List ℕ → Type 0
AllDifferent [] = Unit {0}
AllDifferent (x ∷ xs) = AllByRecursion (λ y. y ≢ x) xs × AllDifferent xs

-- the list without this number
abbrev pub without : ℕ → List ℕ → List ℕ
without r xs = filter (λ k. not (k == r)) xs

-- the list with this number, which comes last where it is new
abbrev pub including : ℕ → List ℕ → List ℕ
including r xs = if list_any (λ k. k == r) xs then xs else xs ++ r ∷ []

-- the arcs that are listed for a vertex
abbrev pub stand_at : List Stand → ℕ → List ℕ
stand_at stands k = get_or (map (λ s. s.arcs.items) stands) k []

-- no vertex forgets an arc
abbrev pub ListsMore : List Stand → List Stand → Type 0
ListsMore old new = (j m : ℕ) → Contains (stand_at old j) m → Contains (stand_at new j) m

-- no vertex forgets another arc than i
abbrev pub UnlistsOnly : List Stand → List Stand → ℕ → Type 0
UnlistsOnly old new i =
    (j m : ℕ) → m ≢ i → Contains (stand_at old j) m → Contains (stand_at new j) m

-- no vertex forgets another arc than i, nor does one of this path forget arc i
abbrev pub UnlistsOff : List ℕ → List Stand → List Stand → ℕ → Type 0
UnlistsOff path old new i =
    (j m : ℕ) → (m ≢ i) ⊎ Contains path j → Contains (stand_at old j) m
    → Contains (stand_at new j) m

module _ {A : Type 0} where
  -- the keys of an arc, none where there is no arc
  abbrev pub path_in : Option (Arc A) → List ℕ
  path_in o = option_map_or (λ a. a.keys.items) o []

  -- the rings that an arc is said to be in
  abbrev pub users_in : Option (Arc A) → List ℕ
  users_in o = option_map_or (λ a. a.rings.items) o []

  -- the uses of a ring
  abbrev pub uses_in : Option (Ring A) → List Use
  uses_in o = option_map_or (λ r. r.uses.items) o []

  abbrev pub store_of : Slab (Arc A) → Slab (Ring A) → Store
  store_of arcs rings = record { path = λ i. path_in (get arcs i); ring = λ r. uses_in (get rings r) }

  -- an arc has each ring that uses it, once, and no other, and an arc that is there is used
  pub record Known (arcs : Slab (Arc A)) (rings : Slab (Ring A)) : Type 0 where
    pub users : (r i : ℕ) → uses_arc i (uses_in (get rings r)) ≡ true
        → Contains (users_in (get arcs i)) r
    pub there : (r i : ℕ) → uses_arc i (uses_in (get rings r)) ≡ true → ContainsKey arcs i
    pub used : (r i : ℕ) → Contains (users_in (get arcs i)) r
        → uses_arc i (uses_in (get rings r)) ≡ true
    pub single : (i : ℕ) → AllDifferent (users_in (get arcs i))
    pub some : (i : ℕ) → ContainsKey arcs i → 1 ≤ length (users_in (get arcs i))

  -- a vertex knows every arc that it stands in, and perhaps others
  abbrev pub Listed : Slab (Arc A) → List Stand → Type 0
  Listed arcs stands = (j k : ℕ) → Contains (path_in (get arcs j)) k → Contains (stand_at stands k) j

  -- the tables belong together
  pub record Whole (t : Tables A) : Type 0 where
    pub known : Known t.arcs t.rings
    pub listed : Listed t.arcs t.stands.items

  abbrev pub store : Tables A → Store
  store t = store_of t.arcs t.rings

  -- the path of an arc
  abbrev pub path_of : Tables A → ℕ → List ℕ
  path_of t i = path_in (get t.arcs i)

  -- the list has new uses for this ring
  abbrev pub HasRing : List (NewUses A) → ℕ → Type 0
  HasRing news r = (e : NewUses A) × Contains news e × (e.ring ≡ r)

  -- ring r has the uses that the list has for it, or its old ones
  abbrev pub IsPut : List (NewUses A) → ℕ → List Use → List Use → Type 0
  IsPut news r old new = ((HasRing news r → ⊥) × (new ≡ old)) ⊎ ((e : NewUses A) × Contains news e × (e.ring ≡ r) × (new ≡ e.uses.items))

  -- each entry doubles the uses of a ring that is there
  pub record Doubles (rings : Slab (Ring A)) (i n : ℕ) (e : NewUses A) : Type 0 where
    pub there : ContainsKey rings e.ring
    pub uses : e.uses.items ≡ flat_map (both_parts i n) (uses_in (get rings e.ring))

  -- the same keys under every number
  abbrev pub SamePaths : Slab (Arc A) → Slab (Arc A) → Type 0
  SamePaths old new = (j : ℕ) → path_in (get new j) ≡ path_in (get old j)

  -- the same uses of every ring
  abbrev pub SameRings : Slab (Ring A) → Slab (Ring A) → Type 0
  SameRings old new = (k : ℕ) → uses_in (get new k) ≡ uses_in (get old k)

  -- the same uses of every ring but one, to which a use is added
  pub record GoesOn (old new : Slab (Ring A)) (r : ℕ) (u : Use) : Type 0 where
    pub ring : uses_in (get new r) ≡ uses_in (get old r) ++ u ∷ []
    pub others : (k : ℕ) → k ≢ r → uses_in (get new k) ≡ uses_in (get old k)

  -- the same arcs are there, and each has the rings that it had
  pub record SameUsers (old new : Slab (Arc A)) : Type 0 where
    pub there : SameKeys old new
    pub users : (j : ℕ) → users_in (get new j) ≡ users_in (get old j)

  -- arc i is there and has ring r too, and the other arcs have the rings that they had
  pub record Learns (old new : Slab (Arc A)) (i r : ℕ) : Type 0 where
    pub there : ContainsKey new i
    pub users : users_in (get new i) ≡ including r (users_in (get old i))
    pub others_there : (j : ℕ) → j ≢ i → is_some (get new j) ≡ is_some (get old j)
    pub others : (j : ℕ) → j ≢ i → users_in (get new j) ≡ users_in (get old j)

  -- where arc j is there, it was there before, with the same keys
  abbrev pub StaysOrGoes : Slab (Arc A) → Slab (Arc A) → ℕ → Type 0
  StaysOrGoes old now j =
      ContainsKey now j → ContainsKey old j × (path_in (get now j) ≡ path_in (get old j))

  -- one more use of the ring fits
  abbrev pub HasRoomFor : Slab (Ring A) → ℕ → Type 0
  HasRoomFor rings r = (g : Ring A) → get rings r ≡ Some g → vec_len g.uses < vec_capacity g.uses

  -- the rings stay, and arc i ends after its first m keys
  pub record EndsAt (old new : Tables A) (i m : ℕ) : Type 0 where
    pub keeps : Keeps (store old) (store new)
    pub path : path_of new i ≡ take m (path_of old i)

  -- the tables belong together, and ring r and arc i are there
  pub record WholeWith (t : Tables A) (r i : ℕ) : Type 0 where
    pub whole : Whole t
    pub ring : ContainsKey t.rings r
    pub arc : ContainsKey t.arcs i

  -- ring r goes on along the first of these keys, two at least, as many as the result counts, or fails and no ring
  -- changes; the tables belong together either way
  pub record Advances {B E : Type 0} (r : ℕ) (keys : List ℕ) (result : Result B E) (count : B → ℕ)
      (old new : Tables A) : Type 0 where
    pub two : IfOk result (λ x. 2 ≤ count x)
    pub within : IfOk result (λ x. count x ≤ length keys)
    pub grown : IfOk result (λ x. Grows r (links (take (count x) keys)) (store old) (store new))
    pub kept : OnErr result (Keeps (store old) (store new))
    pub whole : Whole new
    pub held : SameKeys old.rings new.rings

  -- the arc that is being made, if there is one, ends here
  abbrev pub IsOpen : Tables A → ℕ → Option ℕ → ℕ → Type 0
  IsOpen t r None a = Unit {0}
  IsOpen t r (Some n) a = OpenAt (store t) r n a
