-- Vertices put back one after the other: what they are placed under, and what that gives.
use Rattle.kit_words.proofs.Common.{◌≡◌, ◌≢◌, ◌≤◌, ◌<◌, ◌+◌, ◌-◌, ℕ, zero, suc, true, false, cond, refl, sym, ap, ◌∙◌}
use Rattle.kit_words.proofs.Common.{subst, arith, List, [], ◌∷◌, ◌++◌, length, take, drop, get_or, Some, None, is_some}
use Rattle.kit_words.proofs.Common.{AllByRecursion, nat_cmp, eq_by_cmp, false≢true, nat_tests, drop_more, same_Some}
use Rattle.kit_words.proofs.Common.{none-some, ℕ_discrete}
use Rattle.std.specs.FinMap as table
use Rattle.grid_geometry.specs.Common.{Position}
use Rattle.vertex_index.specs.Common.{Placement, IsOccupied}
use Rattle.vertex_index.proofs.Common.{get-inserted}
use Rattle.arc_tables.specs.declared.batch.Put.{Put}
use Rattle.arc_tables.specs.Common.{ArePuts}
use Rattle.arc_tables.proofs.Common.{taken_last}
use Rattle.ring_store.proofs.Places.{insert_other}
use Rattle.ring_store.proofs.Pushed.{taken}
use Rattle.ring_store.specs.Common.{Removal, ArePlaceable, AreKeyed}
use Rattle.ring_store.proofs.TableLemmas.{place_back}

-- ---- different positions

-- the three positions differ
abbrev pub IsApart : Removal → Type 0
IsApart r = (r.a ≢ r.b) × (r.a ≢ r.at) × (r.b ≢ r.at)

-- no key from some number on holds a position
free_above : (es : List (ℕ × Position)) → (n : ℕ) × ((k : ℕ) → n ≤ k → table.find nat_cmp k es ≡ None)
free_above [] = (0, λ k h. refl)
free_above (e ∷ es) =
    let above = free_above es in
    (e.0 + above.0 + 1, λ k h. ap (λ b. cond b (Some e.1) (table.find nat_cmp k es)) (other e.0 k (omega (arith, h))) ∙ above.1 k (omega (arith, h)))
  where
    other : (n k : ℕ) → n < k → eq_by_cmp nat_cmp k n ≡ false
    other n k h = grind (arith, nat_tests)

free_key : (places : Placement) → (k : ℕ) × (table.get places k ≡ None)
free_key places =
    let above = free_above (table.entries places) in
    (above.0, table.get-entries places above.0 ∙ above.1 above.0 (omega arith))

all_apart : (places : Placement) (rs : List Removal) → ArePlaceable places rs → AllByRecursion IsApart rs
all_apart places [] h = tt
all_apart places (r ∷ rs) h =
    let k = free_key places in
    ((h.0, λ e. h.3 (subst (IsOccupied places) e h.1), λ e. h.3 (subst (IsOccupied places) e h.2)), all_apart (table.insert places k.0 r.at) rs (h.4 k.0 k.1))

each_at : (P : Removal → Type 0) (rs : List Removal) (i : ℕ) (d : Removal) → AllByRecursion P rs → i < length rs → P (get_or rs i d)
each_at P [] i d h l = absurd (omega arith)
each_at P (r ∷ rs) zero d h l = h.0
each_at P (r ∷ rs) (suc i) d h l = each_at P rs i d h.1 (omega arith)

pub apart_at : (rs : List Removal) → (places : Placement) × ArePlaceable places rs → (i : ℕ) (r : Removal) → i < length rs
    → r ≡ get_or rs i r → IsApart r
apart_at rs h i r l e = subst IsApart (sym e) (each_at IsApart rs i r (all_apart h.0 rs h.1) l)

-- ---- a position that comes in

still_kept : (places : Placement) (k : ℕ) (q : Position) (x : ℕ) → table.contains_key places x ≡ true
    → table.contains_key (table.insert places k q) x ≡ true
still_kept places k q x h = by (ℕ_discrete x k)
  where
    by : Dec (x ≡ k) → table.contains_key (table.insert places k q) x ≡ true
    by (yes e) = ap (λ y. is_some (table.get (table.insert places k q) y)) e ∙ ap is_some (get-inserted places k q)
    by (no f) = ap is_some (insert_other places k q x f) ∙ h

-- a key that holds nothing afterwards held nothing before
free_before : (places : Placement) (k : ℕ) (q : Position) (x : ℕ) → table.get (table.insert places k q) x ≡ None
    → table.get places x ≡ None
free_before places k q x h = by (ℕ_discrete x k)
  where
    by : Dec (x ≡ k) → table.get places x ≡ None
    by (yes e) = absurd (none-some q (sym h ∙ ap (table.get (table.insert places k q)) e ∙ get-inserted places k q))
    by (no f) = sym (insert_other places k q x f) ∙ h

-- a key that holds nothing is another than one that holds a position
other_key : (places : Placement) (j k : ℕ) → table.contains_key places j ≡ true → table.get places k ≡ None → k ≢ j
other_key places j k h e f = false≢true (sym (ap is_some e) ∙ ap (λ x. is_some (table.get places x)) f ∙ h)

-- ---- the puts of vertices

-- first some, and then others
pub keyed_more : (places mid places' : Placement) (rs ss : List Removal) (ps qs : List Put) → AreKeyed places rs ps mid
    → AreKeyed mid ss qs places' → AreKeyed places (rs ++ ss) (ps ++ qs) places'
keyed_more places mid places' [] ss [] qs h more = subst (λ z. AreKeyed z ss qs places') h more
keyed_more places mid places' [] ss (p ∷ ps) qs h more = absurd h
keyed_more places mid places' (r ∷ rs) ss [] qs h more = absurd h
keyed_more places mid places' (r ∷ rs) ss (p ∷ ps) qs h more =
    (h.0, h.1, h.2, keyed_more (table.insert places p.q r.at) mid places' rs ss ps qs h.3 more)

pub one_more_keyed : (places mid places' : Placement) (rs : List Removal) (i : ℕ) (r : Removal) (ps qs : List Put) (p : Put)
    → i < length rs → r ≡ get_or rs i r → AreKeyed places (take i rs) ps mid → AreKeyed mid (r ∷ []) (p ∷ []) places'
    → qs ≡ ps ++ p ∷ [] → AreKeyed places (take (i + 1) rs) qs places'
one_more_keyed places mid places' rs i r ps qs p l e so_far more pushed =
    subst (λ z. AreKeyed places z qs places') (sym (taken rs i r l e))
    (subst (λ z. AreKeyed places (take i rs ++ r ∷ []) z places') (sym pushed)
    (keyed_more places mid places' (take i rs) (r ∷ []) ps (p ∷ []) so_far more))

-- ---- what is left to place

-- the next one, and those after it wherever it is placed
pub record NextPlaceable (places : Placement) (r : Removal) (rest : List Removal) : Type 0 where
  pub first : IsOccupied places r.a
  pub second : IsOccupied places r.b
  pub after : (k : ℕ) → table.get places k ≡ None → ArePlaceable (table.insert places k r.at) rest

pub next_placeable : (places : Placement) (rs : List Removal) (i : ℕ) (r : Removal) → i < length rs → r ≡ get_or rs i r
    → ArePlaceable places (drop i rs) → NextPlaceable places r (drop (i + 1) rs)
next_placeable places rs i r l e h =
    let k = subst (ArePlaceable places) (drop_more rs i r l ∙ ap (λ x. x ∷ drop (i + 1) rs) (sym e)) h in
    record { first = k.1; second = k.2; after = k.4 }

pub placeable_after : (places places' : Placement) (r : Removal) (rest : List Removal) (p : Put) → NextPlaceable places r rest
    → AreKeyed places (r ∷ []) (p ∷ []) places' → ArePlaceable places' rest
placeable_after places places' r rest p n h = subst (λ z. ArePlaceable z rest) (sym h.3) (n.after p.q h.2)

-- ---- the last one goes again

-- these puts placed vertices
abbrev pub WerePlaced : Placement → List Put → Placement → Type 0
WerePlaced places ps places' = (rs : List Removal) × AreKeyed places rs ps places'

-- before the last of them
record BeforeLast (places : Placement) (ps : List Put) (p : Put) (places' : Placement) : Type 0 where
  before : Placement
  at : Position
  placed : WerePlaced places ps before
  new : table.get before p.q ≡ None
  last : places' ≡ table.insert before p.q at

before_last : (places : Placement) (rs : List Removal) (ps : List Put) (p : Put) (places' : Placement)
    → AreKeyed places rs (ps ++ p ∷ []) places' → BeforeLast places ps p places'
before_last places [] [] p places' h = absurd h
before_last places [] (o ∷ ps) p places' h = absurd h
before_last places (r ∷ []) [] p places' h = record { before = places; at = r.at; placed = ([], refl); new = h.2; last = h.3 }
before_last places (r ∷ s ∷ rs) [] p places' h = absurd h.3
before_last places (r ∷ rs) (o ∷ ps) p places' h =
    let b = before_last (table.insert places o.q r.at) rs ps p places' h.3 in
    record { before = b.before; at = b.at; placed = (r ∷ b.placed.0, (h.0, h.1, h.2, b.placed.1)); new = b.new; last = b.last }

module _ (places now : Placement) (ps : List Put) (n : ℕ) (p : Put) (some : 1 ≤ n) (within : n ≤ length ps) (is : p ≡ get_or ps (n - 1) p) (placed : WerePlaced places (take n ps) now) where
  its : BeforeLast places (take (n - 1) ps) p now
  its = before_last places placed.0 (take (n - 1) ps) p now (subst (λ z. AreKeyed places placed.0 z now) (taken_last ps n p some within is) placed.1)

  -- the key of the last put holds its vertex
  pub last_kept : table.contains_key now p.q ≡ true
  last_kept = ap (λ z. is_some (table.get z p.q)) its.last ∙ ap is_some (get-inserted its.before p.q its.at)

  -- without it those before it are left
  pub placed_but_last : (next : Placement) → next ≡ table.remove now p.q → WerePlaced places (take (n - 1) ps) next
  placed_but_last next e =
      subst (WerePlaced places (take (n - 1) ps)) (sym (e ∙ ap (λ z. table.remove z p.q) its.last ∙ place_back its.before p.q its.at its.new)) its.placed

pub none_placed : (places now : Placement) (ps : List Put) (n : ℕ) → n ≤ 0 → WerePlaced places (take n ps) now → now ≡ places
none_placed places now ps n none placed = by placed.0 (subst (λ m. AreKeyed places placed.0 (take m ps) now) (zero_of n none) placed.1)
  where
    zero_of : (m : ℕ) → m ≤ 0 → m ≡ 0
    zero_of m h = omega (arith, h)

    by : (rs : List Removal) → AreKeyed places rs [] now → now ≡ places
    by [] h = h
    by (r ∷ rs) h = absurd h

-- ---- what is put into the rings

-- no later key is one that held a position
keys_apart : (places : Placement) (rs : List Removal) (ps : List Put) (places' : Placement) (k : ℕ)
    → table.contains_key places k ≡ true → AreKeyed places rs ps places' → AllByRecursion (λ o. o.q ≢ k) ps
keys_apart places [] [] places' k there h = tt
keys_apart places [] (p ∷ ps) places' k there h = absurd h
keys_apart places (r ∷ rs) [] places' k there h = absurd h
keys_apart places (r ∷ rs) (p ∷ ps) places' k there h =
    (other_key places k p.q there h.2, keys_apart (table.insert places p.q r.at) rs ps places' k (still_kept places p.q r.at k there) h.3)

-- each comes between two others, under a key of its own that no ring has
pub puts_fit : (IsNew : ℕ → Type 0) (places : Placement) (rs : List Removal) (ps : List Put) (places' : Placement)
    → ((k : ℕ) → table.get places k ≡ None → IsNew k) → ArePlaceable places rs → AreKeyed places rs ps places' → ArePuts IsNew ps
puts_fit IsNew places [] [] places' new able h = tt
puts_fit IsNew places [] (p ∷ ps) places' new able h = absurd h
puts_fit IsNew places (r ∷ rs) [] places' new able h = absurd h
puts_fit IsNew places (r ∷ rs) (p ∷ ps) places' new able h = (
  (differ, λ e. other_key places p.a p.q (ap is_some h.0) h.2 (sym e), λ e. other_key places p.b p.q (ap is_some h.1) h.2 (sym e)),
  new p.q h.2,
  keys_apart (table.insert places p.q r.at) rs ps places' p.q (ap is_some (get-inserted places p.q r.at)) h.3,
  puts_fit IsNew (table.insert places p.q r.at) rs ps places' (λ k e. new k (free_before places p.q r.at k e)) (able.4 p.q h.2) h.3,
)
  where
    differ : p.a ≢ p.b
    differ e = able.0 (same_Some r.a r.b (sym h.0 ∙ ap (table.get places) e ∙ h.1))
