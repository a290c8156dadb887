-- A ring gone round from its least position on, key by key.
use Rattle.kit_words.proofs.Common.{◌≡◌, ℕ, zero, suc, ◌+◌, ◌-◌, ◌<◌, ◌≤◌, Bool, true, false, cond, refl, sym, ap, pos}
use Rattle.kit_words.proofs.Common.{ap₂, ◌∙◌, subst, Option, None, Some, List, [], ◌∷◌, ◌++◌, length, map, take, drop}
use Rattle.kit_words.proofs.Common.{arith, ◌⊎◌, inl, inr, Contains, unwrap_or, ◌&&◌, Some-then, list_all, int_cmp}
use Rattle.kit_words.proofs.Common.{is_lt, is_some_and, partial_ordering_then, drop-append_seam, take-append-add}
use Rattle.kit_words.proofs.Common.{take-append_seam, false≢true, drop-drop, drop-map, length-append, length-map}
use Rattle.kit_words.proofs.Common.{map-append, fold-append, and_parts}
use Rattle.std.specs.FinMap as table
use Rattle.std.specs.Iterator.{YieldsFirst}
use Rattle.grid_geometry.specs.Common.{Position, position, position_lt}
use Rattle.ring_machine.specs.Common.{before, from, least, canonical}
use Rattle.ring_machine.proofs.Common.{Below, position_eq-refl, position_lt-apart, position_lt-total, position_lt-trans}
use Rattle.vertex_index.specs.Common.{Placement, place}
use Rattle.feature_exchange.specs.Common.{positions_left, IsAround}

-- ---- elements of lists

module _ {X : Type 0} where
  pub among_cons : (x : X) (xs : List X) (j : X) → Contains xs j → Contains (x ∷ xs) j
  among_cons x xs j h = (suc h.0, omega (arith, h.1), h.2)

  among_drop : (n : ℕ) (xs : List X) (j : X) → Contains (drop n xs) j → Contains xs j
  among_drop zero xs j h = h
  among_drop (suc n) [] j h = h
  among_drop (suc n) (x ∷ xs) j h = among_cons x xs j (among_drop n xs j h)

-- keys passed one by one
pub passed : (all keys new : List ℕ) (i : ℕ) (r : Option ℕ) → YieldsFirst (λ rest. rest) keys r new
    → keys ≡ drop i all → new ≡ drop (i + 1) all
passed all keys new i None h e = h.1 ∙ sym (ap (drop 1) h.0) ∙ ap (drop 1) e ∙ drop-drop 1 i all
passed all keys new i (Some k) h e = sym (ap (drop 1) h) ∙ ap (drop 1) e ∙ drop-drop 1 i all

-- ---- the place of the least position

-- what the code's test answers
pub tested_lt : (p q : Position) (b answer : Bool)
    → b ≡ is_some_and is_lt (partial_ordering_then (Some (int_cmp p.x q.x)) (Some (int_cmp p.y q.y)))
    → b ≡ answer → position_lt p q ≡ answer
tested_lt p q b answer e h =
    sym (ap (is_some_and is_lt) (Some-then (int_cmp p.x q.x) (int_cmp p.y q.y))) ∙ sym e ∙ h

not_over : (r p q : Position) → position_lt r p ≡ true → position_lt q p ≡ false
    → position_lt r q ≡ true
not_over r p q h e = by (position_lt r q) (position_lt q r) refl refl
  where
    by : (a b : Bool) → position_lt r q ≡ a → position_lt q r ≡ b → position_lt r q ≡ true
    by true b f g = f
    by false true f g = absurd (false≢true (sym e ∙ position_lt-trans q r p g h))
    by false false f g = absurd (false≢true (sym e ∙ ap (λ z. position_lt z p) (sym (position_lt-total r q f g)) ∙ h))

-- what is less than the least position is less than each
below_least : (r p : Position) (ps : List Position) → position_lt r (least p ps) ≡ true
    → Below r (p ∷ ps)
below_least r p [] h = ap (λ b. b && true) h
below_least r p (q ∷ ps) h = by (position_lt q p) refl h (below_least r q ps) (below_least r p ps)
  where
    three : position_lt r p ≡ true → position_lt r q ≡ true → Below r ps → Below r (p ∷ q ∷ ps)
    three a b c = ap₂ (λ x y. x && y) a (ap₂ (λ x y. x && y) b c)

    by : (b : Bool) → position_lt q p ≡ b → position_lt r (least (cond b q p) ps) ≡ true
        → (position_lt r (least q ps) ≡ true → Below r (q ∷ ps))
        → (position_lt r (least p ps) ≡ true → Below r (p ∷ ps))
        → Below r (p ∷ q ∷ ps)
    by true e h one two =
        let both = and_parts (position_lt r q) (list_all (position_lt r) ps) (one h) in
        three (position_lt-trans r q p both.0 e) both.0 both.1
    by false e h one two =
        let both = and_parts (position_lt r p) (list_all (position_lt r) ps) (two h) in
        three both.0 (not_over r p q both.0 e) both.1

least_more : (p : Position) (ps : List Position) (r : Position)
    → least p (ps ++ r ∷ []) ≡ cond (position_lt r (least p ps)) r (least p ps)
least_more p ps r = fold-append (λ q s. cond (position_lt s q) s q) p ps (r ∷ [])

before_end : (r : Position) (qs : List Position) → Below r qs → before r (qs ++ r ∷ []) ≡ qs
before_end r [] h = rw (position_eq-refl r)
before_end r (q ∷ qs) h =
    let both = and_parts (position_lt r q) (list_all (position_lt r) qs) h in
    rw (position_lt-apart r q both.0) (ap (λ z. q ∷ z) (before_end r qs both.1))

before_more : (m : Position) (qs rs : List Position) → length (before m qs) < length qs
    → before m (qs ++ rs) ≡ before m qs
before_more m [] rs l = absurd (omega arith)
before_more m (q ∷ qs) rs l = grind (arith, before_more m qs rs)

-- a position that is less than each before it
lower_one : (p : Position) (ps : List Position) (r : Position) → position_lt r (least p ps) ≡ true
    → (least p (ps ++ r ∷ []) ≡ r) × (length (before r (p ∷ ps ++ r ∷ [])) ≡ 1 + length ps)
lower_one p ps r h =
    (least_more p ps r ∙ ap (λ b. cond b r (least p ps)) h, ap length (before_end r (p ∷ ps) (below_least r p ps h)) ∙ omega arith)

-- one that is not
no_lower_one : (p : Position) (ps : List Position) (r : Position)
    → position_lt r (least p ps) ≡ false
    → length (before (least p ps) (p ∷ ps)) < 1 + length ps
    → (least p (ps ++ r ∷ []) ≡ least p ps)
    × (length (before (least p ps) (p ∷ ps ++ r ∷ [])) ≡ length (before (least p ps) (p ∷ ps)))
no_lower_one p ps r h l =
    (least_more p ps r ∙ ap (λ b. cond b r (least p ps)) h, ap length (before_more (least p ps) (p ∷ ps) (r ∷ []) (omega (arith, l))))

-- ---- from there on, and from the first one on

pub before_from : (m : Position) (qs : List Position) → before m qs ++ from m qs ≡ qs
before_from m [] = refl
before_from m (q ∷ qs) = grind (arith, before_from m qs)

turned : {X : Type 0} (us vs : List X) (n k : ℕ) → n ≡ length us → k ≡ length vs + length us
    → take k (drop n (us ++ vs) ++ (us ++ vs)) ≡ vs ++ us
turned us vs n k e h =
    ap₂ (λ i j. take i (drop j (us ++ vs) ++ (us ++ vs))) h e
    ∙ ap (λ z. take (length vs + length us) (z ++ (us ++ vs))) (drop-append_seam us vs)
    ∙ take-append-add vs (us ++ vs) (length us)
    ∙ ap (λ z. vs ++ z) (take-append_seam us vs)

canonical_turned : (p : Position) (ps : List Position) (n k : ℕ)
    → n ≡ length (before (least p ps) (p ∷ ps)) → k ≡ 1 + length ps
    → take k (drop n (p ∷ ps) ++ (p ∷ ps)) ≡ canonical (p ∷ ps)
canonical_turned p ps n k e h =
    let m = least p ps in
    let us = before m (p ∷ ps) in
    let vs = from m (p ∷ ps) in
    ap (λ z. take k (drop n z ++ z)) (sym (before_from m (p ∷ ps)))
    ∙ turned us vs n k e (omega (arith, h, length-append us vs, ap length (before_from m (p ∷ ps))))

-- ---- keys

module _ (places : Placement) where
  pub at_place : (k : ℕ) (p : Position) → table.get places k ≡ Some p → p ≡ place places k
  at_place k p e = sym (ap (λ o. unwrap_or o (position (pos 0) (pos 0))) e)

  map_last : (ys : List ℕ) (k : ℕ) (p : Position) → table.get places k ≡ Some p
      → map (place places) (ys ++ k ∷ []) ≡ map (place places) ys ++ p ∷ []
  map_last ys k p there =
      map-append (place places) ys (k ∷ []) ∙ ap (λ z. map (place places) ys ++ z ∷ []) (sym (at_place k p there))

  -- the least position, and its first place
  pub record IsLowest (first : Position) (ys : List ℕ) (lowest : Position) (at : ℕ) : Type 0 where
    pub least_is : lowest ≡ least first (map (place places) ys)
    pub place_is : at ≡ length (before lowest (first ∷ map (place places) ys))

  -- the next key's position is less than all before
  pub lower_key : (first : Position) (ys : List ℕ) (k : ℕ) (p lowest : Position) (at count : ℕ)
      → table.get places k ≡ Some p → IsLowest first ys lowest at → count ≡ 1 + length ys
      → position_lt p lowest ≡ true → (low : Position) → low ≡ p → (new : ℕ) → new ≡ count
      → IsLowest first (ys ++ k ∷ []) low new
  lower_key first ys k p lowest at count there h e l low i new j =
      let ps = map (place places) ys in
      let qs = map_last ys k p there in
      let both = lower_one first ps p (ap (position_lt p) (sym h.least_is) ∙ l) in
      record {
        least_is = i ∙ sym both.0 ∙ ap (least first) (sym qs);
        place_is = j ∙ e ∙ ap (λ z. 1 + z) (sym (length-map ys (place places))) ∙ sym both.1 ∙ ap₂ (λ z zs. length (before z (first ∷ zs))) (sym i) (sym qs);
      }

  -- the next key's position is not less
  pub no_lower_key : (first : Position) (ys : List ℕ) (k : ℕ) (p lowest : Position) (at count : ℕ)
      → table.get places k ≡ Some p → IsLowest first ys lowest at → count ≡ 1 + length ys
      → at < count
      → position_lt p lowest ≡ false → (low : Position) → low ≡ lowest → (new : ℕ) → new ≡ at
      → IsLowest first (ys ++ k ∷ []) low new
  no_lower_key first ys k p lowest at count there h e b l low i new j =
      let ps = map (place places) ys in
      let qs = map_last ys k p there in
      let same = ap (λ z. length (before z (first ∷ ps))) h.least_is in
      let both = no_lower_one first ps p (ap (position_lt p) (sym h.least_is) ∙ l) (omega (arith, b, e, h.place_is, same, length-map ys (place places))) in
      record {
        least_is = i ∙ h.least_is ∙ sym both.0 ∙ ap (least first) (sym qs);
        place_is = j ∙ h.place_is ∙ same ∙ sym both.1 ∙ ap₂ (λ z zs. length (before z (first ∷ zs))) (sym (i ∙ h.least_is)) (sym qs);
      }

  -- the least position's place, and as many positions as there are keys
  pub begun_left : (all : List ℕ) (k : ℕ) (ks : List ℕ) (p : Position) (n left : ℕ) → all ≡ k ∷ ks
      → table.get places k ≡ Some p
      → n ≡ length (before (least p (map (place places) ks)) (p ∷ map (place places) ks))
      → left ≡ 1 + length ks
      → positions_left places all (drop n all) left ≡ canonical (map (place places) all)
  begun_left all k ks p n left e there h i =
      ap (take left) (map-append (place places) (drop n all) all)
      ∙ ap (λ z. take left (z ++ map (place places) all)) (sym (drop-map (place places) n all))
      ∙ ap (λ (ps : List Position). take left (drop n ps ++ ps)) whole
      ∙ canonical_turned p (map (place places) ks) n left h (omega (arith, i, length-map ks (place places)))
      ∙ ap canonical (sym whole)
    where
      whole : map (place places) all ≡ p ∷ map (place places) ks
      whole = ap (map (place places)) e ∙ ap (λ z. z ∷ map (place places) ks) (sym (at_place k p there))

  pub begun_around : (all : List ℕ) (n left : ℕ) → left ≤ length all
      → ((k : ℕ) → Contains all k → table.contains_key places k ≡ true)
      → IsAround places all (drop n all) left
  begun_around all n left l placed = record {
    enough = omega (arith, l);
    all_placed = placed;
    rest_placed = λ j h. placed j (among_drop n all j h);
  }

  module _ (all rest : List ℕ) (k : ℕ) (on : List ℕ) (left : ℕ) where
    -- the next key is k, and those of on follow
    abbrev pub Goes : Type 0
    Goes = (rest ≡ k ∷ on) ⊎ ((rest ≡ []) × (all ≡ k ∷ on))

    pub next_around : IsAround places all rest left → Goes → IsAround places all on (left - 1)
    next_around h (inl e) = record {
      enough = omega (arith, h.enough, ap length e);
      all_placed = h.all_placed;
      rest_placed = λ j i. h.rest_placed j (subst (λ z. Contains z j) (sym e) (among_cons k on j i));
    }
    next_around h (inr e) = record {
      enough = omega (arith, h.enough, ap length e.0, ap length e.1);
      all_placed = h.all_placed;
      rest_placed = λ j i. h.all_placed j (subst (λ z. Contains z j) (sym e.1) (among_cons k on j i));
    }
