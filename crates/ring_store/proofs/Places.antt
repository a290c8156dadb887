-- Positions under keys: those that are kept, and what stays where one comes in or goes.
use Rattle.kit_words.proofs.Common.{◌≡◌, ◌≢◌, ℕ, Bool, true, false, refl, sym, ap, ap₂, ◌∙◌, cond, List, [], ◌∷◌, map}
use Rattle.kit_words.proofs.Common.{◌||◌, ◌&&◌, inl, inr, Some, None, arith, ◌==◌, IsTrue, not, pos, unwrap_or, is_some}
use Rattle.kit_words.proofs.Common.{list_any, nat_cmp, eq_by_cmp, false≢true, Decides-eqb, nat_tests, nat_cmp_total}
use Rattle.kit_words.proofs.Common.{and_parts, or_parts, not-true}
use Rattle.std.specs.FinMap as table
use Rattle.grid_geometry.specs.Common.{Position, position, position_eq}
use Rattle.ring_machine.specs.Common.{has, is_distinct, are_distinct}
use Rattle.ring_machine.proofs.Common.{In, position_eq-refl, position_eq-true, there}
use Rattle.vertex_index.specs.Common.{Placement, AreDistinct, place}
use Rattle.ring_store.proofs.KeyRings.{has_key}

-- keys with the same answer have the same position
pub place_alike : (places places' : Placement) (x y : ℕ)
    → table.get places' x ≡ table.get places y → place places' x ≡ place places y
place_alike places places' x y e = ap (λ o. unwrap_or o (position (pos 0) (pos 0))) e

-- ---- vertices that are kept

-- a vertex with this key is kept
abbrev pub IsKept : Placement → ℕ → Type 0
IsKept places k = IsTrue (table.contains_key places k)

pub place_is : (places : Placement) (k : ℕ) (p : Position) → table.get places k ≡ Some p
    → place places k ≡ p
place_is places k p e = ap (λ o. unwrap_or o (position (pos 0) (pos 0))) e

pub kept_place : (places : Placement) (k : ℕ) → IsKept places k
    → table.get places k ≡ Some (place places k)
kept_place places k h =
    let o = there (table.get places k) h in
    o.1 ∙ ap Some (sym (place_is places k o.0 o.1))

pub place_kept : (places : Placement) (k : ℕ) (p : Position) → table.get places k ≡ Some p
    → IsKept places k
place_kept places k p e = ap is_some e

-- two keys of one position are one key
pub one_key : (places : Placement) → AreDistinct places → (j k : ℕ) → IsKept places j
    → IsKept places k → place places j ≡ place places k → j ≡ k
one_key places d j k h i e =
    d j k (place places k) (kept_place places j h ∙ ap Some e) (kept_place places k i)

-- positions of different keys are different
pub distinct_places : (places : Placement) → AreDistinct places → (ks : List ℕ)
    → ((k : ℕ) → In k ks → IsKept places k) → are_distinct ks ≡ true
    → is_distinct (map (place places) ks) ≡ true
distinct_places places d [] kept h = refl
distinct_places places d (k ∷ ks) kept h =
    let h' = and_parts (not (has_key k ks)) (are_distinct ks) h in
    ap₂ (λ a b. not a && b) (absent ks (λ j i. kept j (inr i)) (not-true _ h'.0)) (distinct_places places d ks (λ j i. kept j (inr i)) h'.1)
  where
    absent : (js : List ℕ) → ((j : ℕ) → In j js → IsKept places j) → has_key k js ≡ false
        → has (map (place places) js) (place places k) ≡ false
    absent [] kept' n = refl
    absent (j ∷ js) kept' n =
        let n' = or_parts (j == k) (has_key k js) n in
        ap₂ (λ a b. a || b) (apart (position_eq (place places k) (place places j)) refl n'.0) (absent js (λ i m. kept' i (inr m)) n'.1)
      where
        apart : (t : Bool) → position_eq (place places k) (place places j) ≡ t → (j == k) ≡ false
            → position_eq (place places k) (place places j) ≡ false
        apart false e m = e
        apart true e m = absurd (false≢true (sym m ∙ (Decides-eqb j k).1 (one_key places d j k (kept' j (inl refl)) (kept k (inl refl)) (sym (position_eq-true (place places k) (place places j) e)))))

-- different positions have different keys
pub keys_distinct : (at : ℕ → Position) (ks : List ℕ) → is_distinct (map at ks) ≡ true
    → are_distinct ks ≡ true
keys_distinct at [] d = refl
keys_distinct at (k ∷ ks) d =
    let d' = and_parts (not (has (map at ks) (at k))) (is_distinct (map at ks)) d in
    ap₂ (λ a b. not a && b) (absent ks (not-true _ d'.0)) (keys_distinct at ks d'.1)
  where
    absent : (js : List ℕ) → has (map at js) (at k) ≡ false → list_any (λ m. m == k) js ≡ false
    absent [] n = refl
    absent (j ∷ js) n =
        let n' = or_parts (position_eq (at k) (at j)) (has (map at js) (at k)) n in
        ap₂ (λ a b. a || b) (apart (j == k) refl n'.0) (absent js n'.1)
      where
        apart : (t : Bool) → (j == k) ≡ t → position_eq (at k) (at j) ≡ false → (j == k) ≡ false
        apart false e m = e
        apart true e m =
            let same : j ≡ k = (Decides-eqb j k).0 e in
            absurd (false≢true (sym m ∙ ap (λ i. position_eq (at k) (at i)) same ∙ position_eq-refl (at k)))

-- ---- a position that comes in

pub insert_other : (places : Placement) (n : ℕ) (q : Position) (x : ℕ) → x ≢ n
    → table.get (table.insert places n q) x ≡ table.get places x
insert_other places n q x f =
    let e : eq_by_cmp nat_cmp x n ≡ false = grind (arith, nat_tests) in
    table.get-insert nat_cmp_total places n q x ∙ ap (λ b. cond b (Some q) (table.get places x)) e

-- ---- a position that goes

pub remove_here : (places : Placement) (n : ℕ) → table.get (table.remove places n) n ≡ None
remove_here places n =
    let e : eq_by_cmp nat_cmp n n ≡ true = grind (arith, nat_tests) in
    table.get-remove nat_cmp_total places n n ∙ ap (λ b. cond b None (table.get places n)) e

pub remove_other : (places : Placement) (n x : ℕ) → x ≢ n
    → table.get (table.remove places n) x ≡ table.get places x
remove_other places n x f =
    let e : eq_by_cmp nat_cmp x n ≡ false = grind (arith, nat_tests) in
    table.get-remove nat_cmp_total places n x ∙ ap (λ b. cond b None (table.get places x)) e
