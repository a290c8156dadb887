-- Keys of the positions of a ring, and that they differ as the positions do.
use Rattle.kit_words.proofs.Common.{◌≡◌, ℕ, zero, suc, true, false, refl, sym, ap, ap₂, ◌∙◌, subst, List, [], ◌∷◌, map}
use Rattle.kit_words.proofs.Common.{take, length, ◌||◌, ◌&&◌, inl, arith, not, length-map, and_parts, or_parts}
use Rattle.kit_words.proofs.Common.{not-true}
use Rattle.grid_geometry.specs.Common.{Position, position_eq}
use Rattle.ring_machine.specs.Common.{has, is_distinct, is_ring, are_distinct}
use Rattle.ring_machine.proofs.Common.{ring_long}
use Rattle.vertex_index.specs.Common.{Placement, place}
use Rattle.ring_store.specs.Common.{ArePut, IsRound}
use Rattle.ring_store.proofs.Places.{keys_distinct}
use Rattle.ring_store.proofs.KeyedLists.{AreRead, singles}

-- ---- different positions

absent_take : (p : Position) (i : ℕ) (ps : List Position) → has ps p ≡ false → has (take i ps) p ≡ false
absent_take p zero ps h = refl
absent_take p (suc i) [] h = refl
absent_take p (suc i) (q ∷ ps) h =
    let h' = or_parts (position_eq p q) (has ps p) h in
    ap₂ (λ a b. a || b) h'.0 (absent_take p i ps h'.1)

distinct_take : (i : ℕ) (ps : List Position) → is_distinct ps ≡ true → is_distinct (take i ps) ≡ true
distinct_take zero ps h = refl
distinct_take (suc i) [] h = refl
distinct_take (suc i) (p ∷ ps) h =
    let h' = and_parts (not (has ps p)) (is_distinct ps) h in
    ap₂ (λ a b. not a && b) (absent_take p i ps (not-true _ h'.0)) (distinct_take i ps h'.1)

-- ---- the loop over a ring's positions

abbrev pub IsRead : Placement → Placement → List ℕ → List Position → Type 0
IsRead p q ks ps = AreRead place (λ k. k ∷ []) p q ks ps

pub read_none : (p : Placement) (ks : List ℕ) (ps : List Position) → ks ≡ [] → IsRead p p ks (take 0 ps)
read_none p ks ps e = subst (λ z. IsRead p p z (take 0 ps)) (sym e) (record {
  read = refl;
  put = record { kept = λ k q h. h; placed = λ k c. absurd (omega (arith, c.1)); passed = λ k c. inl c };
})

pub read_put : (p q : Placement) (ks : List ℕ) (ps : List Position) → IsRead p q ks ps → ArePut p q ks
read_put p q ks ps h = subst (ArePut p q) (singles ks) h.put

pub read_different : (p q : Placement) (ks : List ℕ) (i : ℕ) (ps : List Position) → IsRead p q ks (take i ps)
    → is_distinct ps ≡ true → are_distinct ks ≡ true
read_different p q ks i ps h d = keys_distinct (place q) ks (ap is_distinct h.read ∙ distinct_take i ps d)

-- a ring can be laid along its keys
pub keys_round : (p q : Placement) (ks : List ℕ) (ps : List Position) → ArePut p q ks → are_distinct ks ≡ true
    → map (place q) ks ≡ ps → is_ring ps ≡ true → IsRound q ks
keys_round p q ks ps put d at r = record {
  long = omega (arith, ring_long ps r, length-map ks (place q), ap length at);
  different = d;
  placed = put.placed;
}
