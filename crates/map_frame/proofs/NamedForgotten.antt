-- Names that are taken out, polygon by polygon.
use Rattle.kit_words.proofs.Common.{◌≡◌, ℕ, ◌+◌, ◌<◌, ◌≤◌, refl, sym, ap, ◌∙◌, List, length, arith, Option, Some, None}
use Rattle.kit_words.proofs.Common.{slice_get, slice_get_within, ℕ_discrete}
use Rattle.map_frame.specs.Common.{RingName, Loss, IsNumberOf, element}

-- a list that is there
pub element_is : {X : Type 0} (o : Option (List X)) (n : ℕ) (x : X) → element o n ≡ Some x
    → (xs : List X) × (o ≡ Some xs) × (slice_get xs n ≡ Some x)
element_is None n x e = absurd cc
element_is (Some xs) n x e = (xs, refl, e)

module _ (polygons : List (List ℕ)) where
  abbrev pub Forgotten : ℕ → ℕ → Type 0
  Forgotten n k = (p i : ℕ) × (element (slice_get polygons p) i ≡ Some k) × (p < n)

  pub polygon_forgotten : (n : ℕ) (a b c : List (Option RingName)) (rings : List ℕ)
      → slice_get polygons n ≡ Some rings → Loss a b (Forgotten n) → Loss b c (IsNumberOf rings) → Loss a c (Forgotten (n + 1))
  polygon_forgotten n a b c rings here g h = record {
    right = λ r o e. let m = h.right r o e in let k = g.right r o m.0 in
        (k.0, λ i. split r i.0 i.1 (ℕ_discrete i.0 n) i.2 i.3 m.1 k.1);
    kept = λ r o e not. h.kept r o
        (g.kept r o e (λ p. not (p.0, p.1, p.2, let l : p.0 < n = p.3 in omega (arith, l))))
        (λ q. not (n, q.0, ap (λ z. element z q.0) here ∙ q.1, omega arith));
  }
    where
      split : (r p i : ℕ) → Dec (p ≡ n) → element (slice_get polygons p) i ≡ Some r → p < n + 1
          → (IsNumberOf rings r → ⊥) → (Forgotten n r → ⊥) → ⊥
      split r p i (yes e) at l here' before =
          here' (i, sym (ap (λ z. element z i) (ap (slice_get polygons) e ∙ here)) ∙ at)
      split r p i (no f) at l here' before = before (p, i, at, let m : p < n + 1 = l in grind (arith))

  pub polygons_forgotten : (n : ℕ) (a b : List (Option RingName)) → length polygons ≤ n → Loss a b (Forgotten n)
      → Loss a b (λ k. (p i : ℕ) × (element (slice_get polygons p) i ≡ Some k))
  polygons_forgotten n a b l g = record {
    right = λ r o e. let m = g.right r o e in (m.0, λ i. m.1 (i.0, i.1, i.2, within i.0 i.1 r i.2));
    kept = λ r o e not. g.kept r o e (λ i. not (i.0, i.1, i.2));
  }
    where
      within : (p i r : ℕ) → element (slice_get polygons p) i ≡ Some r → p < n
      within p i r e = let x = element_is (slice_get polygons p) i r e in
          let w = slice_get_within polygons p x.0 x.1 in omega (arith, w, l)
