-- The names of the rings of all features.
use Rattle.kit_words.proofs.Common.{◌≡◌, ℕ, ◌+◌, ◌<◌, ◌≤◌, sym, ap, ◌∙◌, List, [], length, inl, inr, arith, Option}
use Rattle.kit_words.proofs.Common.{Some, slice_get, slice_get_within}
use Rattle.map_frame.specs.Common.{RingName, number_among, Gain, SameNames, AllNamed, element}
use Rattle.map_frame.proofs.NamedForgotten.{element_is}
use Rattle.map_frame.proofs.NamedLists.{gain_step, gain_end, OfPolygon}

-- names that are gained after room was made
pub gain_after : (Is : RingName → ℕ → Type 0) (a b c : List (Option RingName)) → SameNames a b
    → Gain b c Is → Gain a c Is
gain_after Is a b c s g = record {
  right = λ r o e. elim (g.right r o e) [ inl m ↦ inl (s.from r o m) | inr m ↦ inr m ];
  kept = λ r o e. g.kept r o (s.to r o e);
  each = g.each;
}

module _ (f : ℕ) (polygons : List (List ℕ)) where
  abbrev pub OfFeature : RingName → ℕ → Type 0
  OfFeature o k = (o.feature ≡ f) × (element (slice_get polygons o.polygon) o.ring ≡ Some k)

  module _ (n : ℕ) (a b : List (Option RingName)) (g : Gain a b (λ o k. OfFeature o k × (o.polygon < n))) where
    pub polygon_named : (c : List (Option RingName)) (rings : List ℕ) → slice_get polygons n ≡ Some rings
        → Gain b c (OfPolygon f n rings) → Gain a c (λ o k. OfFeature o k × (o.polygon < n + 1))
    polygon_named c rings here h =
        gain_step (λ o. o.polygon) OfFeature (OfPolygon f n rings) n
        (λ o k q. (
          q.1,
          (q.0, ap (λ z. element (slice_get polygons z) o.ring) q.1 ∙ ap (λ z. element z o.ring) here ∙ q.2),
        ))
        (λ o k i e. (
          i.0,
          e,
          sym (ap (λ z. element z o.ring) here) ∙ sym (ap (λ z. element (slice_get polygons z) o.ring) e) ∙ i.1,
        ))
        a b c g h

    pub polygons_named : length polygons ≤ n → Gain a b OfFeature
    polygons_named l =
        gain_end (λ o. o.polygon) OfFeature n
        (λ o k i.
        let e = element_is (slice_get polygons o.polygon) o.ring k i.1 in
        let w = slice_get_within polygons o.polygon e.0 e.1 in
        omega (arith, w, l))
        a b g

module _ (all : List (List (List ℕ))) where
  abbrev pub OfAll : RingName → ℕ → Type 0
  OfAll o k = number_among all o ≡ Some k

  module _ (n : ℕ) (a b : List (Option RingName)) (g : Gain a b (λ o k. OfAll o k × (o.feature < n))) where
    pub feature_named : (c : List (Option RingName)) (polygons : List (List ℕ)) → slice_get all n ≡ Some polygons
        → Gain b c (OfFeature n polygons) → Gain a c (λ o k. OfAll o k × (o.feature < n + 1))
    feature_named c polygons here h =
        gain_step (λ o. o.feature) OfAll (OfFeature n polygons) n
        (λ o k q. (
          q.0,
          ap (λ z. element (element (slice_get all z) o.polygon) o.ring) q.0
              ∙ ap (λ z. element (element z o.polygon) o.ring) here ∙ q.1,
        ))
        (λ o k i e. (
          e,
          sym (ap (λ z. element (element z o.polygon) o.ring) here)
              ∙ sym (ap (λ z. element (element (slice_get all z) o.polygon) o.ring) e) ∙ i,
        ))
        a b c g h

  -- the table that was filled from nothing
  pub all_named : (n : ℕ) (names : List (Option RingName)) → length all ≤ n
      → Gain [] names (λ o k. OfAll o k × (o.feature < n)) → AllNamed names all
  all_named n names l g =
      let h = gain_end (λ o. o.feature) OfAll n
      (λ o k i.
      let e = element_is (element (slice_get all o.feature) o.polygon) o.ring k i in
      let d = element_is (slice_get all o.feature) o.polygon e.0 e.1 in
      let w = slice_get_within all o.feature d.0 d.1 in
      omega (arith, w, l))
      [] names g in
      record {
        each = λ r o i. h.each r o i;
        right = λ r o e. elim (h.right r o e) [ inl old ↦ absurd cc | inr i ↦ i ];
      }
