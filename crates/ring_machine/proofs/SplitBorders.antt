-- The rings of a document that is split.
use Rattle.kit_words.proofs.Common.{◌≡◌, ℕ, Bool, true, false, refl, sym, ap, ◌∙◌, subst, List, [], ◌∷◌, ◌++◌, ◌||◌}
use Rattle.kit_words.proofs.Common.{◌⊎◌, inl, inr, not, list_any, or_cases, or_right}
use Rattle.grid_geometry.specs.Common.{Position}
use Rattle.ring_machine.specs.Common.{canonical, Document, Feature, Text, features, rings_of, rings, Path, cut, stays}
use Rattle.ring_machine.specs.Common.{first_part, second_part, first_polygon, second_polygon, goes_first}
use Rattle.ring_machine.proofs.First.{In, in-append, in_left, in_right, filter-in}
use Rattle.ring_machine.proofs.Members.{in_flat, any_in, in_any, same_answer}
use Rattle.ring_machine.proofs.Neighbours.{in-flat_map}
use Rattle.ring_machine.proofs.SplitFeatures.{new_feature, SplitFeature}
use Rattle.ring_machine.proofs.SplitDocuments.{SplitDocument, new_one}
use Rattle.ring_machine.proofs.SplitProper.{target_there, rings_after}

-- ---- rings of the two features

module _ (path : Path) (number : ℕ) (id : Text) (f : Feature) (s : SplitFeature path number id f) where
  abbrev polygon : List (List Position)
  polygon = s.outer ∷ s.holes

  abbrev new : Feature
  new = new_feature path number id f polygon

  of_stays : (p : List (List Position)) (r : List Position)
      → In p (s.before ++ first_polygon path polygon ∷ s.after) → In r p
      → In r (rings_of (stays path f))
  of_stays p r i j = in-flat_map (λ polygon. polygon) p r (stays path f).polygons (subst (In p) (sym s.kept) i) j

  first_one : In (first_polygon path polygon) (s.before ++ first_polygon path polygon ∷ s.after)
  first_one = in_right (first_polygon path polygon) s.before (first_polygon path polygon ∷ s.after) (inl refl)

  first_stays : In (canonical (first_part s.outer path)) (rings_of (stays path f))
  first_stays = of_stays (first_polygon path polygon) _ first_one (inl refl)

  second_goes : In (canonical (second_part s.outer path)) (rings_of new)
  second_goes = in_left _ (second_polygon path polygon) [] (inl refl)

  -- each hole goes with one of the parts
  hole_kept : (h : List Position) → In h s.holes
      → In h (rings_of (stays path f)) ⊎ In h (rings_of new)
  hole_kept h i = by (goes_first (first_part s.outer path) h) refl
    where
      by : (b : Bool) → goes_first (first_part s.outer path) h ≡ b
          → In h (rings_of (stays path f)) ⊎ In h (rings_of new)
      by true e = inl (of_stays (first_polygon path polygon) h first_one (inr (filter-in (goes_first (first_part s.outer path)) h s.holes i e)))
      by false e = inr (in_left h (second_polygon path polygon) [] (inr (filter-in (λ h. not (goes_first (first_part s.outer path) h)) h s.holes i (ap not e))))

  -- a ring of the feature is one of the two features, but for the one that is cut
  rings_kept : (r : List Position) → In r (rings_of f)
      → (In r (rings_of (stays path f)) ⊎ In r (rings_of new)) ⊎ (s.outer ≡ r)
  rings_kept r h =
      let k = in_flat (λ polygon. polygon) r f.polygons h in
      elim (in-append k.0 s.before (polygon ∷ s.after) (subst (In k.0) s.is k.1)) [
        | inl i ↦ inl (inl (of_stays k.0 r (in_left k.0 s.before (first_polygon path polygon ∷ s.after) i) k.2))
        | inr i ↦ elim i [
          | inl e ↦ elim (subst (In r) (sym e) k.2) [
            | inl same ↦ inr same
            | inr j ↦ inl (hole_kept r j)
          ]
          | inr j ↦ inl (inl (of_stays k.0 r (in_right k.0 s.before (first_polygon path polygon ∷ s.after) (inr j)) k.2))
        ]
      ]

-- ---- rings of the document

module _ (d : Document) (next n : ℕ) (id : Text) (path : Path) (s : SplitDocument d next n id path) where
  abbrev ring : List Position
  ring = s.split.outer

  abbrev added : Feature
  added = new_one d next n id path s

  of_result : (f : Feature) (r : List Position)
      → In f (s.before ++ stays path s.old ∷ added ∷ s.after) → In r (rings_of f)
      → In r (rings (cut d n id path next))
  of_result f r i j = in-flat_map rings_of f r (features (cut d n id path next)) (subst (In f) (sym s.result) i) j

  of_old : (r : List Position) → In r (rings_of (stays path s.old)) → In r (rings (cut d n id path next))
  of_old r j = of_result (stays path s.old) r (in_right _ s.before (stays path s.old ∷ added ∷ s.after) (inl refl)) j

  of_new : (r : List Position) → In r (rings_of added) → In r (rings (cut d n id path next))
  of_new r j = of_result added r (in_right _ s.before (stays path s.old ∷ added ∷ s.after) (inr (inl refl))) j

  pub first_there : In (canonical (first_part ring path)) (rings (cut d n id path next))
  first_there = of_old _ (first_stays path next id s.old s.split)

  pub second_there : In (canonical (second_part ring path)) (rings (cut d n id path next))
  second_there = of_new _ (second_goes path next id s.old s.split)

  -- a ring from before is there after the cut, but for the one that is cut
  pub rings_before : (r : List Position) → In r (rings d)
      → In r (rings (cut d n id path next)) ⊎ (ring ≡ r)
  rings_before r h =
      let k = in_flat rings_of r (features d) h in
      elim (in-append k.0 s.before (s.old ∷ s.after) (subst (In k.0) s.is k.1)) [
        | inl i ↦ inl (of_result k.0 r (in_left k.0 s.before (stays path s.old ∷ added ∷ s.after) i) k.2)
        | inr i ↦ elim i [
          | inl e ↦ elim (rings_kept path next id s.old s.split r (subst (λ f. In r (rings_of f)) (sym e) k.2)) [
            | inl j ↦ elim j [ inl l ↦ inl (of_old r l) | inr l ↦ inl (of_new r l) ]
            | inr same ↦ inr same
          ]
          | inr j ↦ inl (of_result k.0 r (in_right k.0 s.before (stays path s.old ∷ added ∷ s.after) (inr (inr j))) k.2)
        ]
      ]

  -- a test that the two parts pass where the ring or the path does
  pub any_ring_after : (test : List Position → Bool) (along : Bool)
      → (test (canonical (first_part ring path)) || test (canonical (second_part ring path))) ≡ (test ring || along)
      → list_any test (rings (cut d n id path next)) ≡ (list_any test (rings d) || along)
  any_ring_after test along e = same_answer _ _ onward back
    where
      both : test ring ≡ true ⊎ along ≡ true → list_any test (rings (cut d n id path next)) ≡ true
      both h = elim (or_cases (test (canonical (first_part ring path))) (test (canonical (second_part ring path))) (e ∙ whole h)) [
        | inl t ↦ in_any test _ (rings (cut d n id path next)) first_there t
        | inr t ↦ in_any test _ (rings (cut d n id path next)) second_there t
      ]
        where
          whole : test ring ≡ true ⊎ along ≡ true → (test ring || along) ≡ true
          whole (inl t) = ap (λ z. z || along) t
          whole (inr t) = or_right (test ring) along t

      apart : (test (canonical (first_part ring path)) || test (canonical (second_part ring path))) ≡ true
          → (list_any test (rings d) || along) ≡ true
      apart h = elim (or_cases (test ring) along (sym e ∙ h)) [
        | inl t ↦ ap (λ z. z || along) (in_any test ring (rings d) (target_there d next n id path s) t)
        | inr t ↦ or_right (list_any test (rings d)) along t
      ]

      onward : list_any test (rings (cut d n id path next)) ≡ true
          → (list_any test (rings d) || along) ≡ true
      onward h =
          let k = any_in test (rings (cut d n id path next)) h in
          elim (rings_after d next n id path s k.0 k.1) [
            | inl i ↦ ap (λ z. z || along) (in_any test k.0 (rings d) i k.2)
            | inr i ↦ elim i [
              | inl same ↦ apart (ap (λ z. z || test (canonical (second_part ring path))) (ap test same ∙ k.2))
              | inr same ↦ apart (or_right (test (canonical (first_part ring path))) (test (canonical (second_part ring path))) (ap test same ∙ k.2))
            ]
          ]

      back : (list_any test (rings d) || along) ≡ true
          → list_any test (rings (cut d n id path next)) ≡ true
      back h = elim (or_cases (list_any test (rings d)) along h) [
        | inl t ↦ let k = any_in test (rings d) t in elim (rings_before k.0 k.1) [
          | inl i ↦ in_any test k.0 (rings (cut d n id path next)) i k.2
          | inr same ↦ both (inl (ap test same ∙ k.2))
        ]
        | inr t ↦ both (inr t)
      ]
