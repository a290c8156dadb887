-- What is found in a document without one of its features, and its rings.
use Rattle.kit_words.proofs.Common.{◌≡◌, ℕ, ◌+◌, false, refl, sym, ap, ◌∙◌, subst, List, [], ◌++◌, length, None, arith}
use Rattle.kit_words.proofs.Common.{◌==◌, not, find, flat_map, sum_by, flat_map-append, sum_by-append, false≢true}
use Rattle.ring_machine.specs.Common.{segments, is_ring, FeatureOf, Feature, DocumentOf, Document, features, feature}
use Rattle.ring_machine.specs.Common.{rings_of, rings, all_segments, size, Proper, first_pair, instead, take_out}
use Rattle.ring_machine.proofs.First.{In, in-filter}
use Rattle.std.proofs.lemmas.Bool.{eq-eqb}
use Rattle.ring_machine.proofs.LeftOut.{IsPart, part_filter, part_flat_map, part_all, part_apart}
use Rattle.ring_machine.proofs.Found.{Stands}
use Rattle.ring_machine.proofs.TakenOut.{features-take_out}
use Rattle.ring_machine.proofs.Swapped.{swapped_alone, find_other, without_swapped}
use Rattle.ring_machine.proofs.Instead.{rings_at, rings-instead_at}

module _ {R : Type 0} (d : DocumentOf R) (n : ℕ) where
  -- ---- what is found

  -- another number is found as before
  pub feature-take_out_other : (m : ℕ) → (n == m) ≡ false → feature (take_out d n) m ≡ feature d m
  feature-take_out_other m o =
      ap (find (λ k. k.number == m)) (features-take_out n d ∙ without_swapped n (features d))
      ∙ find_other n (λ f. []) m o (features d) (λ f i e. refl)

  -- ---- what is left

  -- a feature that is left was there, and has another number
  pub in-take_out : (f : FeatureOf R) → In f (features (take_out d n))
      → In f (features d) × (f.number ≡ n → ⊥)
  in-take_out f i =
      let k = in-filter (λ (j : FeatureOf R). not (j.number == n)) f (features d) (subst (In f) (features-take_out n d) i) in
      (k.0, λ e. false≢true (sym (ap not (eq-eqb f.number n e)) ∙ k.1))

  pub part-features : IsPart (features (take_out d n)) (features d)
  part-features =
      subst (λ fs. IsPart fs (features d)) (sym (features-take_out n d)) (part_filter (λ f. not (f.number == n)) (features d))

  pub part-rings : IsPart (rings (take_out d n)) (rings d)
  part-rings = part_flat_map rings_of part-features

  module _ (f : FeatureOf R) (place : Stands n f (features d)) where
    -- the features before it and those after it
    pub features-take_out_at : features (take_out d n) ≡ place.us ++ place.vs
    features-take_out_at =
        features-take_out n d ∙ without_swapped n (features d) ∙ swapped_alone n (λ f. []) f (features d) place

    -- the rings before it and those after it
    pub rings-take_out_at : rings (take_out d n)
        ≡ flat_map rings_of place.us ++ flat_map rings_of place.vs
    rings-take_out_at = ap (flat_map rings_of) features-take_out_at ∙ flat_map-append rings_of place.us place.vs

-- ---- rings of positions

module _ (d : Document) (n : ℕ) where
  pub part-segments : IsPart (all_segments (take_out d n)) (all_segments d)
  part-segments = part_flat_map segments (part-rings d n)

  pub first_pair-take_out : first_pair d ≡ None → first_pair (take_out d n) ≡ None
  unfolding first_pair
  first_pair-take_out h = part_apart (all_segments (take_out d n)) (all_segments d) part-segments h

  pub proper-take_out : Proper d → Proper (take_out d n)
  proper-take_out p = record {
    are_rings = part_all is_ring (part-rings d n) p.are_rings;
    apart = first_pair-take_out p.apart;
  }

  module _ (f : Feature) (place : Stands n f (features d)) where
    -- the positions of the feature that is there
    pub size_at : size d
        ≡ sum_by length (flat_map rings_of place.us) + (sum_by length (rings_of f) + sum_by length (flat_map rings_of place.vs))
    size_at =
        ap (sum_by length) (rings_at d n (λ k. []) f place)
        ∙ sum_by-append length (flat_map rings_of place.us) (rings_of f ++ flat_map rings_of place.vs)
        ∙ ap (λ z. sum_by length (flat_map rings_of place.us) + z) (sum_by-append length (rings_of f) (flat_map rings_of place.vs))

    -- its positions less
    pub size-take_out_at : size (take_out d n) + sum_by length (rings_of f) ≡ size d
    size-take_out_at = omega (
      arith,
      size_at,
      ap (sum_by length) (rings-take_out_at d n f place),
      sum_by-append length (flat_map rings_of place.us) (flat_map rings_of place.vs),
    )

    -- its positions less, and as many more as the new features have
    pub size-instead_at : (g : Feature → List Feature)
        → size (instead n g d) + sum_by length (rings_of f) ≡ size d + sum_by length (flat_map rings_of (g f))
    size-instead_at g = omega (
      arith,
      size_at,
      ap (sum_by length) (rings-instead_at d n g f place),
      sum_by-append length (flat_map rings_of place.us) (flat_map rings_of (g f) ++ flat_map rings_of place.vs),
      sum_by-append length (flat_map rings_of (g f)) (flat_map rings_of place.vs),
    )
