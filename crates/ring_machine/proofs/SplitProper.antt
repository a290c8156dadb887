-- An accepted split of a proper document gives a proper document.
use Rattle.kit_words.proofs.Common.{◌≡◌, ℕ, Bool, true, false, refl, sym, ap, ap₂, ◌∙◌, subst, List, [], ◌∷◌, ◌++◌}
use Rattle.kit_words.proofs.Common.{◌||◌, ◌⊎◌, inl, inr, None, not, list_any, false≢true, or_parts, false_from_ne_true}
use Rattle.grid_geometry.specs.Common.{Position, Segment, segment_eq, Edge, links}
use Rattle.ring_machine.specs.Common.{canonical, has, is_ring, segments, segment_of, Document, Feature, Text, features}
use Rattle.ring_machine.specs.Common.{rings_of, rings, is_vertex, is_segment, all_segments, WellFormed, Proper, Path}
use Rattle.ring_machine.specs.Common.{cut, stays, first_part, second_part, first_polygon, second_polygon, goes_first}
use Rattle.ring_machine.specs.Common.{first_of, positions_of, split_refusals}
use Rattle.ring_machine.proofs.First.{In, in-append, in_left, in_right, in-filter}
use Rattle.ring_machine.proofs.Members.{in_flat, any_in}
use Rattle.ring_machine.proofs.Neighbours.{in-flat_map, none_in, all_in}
use Rattle.ring_machine.proofs.Passed.{pass_all}
use Rattle.ring_machine.proofs.SplitFeatures.{new_feature, SplitFeature}
use Rattle.ring_machine.proofs.SplitDocuments.{SplitAccepted, split-accepted, SplitDocument, accepted_split, new_one}
use Rattle.ring_machine.proofs.SplitRings.{CutsRing, is_edge_of, first_part_is_ring, second_part_is_ring}

-- what is weaker than a test that none passes
pub none_weaker : {A : Type 0} (strong weak : A → Bool) → ((x : A) → strong x ≡ false → weak x ≡ false)
    → (xs : List A) → list_any strong xs ≡ false → list_any weak xs ≡ false
none_weaker strong weak h [] k = refl
none_weaker strong weak h (x ∷ xs) k =
    let k' = or_parts (strong x) (list_any strong xs) k in
    ap₂ (λ a b. a || b) (h x k'.0) (none_weaker strong weak h xs k'.1)

-- ---- the rings of the two features

module _ (path : Path) (number : ℕ) (id : Text) (f : Feature) (s : SplitFeature path number id f) where
  abbrev polygon : List (List Position)
  polygon = s.outer ∷ s.holes

  in_feature : (p : List (List Position)) (r : List Position)
      → In p (s.before ++ polygon ∷ s.after) → In r p → In r (rings_of f)
  in_feature p r i j = in-flat_map (λ polygon. polygon) p r f.polygons (subst (In p) (sym s.is) i) j

  cut_one : In polygon (s.before ++ polygon ∷ s.after)
  cut_one = in_right polygon s.before (polygon ∷ s.after) (inl refl)

  pub rings_that_stay : (r : List Position) → In r (rings_of (stays path f))
      → In r (rings_of f) ⊎ (canonical (first_part s.outer path) ≡ r)
  rings_that_stay r h =
      let k = in_flat (λ polygon. polygon) r (stays path f).polygons h in
      elim (in-append k.0 s.before (first_polygon path polygon ∷ s.after) (subst (In k.0) s.kept k.1)) [
        | inl i ↦ inl (in_feature k.0 r (in_left k.0 s.before (polygon ∷ s.after) i) k.2)
        | inr i ↦ elim i [
          | inl e ↦ elim (subst (In r) (sym e) k.2) [
            | inl same ↦ inr same
            | inr j ↦ inl (in_feature polygon r cut_one (inr (in-filter (goes_first (first_part s.outer path)) r s.holes j).0))
          ]
          | inr j ↦ inl (in_feature k.0 r (in_right k.0 s.before (polygon ∷ s.after) (inr j)) k.2)
        ]
      ]

  pub rings_that_go : (r : List Position) → In r (rings_of (new_feature path number id f polygon))
      → In r (rings_of f) ⊎ (canonical (second_part s.outer path) ≡ r)
  rings_that_go r h = elim (in-append r (second_polygon path polygon) [] h) [
    | inl i ↦ elim i [
      | inl same ↦ inr same
      | inr j ↦ inl (in_feature polygon r cut_one (inr (in-filter (λ h. not (goes_first (first_part s.outer path) h)) r s.holes j).0))
    ]
    | inr i ↦ absurd i
  ]

-- ---- the rings of the document

module _ (d : Document) (next n : ℕ) (id : Text) (path : Path) (s : SplitDocument d next n id path) where
  abbrev pub target : List Position
  target = s.split.outer

  of_feature : (f : Feature) (r : List Position) → In f (s.before ++ s.old ∷ s.after)
      → In r (rings_of f) → In r (rings d)
  of_feature f r i j = in-flat_map rings_of f r (features d) (subst (In f) (sym s.is) i) j

  old_there : In s.old (s.before ++ s.old ∷ s.after)
  old_there = in_right s.old s.before (s.old ∷ s.after) (inl refl)

  -- the ring that is cut
  pub target_there : In target (rings d)
  target_there = of_feature s.old target old_there (in_feature path next id s.old s.split (target ∷ s.split.holes) target (cut_one path next id s.old s.split) (inl refl))

  -- a ring after the cut was there before, or is one of the two parts
  pub rings_after : (r : List Position) → In r (rings (cut d n id path next)) →
      In r (rings d) ⊎ ((canonical (first_part target path) ≡ r) ⊎ (canonical (second_part target path) ≡ r))
  rings_after r h =
      let new = new_one d next n id path s in
      let k = in_flat rings_of r (features (cut d n id path next)) h in
      elim (in-append k.0 s.before (stays path s.old ∷ new ∷ s.after) (subst (In k.0) s.result k.1)) [
        | inl i ↦ inl (of_feature k.0 r (in_left k.0 s.before (s.old ∷ s.after) i) k.2)
        | inr i ↦ elim i [
          | inl e ↦ elim (rings_that_stay path next id s.old s.split r (subst (λ f. In r (rings_of f)) (sym e) k.2)) [
            | inl j ↦ inl (of_feature s.old r old_there j)
            | inr same ↦ inr (inl same)
          ]
          | inr j ↦ elim j [
            | inl e ↦ elim (rings_that_go path next id s.old s.split r (subst (λ f. In r (rings_of f)) (sym e) k.2)) [
              | inl l ↦ inl (of_feature s.old r old_there l)
              | inr same ↦ inr (inr same)
            ]
            | inr l ↦ inl (of_feature k.0 r (in_right k.0 s.before (s.old ∷ s.after) (inr l)) k.2)
          ]
        ]
      ]

  -- the path cuts that ring, where the conditions hold
  pub cuts_target : Proper d → SplitAccepted d next n id path → CutsRing target path
  cuts_target proper a = record {
    formed = all_in is_ring (rings d) target proper.are_rings target_there;
    first = s.split.first;
    last = s.split.last;
    distinct = a.distinct;
    free = none_weaker (is_vertex d) (has target) (λ p k. none_in (λ ring. has ring p) (rings d) target k target_there) path.inner a.free;
    new = none_weaker (λ e. is_segment d (segment_of e)) (is_edge_of target) not_there (links (positions_of path)) a.new;
  }
    where
      not_there : (e : Edge) → is_segment d (segment_of e) ≡ false → is_edge_of target e ≡ false
      not_there e k = false_from_ne_true (is_edge_of target e) (λ t. none (any_in (segment_eq (segment_of e)) (segments target) t))
        where
          none : (a : Segment) × In a (segments target) × (segment_eq (segment_of e) a ≡ true) → ⊥
          none m = false≢true (sym (none_in (segment_eq (segment_of e)) (all_segments d) m.0 k (in-flat_map segments target m.0 (rings d) target_there m.1)) ∙ m.2)

-- every ring stays a ring, and no segments conflict
pub split_is_proper : (d : Document) (next n : ℕ) (id : Text) (path : Path) → WellFormed d → Proper d
    → first_of (split_refusals d next n id path) ≡ None → Proper (cut d n id path next)
split_is_proper d next n id path formed proper h =
    let a = split-accepted d next n id path h in
    let s = accepted_split d next n id path formed h in
    let c = cuts_target d next n id path s proper a in
    record {
      are_rings = pass_all is_ring (rings (cut d n id path next)) (λ r i. elim (rings_after d next n id path s r i) [
        | inl j ↦ all_in is_ring (rings d) r proper.are_rings j
        | inr j ↦ elim j [
          | inl e ↦ ap is_ring (sym e) ∙ first_part_is_ring s.split.outer path c
          | inr e ↦ ap is_ring (sym e) ∙ second_part_is_ring s.split.outer path c
        ]
      ]);
      apart = a.apart;
    }
