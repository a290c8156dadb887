-- What a path that may cut a feature makes of the document: its segments come, its ends and inner
-- positions are counted once more, and each ring is one.
use Rattle.kit_words.proofs.Common.{◌≡◌, ℕ, ◌+◌, ◌*◌, false, refl, sym, ap, ◌∙◌, List, [], ◌∷◌, ◌++◌, map, length, ◌||◌}
use Rattle.kit_words.proofs.Common.{Some, arith, not, list_any, flat_map, filter, sum_by, append-nil, flat_map-append}
use Rattle.kit_words.proofs.Common.{sum_by-filter_both, sum_by-append, sum_by-cons}
use Rattle.grid_geometry.specs.Common.{Position, Segment, segment_eq, Edge, links}
use Rattle.ring_machine.specs.Common.{canonical, has, is_ring, segment_of, Document, Feature, Text, feature, rings_of}
use Rattle.ring_machine.specs.Common.{rings, size, is_vertex, is_segment, Path, cut, instead, stays, first_part}
use Rattle.ring_machine.specs.Common.{second_part, first_polygon, second_polygon, goes_first, or_else, no_feature}
use Rattle.ring_machine.specs.Common.{positions_of}
use Rattle.ring_machine.proofs.Common.{parts, cut_is, CutRing, In, has_feature-found, feature_stands, there}
use Rattle.ring_machine.proofs.Common.{none_in, all_in, SplitDocument, split_document, SplitFeature}
use Rattle.ring_machine.proofs.Common.{target_there, CutsRing, is_edge_of, cut_of, path_segments}
use Rattle.ring_machine.proofs.Common.{canonical_parts_segments, parts_length, size-instead_at, new_feature}
use Rattle.ring_machine.proofs.SplitBorders.{any_ring_after}
use Rattle.ring_machine.proofs.SplitProper.{none_weaker}
use Rattle.arc_store.specs.Common.{IsCuttable}
use Rattle.arc_store.proofs.Insertions.{has_segment, is_segment_by}

-- ---- positions counted

sum_flat : {A : Type 0} (f : A → ℕ) (us : List (List A)) (x : List A) (vs : List (List A))
    → sum_by f (flat_map (λ q. q) (us ++ x ∷ vs))
    ≡ sum_by f (flat_map (λ q. q) us) + (sum_by f x + sum_by f (flat_map (λ q. q) vs))
sum_flat f us x vs =
    ap (sum_by f) (flat_map-append (λ q. q) us (x ∷ vs))
    ∙ sum_by-append f (flat_map (λ q. q) us) (x ++ flat_map (λ q. q) vs)
    ∙ ap (λ z. sum_by f (flat_map (λ q. q) us) + z) (sum_by-append f x (flat_map (λ q. q) vs))

parts_size : (path : Path) (number : ℕ) (id : Text) (f : Feature) (s : SplitFeature path number id f)
    → CutRing s.outer path.first path.last →
    sum_by length (rings_of (stays path f)) + sum_by length (second_polygon path (s.outer ∷ s.holes))
    ≡ sum_by length (rings_of f) + 2 + 2 * length path.inner
parts_size path number id f s c =
    let p : List (List Position) = s.outer ∷ s.holes in
    let test = goes_first (first_part s.outer path) in
    omega (
      arith,
      ap (λ z. sum_by length (flat_map (λ q. q) z)) s.is ∙ sum_flat length s.before p s.after,
      ap (λ z. sum_by length (flat_map (λ q. q) z)) s.kept ∙ sum_flat length s.before (first_polygon path p) s.after,
      sum_by-cons length s.outer s.holes,
      sum_by-cons length (canonical (first_part s.outer path)) (filter test s.holes),
      sum_by-cons length (canonical (second_part s.outer path)) (filter (λ h. not (test h)) s.holes),
      sum_by-filter_both test (λ h. not (test h)) (λ h. refl) length s.holes,
      parts_length s.outer path c,
    )

module _ (d : Document) (next n : ℕ) (id : Text) (path : Path) (a : IsCuttable d n path) where
  split : SplitDocument d next n id path
  split = split_document d next n id path a.formed a.there a.cut

  abbrev outer : List Position
  outer = split.split.outer

  abbrev polygon : List (List Position)
  polygon = split.split.outer ∷ split.split.holes

  outer_there : In outer (rings d)
  outer_there = target_there d next n id path split

  -- ---- segments

  not_edge : (e : Edge) → is_segment d (segment_of e) ≡ false → is_edge_of outer e ≡ false
  not_edge e k =
      none_in (has_segment (segment_of e)) (rings d) outer (sym (is_segment_by d (segment_of e)) ∙ k) outer_there

  cuts : CutsRing outer path
  cuts = record {
    formed = all_in is_ring (rings d) outer a.proper.are_rings outer_there;
    first = split.split.first;
    last = split.split.last;
    distinct = a.different;
    free = none_weaker (is_vertex d) (has outer) (λ p k. none_in (λ ring. has ring p) (rings d) outer k outer_there) path.inner a.free;
    new = none_weaker (λ e. is_segment d (segment_of e)) (is_edge_of outer) not_edge (links (positions_of path)) a.new;
  }

  the_cut : CutRing outer path.first path.last
  the_cut = cut_of outer path cuts

  -- the segments after the cut are those before and those of the path
  pub cut_segments : (s : Segment) → is_segment (cut d n id path next) s
      ≡ (is_segment d s || list_any (segment_eq s) (path_segments path))
  cut_segments s =
      is_segment_by (cut d n id path next) s
      ∙ any_ring_after d next n id path split (has_segment s) (list_any (segment_eq s) (path_segments path)) (canonical_parts_segments (segment_eq s) outer path the_cut)
      ∙ ap (λ z. z || list_any (segment_eq s) (path_segments path)) (sym (is_segment_by d s))

  -- ---- size

  feature_is : feature d n ≡ Some split.old
  feature_is =
      let f = there (feature d n) (sym (has_feature-found d n) ∙ a.there) in
      f.1 ∙ ap (λ k. Some k) (sym (ap (or_else no_feature) f.1) ∙ split.found)

  -- both ends of the path and its inner positions are counted once more
  pub cut_size : size (cut d n id path next) ≡ size d + 2 + 2 * length path.inner
  cut_size =
      let f : Feature = split.old in
      let both : sum_by length (flat_map rings_of (parts d n id path next f)) ≡ sum_by length (rings_of (stays path f)) + sum_by length (second_polygon path polygon) =
      ap (λ ps. sum_by length (rings_of (stays path f) ++ flat_map rings_of (map (new_feature path next id f) ps))) split.split.target
      ∙ sum_by-append length (rings_of (stays path f)) ((second_polygon path polygon ++ []) ++ [])
      ∙ ap (λ z. sum_by length (rings_of (stays path f)) + sum_by length z) (append-nil (second_polygon path polygon ++ []) ∙ append-nil (second_polygon path polygon)) in
      let is : size (cut d n id path next) ≡ size (instead n (parts d n id path next) d) = ap size (cut_is d n id path next) in
      omega (
        arith,
        is,
        both,
        size-instead_at d n f (feature_stands d a.formed n f feature_is) (parts d n id path next),
        parts_size path next id f split.split the_cut,
      )
