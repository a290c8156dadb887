-- Two features joined, as rings that come in the place of the first one's polygon: the document, its
-- rings and its size.
use Rattle.kit_words.proofs.Common.{◌≡◌, ◌≤◌, ℕ, ◌+◌, Bool, false, sym, ap, ap₂, ◌∙◌, cond, List, [], ◌∷◌, ◌++◌, map}
use Rattle.kit_words.proofs.Common.{length, reverse, take, drop, Some, None, arith, ◌==◌, not, flat_map, filter, sum_by}
use Rattle.kit_words.proofs.Common.{prefix_len, eqb-false, append-nil, length-append, length-map, length-reverse}
use Rattle.kit_words.proofs.Common.{take-append-drop, sum_by-append, sum_by-cons, false_from_ne_true}
use Rattle.std.proofs.lemmas.Bool.{eqb-true}
use Rattle.grid_geometry.specs.Common.{Position, Edge, edges}
use Rattle.ring_machine.specs.Common.{canonical, Document, Feature, feature, rings_of, size, WellFormed, take_out, join}
use Rattle.ring_machine.specs.Common.{joined, joined_polygons, joined_feature, is_common, passed_alike, off_run}
use Rattle.ring_machine.specs.Common.{feature_at, or_else, no_feature}
use Rattle.ring_machine.proofs.Common.{feature_stands, MergeAccepted, join_order, formed-take_out, canonical_length}
use Rattle.ring_machine.proofs.Common.{feature-take_out_other, size-take_out_at, size-instead_at, length_edges}
use Rattle.edit_records.specs.Common.{LayerTree, Fills, AreFormed, exchanged}
use Rattle.edit_records.proofs.Common.{join-made, feature-own}
use Rattle.map_frame.specs.Common.{texts_of, with_texts}
use Rattle.arc_store.specs.Common.{feature_with}

-- ---- how long a joined ring is

fewer : {A : Type 0} (test : A → Bool) (xs : List A) → length (filter test xs) ≤ length xs
fewer test [] = omega arith
fewer test (x ∷ xs) = grind (arith, fewer test xs)

rest_short : (common : Edge → Bool) (ring : List Position)
    → length (off_run common (edges ring)) ≤ length ring
rest_short common ring =
    let off : Edge → Bool = λ e. not (common e) in
    let k = prefix_len off (edges ring) in
    omega (
      arith,
      fewer off (drop k (edges ring) ++ take k (edges ring)),
      length-append (drop k (edges ring)) (take k (edges ring)),
      length-append (take k (edges ring)) (drop k (edges ring)),
      ap length (take-append-drop k (edges ring)),
      length_edges ring,
    )

-- what is left of both rings, the second one turned or not
abbrev rests : List Position → List Position → List Position → List Edge
rests r s other = off_run (is_common s) (edges r) ++ off_run (is_common r) (edges other)

rests_short : (r s other : List Position) → length other ≡ length s
    → length (canonical (map (λ e. e.0) (rests r s other))) ≤ length r + length s
rests_short r s other e = omega (
  arith,
  e,
  canonical_length (map (λ e. e.0) (rests r s other)),
  length-map (rests r s other) (λ e. e.0),
  length-append (off_run (is_common s) (edges r)) (off_run (is_common r) (edges other)),
  rest_short (is_common s) r,
  rest_short (is_common r) other,
)

-- no longer than both rings
joined_short : (r s : List Position) → length (joined r s) ≤ length r + length s
joined_short r s = rests_short r s (cond (passed_alike r s) (reverse s) s) (grind (arith, length-reverse s))

-- ---- the document

pub differ : (a b : ℕ) → (a == b) ≡ false → (b == a) ≡ false
differ a b h = false_from_ne_true _ (λ e. eqb-false a b h (sym (eqb-true b a e)))

module _ (d : Document) (n m : ℕ) (formed : WellFormed d) (a : MergeAccepted d n m) where
  abbrev pub merged : List (List Position)
  merged = joined a.pair_is.r a.pair_is.s ∷ (a.pair_is.holes ++ a.pair_is.more)

  second_is : feature_at d m ≡ a.second
  second_is = ap (or_else no_feature) a.second_is

  apart : (n == a.second.number) ≡ false
  apart = ap (λ k. n == k) a.second_number ∙ a.differ

  polygons_are : joined_polygons a.first.polygons a.second.polygons ≡ merged ∷ []
  polygons_are = ap₂ joined_polygons a.pair_is.first a.pair_is.second

  -- the joined rings come in the place of the first feature's polygon, and the second one goes
  pub merge_made : (trees : List LayerTree) → Fills trees d → AreFormed trees
      → exchanged trees ((n, Some (feature_with d n (merged ∷ []))) ∷ (m, None) ∷ []) d ≡ join d n (feature_at d m)
  merge_made trees fills formed_trees =
      ap₂ (λ x y. exchanged trees ((n, Some x) ∷ (y, None) ∷ []) d) (sym first_made) (sym a.second_number)
      ∙ join-made trees d n a.first a.second fills formed_trees a.first_is (eqb-false n a.second.number apart)
      ∙ ap (join d n) (sym second_is)
    where
      first_made : record a.first { polygons = joined_polygons a.first.polygons a.second.polygons } ≡ feature_with d n (merged ∷ [])
      first_made =
          ap₂ (λ k ps. with_texts k (texts_of a.first) ps) (feature-own d n a.first a.first_is) polygons_are
          ∙ ap (λ (f : Feature). with_texts n (texts_of f) (merged ∷ [])) (sym (ap (or_else no_feature) a.first_is))

  -- ---- size

  first_size : sum_by length (rings_of a.first) ≡ sum_by length (a.pair_is.r ∷ a.pair_is.holes)
  first_size =
      ap (λ ps. sum_by length (flat_map (λ q. q) ps)) a.pair_is.first ∙ ap (sum_by length) (append-nil (a.pair_is.r ∷ a.pair_is.holes))

  second_size : sum_by length (rings_of a.second) ≡ sum_by length (a.pair_is.s ∷ a.pair_is.more)
  second_size =
      ap (λ ps. sum_by length (flat_map (λ q. q) ps)) a.pair_is.second ∙ ap (sum_by length) (append-nil (a.pair_is.s ∷ a.pair_is.more))

  merged_size : sum_by length (flat_map rings_of (joined_feature a.second a.first)) ≡ sum_by length merged
  merged_size =
      ap (λ ps. sum_by length (flat_map (λ q. q) ps ++ [])) polygons_are
      ∙ ap (sum_by length) (append-nil (merged ++ []) ∙ append-nil merged)

  -- the rings of both go, and the joined ones come
  pub join_size : size (join d n (feature_at d m)) + (sum_by length (a.pair_is.r ∷ a.pair_is.holes) + sum_by length (a.pair_is.s ∷ a.pair_is.more))
      ≡ size d + sum_by length merged
  join_size =
      let k = a.second.number in
      let here : feature d k ≡ Some a.second = ap (feature d) a.second_number ∙ a.second_is in
      let left : feature (take_out d k) n ≡ Some a.first = feature-take_out_other d k n (differ n k apart) ∙ a.first_is in
      omega (
        arith,
        first_size,
        second_size,
        merged_size,
        ap size (ap (join d n) second_is ∙ join_order d n a.second formed apart),
        size-take_out_at d k a.second (feature_stands d formed k a.second here),
        size-instead_at (take_out d k) n a.first (feature_stands (take_out d k) (formed-take_out d k formed) n a.first left) (joined_feature a.second),
      )

  -- no more than before
  pub merged_short : sum_by length merged ≤ sum_by length (a.pair_is.r ∷ a.pair_is.holes) + sum_by length (a.pair_is.s ∷ a.pair_is.more)
  merged_short = omega (
    arith,
    sum_by-cons length (joined a.pair_is.r a.pair_is.s) (a.pair_is.holes ++ a.pair_is.more),
    sum_by-append length a.pair_is.holes a.pair_is.more,
    sum_by-cons length a.pair_is.r a.pair_is.holes,
    sum_by-cons length a.pair_is.s a.pair_is.more,
    joined_short a.pair_is.r a.pair_is.s,
  )
