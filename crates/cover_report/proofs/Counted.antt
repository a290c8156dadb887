-- The features of layers, and numbers, counted one after another.
use Rattle.kit_words.proofs.Common.{◌≡◌, ℕ, ◌+◌, ◌<◌, ◌++◌, ◌∙◌, ◌∷◌, [], cond, List, Option, Some, None, is_some}
use Rattle.kit_words.proofs.Common.{length, map, take, get_or, ap, sym, refl, append_assoc, append-nil, length-append, map-append, map-id, take_more}
use Rattle.std.proofs.lemmas.List.FromFn.{map-range_with_len_more}
use Rattle.std.specs.List.{range_with_len}
use Rattle.json_spans.specs.Common.{Node}
use Rattle.ring_machine.specs.Common.{Form}
use Rattle.topo_outline.specs.Common.{Piece, at_most_one, leaf_of, leaves_in, view_item}
use Rattle.topo_outline.specs.declared.document.Item.{Item}

leaves-append : (xs ys : List Piece) → leaves_in (xs ++ ys) ≡ leaves_in xs ++ leaves_in ys
unfolding leaves_in
leaves-append [] ys = refl
leaves-append (x ∷ xs) ys = ap (λ z. at_most_one (leaf_of x) ++ z) (leaves-append xs ys) ∙ sym (append_assoc (at_most_one (leaf_of x)) (leaves_in xs) (leaves_in ys))

leaves-one : (x : Piece) → length (leaves_in (x ∷ [])) ≡ cond (is_some (leaf_of x)) 1 0
unfolding leaves_in
leaves-one x = ap length (append-nil (at_most_one (leaf_of x))) ∙ by (leaf_of x)
  where
    by : (o : Option (Form × Node)) → length (at_most_one o) ≡ cond (is_some o) 1 0
    by None = refl
    by (Some f) = refl

-- one item more
pub leaves_more : {A : Type 0} (items : List (Item A)) (i : ℕ) (d : Item A) → i < length items
    → length (leaves_in (map view_item (take (i + 1) items))) ≡ length (leaves_in (map view_item (take i items))) + cond (is_some (leaf_of (view_item (get_or items i d)))) 1 0
leaves_more items i d lt =
    ap (λ z. length (leaves_in z)) (ap (map view_item) (take_more items i d lt) ∙ map-append view_item (take i items) (get_or items i d ∷ []))
    ∙ ap length (leaves-append (map view_item (take i items)) (view_item (get_or items i d) ∷ []))
    ∙ length-append (leaves_in (map view_item (take i items))) (leaves_in (view_item (get_or items i d) ∷ []))
    ∙ ap (λ n. length (leaves_in (map view_item (take i items))) + n) (leaves-one (view_item (get_or items i d)))

-- one number more
pub range_more : (a n k : ℕ) → a + n ≡ k → range_with_len a (n + 1) ≡ range_with_len a n ++ k ∷ []
range_more a n k e =
    sym (map-id (range_with_len a (n + 1))) ∙ map-range_with_len_more (λ (x : ℕ). x) a n k e
    ∙ ap (λ (z : List ℕ). z ++ k ∷ []) (map-id (range_with_len a n))
