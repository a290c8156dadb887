-- The features in the order of the text, as the loops go over them.
use Rattle.kit_words.proofs.Common.{◌≡◌, ℕ, ◌+◌, ◌<◌, ◌≤◌, List, ◌++◌, length, get_or, drop, map, refl, sym, ◌∙◌}
use Rattle.kit_words.proofs.Common.{append_assoc, append-nil, drop_all}
use Rattle.json_spans.specs.Common.{Node}
use Rattle.ring_machine.specs.Common.{Form}
use Rattle.topo_outline.specs.declared.document.Item.{Item}
use Rattle.topo_outline.specs.declared.document.RawLayer.{RawLayer}
use Rattle.topo_outline.specs.Common.{leaf_of, at_most_one, leaves_in, leaves, view_item, view_layer}
use Rattle.topo_outline.proofs.Walking.{tail_at}

more : (old a b s whole : List (Form × Node)) → s ≡ a ++ b → old ++ s ≡ whole → (old ++ a) ++ b ≡ whole
more old a b s whole e h = append_assoc old a b ∙ rw e at h

pub leaf_turn : {A : Type 0} (old new whole : List (Form × Node)) (xs : List (Item A)) (i : ℕ) (a : Item A) → i < length xs → a ≡ get_or xs i a → new ≡ old ++ at_most_one (leaf_of (view_item a)) → old ++ leaves_in (map view_item (drop i xs)) ≡ whole → new ++ leaves_in (map view_item (drop (i + 1) xs)) ≡ whole
unfolding leaves_in
leaf_turn old new whole xs i a lt is e h = rw e (more old (at_most_one (leaf_of (view_item a))) (leaves_in (map view_item (drop (i + 1) xs))) _ whole (rw (tail_at a xs i lt is) refl) h)

pub leaf_done : {A : Type 0} (old whole : List (Form × Node)) (xs : List (Item A)) (i : ℕ) → length xs ≤ i → old ++ leaves_in (map view_item (drop i xs)) ≡ whole → old ≡ whole
unfolding leaves_in
leaf_done old whole xs i le h = sym (append-nil old) ∙ rw (drop_all i xs le) at h

pub layer_turn : {A : Type 0} (old new whole : List (Form × Node)) (xs : List (RawLayer A)) (i : ℕ) (a : RawLayer A) → i < length xs → a ≡ get_or xs i a → new ≡ old ++ leaves_in (map view_item a.items.items) → old ++ leaves (map view_layer (drop i xs)) ≡ whole → new ++ leaves (map view_layer (drop (i + 1) xs)) ≡ whole
unfolding leaves
layer_turn old new whole xs i a lt is e h = rw e (more old (leaves_in (map view_item a.items.items)) (leaves (map view_layer (drop (i + 1) xs))) _ whole (rw (tail_at a xs i lt is) refl) h)

pub layer_done : {A : Type 0} (old whole : List (Form × Node)) (xs : List (RawLayer A)) (i : ℕ) → length xs ≤ i → old ++ leaves (map view_layer (drop i xs)) ≡ whole → old ≡ whole
unfolding leaves
layer_done old whole xs i le h = sym (append-nil old) ∙ rw (drop_all i xs le) at h
