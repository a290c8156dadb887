-- The features and points of layers, counted one after another.
use Rattle.kit_words.proofs.Common.{◌≡◌, ℕ, zero, suc, ◌+◌, ◌<◌, ◌++◌, ◌∙◌, ◌∷◌, [], Bool, true, false, cond, if◌then◌else◌, List, Option, Some, None, is_some}
use Rattle.kit_words.proofs.Common.{length, map, take, drop, get_or, filter, ap, sym, refl, arith, append_assoc, append-nil, length-append, map-append, take_more, next_drop, filter-append, Result, Ok, Err}
use Rattle.json_spans.specs.Common.{Node}
use Rattle.ring_machine.specs.Common.{Form, Text}
use Rattle.topo_outline.specs.Common.{LayerText, Piece, at_most_one, leaf_of, leaves_in, view_item}
use Rattle.topo_outline.specs.declared.document.Item.{Item}
use Rattle.geo_text.specs.Found.{FoundText, asked_texts, is_text, points_of}
use Rattle.geo_features.specs.Faults.{no_layer, several_layers}
use Rattle.geo_text.specs.Layer.{is_asked, the_only}

pub leaves-append : (xs ys : List Piece) → leaves_in (xs ++ ys) ≡ leaves_in xs ++ leaves_in ys
unfolding leaves_in
leaves-append [] ys = refl
leaves-append (x ∷ xs) ys = ap (λ z. at_most_one (leaf_of x) ++ z) (leaves-append xs ys) ∙ sym (append_assoc (at_most_one (leaf_of x)) (leaves_in xs) (leaves_in ys))

leaves-one : (x : Piece) → length (leaves_in (x ∷ [])) ≡ cond (is_some (leaf_of x)) 1 0
unfolding leaves_in
leaves-one x = ap length (append-nil (at_most_one (leaf_of x))) ∙ by (leaf_of x)
  where
    by : (o : Option (Form × Node)) → length (at_most_one o) ≡ cond (is_some o) 1 0
    by None = refl
    by (Some f) = refl

-- one item more
pub leaves_more : {A : Type 0} (items : List (Item A)) (i : ℕ) (d : Item A) → i < length items
    → length (leaves_in (map view_item (take (i + 1) items))) ≡ length (leaves_in (map view_item (take i items))) + cond (is_some (leaf_of (view_item (get_or items i d)))) 1 0
leaves_more items i d lt =
    ap (λ z. length (leaves_in z)) (ap (map view_item) (take_more items i d lt) ∙ map-append view_item (take i items) (get_or items i d ∷ []))
    ∙ ap length (leaves-append (map view_item (take i items)) (view_item (get_or items i d) ∷ []))
    ∙ length-append (leaves_in (map view_item (take i items))) (leaves_in (view_item (get_or items i d) ∷ []))
    ∙ ap (λ n. length (leaves_in (map view_item (take i items))) + n) (leaves-one (view_item (get_or items i d)))

points-one : (x : Piece) → length (filter is_text (x ∷ [])) ≡ cond (is_text x) 1 0
points-one x = by (is_text x)
  where
    by : (b : Bool) → length (cond b (x ∷ []) []) ≡ cond b 1 0
    by true = refl
    by false = refl

pub points_more : {A : Type 0} (items : List (Item A)) (i : ℕ) (d : Item A) → i < length items
    → length (filter is_text (map view_item (take (i + 1) items))) ≡ length (filter is_text (map view_item (take i items))) + cond (is_text (view_item (get_or items i d))) 1 0
points_more items i d lt =
    ap (λ z. length (filter is_text z)) (ap (map view_item) (take_more items i d lt) ∙ map-append view_item (take i items) (get_or items i d ∷ []))
    ∙ ap length (filter-append is_text (map view_item (take i items)) (view_item (get_or items i d) ∷ []))
    ∙ length-append (filter is_text (map view_item (take i items))) (filter is_text (view_item (get_or items i d) ∷ []))
    ∙ ap (λ n. length (filter is_text (map view_item (take i items))) + n) (points-one (view_item (get_or items i d)))

asked_cons : (b : Bool) (one : FoundText) (rest : List FoundText) → cond b (one ∷ rest) rest ≡ cond b (one ∷ []) [] ++ rest
asked_cons true one rest = refl
asked_cons false one rest = refl

-- one layer more
pub asked_turn : {L : Type 0} (name : Option Text) (view : L → LayerText) (leaves points more_leaves more_points : ℕ) (layers : List L) (i : ℕ) (x : L) (b : Bool) (old new whole : List FoundText)
    → i < length layers → x ≡ get_or layers i x → b ≡ is_asked name (view x).name
    → more_leaves ≡ length (leaves_in (view x).pieces) → more_points ≡ points_of (view x).pieces
    → new ≡ old ++ (if b then (record { layer = view x; leaves = leaves; points = points } ∷ []) else [])
    → old ++ asked_texts name leaves points (map view (drop i layers)) ≡ whole
    → new ++ asked_texts name (leaves + more_leaves) (points + more_points) (map view (drop (i + 1) layers)) ≡ whole
unfolding asked_texts
asked_turn name view leaves points more_leaves more_points layers i x b old new whole lt is asked l p put h =
    let one : FoundText = record { layer = view x; leaves = leaves; points = points } in
    let rest = asked_texts name (leaves + more_leaves) (points + more_points) (map view (drop (i + 1) layers)) in
    let step : asked_texts name leaves points (map view (drop i layers)) ≡ (if b then (one ∷ []) else []) ++ rest =
    ap (λ z. asked_texts name leaves points (map view z)) (next_drop layers i x lt is)
    ∙ asked_cons (is_asked name (view x).name) one (asked_texts name (leaves + length (leaves_in (view x).pieces)) (points + points_of (view x).pieces) (map view (drop (i + 1) layers)))
    ∙ rw (← asked, ← l, ← p) refl in
    ap (λ z. z ++ rest) put ∙ append_assoc old (if b then (one ∷ []) else []) rest ∙ ap (λ z. old ++ z) (sym step) ∙ h

pub asked_end : {L : Type 0} (name : Option Text) (view : L → LayerText) (leaves points : ℕ) (layers : List L) (i : ℕ) (old whole : List FoundText)
    → drop i layers ≡ [] → old ++ asked_texts name leaves points (map view (drop i layers)) ≡ whole → old ≡ whole
unfolding asked_texts
asked_end name view leaves points layers i old whole e h = rw (e, append-nil old) at h

-- ---- the one that is asked for

pub found_none : {F : Type 0} (view : F → FoundText) (found : List F) (all : List FoundText) → map view found ≡ all → found ≡ [] → the_only all ≡ Err no_layer
found_none view found all e n = ap the_only (sym e ∙ ap (map view) n)

pub found_one : {F : Type 0} (view : F → FoundText) (found rest : List F) (one : F) (all : List FoundText) → map view found ≡ all → found ≡ rest ++ one ∷ [] → rest ≡ []
    → the_only all ≡ Ok (view one)
found_one view found rest one all e is n = ap the_only (sym e ∙ ap (map view) (is ∙ ap (λ z. z ++ one ∷ []) n))

pub found_several : {F : Type 0} (view : F → FoundText) (found rest : List F) (one : F) (all : List FoundText) → map view found ≡ all → found ≡ rest ++ one ∷ []
    → (length rest ≡ 0 → ⊥) → the_only all ≡ Err several_layers
found_several {F = F} view found rest one all e is n = ap the_only (sym e ∙ ap (map view) is ∙ map-append view rest (one ∷ [])) ∙ by rest n
  where
    more : (xs : List FoundText) (x : FoundText) → the_only (x ∷ (xs ++ view one ∷ [])) ≡ Err several_layers
    more [] x = refl
    more (y ∷ xs) x = refl

    by : (xs : List F) → (length xs ≡ 0 → ⊥) → the_only (map view xs ++ view one ∷ []) ≡ Err several_layers
    by [] k = absurd (k refl)
    by (x ∷ xs) k = more (map view xs) (view x)
