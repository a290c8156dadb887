-- The items of a layer, one after another.
use Rattle.kit_words.proofs.Common.{◌≡◌, ℕ, ◌+◌, ◌==◌, ◌&&◌, ◌++◌, ◌∙◌, ◌∷◌, [], Bool, true, false, true≢false, not, List, length, map, ap, ap₂, sym, refl, append_assoc, append-nil, length-append, one-add, Result, Ok, Err}
use Rattle.std.proofs.Common.{add-zero, add_assoc}
use Rattle.grid_geometry.specs.Common.{Position}
use Rattle.json_spans.specs.Common.{Node}
use Rattle.ring_machine.specs.Common.{Close, Feature, Form, Head, Item, Kept, Leaf, Member, Open, Text}
use Rattle.map_text.specs.Common.{comma_if}
use Rattle.topo_outline.specs.Common.{Piece, at_most_one, ends, head_of, items_from, leaf, leaf_of, leaves_in, numbered, polygons_at, starts, text}
use Rattle.geo_features.specs.Faults.{GeoFault, demand, nested, ◌>>=◌}
use Rattle.geo_features.specs.Features.{feature_begin, is_null, leaf_geometry, not_of_form, own_text, point_geometry}
use Rattle.geo_text.specs.Items.{At, after_item, after_items, after_text, before_in, before_text, item_text, items_texts, line_begin, passed, standing_text}
use Rattle.geo_features.specs.Names.{is_bare, not_of_feature}
use Rattle.geo_features.specs.Points.{point_head}
use Rattle.geo_features.specs.Style.{Style}
use Rattle.geo_features.proofs.Listed.{not_zero}

-- ---- one item

alone : (r : Result Text GeoFault) → (r >>= λ t. Ok (t ++ [])) ≡ r
alone (Ok t) = ap (λ (z : Text). Ok z) (append-nil t)
alone (Err e) = refl

pub one_text : (flattens : Bool) (s : Style) (at : At) (i : Item) → items_texts flattens s at (i ∷ []) ≡ item_text flattens s at i
unfolding items_texts
one_text flattens s at i = alone (item_text flattens s at i)

pub one_after : (flattens : Bool) (at : At) (i : Item) → after_items flattens at (i ∷ []) ≡ after_item flattens at i
unfolding after_items
one_after flattens at i = refl

pub leaf_text : (flattens : Bool) (s : Style) (at : At) (f : Feature)
    → item_text flattens s at (Leaf f) ≡ standing_text at (not_of_form f.form) (head_of f) (is_null f.form) (leaf_geometry s f)
leaf_text true s at f = refl
leaf_text false s at f = refl

pub kept_text : (flattens : Bool) (s : Style) (at : At) (t : Text)
    → item_text flattens s at (Kept t) ≡ standing_text at not_of_feature (point_head t) false (point_geometry s at.point t)
kept_text true s at t = refl
kept_text false s at t = refl

pub after_leaf : (flattens : Bool) (at : At) (f : Feature) → after_item flattens at (Leaf f) ≡ passed at
after_leaf true at f = refl
after_leaf false at f = refl

pub after_kept : (flattens : Bool) (at : At) (t : Text) → after_item flattens at (Kept t) ≡ record (passed at) { point = at.point + 1 }
after_kept true at t = refl
after_kept false at t = refl

-- ---- what stands before and after a geometry

pub before_outside : (at : At) (h : Head) (n : Bool) → (length at.heads == 0) ≡ true → before_text at h n ≡ Ok (line_begin at.feature ++ feature_begin h)
before_outside at h n e = by at.heads e
  where
    by : (heads : List Head) → (length heads == 0) ≡ true → before_in heads at h n ≡ Ok (line_begin at.feature ++ feature_begin h)
    by [] e' = refl
    by (o ∷ heads) e' = absurd (true≢false (sym e' ∙ not_zero (length heads)))

pub before_inside : (at : At) (h : Head) (n : Bool) → (length at.heads == 0) ≡ false → before_text at h n ≡ demand (not n && is_bare h) (nested at.feature) (Ok (comma_if at.more))
before_inside at h n e = by at.heads e
  where
    by : (heads : List Head) → (length heads == 0) ≡ false → before_in heads at h n ≡ demand (not n && is_bare h) (nested at.feature) (Ok (comma_if at.more))
    by [] e' = absurd (true≢false e')
    by (o ∷ heads) e' = refl

pub after_outside : (heads : List Head) (words : List Text) (ms : List Member) → (length heads == 0) ≡ true → after_text heads words ms ≡ own_text words ms
after_outside [] words ms e = refl
after_outside (o ∷ heads) words ms e = absurd (true≢false (sym e ∙ not_zero (length heads)))

pub after_inside : (heads : List Head) (words : List Text) (ms : List Member) → (length heads == 0) ≡ false → after_text heads words ms ≡ Ok []
after_inside [] words ms e = absurd (true≢false e)
after_inside (o ∷ heads) words ms e = refl

-- a feature, alone
pub leaf_whole : (flattens : Bool) (s : Style) (at : At) (n : ℕ) (all : List (List (List (List Position)))) (form : Form) (head : Head) (arcs : Node)
    → items_texts flattens s at (items_from n all (leaf form head arcs ∷ []))
    ≡ (before_text at head (is_null form) >>= λ b. leaf_geometry s (numbered n form head (polygons_at all n)) >>= λ g. after_text at.heads (not_of_form form) head.members >>= λ a. Ok (b ++ (g ++ a)))
leaf_whole flattens s at n all form head arcs =
    one_text flattens s at (Leaf (numbered n form head (polygons_at all n))) ∙ leaf_text flattens s at (numbered n form head (polygons_at all n))

pub kept_whole : (flattens : Bool) (s : Style) (at : At) (t : Text)
    → item_text flattens s at (Kept t)
    ≡ (before_text at (point_head t) false >>= λ b. point_geometry s at.point t >>= λ g. after_text at.heads not_of_feature (point_head t).members >>= λ a. Ok (b ++ (g ++ a)))
kept_whole flattens s at t = kept_text flattens s at t

-- ---- several

pub after_both : (flattens : Bool) (at : At) (xs ys : List Item) → after_items flattens at (xs ++ ys) ≡ after_items flattens (after_items flattens at xs) ys
unfolding after_items
after_both flattens at [] ys = refl
after_both flattens at (x ∷ xs) ys = after_both flattens (after_item flattens at x) xs ys

third : (t u : Text) (r : Result Text GeoFault) → ((r >>= λ b. Ok (u ++ b)) >>= λ v. Ok (t ++ v)) ≡ (r >>= λ b. Ok ((t ++ u) ++ b))
third t u (Ok b) = ap (λ (z : Text). Ok z) (sym (append_assoc t u b))
third t u (Err e) = refl

regrouped : (r q l : Result Text GeoFault)
    → (r >>= λ t. (q >>= λ a. l >>= λ b. Ok (a ++ b)) >>= λ u. Ok (t ++ u)) ≡ ((r >>= λ t. q >>= λ u. Ok (t ++ u)) >>= λ a. l >>= λ b. Ok (a ++ b))
regrouped (Ok t) (Ok u) l = third t u l
regrouped (Ok t) (Err e) l = refl
regrouped (Err e) q l = refl

nothing_before : (r : Result Text GeoFault) → (r >>= λ b. Ok ([] ++ b)) ≡ r
nothing_before (Ok b) = refl
nothing_before (Err e) = refl

pub items_both : (flattens : Bool) (s : Style) (at : At) (xs ys : List Item)
    → items_texts flattens s at (xs ++ ys) ≡ (items_texts flattens s at xs >>= λ a. items_texts flattens s (after_items flattens at xs) ys >>= λ b. Ok (a ++ b))
unfolding items_texts after_items
items_both flattens s at [] ys = sym (nothing_before (items_texts flattens s at ys))
items_both flattens s at (x ∷ xs) ys =
    ap (λ r. item_text flattens s at x >>= λ t. r >>= λ u. Ok (t ++ u)) (items_both flattens s (after_item flattens at x) xs ys)
    ∙ regrouped (item_text flattens s at x) (items_texts flattens s (after_item flattens at x) xs) (items_texts flattens s (after_items flattens (after_item flattens at x) xs) ys)

pub from_both : (all : List (List (List (List Position)))) (n : ℕ) (ps qs : List Piece)
    → items_from n all (ps ++ qs) ≡ items_from n all ps ++ items_from (n + length (leaves_in ps)) all qs
unfolding leaves_in
from_both all n [] qs = ap (λ k. items_from k all qs) (sym (add-zero n))
from_both all n (starts h ∷ ps) qs = ap (λ z. Open h ∷ z) (from_both all n ps qs)
from_both all n (ends ∷ ps) qs = ap (λ z. Close ∷ z) (from_both all n ps qs)
from_both all n (leaf form head arcs ∷ ps) qs =
    ap (λ z. Leaf (numbered n form head (polygons_at all n)) ∷ z)
    (from_both all (n + 1) ps qs ∙ ap (λ k. items_from (n + 1) all ps ++ items_from k all qs) (add_assoc n 1 (length (leaves_in ps)) ∙ ap (λ k. n + k) (one-add (length (leaves_in ps)))))
from_both all n (text t ∷ ps) qs = ap (λ z. Kept t ∷ z) (from_both all n ps qs)
