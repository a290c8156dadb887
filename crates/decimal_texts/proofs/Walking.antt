-- Geometries, one after another, as a loop meets them.
use Rattle.kit_words.proofs.Common.{◌≡◌, ℕ, zero, suc, ◌+◌, ◌<◌, ◌≤◌, ◌-◌, ◌≢◌, List, [], ◌∷◌, ◌++◌, length, map, drop}
use Rattle.kit_words.proofs.Common.{get_or, Bool, true, false, refl, sym, ◌∙◌, sub-one, add-one, drop-cons, append-nil}
use Rattle.kit_words.proofs.Common.{map-append, drop_all, flat_map, fold}
use Rattle.json_spans.specs.Common.{Node, node, items}
use Rattle.json_spans.specs.declared.span.Span.{Span}
use Rattle.decimal_texts.specs.Common.{says, value_named, is_of, collected, geometries_in, without_line}
use Rattle.decimal_texts.specs.declared.geometries.Shape.{Shape}

-- ---- members

pub value_there : (name : List ℕ) (m : Node × Node) (ms left : List (Node × Node)) (b : Bool) (whole : List Node) → left ≡ m ∷ ms → b ≡ says name m.0 → b ≡ true → value_named name left ≡ whole → m.1 ∷ [] ≡ whole
unfolding value_named
value_there name m ms left b whole e is right h = rw (e, sym is ∙ right) at h

pub value_later : (name : List ℕ) (m : Node × Node) (ms left : List (Node × Node)) (b : Bool) (whole : List Node) → left ≡ m ∷ ms → b ≡ says name m.0 → b ≡ false → value_named name left ≡ whole → value_named name ms ≡ whole
unfolding value_named
value_later name m ms left b whole e is wrong h = rw (e, sym is ∙ wrong) at h

pub no_value : (name : List ℕ) (left : List (Node × Node)) (whole : List Node) → left ≡ [] → value_named name left ≡ whole → [] ≡ whole
unfolding value_named
no_value name left whole e h = rw e at h

-- ---- a geometry

pub at_end : (k : Shape) (d : ℕ) (n : Node) (old : List Node) → d ≡ 0 → old ≡ old ++ geometries_in k d n
unfolding geometries_in
at_end k d n old z = rw (z, append-nil) refl

of_shape : (k : Shape) (d : ℕ) (n : Node) → d ≢ 0 → is_of k n ≡ true → geometries_in k d n ≡ n ∷ []
unfolding geometries_in
of_shape k zero n z is = absurd (z refl)
of_shape k (suc d) n z is = rw is refl

pub shape_pushed : (k : Shape) (d : ℕ) (s : Span) (old new : List Span) (b : Bool) → d ≢ 0 → b ≡ is_of k (node s) → b ≡ true → new ≡ old ++ s ∷ [] → map node new ≡ map node old ++ geometries_in k d (node s)
shape_pushed k d s old new b z is right e = rw (e, map-append, of_shape k d (node s) z (sym is ∙ right)) refl

of_parts : (k : Shape) (d : ℕ) (n : Node) (parts : List Node) → d ≢ 0 → is_of k n ≡ false → parts ≡ collected n → geometries_in k d n ≡ flat_map (geometries_in k (d - 1)) (flat_map items parts)
unfolding geometries_in
of_parts k zero n parts z is e = absurd (z refl)
of_parts k (suc d) n parts z is e = let back : suc d - 1 ≡ d = sub-one (suc d) in rw (is, ← e, back) refl

pub of_none : (k : Shape) (d : ℕ) (n : Node) (old : List Node) (b : Bool) → d ≢ 0 → b ≡ is_of k n → b ≡ false → [] ≡ collected n → old ≡ old ++ geometries_in k d n
of_none k d n old b z is wrong e = rw (of_parts k d n [] z (sym is ∙ wrong) e, append-nil) refl

pub of_items : (k : Shape) (d : ℕ) (n list : Node) (old left : List Node) (b : Bool) → d ≢ 0 → b ≡ is_of k n → b ≡ false → list ∷ [] ≡ collected n → left ≡ items list → old ++ flat_map (geometries_in k (d - 1)) left ≡ old ++ geometries_in k d n
of_items k d n list old left b z is wrong e l = rw (of_parts k d n (list ∷ []) z (sym is ∙ wrong) e, l, append-nil (items list)) refl

-- ---- line after line

pub fold_step : (lines : List Span) (i : ℕ) (d : Span) (text : List ℕ) → i < length lines → fold without_line text (map node (drop i lines)) ≡ fold without_line (without_line text (node (get_or lines i d))) (map node (drop (i + 1) lines))
fold_step lines i d text lt = rw (drop-cons lines i d lt, add-one i) refl

pub fold_end : (lines : List Span) (i : ℕ) (text : List ℕ) → length lines ≤ i → fold without_line text (map node (drop i lines)) ≡ text
fold_end lines i text le = rw (drop_all i lines le) refl
