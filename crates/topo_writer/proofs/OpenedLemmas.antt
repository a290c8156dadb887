-- The items of a layer, one after another.
use Rattle.kit_words.proofs.Common.{◌≡◌, ℤ, Bool, true, false, refl, sym, ap, ◌∙◌, List, [], ◌∷◌, ◌++◌, length}
use Rattle.kit_words.proofs.Common.{append_assoc, false≢true}
use Rattle.ring_machine.specs.Common.{Head, ItemOf, Open, Close, Leaf, Kept, is_geometry, is_inner}
use Rattle.map_text.specs.Common.{comma_if, closing_text, feature_text, items_text, opening_text}
use Rattle.topo_writer.specs.Common.{open_after, more_after, is_begin}

-- a text before, between and after
between : {A : Type 0} (a b c d : List A) → a ++ (b ++ (c ++ d)) ≡ (a ++ (b ++ c)) ++ d
between a b c d = sym (append_assoc a (b ++ c) d ∙ ap (λ z. a ++ z) (append_assoc b c d))

-- the text of items is that of the first ones, and of the others in the collections that are open
-- there
pub items_both : (heads : List Head) (more : Bool) (xs ys : List (ItemOf (List ℤ))) → is_begin heads xs ≡ true
    → items_text heads more (xs ++ ys) ≡ items_text heads more xs ++ items_text (open_after heads xs) (more_after more xs) ys
items_both heads more [] ys h = refl
items_both heads more (Open o ∷ xs) ys h =
    ap (λ z. comma_if more ++ (opening_text o ++ z)) (items_both (o ∷ heads) false xs ys h)
    ∙ between (comma_if more) (opening_text o) (items_text (o ∷ heads) false xs) (items_text (open_after (o ∷ heads) xs) (more_after false xs) ys)
items_both [] more (Close ∷ xs) ys h = absurd (false≢true h)
items_both (o ∷ heads) more (Close ∷ xs) ys h =
    ap (λ z. closing_text o ++ z) (items_both heads true xs ys h)
    ∙ sym (append_assoc (closing_text o) (items_text heads true xs) (items_text (open_after heads xs) (more_after true xs) ys))
items_both heads more (Leaf f ∷ xs) ys h =
    ap (λ z. comma_if more ++ (feature_text f ++ z)) (items_both heads true xs ys h)
    ∙ between (comma_if more) (feature_text f) (items_text heads true xs) (items_text (open_after heads xs) (more_after true xs) ys)
items_both heads more (Kept t ∷ xs) ys h =
    ap (λ z. comma_if more ++ (t ++ z)) (items_both heads true xs ys h)
    ∙ between (comma_if more) t (items_text heads true xs) (items_text (open_after heads xs) (more_after true xs) ys)

-- ---- a geometry is a begin

inner_begins : {R : Type 0} (heads : List Head) (items : List (ItemOf R)) → is_inner (length heads) items ≡ true → is_begin heads items ≡ true
inner_begins [] [] h = refl
inner_begins [] (i ∷ items) h = absurd (false≢true h)
inner_begins (o ∷ heads) [] h = refl
inner_begins (o ∷ heads) (Open p ∷ items) h = inner_begins (p ∷ o ∷ heads) items h
inner_begins (o ∷ heads) (Close ∷ items) h = inner_begins heads items h
inner_begins (o ∷ heads) (Leaf f ∷ items) h = inner_begins (o ∷ heads) items h
inner_begins (o ∷ heads) (Kept t ∷ items) h = inner_begins (o ∷ heads) items h

pub geometry_begins : {R : Type 0} (items : List (ItemOf R)) → is_geometry items ≡ true → is_begin [] items ≡ true
geometry_begins [] h = refl
geometry_begins (Open o ∷ items) h = inner_begins (o ∷ []) items h
geometry_begins (Close ∷ items) h = absurd (false≢true h)
geometry_begins (Leaf f ∷ items) h = inner_begins [] items h
geometry_begins (Kept t ∷ items) h = inner_begins [] items h

-- the first items of a begin are one
pub begin_left : {R : Type 0} (heads : List Head) (xs ys : List (ItemOf R)) → is_begin heads (xs ++ ys) ≡ true → is_begin heads xs ≡ true
begin_left heads [] ys h = refl
begin_left heads (Open o ∷ xs) ys h = begin_left (o ∷ heads) xs ys h
begin_left [] (Close ∷ xs) ys h = absurd (false≢true h)
begin_left (o ∷ heads) (Close ∷ xs) ys h = begin_left heads xs ys h
begin_left heads (Leaf f ∷ xs) ys h = begin_left heads xs ys h
begin_left heads (Kept t ∷ xs) ys h = begin_left heads xs ys h
