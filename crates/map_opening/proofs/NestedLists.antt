-- Lists of lists of lists, and all that stands in them.
use Rattle.kit_words.proofs.Common.{◌≡◌, refl, sym, ap, ap₂, ◌∙◌, List, [], ◌∷◌, ◌++◌, map, length, get_or, drop, arith}
use Rattle.kit_words.proofs.Common.{length-map, map-append, map-id, length-append}
use Rattle.map_opening.specs.Common.{in_lists, rings_of_features, shape_of}

parts : {A : Type 0} (xs ys us vs : List A) → length xs ≡ length ys → xs ++ us ≡ ys ++ vs
    → (xs ≡ ys) × (us ≡ vs)
parts [] [] us vs l e = (refl, e)
parts [] (y ∷ ys) us vs l e = absurd (omega (arith, l))
parts (x ∷ xs) [] us vs l e = absurd (omega (arith, l))
parts (x ∷ xs) (y ∷ ys) us vs l e =
    let k = parts xs ys us vs (omega (arith, l)) (ap (drop 1) e) in
    (ap₂ (λ a b. a ∷ b) (ap (λ z. get_or z 0 x) e) k.0, k.1)

as_long : {A B : Type 0} (xss : List (List A)) (yss : List (List B))
    → map length xss ≡ map length yss → length (in_lists xss) ≡ length (in_lists yss)
as_long [] [] l = refl
as_long [] (ys ∷ yss) l = absurd (omega (arith, ap length l))
as_long (xs ∷ xss) [] l = absurd (omega (arith, ap length l))
as_long (xs ∷ xss) (ys ∷ yss) l =
    omega (arith, length-append xs (in_lists xss), length-append ys (in_lists yss), ap (λ z. get_or z 0 0) l, as_long xss yss (ap (drop 1) l))

-- ---- lists of one shape

module _ {A B C : Type 0} (f : A → C) (g : B → C) where
  same_polygons : (xss : List (List A)) (yss : List (List B)) → map length xss ≡ map length yss
      → map f (in_lists xss) ≡ map g (in_lists yss) → map (map f) xss ≡ map (map g) yss
  same_polygons [] [] l e = refl
  same_polygons [] (ys ∷ yss) l e = absurd (omega (arith, ap length l))
  same_polygons (xs ∷ xss) [] l e = absurd (omega (arith, ap length l))
  same_polygons (xs ∷ xss) (ys ∷ yss) l e =
      let k = parts (map f xs) (map g ys) (map f (in_lists xss)) (map g (in_lists yss))
      (length-map xs f ∙ ap (λ z. get_or z 0 0) l ∙ sym (length-map ys g))
      (sym (map-append f xs (in_lists xss)) ∙ e ∙ map-append g ys (in_lists yss)) in
      ap₂ (λ a b. a ∷ b) k.0 (same_polygons xss yss (ap (drop 1) l) k.1)

  -- lists of one shape in which the same stands are the same
  same_features : (xs : List (List (List A))) (ys : List (List (List B)))
      → shape_of xs ≡ shape_of ys
      → map f (rings_of_features xs) ≡ map g (rings_of_features ys) → map (map (map f)) xs ≡ map (map (map g)) ys
  same_features [] [] l e = refl
  same_features [] (y ∷ ys) l e = absurd (omega (arith, ap length l))
  same_features (x ∷ xs) [] l e = absurd (omega (arith, ap length l))
  same_features (x ∷ xs) (y ∷ ys) l e =
      let first : map length x ≡ map length y = ap (λ z. get_or z 0 []) l in
      let k = parts (map f (in_lists x)) (map g (in_lists y)) (map f (rings_of_features xs)) (map g (rings_of_features ys))
      (length-map (in_lists x) f ∙ as_long x y first ∙ sym (length-map (in_lists y) g))
      (sym (map-append f (in_lists x) (rings_of_features xs)) ∙ e ∙ map-append g (in_lists y) (rings_of_features ys)) in
      ap₂ (λ a b. a ∷ b) (same_polygons x y first k.0) (same_features xs ys (ap (drop 1) l) k.1)

-- ---- made flat, and put into lists again

module _ {A C : Type 0} (f : A → C) where
  mapped_itself : (xs : List (List (List C))) → map (map (map (λ x. x))) xs ≡ xs
  mapped_itself xs =
      ap (λ (m : List C → List C). map (map m) xs) (λ i l. map-id l i)
      ∙ ap (λ (m : List (List C) → List (List C)). map m xs) (λ i l. map-id l i) ∙ map-id xs

  -- features of one shape are the same where their rings are
  pub put_again : (features : List (List (List C))) (again : List (List (List A))) → shape_of again ≡ shape_of features
      → map f (rings_of_features again) ≡ rings_of_features features → map (map (map f)) again ≡ features
  put_again features again alike e =
      same_features f (λ x. x) again features alike (e ∙ sym (map-id (rings_of_features features))) ∙ mapped_itself features
