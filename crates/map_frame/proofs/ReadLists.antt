-- A list's element by its number, as the code reads it.
use Rattle.kit_words.proofs.Common.{◌≡◌, ℕ, ◌<◌, ◌≤◌, refl, sym, ap, ◌∙◌, List, [], ◌∷◌, ◌++◌, length, map, get_or}
use Rattle.kit_words.proofs.Common.{Option, Some, None, option_map, Vec, slice_get-map, slice_get_past, slice_get_read}
use Rattle.std.specs.List.{slice_get}
use Rattle.map_frame.specs.Common.{polygon_numbers, element}

module _ {X : Type 0} (xs s : List X) (i : ℕ) (same : s ≡ xs) where
  -- an element that a slice of the list gave
  pub got : (x : X) → i < length s → x ≡ get_or s i x → slice_get xs i ≡ Some x
  got x l e = ap (λ z. slice_get z i) (sym same) ∙ slice_get_read s (length s) i x refl l e

  -- and past its end
  pub got_none : length s ≤ i → slice_get xs i ≡ None
  got_none l = ap (λ z. slice_get z i) (sym same) ∙ slice_get_past s i l

-- the element after a list
pub got_behind : {X : Type 0} (xs : List X) (x : X) (ys : List X) → slice_get (xs ++ x ∷ ys) (length xs) ≡ Some x
got_behind [] x ys = refl
got_behind (z ∷ xs) x ys = got_behind xs x ys

-- what is made of an element, as the code makes it
pub mapped_got : {X Y : Type 0} (g : X → Y) (xs : List X) (i : ℕ) (x : X) (y : Y) → i < length xs → x ≡ get_or xs i x
    → y ≡ g x → slice_get (map g xs) i ≡ Some y
mapped_got g xs i x y l e made =
    slice_get-map g xs i ∙ ap (option_map g) (slice_get_read xs (length xs) i x refl l e) ∙ ap Some (sym made)

-- the ring of a feature of these polygons, by what stands at the polygon's place
pub ring_as : {A : Type 0} (o : Option (List (List ℕ))) (ps : List (Vec ℕ A)) (polygon ring : ℕ) (x : Option (Vec ℕ A))
    → Some (map polygon_numbers ps) ≡ o → slice_get ps polygon ≡ x
    → element (option_map polygon_numbers x) ring ≡ element (element o polygon) ring
ring_as o ps polygon ring x e at =
    ap (λ z. element (option_map polygon_numbers z) ring) (sym at)
    ∙ ap (λ z. element z ring) (sym (slice_get-map polygon_numbers ps polygon))
    ∙ ap (λ z. element (element z polygon) ring) e
