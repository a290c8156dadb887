-- The polygons of features that are taken off one after another.
use Rattle.kit_words.proofs.Common.{◌≡◌, ◌∙◌, ℕ, zero, suc, ◌+◌, ◌++◌, ◌∷◌, [], List, ap, ap₂, sym, refl, arith, length, map, take, drop, replicate}
use Rattle.kit_words.proofs.Common.{append_assoc, append-nil, length-append, length-replicate, take_all}
use Rattle.std.specs.List.{range_with_len}
use Rattle.layer_sides.specs.Common.{Polygon}
use Rattle.cover_report.specs.Layers.{numbers_in, owners_from, polygons_in}

-- what came to the end was the first of what was to come
pub joined : {B : Type 0} (now was part left all : List B) → now ≡ was ++ part → was ++ (part ++ left) ≡ all → now ++ left ≡ all
joined now was part left all e h = ap (λ z. z ++ left) e ∙ append_assoc was part left ∙ h

module _ {X : Type 0} (v : X → List Polygon) where
  none_taken : (k : ℕ) → map v (take k []) ≡ []
  none_taken k = ap (map v) (take_all {A = X} k [] (omega arith))

  pub polygons_step : (xs : List X) (k : ℕ) → polygons_in (map v (take (suc k) xs)) ≡ polygons_in (map v (take 1 xs)) ++ polygons_in (map v (take k (drop 1 xs)))
  polygons_step [] k = sym (ap polygons_in (none_taken k))
  polygons_step (x ∷ xs) k = ap (λ z. z ++ polygons_in (map v (take k xs))) (sym (append-nil (v x)))

  pub numbers_step : (xs : List X) (k : ℕ) → numbers_in (map v (take (suc k) xs)) ≡ numbers_in (map v (take 1 xs)) ++ numbers_in (map v (take k (drop 1 xs)))
  numbers_step [] k = sym (ap numbers_in (none_taken k))
  numbers_step (x ∷ xs) k = ap (λ z. z ++ numbers_in (map v (take k xs))) (sym (append-nil (range_with_len 0 (length (v x)))))

  pub owners_step : (xs : List X) (n k : ℕ) → owners_from n (map v (take (suc k) xs)) ≡ owners_from n (map v (take 1 xs)) ++ owners_from (suc n) (map v (take k (drop 1 xs)))
  owners_step [] n k = sym (ap (owners_from (suc n)) (none_taken k))
  owners_step (x ∷ xs) n k = ap (λ z. z ++ owners_from (suc n) (map v (take k xs))) (sym (append-nil (replicate (length (v x)) n)))

  -- those of one feature more were taken off
  pub polygons_next : (before after : List X) (now was all : List Polygon) (m k : ℕ) → m ≡ suc k → after ≡ drop 1 before
      → now ≡ was ++ polygons_in (map v (take 1 before)) → was ++ polygons_in (map v (take m before)) ≡ all → now ++ polygons_in (map v (take k after)) ≡ all
  polygons_next before after now was all m k e d f h =
      joined now was (polygons_in (map v (take 1 before))) (polygons_in (map v (take k after))) all f
      (ap (λ z. was ++ z) (sym (ap (λ n. polygons_in (map v (take n before))) e ∙ polygons_step before k
      ∙ ap (λ z. polygons_in (map v (take 1 before)) ++ polygons_in (map v (take k z))) (sym d))) ∙ h)

  pub numbers_next : (before after : List X) (now was all : List ℕ) (m k : ℕ) → m ≡ suc k → after ≡ drop 1 before
      → now ≡ was ++ numbers_in (map v (take 1 before)) → was ++ numbers_in (map v (take m before)) ≡ all → now ++ numbers_in (map v (take k after)) ≡ all
  numbers_next before after now was all m k e d f h =
      joined now was (numbers_in (map v (take 1 before))) (numbers_in (map v (take k after))) all f
      (ap (λ z. was ++ z) (sym (ap (λ n. numbers_in (map v (take n before))) e ∙ numbers_step before k
      ∙ ap (λ z. numbers_in (map v (take 1 before)) ++ numbers_in (map v (take k z))) (sym d))) ∙ h)

  pub owners_next : (before after : List X) (n n' : ℕ) (now was all : List ℕ) (m k : ℕ) → n' ≡ suc n → m ≡ suc k → after ≡ drop 1 before
      → now ≡ was ++ owners_from n (map v (take 1 before)) → was ++ owners_from n (map v (take m before)) ≡ all → now ++ owners_from n' (map v (take k after)) ≡ all
  owners_next before after n n' now was all m k one e d f h =
      ap (λ j. now ++ owners_from j (map v (take k after))) one
      ∙ joined now was (owners_from n (map v (take 1 before))) (owners_from (suc n) (map v (take k after))) all f
      (ap (λ z. was ++ z) (sym (ap (λ j. owners_from n (map v (take j before))) e ∙ owners_step before n k
      ∙ ap (λ z. owners_from n (map v (take 1 before)) ++ owners_from (suc n) (map v (take k z))) (sym d))) ∙ h)

-- none are left to be taken off
pub none_left : {X B : Type 0} (of : List X → List B) (xs : List X) (m : ℕ) (now all : List B) → of [] ≡ [] → m ≡ 0 → now ++ of (take m xs) ≡ all → now ≡ all
none_left of xs m now all none e h = sym (append-nil now) ∙ ap (λ z. now ++ z) (sym (ap (λ n. of (take n xs)) e ∙ none)) ∙ h

-- one less is left out
pub left_out : {X : Type 0} (before after all : List X) (m k : ℕ) → m ≡ suc k → after ≡ drop 1 before → drop m before ≡ all → drop k after ≡ all
left_out {X = X} before after all m k e d h = ap (drop k) d ∙ by before ∙ ap (λ n. drop n before) (sym e) ∙ h
  where
    by : (xs : List X) → drop k (drop 1 xs) ≡ drop (suc k) xs
    by [] = none k
      where
        none : (n : ℕ) → drop {A = X} n [] ≡ []
        none zero = refl
        none (suc n) = refl
    by (x ∷ xs) = refl

pub none_out : {X : Type 0} (xs all : List X) (m : ℕ) → m ≡ 0 → drop m xs ≡ all → xs ≡ all
none_out xs all m e h = sym (ap (λ n. drop n xs) e) ∙ h

-- there are as many owners, and as many numbers, as polygons
pub owners_length : (n : ℕ) (features : List (List Polygon)) → length (owners_from n features) ≡ length (polygons_in features)
owners_length n [] = refl
owners_length n (f ∷ features) =
    length-append (replicate (length f) n) (owners_from (suc n) features)
    ∙ ap₂ (λ (x y : ℕ). x + y) (length-replicate (length f) n) (owners_length (suc n) features)
    ∙ sym (length-append f (polygons_in features))
