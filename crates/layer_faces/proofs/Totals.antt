-- Sums of integers over lists.
use Rattle.kit_words.proofs.Common.{◌≡◌, ℕ, zero, suc, ◌+◌, ◌<◌, ◌≤◌, ℤ, pos, ◌+ℤ◌, ◌*ℤ◌, unsigned_abs, refl, sym, ap, ap₂, ◌∙◌, subst, arith, ints}
use Rattle.kit_words.proofs.Common.{List, [], ◌∷◌, ◌++◌, map, length, take, get_or, set, All, All-tail, inl, inr, cases_eq, length-set}
use Rattle.kit_words.proofs.Common.{get_or-set_same, get_or-set_other}
use Rattle.std.proofs.lemmas.List.Sums.{sum_by-cons}
use Rattle.std.specs.List.{flat_map, sum_by, swap}
use Rattle.std.specs.List.Sorted.{IsPermutation}
use Rattle.std.proofs.lemmas.List.Sorted.{IsPermutation-keeps}
use Rattle.grid_geometry.proofs.Algebra.{dist}
use Rattle.layer_faces.specs.Areas.{total}

ahead : (a b c d : ℤ) → b ≡ c +ℤ d → a +ℤ b ≡ a +ℤ c +ℤ d
ahead a b c d e = omega (arith, ints)

written : {X : Type 0} (l : List X) (i j : ℕ) (d : X) → i < length l → j < length l → get_or (set l i (get_or l j d)) j d ≡ get_or l j d
written l i j d p q = elim (cases_eq i j) [
  | inl e ↦ subst (λ k. get_or (set l i (get_or l j d)) k d ≡ get_or l j d) e (get_or-set_same l i (get_or l j d) d p)
  | inr n ↦ get_or-set_other l i j (get_or l j d) d (λ e. n (sym e))
]

module _ {X : Type 0} (f : X → ℤ) where
  pub total-append : (xs ys : List X) → total f (xs ++ ys) ≡ total f xs +ℤ total f ys
  total-append [] ys = omega (arith, ints)
  total-append (x ∷ xs) ys = let more = total-append xs ys in omega (arith, ints)

  pub total_push : (xs : List X) (x : X) → total f (xs ++ x ∷ []) ≡ total f xs +ℤ f x
  total_push xs x = let e = total-append xs (x ∷ []) in omega (arith, ints)

  -- one more, as at a step of a loop
  pub total_more : (xs : List X) (i : ℕ) (d : X) → i < length xs → total f (take (i + 1) xs) ≡ total f (take i xs) +ℤ f (get_or xs i d)
  total_more [] i d l = absurd (omega arith)
  total_more (x ∷ xs) zero d l = omega (arith, ints)
  total_more (x ∷ xs) (suc i) d l = let more = total_more xs i d (omega arith) in
      let e : suc i + 1 ≡ suc (i + 1) = omega arith in
      ap (λ k. total f (take k (x ∷ xs))) e ∙ ahead (f x) _ _ (f (get_or xs i d)) more

  -- a write at i
  pub total_set : (xs : List X) (i : ℕ) (y d : X) → i < length xs → total f (set xs i y) +ℤ f (get_or xs i d) ≡ total f xs +ℤ f y
  total_set [] i y d l = absurd (omega arith)
  total_set (x ∷ xs) zero y d l = omega (arith, ints)
  total_set (x ∷ xs) (suc i) y d l = let rest = total_set xs i y d (omega arith) in omega (arith, ints)

  pub total-map : {Y : Type 0} (h : Y → X) (ys : List Y) → total f (map h ys) ≡ total (λ y. f (h y)) ys
  total-map h [] = refl
  total-map h (y ∷ ys) = ap (λ z. f (h y) +ℤ z) (total-map h ys)

  pub total-flat_map : {Y : Type 0} (h : Y → List X) (ys : List Y) → total f (flat_map h ys) ≡ total (λ y. total f (h y)) ys
  total-flat_map h [] = refl
  total-flat_map h (y ∷ ys) = total-append (h y) (flat_map h ys) ∙ ap (λ z. total f (h y) +ℤ z) (total-flat_map h ys)

  total_swapped : (l : List X) (i j : ℕ) → i < length l → j < length l → total f (swap l i j) ≡ total f l
  total_swapped [] i j p q = absurd (omega arith)
  total_swapped (d ∷ ys) i j p q =
      let l = d ∷ ys in
      let a = get_or l i d in
      let b = get_or l j d in
      let short : j < length (set l i b) = rw length-set q in
      let first = total_set l i b d p in
      let second = total_set (set l i b) j a d short in
      let there : get_or (set l i b) j d ≡ b = written l i j d p q in
      let second' : total f (set (set l i b) j a) +ℤ f b ≡ total f (set l i b) +ℤ f a = rw there at second in
      omega (arith, ints)

  pub total_permuted : (xs ys : List X) → IsPermutation xs ys → total f ys ≡ total f xs
  total_permuted xs ys p =
      IsPermutation-keeps xs (λ l. total f l ≡ total f xs) refl (λ l i j li lj e. total_swapped l i j li lj ∙ e) ys p

-- the same terms
pub total_same : {X : Type 0} (f g : X → ℤ) (xs : List X) → All (λ x. f x ≡ g x) xs → total f xs ≡ total g xs
total_same f g [] h = refl
total_same f g (x ∷ xs) h = ap₂ ◌+ℤ◌ (h 0 x (omega arith)) (total_same f g xs (All-tail (λ x. f x ≡ g x) x xs h))

pub total_alike : {X : Type 0} (f g : X → ℤ) → ((x : X) → f x ≡ g x) → (xs : List X) → total f xs ≡ total g xs
total_alike f g h [] = refl
total_alike f g h (x ∷ xs) = ap₂ ◌+ℤ◌ (h x) (total_alike f g h xs)

pub total_none : {X : Type 0} (xs : List X) → total (λ x. pos 0) xs ≡ pos 0
total_none [] = refl
total_none (x ∷ xs) = let e = total_none xs in omega (arith, ints)

-- a sum of two terms
pub total_both : {X : Type 0} (f g : X → ℤ) (xs : List X) → total (λ x. f x +ℤ g x) xs ≡ total f xs +ℤ total g xs
total_both f g [] = refl
total_both f g (x ∷ xs) = let e = total_both f g xs in omega (arith, ints)

-- a factor
apart_times : (k y z : ℤ) → k *ℤ (y +ℤ z) ≡ k *ℤ y +ℤ k *ℤ z
apart_times k y z = dist k y z

pub total_times : {X : Type 0} (k : ℤ) (f : X → ℤ) (xs : List X) → total (λ x. k *ℤ f x) xs ≡ k *ℤ total f xs
total_times k f [] = omega (arith, ints)
total_times k f (x ∷ xs) = ap (λ z. k *ℤ f x +ℤ z) (total_times k f xs) ∙ sym (apart_times k (f x) (total f xs))

-- no further from 0 than the terms are together
pub total_within : {X : Type 0} (f : X → ℤ) (g : X → ℕ) → ((x : X) → unsigned_abs (f x) ≤ g x) → (xs : List X) → unsigned_abs (total f xs) ≤ sum_by g xs
total_within f g h [] = omega arith
total_within f g h (x ∷ xs) = let e = total_within f g h xs in let here = h x in rw (sum_by-cons g x xs) (omega (arith, ints))
