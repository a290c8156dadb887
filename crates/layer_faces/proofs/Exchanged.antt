-- The lists of elements, one after another, where the elements stand in another order.
use Rattle.kit_words.proofs.Common.{◌≡◌, ℕ, zero, suc, ◌<◌, arith, subst, sym, All, List, [], ◌∷◌, ◌++◌, append_assoc, length, get_or, set, IsPermutation}
use Rattle.std.specs.List.{flat_map, range_with_len, swap}
use Rattle.std.proofs.lemmas.List.FromFn.{get_or-range_with_len, length-range_with_len}
use Rattle.std.proofs.lemmas.List.Sorted.{All-permutation, IsPermutation-append_comm, IsPermutation-append_left, IsPermutation-append_right, IsPermutation-keeps, IsPermutation-refl, IsPermutation-trans}

front : {Y : Type 0} (a b c : List Y) → IsPermutation (a ++ (b ++ c)) (b ++ (a ++ c))
front a b c =
    subst (λ l. IsPermutation l (b ++ (a ++ c))) (append_assoc a b c)
    (subst (λ l. IsPermutation ((a ++ b) ++ c) l) (append_assoc b a c) (IsPermutation-append_left c (a ++ b) (b ++ a) (IsPermutation-append_comm a b)))

module _ {X Y : Type 0} (f : X → List Y) where
  moved_in : (d y : X) (l : List X) (i : ℕ) → i < length l → IsPermutation (f y ++ flat_map f l) (f (get_or l i d) ++ flat_map f (set l i y))
  moved_in d y [] i h = absurd (omega arith)
  moved_in d y (z ∷ zs) zero h = front (f y) (f z) (flat_map f zs)
  moved_in d y (z ∷ zs) (suc i) h =
      let a = f y in
      let b = f z in
      let c = f (get_or zs i d) in
      let old = flat_map f zs in
      let new = flat_map f (set zs i y) in
      IsPermutation-trans (a ++ (b ++ old)) (b ++ (a ++ old)) (c ++ (b ++ new)) (front a b old)
      (IsPermutation-trans (b ++ (a ++ old)) (b ++ (c ++ new)) (c ++ (b ++ new))
      (IsPermutation-append_right b (a ++ old) (c ++ new) (moved_in d y zs i (omega arith))) (front b c new))

  exchanged_in : (d : X) (l : List X) (i j : ℕ) → i < length l → j < length l
      → IsPermutation (flat_map f l) (flat_map f (set (set l i (get_or l j d)) j (get_or l i d)))
  exchanged_in d [] i j h k = absurd (omega arith)
  exchanged_in d (x ∷ xs) zero zero h k = IsPermutation-refl (flat_map f (x ∷ xs))
  exchanged_in d (x ∷ xs) zero (suc j) h k = moved_in d x xs j (omega arith)
  exchanged_in d (x ∷ xs) (suc i) zero h k = moved_in d x xs i (omega arith)
  exchanged_in d (x ∷ xs) (suc i) (suc j) h k =
      IsPermutation-append_right (f x) (flat_map f xs) (flat_map f (set (set xs i (get_or xs j d)) j (get_or xs i d)))
      (exchanged_in d xs i j (omega arith) (omega arith))

  exchanged : (l : List X) (i j : ℕ) → i < length l → j < length l → IsPermutation (flat_map f l) (flat_map f (swap l i j))
  exchanged [] i j h k = absurd (omega arith)
  exchanged (x ∷ xs) i j h k = exchanged_in x (x ∷ xs) i j h k

  pub flat_permuted : (xs ys : List X) → IsPermutation xs ys → IsPermutation (flat_map f xs) (flat_map f ys)
  flat_permuted xs ys p =
      IsPermutation-keeps xs (λ l. IsPermutation (flat_map f xs) (flat_map f l)) (IsPermutation-refl (flat_map f xs))
      (λ l i j h k so_far. IsPermutation-trans (flat_map f xs) (flat_map f l) (flat_map f (swap l i j)) so_far (exchanged l i j h k)) ys p

  -- the elements of what they join to are still all
  pub still_all : (all ms : List Y) (xs ys : List X) → IsPermutation all ms → flat_map f xs ≡ ms → IsPermutation xs ys → IsPermutation all (flat_map f ys)
  still_all all ms xs ys p e q =
      IsPermutation-trans all (flat_map f xs) (flat_map f ys) (subst (IsPermutation all) (sym e) p) (flat_permuted xs ys q)

-- the numbers below n, in whatever order
pub numbers_below : (n : ℕ) (ms : List ℕ) → IsPermutation (range_with_len 0 n) ms → All (λ m. m < n) ms
numbers_below n ms p =
    All-permutation (λ m. m < n) (range_with_len 0 n) ms p
    (λ k d l. let short : k < n = omega (arith, l, length-range_with_len 0 n) in let at = get_or-range_with_len 0 n k d short in omega (arith, short, at))
