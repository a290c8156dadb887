-- Lists that ascend, with one element more at their end.
use Rattle.kit_words.proofs.Common.{◌≡◌, ℕ, zero, suc, ℤ, ◌≤ℤ◌, ◌<ℤ◌, refl, subst, List, [], ◌∷◌, ◌++◌, map, length}
use Rattle.kit_words.proofs.Common.{get_or, arith, AllByRecursion, IsStrictlySortedBy, int_cmp, IsTotalOrder, Ordering}
use Rattle.kit_words.proofs.Common.{Less, int_ranked, by_ranked, ints, all_weaker}

each_push : {X : Type 0} (P : X → Type 0) (xs : List X) (y : X) → AllByRecursion P xs → P y → AllByRecursion P (xs ++ y ∷ [])
each_push P [] y h k = (k, tt)
each_push P (x ∷ xs) y h k = (h.0, each_push P xs y h.1 k)

-- one element more, greater than all
pub sorted_push : {X : Type 0} (cmp : X → X → Ordering) (xs : List X) (y : X) → IsStrictlySortedBy cmp xs
    → AllByRecursion (λ x. cmp x y ≡ Less) xs → IsStrictlySortedBy cmp (xs ++ y ∷ [])
unfolding IsStrictlySortedBy
sorted_push cmp [] y h k = (tt, tt)
sorted_push cmp (x ∷ xs) y h k = (each_push (λ z. cmp x z ≡ Less) xs y h.0 k.0, sorted_push cmp xs y h.1 k.1)

-- what is greater than the last one is greater than all
pub past_last : {X K : Type 0} (f : X → K) (cmp : K → K → Ordering) → IsTotalOrder cmp → (xs : List X) (n : ℕ) (x : X) (y : K)
    → length xs ≡ suc n → x ≡ get_or xs n x → cmp (f x) y ≡ Less → IsStrictlySortedBy cmp (map f xs) → AllByRecursion (λ z. cmp z y ≡ Less) (map f xs)
unfolding IsStrictlySortedBy
past_last f cmp total [] n x y l e h s = tt
past_last f cmp total (a ∷ []) zero x y l e h s = (subst (λ z. cmp (f z) y ≡ Less) e h, tt)
past_last f cmp total (a ∷ []) (suc n) x y l e h s = absurd (omega arith)
past_last f cmp total (a ∷ b ∷ xs) zero x y l e h s = absurd (omega arith)
past_last f cmp total (a ∷ b ∷ xs) (suc n) x y l e h s =
    let k = past_last f cmp total (b ∷ xs) n x y (omega arith) e h s.1 in
    (total.trans (f a) (f b) y s.0.0 k.0, k)

-- ---- numbers

pub is_less : (x y : ℤ) → x <ℤ y → int_cmp x y ≡ Less
is_less x y h =
    by_ranked (x <ℤ y) (x ≡ y) (y <ℤ x) {G = int_cmp x y ≡ Less} (int_cmp x y) (int_ranked x y (int_cmp x y) refl)
    (λ e k. e) (λ e k. absurd (omega (arith, ints))) (λ e k. absurd (omega (arith, ints)))

-- the numbers ascend, and none is above r
pub record Rising (zs : List ℤ) (r : ℤ) : Type 0 where
  pub sorted : IsStrictlySortedBy int_cmp zs
  pub below : AllByRecursion (λ z. z ≤ℤ r) zs

pub rising_push : (zs : List ℤ) (r y : ℤ) → Rising zs r → r <ℤ y → Rising (zs ++ y ∷ []) y
rising_push zs r y h k = record {
  sorted = sorted_push int_cmp zs y h.sorted (all_weaker (λ z. z ≤ℤ r) (λ z. int_cmp z y ≡ Less) (λ z b. is_less z y (under z b)) zs h.below);
  below = each_push (λ z. z ≤ℤ y) zs y (all_weaker (λ z. z ≤ℤ r) (λ z. z ≤ℤ y) (λ z b. up z b) zs h.below) (omega (arith, ints));
}
  where
    under : (z : ℤ) → z ≤ℤ r → z <ℤ y
    under z b = omega (arith, ints)

    up : (z : ℤ) → z ≤ℤ r → z ≤ℤ y
    up z b = omega (arith, ints)

pub rising_one : (y : ℤ) → Rising (y ∷ []) y
unfolding IsStrictlySortedBy
rising_one y = record { sorted = (tt, tt); below = (omega (arith, ints), tt) }
