-- Adding areas to those of polygons by their numbers.
use Rattle.kit_words.proofs.Common.{◌≡◌, ℕ, zero, suc, ◌+◌, ◌*◌, ◌<◌, ◌≤◌, ◌^◌, ℤ, pos, ◌+ℤ◌, ◌*ℤ◌, unsigned_abs, refl, sym, ap, ◌∙◌, subst, arith, ints, cond, eqb, true, false}
use Rattle.kit_words.proofs.Common.{List, length, get_or, set, take, inl, inr, cases_eq, eq-eqb, ne_eqb, get_or-set_same, get_or-set_other, unsigned_abs-mul}
use Rattle.std.proofs.lemmas.List.{length-take}
use Rattle.std.specs.List.{count_by}
use Rattle.std.proofs.Math.IntN.{suc_ℤ-*ℤ}
use Rattle.std.proofs.Math.Nat.{mul-le-mul_right}
use Rattle.std.proofs.lemmas.List.Sums.{count_by-le-length, sum_by_more}
use Rattle.layer_faces.specs.Areas.{total}
use Rattle.layer_faces.proofs.Totals.{total_set}

-- once more
pub once_more : (n : ℕ) (z : ℤ) → pos (n + 1) *ℤ z ≡ pos n *ℤ z +ℤ z
once_more n z = let e : n + 1 ≡ suc n = omega arith in rw e (suc_ℤ-*ℤ (pos n) z)

gathered : (a b c d : ℤ) → a ≡ b +ℤ c → a +ℤ d ≡ b +ℤ (c +ℤ d)
gathered a b c d e = omega (arith, ints)

counted_here : (n k m : ℕ) → n ≡ m → n ≡ k → cond (eqb m k) (suc zero) zero ≡ suc zero
counted_here n k m e same = let t : eqb m k ≡ true = eq-eqb m k (sym e ∙ same) in rw t refl

counted_not : (n k m : ℕ) → n ≡ m → (n ≡ k → ⊥) → cond (eqb m k) (suc zero) zero ≡ zero
counted_not n k m e other = let t : eqb m k ≡ false = ne_eqb m k (λ f. other (e ∙ f)) in rw t refl

pub add_each : (old areas : List ℤ) (numbers : List ℕ) (i n : ℕ) (area v : ℤ) → i < length numbers → n ≡ get_or numbers i n
    → n < length areas → v ≡ get_or areas n (pos 0) +ℤ area
    → ((k : ℕ) → get_or areas k (pos 0) ≡ get_or old k (pos 0) +ℤ pos (count_by (λ m. eqb m k) (take i numbers)) *ℤ area)
    → (k : ℕ) → get_or (set areas n v) k (pos 0) ≡ get_or old k (pos 0) +ℤ pos (count_by (λ m. eqb m k) (take (i + 1) numbers)) *ℤ area
add_each old areas numbers i n area v l e within is h k = elim (cases_eq n k) [
  | inl same ↦
      let one : cond (eqb (get_or numbers i n) k) 1 0 ≡ 1 = counted_here n k (get_or numbers i n) e same in
      let more : count_by (λ m. eqb m k) (take (i + 1) numbers) ≡ count_by (λ m. eqb m k) (take i numbers) + 1 =
      sum_by_more (λ m. cond (eqb m k) 1 0) numbers i n l ∙ ap (λ c. count_by (λ m. eqb m k) (take i numbers) + c) one in
      subst (λ j. get_or (set areas n v) j (pos 0) ≡ v) same (get_or-set_same areas n v (pos 0) within)
      ∙ is ∙ ap (λ y. y +ℤ area) (ap (λ j. get_or areas j (pos 0)) same)
      ∙ gathered (get_or areas k (pos 0)) (get_or old k (pos 0)) (pos (count_by (λ m. eqb m k) (take i numbers)) *ℤ area) area (h k)
      ∙ ap (λ y. get_or old k (pos 0) +ℤ y) (sym (once_more (count_by (λ m. eqb m k) (take i numbers)) area))
      ∙ ap (λ c. get_or old k (pos 0) +ℤ pos c *ℤ area) (sym more)
  | inr other ↦
      let none : cond (eqb (get_or numbers i n) k) 1 0 ≡ 0 = counted_not n k (get_or numbers i n) e other in
      let more : count_by (λ m. eqb m k) (take (i + 1) numbers) ≡ count_by (λ m. eqb m k) (take i numbers) =
      sum_by_more (λ m. cond (eqb m k) 1 0) numbers i n l ∙ ap (λ c. count_by (λ m. eqb m k) (take i numbers) + c) none ∙ omega arith in
      get_or-set_other areas n k v (pos 0) (λ f. other (sym f))
      ∙ h k ∙ ap (λ c. get_or old k (pos 0) +ℤ pos c *ℤ area) (sym more)
]

moved : (t u a v s : ℤ) → t +ℤ u ≡ s +ℤ v → v ≡ u +ℤ a → t ≡ s +ℤ a
moved t u a v s e f = omega (arith, ints)

pub add_sum : (areas : List ℤ) (i n : ℕ) (area v s : ℤ) → n < length areas → v ≡ get_or areas n (pos 0) +ℤ area
    → total (λ y. y) areas ≡ s +ℤ pos i *ℤ area → total (λ y. y) (set areas n v) ≡ s +ℤ pos (i + 1) *ℤ area
add_sum areas i n area v s within is h =
    moved _ _ area v _ (total_set (λ y. y) areas n v (pos 0) within) is
    ∙ gathered (total (λ y. y) areas) s (pos i *ℤ area) area h
    ∙ ap (λ y. s +ℤ y) (sym (once_more i area))

-- ---- bounds

near : (y z : ℤ) → unsigned_abs (y +ℤ z) ≤ unsigned_abs y + unsigned_abs z
near y z = omega (arith, ints)

-- what is added n times is no further from 0 than n times
pub times_near : (n : ℕ) (y z w : ℤ) → w ≡ y +ℤ pos n *ℤ z → unsigned_abs w ≤ unsigned_abs y + n * unsigned_abs z
times_near n y z w e =
    let sum = near y (pos n *ℤ z) in
    let part : unsigned_abs (pos n *ℤ z) ≡ n * unsigned_abs z = unsigned_abs-mul (pos n) z in
    subst (λ v. unsigned_abs v ≤ unsigned_abs y + n * unsigned_abs z) (sym e) (omega (arith, sum, part))

pub counted_few : (k i : ℕ) (numbers : List ℕ) → count_by (λ m. eqb m k) (take i numbers) ≤ i
counted_few k i numbers =
    let few = count_by-le-length (λ m. eqb m k) (take i numbers) in let short = length-take i numbers in omega (arith, few, short)

pub adding_near : (n i len : ℕ) (y z w : ℤ) → n ≤ i → i < len → w ≡ y +ℤ pos n *ℤ z → unsigned_abs y + len * unsigned_abs z < 2 ^ 127
    → unsigned_abs (w +ℤ z) < 2 ^ 127
adding_near n i len y z w few less e room =
    let here = times_near n y z w e in
    let last = near w z in
    let grows = mul-le-mul_right {m = n + 1} {n = len} (unsigned_abs z) (omega arith) in
    omega (arith, here, last, grows, room)

pub now_near : (n i len : ℕ) (y z w : ℤ) → n ≤ i → i < len → w ≡ y +ℤ pos n *ℤ z → unsigned_abs y + len * unsigned_abs z < 2 ^ 127
    → unsigned_abs w < 2 ^ 127
now_near n i len y z w few less e room =
    let here = times_near n y z w e in
    let grows = mul-le-mul_right {m = n} {n = len} (unsigned_abs z) (omega arith) in
    omega (arith, here, grows, room)
