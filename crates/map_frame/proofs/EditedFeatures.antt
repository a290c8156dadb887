-- The features by the numbers in the layers: their forms, their numbers, and how many there are.
use Rattle.kit_words.proofs.Common.{◌≡◌, ℕ, suc, Bool, true, refl, sym, ap, ap₂, subst, List, [], ◌∷◌, ◌++◌, map}
use Rattle.kit_words.proofs.Common.{length, ◌+◌, inl, inr, Option, Some, None, is_some, ◌&&◌, arith, filter_map}
use Rattle.kit_words.proofs.Common.{list_all, cons_option}
use Rattle.ring_machine.specs.Common.{are_distinct}
use Rattle.ring_machine.proofs.Common.{In, distinct_parts, distinct-append, IsPart, none, skip, keep, part_distinct}

-- ---- what holds of each element

module _ {X Y : Type 0} (p : Y → Bool) (h : X → Option Y) where
  pub forms_all : (ns : List X) → ((n : X) (y : Y) → h n ≡ Some y → p y ≡ true) → list_all p (filter_map h ns) ≡ true
  forms_all [] f = refl
  forms_all (m ∷ ns) f = by (h m) refl (forms_all ns f)
    where
      by : (o : Option Y) → h m ≡ o → list_all p (filter_map h ns) ≡ true
          → list_all p (cons_option o (filter_map h ns)) ≡ true
      by None is rest = rest
      by (Some z) is rest = ap₂ (λ a b. a && b) (f m z is) rest

-- ---- how many

module _ {Y Z : Type 0} where
  pub cons_length : (o : Option Y) (u : Option Z) (xs : List Y) (ys : List Z) → is_some o ≡ is_some u → length xs ≡ length ys
      → length (cons_option o xs) ≡ length (cons_option u ys)
  cons_length None None xs ys e f = f
  cons_length (Some x) (Some y) xs ys e f = ap suc f
  cons_length _ _ xs ys e f = absurd cc

  pub cons_less : (o : Option Y) (u : Option Z) (xs : List Y) (ys : List Z) → is_some o ≡ is_some u → length xs ≡ length ys + 1
      → length (cons_option o xs) ≡ length (cons_option u ys) + 1
  cons_less None None xs ys e f = f
  cons_less (Some x) (Some y) xs ys e f = let k : suc (length xs) ≡ suc (length ys) + 1 = omega (arith, f) in k
  cons_less _ _ xs ys e f = absurd cc

-- ---- numbers that are distinct

pub tail_distinct : (k : ℕ) (ks : List ℕ) → are_distinct (k ∷ ks) ≡ true → are_distinct ks ≡ true
tail_distinct k ks d = (distinct_parts (k ∷ []) ks d).right

pub cons_distinct : (k : ℕ) (ks : List ℕ) → (In k ks → ⊥) → are_distinct ks ≡ true → are_distinct (k ∷ ks) ≡ true
cons_distinct k ks off d = distinct-append (k ∷ []) ks refl d (λ m i j. elim i [
  | inl e ↦ off (subst (λ z. In z ks) (sym e) j)
  | inr b ↦ b
])

-- the first of two parts of distinct numbers
pub first_distinct : (us vs : List ℕ) → are_distinct (us ++ vs) ≡ true → are_distinct us ≡ true
first_distinct us vs d = (distinct_parts us vs d).left

module _ {X : Type 0} (h : ℕ → Option X) (number : X → ℕ) (numbered : (n : ℕ) (x : X) → h n ≡ Some x → number x ≡ n) where
  part_numbers : (ns : List ℕ) → IsPart (map number (filter_map h ns)) ns
  part_numbers [] = none
  part_numbers (n ∷ ns) = by (h n) refl (part_numbers ns)
    where
      by : (o : Option X) → h n ≡ o → IsPart (map number (filter_map h ns)) ns
          → IsPart (map number (cons_option o (filter_map h ns))) (n ∷ ns)
      by None e p = skip p
      by (Some x) e p = subst (λ m. IsPart (number x ∷ map number (filter_map h ns)) (m ∷ ns)) (numbered n x e) (keep p)

  pub distinct_numbers : (ns : List ℕ) → are_distinct ns ≡ true → are_distinct (map number (filter_map h ns)) ≡ true
  distinct_numbers ns d = part_distinct (part_numbers ns) d
