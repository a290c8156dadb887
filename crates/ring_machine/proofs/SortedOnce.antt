-- Positions sorted, with each of equal neighbours once, are the vertices.
use Rattle.kit_words.proofs.Common.{◌≡◌, ℕ, zero, suc, ◌<◌, Bool, true, false, refl, sym, ap, ap₂, ◌∙◌, subst, cond}
use Rattle.kit_words.proofs.Common.{List, [], ◌∷◌, length, get_or, ◌⊎◌, inl, inr, arith, All, AllByRecursion, fold}
use Rattle.kit_words.proofs.Common.{dedup, dedup_from, IsPermutation, IsSorted, IsStrictlySortedBy, IsFiltered}
use Rattle.kit_words.proofs.Common.{DiffersFromLast, int_cmp, eq_by_cmp, is_lt, Less, IsTotalOrder, int_cmp_total}
use Rattle.kit_words.proofs.Common.{on_total, then_total, tied_then, false≢true, dedup_is, IsStrictlySortedBy-dedup}
use Rattle.kit_words.proofs.Common.{All-permutation, IsPermutation-sym}
use Rattle.grid_geometry.specs.Common.{Position, position_cmp, position_eq, position_lt}
use Rattle.ring_machine.specs.Common.{add_position}
use Rattle.ring_machine.proofs.Order.{position_eq-true, position_lt-trans, position_lt-irrefl, position_lt-asym}
use Rattle.ring_machine.proofs.First.{In}

-- ---- the same elements

pub in_at : {A : Type 0} (xs : List A) (k : ℕ) (d : A) → k < length xs → In (get_or xs k d) xs
in_at [] k d l = absurd (omega arith)
in_at (x ∷ xs) zero d l = inl refl
in_at (x ∷ xs) (suc k) d l = inr (in_at xs k d (omega arith))

each_in : {A : Type 0} (P : A → Type 0) (xs : List A) (a : A) → All P xs → In a xs → P a
each_in P [] a h i = absurd i
each_in P (x ∷ xs) a h (inl e) = subst P e (h 0 x (omega arith))
each_in P (x ∷ xs) a h (inr i) = each_in P xs a (λ k d l. h (suc k) d (omega arith)) i

pub in_permuted : {A : Type 0} (xs ys : List A) → IsPermutation xs ys → (a : A) → In a ys → In a xs
in_permuted xs ys p a i = each_in (λ z. In z xs) ys a (All-permutation (λ z. In z xs) xs ys p (in_at xs)) i

pub in_recursion : {A : Type 0} (P : A → Type 0) (xs : List A) (a : A) → AllByRecursion P xs → In a xs → P a
in_recursion P [] a h i = absurd i
in_recursion P (x ∷ xs) a h (inl e) = subst P e h.0
in_recursion P (x ∷ xs) a h (inr i) = in_recursion P xs a h.1 i

module _ {A : Type 0} (eq : A → A → Bool) (same_by : (a b : A) → eq a b ≡ true → a ≡ b) where
  kept : (k : A) (xs : List A) (a : A) → In a (dedup_from eq k xs) → In a (k ∷ xs)
  kept k [] a i = i
  kept k (x ∷ xs) a i = by (eq x k) i (kept k xs a) (kept x xs a)
    where
      further : In a (k ∷ xs) → In a (k ∷ x ∷ xs)
      further (inl e) = inl e
      further (inr j) = inr (inr j)

      by : (b : Bool) → In a (cond b (dedup_from eq k xs) (k ∷ dedup_from eq x xs)) → (In a (dedup_from eq k xs) → In a (k ∷ xs)) → (In a (dedup_from eq x xs) → In a (x ∷ xs)) → In a (k ∷ x ∷ xs)
      by true i same other = further (same i)
      by false (inl e) same other = inl e
      by false (inr j) same other = inr (other j)

  still_there : (k : A) (xs : List A) (a : A) → In a (k ∷ xs) → In a (dedup_from eq k xs)
  still_there k [] a i = i
  still_there k (x ∷ xs) a i = by (eq x k) refl (still_there k xs a) (still_there x xs a)
    where
      same : eq x k ≡ true → In a (k ∷ x ∷ xs) → In a (k ∷ xs)
      same e (inl f) = inl f
      same e (inr (inl f)) = inl (sym (same_by x k e) ∙ f)
      same e (inr (inr j)) = inr j

      other : In a (k ∷ x ∷ xs) → (In a (x ∷ xs) → In a (dedup_from eq x xs)) → In a (k ∷ dedup_from eq x xs)
      other (inl f) there = inl f
      other (inr j) there = inr (there j)

      by : (b : Bool) → eq x k ≡ b → (In a (k ∷ xs) → In a (dedup_from eq k xs)) → (In a (x ∷ xs) → In a (dedup_from eq x xs)) → In a (cond b (dedup_from eq k xs) (k ∷ dedup_from eq x xs))
      by b e there next = grind arith

  pub none_new : (xs : List A) (a : A) → In a (dedup eq xs) → In a xs
  none_new [] a i = i
  none_new (x ∷ xs) a i = kept x xs a i

  pub none_lost : (xs : List A) (a : A) → In a xs → In a (dedup eq xs)
  none_lost [] a i = i
  none_lost (x ∷ xs) a i = still_there x xs a i

-- each is less than all after it
abbrev pub Rising : List Position → Type 0
Rising [] = Unit {0}
Rising (p ∷ ps) = AllByRecursion (λ q. position_lt p q ≡ true) ps × Rising ps

-- ---- rising lists of the same positions are equal

apart : (p q : Position) → position_lt p q ≡ true → p ≡ q → ⊥
apart p q h e = false≢true (sym (position_lt-irrefl q) ∙ ap (λ r. position_lt r q) (sym e) ∙ h)

first_same : (p q : Position) (ps qs : List Position) → Rising (p ∷ ps) → Rising (q ∷ qs) → In p (q ∷ qs) → In q (p ∷ ps) → p ≡ q
first_same p q ps qs h k (inl e) j = sym e
first_same p q ps qs h k (inr i) (inl e) = e
first_same p q ps qs h k (inr i) (inr j) =
    let before = in_recursion (λ r. position_lt q r ≡ true) qs p k.0 i in
    let after = in_recursion (λ r. position_lt p r ≡ true) ps q h.0 j in
    absurd (false≢true (sym (position_lt-asym q p before) ∙ after))

rest_in : (p q : Position) (ps qs : List Position) → p ≡ q → AllByRecursion (λ r. position_lt p r ≡ true) ps → (a : Position) → In a ps → In a (q ∷ qs) → In a qs
rest_in p q ps qs same h a i (inl e) = absurd (apart p a (in_recursion (λ r. position_lt p r ≡ true) ps a h i) (same ∙ e))
rest_in p q ps qs same h a i (inr j) = j

pub same_rising : (ps qs : List Position) → Rising ps → Rising qs → ((a : Position) → In a ps → In a qs) → ((a : Position) → In a qs → In a ps) → ps ≡ qs
same_rising [] [] h k f g = refl
same_rising [] (q ∷ qs) h k f g = absurd (g q (inl refl))
same_rising (p ∷ ps) [] h k f g = absurd (f p (inl refl))
same_rising (p ∷ ps) (q ∷ qs) h k f g =
    let same = first_same p q ps qs h k (f p (inl refl)) (g q (inl refl)) in
    ap₂ (λ r rs. r ∷ rs) same
    (same_rising ps qs h.1 k.1 (λ a i. rest_in p q ps qs same h.0 a i (f a (inr i))) (λ a i. rest_in q p qs ps (sym same) k.0 a i (g a (inr i))))

-- ---- one position more

all_with : (P : Position → Type 0) (qs : List Position) (p : Position) → AllByRecursion P qs → P p → AllByRecursion P (add_position qs p)
all_with P [] p h k = (k, tt)
all_with P (q ∷ qs) p h k = grind (arith, all_with P qs p h.1 k)

all_beyond : (p q : Position) (qs : List Position) → position_lt p q ≡ true → AllByRecursion (λ r. position_lt q r ≡ true) qs → AllByRecursion (λ r. position_lt p r ≡ true) qs
all_beyond p q [] l h = tt
all_beyond p q (r ∷ qs) l h = (position_lt-trans p q r l h.0, all_beyond p q qs l h.1)

rises_with : (qs : List Position) (p : Position) → Rising qs → Rising (add_position qs p)
rises_with [] p h = (tt, tt)
rises_with (q ∷ qs) p h = by (position_lt p q) refl (position_eq p q) refl (rises_with qs p h.1)
  where
    beyond : (b : Bool) → position_lt q p ≡ b → position_lt p q ≡ false → position_eq p q ≡ false → position_lt q p ≡ true
    beyond b e k l = grind arith

    by : (a : Bool) → position_lt p q ≡ a → (b : Bool) → position_eq p q ≡ b → Rising (add_position qs p) → Rising (cond a (p ∷ q ∷ qs) (cond b (q ∷ qs) (q ∷ add_position qs p)))
    by true e b f rest = ((e, all_beyond p q qs e h.0), h)
    by false e true f rest = h
    by false e false f rest = (all_with (λ r. position_lt q r ≡ true) qs p h.0 (beyond (position_lt q p) refl e f), rest)

in_with : (qs : List Position) (p a : Position) → In a (add_position qs p) → (p ≡ a) ⊎ In a qs
in_with [] p a (inl e) = inl e
in_with [] p a (inr i) = inr i
in_with (q ∷ qs) p a i = grind (arith, in_with qs p a)

with_in : (qs : List Position) (p a : Position) → (p ≡ a) ⊎ In a qs → In a (add_position qs p)
with_in [] p a (inl e) = inl e
with_in [] p a (inr i) = inr i
with_in (q ∷ qs) p a i = grind (arith, with_in qs p a)

-- ---- all of them

pub all_rise : (ps so_far : List Position) → Rising so_far → Rising (fold add_position so_far ps)
all_rise [] so_far h = h
all_rise (p ∷ ps) so_far h = all_rise ps (add_position so_far p) (rises_with so_far p h)

pub in_all : (ps so_far : List Position) (a : Position) → In a (fold add_position so_far ps) → In a so_far ⊎ In a ps
in_all [] so_far a i = inl i
in_all (p ∷ ps) so_far a i = elim (in_all ps (add_position so_far p) a i) [
  | inl j ↦ elim (in_with so_far p a j) [ inl e ↦ inr (inl e) | inr k ↦ inl k ]
  | inr j ↦ inr (inr j)
]

pub all_in : (ps so_far : List Position) (a : Position) → In a so_far ⊎ In a ps → In a (fold add_position so_far ps)
all_in [] so_far a (inl i) = i
all_in [] so_far a (inr i) = absurd i
all_in (p ∷ ps) so_far a (inl i) = all_in ps (add_position so_far p) a (inl (with_in so_far p a (inr i)))
all_in (p ∷ ps) so_far a (inr (inl e)) = all_in ps (add_position so_far p) a (inl (with_in so_far p a (inl e)))
all_in (p ∷ ps) so_far a (inr (inr i)) = all_in ps (add_position so_far p) a (inr i)

-- ---- sorted ones

pub position_total : IsTotalOrder position_cmp
position_total = then_total (on_total (λ (p : Position). p.x) int_cmp_total) (on_total (λ (p : Position). p.y) int_cmp_total)

pub ties : (p q : Position) → position_eq p q ≡ eq_by_cmp position_cmp p q
ties p q = tied_then (int_cmp p.x q.x) (int_cmp p.y q.y)

below_all : (p : Position) (ps : List Position) → AllByRecursion (λ q. position_cmp p q ≡ Less) ps → AllByRecursion (λ q. position_lt p q ≡ true) ps
below_all p [] h = tt
below_all p (q ∷ ps) h = (ap is_lt h.0, below_all p ps h.1)

strictly_rise : (ps : List Position) → IsStrictlySortedBy position_cmp ps → Rising ps
unfolding IsStrictlySortedBy
strictly_rise [] h = tt
strictly_rise (p ∷ ps) h = (below_all p ps h.0, strictly_rise ps h.1)

pub sorted_once : (ps sorted once : List Position) → IsPermutation ps sorted → IsSorted position_cmp sorted → IsFiltered (DiffersFromLast position_eq) [] sorted once → once ≡ fold add_position [] ps
sorted_once ps sorted once permutation ascending filtered =
    dedup_is position_eq sorted once filtered
    ∙ same_rising (dedup position_eq sorted) (fold add_position [] ps)
    (strictly_rise (dedup position_eq sorted) (IsStrictlySortedBy-dedup position_total ties sorted ascending))
    (all_rise ps [] tt)
    (λ a i. all_in ps [] a (inr (in_permuted ps sorted permutation a (none_new position_eq position_eq-true sorted a i))))
    (λ a i. none_lost position_eq position_eq-true sorted a (in_permuted sorted ps (IsPermutation-sym ps sorted permutation) a (elim (in_all ps [] a i) [ inl j ↦ absurd j | inr j ↦ j ])))
