-- Of ascending standings equal ones cancel in pairs, one after another.
use Rattle.kit_words.proofs.Common.{◌≡◌, ◌↔◌, ◌<◌, ◌≤◌, ◌+◌, ◌-◌, ◌%◌, ℕ, zero, suc, Bool, true, false, refl, sym, ap}
use Rattle.kit_words.proofs.Common.{◌∙◌, subst, cond, List, [], ◌∷◌, ◌++◌, length, take, get_or, inl, inr}
use Rattle.kit_words.proofs.Common.{◌||◌, arith, not, ◌==◌, IsTrue, count_by, IsSorted}
use Rattle.kit_words.proofs.Common.{IsStrictlySortedBy, is_lt, ordering_reverse, Ordering, Less, Equal, Greater}
use Rattle.kit_words.proofs.Common.{false≢true, nat_tests, take_more, get_or-take, get_or_default, length-take-le}
use Rattle.kit_words.proofs.Common.{length-append, get_or_at, take_at, list_any-append, ranks_by, sorted_far}
use Rattle.kit_words.proofs.Common.{sum_by-append, sum_by-cons, by_bool}
use Rattle.grid_geometry.specs.Common.{xor}
use Rattle.ring_machine.proofs.Common.{In, in-append, in_left, in_right, any_in, in_contains}
use Rattle.layer_sides.specs.declared.standing.Standing.{Standing}
use Rattle.layer_sides.specs.Standing.{standing_cmp, standing_eq, is_standing, EndsIn, IsCancelled, taken, put}
use Rattle.layer_sides.proofs.Ascending.{not_less, rises_front, rises_last, rises_push, from_behind}
use Rattle.layer_sides.proofs.Standings.{standing_lt, standing_total, standing_exact, standing_eq-true, standing_eq-refl}

-- what a list ends in, by its last place
ends_at : (ss : List Standing) (n : ℕ) (x s : Standing) → length ss ≡ suc n → x ≡ get_or ss n x → standing_eq x s ≡ true → EndsIn ss s
ends_at [] n x s l e h = absurd (omega arith)
ends_at (t ∷ []) zero x s l e h = ([], ap (λ z. z ∷ []) (sym e ∙ standing_eq-true x s h))
ends_at (t ∷ u ∷ ss) zero x s l e h = absurd (omega arith)
ends_at (t ∷ ss) (suc n) x s l e h =
    let k = ends_at ss n x s (omega arith) e h in
    (t ∷ k.0, ap (λ z. t ∷ z) k.1)

last_of : (front : List Standing) (s d : Standing) → get_or (front ++ s ∷ []) (length (front ++ s ∷ []) - 1) d ≡ s
last_of front s d = get_or_at front s [] d (length (front ++ s ∷ []) - 1) (omega (arith, length-append front (s ∷ [])))

ends_no : (ss : List Standing) (x s : Standing) → x ≡ get_or ss (length ss - 1) x → standing_eq x s ≡ false → EndsIn ss s → ⊥
ends_no ss x s e h k =
    let same : x ≡ s = e ∙ ap (λ z. get_or z (length z - 1) x) k.1 ∙ last_of k.0 s x in
    false≢true (sym h ∙ ap (standing_eq x) (sym same) ∙ standing_eq-refl x)

none_ends : (s : Standing) → EndsIn [] s → ⊥
none_ends s k = empty k.0 k.1
  where
    empty : (front : List Standing) → [] ≡ front ++ s ∷ [] → ⊥
    empty [] e = cc
    empty (t ∷ front) e = cc

pub ends_tell : (ss : List Standing) (x s : Standing) (b : Bool) → 1 ≤ length ss → x ≡ get_or ss (length ss - 1) x → b ≡ standing_eq x s
    → IsTrue b ↔ EndsIn ss s
ends_tell ss x s b l e is = (
  λ t. ends_at ss (length ss - 1) x s (omega arith) e (sym is ∙ t),
  λ k. by_bool (standing_eq x s) (λ t. is ∙ t) (λ f. absurd (ends_no ss x s e f k)),
)

pub none_tells : (ss : List Standing) (s : Standing) → length ss ≡ 0 → IsTrue false ↔ EndsIn ss s
none_tells [] s l = (λ t. absurd (false≢true t), λ k. absurd (none_ends s k))
none_tells (t ∷ ss) s l = absurd (omega arith)

-- the last one taken out
pub popped : (old new : List Standing) (s : Standing) (n : ℕ) → EndsIn old s → length old ≡ n → new ≡ take (n - 1) old → old ≡ new ++ s ∷ []
popped old new s n k l e =
    let short : length k.0 ≡ n - 1 = omega (arith, ap length k.1, length-append k.0 (s ∷ []), l) in
    k.1 ∙ ap (λ z. z ++ s ∷ []) (sym (e ∙ ap (take (n - 1)) k.1 ∙ take_at k.0 (s ∷ []) (n - 1) short))

-- ---- counting by twos

-- what is left of n by twos
abbrev pub is_odd : ℕ → Bool
is_odd n = n % 2 == 1

odd_next : (n : ℕ) → is_odd (n + 1) ≡ not (is_odd n)
odd_next n = grind (arith, nat_tests)

odd_more : (b : Bool) (n : ℕ) → is_odd (n + cond b 1 0) ≡ xor b (is_odd n)
odd_more true n = odd_next n
odd_more false n = let e : n + 0 ≡ n = omega arith in ap is_odd e

abbrev pub times : Standing → List Standing → ℕ
times t ss = count_by (standing_eq t) ss

pub times_push : (t : Standing) (ss : List Standing) (s : Standing) → times t (ss ++ s ∷ []) ≡ times t ss + cond (standing_eq t s) 1 0
times_push t ss s = omega (
  arith,
  sum_by-append (λ u. cond {A = ℕ} (standing_eq t u) 1 0) ss (s ∷ []),
  sum_by-cons (λ u. cond {A = ℕ} (standing_eq t u) 1 0) s [],
)

odd_push : (t : Standing) (ss : List Standing) (s : Standing) → is_odd (times t (ss ++ s ∷ [])) ≡ xor (standing_eq t s) (is_odd (times t ss))
odd_push t ss s = ap is_odd (times_push t ss s) ∙ odd_more (standing_eq t s) (times t ss)

-- ---- one segment more

-- those that are kept of the segments so far
pub record IsKept (so_far kept : List Standing) : Type 0 where
  pub ascending : IsStrictlySortedBy standing_cmp kept
  pub among : (t : Standing) → In t kept → In t so_far
  pub odd : (t : Standing) → is_standing kept t ≡ is_odd (times t so_far)

pub kept_none : IsKept [] []
unfolding IsStrictlySortedBy
kept_none = record { ascending = tt; among = λ t i. i; odd = λ t. refl }

pub among-in : (ss : List Standing) (t : Standing) → is_standing ss t ≡ true → In t ss
among-in ss t h =
    let k = any_in (standing_eq t) ss h in
    subst (λ z. In z ss) (sym (standing_eq-true t k.0 k.2)) k.1

not_among : (ss : List Standing) (t : Standing) → (In t ss → ⊥) → is_standing ss t ≡ false
not_among ss t h = by_bool (is_standing ss t) (λ e. absurd (h (among-in ss t e))) (λ e. e)

taken_out : (a e : Bool) → (e ≡ true → a ≡ false) → a ≡ xor e (a || (e || false))
taken_out true true h = absurd (false≢true (sym (h refl)))
taken_out false true h = refl
taken_out true false h = refl
taken_out false false h = refl

put_in : (a e : Bool) → (e ≡ true → a ≡ false) → (a || (e || false)) ≡ xor e a
put_in true true h = absurd (false≢true (sym (h refl)))
put_in false true h = refl
put_in true false h = refl
put_in false false h = refl

-- what is not greater and is another one is less
less_if : (s t : Standing) → standing_lt s t ≡ false → (t ≡ s → ⊥) → standing_cmp t s ≡ Less
less_if s t h other = by (standing_cmp t s) refl
  where
    by : (o : Ordering) → standing_cmp t s ≡ o → o ≡ Less
    by Less e = refl
    by Equal e = absurd (other (standing_exact t s e))
    by Greater e = absurd (false≢true (sym h ∙ ap is_lt (standing_total.antisymm s t ∙ ap ordering_reverse e)))

step : (so_far : List Standing) (s : Standing) (old new : List Standing) → ((t : Standing) → In t so_far → standing_lt s t ≡ false)
    → IsKept so_far old → IsCancelled old s new → IsKept (so_far ++ s ∷ []) new
step so_far s old new most h (taken e) = record {
  ascending = rises_front standing_cmp new (s ∷ []) rising;
  among = λ t i. in_left t so_far (s ∷ []) (h.among t (subst (In t) (sym e) (in_left t new (s ∷ []) i)));
  odd = λ t.
      taken_out (is_standing new t) (standing_eq t s) (λ k. not_among new t (λ i. away (subst (λ z. In z new) (standing_eq-true t s k) i)))
      ∙ ap (xor (standing_eq t s)) (sym (list_any-append (standing_eq t) new (s ∷ [])) ∙ ap (λ z. is_standing z t) (sym e) ∙ h.odd t)
      ∙ sym (odd_push t so_far s);
}
  where
    rising : IsStrictlySortedBy standing_cmp (new ++ s ∷ [])
    rising = subst (IsStrictlySortedBy standing_cmp) e h.ascending

    away : In s new → ⊥
    away i = not_less standing_cmp standing_total s (rises_last standing_cmp new s rising s i)
step so_far s old new most h (put e other) = record {
  ascending = subst (IsStrictlySortedBy standing_cmp) (sym e)
      (rises_push standing_cmp old s h.ascending (λ t i. less_if s t (most t (h.among t i)) (λ same. away (subst (λ z. In z old) same i))));
  among = λ t i. elim (in-append t old (s ∷ []) (subst (In t) e i)) [
    | inl j ↦ in_left t so_far (s ∷ []) (h.among t j)
    | inr j ↦ in_right t so_far (s ∷ []) j
  ];
  odd = λ t.
      ap (λ z. is_standing z t) e ∙ list_any-append (standing_eq t) old (s ∷ [])
      ∙ put_in (is_standing old t) (standing_eq t s) (λ k. not_among old t (λ i. away (subst (λ z. In z old) (standing_eq-true t s k) i)))
      ∙ ap (xor (standing_eq t s)) (h.odd t) ∙ sym (odd_push t so_far s);
}
  where
    away : In s old → ⊥
    away i = elim (from_behind old) [
      | inl none ↦ subst (In s) none i
      | inr k ↦ elim (in-append s k.0 (k.1 ∷ []) (subst (In s) k.2 i)) [
        | inl j ↦
            let less = rises_last standing_cmp k.0 k.1 (subst (IsStrictlySortedBy standing_cmp) k.2 h.ascending) s j in
            let there : In k.1 old = subst (In k.1) (sym k.2) (in_right k.1 k.0 (k.1 ∷ []) (inl refl)) in
            false≢true (sym (most k.1 (h.among k.1 there)) ∙ ap is_lt less)
        | inr (inl same) ↦ other (k.0, k.2 ∙ ap (λ z. k.0 ++ z ∷ []) same)
        | inr (inr none) ↦ none
      ]
    ]

-- of sorted segments none so far is greater than the next one
none_greater : (sorted : List Standing) (i : ℕ) (s : Standing) → IsSorted standing_cmp sorted → i < length sorted → s ≡ get_or sorted i s
    → (t : Standing) → In t (take i sorted) → standing_lt s t ≡ false
none_greater sorted i s up l e t j =
    let k = in_contains (take i sorted) t j in
    by k.0 k.1 k.2
  where
    by : (n : ℕ) → n < length (take i sorted) → get_or (take i sorted) n t ≡ t → standing_lt s t ≡ false
    by n m f =
        let low : n < i = omega (arith, length-take-le i sorted (omega arith), m) in
        let far = sorted_far (λ x y. is_lt (standing_cmp x y)) (ranks_by standing_total (λ x. x)) sorted up n i t (omega arith) l in
        subst (λ z. is_lt (standing_cmp s z) ≡ false) (sym (get_or-take i sorted n t low) ∙ f)
        (subst (λ z. is_lt (standing_cmp z (get_or sorted n t)) ≡ false) (sym (e ∙ get_or_default sorted i s t l)) far)

pub next : (sorted : List Standing) (i : ℕ) (s : Standing) (old new : List Standing) → IsSorted standing_cmp sorted → i < length sorted
    → s ≡ get_or sorted i s → IsKept (take i sorted) old → IsCancelled old s new → IsKept (take (i + 1) sorted) new
next sorted i s old new up l e h c =
    subst (λ z. IsKept z new) (sym (take_more sorted i s l ∙ ap (λ z. take i sorted ++ z ∷ []) (sym e)))
    (step (take i sorted) s old new (none_greater sorted i s up l e) h c)
