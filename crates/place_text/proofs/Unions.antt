-- The numbers of features that have one of two things or both.
use Rattle.kit_words.proofs.Common.{◌≡◌, ◌<◌, ◌+◌, ℕ, suc, Bool, true, false, ◌||◌, sym, ap, ap₂, ◌∙◌, subst, List, []}
use Rattle.kit_words.proofs.Common.{◌∷◌, ◌++◌, ◌⊎◌, inl, inr, length, take, get_or, map, Contains, arith, if◌then◌else◌}
use Rattle.kit_words.proofs.Common.{AllByRecursion, IsStrictlySortedBy, nat_cmp, nat_cmp_is, Less, nat_cmp_total}
use Rattle.kit_words.proofs.Common.{map-append, take_more}
use Rattle.grid_geometry.specs.Common.{Position}
use Rattle.ring_machine.proofs.Common.{In, in-append, in_left, in_right, contains_in, in_contains}
use Rattle.walk_faults.specs.declared.findings.Crossing.{Crossing}
use Rattle.walk_faults.specs.Common.{ListsAll, flat_map_at}
use Rattle.walk_faults.proofs.Common.{same_ascending}
use Rattle.place_text.specs.Common.{number_if, numbers_where, has_edge, segment_features, pair_features}

module _ {X : Type 0} where
  -- ---- they ascend

  later : (test : X → Bool) (k m : ℕ) (xs : List X) → k < m → AllByRecursion (λ n. nat_cmp k n ≡ Less) (flat_map_at (number_if test) m xs)
  later test k m [] l = tt
  later test k m (x ∷ xs) l = by (test x) (later test k (suc m) xs (omega (arith, l)))
    where
      by : (b : Bool) → AllByRecursion (λ n. nat_cmp k n ≡ Less) (flat_map_at (number_if test) (suc m) xs)
          → AllByRecursion (λ n. nat_cmp k n ≡ Less) ((if b then (m ∷ []) else []) ++ flat_map_at (number_if test) (suc m) xs)
      by true rest = (sym (nat_cmp_is k m Less l), rest)
      by false rest = rest

  ascend : (test : X → Bool) (k : ℕ) (xs : List X) → IsStrictlySortedBy nat_cmp (flat_map_at (number_if test) k xs)
  unfolding IsStrictlySortedBy
  ascend test k [] = tt
  ascend test k (x ∷ xs) = by (test x) (ascend test (suc k) xs)
    where
      by : (b : Bool) → IsStrictlySortedBy nat_cmp (flat_map_at (number_if test) (suc k) xs)
          → IsStrictlySortedBy nat_cmp ((if b then (k ∷ []) else []) ++ flat_map_at (number_if test) (suc k) xs)
      by true rest = (later test k (suc k) xs (omega arith), rest)
      by false rest = rest

  -- ---- the numbers of those that pass one test or the other

  abbrev either : (X → Bool) → (X → Bool) → X → Bool
  either test other x = test x || other x

  either_left : (test other : X → Bool) (k : ℕ) (xs : List X) (n : ℕ) → In n (flat_map_at (number_if test) k xs) → In n (flat_map_at (number_if (either test other)) k xs)
  either_left test other k [] n h = absurd h
  either_left test other k (x ∷ xs) n h = by (test x) (other x) h (either_left test other (suc k) xs n)
    where
      by : (a b : Bool) → In n ((if a then (k ∷ []) else []) ++ flat_map_at (number_if test) (suc k) xs)
          → (In n (flat_map_at (number_if test) (suc k) xs) → In n (flat_map_at (number_if (either test other)) (suc k) xs))
          → In n ((if a || b then (k ∷ []) else []) ++ flat_map_at (number_if (either test other)) (suc k) xs)
      by true b (inl e) rest = inl e
      by true b (inr i) rest = inr (rest i)
      by false true i rest = inr (rest i)
      by false false i rest = rest i

  either_right : (test other : X → Bool) (k : ℕ) (xs : List X) (n : ℕ) → In n (flat_map_at (number_if other) k xs) → In n (flat_map_at (number_if (either test other)) k xs)
  either_right test other k [] n h = absurd h
  either_right test other k (x ∷ xs) n h = by (test x) (other x) h (either_right test other (suc k) xs n)
    where
      by : (a b : Bool) → In n ((if b then (k ∷ []) else []) ++ flat_map_at (number_if other) (suc k) xs)
          → (In n (flat_map_at (number_if other) (suc k) xs) → In n (flat_map_at (number_if (either test other)) (suc k) xs))
          → In n ((if a || b then (k ∷ []) else []) ++ flat_map_at (number_if (either test other)) (suc k) xs)
      by true true (inl e) rest = inl e
      by true true (inr i) rest = inr (rest i)
      by false true (inl e) rest = inl e
      by false true (inr i) rest = inr (rest i)
      by true false i rest = inr (rest i)
      by false false i rest = rest i

  one_of : (test other : X → Bool) (k : ℕ) (xs : List X) (n : ℕ) → In n (flat_map_at (number_if (either test other)) k xs)
      → In n (flat_map_at (number_if test) k xs) ⊎ In n (flat_map_at (number_if other) k xs)
  one_of test other k [] n h = absurd h
  one_of test other k (x ∷ xs) n h = by (test x) (other x) h (one_of test other (suc k) xs n)
    where
      ts : List ℕ
      ts = flat_map_at (number_if test) (suc k) xs

      os : List ℕ
      os = flat_map_at (number_if other) (suc k) xs

      behind : (a b : Bool) → In n ts ⊎ In n os → In n ((if a then (k ∷ []) else []) ++ ts) ⊎ In n ((if b then (k ∷ []) else []) ++ os)
      behind a b (inl i) = inl (in_right n (if a then (k ∷ []) else []) ts i)
      behind a b (inr i) = inr (in_right n (if b then (k ∷ []) else []) os i)

      by : (a b : Bool) → In n ((if a || b then (k ∷ []) else []) ++ flat_map_at (number_if (either test other)) (suc k) xs)
          → (In n (flat_map_at (number_if (either test other)) (suc k) xs) → In n ts ⊎ In n os)
          → In n ((if a then (k ∷ []) else []) ++ ts) ⊎ In n ((if b then (k ∷ []) else []) ++ os)
      by true b (inl e) rest = inl (inl e)
      by true b (inr i) rest = behind true b (rest i)
      by false true (inl e) rest = inr (inl e)
      by false true (inr i) rest = behind false true (rest i)
      by false false i rest = behind false false (rest i)

  -- the numbers of both lists are those of the features that pass one of the two tests
  pub union_is : (test other : X → Bool) (xs : List X) (all : List ℕ) → ListsAll nat_cmp (Contains (numbers_where test xs ++ numbers_where other xs)) all
      → all ≡ numbers_where (λ x. test x || other x) xs
  union_is test other xs all lists =
      let ts = numbers_where test xs in
      let os = numbers_where other xs in
      let whole = numbers_where (either test other) xs in
      same_ascending nat_cmp nat_cmp_total all whole lists.ascending (ascend (either test other) 0 xs)
      (λ n i. elim (in-append n ts os (contains_in (ts ++ os) n ((lists.all n).0 (in_contains all n i)))) [
        | inl j ↦ either_left test other 0 xs n j
        | inr j ↦ either_right test other 0 xs n j
      ])
      (λ n i. contains_in all n ((lists.all n).1 (in_contains (ts ++ os) n (elim (one_of test other 0 xs n i) [
        | inl j ↦ in_left n ts os j
        | inr j ↦ in_right n ts os j
      ]))))

-- ---- the pairs so far, with one more

pub pair_step : {V : Type 0} (v : V → List ℕ) (features : List (List (List (List Position)))) (crossings : List Crossing) (i : ℕ) (c : Crossing) (first second : List ℕ) (pairs new : List V) (u : V)
    → i < length crossings → c ≡ get_or crossings i c → first ≡ segment_features features c.first → second ≡ segment_features features c.second
    → ListsAll nat_cmp (Contains (first ++ second)) (v u) → map v pairs ≡ map (pair_features features) (take i crossings) → new ≡ pairs ++ u ∷ []
    → map v new ≡ map (pair_features features) (take (i + 1) crossings)
pair_step v features crossings i c first second pairs new u l e p q lists so_far is =
    let here : v u ≡ pair_features features c =
    union_is (has_edge c.first) (has_edge c.second) features (v u)
    (subst (λ z. ListsAll nat_cmp (Contains (z ++ segment_features features c.second)) (v u)) p
    (subst (λ z. ListsAll nat_cmp (Contains (first ++ z)) (v u)) q lists)) in
    ap (map v) is ∙ map-append v pairs (u ∷ []) ∙ ap₂ (λ (ns : List (List ℕ)) (n : List ℕ). ns ++ n ∷ []) so_far here
    ∙ sym (map-append (pair_features features) (take i crossings) (c ∷ []))
    ∙ ap (map (pair_features features)) (sym (take_more crossings i c l ∙ ap (λ z. take i crossings ++ z ∷ []) (sym e)))
