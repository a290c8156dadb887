-- Numbers of features that are reported at a key, each once.
use Rattle.kit_words.proofs.Common.{◌≡◌, ◌<◌, ◌≤◌, ◌+◌, ◌-◌, ◌==◌, ◌||◌, ℕ, zero, suc, Bool, true, false, cond, refl}
use Rattle.kit_words.proofs.Common.{sym, ap, ◌∙◌, List, [], ◌∷◌, ◌++◌, length, take, get_or, arith, Option, Some, None}
use Rattle.kit_words.proofs.Common.{slice_get, option_map, if◌then◌else◌, is_eq, Ordering, list_any-append}
use Rattle.std.proofs.Common.{append-nil}
use Rattle.walk_faults.specs.Common.{flat_map_at}
use Rattle.place_text.specs.Common.{number_if, numbers_where, is_last, once, is_among, once_if}
use Rattle.place_text.proofs.Numbered.{each_next}

-- ---- a number at the end of a list

same : (n : ℕ) → (n == n) ≡ true
same n = grind arith

last_of : (n : ℕ) (ns : List ℕ) → slice_get (ns ++ n ∷ []) (length ns) ≡ Some n
last_of n [] = refl
last_of n (m ∷ ns) = last_of n ns

one_longer : (n : ℕ) (ns : List ℕ) → length (ns ++ n ∷ []) - 1 ≡ length ns
one_longer n [] = refl
one_longer n (m ∷ ns) = let e : length (ns ++ n ∷ []) - 1 ≡ length ns = one_longer n ns in omega (arith, e, longer ns)
  where
    longer : (ms : List ℕ) → 0 < length (ms ++ n ∷ [])
    longer [] = omega arith
    longer (k ∷ ms) = omega arith

ends_so : (n : ℕ) (ns : List ℕ) → is_last n (slice_get (ns ++ n ∷ []) (length (ns ++ n ∷ []) - 1)) ≡ true
ends_so n ns = ap (λ k. is_last n (slice_get (ns ++ n ∷ []) k)) (one_longer n ns) ∙ ap (is_last n) (last_of n ns) ∙ same n

-- what is there once stays so
once_twice : (n : ℕ) (ns : List ℕ) → once n (once n ns) ≡ once n ns
once_twice n ns = by (is_last n (slice_get ns (length ns - 1))) refl
  where
    by : (b : Bool) → is_last n (slice_get ns (length ns - 1)) ≡ b → once n (cond b ns (ns ++ n ∷ [])) ≡ cond b ns (ns ++ n ∷ [])
    by true e = ap (λ b. cond b ns (ns ++ n ∷ [])) e
    by false e = ap (λ b. cond b (ns ++ n ∷ []) ((ns ++ n ∷ []) ++ n ∷ [])) (ends_so n ns)

-- ---- several keys, one after another

module _ {K : Type 0} (cmp : K → K → Ordering) where
  once_or : (n : ℕ) (a b : Bool) (ns : List ℕ) → cond (a || b) (once n ns) ns ≡ cond b (once n (cond a (once n ns) ns)) (cond a (once n ns) ns)
  once_or n true true ns = sym (once_twice n ns)
  once_or n true false ns = refl
  once_or n false true ns = refl
  once_or n false false ns = refl

  both_keys : (n : ℕ) (xs ys : List K) (k : K) (ns : List ℕ) → once_if cmp n (xs ++ ys) k ns ≡ once_if cmp n ys k (once_if cmp n xs k ns)
  both_keys n xs ys k ns =
      ap (λ b. cond b (once n ns) ns) (list_any-append (λ t. is_eq (cmp t k)) xs ys) ∙ once_or n (is_among cmp xs k) (is_among cmp ys k) ns

  -- what is reported for some keys and then for others
  pub both_told : (n : ℕ) (xs ys : List K) (k : K) (o : Option (List ℕ))
      → option_map (once_if cmp n ys k) (option_map (once_if cmp n xs k) o) ≡ option_map (once_if cmp n (xs ++ ys) k) o
  both_told n xs ys k None = refl
  both_told n xs ys k (Some ns) = ap Some (sym (both_keys n xs ys k ns))

-- ---- the numbers of the features that pass

module _ {X : Type 0} (test : X → Bool) where
  -- all are below the number of the next one
  not_last : (k i : ℕ) (xs : List X) (n : ℕ) → k + length xs ≤ n → is_last n (slice_get (flat_map_at (number_if test) k xs) i) ≡ false
  not_last k i [] n l = refl
  not_last k i (x ∷ xs) n l = by (test x) i (λ j. not_last (suc k) j xs n (omega (arith, l)))
    where
      apart : (k == n) ≡ false
      apart = grind (arith, l)

      by : (b : Bool) (j : ℕ) → ((m : ℕ) → is_last n (slice_get (flat_map_at (number_if test) (suc k) xs) m) ≡ false)
          → is_last n (slice_get ((if b then (k ∷ []) else []) ++ flat_map_at (number_if test) (suc k) xs) j) ≡ false
      by true zero rest = apart
      by true (suc j) rest = rest j
      by false j rest = rest j

  once_more : (n : ℕ) (xs : List X) → length xs ≤ n → once n (numbers_where test xs) ≡ numbers_where test xs ++ n ∷ []
  once_more n xs l =
      let ns = numbers_where test xs in
      ap (λ b. cond b ns (ns ++ n ∷ [])) (not_last 0 (length ns - 1) xs n (omega (arith, l)))

  -- one feature more
  pub next_number : (xs : List X) (i : ℕ) (x : X) (b : Bool) → i < length xs → x ≡ get_or xs i x → length (take i xs) ≤ i → b ≡ test x
      → cond b (once i (numbers_where test (take i xs))) (numbers_where test (take i xs)) ≡ numbers_where test (take (i + 1) xs)
  next_number xs i x b l e few t =
      ap (λ c. cond c (once i ns) ns) t ∙ by (test x) ∙ sym (each_next (number_if test) xs i x l e)
    where
      ns : List ℕ
      ns = numbers_where test (take i xs)

      by : (c : Bool) → cond c (once i ns) ns ≡ ns ++ (if c then (i ∷ []) else [])
      by true = once_more i (take i xs) few
      by false = sym (append-nil ns)
