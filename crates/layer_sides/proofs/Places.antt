-- How often a place stands in a list, and lists that differ in their order alone.
use Rattle.kit_words.proofs.Common.{◌≡◌, ◌<◌, ◌+◌, ◌==◌, ◌&&◌, ◌||◌, ℕ, suc, Bool, true, false, not, refl, sym, ap}
use Rattle.kit_words.proofs.Common.{◌∙◌, subst, cond, List, [], ◌∷◌, ◌++◌, inl, inr, arith, eqb-true, eq-eqb, nat_lt}
use Rattle.kit_words.proofs.Common.{IsPermutation, sum_by-cons, sum_by-IsPermutation, filter, length, ◌≤◌, false≢true, ltb-true}
use Rattle.std.proofs.Common.{ltb-false}
use Rattle.std.specs.Prelude.{sum_by}
use Rattle.grid_geometry.specs.Common.{xor}
use Rattle.ring_machine.proofs.Common.{In}
use Rattle.layer_sides.proofs.Odds.{odd, odd-append}
use Rattle.layer_sides.specs.Under.{times, ListsPlaces}

-- ---- how often

pub times-append : (i : ℕ) (xs ys : List ℕ) → times i (xs ++ ys) ≡ times i xs + times i ys
times-append i [] ys = omega arith
times-append i (x ∷ xs) ys = by (x == i) (times i (xs ++ ys)) (times i xs) (times i ys) (times-append i xs ys)
  where
    by : (b : Bool) (m n k : ℕ) → m ≡ n + k → cond b (suc m) m ≡ cond b (suc n) n + k
    by true m n k e = omega arith
    by false m n k e = e

pub none_times : (i : ℕ) (xs : List ℕ) → (In i xs → ⊥) → times i xs ≡ 0
none_times i [] h = refl
none_times i (x ∷ xs) h = by (x == i) refl (none_times i xs (λ k. h (inr k)))
  where
    by : (b : Bool) → (x == i) ≡ b → times i xs ≡ 0 → cond b (suc (times i xs)) (times i xs) ≡ 0
    by true e k = absurd (h (inl (eqb-true x i e)))
    by false e k = k

pub in_times : (i : ℕ) (xs : List ℕ) → In i xs → 0 < times i xs
in_times i [] h = absurd h
in_times i (x ∷ xs) (inl e) =
    subst (λ b. 0 < cond b (suc (times i xs)) (times i xs)) (sym (eq-eqb x i e)) (omega arith)
in_times i (x ∷ xs) (inr h) = by (x == i) (in_times i xs h)
  where
    by : (b : Bool) → 0 < times i xs → 0 < cond b (suc (times i xs)) (times i xs)
    by true k = omega arith
    by false k = k

pub times_in : (i : ℕ) (xs : List ℕ) → 0 < times i xs → In i xs
times_in i [] h = absurd (none h)
  where
    none : 0 < 0 → ⊥
    none k = omega arith
times_in i (x ∷ xs) h = by (x == i) refl (times_in i xs) h
  where
    by : (b : Bool) → (x == i) ≡ b → (0 < times i xs → In i xs) → 0 < cond b (suc (times i xs)) (times i xs) → In i (x ∷ xs)
    by true e rest k = inl (eqb-true x i e)
    by false e rest k = inr (rest k)

pub times_itself : (x : ℕ) (xs : List ℕ) → times x (x ∷ xs) ≡ suc (times x xs)
times_itself x xs = ap (λ b. cond b (suc (times x xs)) (times x xs)) (eq-eqb x x refl)

-- ---- in another order

times_sum : (i : ℕ) (xs : List ℕ) → times i xs ≡ sum_by (λ k. cond (k == i) 1 0) xs
times_sum i [] = refl
times_sum i (x ∷ xs) =
    by (x == i) (times i xs) (sum_by (λ k. cond (k == i) 1 0) xs) (times_sum i xs) ∙ sym (sum_by-cons (λ k. cond (k == i) 1 0) x xs)
  where
    by : (b : Bool) (m n : ℕ) → m ≡ n → cond b (suc m) m ≡ cond b 1 0 + n
    by true m n e = omega arith
    by false m n e = omega arith

pub times-permuted : (i : ℕ) (xs ys : List ℕ) → IsPermutation xs ys → times i ys ≡ times i xs
times-permuted i xs ys p =
    times_sum i ys ∙ sum_by-IsPermutation (λ k. cond (k == i) 1 0) xs ys p ∙ sym (times_sum i xs)

-- a list in which x stands, around it
pub record Around (x : ℕ) (ys : List ℕ) : Type 0 where
  pub front : List ℕ
  pub back : List ℕ
  pub is : ys ≡ front ++ x ∷ back

pub around : (x : ℕ) (ys : List ℕ) → In x ys → Around x ys
around x [] h = absurd h
around x (y ∷ ys) (inl e) = record { front = []; back = ys; is = ap (λ z. z ∷ ys) e }
around x (y ∷ ys) (inr h) =
    let a = around x ys h in
    record { front = y ∷ a.front; back = a.back; is = ap (λ zs. y ∷ zs) a.is }

times_around : (i x : ℕ) (front back : List ℕ) → times i (front ++ x ∷ back) ≡ times i (x ∷ (front ++ back))
times_around i x front back =
    times-append i front (x ∷ back)
    ∙ by (x == i) (times i front) (times i back) (times i (front ++ back)) (times-append i front back)
  where
    by : (b : Bool) (m n k : ℕ) → k ≡ m + n → m + cond b (suc n) n ≡ cond b (suc k) k
    by true m n k e = omega arith
    by false m n k e = omega arith

one_less : (b : Bool) (m n : ℕ) → cond b (suc m) m ≡ cond b (suc n) n → m ≡ n
one_less true m n e = omega arith
one_less false m n e = e

-- lists in which each place stands as often, tested place by place
pub odd_same : (test : ℕ → Bool) (xs ys : List ℕ) → ((i : ℕ) → times i xs ≡ times i ys) → odd test xs ≡ odd test ys
odd_same test [] [] h = refl
odd_same test [] (y ∷ ys) h = absurd (differ (h y ∙ times_itself y ys))
  where
    differ : 0 ≡ suc (times y ys) → ⊥
    differ e = omega arith
odd_same test (x ∷ xs) ys h =
    ap (xor (test x)) (odd_same test xs (a.front ++ a.back)
    (λ i. one_less (x == i) (times i xs) (times i (a.front ++ a.back)) (h i ∙ ap (times i) a.is ∙ times_around i x a.front a.back)))
    ∙ ap (xor (test x)) (odd-append test a.front a.back)
    ∙ crossed (test x) (odd test a.front) (odd test a.back)
    ∙ sym (ap (odd test) a.is ∙ odd-append test a.front (x ∷ a.back))
  where
    some : 0 < times x ys
    some = let e : times x ys ≡ suc (times x xs) = sym (h x) ∙ times_itself x xs in omega (arith, e)

    a : Around x ys
    a = around x ys (times_in x ys some)

    crossed : (b c d : Bool) → xor b (xor c d) ≡ xor c (xor b d)
    crossed b c d = grind arith

-- ---- all places of a list

abbrev pub places_from : {X : Type 0} → ℕ → List X → List ℕ
places_from k [] = []
places_from k (x ∷ xs) = k ∷ places_from (suc k) xs

other_place : (i k : ℕ) (ks : List ℕ) → (k ≡ i → ⊥) → times i (k ∷ ks) ≡ times i ks
other_place i k ks h = by (k == i) refl
  where
    by : (b : Bool) → (k == i) ≡ b → cond b (suc (times i ks)) (times i ks) ≡ times i ks
    by true e = absurd (h (eqb-true k i e))
    by false e = refl

none_before : {X : Type 0} (i k : ℕ) (xs : List X) → i < k → times i (places_from k xs) ≡ 0
none_before i k [] l = refl
none_before i k (x ∷ xs) l =
    other_place i k (places_from (suc k) xs) (λ e. omega arith) ∙ none_before i (suc k) xs (omega arith)

none_behind : {X : Type 0} (i k : ℕ) (xs : List X) → k + length xs ≤ i → times i (places_from k xs) ≡ 0
none_behind i k [] l = refl
none_behind i k (x ∷ xs) l =
    other_place i k (places_from (suc k) xs) (λ e. omega arith) ∙ none_behind i (suc k) xs (omega arith)

one_each : {X : Type 0} (i k : ℕ) (xs : List X) → k ≤ i → i < k + length xs → times i (places_from k xs) ≡ 1
one_each i k [] l h = absurd (omega arith)
one_each i k (x ∷ xs) l h = by (k == i) refl (one_each i (suc k) xs)
  where
    by : (b : Bool) → (k == i) ≡ b → (suc k ≤ i → i < suc k + length xs → times i (places_from (suc k) xs) ≡ 1) → cond b (suc (times i (places_from (suc k) xs))) (times i (places_from (suc k) xs)) ≡ 1
    by true e rest =
        let f : k ≡ i = eqb-true k i e in
        let g : times i (places_from (suc k) xs) ≡ 0 = none_before i (suc k) xs (omega arith) in
        omega (arith, g)
    by false e rest =
        let f : k ≡ i → ⊥ = λ g. false≢true (sym e ∙ eq-eqb k i g) in
        rest (omega (arith, f)) (omega arith)

pub all_places : {X : Type 0} (xs : List X) → ListsPlaces (length xs) (λ i. true) (places_from 0 xs)
all_places xs i = by (nat_lt i (length xs)) refl
  where
    by : (b : Bool) → nat_lt i (length xs) ≡ b → times i (places_from 0 xs) ≡ cond (b && true) 1 0
    by true e = let l : i < length xs = ltb-true i (length xs) e in one_each i 0 xs (omega arith) (omega arith)
    by false e = let l : length xs ≤ i = ltb-false i (length xs) e in none_behind i 0 xs (omega arith)

-- ---- those that pass

times-filter : (test : ℕ → Bool) (i : ℕ) (xs : List ℕ) → times i (filter test xs) ≡ cond (test i) (times i xs) 0
times-filter test i [] = by (test i)
  where
    by : (b : Bool) → ◌≡◌ {A = ℕ} 0 (cond b 0 0)
    by true = refl
    by false = refl
times-filter test i (x ∷ xs) = by (x == i) refl (test x) refl (times-filter test i xs)
  where
    by : (a : Bool) → (x == i) ≡ a → (b : Bool) → test x ≡ b → times i (filter test xs) ≡ cond (test i) (times i xs) 0
        → times i (cond b (x ∷ filter test xs) (filter test xs)) ≡ cond (test i) (cond a (suc (times i xs)) (times i xs)) 0
    by true e true f k =
        let t : test i ≡ true = ap test (sym (eqb-true x i e)) ∙ f in
        ap (λ c. cond c (suc (times i (filter test xs))) (times i (filter test xs))) e
        ∙ ap suc (k ∙ ap (λ c. cond c (times i xs) 0) t) ∙ sym (ap (λ c. cond c (suc (times i xs)) 0) t)
    by true e false f k =
        let t : test i ≡ false = ap test (sym (eqb-true x i e)) ∙ f in
        k ∙ ap (λ c. cond c (times i xs) 0) t ∙ sym (ap (λ c. cond c (suc (times i xs)) 0) t)
    by false e true f k = ap (λ c. cond c (suc (times i (filter test xs))) (times i (filter test xs))) e ∙ k
    by false e false f k = k

-- the places of a list that pass, in another order
pub odd_listed : {X : Type 0} (xs : List X) (way test : ℕ → Bool) (places : List ℕ) → ListsPlaces (length xs) way places
    → ((i : ℕ) → In i (places_from 0 xs) → way i ≡ false → test i ≡ false) → odd test (places_from 0 xs) ≡ odd test places
odd_listed xs way test places h none =
    sym (unfiltered (places_from 0 xs) none)
    ∙ odd_same test (filter way (places_from 0 xs)) places
    (λ i. times-filter way i (places_from 0 xs) ∙ ap (λ n. cond (way i) n 0) (all_places xs i)
    ∙ both (nat_lt i (length xs)) (way i) ∙ sym (h i))
  where
    both : (a b : Bool) → ◌≡◌ {A = ℕ} (cond b (cond (a && true) 1 0) 0) (cond (a && b) 1 0)
    both true true = refl
    both true false = refl
    both false true = refl
    both false false = refl

    unfiltered : (ks : List ℕ) → ((i : ℕ) → In i ks → way i ≡ false → test i ≡ false) → odd test (filter way ks) ≡ odd test ks
    unfiltered [] h = refl
    unfiltered (k ∷ ks) h = by (way k) refl (unfiltered ks (λ i j. h i (inr j)))
      where
        by : (b : Bool) → way k ≡ b → odd test (filter way ks) ≡ odd test ks
            → odd test (cond b (k ∷ filter way ks) (filter way ks)) ≡ xor (test k) (odd test ks)
        by true e f = ap (xor (test k)) f
        by false e f = f ∙ sym (ap (λ b. xor b (odd test ks)) (h k (inl refl) e))

-- ---- a vertex: those that end there go, those that begin there come

times_three : (i : ℕ) (xs ys zs : List ℕ) → times i (xs ++ ys ++ zs) ≡ (times i xs + times i ys) + times i zs
times_three i xs ys zs = times-append i (xs ++ ys) zs ∙ ap (λ n. n + times i zs) (times-append i xs ys)

module _ (n : ℕ) (awaits ends begins way : ℕ → Bool) (front ended back begun : List ℕ)
    (before : ListsPlaces n awaits (front ++ ended ++ back)) (come : ListsPlaces n begins begun)
    (end : (i : ℕ) → In i ended → ends i ≡ true) (go_front : (i : ℕ) → In i front → ends i ≡ false)
    (go_back : (i : ℕ) → In i back → ends i ≡ false)
    (is_way : (i : ℕ) → i < n → way i ≡ ((awaits i && not (ends i)) || begins i))
    (apart : (i : ℕ) → begins i ≡ true → awaits i ≡ false) where
  differ : (i : ℕ) → ends i ≡ true → ends i ≡ false → ⊥
  differ i e f = grind arith

  count : (l w t b : Bool) (f e k m : ℕ) → (f + e) + k ≡ cond (l && w) 1 0 → m ≡ cond (l && b) 1 0
      → (t ≡ true → f ≡ 0) → (t ≡ true → k ≡ 0) → (t ≡ false → e ≡ 0) → (b ≡ true → w ≡ false)
      → (f + m) + k ≡ cond (l && ((w && not t) || b)) 1 0
  count true true true true f e k m h j a b c d = absurd (differ_bools (d refl))
    where
      differ_bools : true ≡ false → ⊥
      differ_bools z = grind arith
  count true true true false f e k m h j a b c d = let p = a refl in let q = b refl in omega (arith, p, q, j)
  count true true false true f e k m h j a b c d = absurd (differ_bools (d refl))
    where
      differ_bools : true ≡ false → ⊥
      differ_bools z = grind arith
  count true true false false f e k m h j a b c d = let p = c refl in omega (arith, p, h, j)
  count true false t true f e k m h j a b c d = omega (arith, h, j)
  count true false true false f e k m h j a b c d = omega (arith, h, j)
  count true false false false f e k m h j a b c d = omega (arith, h, j)
  count false w t b f e k m h j a g c d = omega (arith, h, j)

  pub listed_after : ListsPlaces n way (front ++ begun ++ back)
  listed_after i =
      times_three i front begun back
      ∙ count (nat_lt i n) (awaits i) (ends i) (begins i) (times i front) (times i ended) (times i back) (times i begun)
      (sym (times_three i front ended back) ∙ before i) (come i)
      (λ e. none_times i front (λ j. differ i e (go_front i j)))
      (λ e. none_times i back (λ j. differ i e (go_back i j)))
      (λ e. none_times i ended (λ j. differ i (end i j) e))
      (apart i)
      ∙ by (nat_lt i n) refl
    where
      by : (l : Bool) → nat_lt i n ≡ l → ◌≡◌ {A = ℕ} (cond (l && ((awaits i && not (ends i)) || begins i)) 1 0) (cond (l && way i) 1 0)
      by true e = ap (λ b. cond {A = ℕ} b 1 0) (sym (is_way i (ltb-true i n e)))
      by false e = refl
