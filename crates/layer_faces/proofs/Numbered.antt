-- Sides by their numbers, and polygons by theirs.
use Rattle.kit_words.proofs.Common.{◌≡◌, ℕ, zero, suc, ◌+◌, ◌-◌, ◌*◌, ◌/◌, ◌%◌, ◌<◌, ◌≤◌, Bool, true, false, refl, ap, ap₂, ◌∙◌, arith, cond, eqb, subst}
use Rattle.kit_words.proofs.Common.{List, [], ◌∷◌, map, length, get_or, All, eqb-true, eqb-false, get_or-map}
use Rattle.std.proofs.Common.{rules, tests, ◌≢◌}
use Rattle.std.specs.List.{count_by, range_with_len}
use Rattle.std.proofs.lemmas.List.Sums.{sum_by-cons}
use Rattle.std.proofs.lemmas.List.Elements.{All-cons, All-nil, All-weaker, Contains-get_or}
use Rattle.grid_geometry.specs.Common.{Segment}
use Rattle.layer_sides.specs.Common.{Polygon, Side, Left, Right, AreBorders, AreHeld, Bordering, bounded, holders, holds, is_bounding, numbers_from}
use Rattle.layer_faces.specs.Areas.{all_sides}
use Rattle.layer_faces.specs.Holders.{opposite}
use Rattle.layer_faces.specs.Kept.{apart, held_at, no_border, opposite_number}
use Rattle.layer_faces.specs.Seen.{nowhere, side_at}
use Rattle.layer_faces.proofs.Apart.{apart_numbers}

-- ---- sides

next_side : (s : Segment) (ss : List Segment) (a : ℕ) → side_at (s ∷ ss) (a + 2) ≡ side_at ss a
next_side s ss a =
    let half : (a + 2) / 2 ≡ suc (a / 2) = omega arith in
    let rest : (a + 2) % 2 ≡ a % 2 = omega arith in
    rw (half, rest) refl

shifted : (s : Segment) (ss : List Segment) (a n : ℕ) → map (side_at (s ∷ ss)) (range_with_len (a + 2) n) ≡ map (side_at ss) (range_with_len a n)
shifted s ss a zero = refl
shifted s ss a (suc n) =
    let e : a + 2 + 1 ≡ a + 1 + 2 = omega arith in
    ap₂ (λ x xs. x ∷ xs) (next_side s ss a) (ap (λ k. map (side_at (s ∷ ss)) (range_with_len k n)) e ∙ shifted s ss (a + 1) n)

pub sides_numbered : (ss : List Segment) → map (side_at ss) (range_with_len 0 (2 * length ss)) ≡ all_sides ss
sides_numbered [] = refl
sides_numbered (s ∷ ss) =
    let e : 2 * suc (length ss) ≡ suc (suc (2 * length ss)) = omega arith in
    ap (λ n. map (side_at (s ∷ ss)) (range_with_len 0 n)) e
    ∙ ap (λ (sides : List Side). (s, Left) ∷ (s, Right) ∷ sides) (shifted s ss 0 (2 * length ss) ∙ sides_numbered ss)

pub opposite_at : (ss : List Segment) (a : ℕ) → side_at ss (opposite_number a) ≡ opposite (side_at ss a)
opposite_at ss a = by (eqb (a % 2) 0) refl
  where
    by : (b : Bool) → eqb (a % 2) 0 ≡ b
        → side_at ss (cond b (a + 1) (a - 1)) ≡ opposite (get_or ss (a / 2) nowhere, cond b Left Right)
    by true t =
        let even : a % 2 ≡ 0 = eqb-true _ _ t in
        let half : (a + 1) / 2 ≡ a / 2 = omega arith in
        let rest : (a + 1) % 2 ≡ 1 = omega arith in
        rw (half, rest) refl
    by false t =
        let odd : a % 2 ≢ 0 = eqb-false _ _ t in
        let half : (a - 1) / 2 ≡ a / 2 = omega arith in
        let rest : (a - 1) % 2 ≡ 0 = omega arith in
        rw (half, rest) refl

pub opposite_within : (a n : ℕ) → a < 2 * n → opposite_number a < 2 * n
opposite_within a n l = by (eqb (a % 2) 0) refl
  where
    by : (b : Bool) → eqb (a % 2) 0 ≡ b → cond b (a + 1) (a - 1) < 2 * n
    by true t = let even : a % 2 ≡ 0 = eqb-true _ _ t in omega arith
    by false t = omega arith

-- ---- who holds them

by_hand : (polygons : List Polygon) (b : Bordering) (s : Segment) → s ≡ b.segment → b.bounds ≡ bounded polygons b.segment
    → b.right ≡ holders polygons (b.segment, Right) → (c : Bool)
    → cond c (apart b.bounds b.right) b.right ≡ holders polygons (s, cond c Left Right)
by_hand polygons b s e k r true =
    rw e (ap₂ apart k r ∙ apart_numbers 0 (λ p. is_bounding p b.segment) (λ p. holds p (b.segment, Right)) polygons)
by_hand polygons b s e k r false = rw e r

pub held_is : (polygons : List Polygon) (borders : List Bordering) → AreBorders polygons borders → AreHeld polygons borders
    → (a : ℕ) → a < 2 * length borders → held_at borders a ≡ holders polygons (side_at (map (λ b. b.segment) borders) a)
held_is polygons borders are held a l =
    let within : a / 2 < length borders = omega arith in
    let b = get_or borders (a / 2) no_border in
    let there = Contains-get_or borders (a / 2) no_border within in
    by_hand polygons b _ (get_or-map (λ (b : Bordering). b.segment) borders (a / 2) no_border nowhere within) (are.bounding b there) (held b there) (eqb (a % 2) 0)

-- ---- numbers of polygons

pub numbers_within : (n : ℕ) (test : Polygon → Bool) (ps : List Polygon) → All (λ m. m < n + length ps) (numbers_from n test ps)
numbers_within n test [] = All-nil (λ m. m < n + 0)
numbers_within n test (p ∷ ps) =
    by (test p) (All-weaker (λ m. m < suc n + length ps) (λ m. m < n + suc (length ps)) (λ m l. omega arith) (numbers_from (suc n) test ps) (numbers_within (suc n) test ps))
  where
    by : (b : Bool) → All (λ m. m < n + suc (length ps)) (numbers_from (suc n) test ps)
        → All (λ m. m < n + suc (length ps)) (cond b (n ∷ numbers_from (suc n) test ps) (numbers_from (suc n) test ps))
    by true rest = All-cons (λ m. m < n + suc (length ps)) n (numbers_from (suc n) test ps) (omega arith) rest
    by false rest = rest

pub numbers_few : (n : ℕ) (test : Polygon → Bool) (ps : List Polygon) → length (numbers_from n test ps) ≤ length ps
numbers_few n test [] = omega arith
numbers_few n test (p ∷ ps) = by (test p) (numbers_few (suc n) test ps)
  where
    by : (b : Bool) → length (numbers_from (suc n) test ps) ≤ length ps
        → length (cond b (n ∷ numbers_from (suc n) test ps) (numbers_from (suc n) test ps)) ≤ suc (length ps)
    by true h = omega arith
    by false h = omega arith

other_number : (n k : ℕ) → k < n → eqb n k ≡ false
other_number n k l = search (rules, tests)

other_after : (n k : ℕ) → n < k → eqb n k ≡ false
other_after n k l = search (rules, tests)

same_number : (n : ℕ) → eqb n n ≡ true
same_number n = search (rules, tests)

-- the numbers of a polygon and of those after it, as often as they are k
counted : (k n : ℕ) (b : Bool) (ns : List ℕ) (c r : ℕ) → count_by (λ m. eqb m k) ns ≡ r → cond b (cond (eqb n k) 1 0) 0 + r ≡ c
    → count_by (λ m. eqb m k) (cond b (n ∷ ns) ns) ≡ c
counted k n true ns c r h e = sum_by-cons (λ m. cond (eqb m k) 1 0) n ns ∙ rw h e
counted k n false ns c r h e = h ∙ omega arith

none_counted : (k n : ℕ) (test : Polygon → Bool) (ps : List Polygon) → k < n → count_by (λ m. eqb m k) (numbers_from n test ps) ≡ 0
none_counted k n test [] l = refl
none_counted k n test (p ∷ ps) l =
    counted k n (test p) (numbers_from (suc n) test ps) 0 0 (none_counted k (suc n) test ps (omega arith)) (by (test p))
  where
    by : (b : Bool) → cond b (cond (eqb n k) 1 0) 0 + 0 ≡ 0
    by true = rw (other_number n k l) refl
    by false = refl

-- the number of a polygon is counted once where it passes, and else not at all
pub counted_once : (n i k : ℕ) (test : Polygon → Bool) (ps : List Polygon) (d : Polygon) → k ≡ n + i → i < length ps
    → count_by (λ m. eqb m k) (numbers_from n test ps) ≡ cond (test (get_or ps i d)) 1 0
counted_once n i k test [] d e l = absurd (omega arith)
counted_once n zero k test (p ∷ ps) d e l =
    counted k n (test p) (numbers_from (suc n) test ps) (cond (test p) 1 0) 0 (none_counted k (suc n) test ps (omega arith)) (by (test p))
  where
    here : n ≡ k
    here = omega arith

    by : (b : Bool) → cond b (cond (eqb n k) 1 0) 0 + 0 ≡ cond b 1 0
    by true = subst (λ j. cond (eqb n j) 1 0 + 0 ≡ 1) here (rw (same_number n) refl)
    by false = refl
counted_once n (suc i) k test (p ∷ ps) d e l =
    counted k n (test p) (numbers_from (suc n) test ps) (cond (test (get_or ps i d)) 1 0) (cond (test (get_or ps i d)) 1 0)
    (counted_once (suc n) i k test ps d (omega arith) (omega arith)) (by (test p))
  where
    above : n < k
    above = omega arith

    by : (b : Bool) → cond b (cond (eqb n k) 1 0) 0 + cond (test (get_or ps i d)) 1 0 ≡ cond (test (get_or ps i d)) 1 0
    by true = rw (other_after n k above) (omega arith)
    by false = omega arith
