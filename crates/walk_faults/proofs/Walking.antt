-- The walks of a map, one after another.
use Rattle.kit_words.proofs.Common.{◌≡◌, ◌<◌, ◌≤◌, ◌+◌, ℕ, zero, suc, Bool, true, false, refl, sym, ap, ◌∙◌, cond, List}
use Rattle.kit_words.proofs.Common.{[], ◌∷◌, ◌++◌, map, length, take, get_or, arith, append_assoc, nat_lt, filter}
use Rattle.kit_words.proofs.Common.{flat_map, nat_tests, take_more, map-append}
use Rattle.std.proofs.Common.{append-nil}
use Rattle.topo_outline.specs.declared.fault.RingAt.{RingAt}
use Rattle.walk_faults.specs.Common.{FindFault, Placed, flat_map_at, is_short_walk, short_walks, repeat_at, repeated}
use Rattle.walk_faults.specs.Common.{all_repeats, OnlyIfMany, walk_seen}
use Rattle.walk_faults.specs.declared.findings.FindFault.TheVariants.{TooMany, OutOfMemory}
use Rattle.walk_faults.specs.declared.findings.Repeat.{Repeat}
use Rattle.walk_faults.specs.declared.walks.Walk.{Walk}
use Rattle.walk_faults.proofs.Lists.{seen_among}

-- ---- with their places

pub each_at-append : {X Y : Type 0} (f : ℕ → X → List Y) (k : ℕ) (xs ys : List X) → flat_map_at f k (xs ++ ys) ≡ flat_map_at f k xs ++ flat_map_at f (k + length xs) ys
each_at-append f k [] ys = let e : k ≡ k + 0 = omega arith in ap (λ n. flat_map_at f n ys) e
each_at-append f k (x ∷ xs) ys =
    let e : suc k + length xs ≡ k + suc (length xs) = omega arith in
    ap (λ z. f k x ++ z) (each_at-append f (suc k) xs ys ∙ ap (λ n. flat_map_at f (suc k) xs ++ flat_map_at f n ys) e)
    ∙ sym (append_assoc (f k x) (flat_map_at f (suc k) xs) (flat_map_at f (k + suc (length xs)) ys))

counted : {X Y : Type 0} (seen : X → Y) (xs : List X) (i : ℕ) → i < length xs → length (map seen (take i xs)) ≡ i
counted seen xs zero l = refl
counted seen [] (suc i) l = absurd (omega arith)
counted seen (y ∷ ys) (suc i) l = ap suc (counted seen ys i (omega arith))

-- one element more, as it is seen
pub each_more : {X Y Z : Type 0} (f : ℕ → Y → List Z) (seen : X → Y) (xs : List X) (i : ℕ) (x : X) → i < length xs → x ≡ get_or xs i x
    → flat_map_at f 0 (map seen (take (i + 1) xs)) ≡ flat_map_at f 0 (map seen (take i xs)) ++ f i (seen x)
each_more f seen xs i x l e =
    let so_far = map seen (take i xs) in
    let e' : 0 + length so_far ≡ i = omega (arith, counted seen xs i l) in
    ap (λ z. flat_map_at f 0 (map seen z)) (take_more xs i x l ∙ ap (λ z. take i xs ++ z ∷ []) (sym e))
    ∙ ap (flat_map_at f 0) (map-append seen (take i xs) (x ∷ [])) ∙ each_at-append f 0 so_far (seen x ∷ [])
    ∙ ap (λ n. flat_map_at f 0 so_far ++ (f n (seen x) ++ [])) e' ∙ ap (λ z. flat_map_at f 0 so_far ++ z) (append-nil (f i (seen x)))

-- what one element gives comes after those so far
pub one_appended : {X Y Z : Type 0} (f : ℕ → Y → List Z) (seen : X → Y) (xs : List X) (i : ℕ) (x : X) (old before after : List Z) → i < length xs → x ≡ get_or xs i x
    → before ≡ old ++ flat_map_at f 0 (map seen (take i xs)) → after ≡ before ++ f i (seen x)
    → after ≡ old ++ flat_map_at f 0 (map seen (take (i + 1) xs))
one_appended f seen xs i x old before after l e so_far is =
    is ∙ ap (λ z. z ++ f i (seen x)) so_far ∙ append_assoc old (flat_map_at f 0 (map seen (take i xs))) (f i (seen x))
    ∙ ap (λ z. old ++ z) (sym (each_more f seen xs i x l e))

-- ---- short ones

abbrev short_at : Placed → List RingAt
short_at w = cond (is_short_walk w.1) (w.0 ∷ []) []

short_is : (ws : List Placed) → short_walks ws ≡ flat_map short_at ws
short_is [] = refl
short_is (w ∷ ws) = by (is_short_walk w.1) (short_is ws)
  where
    kept : List Placed
    kept = filter (λ v. is_short_walk v.1) ws

    by : (b : Bool) → map (λ v. v.0) kept ≡ flat_map short_at ws
        → map (λ v. v.0) (cond {A = List Placed} b (w ∷ kept) kept) ≡ cond b (w.0 ∷ []) [] ++ flat_map short_at ws
    by true h = ap (λ z. w.0 ∷ z) h
    by false h = h

-- a further short walk
pub short_past : (walks : List Walk) (i : ℕ) (w : Walk) (m : ℕ) → i < length walks → w ≡ get_or walks i w → length w.positions.now < 3
    → m ≤ length (short_walks (map walk_seen (take i walks))) → m < length (short_walks (map walk_seen walks))
short_past walks i w m l e s h =
    let one : length (short_at (walk_seen w)) ≡ 1 = ap (λ b. length (cond {A = List RingAt} b (w.at ∷ []) [])) (short (length w.positions.now) s) in
    omega (arith, seen_among short_at walk_seen walks i w l e, ap length (short_is (map walk_seen (take i walks))), ap length (short_is (map walk_seen walks)), one)
  where
    short : (n : ℕ) → n < 3 → nat_lt n 3 ≡ true
    short n h = grind (arith, nat_tests)

-- ---- refusals

-- what is said where there are too many holds wherever that does
pub only_where : (P Q : Type 0) (fault : FindFault) → (P → Q) → OnlyIfMany P fault → OnlyIfMany Q fault
only_where P Q TooMany f h = f h
only_where P Q OutOfMemory f h = h

-- with those of the next walk there are more repeats than so many
pub repeats_past : (walks : List Walk) (i : ℕ) (w : Walk) (found : List Repeat) (n most : ℕ) → i < length walks → w ≡ get_or walks i w
    → found ≡ all_repeats (map walk_seen (take i walks)) → n ≡ length (map (repeat_at w.at) (repeated w.positions.now)) → most < length found + n
    → most < length (all_repeats (map walk_seen walks))
repeats_past walks i w found n most l e is count more = omega (
  arith,
  seen_among (λ v. map (repeat_at v.0) (repeated v.1)) walk_seen walks i w l e,
  ap length is,
  count,
  more,
)
