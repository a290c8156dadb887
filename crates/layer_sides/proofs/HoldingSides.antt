-- Which polygons hold the sides of the borders at a vertex, as the code writes them.
use Rattle.kit_words.proofs.Common.{◌≡◌, ℕ, suc, ◌+◌, ◌-◌, ◌<◌, ◌≤◌, refl, sym, ap, ap₂, ◌∙◌, subst, arith, List, []}
use Rattle.kit_words.proofs.Common.{◌∷◌, ◌++◌, drop, length, get_or, set, get_or-map, length-map, nil_from_length}
use Rattle.kit_words.proofs.Common.{IsStrictlySortedBy, Result, Ok, Err, IfOk, zero}
use Rattle.std.specs.Ordering.{nat_cmp}
use Rattle.grid_geometry.specs.Common.{xor}
use Rattle.layer_sides.specs.Borders.{Bordering}
use Rattle.layer_sides.specs.declared.border.Border.{Border}
use Rattle.layer_sides.specs.Sweep.{has_number}
use Rattle.layer_sides.specs.Seen.{border_seen, borders_seen}
use Rattle.layer_sides.specs.Under.{AreApartFrom, AreAscending, AreBelow, AreNumbered, AreOddOf, Rewrites, border_at, borders_at}
use Rattle.layer_sides.specs.Under.{bounds_of, is_odd_of, no_border, with_right}
use Rattle.layer_sides.proofs.Ascending.{rises_none}
use Rattle.layer_sides.proofs.Seeing.{border_at_seen, same_length}
use Rattle.layer_sides.proofs.Writing.{numbered_more, odd_more, rewrites_more}

-- ---- of what was found, if it was

pub if_ok_from : {X E : Type 0} {P Q R : X → Type 0} (r : Result X E) → ((x : X) → P x → Q x → R x) → IfOk r P → IfOk r Q → IfOk r R
if_ok_from (Ok x) f p q = f x p q
if_ok_from (Err e) f p q = tt

-- ---- a border at a place

pub seen_at : {A : Type 0} (xs : List (Border A)) (i : ℕ) (x : Border A) → i < length xs → x ≡ get_or xs i x
    → border_at (borders_seen xs) i ≡ border_seen x
seen_at xs i x l e = border_at_seen xs i x l ∙ ap border_seen (sym e)

bounds_ascend : (bs : List Bordering) (i : ℕ) → i < length bs → AreAscending (bounds_of bs)
    → IsStrictlySortedBy nat_cmp (border_at bs i).bounds
bounds_ascend bs i l h =
    subst (IsStrictlySortedBy nat_cmp) (get_or-map (λ (b : Bordering). b.bounds) bs i no_border [] l)
    (h i [] (subst (λ n. i < n) (sym (length-map bs (λ (b : Bordering). b.bounds))) l))

-- the numbers of the polygons that the border at a place bounds
pub bounds_sorted : {A : Type 0} (xs : List (Border A)) (i : ℕ) (x : Border A) (bounds : List ℕ) → i < length xs → x ≡ get_or xs i x
    → bounds ≡ x.bounds.items → AreAscending (bounds_of (borders_seen xs)) → IsStrictlySortedBy nat_cmp bounds
bounds_sorted xs i x bounds l e f h =
    subst (IsStrictlySortedBy nat_cmp) (ap (λ (b : Bordering). b.bounds) (seen_at xs i x l e) ∙ sym f)
    (bounds_ascend (borders_seen xs) i (subst (λ n. i < n) (sym (length-map xs border_seen)) l) h)

-- ---- the left side of the first

first_split : (places : List ℕ) (i : ℕ) → 0 < length places → i ≡ get_or places 0 i → places ≡ i ∷ drop 1 places
first_split [] i l e = absurd (omega arith)
first_split (k ∷ ks) i l e = ap (λ z. z ∷ ks) (sym e)

-- the first in the list has its numbers, as those behind it have
first_numbered : (bs : List Bordering) (places : List ℕ) (i : ℕ) → 0 < length places → i ≡ get_or places 0 i
    → AreNumbered (borders_at bs places) → AreNumbered (borders_at bs (i ∷ drop 1 places))
first_numbered bs places i l e h = subst (λ ks. AreNumbered (borders_at bs ks)) (first_split places i l e) h

pub right_sorted : {A : Type 0} (xs : List (Border A)) (places : List ℕ) (i : ℕ) (x : Border A) (right : List ℕ) → 0 < length places
    → i ≡ get_or places 0 i → i < length xs → x ≡ get_or xs i x → right ≡ x.right.items
    → AreNumbered (borders_at (borders_seen xs) places) → IsStrictlySortedBy nat_cmp right
right_sorted xs places i x right some first l e f h =
    subst (IsStrictlySortedBy nat_cmp) (ap (λ (b : Bordering). b.right) (seen_at xs i x l e) ∙ sym f)
    (first_numbered (borders_seen xs) places i some first h).0.sorted

first_odd : (bs : List Bordering) (places : List ℕ) (i : ℕ) (found : List ℕ) → 0 < length places → i ≡ get_or places 0 i
    → AreNumbered (borders_at bs places)
    → ((n : ℕ) → has_number n found ≡ xor (has_number n (border_at bs i).bounds) (has_number n (border_at bs i).right))
    → IsStrictlySortedBy nat_cmp found → AreOddOf (borders_at bs places) found
first_odd bs places i found l e numbered either sorted =
    subst (λ ks. AreOddOf (borders_at bs ks) found) (sym (first_split places i l e)) (record {
      odd = λ n. either n ∙ ap (xor (has_number n (border_at bs i).bounds)) ((first_numbered bs places i l e numbered).0.odd n);
      sorted = sorted;
    })

pub left_odd : {A : Type 0} (xs : List (Border A)) (places : List ℕ) (i : ℕ) (x : Border A) (bounds right found : List ℕ)
    → 0 < length places → i ≡ get_or places 0 i → i < length xs → x ≡ get_or xs i x → bounds ≡ x.bounds.items → right ≡ x.right.items
    → AreNumbered (borders_at (borders_seen xs) places)
    → ((n : ℕ) → has_number n found ≡ xor (has_number n bounds) (has_number n right))
    → IsStrictlySortedBy nat_cmp found → AreOddOf (borders_at (borders_seen xs) places) found
left_odd xs places i x bounds right found some first l e f g numbered either sorted =
    first_odd (borders_seen xs) places i found some first numbered
    (λ n. either n
    ∙ ap₂ (λ us vs. xor (has_number n us) (has_number n vs))
    (f ∙ sym (ap (λ (b : Bordering). b.bounds) (seen_at xs i x l e))) (g ∙ sym (ap (λ (b : Bordering). b.right) (seen_at xs i x l e))))
    sorted

pub none_odd : (bs : List Bordering) (places found : List ℕ) → length places ≡ 0 → found ≡ [] → AreOddOf (borders_at bs places) found
none_odd bs places found e f =
    subst (AreOddOf (borders_at bs places)) (sym f)
    (subst (λ ks. AreOddOf (borders_at bs ks) []) (sym (nil_from_length places e)) (record {
      odd = λ n. refl;
      sorted = rises_none nat_cmp;
    }))

-- ---- the left side of a border that is written

pub either_left : {A : Type 0} (xs : List (Border A)) (i : ℕ) (x : Border A) (bounds right numbers found : List ℕ) → i < length xs
    → x ≡ get_or xs i x → bounds ≡ x.bounds.items → right ≡ numbers
    → ((n : ℕ) → has_number n found ≡ xor (has_number n bounds) (has_number n right))
    → (n : ℕ) → has_number n found ≡ xor (has_number n (border_at (borders_seen xs) i).bounds) (has_number n numbers)
either_left xs i x bounds right numbers found l e f g either n =
    either n
    ∙ ap₂ (λ us vs. xor (has_number n us) (has_number n vs)) (f ∙ sym (ap (λ (b : Bordering). b.bounds) (seen_at xs i x l e))) g

-- ---- places

pub first_below : (n : ℕ) (places : List ℕ) (i : ℕ) → 0 < length places → i ≡ get_or places 0 i → AreBelow n places → i < n
first_below n places i l e h = subst (λ z. z < n) (sym e) (h 0 i l)

pub below_back : (n : ℕ) (ks ls : List ℕ) → AreBelow n (ks ++ ls) → AreBelow n ls
below_back n [] ls h = h
below_back n (k ∷ ks) ls h = below_back n ks ls (λ i d l. h (suc i) d (omega arith))

pub below_front : (n : ℕ) (ks ls : List ℕ) (i : ℕ) → AreBelow n (ks ++ ls) → i < length ks → get_or ks i 0 < n
below_front n [] ls i h l = absurd (omega arith)
below_front n (k ∷ ks) ls zero h l = h 0 0 (omega arith)
below_front n (k ∷ ks) ls (suc i) h l = below_front n ks ls i (λ j d m. h (suc j) d (omega arith)) (omega arith)

pub begun_below : {A : Type 0} (xs ys : List (Border A)) (begun behind : List ℕ) (k : ℕ) → AreBelow (length xs) (begun ++ behind)
    → Rewrites begun (borders_seen xs) (borders_seen ys) → k < length begun → get_or begun k 0 < length ys
begun_below xs ys begun behind k h rewrites l =
    subst (λ n. get_or begun k 0 < n) (sym (same_length xs ys rewrites.segments)) (below_front (length xs) begun behind k h l)

-- ---- those that begin, from the last to the first

-- those from a place on have their numbers
abbrev pub Written : List Bordering → List Bordering → List ℕ → List ℕ → ℕ → List ℕ → Type 0
Written old new begun behind count numbers =
    (count ≤ length begun)
    × Rewrites begun old new
    × AreNumbered (borders_at new (drop count begun ++ behind))
    × AreOddOf (borders_at new (drop count begun ++ behind)) numbers

written_one : (old bs new : List Bordering) (begun behind : List ℕ) (k : ℕ) (numbers found : List ℕ) → AreApartFrom behind begun
    → k < length begun → get_or begun k 0 < length bs → Written old bs begun behind (k + 1) numbers
    → new ≡ set bs (get_or begun k 0) (with_right (border_at bs (get_or begun k 0)) numbers)
    → ((n : ℕ) → has_number n found ≡ xor (has_number n (border_at bs (get_or begun k 0)).bounds) (has_number n numbers))
    → IsStrictlySortedBy nat_cmp found → Written old new begun behind k found
written_one old bs new begun behind k numbers found apart within below h e either sorted =
    subst (λ cs. Written old cs begun behind k found) (sym e) (
      omega (arith, within),
      rewrites_more old begun behind apart bs k within h.1 numbers below h.2 h.3,
      numbered_more old begun behind apart bs k within h.1 numbers below h.2 h.3,
      odd_more old begun behind apart bs k within h.1 numbers below h.2 h.3 found either sorted,
    )

pub written_more : {A : Type 0} (old : List Bordering) (ys : List (Border A)) (new : List Bordering) (begun behind : List ℕ) (count : ℕ)
    (numbers found : List ℕ) → AreApartFrom behind begun → 0 < count → get_or begun (count - 1) 0 < length ys
    → Written old (borders_seen ys) begun behind count numbers
    → new
    ≡ set (borders_seen ys) (get_or begun (count - 1) 0) (with_right (border_at (borders_seen ys) (get_or begun (count - 1) 0)) numbers)
    → ((n : ℕ) → has_number n found
    ≡ xor (has_number n (border_at (borders_seen ys) (get_or begun (count - 1) 0)).bounds) (has_number n numbers))
    → IsStrictlySortedBy nat_cmp found → Written old new begun behind (count - 1) found
written_more old ys new begun behind count numbers found apart some place h e either sorted =
    let next : count ≡ count - 1 + 1 = omega (arith, some) in
    written_one old (borders_seen ys) new begun behind (count - 1) numbers found apart (omega (arith, h.0, some))
    (subst (λ n. get_or begun (count - 1) 0 < n) (sym (length-map ys border_seen)) place)
    (subst (λ m. Written old (borders_seen ys) begun behind m numbers) next h) e either sorted

-- ---- what is on both sides

-- an odd number of both bounds the same polygons
pub same_odd : (bs cs : List Bordering) (ns ms : List ℕ) → AreOddOf bs ns → AreOddOf cs ms → ns ≡ ms
    → (n : ℕ) → is_odd_of n cs ≡ is_odd_of n bs
same_odd bs cs ns ms h k e n = sym (k.odd n) ∙ ap (has_number n) (sym e) ∙ h.odd n
