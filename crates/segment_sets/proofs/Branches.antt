-- What stands in a tree, and in which boxes.
use Rattle.kit_words.proofs.Common.{◌≡◌, ◌≤◌, ◌+◌, ℤ, ◌≤ℤ◌, ℕ, zero, suc, leb, Bool, true, false, cond, ◌&&◌, ◌||◌}
use Rattle.kit_words.proofs.Common.{List, [], ◌∷◌, ◌++◌, refl, sym, ap, ◌∙◌, arith, int_le, take, get_or, length, ◌<◌}
use Rattle.kit_words.proofs.Common.{Option, None, Some, Result, Ok, Err, OnOk, OnErr, ints, take_more, int_min, int_max}
use Rattle.kit_words.proofs.Common.{on_ok_weaker, on_err_weaker, le_itself, min_left, max_left}
use Rattle.std.proofs.Common.{unwrap_or}
use Rattle.std.specs.FinSet as set
use Rattle.grid_geometry.specs.Common.{Segment, Box, box_of, boxes_meet}
use Rattle.segment_sets.specs.Common.{is_within, box_around, joined, segment_is, set_of, has, times_in, AreSingle}
use Rattle.segment_sets.specs.Common.{Loses, Gains, IsSame, LieIn, LiesIn}
use Rattle.segment_sets.proofs.Singles.{segment_total, same_segment, same_sets, contains-set_of, has-is, times-append, times-push, times-some, loses-none, gained-single}

pub meet_parts : (a b c d : Bool) → ((a && b) && (c && d)) ≡ true → (a ≡ true) × (b ≡ true) × (c ≡ true) × (d ≡ true)
meet_parts a b c d h = (grind arith, grind arith, grind arith, grind arith)

pub le_from : (a b : ℤ) → int_le a b ≡ true → a ≤ℤ b
le_from a b h = grind (arith, ints)

le_through : (a b c : ℤ) → int_le a b ≡ true → int_le b c ≡ true → int_le a c ≡ true
le_through a b c h k = grind (arith, ints)

min_below : (a b : ℤ) → int_le (int_min a b) b ≡ true
min_below a b = grind (arith, ints)

max_above : (a b : ℤ) → int_le b (int_max a b) ≡ true
max_above a b = grind (arith, ints)

-- what meets a box meets each that has it
within_meets : (r b q : Box) → is_within r b ≡ true → boxes_meet r q ≡ true → boxes_meet b q ≡ true
within_meets r b q h m =
    let p = meet_parts (int_le b.x0 r.x0) (int_le r.x1 b.x1) (int_le b.y0 r.y0) (int_le r.y1 b.y1) h in
    let o = meet_parts (int_le r.x0 q.x1) (int_le q.x0 r.x1) (int_le r.y0 q.y1) (int_le q.y0 r.y1) m in
    λ i. (le_through b.x0 r.x0 q.x1 p.0 o.0 i && le_through q.x0 r.x1 b.x1 o.1 p.1 i) && (le_through b.y0 r.y0 q.y1 p.2 o.2 i && le_through q.y0 r.y1 b.y1 o.3 p.3 i)

within_left : (r a b : Box) → is_within r a ≡ true → is_within r (box_around a b) ≡ true
within_left r a b h =
    let p = meet_parts (int_le a.x0 r.x0) (int_le r.x1 a.x1) (int_le a.y0 r.y0) (int_le r.y1 a.y1) h in
    λ i. (min_left a.x0 b.x0 r.x0 p.0 i && max_left a.x1 b.x1 r.x1 p.1 i) && (min_left a.y0 b.y0 r.y0 p.2 i && max_left a.y1 b.y1 r.y1 p.3 i)

within_right : (a b : Box) → is_within b (box_around a b) ≡ true
within_right a b = λ i. (min_below a.x0 b.x0 i && max_above a.x1 b.x1 i) && (min_below a.y0 b.y0 i && max_above a.y1 b.y1 i)

within_itself : (r : Box) → is_within r r ≡ true
within_itself r = λ i. (le_itself r.x0 i && le_itself r.x1 i) && (le_itself r.y0 i && le_itself r.y1 i)

within_through : (r b c : Box) → is_within r b ≡ true → is_within b c ≡ true → is_within r c ≡ true
within_through r b c h k =
    let p = meet_parts (int_le b.x0 r.x0) (int_le r.x1 b.x1) (int_le b.y0 r.y0) (int_le r.y1 b.y1) h in
    let o = meet_parts (int_le c.x0 b.x0) (int_le b.x1 c.x1) (int_le c.y0 b.y0) (int_le b.y1 c.y1) k in
    λ i. (le_through c.x0 b.x0 r.x0 o.0 p.0 i && le_through r.x1 b.x1 c.x1 p.1 o.1 i) && (le_through c.y0 b.y0 r.y0 o.2 p.2 i && le_through r.y1 b.y1 c.y1 p.3 o.3 i)

min_is : (a b : ℤ) → int_le a b ≡ true → int_min a b ≡ a
min_is a b h = grind (arith, ints)

max_is : (a b : ℤ) → int_le b a ≡ true → int_max a b ≡ a
max_is a b h = grind (arith, ints)

-- a box that has another is the least one around both
pub around-within : (b r : Box) → is_within r b ≡ true → box_around b r ≡ b
around-within b r h =
    let p = meet_parts (int_le b.x0 r.x0) (int_le r.x1 b.x1) (int_le b.y0 r.y0) (int_le r.y1 b.y1) h in
    λ i. record { x0 = min_is b.x0 r.x0 p.0 i; y0 = min_is b.y0 r.y0 p.2 i; x1 = max_is b.x1 r.x1 p.1 i; y1 = max_is b.y1 r.y1 p.3 i }

-- ---- boxes around segments

pub lie-more : (b : Box) (s : Segment) (old new : List Segment) → LieIn b old → Gains s old new → LieIn (box_around b (box_of s)) new
lie-more b s old new lie gains t h =
    let itself : segment_is t s ≡ true → is_within (box_of t) (box_around b (box_of s)) ≡ true =
    λ e. ap (λ u. is_within (box_of u) (box_around b (box_of s))) (same_segment t s e) ∙ within_right b (box_of s) in
    let before : 1 ≤ times_in old t → is_within (box_of t) (box_around b (box_of s)) ≡ true = λ some. within_left (box_of t) b (box_of s) (lie t some) in
    grind (arith, gains t, itself, before)

pub lie-same : (b : Box) (s : Segment) (old new : List Segment) → LieIn b old → IsSame old new → LieIn (box_around b (box_of s)) new
lie-same b s old new lie same t h = within_left (box_of t) b (box_of s) (lie t (omega (arith, h, same t)))

pub lie-one : (s : Segment) (new : List Segment) → Gains s [] new → LieIn (box_of s) new
lie-one s new gains t h =
    let itself : segment_is t s ≡ true → is_within (box_of t) (box_of s) ≡ true = λ e. ap (λ u. is_within (box_of u) (box_of s)) (same_segment t s e) ∙ within_itself (box_of s) in
    grind (arith, gains t, itself)

-- a box that may be missing
pub lies-put : (b : Option Box) (s : Segment) (old new : List Segment) → LiesIn b old → ((t : Segment) → times_in new t ≤ times_in old t + cond (segment_is t s) 1 0) → LiesIn (joined b (Some (box_of s))) new
lies-put None s old new lies most = λ t h.
    let itself : segment_is t s ≡ true → is_within (box_of t) (box_of s) ≡ true = λ e. ap (λ u. is_within (box_of u) (box_of s)) (same_segment t s e) ∙ within_itself (box_of s) in
    grind (arith, most t, lies t, itself)
lies-put (Some b) s old new lies most = λ t h.
    let itself : segment_is t s ≡ true → is_within (box_of t) (box_around b (box_of s)) ≡ true =
    λ e. ap (λ u. is_within (box_of u) (box_around b (box_of s))) (same_segment t s e) ∙ within_right b (box_of s) in
    let before : 1 ≤ times_in old t → is_within (box_of t) (box_around b (box_of s)) ≡ true = λ some. within_left (box_of t) b (box_of s) (lies t some) in
    grind (arith, most t, itself, before)

pub lies-less : (b : Option Box) (old new : List Segment) → LiesIn b old → ((t : Segment) → times_in new t ≤ times_in old t) → LiesIn b new
lies-less None old new lies less = λ t. omega (arith, less t, lies t)
lies-less (Some b) old new lies less = λ t h. lies t (omega (arith, h, less t))

none : (b : Box) (all : List Segment) (t : Segment) → LieIn b all → is_within (box_of t) b ≡ false → times_in all t ≡ 0
none b all t lie apart = grind (arith, lie t)

-- ---- two lists, one after another

pub gains-left : (s : Segment) (l m r : List Segment) → Gains s l m → Gains s (l ++ r) (m ++ r)
gains-left s l m r gains t = omega (arith, times-append l r t, times-append m r t, gains t)

pub gains-right : (s : Segment) (l r m : List Segment) → Gains s r m → Gains s (l ++ r) (l ++ m)
gains-right s l r m gains t = omega (arith, times-append l r t, times-append l m t, gains t)

pub same-left : (l m r : List Segment) → IsSame l m → IsSame (l ++ r) (m ++ r)
same-left l m r same t = omega (arith, times-append l r t, times-append m r t, same t)

pub same-right : (l r m : List Segment) → IsSame r m → IsSame (l ++ r) (l ++ m)
same-right l r m same t = omega (arith, times-append l r t, times-append l m t, same t)

-- a segment that is taken out of one of them
pub some-at : (xs : List Segment) (s t : Segment) → has xs s ≡ true → cond (segment_is t s) 1 0 ≤ times_in xs t
some-at xs s t h =
    let some : segment_is t s ≡ true → 1 ≤ times_in xs t = λ e. times-some xs t (ap (has xs) (same_segment t s e) ∙ h) in
    grind (arith, some)

pub lost-left : (s : Segment) (l m r : List Segment) → has l s ≡ true → Loses s l m → Loses s (l ++ r) (m ++ r)
lost-left s l m r found lost t = omega (arith, times-append l r t, times-append m r t, lost t, some-at l s t found)

pub lost-right : (s : Segment) (l r q : List Segment) → has r s ≡ true → Loses s r q → Loses s (l ++ r) (l ++ q)
lost-right s l r q found lost t = omega (arith, times-append l r t, times-append l q t, lost t, some-at r s t found)

-- and of the other one, where it was not found there
pub lost-past_left : (s : Segment) (l m r q : List Segment) → has l s ≡ false → Loses s l m → Loses s r q → Loses s (l ++ r) (m ++ q)
lost-past_left s l m r q out along aside t = omega (arith, times-append l r t, times-append m q t, loses-none l s out t, along t, aside t)

pub lost-past_right : (s : Segment) (l m r q : List Segment) → has r s ≡ false → Loses s l m → Loses s r q → Loses s (l ++ r) (m ++ q)
lost-past_right s l m r q out along aside t = omega (arith, times-append l r t, times-append m q t, loses-none r s out t, along t, aside t)

-- a segment whose box is not within stands nowhere
pub has-apart : (b : Box) (s : Segment) (all : List Segment) → LieIn b all → is_within (box_of s) b ≡ false → has all s ≡ false
has-apart b s all lie apart = has-is all s ∙ ap (leb 1) (none b all s lie apart)

-- ---- walks

-- where the box does not meet, nothing stands whose box does
pub none-meets : (b : Box) (all : List Segment) (rect : Box) (t : Segment) → LieIn b all → boxes_meet b rect ≡ false → boxes_meet (box_of t) rect ≡ true → times_in all t ≡ 0
none-meets b all rect t lie apart m =
    let within : 1 ≤ times_in all t → boxes_meet b rect ≡ true = λ some. within_meets (box_of t) b rect (lie t some) m in
    grind (arith, within)

-- ---- the set

gained-set : (old new : List Segment) (s : Segment) → Gains s old new → set_of new ≡ set.insert (set_of old) s
gained-set old new s gains = same_sets _ _ (λ t.
    contains-set_of new t ∙ has-is new t ∙ ap (leb 1) (gains t) ∙ step (segment_is t s) (times_in old t)
    ∙ ap (λ b. segment_is t s || b) (sym (contains-set_of old t ∙ has-is old t))
    ∙ sym (set.contains-insert segment_total (set_of old) s t))
  where
    step : (b : Bool) (n : ℕ) → leb 1 (n + cond b 1 0) ≡ (b || leb 1 n)
    step b n = grind arith

same-set : (old new : List Segment) → IsSame old new → set_of new ≡ set_of old
same-set old new same = same_sets _ _ (λ t.
    contains-set_of new t ∙ has-is new t ∙ ap (leb 1) (same t) ∙ sym (contains-set_of old t ∙ has-is old t))

-- an add that may have failed
pub put-single : {T E : Type 0} (r : Result T E) (old new : List Segment) (s : Segment) → AreSingle old → set.contains (set_of old) s ≡ false → OnOk r (Gains s old new) → OnErr r (IsSame old new) → AreSingle new
put-single (Ok v) old new s single out ok err = gained-single old new s single out ok
put-single (Err e) old new s single out ok err = λ t. omega (arith, single t, err t)

pub put-added : {T E : Type 0} (r : Result T E) (old new : List Segment) (s : Segment) → OnOk r (Gains s old new) → OnOk r (set_of new ≡ set.insert (set_of old) s)
put-added r old new s ok = on_ok_weaker r (gained-set old new s) ok

pub put-unchanged : {T E : Type 0} (r : Result T E) (old new : List Segment) → OnErr r (IsSame old new) → OnErr r (set_of new ≡ set_of old)
put-unchanged r old new err = on_err_weaker r (same-set old new) err

-- the box after an add that may have failed
pub put-lies : {T E : Type 0} (r : Result T E) (b : Box) (s : Segment) (old new : List Segment) → LieIn b old → OnOk r (Gains s old new) → OnErr r (IsSame old new) → LieIn (box_around b (box_of s)) new
put-lies (Ok v) b s old new lie ok err = lie-more b s old new lie ok
put-lies (Err e) b s old new lie ok err = lie-same b s old new lie err

-- ---- a cell after an add

pub gains-cell : (s : Segment) (x y : List Segment) → y ≡ x ++ s ∷ [] → Gains s x y
gains-cell s x y e t = ap (λ u. times_in u t) e ∙ times-push x s t

pub same-cell : (x y : List Segment) → y ≡ x → IsSame x y
same-cell x y e t = ap (λ u. times_in u t) e

-- the first segment of a leaf
pub first-gained : (s : Segment) (x y : List Segment) → x ≡ [] → y ≡ x ++ s ∷ [] → Gains s [] y
first-gained s x y e f t =
    let k : times_in y t ≡ cond {A = ℕ} (segment_is t s) 1 0 + 0 = ap (λ u. times_in u t) (f ∙ ap (λ u. u ++ s ∷ []) e) in
    omega (arith, k)

-- ---- the segments of a leaf, parted

pub part-more : (xs : List Segment) (s : Segment) (i : ℕ) (a b : List Segment) → i < length xs → s ≡ get_or xs i s → IsSame (take i xs) a → Gains s a b → IsSame (take (i + 1) xs) b
part-more xs s i a b h is same gains t =
    let more : take (i + 1) xs ≡ take i xs ++ s ∷ [] = take_more xs i s h ∙ ap (λ u. take i xs ++ u ∷ []) (sym is) in
    let k : times_in (take (i + 1) xs) t ≡ times_in (take i xs) t + cond (segment_is t s) 1 0 = ap (λ u. times_in u t) more ∙ times-push (take i xs) s t in
    omega (arith, k, same t, gains t)

pub fork-gained : (s : Segment) (x a b c l r : List Segment) → IsSame x (a ++ b) → c ≡ a ++ s ∷ [] → IsSame c l → IsSame b r → Gains s x (l ++ r)
fork-gained s x a b c l r parted more along aside t =
    let k : times_in c t ≡ times_in a t + cond (segment_is t s) 1 0 = ap (λ u. times_in u t) more ∙ times-push a s t in
    omega (arith, k, times-append a b t, times-append l r t, parted t, along t, aside t)

-- one segment, and then all that were there
pub above-gained : (s : Segment) (l r : List Segment) → Gains s [] l → Gains s r (l ++ r)
above-gained s l r one t = omega (arith, times-append l r t, one t)

-- ---- the least known boxes

pub lies-joined : (a b : Option Box) (xs ys : List Segment) → LiesIn a xs → LiesIn b ys → LiesIn (joined a b) (xs ++ ys)
lies-joined None None xs ys p q = λ t. omega (arith, times-append xs ys t, p t, q t)
lies-joined None (Some b) xs ys p q = λ t h. q t (omega (arith, h, times-append xs ys t, p t))
lies-joined (Some a) None xs ys p q = λ t h. p t (omega (arith, h, times-append xs ys t, q t))
lies-joined (Some a) (Some b) xs ys p q = λ t h. step t h (times_in xs t) refl
  where
    step : (t : Segment) → 1 ≤ times_in (xs ++ ys) t → (n : ℕ) → times_in xs t ≡ n → is_within (box_of t) (box_around a b) ≡ true
    step t h zero e = within_through (box_of t) b (box_around a b) (q t (omega (arith, h, times-append xs ys t, e))) (within_right a b)
    step t h (suc n) e = within_left (box_of t) a b (p t (omega (arith, e)))

lies-single : (s : Segment) → LiesIn (Some (box_of s)) (s ∷ [])
lies-single s = lie-one s (s ∷ []) (λ t. omega arith)

pub lies-more : (xs : List Segment) (s : Segment) (i : ℕ) (a : Option Box) → i < length xs → s ≡ get_or xs i s → LiesIn a (take i xs) → LiesIn (joined a (Some (box_of s))) (take (i + 1) xs)
lies-more xs s i a h is lies =
    let more : take (i + 1) xs ≡ take i xs ++ s ∷ [] = take_more xs i s h ∙ ap (λ u. take i xs ++ u ∷ []) (sym is) in
    rw more (lies-joined a (Some (box_of s)) (take i xs) (s ∷ []) lies (lies-single s))

pub lies-or : (a : Option Box) (b : Box) (xs : List Segment) → LiesIn a xs → LieIn (unwrap_or a b) xs
lies-or None b xs lies = λ t h. absurd (omega (arith, h, lies t))
lies-or (Some a) b xs lies = lies
