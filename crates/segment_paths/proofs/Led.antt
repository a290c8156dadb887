-- Paths that grow: a position more at the end of one, and a path more after the others.
use Rattle.kit_words.proofs.Common.{◌≡◌, ◌≤◌, ◌<◌, ℕ, zero, suc, ℤ, ◌<ℤ◌, Bool, true, false, ◌&&◌, refl, sym, ap, ap₂}
use Rattle.kit_words.proofs.Common.{subst, ◌∙◌, List, [], ◌∷◌, ◌++◌, map, length, get_or, Contains, arith, cond, ◌||◌}
use Rattle.kit_words.proofs.Common.{◌==◌, All, list_all, IsStrictlySortedBy, int_cmp, false≢true, map-append}
use Rattle.kit_words.proofs.Common.{list_all-append, All-push, All-same, All-nil, All-tail, is_gt, or_right, less_is}
use Rattle.grid_geometry.specs.Common.{Position, position_cmp, position_eq, Segment, segment, segment_cmp, segment_lt}
use Rattle.grid_geometry.proofs.Common.{position_eq-same}
use Rattle.segment_index.proofs.Common.{segment_total}
use Rattle.segment_paths.specs.Near.{is_near, along}
use Rattle.segment_paths.specs.Common.{PathOfSegment, IsWay, IsKnown, vertex, ArePaths, segments_with_path, links_of, path_of_segment}
use Rattle.segment_paths.specs.Common.{paths_seen, SegmentPath, IsStop, IsPiece, AreWays}
use Rattle.segment_paths.specs.declared.ways.Ways.{Ways}
use Rattle.segment_paths.proofs.Rising.{Rising, rising_push, rising_one, sorted_push, past_last}

-- these positions lead from the lesser end of the segment as far along as is said
pub record IsLed (s : Segment) (inner : List Position) (reached : ℤ) : Type 0 where
  pub rising : Rising (map (along s) (s.lo ∷ inner)) reached
  pub near : list_all (λ q. is_near q s) inner ≡ true

pub led_none : (s : Segment) (z : ℤ) → z ≡ along s s.lo → IsLed s [] z
led_none s z e = record { rising = subst (Rising (along s s.lo ∷ [])) (sym e) (rising_one (along s s.lo)); near = refl }

pub led_push : (s : Segment) (inner : List Position) (r z : ℤ) (q : Position) → IsLed s inner r → z ≡ along s q → r <ℤ z → is_near q s ≡ true
    → IsLed s (inner ++ q ∷ []) z
led_push s inner r z q h e more near = record {
  rising = subst (Rising (map (along s) (s.lo ∷ inner ++ q ∷ []))) (sym e)
      (subst (λ zs. Rising zs (along s q)) (sym (map-append (along s) (s.lo ∷ inner) (q ∷ [])))
      (rising_push (map (along s) (s.lo ∷ inner)) r (along s q) h.rising (subst (λ y. r <ℤ y) e more)));
  near = list_all-append (λ p. is_near p s) inner (q ∷ []) ∙ ap₂ (λ a b. a && b) h.near (ap (λ b. b && true) near);
}

pub led_way : (s : Segment) (inner : List Position) (r : ℤ) → IsLed s inner r → r <ℤ along s s.hi → IsWay s inner
led_way s inner r h more = record {
  near = h.near;
  onward = subst (IsStrictlySortedBy int_cmp) (sym (map-append (along s) (s.lo ∷ inner) (s.hi ∷ [])))
      (rising_push (map (along s) (s.lo ∷ inner)) r (along s s.hi) h.rising more).sorted;
}

-- the way so far goes up to the last position
pub led_more : (s : Segment) (old new : List Position) (last next q : Position) → new ≡ old ++ q ∷ [] → next ≡ q → IsLed s old (along s last)
    → along s last <ℤ along s q → is_near q s ≡ true → IsLed s new (along s next)
led_more s old new last next q items there h more near =
    subst (λ z. IsLed s z (along s next)) (sym items) (subst (λ z. IsLed s (old ++ q ∷ []) (along s z)) (sym there) (led_push s old (along s last) (along s q) q h refl more near))

pub led_same : (s : Segment) (old new : List Position) (last next : Position) → new ≡ old → next ≡ last → IsLed s old (along s last) → IsLed s new (along s next)
led_same s old new last next items there h = subst (λ z. IsLed s z (along s next)) (sym items) (subst (λ z. IsLed s old (along s z)) (sym there) h)

-- ---- paths

pub no_paths : (ss : List Segment) → ArePaths ss []
unfolding IsStrictlySortedBy
no_paths ss = record { ascending = tt; among = λ k d l. absurd (omega arith); ways = λ k d l. absurd (omega arith); known = λ k d l. absurd (omega arith) }

pub paths_push : (ss : List Segment) (ps : List PathOfSegment) (s : Segment) (inner : List Position) → ArePaths ss ps
    → IsStrictlySortedBy segment_cmp (map (λ p. p.0) ps ++ s ∷ []) → Contains ss s → IsWay s inner → All (IsKnown ss) inner
    → ArePaths ss (ps ++ (s, inner) ∷ [])
paths_push ss ps s inner h sorted there way known = record {
  ascending = subst (IsStrictlySortedBy segment_cmp) (sym (map-append (λ (p : PathOfSegment). p.0) ps ((s, inner) ∷ []))) sorted;
  among = All-push (λ (p : PathOfSegment). Contains ss p.0) ps (s, inner) h.among there;
  ways = All-push (λ (p : PathOfSegment). IsWay p.0 p.1) ps (s, inner) h.ways way;
  known = All-push (λ (p : PathOfSegment). All (IsKnown ss) p.1) ps (s, inner) h.known known;
}

-- ---- pieces

pub link_known : (ss : List Segment) (paths : List PathOfSegment) (owner : Segment) (from to : Position) (link : Segment) → Contains ss owner → IsKnown ss from → IsKnown ss to
    → Contains (links_of paths owner) (segment from to) → link ≡ segment from to → IsPiece ss paths (record { link = link; owner = owner })
link_known ss paths owner from to link there k l has e = record {
  among = there;
  lesser = subst (λ s. IsKnown ss s.lo) (sym e) (ends.0);
  greater = subst (λ s. IsKnown ss s.hi) (sym e) (ends.1);
  has_it = subst (Contains (links_of paths owner)) (sym e) has;
}
  where
    pick : (b : Bool) (u v : Segment) → IsKnown ss u.lo × IsKnown ss u.hi → IsKnown ss v.lo × IsKnown ss v.hi
        → IsKnown ss (cond {A = Segment} b u v).lo × IsKnown ss (cond {A = Segment} b u v).hi
    pick true u v p q = p
    pick false u v p q = q

    ends : IsKnown ss (segment from to).lo × IsKnown ss (segment from to).hi
    ends = pick (is_gt (position_cmp from to)) (record { lo = to; hi = from }) (record { lo = from; hi = to }) (l, k) (k, l)

pub lo_known : (ss : List Segment) (s : Segment) → Contains ss s → IsKnown ss s.lo
lo_known ss s there = vertex there (ap (λ b. b || position_eq s.lo s.hi) (position_eq-same s.lo))

pub hi_known : (ss : List Segment) (s : Segment) → Contains ss s → IsKnown ss s.hi
hi_known ss s there = vertex there (or_right (position_eq s.hi s.lo) (position_eq s.hi s.hi) (position_eq-same s.hi))

pub whole_known : (ss : List Segment) (paths : List PathOfSegment) (s : Segment) → Contains ss s → Contains (links_of paths s) s
    → IsPiece ss paths (record { link = s; owner = s })
whole_known ss paths s there alone = record {
  among = there;
  lesser = lo_known ss s there;
  greater = hi_known ss s there;
  has_it = alone;
}

-- ---- no path at all

nothing : {X : Type 0} (P : X → Type 0) (xs : List X) → xs ≡ [] → All P xs
nothing P xs e = All-same P xs [] e (All-nil P)

pub ways_none : {A : Type 0} (ss : List Segment) (ways : Ways A) → ways.stops.items ≡ [] → ways.paths.items ≡ [] → ways.links.items ≡ []
    → ways.segments.now ≡ ss → AreWays ss ways
ways_none ss ways stops paths links given = record {
  segments = given;
  stops = nothing (IsStop ss) ways.stops.items stops;
  paths = subst (λ ps. ArePaths ss (paths_seen ps)) (sym paths) (no_paths ss);
  links = nothing (IsPiece ss (paths_seen ways.paths.items)) ways.links.items links;
}

-- ---- a path after the others

seen_segments : {A : Type 0} (paths : List (SegmentPath A)) → segments_with_path (paths_seen paths) ≡ map (λ p. p.segment) paths
seen_segments [] = refl
seen_segments (p ∷ ps) = ap (λ z. p.segment ∷ z) (seen_segments ps)

pub past_all : {A : Type 0} (paths : List (SegmentPath A)) (n : ℕ) (p : SegmentPath A) (s : Segment) → length paths ≡ suc n → p ≡ get_or paths n p
    → segment_lt p.segment s ≡ true → IsStrictlySortedBy segment_cmp (segments_with_path (paths_seen paths))
    → IsStrictlySortedBy segment_cmp (segments_with_path (paths_seen paths) ++ s ∷ [])
past_all paths n p s l e less sorted =
    let same = seen_segments paths in
    subst (λ z. IsStrictlySortedBy segment_cmp (z ++ s ∷ [])) (sym same)
    (let before = subst (IsStrictlySortedBy segment_cmp) same sorted in
    sorted_push segment_cmp (map (λ q. q.segment) paths) s before
    (past_last (λ q. q.segment) segment_cmp segment_total paths n p s l e (less_is (segment_cmp p.segment s) less) before))

pub past_none : {A : Type 0} (paths : List (SegmentPath A)) (s : Segment) → length paths ≤ 0
    → IsStrictlySortedBy segment_cmp (segments_with_path (paths_seen paths) ++ s ∷ [])
unfolding IsStrictlySortedBy
past_none [] s l = (tt, tt)
past_none (p ∷ ps) s l = absurd (omega arith)

pub paths_more : {A : Type 0} (ss : List Segment) (old new : List (SegmentPath A)) (p : SegmentPath A) → new ≡ old ++ p ∷ [] → ArePaths ss (paths_seen old)
    → IsStrictlySortedBy segment_cmp (segments_with_path (paths_seen old) ++ p.segment ∷ []) → Contains ss p.segment → IsWay p.segment p.inner.items → All (IsKnown ss) p.inner.items
    → ArePaths ss (paths_seen new)
paths_more ss old new p e h sorted there way known =
    subst (ArePaths ss) (sym (ap paths_seen e ∙ map-append path_of_segment old (p ∷ [])))
    (paths_push ss (paths_seen old) p.segment p.inner.items h sorted there way known)

pub past_seen : {A : Type 0} (given paths : List (SegmentPath A)) (s : Segment) → given ≡ paths
    → (IsStrictlySortedBy segment_cmp (segments_with_path (paths_seen given)) → IsStrictlySortedBy segment_cmp (segments_with_path (paths_seen given) ++ s ∷ []))
    → IsStrictlySortedBy segment_cmp (segments_with_path (paths_seen paths)) → IsStrictlySortedBy segment_cmp (segments_with_path (paths_seen paths) ++ s ∷ [])
past_seen given paths s e past sorted =
    subst (λ ps. IsStrictlySortedBy segment_cmp (segments_with_path (paths_seen ps) ++ s ∷ [])) e
    (past (subst (λ ps. IsStrictlySortedBy segment_cmp (segments_with_path (paths_seen ps))) (sym e) sorted))

pub some_left : {X : Type 0} (xs : List X) (n : ℕ) (b : Bool) → n ≡ length xs → b ≡ (n == 0) → b ≡ false → 0 < length xs
some_left xs zero b l e h = absurd (false≢true (sym h ∙ e))
some_left xs (suc n) b l e h = omega arith

-- ---- elements by their place

pub at_place : {X : Type 0} (P : X → Type 0) (xs : List X) (i : ℕ) (x : X) → All P xs → i < length xs → x ≡ get_or xs i x → P x
at_place P xs i x h l e = subst P (sym e) (h i x l)

pub at_place_seen : {X Y : Type 0} (P : Y → Type 0) (f : X → Y) (xs : List X) (i : ℕ) (x : X) → All P (map f xs) → i < length xs → x ≡ get_or xs i x → P (f x)
at_place_seen P f [] i x h l e = absurd (omega arith)
at_place_seen P f (y ∷ ys) zero x h l e = subst (λ z. P (f z)) (sym e) (h 0 (f x) (omega arith))
at_place_seen P f (y ∷ ys) (suc i) x h l e = at_place_seen P f ys i x (All-tail P (f y) (map f ys) h) (omega arith) e
