-- The links of a segment along its path.
use Rattle.kit_words.proofs.Common.{◌≡◌, ◌<◌, ℕ, false, not, zero, suc, refl, sym, ap, subst, ◌∙◌, List, []}
use Rattle.kit_words.proofs.Common.{◌∷◌, ◌++◌, map, length, get_or, Contains, inl, inr, cond, arith, IsStrictlySortedBy}
use Rattle.kit_words.proofs.Common.{is_gt, tied_itself}
use Rattle.grid_geometry.specs.Common.{Position, Segment, segment, segment_cmp, segment_eq, IsSegment, links}
use Rattle.ring_machine.specs.Common.{segment_of}
use Rattle.ring_machine.proofs.Common.{segment_eq-true, In, in_contains}
use Rattle.segment_index.proofs.Common.{segment_total}
use Rattle.segment_paths.specs.Common.{PathOfSegment, inner_of, links_of, segments_with_path, paths_seen, SegmentPath}
use Rattle.segment_paths.proofs.Searched.{found_at}

-- what is not different is the same
pub same_as : (s t : Segment) → not (segment_eq s t) ≡ false → s ≡ t
same_as s t h = segment_eq-true s t (grind (arith, h))

abbrev over : List Position → List Segment
over ps = map segment_of (links ps)

-- the link from the position before a place to the one at it
mid_in : (a b : Position) (inner : List Position) (i : ℕ) (from to : Position) → i < length inner → from ≡ get_or (a ∷ inner) i from → to ≡ get_or inner i to
    → In (segment from to) (over (a ∷ inner ++ b ∷ []))
mid_in a b [] i from to l e k = absurd (omega arith)
mid_in a b (p ∷ ps) zero from to l e k = inl (ap (λ z. segment z p) (sym e) ∙ ap (segment from) (sym k))
mid_in a b (p ∷ ps) (suc i) from to l e k = inr (mid_in p b ps i from to (omega arith) e k)

-- the last link
last_in : (a b : Position) (inner : List Position) (from : Position) → from ≡ get_or (a ∷ inner) (length inner) from
    → In (segment from b) (over (a ∷ inner ++ b ∷ []))
last_in a b [] from e = inl (ap (λ z. segment z b) (sym e))
last_in a b (p ∷ ps) from e = inr (last_in p b ps from e)

pub mid_link : (paths : List PathOfSegment) (s : Segment) (inner : List Position) (i : ℕ) (from to : Position) → inner_of paths s ≡ inner → i < length inner
    → from ≡ get_or (s.lo ∷ inner) i from → to ≡ get_or inner i to → Contains (links_of paths s) (segment from to)
mid_link paths s inner i from to same l e k =
    subst (λ ps. Contains (over (s.lo ∷ ps ++ s.hi ∷ [])) (segment from to)) (sym same)
    (in_contains _ _ (mid_in s.lo s.hi inner i from to l e k))

-- an element after the first one
pub next_at : (a : Position) (xs : List Position) (i n : ℕ) (x : Position) → n ≡ suc i → x ≡ get_or xs i x → x ≡ get_or (a ∷ xs) n x
next_at a xs i n x e h = h ∙ ap (λ k. get_or (a ∷ xs) k x) (sym e)

pub last_link : (paths : List PathOfSegment) (s : Segment) (inner : List Position) (i : ℕ) (from : Position) → inner_of paths s ≡ inner → i ≡ length inner
    → from ≡ get_or (s.lo ∷ inner) i from → Contains (links_of paths s) (segment from s.hi)
last_link paths s inner i from same l e =
    subst (λ ps. Contains (over (s.lo ∷ ps ++ s.hi ∷ [])) (segment from s.hi)) (sym same)
    (in_contains _ _ (last_in s.lo s.hi inner from (e ∙ ap (λ n. get_or (s.lo ∷ inner) n from) l)))

-- a segment without a path is its own link
pub own_link : (paths : List PathOfSegment) (s : Segment) → IsSegment s → inner_of paths s ≡ [] → Contains (links_of paths s) s
own_link paths s h none =
    subst (λ ps. Contains (over (s.lo ∷ ps ++ s.hi ∷ [])) s) (sym none)
    (in_contains (segment s.lo s.hi ∷ []) s (inl (ap (λ o. cond {A = Segment} (is_gt o) (record { lo = s.hi; hi = s.lo }) s) h)))

-- what a path among ascending ones puts in
pub inner_at : {A : Type 0} (paths : List (SegmentPath A)) (i : ℕ) (p : SegmentPath A) → IsStrictlySortedBy segment_cmp (segments_with_path (paths_seen paths))
    → i < length paths → p ≡ get_or paths i p → inner_of (paths_seen paths) p.segment ≡ p.inner.items
inner_at paths i p h l e =
    found_at (λ q. q.segment) (λ q. q.inner.items) paths i p p.segment h l e
    (λ d. ap (λ q. segment_cmp q.segment p.segment) (same d) ∙ tied_itself segment_total p.segment)
  where
    same : (d : SegmentPath _) → get_or paths i d ≡ p
    same d = at_any paths i l ∙ sym e
      where
        at_any : (xs : List (SegmentPath _)) (j : ℕ) → j < length xs → get_or xs j d ≡ get_or xs j p
        at_any [] j k = absurd (omega arith)
        at_any (x ∷ xs) zero k = refl
        at_any (x ∷ xs) (suc j) k = at_any xs j (omega arith)
