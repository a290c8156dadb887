-- After an edit that sweeps over nothing, every position is on its side of every ring.
use Rattle.kit_words.proofs.Common.{◌≡◌, ◌≤◌, ℕ, zero, suc, Bool, true, false, refl, sym, ap, ap₂, ◌∙◌, subst, cond}
use Rattle.kit_words.proofs.Common.{List, [], ◌∷◌, ◌++◌, map, length, ◌||◌, ◌&&◌, arith, Option, None, Some, ◌⊎◌, inl}
use Rattle.kit_words.proofs.Common.{inr, not, nat_lt, ◌==◌, slice_get, list_all, find, option_and_then, is_gt}
use Rattle.kit_words.proofs.Common.{false≢true, or_parts}
use Rattle.grid_geometry.specs.Common.{Position, position_eq, position_cmp, Segment, segment, segment_eq, Edge, edges}
use Rattle.grid_geometry.specs.Common.{xor, is_counted, is_inside, is_held}
use Rattle.grid_geometry.proofs.Common.{segment-comm}
use Rattle.ring_machine.specs.Common.{segment_of, has, is_distinct, is_ring, spots, Document, Feature, feature}
use Rattle.ring_machine.specs.Common.{features, rings, rings_of, positions, in_feature, in_rings, put, ins, del}
use Rattle.ring_machine.specs.Common.{put_ring, ins_ring, del_ring, around, all_equal, is_junction, Proper, are_long}
use Rattle.ring_machine.specs.Common.{holds_other, edge_sweeps, crosses_on_way, move_sweeps, insert_sweeps}
use Rattle.ring_machine.specs.Common.{remove_sweeps, ring_of_feature, ring_at, KeepsSides}
use Rattle.ring_machine.proofs.Canonical.{Pivot, pivot_of}
use Rattle.ring_machine.proofs.Arcs.{is_of}
use Rattle.ring_machine.proofs.Removal.{others, filter_lacks}
use Rattle.ring_machine.proofs.StaysRing.{del-distinct}
use Rattle.ring_machine.proofs.RingSegments.{same_ends, segment_eq-true}
use Rattle.ring_machine.proofs.Spots.{beside_of}
use Rattle.ring_machine.proofs.First.{In}
use Rattle.ring_machine.proofs.RingsOf.{features-in_rings}
use Rattle.ring_machine.proofs.StaysProper.{ring_distinct, edges_start, others_long}
use Rattle.ring_machine.proofs.Neighbours.{all_of, in-flat_map, none_in, all_in, has-in, vertex_in, begin_place}
use Rattle.ring_machine.proofs.Neighbours.{end_place, place_around, first_end, second_end, edge_in}
use Rattle.ring_machine.proofs.Walks.{is_counted-reverse, xor-comm}
use Rattle.ring_machine.proofs.Sides.{is_inside-canonical, Unswept, unswept, unbridged, two_sides}
use Rattle.ring_machine.proofs.Sides.{put-inside, ins-inside, del-inside}

-- ---- rings by their numbers

abbrev mapped : {A B : Type 0} → (A → B) → Option A → Option B
mapped g o = option_and_then (λ a. Some (g a)) o

slice-mapped : {A B : Type 0} (g : A → B) (xs : List A) (i : ℕ)
    → slice_get (map g xs) i ≡ mapped g (slice_get xs i)
slice-mapped g [] i = refl
slice-mapped g (x ∷ xs) zero = refl
slice-mapped g (x ∷ xs) (suc i) = slice-mapped g xs i

pub slice-in : {A : Type 0} (xs : List A) (i : ℕ) (a : A) → slice_get xs i ≡ Some a → In a xs
slice-in [] i a e = absurd cc
slice-in (x ∷ xs) zero a e = inl cc
slice-in (x ∷ xs) (suc i) a e = inr (slice-in xs i a e)

find-in : {A : Type 0} (test : A → Bool) (xs : List A) (a : A) → find test xs ≡ Some a → In a xs
find-in test [] a e = absurd cc
find-in {A} test (x ∷ xs) a e = grind (arith, find-in test xs a)

find-mapped : (g : List Position → List Position) (n : ℕ) (fs : List Feature)
    → find (λ f. f.number == n) (map (in_feature g) fs)
    ≡ mapped (in_feature g) (find (λ f. f.number == n) fs)
find-mapped g n [] = refl
find-mapped g n (f ∷ fs) = grind (arith, find-mapped g n fs)

pub ring_at-mapped : (g : List Position → List Position) (d : Document) (n i j : ℕ)
    → ring_at (in_rings g d) n i j ≡ mapped g (ring_at d n i j)
ring_at-mapped g d n i j =
    ap (λ fs. option_and_then (ring_of_feature i j) (find (λ f. f.number == n) fs)) (features-in_rings g d)
    ∙ ap (option_and_then (ring_of_feature i j)) (find-mapped g n (features d))
    ∙ of_feature (feature d n)
  where
    of_polygon : (o : Option (List (List Position)))
        → option_and_then (λ polygon. slice_get polygon j) (mapped (map g) o)
        ≡ mapped g (option_and_then (λ polygon. slice_get polygon j) o)
    of_polygon None = refl
    of_polygon (Some polygon) = slice-mapped g polygon j

    of_feature : (o : Option Feature)
        → option_and_then (ring_of_feature i j) (mapped (in_feature g) o)
        ≡ mapped g (option_and_then (ring_of_feature i j) o)
    of_feature None = refl
    of_feature (Some f) = ap (option_and_then (λ polygon. slice_get polygon j)) (slice-mapped (map g) f.polygons i) ∙ of_polygon (slice_get f.polygons i)

ring_at-in : (d : Document) (n i j : ℕ) (r : List Position) → ring_at d n i j ≡ Some r
    → In r (rings d)
ring_at-in d n i j r e = of_feature (feature d n) refl e
  where
    of_polygon : (f : Feature) (o : Option (List (List Position))) → slice_get f.polygons i ≡ o
        → option_and_then (λ polygon. slice_get polygon j) o ≡ Some r → In r (rings_of f)
    of_polygon f None h k = absurd cc
    of_polygon f (Some polygon) h k = in-flat_map (λ (p : List (List Position)). p) polygon r f.polygons (slice-in f.polygons i polygon h) (slice-in polygon j r k)

    of_feature : (o : Option Feature) → feature d n ≡ o
        → option_and_then (ring_of_feature i j) o ≡ Some r → In r (rings d)
    of_feature None h k = absurd cc
    of_feature (Some f) h k = in-flat_map rings_of f r (features d) (find-in (λ f. f.number == n) (features d) f h) (of_polygon f (slice_get f.polygons i) refl k)

-- where each ring keeps its sides, the document does
keeps_by : (d : Document) (g : List Position → List Position)
    → ((ring : List Position) (w : Position) → In ring (rings d) → In w (positions d) → has ring w ≡ false → is_inside w (g ring) ≡ is_inside w ring)
    → KeepsSides d (in_rings g d)
keeps_by d g h n i j r s w e f v u o =
    let changed : Some s ≡ Some (g r) = sym f ∙ ring_at-mapped g d n i j ∙ ap (mapped g) e in
    let same : s ≡ g r = cc in
    ap (is_inside w) same ∙ h r w (ring_at-in d n i j r e) (vertex_in d w v) o

-- ---- what is held

not_held : (d : Document) (these : List Position) (a b c w : Position)
    → holds_other d these a b c ≡ false → In w (positions d) → has these w ≡ false
    → is_held w a b c ≡ false
not_held d these a b c w h i k = sym (ap (λ t. not t && is_held w a b c) k) ∙ none_in (λ v. not (has these v) && is_held v a b c) (positions d) w h i

-- w is another position than each of the ring
apart : (ring : List Position) (w a : Position) → has ring w ≡ false → In a ring
    → position_eq w a ≡ false
apart ring w a h i = none_in (position_eq w) ring a h i

-- ---- a move

pub move-keeps : (d : Document) (p q : Position) → Proper d → move_sweeps d p q ≡ false
    → KeepsSides d (put d p q)
unfolding move_sweeps
move-keeps d p q proper still = keeps_by d (put_ring p q) (λ ring w i v o. put-inside w p q ring (all_of (Unswept w p q) (edges ring) (edge ring w i v o (all_in is_ring (rings d) ring proper.are_rings i))))
  where
    ends : (s : Segment) → In s (around d p)
        → (edge_sweeps d p q s.lo ≡ false) × (edge_sweeps d p q s.hi ≡ false)
    ends s i = or_parts _ _ (none_in (λ s. edge_sweeps d p q s.lo || edge_sweeps d p q s.hi) (around d p) s (or_parts _ (crosses_on_way d p q) still).0 i)

    at_end : (a : Position) (s : Segment) → In s (around d p) → (s.lo ≡ a) ⊎ (s.hi ≡ a)
        → edge_sweeps d p q a ≡ false
    at_end a s i (inl e) = subst (λ z. edge_sweeps d p q z ≡ false) e (ends s i).0
    at_end a s i (inr e) = subst (λ z. edge_sweeps d p q z ≡ false) e (ends s i).1

    edge : (ring : List Position) (w : Position) → In ring (rings d) → In w (positions d)
        → has ring w ≡ false → is_ring ring ≡ true → (e : Edge) → In e (edges ring)
        → Unswept w p q e
    edge [] w i v o r e k = absurd (false≢true r)
    edge (x ∷ []) w i v o r e k = absurd (false≢true r)
    edge (x ∷ y ∷ zs) w i v o r e k =
        let ring = x ∷ y ∷ zs in
        let both = edge_in x (y ∷ zs) e k in
        unswept w p q e
        (λ j. let place = end_place x y zs e k in
        not_held d (e.0 ∷ p ∷ []) e.0 p q w
        (at_end e.0 (segment e.0 place.0) (place_around d ring p (segment e.0 place.0) i (subst (λ z. In (z, segment e.0 place.0) (spots ring)) j place.1)) (first_end e.0 place.0)) v
        (ap₂ (λ s t. s || (t || false)) (apart ring w e.0 o both.0) (apart ring w p o (subst (λ z. In z ring) j both.1))))
        (λ j. let place = begin_place x y zs e k in
        not_held d (e.1 ∷ p ∷ []) e.1 p q w
        (at_end e.1 (segment place.0 e.1) (place_around d ring p (segment place.0 e.1) i (subst (λ z. In (z, segment place.0 e.1) (spots ring)) j place.1)) (second_end place.0 e.1)) v
        (ap₂ (λ s t. s || (t || false)) (apart ring w e.1 o both.1) (apart ring w p o (subst (λ z. In z ring) j both.0))))

-- ---- an insertion

pub insert-keeps : (d : Document) (a b q : Position) → insert_sweeps d a b q ≡ false
    → KeepsSides d (ins d a b q)
unfolding insert_sweeps
insert-keeps d a b q still = keeps_by d (ins_ring a b q) (λ ring w i v o. ins-inside w a b q ring (all_of (λ e. is_of (segment_of (a, b)) e ≡ true → is_held w a b q ≡ false) (edges ring) (edge ring w v o)))
  where
    edge : (ring : List Position) (w : Position) → In w (positions d) → has ring w ≡ false
        → (e : Edge) → In e (edges ring) → is_of (segment_of (a, b)) e ≡ true
        → is_held w a b q ≡ false
    edge [] w v o e k s = absurd k
    edge (x ∷ xs) w v o e k s =
        let both = edge_in x xs e k in
        not_held d (a ∷ b ∷ []) a b q w still v (elim (same_ends (a, b) e (sym (segment_eq-true (segment_of e) (segment_of (a, b)) s))) [
          | inl j ↦ ap₂ (λ s t. s || (t || false)) (apart (x ∷ xs) w a o (subst (λ z. In z (x ∷ xs)) j.0 both.0)) (apart (x ∷ xs) w b o (subst (λ z. In z (x ∷ xs)) j.1 both.1))
          | inr j ↦ ap₂ (λ s t. s || (t || false)) (apart (x ∷ xs) w a o (subst (λ z. In z (x ∷ xs)) j.1 both.1)) (apart (x ∷ xs) w b o (subst (λ z. In z (x ∷ xs)) j.0 both.0))
        ])

-- ---- a removal

in_starts : (p : Position) (es : List Edge) → In p (map (λ e. e.0) es)
    → (e : Edge) × In e es × (e.0 ≡ p)
in_starts p [] h = absurd h
in_starts p (e ∷ es) (inl i) = (e, inl refl, i)
in_starts p (e ∷ es) (inr i) = let k = in_starts p es i in (k.0, inr k.1, k.2)

split_in : (p : Position) (ps : List Position) → In p ps
    → (us : List Position) × (vs : List Position) × (ps ≡ us ++ p ∷ vs)
split_in p [] h = absurd h
split_in p (q ∷ qs) (inl i) = ([], qs, ap (λ z. z ∷ qs) i)
split_in p (q ∷ qs) (inr i) = let k = split_in p qs i in (q ∷ k.0, k.1, ap (λ z. q ∷ z) k.2)

-- where all are equal, each is the one
equal_in : (ss : List Segment) (s t : Segment) → all_equal ss ≡ true → In s ss → In t ss → s ≡ t
equal_in [] s t h i j = absurd i
equal_in (u ∷ us) s t h i j = sym (is u us s h i) ∙ is u us t h j
  where
    is : (u : Segment) (us : List Segment) (s : Segment) → list_all (segment_eq u) us ≡ true
        → In s (u ∷ us) → u ≡ s
    is u us s h (inl i) = i
    is u us s h (inr i) = segment_eq-true u s (all_in (segment_eq u) us s h i)

pub pivot_some : (ps : List Position) → 1 ≤ length ps → is_distinct ps ≡ true → Pivot ps
pivot_some [] l d = absurd (omega arith)
pivot_some (p ∷ ps) l d = pivot_of p ps d

-- the sides of the bridge that does not hold w
bridged : (w a p b : Position) → (is_held w a p b ≡ false) ⊎ (is_held w b p a ≡ false)
    → is_counted w a b ≡ xor (is_counted w a p) (is_counted w p b)
bridged w a p b (inl h) = sym (is_counted-reverse w a b) ∙ two_sides w a p b h
bridged w a p b (inr h) =
    two_sides w b p a h ∙ ap₂ xor (is_counted-reverse w p b) (is_counted-reverse w a p) ∙ xor-comm (is_counted w p b) (is_counted w a p)

pub remove-keeps : (d : Document) (p : Position) → Proper d → is_junction d p ≡ false
    → are_long d p ≡ true → remove_sweeps d p ≡ false → KeepsSides d (del d p)
unfolding remove_sweeps
remove-keeps d p proper single long still = keeps_by d (del_ring p) (λ ring w i v o. by ring w i v o (all_in is_ring (rings d) ring proper.are_rings i) (has ring p) refl)
  where
    alike : all_equal (around d p) ≡ true
    alike = back (all_equal (around d p)) single
      where
        back : (t : Bool) → not t ≡ false → t ≡ true
        back t h = grind arith

    -- w, off the ring, is not held on the way past p
    free : (ring : List Position) (w a b : Position) → In w (positions d) → has ring w ≡ false
        → In a ring → In p ring → In b ring → In (segment a b) (around d p)
        → (is_held w a p b ≡ false) ⊎ (is_held w b p a ≡ false)
    free ring w a b v o ia ip ib k =
        let h = none_in (λ s. holds_other d (s.lo ∷ p ∷ s.hi ∷ []) s.lo p s.hi) (around d p) (segment a b) still k in
        elim (ordered (is_gt (position_cmp a b))) [
          | inl j ↦ inl (not_held d (a ∷ p ∷ b ∷ []) a p b w (subst (λ s. holds_other d (s.lo ∷ p ∷ s.hi ∷ []) s.lo p s.hi ≡ false) j h) v (off a b ia ib))
          | inr j ↦ inr (not_held d (b ∷ p ∷ a ∷ []) b p a w (subst (λ s. holds_other d (s.lo ∷ p ∷ s.hi ∷ []) s.lo p s.hi ≡ false) j h) v (off b a ib ia))
        ]
      where
        ordered : (t : Bool)
            → (cond {A = Segment} t (record { lo = b; hi = a }) (record { lo = a; hi = b }) ≡ record { lo = a; hi = b }) ⊎ (cond {A = Segment} t (record { lo = b; hi = a }) (record { lo = a; hi = b }) ≡ record { lo = b; hi = a })
        ordered t = grind arith

        off : (c e : Position) → In c ring → In e ring → has (c ∷ p ∷ e ∷ []) w ≡ false
        off c e ic ie = ap₂ (λ s t. s || t) (apart ring w c o ic) (ap₂ (λ s t. s || (t || false)) (apart ring w p o ip) (apart ring w e o ie))

    with_p : (ring : List Position) (w : Position) → In ring (rings d) → In w (positions d)
        → has ring w ≡ false → is_ring ring ≡ true → In p ring → 4 ≤ length ring
        → is_inside w (del_ring p ring) ≡ is_inside w ring
    with_p [] w i v o r ip l = absurd ip
    with_p (x ∷ []) w i v o r ip l = absurd (omega arith)
    with_p (x ∷ y ∷ zs) w i v o r ip l =
        let ring = x ∷ y ∷ zs in
        let from_p = in_starts p (edges ring) (subst (In p) (sym (edges_start x (y ∷ zs))) ip) in
        let b = from_p.0.1 in
        let place = begin_place x y zs from_p.0 from_p.1 in
        let a = place.0 in
        let at_p : In (p, segment a b) (spots ring) = subst (λ z. In (z, segment a b) (spots ring)) from_p.2 place.1 in
        let one : (s : Segment) → In (p, s) (spots ring) → segment a b ≡ s = λ s k. equal_in (around d p) (segment a b) s alike (place_around d ring p (segment a b) i at_p) (place_around d ring p s i k) in
        let parts = split_in p ring ip in
        let beside = beside_of p a b parts.0 parts.1 ring parts.2 (ring_distinct ring r) l one in
        let ib = (edge_in x (y ∷ zs) from_p.0 from_p.1).1 in
        del-inside w p b ring beside
        (pivot_some (others p ring) (omega (arith, l, others_long p ring (ring_distinct ring r))) (del-distinct p ring (ring_distinct ring r)))
        (all_of (Unswept w p b) (edges ring) (λ e k. unbridged w p b e
        (λ j. let there = end_place x y zs e k in
        let spot : In (p, segment e.0 there.0) (spots ring) = subst (λ z. In (z, segment e.0 there.0) (spots ring)) j there.1 in
        other_side ring w v o ip b ib i a e.0 there.0 (edge_in x (y ∷ zs) e k).0 (one (segment e.0 there.0) spot) (place_around d ring p (segment a b) i at_p))
        (λ j. let there = begin_place x y zs e k in
        let spot : In (p, segment there.0 e.1) (spots ring) = subst (λ z. In (z, segment there.0 e.1) (spots ring)) j there.1 in
        other_side ring w v o ip b ib i a e.1 there.0 (edge_in x (y ∷ zs) e k).1 (one (segment there.0 e.1) spot ∙ segment-comm there.0 e.1) (place_around d ring p (segment a b) i at_p))))
      where
        -- c is a neighbour of p: it is b, or the bridge goes from it to b
        other_side : (ring : List Position) (w : Position) → In w (positions d) → has ring w ≡ false
            → In p ring → (b : Position) → In b ring → In ring (rings d) → (a c e : Position)
            → In c ring → segment a b ≡ segment c e → In (segment a b) (around d p)
            → (c ≡ b) ⊎ (is_counted w c b ≡ xor (is_counted w c p) (is_counted w p b))
        other_side ring w v o ip b ib i a c e ic h k = elim (same_ends (a, b) (c, e) h) [
          | inl j ↦ inr (bridged w c p b (subst (λ z. (is_held w z p b ≡ false) ⊎ (is_held w b p z ≡ false)) (sym j.0) (free ring w a b v o (subst (λ z. In z ring) j.0 ic) ip ib k)))
          | inr j ↦ inl j.0
        ]

    by : (ring : List Position) (w : Position) → In ring (rings d) → In w (positions d)
        → has ring w ≡ false → is_ring ring ≡ true → (t : Bool) → has ring p ≡ t
        → is_inside w (del_ring p ring) ≡ is_inside w ring
    by ring w i v o r false e = is_inside-canonical w (others p ring) ∙ ap (is_inside w) (filter_lacks p ring e)
    by ring w i v o r true e = with_p ring w i v o r (has-in p ring e) (four (length ring) (all_in (λ ring. not (has ring p) || nat_lt 3 (length ring)) (rings d) ring long i))
      where
        four : (n : ℕ) → (not (has ring p) || nat_lt 3 n) ≡ true → 4 ≤ n
        four n h = more n (sym (ap (λ t. not t || nat_lt 3 n) e) ∙ h)
          where
            more : (n : ℕ) → nat_lt 3 n ≡ true → 4 ≤ n
            more n h = grind arith
