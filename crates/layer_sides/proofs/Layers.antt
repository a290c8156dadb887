-- The borders of a layer as the sweep takes them, and as it leaves them.
use Rattle.kit_words.proofs.Common.{◌≡◌, ◌+◌, ◌*◌, ℕ, true, refl, sym, ap, ◌∙◌, subst, List, [], ◌∷◌, map, length}
use Rattle.kit_words.proofs.Common.{inl, inr, Contains, arith, IsStrictlySortedBy, nat_cmp, flat_map, length-map}
use Rattle.grid_geometry.specs.Common.{Segment, segment_cmp, segment_eq}
use Rattle.ring_machine.specs.Common.{segments}
use Rattle.ring_machine.proofs.Common.{In, contains_in, in_contains, any_in, in-map, in-flat_map, segment_eq-true}
use Rattle.layer_sides.specs.Common.{Polygon, Bordering, AreBorders, IsProperLayer, segments_in, bounded, is_bounding, is_border}
use Rattle.layer_sides.specs.Under.{AreApart, AreSorted}
use Rattle.layer_sides.proofs.Odds.{odd_count, odd-some}
use Rattle.layer_sides.proofs.Numbers.{numbers-ascend}

-- ---- as the sweep takes them

pub bounds-sorted : (polygons : List Polygon) (borders : List Bordering) → AreBorders polygons borders → AreSorted borders
bounds-sorted polygons borders are b c =
    subst (IsStrictlySortedBy nat_cmp) (sym (are.bounding b c)) (numbers-ascend 0 (λ p. is_bounding p b.segment) polygons)

-- a border is a segment of the polygons
border_stands : (polygons : List Polygon) (s : Segment) → is_border polygons s ≡ true → Contains (segments_in polygons) s
border_stands polygons s h =
    let p = any_in (λ q. is_bounding q s) polygons h in
    let t = odd-some (segment_eq s) (flat_map segments p.0) (sym (odd_count (segment_eq s) (flat_map segments p.0)) ∙ p.2) in
    in_contains (segments_in polygons) s
    (in-flat_map (flat_map segments) p.0 s polygons p.1 (subst (λ z. In z (flat_map segments p.0)) (sym (segment_eq-true s t.0 t.2)) t.1))

pub borders-apart : (polygons : List Polygon) (borders : List Bordering) → IsProperLayer polygons → AreBorders polygons borders → AreApart borders
borders-apart polygons borders proper are b c i j = proper.apart b.segment c.segment (stands b i) (stands c j)
  where
    stands : (d : Bordering) → Contains borders d → Contains (segments_in polygons) d.segment
    stands d k =
        border_stands polygons d.segment
        ((are.segments d.segment).0 (in_contains (map (λ (e : Bordering). e.segment) borders) d.segment (in-map (λ (e : Bordering). e.segment) d borders (contains_in borders d k))))

-- ---- as it leaves them

-- lists with the same segments and the same numbers, border by border
same_border : (old new : List Bordering) → map (λ (b : Bordering). b.segment) new ≡ map (λ (b : Bordering). b.segment) old
    → map (λ (b : Bordering). b.bounds) new ≡ map (λ (b : Bordering). b.bounds) old
    → (b : Bordering) → In b new → (c : Bordering) × In c old × (c.segment ≡ b.segment) × (c.bounds ≡ b.bounds)
same_border old [] e f b i = absurd i
same_border [] (d ∷ new) e f b i = absurd cc
same_border (c ∷ old) (d ∷ new) e f b (inl g) =
    (c, inl refl, sym (ap head_segment e) ∙ ap (λ (z : Bordering). z.segment) g, sym (ap head_bounds f) ∙ ap (λ (z : Bordering). z.bounds) g)
  where
    head_segment : List Segment → Segment
    head_segment [] = d.segment
    head_segment (s ∷ ss) = s

    head_bounds : List (List ℕ) → List ℕ
    head_bounds [] = []
    head_bounds (n ∷ ns) = n
same_border (c ∷ old) (d ∷ new) e f b (inr i) =
    let k = same_border old new (ap (tail {X = Segment}) e) (ap (tail {X = List ℕ}) f) b i in
    (k.0, inr k.1, k.2, k.3)
  where
    tail : {X : Type 0} → List X → List X
    tail [] = []
    tail (x ∷ xs) = xs

pub borders-kept : (polygons : List Polygon) (old new : List Bordering) → map (λ (b : Bordering). b.segment) new ≡ map (λ (b : Bordering). b.segment) old
    → map (λ (b : Bordering). b.bounds) new ≡ map (λ (b : Bordering). b.bounds) old → AreBorders polygons old → AreBorders polygons new
borders-kept polygons old new e f are = record {
  ascending = subst (IsStrictlySortedBy segment_cmp) (sym e) are.ascending;
  segments = λ s. (
    λ c. (are.segments s).0 (subst (λ z. Contains z s) e c),
    λ t. subst (λ z. Contains z s) (sym e) ((are.segments s).1 t),
  );
  bounding = λ b c.
      let k = same_border old new e f b (contains_in new b c) in
      sym k.3 ∙ are.bounding k.0 (in_contains old k.0 k.1) ∙ ap (bounded polygons) k.2;
}

pub labels-kept : (old new : List Bordering) (n m o : ℕ) → map (λ (b : Bordering). b.segment) new ≡ map (λ (b : Bordering). b.segment) old
    → n ≡ length new → m ≡ length old → o ≡ 2 * m + 1 → o ≡ 2 * n + 1
labels-kept old new n m o e f g h =
    omega (arith, ap length e, length-map new (λ (b : Bordering). b.segment), length-map old (λ (b : Bordering). b.segment), f, g, h)
