-- What the sweep finds by the borders alone is what holds their right sides.
use Rattle.kit_words.proofs.Common.{◌≡◌, ℕ, Bool, true, false, refl, sym, ap, ap₂, ◌∙◌, cond, List, [], ◌∷◌}
use Rattle.kit_words.proofs.Common.{◌++◌, map, ◌&&◌, flat_map, fold}
use Rattle.kit_words.proofs.Common.{map-append, is_gt}
use Rattle.grid_geometry.specs.Common.{Position, position_cmp, Segment, segment_eq, segment_cmp, Edge, links, edges, is_counted, is_odd_count}
use Rattle.grid_geometry.specs.Common.{is_inside, xor}
use Rattle.ring_machine.specs.Common.{segment_of, segments, is_in_polygon}
use Rattle.ring_machine.proofs.Common.{In, contains_in, in_contains, in_any, segment_eq-true, xor-assoc, xor-none}
use Rattle.ring_machine.proofs.Walks.{is_counted-reverse}
use Rattle.layer_sides.specs.Common.{Polygon, Right, doubled, middle, holds, holders, is_bounding}
use Rattle.layer_sides.specs.Common.{Bordering, AreBorders, AreHeld, AreSwept, counts_for, has_number, is_odd_at}
use Rattle.layer_sides.proofs.Odds.{odd, odd-alike, odd-none, odd-map, odd-flat, odd_count, odd_by}
use Rattle.layer_sides.proofs.Standings.{segment_total, segment_eq-refl}
use Rattle.layer_sides.proofs.Numbers.{test_from, has-numbers, numbers-ascend, same_numbers, IsNumbered, there, absent, numbered_as}

-- ---- an edge counts as its segment counts

counts_as : (w : Position) (e : Edge) → counts_for w (segment_of e) ≡ is_counted w (doubled e.0) (doubled e.1)
counts_as w e = by (is_gt (position_cmp e.0 e.1))
  where
    by : (t : Bool) → counts_for w (cond {A = Segment} t (record { lo = e.1; hi = e.0 }) (record { lo = e.0; hi = e.1 })) ≡ is_counted w (doubled e.0) (doubled e.1)
    by true = is_counted-reverse w (doubled e.0) (doubled e.1)
    by false = refl

-- ---- a ring with all coordinates doubled

abbrev both : Edge → Edge
both e = (doubled e.0, doubled e.1)

links-doubled : (ps : List Position) → links (map doubled ps) ≡ map both (links ps)
links-doubled [] = refl
links-doubled (p ∷ []) = refl
links-doubled (p ∷ q ∷ ps) = ap (λ z. (doubled p, doubled q) ∷ z) (links-doubled (q ∷ ps))

edges-doubled : (ring : List Position) → edges (map doubled ring) ≡ map both (edges ring)
edges-doubled [] = refl
edges-doubled (p ∷ ps) =
    ap (λ z. links (doubled p ∷ z)) (sym (map-append doubled ps (p ∷ []))) ∙ links-doubled (p ∷ ps ++ p ∷ [])

odd_edges : (w : Position) (es : List Edge) → is_odd_count w (map both es) ≡ odd (counts_for w) (map segment_of es)
odd_edges w [] = refl
odd_edges w (e ∷ es) = ap₂ xor (sym (counts_as w e)) (odd_edges w es)

inside_as : (w : Position) (ring : List Position) → is_inside w (map doubled ring) ≡ odd (counts_for w) (segments ring)
inside_as w ring = ap (is_odd_count w) (edges-doubled ring) ∙ odd_edges w (edges ring)

-- ---- a polygon

folded : (w : Position) (polygon : Polygon) (b : Bool)
    → fold (λ odd ring. xor odd (is_inside w ring)) b (map (map doubled) polygon) ≡ xor b (odd (λ ring. odd (counts_for w) (segments ring)) polygon)
folded w [] b = sym (xor-none b)
folded w (ring ∷ rings) b =
    folded w rings (xor b (is_inside w (map doubled ring)))
    ∙ ap (λ z. xor (xor b z) (odd (λ r. odd (counts_for w) (segments r)) rings)) (inside_as w ring)
    ∙ xor-assoc b (odd (counts_for w) (segments ring)) (odd (λ r. odd (counts_for w) (segments r)) rings)

pub held_as : (w : Position) (polygon : Polygon) → is_in_polygon w (map (map doubled) polygon) ≡ odd (counts_for w) (flat_map segments polygon)
held_as w polygon = folded w polygon false ∙ sym (odd-flat (counts_for w) segments polygon)

-- ---- by the borders

odd_borders : (borders : List Bordering) (n : ℕ) (w : Position)
    → is_odd_at borders n w ≡ odd (λ (b : Bordering). has_number n b.bounds && counts_for w b.segment) borders
odd_borders [] n w = refl
odd_borders (b ∷ bs) n w = ap (xor (has_number n b.bounds && counts_for w b.segment)) (odd_borders bs n w)

module _ (polygons : List Polygon) (borders : List Bordering) (are : AreBorders polygons borders) where
  -- a border bounds the polygon with this number
  bounds_as : (n : ℕ) (b : Bordering) → In b borders → has_number n b.bounds ≡ test_from 0 (λ p. is_bounding p b.segment) polygons n
  bounds_as n b i =
      ap (has_number n) (are.bounding b (in_contains borders b i)) ∙ has-numbers 0 (λ p. is_bounding p b.segment) polygons n

  abbrev all : List Segment
  all = map (λ (b : Bordering). b.segment) borders

  -- the borders of one polygon that count, and all of its segments that do
  of_polygon : (w : Position) (p : Polygon) → In p polygons → odd (λ s. is_bounding p s && counts_for w s) all ≡ odd (counts_for w) (flat_map segments p)
  of_polygon w p i =
      odd-alike (λ s. is_bounding p s && counts_for w s) (λ s. odd (segment_eq s) (flat_map segments p) && counts_for w s) all
      (λ s j. ap (λ z. z && counts_for w s) (odd_count (segment_eq s) (flat_map segments p)))
      ∙ sym (odd_by segment_eq segment_eq-true segment_eq-refl segment_cmp segment_total (counts_for w) (flat_map segments p) all are.ascending covers)
    where
      covers : (s : Segment) → odd (segment_eq s) (flat_map segments p) ≡ true → In s all
      covers s t =
          contains_in all s ((are.segments s).1
          (in_any (λ q. is_bounding q s) p polygons i (odd_count (segment_eq s) (flat_map segments p) ∙ t)))

  pub odd_as : (n : ℕ) (w : Position) → is_odd_at borders n w ≡ test_from 0 (λ p. is_in_polygon w (map (map doubled) p)) polygons n
  odd_as n w =
      odd_borders borders n w
      ∙ odd-alike (λ (b : Bordering). has_number n b.bounds && counts_for w b.segment)
      (λ (b : Bordering). test_from 0 (λ p. is_bounding p b.segment) polygons n && counts_for w b.segment) borders
      (λ b i. ap (λ z. z && counts_for w b.segment) (bounds_as n b i))
      ∙ by (numbered_as 0 polygons n)
    where
      by : IsNumbered 0 polygons n
          → odd (λ (b : Bordering). test_from 0 (λ p. is_bounding p b.segment) polygons n && counts_for w b.segment) borders
          ≡ test_from 0 (λ p. is_in_polygon w (map (map doubled) p)) polygons n
      by (there p i h) =
          odd-alike (λ (b : Bordering). test_from 0 (λ q. is_bounding q b.segment) polygons n && counts_for w b.segment)
          (λ (b : Bordering). is_bounding p b.segment && counts_for w b.segment) borders
          (λ b j. ap (λ z. z && counts_for w b.segment) (h (λ q. is_bounding q b.segment)))
          ∙ sym (odd-map (λ s. is_bounding p s && counts_for w s) (λ (b : Bordering). b.segment) borders)
          ∙ of_polygon w p i ∙ sym (held_as w p) ∙ sym (h (λ q. is_in_polygon w (map (map doubled) q)))
      by (absent h) =
          odd-alike (λ (b : Bordering). test_from 0 (λ q. is_bounding q b.segment) polygons n && counts_for w b.segment) (λ b. false) borders
          (λ b j. ap (λ z. z && counts_for w b.segment) (h (λ q. is_bounding q b.segment)))
          ∙ odd-none borders ∙ sym (h (λ q. is_in_polygon w (map (map doubled) q)))

  pub held : AreSwept borders → AreHeld polygons borders
  held swept b i =
      same_numbers b.right (holders polygons (b.segment, Right)) (swept.sorted b i)
      (numbers-ascend 0 (λ p. holds p (b.segment, Right)) polygons)
      (λ n. swept.odd b i n ∙ odd_as n (middle b.segment) ∙ sym (has-numbers 0 (λ p. holds p (b.segment, Right)) polygons n))
