-- The segments and the positions of the two parts are those of the ring and of the path.
use Rattle.kit_words.proofs.Common.{◌≡◌, ◌+◌, ◌*◌, Bool, refl, sym, ap, ap₂, ◌∙◌, List, [], ◌∷◌, ◌++◌, map, length}
use Rattle.kit_words.proofs.Common.{reverse, ◌||◌, arith, list_any, length-append, length-reverse, map-append}
use Rattle.kit_words.proofs.Common.{reverse-append, list_any-append}
use Rattle.grid_geometry.specs.Common.{Position, Segment, Edge, edges, links}
use Rattle.grid_geometry.proofs.Common.{segment-comm}
use Rattle.ring_machine.specs.Common.{canonical, segments, segment_of, Path, first_part, second_part, positions_of}
use Rattle.ring_machine.proofs.Arcs.{flip, flipped, links-reverse}
use Rattle.ring_machine.proofs.CutRings.{CutRing, first_is, second_is, rotated_edges, canonical_turns}
use Rattle.ring_machine.proofs.SplitRings.{any_turned, any_reversed}
use Rattle.ring_machine.proofs.Spots.{Rotated}
use Rattle.ring_machine.proofs.Walks.{walk, walk-append}

-- ---- segments

-- the segments of a path
abbrev pub path_segments : Path → List Segment
path_segments path = map segment_of (links (positions_of path))

pub any_mapped : {A B : Type 0} (test : B → Bool) (g : A → B) (xs : List A)
    → list_any test (map g xs) ≡ list_any (λ x. test (g x)) xs
any_mapped test g [] = refl
any_mapped test g (x ∷ xs) = ap (λ b. test (g x) || b) (any_mapped test g xs)

-- a turned ring has the same segments
pub segments_turned : (test : Segment → Bool) (ps qs : List Position) → Rotated ps qs
    → list_any test (segments ps) ≡ list_any test (segments qs)
segments_turned test ps qs r =
    any_mapped test segment_of (edges ps) ∙ any_turned (λ e. test (segment_of e)) (edges ps) (edges qs) (rotated_edges ps qs r)
    ∙ sym (any_mapped test segment_of (edges qs))

-- the way back has the same segments
way_back : (p : Position) (inner : List Position) (q : Position)
    → walk q (reverse inner) p ≡ flipped (walk p inner q)
way_back p inner q =
    ap links (sym (reverse-append (p ∷ inner) (q ∷ []) ∙ ap (λ z. q ∷ z) (reverse-append (p ∷ []) inner)))
    ∙ links-reverse (p ∷ inner ++ q ∷ [])

flipped_segments : (test : Segment → Bool) (es : List Edge)
    → list_any test (map segment_of (flipped es)) ≡ list_any test (map segment_of es)
flipped_segments test es =
    any_mapped test segment_of (flipped es) ∙ any_reversed (λ e. test (segment_of e)) (map flip es)
    ∙ any_mapped (λ e. test (segment_of e)) flip es ∙ alike es
    ∙ sym (any_mapped test segment_of es)
  where
    alike : (es : List Edge)
        → list_any (λ e. test (segment_of (flip e))) es ≡ list_any (λ e. test (segment_of e)) es
    alike [] = refl
    alike (e ∷ es) = ap₂ (λ a b. a || b) (ap test (segment-comm e.1 e.0)) (alike es)

shared : (a b c : Bool) → ((a || c) || (b || c)) ≡ ((a || b) || c)
shared a b c = grind arith

both_ways : (test : Segment → Bool) (p : Position) (xs : List Position) (q : Position) (ys : List Position)
    → list_any test (segments (p ∷ xs ++ q ∷ ys))
    ≡ (list_any test (map segment_of (walk p xs q)) || list_any test (map segment_of (walk q ys p)))
both_ways test p xs q ys =
    ap (λ z. list_any test (map segment_of z)) (walk-append p q p xs ys)
    ∙ ap (list_any test) (map-append segment_of (walk p xs q) (walk q ys p))
    ∙ list_any-append test (map segment_of (walk p xs q)) (map segment_of (walk q ys p))

-- a segment is of one of the parts where it is of the ring or of the path
pub parts_segments : (test : Segment → Bool) (ring : List Position) (path : Path)
    → CutRing ring path.first path.last →
    (list_any test (segments (first_part ring path)) || list_any test (segments (second_part ring path)))
    ≡ (list_any test (segments ring) || list_any test (path_segments path))
parts_segments test ring path c =
    let p = path.first in
    let q = path.last in
    let inner = path.inner in
    let there = list_any test (map segment_of (walk p c.xs q)) in
    let back = list_any test (map segment_of (walk q c.ys p)) in
    ap₂ (λ y z. list_any test (segments y) || list_any test (segments z)) (first_is ring path c) (second_is ring path c)
    ∙ ap₂ (λ y z. y || z) (both_ways test p c.xs q (reverse inner) ∙ ap (λ z. there || z) (ap (λ z. list_any test (map segment_of z)) (way_back p inner q) ∙ flipped_segments test (walk p inner q))) (both_ways test q c.ys p inner)
    ∙ shared there back (list_any test (path_segments path))
    ∙ ap (λ z. z || list_any test (path_segments path)) (sym (segments_turned test ring (p ∷ c.xs ++ q ∷ c.ys) c.turned ∙ both_ways test p c.xs q c.ys))

pub canonical_parts_segments : (test : Segment → Bool) (ring : List Position) (path : Path)
    → CutRing ring path.first path.last →
    (list_any test (segments (canonical (first_part ring path))) || list_any test (segments (canonical (second_part ring path))))
    ≡ (list_any test (segments ring) || list_any test (path_segments path))
canonical_parts_segments test ring path c =
    ap₂ (λ y z. y || z) (sym (segments_turned test (first_part ring path) _ (canonical_turns (first_part ring path)))) (sym (segments_turned test (second_part ring path) _ (canonical_turns (second_part ring path))))
    ∙ parts_segments test ring path c

-- ---- lengths

-- the ends of the path and its inner positions stand in both parts
pub parts_length : (ring : List Position) (path : Path) → CutRing ring path.first path.last
    → length (canonical (first_part ring path)) + length (canonical (second_part ring path))
    ≡ length ring + 2 + 2 * length path.inner
parts_length ring path c =
    omega (
      arith,
      length_turned (first_part ring path) _ (canonical_turns (first_part ring path)),
      length_turned (second_part ring path) _ (canonical_turns (second_part ring path)),
      length_turned ring _ c.turned,
      ap length (first_is ring path c),
      ap length (second_is ring path c),
      length-append c.xs (path.last ∷ reverse path.inner),
      length-append c.ys (path.first ∷ path.inner),
      length-append c.xs (path.last ∷ c.ys),
      length-reverse path.inner,
    )
  where
    length_turned : (ps qs : List Position) → Rotated ps qs → length ps ≡ length qs
    length_turned ps qs r = omega (arith, ap length r.from, ap length r.to, length-append r.us r.vs, length-append r.vs r.us)
