-- The written arcs are read as they were.
use Rattle.kit_words.proofs.Common.{◌≡◌, ◌≤◌, ◌<◌, ◌^◌, List, [], ◌∷◌, map, Bool, true, false, length, sym, ap₂, subst}
use Rattle.kit_words.proofs.Common.{arith, ℤ, pos, ◌+ℤ◌, ◌-ℤ◌, unsigned_abs, AllByRecursion, signed_decimal, ints}
use Rattle.grid_geometry.specs.Common.{Position, position, InRange}
use Rattle.json_spans.specs.Common.{Node, IsListOf, IsWhole}
use Rattle.topo_outline.specs.Common.{IsJson}
use Rattle.topo_reader.specs.Common.{origin, IsSum, Sums, no_pair, pair, ArePositions, IsArc, AreArcs}
use Rattle.topo_reader.proofs.MeaningOfArcs.{origin_in_range}
use Rattle.map_text.specs.Common.{pair_text, differences, pairs, arc_text, arcs_text}
use Rattle.map_text.proofs.GrammarLists.{bytes_of, has_texts, list_is_json}
use Rattle.map_text.proofs.GrammarNumbers.{whole_is_json, whole_written}
use Rattle.map_text.proofs.ReadingLists.{all_mapped, Stands, first_same, rest_same, zipped, list_stands, list_json, two}

-- ---- whole numbers

-- coordinates that 64 bits with a sign hold
record Small (p : Position) : Type 0 where
  x : unsigned_abs p.x < 2 ^ 63
  y : unsigned_abs p.y < 2 ^ 63

in_range_small : (p : Position) → InRange p → Small p
in_range_small p h = record { x = omega (arith, h.across); y = omega (arith, h.upward) }

less_small : (a b : ℤ) → unsigned_abs a ≤ 1000000000000 → unsigned_abs b ≤ 1000000000000 → unsigned_abs (a -ℤ b) < 2 ^ 63
less_small a b h k = omega (arith, ints, h, k)

plus_less : (a b : ℤ) → b +ℤ (a -ℤ b) ≡ a
plus_less a b = omega (arith, ints)

zero_plus : (a : ℤ) → pos 0 +ℤ a ≡ a
zero_plus a = omega (arith, ints)

-- ---- pairs

numbers_json : (p : Position) → Small p → AllByRecursion IsJson (signed_decimal p.x ∷ signed_decimal p.y ∷ [])
numbers_json p h = (whole_is_json p.x (omega (arith, h.x)), (whole_is_json p.y (omega (arith, h.y)), tt))

pair_json : (p : Position) → Small p → IsJson (pair_text p)
pair_json p h = list_is_json (signed_decimal p.x ∷ signed_decimal p.y ∷ []) (numbers_json p h)

is_sum : (before q p : Position) (n : Node) → Small q → InRange p → p ≡ position (before.x +ℤ q.x) (before.y +ℤ q.y) → n.bytes ≡ pair_text q → IsSum before n p
is_sum before q p n small range is e =
    let listed = has_texts n (signed_decimal q.x ∷ signed_decimal q.y ∷ []) e (numbers_json q small) in
    let found = two listed.nodes (signed_decimal q.x) (signed_decimal q.y) listed.are in
    record {
      first = found.first;
      second = found.second;
      x = q.x;
      y = q.y;
      two = subst (λ ns. IsListOf n ns) found.are listed.list;
      x_is = subst (λ z. IsWhole z q.x) (sym found.first_is) (whole_written q.x small.x);
      y_is = subst (λ z. IsWhole z q.y) (sym found.second_is) (whole_written q.y small.y);
      sum = is;
      in_range = range;
    }

-- ---- positions, each for itself

position_stands : Stands InRange (IsSum origin) pair_text
position_stands n p range e = is_sum origin p p n (in_range_small p range) range (ap₂ (λ x y. position x y) (sym (zero_plus p.x)) (sym (zero_plus p.y))) e

-- ---- differences

record Differs (before p : Position) : Type 0 where
  small : Small (position (p.x -ℤ before.x) (p.y -ℤ before.y))
  sum : p ≡ position (before.x +ℤ (p.x -ℤ before.x)) (before.y +ℤ (p.y -ℤ before.y))

differs : (before p : Position) → InRange before → InRange p → Differs before p
differs before p b h = record {
  small = record { x = less_small p.x before.x h.across b.across; y = less_small p.y before.y h.upward b.upward };
  sum = ap₂ (λ x y. position x y) (sym (plus_less p.x before.x)) (sym (plus_less p.y before.y));
}

differences_json : (before : Position) (ps : List Position) → InRange before → AllByRecursion InRange ps → AllByRecursion IsJson (map pair_text (differences before ps))
differences_json before [] b h = tt
differences_json before (p ∷ ps) b h = (pair_json (position (p.x -ℤ before.x) (p.y -ℤ before.y)) (differs before p b h.0).small, differences_json p ps h.0 h.1)

are_sums : (before : Position) (ns : List Node) (ps : List Position) → InRange before → AllByRecursion InRange ps → map bytes_of ns ≡ map pair_text (differences before ps) → Sums before ns ps
are_sums before [] [] b h e = no_pair
are_sums before [] (p ∷ ps) b h e = absurd cc
are_sums before (n ∷ ns) [] b h e = absurd cc
are_sums before (n ∷ ns) (p ∷ ps) b h e =
    let q : Position = position (p.x -ℤ before.x) (p.y -ℤ before.y) in
    let d = differs before p b h.0 in
    pair (is_sum before q p n d.small h.0 d.sum (first_same n.bytes (pair_text q) (map bytes_of ns) (map pair_text (differences p ps)) e))
    (are_sums p ns ps h.0 h.1 (rest_same n.bytes (pair_text q) (map bytes_of ns) (map pair_text (differences p ps)) e))

-- ---- arcs

pairs_json : (delta : Bool) (ps : List Position) → AllByRecursion InRange ps → AllByRecursion IsJson (map pair_text (pairs delta ps))
pairs_json true ps h = differences_json origin ps origin_in_range h
pairs_json false ps h = all_mapped InRange IsJson pair_text ps (λ p r. pair_json p (in_range_small p r)) h

-- an arc that a text may have
pub record IsLine (ps : List Position) : Type 0 where
  pub range : AllByRecursion InRange ps
  pub long : 2 ≤ length ps

arc_json : (delta : Bool) (ps : List Position) → IsLine ps → IsJson (arc_text delta ps)
arc_json delta ps h = list_is_json (map pair_text (pairs delta ps)) (pairs_json delta ps h.range)

are_positions : (delta : Bool) (ns : List Node) (ps : List Position) → AllByRecursion InRange ps → map bytes_of ns ≡ map pair_text (pairs delta ps) → ArePositions delta ns ps
are_positions true ns ps h e = are_sums origin ns ps origin_in_range h e
are_positions false ns ps h e = zipped InRange (IsSum origin) pair_text ns ps position_stands e h

arc_stands : (delta : Bool) → Stands IsLine (IsArc delta) (arc_text delta)
arc_stands delta n ps h e =
    let listed = has_texts n (map pair_text (pairs delta ps)) e (pairs_json delta ps h.range) in
    record { items = listed.nodes; list = listed.list; positions = are_positions delta listed.nodes ps h.range listed.are; long = h.long }

pub arcs_json : (delta : Bool) (arcs : List (List Position)) → AllByRecursion IsLine arcs → IsJson (arcs_text delta arcs)
arcs_json delta arcs h = list_json IsLine (arc_text delta) arcs (arc_json delta) h

pub arcs_read : (delta : Bool) (n : Node) (arcs : List (List Position)) → AllByRecursion IsLine arcs → n.bytes ≡ arcs_text delta arcs → AreArcs delta n arcs
arcs_read delta n arcs h e = list_stands IsLine (IsArc delta) (arc_text delta) n arcs (arc_stands delta) (arc_json delta) h e
