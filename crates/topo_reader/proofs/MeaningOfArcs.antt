-- What the arcs mean is what the reader gives.
use Rattle.kit_words.proofs.Common.{◌≡◌, ℕ, suc, ◌≤◌, ◌<◌, ◌^◌, length, ℤ, ◌+ℤ◌, ◌&&◌, List, [], ◌∷◌, Bool, true, false}
use Rattle.kit_words.proofs.Common.{cond, refl, sym, ap, subst, ◌∙◌, ap₂, arith, Option, Some, None, Result, Ok, Err}
use Rattle.kit_words.proofs.Common.{unsigned_abs, AllByRecursion, AllZip, false≢true, ints, le-leb, leb-true}
use Rattle.json_spans.specs.Common.{Node, IsListOf, IsList, items, whole_of}
use Rattle.json_spans.specs.declared.number.NotWhole.{NotWhole}
use Rattle.json_spans.proofs.Common.{whole_read, whole_meant, items_told, item_values}
use Rattle.grid_geometry.specs.Position.{Position, position as placed, InRange}
use Rattle.topo_outline.specs.Common.{is_list, NestsAtMost, out_of_range, bad_position, ◌>>=◌, each}
use Rattle.topo_outline.proofs.Common.{is_a_list, list_here, list_nests}
use Rattle.topo_reader.specs.Common.{Arc, origin, is_within, summed, coordinate, two_of, pair_of, position, before_next}
use Rattle.topo_reader.specs.Common.{positions, has_two, arc, arcs, IsSum, Sums, ArePositions, IsArc, AreArcs}
use Rattle.topo_reader.specs.Positions.{pair}
use Rattle.topo_reader.specs.Reads as reads
use Rattle.topo_reader.proofs.Steps.{bind_ok, ok_same, each_of, of_each}

-- ---- what is meant is read

pub within : (z sum : ℤ) → sum ≡ z → unsigned_abs sum ≤ 1000000000000 → is_within z ≡ true
within z sum e h = le-leb (unsigned_abs z) 1000000000000 (subst (λ (y : ℤ). unsigned_abs y ≤ 1000000000000) e h)

-- a difference of two coordinates is small
pub small_step : (before z sum : ℤ) → unsigned_abs before ≤ 1000000000000 → sum ≡ before +ℤ z → unsigned_abs sum ≤ 1000000000000 → unsigned_abs z < 2 ^ 63
small_step before z sum h e k = omega (arith, ints, h, e, k)

position_of : (before p : Position) (n : Node) → InRange before → IsSum before n p → position before n ≡ Ok p
unfolding position
position_of before p n near s =
    let list : is_list n ≡ true = is_a_list s.two in
    let two : items n ≡ s.first ∷ s.second ∷ [] = sym (items_told s.two) in
    let x_sum : p.x ≡ before.x +ℤ s.x = ap (λ (q : Position). q.x) s.sum in
    let y_sum : p.y ≡ before.y +ℤ s.y = ap (λ (q : Position). q.y) s.sum in
    rw (
      list,
      two,
      whole_read s.first.bytes s.x s.x_is (small_step before.x s.x p.x near.across x_sum s.in_range.across),
      whole_read s.second.bytes s.y s.y_is (small_step before.y s.y p.y near.upward y_sum s.in_range.upward),
      within (before.x +ℤ s.x) p.x x_sum s.in_range.across,
      within (before.y +ℤ s.y) p.y y_sum s.in_range.upward,
      s.sum,
    ) refl

pub origin_in_range : InRange origin
origin_in_range = record { across = omega arith; upward = omega arith }

sums_of : {before : Position} {ns : List Node} {ps : List Position} → InRange before → Sums before ns ps → positions true before ns ≡ Ok ps
unfolding positions
sums_of near reads.no_pair = refl
sums_of near (reads.pair {before = before} {p = p} {n = n} s t) = rw (position_of before p n near s, sums_of s.in_range t) refl

pairs_of : (ns : List Node) (ps : List Position) → AllZip (IsSum origin) ns ps → positions false origin ns ≡ Ok ps
unfolding positions
pairs_of [] [] h = refl
pairs_of [] (p ∷ ps) h = absurd h
pairs_of (n ∷ ns) [] h = absurd h
pairs_of (n ∷ ns) (p ∷ ps) h = rw (position_of origin p n origin_in_range h.0, pairs_of ns ps h.1) refl

positions_of : (delta : Bool) (ns : List Node) (ps : List Position) → ArePositions delta ns ps → positions delta origin ns ≡ Ok ps
positions_of true ns ps h = sums_of origin_in_range h
positions_of false ns ps h = pairs_of ns ps h

-- the first position, and those after it
abbrev Parts : Bool → Position → Node → List Node → List Position → Type 0
Parts delta before n ns ps = (p : Position) × (qs : List Position) × (position before n ≡ Ok p) × (positions delta (before_next delta p) ns ≡ Ok qs) × (p ∷ qs ≡ ps)

parts : (delta : Bool) (before : Position) (n : Node) (ns : List Node) (ps : List Position) → positions delta before (n ∷ ns) ≡ Ok ps → Parts delta before n ns ps
unfolding positions
parts delta before n ns ps h =
    let first = bind_ok (position before n) (λ (p : Position). positions delta (before_next delta p) ns >>= λ qs. Ok (p ∷ qs)) ps h in
    let rest = bind_ok (positions delta (before_next delta first.0) ns) (λ (qs : List Position). Ok (first.0 ∷ qs)) ps first.2 in
    (first.0, rest.0, first.1, rest.1, ok_same (first.0 ∷ rest.0) ps rest.2)

pub count : (delta : Bool) (before : Position) (ns : List Node) (ps : List Position) → positions delta before ns ≡ Ok ps → length ps ≡ length ns
unfolding positions
count delta before [] ps h = ap (λ (qs : List Position). length qs) (sym (ok_same [] ps h))
count delta before (n ∷ ns) ps h =
    let two = parts delta before n ns ps h in
    ap (λ (qs : List Position). length qs) (sym two.4) ∙ ap suc (count delta (before_next delta two.0) ns two.1 two.3)

pub two_or_more : (ns : List Node) → 2 ≤ length ns → has_two ns ≡ true
two_or_more [] h = absurd (omega (arith, h))
two_or_more (a ∷ []) h = absurd (omega (arith, h))
two_or_more (a ∷ b ∷ ns) h = refl

arc_of : (delta : Bool) (n : Node) (ps : List Position) → IsArc delta n ps → arc delta n ≡ Ok ps
unfolding arc
arc_of delta n ps a =
    let is : ArePositions delta (items n) ps = subst (λ ns. ArePositions delta ns ps) (items_told a.list) a.positions in
    let found = positions_of delta (items n) ps is in
    let list : is_list n ≡ true = is_a_list a.list in
    rw (list, two_or_more (items n) (omega (arith, a.long, count delta origin (items n) ps found))) found

pub arcs_of : (delta : Bool) (n : Node) (found : List Arc) → AreArcs delta n found → arcs delta n ≡ Ok found
arcs_of delta n found h = subst (λ ns. each (arc delta) ns ≡ Ok found) (items_told h.1) (each_of (IsArc delta) (arc delta) (arc_of delta) h.0 found h.2)

-- ---- what is read is meant

-- the number that was added
abbrev Added : ℤ → Result ℤ NotWhole → ℤ → Type 0
Added before r sum = (z : ℤ) × (r ≡ Ok z) × (is_within (before +ℤ z) ≡ true) × (sum ≡ before +ℤ z)

added : (before : ℤ) (place : ℕ) (r : Result ℤ NotWhole) (sum : ℤ) → summed before place r ≡ Ok sum → Added before r sum
added before place (Err e) sum h = absurd cc
added before place (Ok z) sum h = by (is_within (before +ℤ z)) refl h
  where
    by : (b : Bool) → is_within (before +ℤ z) ≡ b → cond b (Ok (before +ℤ z)) (Err (out_of_range place)) ≡ Ok sum → Added before (Ok z) sum
    by true e h = (z, refl, e, sym (ok_same (before +ℤ z) sum h))
    by false e h = absurd cc

both : (before p : Position) (a b : Node) → pair_of before a b ≡ Ok p →
    (x y : ℤ) × (coordinate before.x a ≡ Ok x) × (coordinate before.y b ≡ Ok y) × (p ≡ placed x y)
both before p a b h =
    let first = bind_ok (coordinate before.x a) (λ (x : ℤ). coordinate before.y b >>= λ y. Ok (placed x y)) p h in
    let second = bind_ok (coordinate before.y b) (λ (y : ℤ). Ok (placed first.0 y)) p first.2 in
    (first.0, second.0, first.1, second.1, sym (ok_same (placed first.0 second.0) p second.2))

abbrev listed : Option (Node × Node) → List Node
listed None = []
listed (Some q) = q.0 ∷ q.1 ∷ []

two_are : (ns : List Node) (a b : Node) → two_of ns ≡ Some (a, b) → ns ≡ a ∷ b ∷ []
two_are [] a b h = absurd cc
two_are (n ∷ []) a b h = absurd cc
two_are (n ∷ m ∷ []) a b h = ap listed h
two_are (n ∷ m ∷ o ∷ ns) a b h = absurd cc

is_sum : (k : ℕ) (before p : Position) (n : Node) → NestsAtMost k n → position before n ≡ Ok p → IsSum before n p
unfolding position
is_sum k before p n nests h = by (is_list n) refl (two_of (items n)) refl h
  where
    reach : (z sum : ℤ) → sum ≡ z → is_within z ≡ true → unsigned_abs sum ≤ 1000000000000
    reach z sum e w = subst (λ (y : ℤ). unsigned_abs y ≤ 1000000000000) (sym e) (leb-true (unsigned_abs z) 1000000000000 w)

    by : (b : Bool) → is_list n ≡ b → (o : Option (Node × Node)) → two_of (items n) ≡ o → cond b (pair before n.at_byte o) (Err (bad_position n.at_byte)) ≡ Ok p → IsSum before n p
    by false e o f h = absurd cc
    by true e None f h = absurd cc
    by true e (Some q) f h =
        let two = both before p q.0 q.1 h in
        let x = added before.x q.0.at_byte (whole_of q.0.bytes) two.0 two.2 in
        let y = added before.y q.1.at_byte (whole_of q.1.bytes) two.1 two.3 in
        let sum : p ≡ placed (before.x +ℤ x.0) (before.y +ℤ y.0) = two.4 ∙ ap₂ placed x.3 y.3 in
        record {
          first = q.0;
          second = q.1;
          x = x.0;
          y = y.0;
          two = subst (λ ns. IsListOf n ns) (two_are (items n) q.0 q.1 f) (list_here k n nests e);
          x_is = whole_meant q.0.bytes x.0 x.1;
          y_is = whole_meant q.1.bytes y.0 y.1;
          sum = sum;
          in_range = record {
            across = reach (before.x +ℤ x.0) p.x (ap (λ (r : Position). r.x) sum) x.2;
            upward = reach (before.y +ℤ y.0) p.y (ap (λ (r : Position). r.y) sum) y.2;
          };
        }

-- values with at most k lists and objects one in another
abbrev AllNest : ℕ → List Node → Type 0
AllNest k ns = AllByRecursion (NestsAtMost k) ns

are_sums : (k : ℕ) (before : Position) (ns : List Node) (ps : List Position) → AllNest k ns → positions true before ns ≡ Ok ps → Sums before ns ps
unfolding positions
are_sums k before [] ps nests h = subst (λ qs. Sums before [] qs) (ok_same [] ps h) reads.no_pair
are_sums k before (n ∷ ns) ps nests h =
    let two = parts true before n ns ps h in
    subst (λ qs. Sums before (n ∷ ns) qs) two.4 (reads.pair (is_sum k before two.0 n nests.0 two.2) (are_sums k two.0 ns two.1 nests.1 two.3))

are_pairs : (k : ℕ) (ns : List Node) (ps : List Position) → AllNest k ns → positions false origin ns ≡ Ok ps → AllZip (IsSum origin) ns ps
unfolding positions
are_pairs k [] ps nests h = subst (λ qs. AllZip (IsSum origin) [] qs) (ok_same [] ps h) tt
are_pairs k (n ∷ ns) ps nests h =
    let two = parts false origin n ns ps h in
    subst (λ qs. AllZip (IsSum origin) (n ∷ ns) qs) two.4 (is_sum k origin two.0 n nests.0 two.2, are_pairs k ns two.1 nests.1 two.3)

are_positions : (k : ℕ) (delta : Bool) (ns : List Node) (ps : List Position) → AllNest k ns → positions delta origin ns ≡ Ok ps → ArePositions delta ns ps
are_positions k true ns ps nests h = are_sums k origin ns ps nests h
are_positions k false ns ps nests h = are_pairs k ns ps nests h

at_least_two : (ns : List Node) → has_two ns ≡ true → 2 ≤ length ns
at_least_two [] h = absurd (false≢true h)
at_least_two (a ∷ []) h = absurd (false≢true h)
at_least_two (a ∷ b ∷ ns) h = omega arith

pub is_arc : (k : ℕ) (delta : Bool) (n : Node) (ps : List Position) → NestsAtMost k n → arc delta n ≡ Ok ps → IsArc delta n ps
unfolding arc
is_arc k delta n ps nests h = by (is_list n) refl (has_two (items n)) refl h
  where
    by : (b : Bool) → is_list n ≡ b → (c : Bool) → has_two (items n) ≡ c → cond (b && c) (positions delta origin (items n)) (Err (bad_position n.at_byte)) ≡ Ok ps → IsArc delta n ps
    by false e c f h = absurd cc
    by true e false f h = absurd cc
    by true e true f h =
        let list = list_here k n nests e in
        let (j, less, all) = list_nests k n nests list in
        record {
          items = items n;
          list = list;
          positions = are_positions j delta (items n) ps all h;
          long = omega (arith, at_least_two (items n) f, count delta origin (items n) ps h);
        }

pub are_arcs : (delta : Bool) (n : Node) (found : List Arc) → IsList n → arcs delta n ≡ Ok found → AreArcs delta n found
are_arcs delta n found list h =
    let (k, nests) = item_values list.1 in
    (list.0, list.1, of_each (NestsAtMost k) (IsArc delta) (arc delta) (λ m ps v e. is_arc k delta m ps v e) list.0 found nests (subst (λ ns. each (arc delta) ns ≡ Ok found) (sym (items_told list.1)) h))
