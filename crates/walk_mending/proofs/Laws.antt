-- What is kept of a polygon that is mended: its positions in order, and the ends of its odd segments.
use Rattle.kit_words.proofs.Common.{◌≡◌, ℕ, true, false, sym, ap, ◌∙◌, subst, cond, List, [], ◌∷◌, ◌++◌, map, arith}
use Rattle.kit_words.proofs.Common.{nat_lt, Result, Ok, Err, Option, Some, None, IfOk, IfSome, flat_map, list_all, list_any}
use Rattle.kit_words.proofs.Common.{MatchOption, nat_tests}
use Rattle.grid_geometry.specs.Common.{Position, Segment, segment_eq}
use Rattle.ring_machine.specs.Common.{canonical, has}
use Rattle.ring_machine.proofs.Common.{canonical_parts, In, in_left, in_any, in_flat, in-map, in-has, in_canonical}
use Rattle.segment_paths.specs.Common.{PathOfSegment}
use Rattle.walk_faults.specs.Common.{walk_segments}
use Rattle.walk_faults.proofs.Common.{segment_ends}
use Rattle.topo_reader.specs.Common.{is_simple}
use Rattle.walk_mending.specs.Common.{laid, KeepsInOrder, times_in_walks, rings_of_parts, IsMended, stays, parted, ArePartsOf}
use Rattle.walk_mending.specs.Common.{BoundWithoutRings, HasOdd, KeepsOddEnds}
use Rattle.walk_mending.proofs.Along.{laid_keeps}
use Rattle.walk_mending.proofs.Bounds.{any_counted}
use Rattle.walk_mending.proofs.Cancelling.{among-in, is_odd}

-- a ring in its canonical rotation is a laid walk turned, in which the walk stands in order
pub keeps_round : (paths : List PathOfSegment) (walk : List Position)
    → (xs : List Position) × (ys : List Position) × KeepsInOrder walk (xs ++ ys) × (canonical (laid paths walk) ≡ ys ++ xs)
keeps_round paths walk =
    let k = canonical_parts (laid paths walk) in
    (k.0, k.1, subst (KeepsInOrder walk) k.2 (laid_keeps paths walk), k.3)

-- a segment that stands in walks some times is one of theirs, and its ends are positions of one
pub ends_there : (walks : List (List Position)) (s : Segment) → nat_lt 0 (times_in_walks walks s) ≡ true
    → (walk : List Position) × In walk walks × In s.lo walk × In s.hi walk
ends_there walks s h =
    let among = any_counted (segment_eq s) (flat_map walk_segments walks) ∙ h in
    let k = in_flat walk_segments s walks (among-in (flat_map walk_segments walks) s among) in
    let e = segment_ends k.0 s k.2 in
    (k.0, k.1, e.0, e.1)

is_one : (rings : List (List Position)) (ring : List Position) (p : Position) → In ring rings → In p ring
    → list_any (λ r. has r p) rings ≡ true
is_one rings ring p i j = in_any (λ r. has r p) ring rings i (in-has p ring j)

pub odd_some : (n : ℕ) → is_odd n ≡ true → nat_lt 0 n ≡ true
odd_some n h = grind (arith, nat_tests)

-- both ends of each odd segment stay
pub odd_ends : (walks : List (List Position)) (parts : List (List (List Position))) → IsMended walks parts → KeepsOddEnds walks parts
odd_ends walks _ (stays h) s odd =
    let k = ends_there walks s (odd_some (times_in_walks walks s) odd) in
    let there : In (canonical k.0) (map canonical walks ++ []) = in_left (canonical k.0) (map canonical walks) [] (in-map canonical k.0 walks k.1) in (
      is_one (map canonical walks ++ []) (canonical k.0) s.lo there (in_canonical k.0 s.lo k.2),
      is_one (map canonical walks ++ []) (canonical k.0) s.hi there (in_canonical k.0 s.hi k.3),
    )
odd_ends walks parts (parted h are) s odd =
    let once = are.odd s ∙ ap (λ b. cond {A = ℕ} b 1 0) odd in
    let k = ends_there (rings_of_parts parts) s (ap (nat_lt 0) once) in
    (is_one (rings_of_parts parts) k.0 s.lo k.1 k.2, is_one (rings_of_parts parts) k.0 s.hi k.1 k.3)

-- ---- results

pub mended_if : {X E : Type 0} (walks : List (List Position)) (seen : X → List (List (List Position))) (r : Result (Option X) E) → list_all is_simple walks ≡ false
    → IfOk r (λ o. MatchOption o (HasOdd walks) (λ x. ArePartsOf walks (seen x))) → IfOk r (λ o. MatchOption o (BoundWithoutRings walks) (λ x. IsMended walks (seen x)))
mended_if walks seen (Ok (Some x)) h k = parted h k
mended_if walks seen (Ok None) h k = (h, k)
mended_if walks seen (Err e) h k = tt

pub ends_if : {X E : Type 0} (walks : List (List Position)) (seen : X → List (List (List Position))) (r : Result (Option X) E)
    → IfOk r (λ o. MatchOption o (BoundWithoutRings walks) (λ x. IsMended walks (seen x))) → IfOk r (λ o. IfSome o (λ x. KeepsOddEnds walks (seen x)))
ends_if walks seen (Ok (Some x)) k = odd_ends walks (seen x) k
ends_if walks seen (Ok None) k = tt
ends_if walks seen (Err e) k = tt

pub stays_if : (walks : List (List Position)) (parts : List (List (List Position))) → list_all is_simple walks ≡ true
    → parts ≡ map canonical walks ∷ [] → IsMended walks parts
stays_if walks parts h e = subst (IsMended walks) (sym e) (stays h)
