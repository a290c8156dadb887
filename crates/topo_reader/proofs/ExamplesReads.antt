-- What arcs, indexes, walks and rings mean, and what means nothing, worked out.
use Rattle.kit_words.proofs.Common.{◌≡◌, ℕ, List, [], ◌∷◌, codes, true, false, refl, pos, negsuc, ℤ, ap, sym, ◌∙◌, Ok}
use Rattle.kit_words.proofs.Common.{Err}
use Rattle.json_spans.specs.Common.{Node, parts_from, part_len, value_from, IsWhole, kind_of, run, verdict, good}
use Rattle.json_spans.proofs.Sound.{verdict_json}
use Rattle.json_spans.proofs.Common.{root_value, padded_root, means, whole_meant, object_kind}
use Rattle.ring_machine.specs.Common.{Document}
use Rattle.ring_machine.proofs.Common.{at, under}
use Rattle.grid_geometry.specs.Common.{Position}
use Rattle.topo_outline.specs.declared.fault.RingAt.{RingAt}
use Rattle.topo_outline.specs.Common.{arcs_do_not_meet, ring_short, ring_repeats, NestsAtMost}
use Rattle.topo_reader.specs.Common.{position, positions, arc, Arc, is_walk, is_simple, root_of, meet_from, ends}
use Rattle.topo_reader.specs.Common.{squeezed, all_of, first_repeat, walk_of, ring_of, IsArc, IsUse, forward, backward}
use Rattle.topo_reader.specs.Common.{IsWalk, IsRing, Reads}
use Rattle.topo_reader.proofs.MeaningOfArcs.{is_arc}
use Rattle.topo_reader.proofs.MeaningOfRings.{walk_read, walk_meant, ring_read, ring_meant}

-- a text at the begin of the file
abbrev value : List ℕ → Node
value bytes = record { at_byte = 0; bytes = bytes }

-- what the scan takes is JSON
is_value : (bytes : List ℕ) → verdict bytes ≡ good → NestsAtMost 100 (root_of bytes)
is_value bytes e = root_value 100 bytes (verdict_json bytes e)

-- ---- arcs

two_pairs : NestsAtMost 100 (value (codes "[[1,2],[3,-1]]"))
unfolding run
two_pairs = is_value (codes "[[1,2],[3,-1]]") refl

-- with deltas (1, 2) and (3, -1) lead to (4, 1)
sums : IsArc true (value (codes "[[1,2],[3,-1]]")) (at 1 2 ∷ at 4 1 ∷ [])
unfolding parts_from part_len value_from position positions arc
sums = is_arc 100 true (value (codes "[[1,2],[3,-1]]")) (at 1 2 ∷ at 4 1 ∷ []) two_pairs refl

-- without they are positions
pairs : IsArc false (value (codes "[[1,2],[3,-1]]")) (at 1 2 ∷ under 3 1 ∷ [])
unfolding parts_from part_len value_from position positions arc
pairs = is_arc 100 false (value (codes "[[1,2],[3,-1]]")) (at 1 2 ∷ under 3 1 ∷ []) two_pairs refl

-- ---- indexes

abbrev there_and_on : List Arc
there_and_on = (at 4 0 ∷ at 0 0 ∷ []) ∷ (at 4 0 ∷ at 4 4 ∷ at 4 4 ∷ at 0 0 ∷ []) ∷ []

-- 1 names the second arc
second : IsUse there_and_on (value (codes "1")) (at 4 0 ∷ at 4 4 ∷ at 4 4 ∷ at 0 0 ∷ [])
unfolding value_from
second = forward {i = 1} (whole_meant (codes "1") (pos 1) refl) refl

-- and so does 1.0
second_again : IsUse there_and_on (value (codes "1.0")) (at 4 0 ∷ at 4 4 ∷ at 4 4 ∷ at 0 0 ∷ [])
unfolding value_from
second_again = forward {i = 1} (whole_meant (codes "1.0") (pos 1) refl) refl

-- -1 names the first one in reverse
first_reversed : IsUse there_and_on (value (codes "-1")) (at 0 0 ∷ at 4 0 ∷ [])
unfolding value_from
first_reversed = backward {i = 0} {a = at 4 0 ∷ at 0 0 ∷ []} (whole_meant (codes "-1") (negsuc 0) refl) refl

-- 1e0 names none
not_whole : (z : ℤ) → ¬ IsWhole (codes "1e0") z
unfolding value_from
not_whole z = means (codes "1e0") z

no_exponent : (a : Arc) → ¬ IsUse there_and_on (value (codes "1e0")) a
no_exponent a (forward w e) = not_whole _ w
no_exponent a (backward w e) = not_whole _ w

-- ---- walks and rings

abbrev here : RingAt
here = record { feature = 0; polygon = 0; ring = 0 }

-- the arcs of [1, -1]
abbrev around_and_back : List Arc
around_and_back = (at 4 0 ∷ at 4 4 ∷ at 4 4 ∷ at 0 0 ∷ []) ∷ (at 0 0 ∷ at 4 0 ∷ []) ∷ []

-- their walk begins where they do
walk : IsWalk around_and_back (at 4 0 ∷ at 4 4 ∷ at 0 0 ∷ [])
unfolding meet_from ends squeezed all_of walk_of
walk = walk_meant here _ _ refl

-- their ring: three corners, begun at the least one
ring : IsRing around_and_back (at 0 0 ∷ at 4 0 ∷ at 4 4 ∷ [])
unfolding meet_from ends squeezed all_of first_repeat walk_of ring_of
ring = ring_meant here _ _ refl

-- twice through (2, 2)
abbrev pinched : List Arc
pinched = (at 0 0 ∷ at 4 0 ∷ at 2 2 ∷ at 4 4 ∷ at 0 4 ∷ at 2 2 ∷ at 0 0 ∷ []) ∷ []

pinched_walk : IsWalk pinched (at 0 0 ∷ at 4 0 ∷ at 2 2 ∷ at 4 4 ∷ at 0 4 ∷ at 2 2 ∷ [])
unfolding meet_from ends squeezed all_of walk_of
pinched_walk = walk_meant here _ _ refl

no_pinched_ring : (ring : List Position) → ¬ IsRing pinched ring
unfolding meet_from ends squeezed all_of first_repeat walk_of ring_of
no_pinched_ring ring r = by (ring_read here pinched ring r)
  where
    by : Err (ring_repeats here (at 2 2)) ≡ Ok ring → ⊥
    by e = absurd cc

-- there and back
abbrev collapsed : List Arc
collapsed = (at 4 0 ∷ at 0 0 ∷ []) ∷ (at 0 0 ∷ at 4 0 ∷ []) ∷ []

collapsed_walk : IsWalk collapsed (at 4 0 ∷ at 0 0 ∷ [])
unfolding meet_from ends squeezed all_of walk_of
collapsed_walk = walk_meant here _ _ refl

no_collapsed_ring : (ring : List Position) → ¬ IsRing collapsed ring
unfolding meet_from ends squeezed all_of walk_of ring_of
no_collapsed_ring ring r = by (ring_read here collapsed ring r)
  where
    by : Err (ring_short here) ≡ Ok ring → ⊥
    by e = absurd cc

-- no neighbours are equal, nor the last and the first; so one position alone is no walk
pinched_is : is_walk (at 0 0 ∷ at 4 0 ∷ at 2 2 ∷ at 4 4 ∷ at 0 4 ∷ at 2 2 ∷ []) ≡ true
pinched_is = refl

two_are : is_walk (at 4 0 ∷ at 0 0 ∷ []) ≡ true
two_are = refl

one_is_none : is_walk (at 1 1 ∷ []) ≡ false
one_is_none = refl

last_is_first : is_walk (at 0 0 ∷ at 4 0 ∷ at 4 4 ∷ at 0 0 ∷ []) ≡ false
last_is_first = refl

-- a ring, wherever it begins, has three positions and none twice
begun_anywhere : is_simple (at 4 0 ∷ at 4 4 ∷ at 0 0 ∷ []) ≡ true
begun_anywhere = refl

pinched_is_not : is_simple (at 0 0 ∷ at 4 0 ∷ at 2 2 ∷ at 4 4 ∷ at 0 4 ∷ at 2 2 ∷ []) ≡ false
pinched_is_not = refl

two_are_not : is_simple (at 4 0 ∷ at 0 0 ∷ []) ≡ false
two_are_not = refl

-- an arc that stays in one place
still_walk : IsWalk ((at 1 1 ∷ at 1 1 ∷ []) ∷ []) []
unfolding meet_from ends squeezed all_of walk_of
still_walk = walk_meant here _ _ refl

-- one that does not come back
no_way_back : (walk : List Position) → ¬ IsWalk ((at 4 0 ∷ at 4 4 ∷ at 0 0 ∷ []) ∷ []) walk
unfolding meet_from ends squeezed all_of walk_of
no_way_back walk w = by (walk_read here ((at 4 0 ∷ at 4 4 ∷ at 0 0 ∷ []) ∷ []) walk w)
  where
    by : Err (arcs_do_not_meet here) ≡ Ok walk → ⊥
    by e = absurd cc

-- ---- whole texts

-- a list is no topology, whatever stands in it
no_list : (d : Document) → ¬ Reads (codes " [1] ") d
no_list d r =
    let same : kind_of (root_of (codes " [1] ")).bytes ≡ kind_of r.root.bytes = ap (λ n. kind_of n.bytes) (sym (padded_root r.json)) in
    let no = same ∙ object_kind r.topology.of_root.object in
    absurd cc
