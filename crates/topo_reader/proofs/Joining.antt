-- Joining arcs, as the loops do.
use Rattle.kit_words.proofs.Common.{◌≡◌, ℕ, ◌+◌, ◌<◌, ◌≤◌, List, [], ◌∷◌, ◌++◌, length, get_or, drop, refl, sym, ap}
use Rattle.kit_words.proofs.Common.{◌∙◌, append_assoc, add-one, drop-cons, map, true, cond, Option, Some, None, ◌&&◌}
use Rattle.kit_words.proofs.Common.{append-nil, drop_all, Bool, false, Ok, Err, ◌-◌, take, dedup, dedup_from, dedup_is}
use Rattle.kit_words.proofs.Common.{IsFiltered, DiffersFromLast}
use Rattle.grid_geometry.specs.Common.{Position, position_eq}
use Rattle.ring_machine.specs.Common.{has}
use Rattle.ring_machine.proofs.Common.{position_eq-sym, position_eq-true}
use Rattle.topo_outline.specs.declared.fault.RingAt.{RingAt}
use Rattle.topo_outline.specs.Common.{arcs_do_not_meet}
use Rattle.topo_outline.proofs.Common.{tail_at}
use Rattle.topo_reader.specs.Common.{Closed, Rings, Walks, closed_of, meet, ring_of, simple, walk_of}
use Rattle.topo_reader.specs.Common.{Arc, Use, arc_of, first_of, last_of, starts_at, unless, ends, meet_from}
use Rattle.topo_reader.specs.Common.{squeezed, all_of, front, joined, first_repeat}

pub meet_step : (before : Option Position) (uses : List Use) (i : ℕ) (d : Use) → i < length uses → meet_from before (map arc_of (drop i uses)) ≡ (starts_at (first_of (arc_of (get_or uses i d))) before && meet_from (last_of (arc_of (get_or uses i d))) (map arc_of (drop (i + 1) uses)))
unfolding meet_from
meet_step before uses i d lt = rw (drop-cons uses i d lt, add-one i) refl

pub meet_end : (before : Option Position) (uses : List Use) (i : ℕ) → length uses ≤ i → meet_from before (map arc_of (drop i uses)) ≡ true
unfolding meet_from
meet_end before uses i le = rw (drop_all i uses le) refl

pub repeat_step : (seen ps : List Position) (i : ℕ) (d : Position) → i < length ps → first_repeat seen (drop i ps) ≡ cond (has seen (get_or ps i d)) (Some (get_or ps i d)) (first_repeat (seen ++ get_or ps i d ∷ []) (drop (i + 1) ps))
unfolding first_repeat
repeat_step seen ps i d lt = rw (drop-cons ps i d lt, add-one i) refl

pub repeat_end : (seen ps : List Position) (i : ℕ) → length ps ≤ i → first_repeat seen (drop i ps) ≡ None
unfolding first_repeat
repeat_end seen ps i le = rw (drop_all i ps le) refl

-- ---- what `dedup` leaves

one_kept : (b : Bool) (k p : Position) (rest : Option Position → List Position) → (b ≡ true → k ≡ p) → cond b (k ∷ rest (Some k)) (k ∷ p ∷ rest (Some p)) ≡ k ∷ (unless b p ++ rest (Some p))
one_kept true k p rest same = ap (λ (q : Position). k ∷ rest (Some q)) (same refl)
one_kept false k p rest same = refl

kept_from : (k : Position) (ps : List Position) → dedup_from position_eq k ps ≡ k ∷ squeezed (Some k) ps
unfolding squeezed
kept_from k [] = refl
kept_from k (p ∷ ps) = rw (position_eq-sym p k, kept_from k ps, kept_from p ps) (one_kept (position_eq k p) k p (λ before. squeezed before ps) (position_eq-true k p))

kept : (ps : List Position) → dedup position_eq ps ≡ squeezed None ps
unfolding squeezed
kept [] = refl
kept (p ∷ ps) = kept_from p ps

pub joined_is : (all once left : List Position) (uses : List Arc) (n : ℕ) → n ≡ length once → all ≡ all_of uses → IsFiltered (DiffersFromLast position_eq) [] all once → left ≡ take (n - 1) once → left ≡ joined uses
joined_is all once left uses n len is filtered rest = rest ∙ ap (λ (m : ℕ). take (m - 1) once) len ∙ ap front (dedup_is position_eq all once filtered ∙ kept all ∙ ap (squeezed None) is)

-- ---- all positions

pub all_turn : (uses : List Use) (i : ℕ) (u : Use) → i < length uses → u ≡ get_or uses i u →
    all_of (map arc_of (drop i uses)) ≡ arc_of u ++ all_of (map arc_of (drop (i + 1) uses))
unfolding all_of
all_turn uses i u lt is = ap (λ (us : List Use). all_of (map arc_of us)) (tail_at u uses i lt is)

pub all_end : (uses : List Use) (i : ℕ) → length uses ≤ i → all_of (map arc_of (drop i uses)) ≡ []
unfolding all_of
all_end uses i le = rw (drop_all i uses le) refl

pub ends_step : (before : Option Position) (uses : List Use) (i : ℕ) (d : Use) → i < length uses → ends before (map arc_of (drop i uses)) ≡ ends (last_of (arc_of (get_or uses i d))) (map arc_of (drop (i + 1) uses))
unfolding ends
ends_step before uses i d lt = rw (drop-cons uses i d lt, add-one i) refl

pub ends_end : (before : Option Position) (uses : List Use) (i : ℕ) → length uses ≤ i → ends before (map arc_of (drop i uses)) ≡ before
unfolding ends
ends_end before uses i le = rw (drop_all i uses le) refl

pub more_front : (ring a b s whole : List Position) → s ≡ a ++ b → ring ++ s ≡ whole → (ring ++ a) ++ b ≡ whole
more_front ring a b s whole e h = append_assoc ring a b ∙ rw e at h

pub no_more : (ring s whole : List Position) → s ≡ [] → ring ++ s ≡ whole → ring ≡ whole
no_more ring s whole e h = sym (append-nil ring) ∙ rw e at h

-- ---- a walk, and a ring

pub not_closed : (closed : Closed) (at_ring : RingAt) (uses : List Arc) → meet uses ≡ false → closed_of closed at_ring uses ≡ Err (arcs_do_not_meet at_ring)
unfolding walk_of ring_of
not_closed Rings at_ring uses apart = rw apart refl
not_closed Walks at_ring uses apart = rw apart refl

pub as_walk : (closed : Closed) (at_ring : RingAt) (uses : List Arc) (walk : List Position) → closed ≡ Walks → meet uses ≡ true → walk ≡ joined uses → closed_of closed at_ring uses ≡ Ok walk
unfolding walk_of
as_walk closed at_ring uses walk wanted met is = rw (wanted, met, is) refl

pub as_ring : (closed : Closed) (at_ring : RingAt) (uses : List Arc) (walk : List Position) → closed ≡ Rings → meet uses ≡ true → walk ≡ joined uses → closed_of closed at_ring uses ≡ simple at_ring walk
unfolding walk_of ring_of
as_ring closed at_ring uses walk wanted met is = rw (wanted, met, is) refl
