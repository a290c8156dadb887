-- Of segments of which no two conflict, fewer do not conflict either.
use Rattle.kit_words.proofs.Common.{◌≡◌, refl, subst, List, Option, None, Some}
use Rattle.grid_geometry.specs.Common.{Segment, segment_lt, conflict}
use Rattle.grid_geometry.proofs.Common.{conflict-comm}
use Rattle.ring_machine.specs.Common.{least_conflict, pair_lt}
use Rattle.ring_machine.proofs.First.{In, least_conflict_is}
use Rattle.ring_machine.proofs.Local.{Bad, IsLeast}

abbrev BadAmong : List Segment → Segment × Segment → Type 0
BadAmong ss u = Bad segment_lt conflict conflict-comm (λ s. In s ss) u

pub none_bad : (ss : List Segment) → least_conflict ss ≡ None → (u : Segment × Segment)
    → Bad segment_lt conflict conflict-comm (λ s. In s ss) u → ⊥
none_bad ss h = by (least_conflict ss) h (least_conflict_is ss)
  where
    by : (o : Option (Segment × Segment)) → o ≡ None → IsLeast pair_lt (λ u. BadAmong ss u) o
        → (u : Segment × Segment) → BadAmong ss u → ⊥
    by o e l = subst (IsLeast pair_lt (λ u. BadAmong ss u)) e l

pub fewer_apart : (ss ts : List Segment) → ((t : Segment) → In t ts → In t ss)
    → least_conflict ss ≡ None → least_conflict ts ≡ None
fewer_apart ss ts among h = by (least_conflict ts) (least_conflict_is ts)
  where
    by : (o : Option (Segment × Segment)) → IsLeast pair_lt (λ u. BadAmong ts u) o → o ≡ None
    by None l = refl
    by (Some u) l = absurd (none_bad ss h u (record { order = l.0.order; left = among u.0 l.0.left; right = among u.1 l.0.right; meet = l.0.meet }))
