use Rattle.kit_words.proofs.Common.{◌≡◌, ◌∙◌, ◌&&◌, ◌||◌, ap, Bool, false, List, not, sym, list_any_at, list_any_more}
use Rattle.kit_words.proofs.Common.{or_right}
use Rattle.grid_geometry.specs.Common.{is_held, Position, Segment}
use Rattle.ring_machine.specs.Ring as machine
use Rattle.local_planarity.specs.Spans.{lies_in}
use Rattle.local_planarity.proofs.Spans.{none_held}
use Rattle.local_planarity.proofs.sweeps.holds_end.Goals as goal
use Rattle.local_planarity.proofs.sweeps.holds_end.Goals.{else-lies_in-via-then-lies_in+else-is_other_held, else-lies_in-via-else-lies_in}
use Rattle.local_planarity.proofs.sweeps.holds_end.Goals.{else-lies_in-2-via-then-lies_in-2+else-is_other_held-2, else-lies_in-2-via-else-lies_in-2}

abbrev is_met : List Position → Position → Position → Position → Position → Bool
is_met these a b c w = not (machine.has these w) && is_held w a b c

abbrev has_met : List Position → Position → Position → Position → Segment → Bool
has_met these a b c t = is_met these a b c t.lo || is_met these a b c t.hi

-- an end that does not lie in the box of the triangle is not held
pub loop-t-preserved : goal.loop-t-preserved
loop-t-preserved c =
    let these = c.args.these.now in
    let t : Segment = record { lo = c.t.inside.lo; hi = c.t.inside.hi } in
    let met = has_met these c.args.a c.args.b c.args.c in
    let lesser : is_met these c.args.a c.args.b c.args.c t.lo ≡ false = elim c.else-lies_in.branch [
      | else-lies_in-via-then-lies_in+else-is_other_held w ↦ sym w.is_other_held.ensures ∙ w.if-is_other_held.false
      | else-lies_in-via-else-lies_in w ↦ none_held these t.lo c.args.a c.args.b c.args.c (ap (lies_in t.lo) (sym c.box_of_three-rect.ensures) ∙ sym c.lies_in.ensures ∙ w.if-lies_in.false)
    ] in
    let greater : is_met these c.args.a c.args.b c.args.c t.hi ≡ false = elim c.else-lies_in-2.branch [
      | else-lies_in-2-via-then-lies_in-2+else-is_other_held-2 w ↦ sym w.is_other_held-then-lies_in-2.ensures ∙ w.if-is_other_held-2.false
      | else-lies_in-2-via-else-lies_in-2 w ↦ none_held these t.hi c.args.a c.args.b c.args.c (ap (lies_in t.hi) (sym c.box_of_three-rect.ensures) ∙ sym c.lies_in-in-loop-t.ensures ∙ w.if-lies_in-2.false)
    ] in
    let none : met t ≡ false = λ i. lesser i || greater i in
    list_any_more met c.args.segments.now c.loop-t.t-index c.t-item.result c.loop-t-test.true
    ∙ (λ i. c.loop-t.invariant i || (ap met (sym c.t-item.is ∙ sym c.t.view_is) ∙ none) i)

pub returns-then-is_other_held-2 : goal.returns-then-is_other_held-2
returns-then-is_other_held-2 c =
    let these = c.args.these.now in
    let t : Segment = record { lo = c.t.inside.lo; hi = c.t.inside.hi } in
    let met = has_met these c.args.a c.args.b c.args.c in
    let greater = sym c.is_other_held-then-lies_in-2.ensures ∙ c.if-is_other_held-2.true in
    sym (list_any_at met c.args.segments.now c.loop-t.t-index c.t-item.result c.loop-t-test.true
    (ap met (sym c.t-item.is ∙ sym c.t.view_is) ∙ or_right (is_met these c.args.a c.args.b c.args.c t.lo) (is_met these c.args.a c.args.b c.args.c t.hi) greater))
