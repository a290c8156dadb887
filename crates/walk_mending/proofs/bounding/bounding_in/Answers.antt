use Rattle.kit_words.proofs.Common.{◌≡◌, ap, sym, ◌∙◌, IfOk-weaker}
use Rattle.grid_geometry.specs.Common.{Segment}
use Rattle.walk_mending.specs.Common.{is_among, is_bounding}
use Rattle.walk_mending.proofs.Bounds.{all_bound, odd_bound}
use Rattle.walk_mending.proofs.Cancelling.{is_odd, times}
use Rattle.ring_parts.specs.Common.{rings_seen}
use Rattle.walk_mending.proofs.bounding.bounding_in.Goals as goal

pub returns-then-branch : goal.returns-then-branch
returns-then-branch g c =
    all_bound (rings_seen c.args.walks.now) c.in_ok-segments.segments.items (sym c.in_ok-all_simple.ensures ∙ c.if-branch.true) c.in_ok-segments.ensures.same

pub returns-else-branch : goal.returns-else-branch
returns-else-branch g c =
    IfOk-weaker c.odd_among.result
    (λ kept. (s : Segment) → is_among kept.items s ≡ is_odd (times s c.as_slice.result.now))
    (λ kept. (s : Segment) → is_among kept.items s ≡ is_bounding (rings_seen c.args.walks.now) s)
    (λ kept odd. odd_bound (rings_seen c.args.walks.now) c.in_ok-segments.segments.items kept.items
    (sym c.in_ok-all_simple.ensures ∙ c.if-branch.false) c.in_ok-segments.ensures.same
    (λ s. odd s ∙ ap (λ z. is_odd (times s z)) c.as_slice.ensures.value))
    c.odd_among.ensures.odd
