use Rattle.kit_words.proofs.Common.{sym, ◌∙◌, ◌-◌}
use Rattle.segment_sets.proofs.Homes.{gathers-apart, gathers-unheld}
use Rattle.segment_sets.proofs.strip.Strip.gather.Goals as goal

pub returns-else-meets : goal.returns-else-meets
returns-else-meets g c =
    let cells = c.self.inside.buckets.items in
    let lies = rw c.in-Some.is at c.self.invariant in
    rw (← c.self.view_is) (gathers-apart c.in-Some.bounds cells c.args.rect.now c.args.low (c.args.high - c.args.low) c.args.out.now.items lies (sym c.meets.ensures ∙ c.if-meets.false))

pub returns-in-None : goal.returns-in-None
returns-in-None g c =
    let cells = c.self.inside.buckets.items in
    let lies = rw c.in-None.is at c.self.invariant in
    rw (← c.self.view_is) (gathers-unheld cells c.args.rect.now c.args.low (c.args.high - c.args.low) c.args.out.now.items lies)
