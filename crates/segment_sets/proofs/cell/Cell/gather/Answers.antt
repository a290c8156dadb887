use Rattle.kit_words.proofs.Common.{is_ok}
use Rattle.segment_sets.proofs.Gathering.{gathers-cell, when_ok}
use Rattle.segment_sets.proofs.cell.Cell.gather.Goals as goal

pub returns : goal.returns
returns g c =
    let some = rw c.deref.ensures.value at c.append_meeting.ensures.some in
    let all = rw c.deref.ensures.value at c.append_meeting.ensures.all in
    rw (← c.self.view_is) (gathers-cell c.self.inside.items.items c.args.out.now.items c.append_meeting.new.out.items c.args.rect some.0 (is_ok c.append_meeting.result) some.1 (when_ok c.append_meeting.result all))
