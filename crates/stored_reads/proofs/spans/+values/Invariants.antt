use Rattle.std.proofs.Common.{◌+◌, ◌*◌}
use denote.Text.{Utf8}
use denote.Shadow.{shadow}
use Rattle.stored_reads.proofs.spans.+values.Given as goal

abbrev pub decreases-put_items : goal.decreases-put_items
decreases-put_items l = l.depth * 2 + 1

abbrev pub decreases-put_members : goal.decreases-put_members
decreases-put_members l = l.depth * 2 + 1

abbrev pub decreases-put_value : goal.decreases-put_value
decreases-put_value l = l.depth * 2

-- the text before an item or a member is text
abbrev pub invariant-put_items-loop-item : goal.invariant-put_items-loop-item
invariant-put_items-loop-item l =
    (goal.iterator-put_items-loop-item).can_next l.item-iterator ×
    (goal.iterator-put_items-loop-item).is_finite l.item-iterator ×
    shadow (Utf8 l.before)

abbrev pub invariant-put_members-loop-name : goal.invariant-put_members-loop-name
invariant-put_members-loop-name l =
    (goal.iterator-put_members-loop-name).can_next l.name-iterator ×
    (goal.iterator-put_members-loop-name).is_finite l.name-iterator ×
    shadow (Utf8 l.before)
