use Rattle.kit_words.proofs.Common.{map, sym, ap, subst}
use Rattle.json_spans.specs.Common.{node, HasMembers, OnlyMembers, MembersAreValues, member_of}
use Rattle.json_spans.proofs.Itemized.{only_members}
use Rattle.json_spans.proofs.Grouped.{has_members, members_are_values}
use Rattle.json_spans.proofs.member.members.Goals as goal

pub returns-clause-grammar : goal.returns-clause-grammar
returns-clause-grammar c = let object = node c.args.span in subst (HasMembers object) (sym (ap (map member_of) c.parts.ensures)) (has_members object)

pub returns-clause-only : goal.returns-clause-only
returns-clause-only c = let object = node c.args.span in subst (OnlyMembers object) (sym (ap (map member_of) c.parts.ensures)) (only_members object)

pub returns-clause-deeper : goal.returns-clause-deeper
returns-clause-deeper c = let object = node c.args.span in subst (MembersAreValues object) (sym (ap (map member_of) c.parts.ensures)) (members_are_values object)
