use Rattle.kit_words.proofs.Common.{map, sym, ap, subst}
use Rattle.json_spans.specs.Common.{node, HasItems, OnlyItems, ItemsAreValues, trimmed}
use Rattle.json_spans.proofs.Itemized.{only_items}
use Rattle.json_spans.proofs.Grouped.{has_items, items_are_values}
use Rattle.json_spans.proofs.member.items.Goals as goal

pub returns-clause-grammar : goal.returns-clause-grammar
returns-clause-grammar c = let list = node c.args.span in subst (HasItems list) (sym (ap (map trimmed) c.parts.ensures)) (has_items list)

pub returns-clause-only : goal.returns-clause-only
returns-clause-only c = let list = node c.args.span in subst (OnlyItems list) (sym (ap (map trimmed) c.parts.ensures)) (only_items list)

pub returns-clause-deeper : goal.returns-clause-deeper
returns-clause-deeper c = let list = node c.args.span in subst (ItemsAreValues list) (sym (ap (map trimmed) c.parts.ensures)) (items_are_values list)
