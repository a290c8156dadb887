use Rattle.kit_words.proofs.Common.{◌∙◌, ◌∷◌, [], ap, map-append, arith}
use Rattle.ring_machine.proofs.Common.{contains_in}
use Rattle.layer_sides.specs.Common.{border_seen, borders_seen}
use Rattle.layer_sides.proofs.Grouping.{grouping-none, grouping-next, grouping-all}
use Rattle.layer_sides.proofs.borders.grouped.Goals as goal

pub loop-rest-init : goal.loop-rest-init
loop-rest-init g c = rw c.new-borders.ensures.items (grouping-none c.args.odd.now)

pub loop-rest-preserved : goal.loop-rest-preserved
loop-rest-preserved g c =
    let l = c.loop-rest in
    let b = c.in_ok-border_of.field-0 in
    (grouping-next c.args.odd.now l.rest.now c.split_at.result.0.now c.split_at.result.1.now (borders_seen l.borders.items) (borders_seen c.push.new.self.items)
    c.first-item.result (border_seen b) c.run_length.result c.requires l.invariant c.in-len1-up.len_at_least c.first-item.is
    c.run_length.ensures.within c.run_length.ensures.alike c.run_length.ensures.other c.split_at.ensures.front c.split_at.ensures.back
    c.in_ok-border_of.ensures (ap borders_seen c.in_ok-push.ensures.items ∙ map-append border_seen l.borders.items (b ∷ []))).0

pub loop-rest-smaller : goal.loop-rest-smaller
loop-rest-smaller g c =
    let l = c.loop-rest in
    let b = c.in_ok-border_of.field-0 in
    (grouping-next c.args.odd.now l.rest.now c.split_at.result.0.now c.split_at.result.1.now (borders_seen l.borders.items) (borders_seen c.push.new.self.items)
    c.first-item.result (border_seen b) c.run_length.result c.requires l.invariant c.in-len1-up.len_at_least c.first-item.is
    c.run_length.ensures.within c.run_length.ensures.alike c.run_length.ensures.other c.split_at.ensures.front c.split_at.ensures.back
    c.in_ok-border_of.ensures (ap borders_seen c.in_ok-push.ensures.items ∙ map-append border_seen l.borders.items (b ∷ []))).1

pub returns-clause-grouped : goal.returns-clause-grouped
returns-clause-grouped g c =
    grouping-all c.args.odd.now c.loop-rest.rest.now (borders_seen c.loop-rest.borders.items) (omega (arith, c.in_default.len_below)) c.loop-rest.invariant

pub returns-clause-empty : goal.returns-clause-empty
returns-clause-empty g c = λ b m. c.loop-rest.invariant.empty b (contains_in (borders_seen c.loop-rest.borders.items) b m)
