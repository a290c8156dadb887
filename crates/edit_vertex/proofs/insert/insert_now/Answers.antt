use Rattle.kit_words.proofs.Common.{◌≡◌, ◌-◌, ◌<◌, ◌≤◌, true, refl, sym, ap, ◌∙◌, length, arith, IfErr-weaker}
use Rattle.grid_geometry.specs.Common.{segment}
use Rattle.ring_machine.specs.Common.{size, is_segment, first_of, insert_refusals}
use Rattle.arc_store.specs.Common.{Refuses, users}
use Rattle.arc_store.proofs.Common.{is_refused}
use Rattle.edit_vertex.specs.Common.{needs_no_pairs}
use Rattle.edit_vertex.proofs.Late.{not_early}
use Rattle.edit_vertex.proofs.Inserting.{used_times, used_border, unused_border, no_loop, size_fits}
use Rattle.edit_vertex.proofs.Inserting.{insert_no_segment, insert_occupied, insert_too_large, insert_late}
use Rattle.edit_vertex.proofs.insert.insert_now.Goals as goal

pub returns-in_default-clause-edits : goal.returns-in_default-clause-edits
returns-in_default-clause-edits g c =
    let same = c.in_default.ensures.none.0 refl in
    is_refused (insert_no_segment c.args.map.now.doc c.args.a c.args.b c.args.q (ap (λ z. is_segment c.args.map.now.doc (segment c.args.a z)) (sym same) ∙ no_loop c.args.map.now.doc c.args.a c.requires.proper)) refl

pub returns-then-rings-eq0-clause-edits : goal.returns-then-rings-eq0-clause-edits
returns-then-rings-eq0-clause-edits g c =
    let used = used_times c.args.map.now.doc (segment c.args.a c.args.b) c.in-Some.s c.uses-rings.result c.in-Some.ensures.some c.uses-rings.ensures in
    is_refused (insert_no_segment c.args.map.now.doc c.args.a c.args.b c.args.q (unused_border c.args.map.now.doc (segment c.args.a c.args.b) c.uses-rings.result used c.if-rings-eq0.true)) refl

pub returns-then-has_vertex-clause-edits : goal.returns-then-has_vertex-clause-edits
returns-then-has_vertex-clause-edits g c =
    let used = used_times c.args.map.now.doc (segment c.args.a c.args.b) c.in-Some.s c.uses-rings.result c.in-Some.ensures.some c.uses-rings.ensures in
    is_refused (insert_occupied c.args.map.now.doc c.args.a c.args.b c.args.q (used_border c.args.map.now.doc (segment c.args.a c.args.b) c.uses-rings.result used c.if-rings-eq0.false) (sym c.has_vertex.ensures ∙ c.if-has_vertex.true)) refl

pub returns-then-saturating_sub-rings-clause-edits : goal.returns-then-saturating_sub-rings-clause-edits
returns-then-saturating_sub-rings-clause-edits g c =
    let used = used_times c.args.map.now.doc (segment c.args.a c.args.b) c.in-Some.s c.uses-rings.result c.in-Some.ensures.some c.uses-rings.ensures in
    let over : 4000000 - size c.args.map.now.doc < length (users c.args.map.now.doc (segment c.args.a c.args.b)) = omega (arith, used, c.saturating_sub.ensures, c.position_count.ensures, c.if-saturating_sub-rings.true) in
    is_refused (insert_too_large c.args.map.now.doc c.args.a c.args.b c.args.q c.requires.proper (used_border c.args.map.now.doc (segment c.args.a c.args.b) c.uses-rings.result used c.if-rings-eq0.false) (sym c.has_vertex.ensures ∙ c.if-has_vertex.false) over) refl

pub raw_insert-requires-clause-segment : goal.raw_insert-requires-clause-segment
raw_insert-requires-clause-segment g c =
    let used = used_times c.args.map.now.doc (segment c.args.a c.args.b) c.in-Some.s c.uses-rings.result c.in-Some.ensures.some c.uses-rings.ensures in
    used_border c.args.map.now.doc (segment c.args.a c.args.b) c.uses-rings.result used c.if-rings-eq0.false

pub raw_insert-requires-clause-small : goal.raw_insert-requires-clause-small
raw_insert-requires-clause-small g c =
    let used = used_times c.args.map.now.doc (segment c.args.a c.args.b) c.in-Some.s c.uses-rings.result c.in-Some.ensures.some c.uses-rings.ensures in
    let fits : length (users c.args.map.now.doc (segment c.args.a c.args.b)) ≤ 4000000 - size c.args.map.now.doc = omega (arith, used, c.saturating_sub.ensures, c.position_count.ensures, c.if-saturating_sub-rings.false) in
    let some : 0 < length (users c.args.map.now.doc (segment c.args.a c.args.b)) = omega (arith, used, c.if-rings-eq0.false) in
    size_fits c.args.map.now.doc c.args.a c.args.b c.args.q c.requires.proper fits some

pub returns-clause-untested : goal.returns-clause-untested
returns-clause-untested g c =
    let used = used_times c.args.map.now.doc (segment c.args.a c.args.b) c.in-Some.s c.uses-rings.result c.in-Some.ensures.some c.uses-rings.ensures in
    let fits : length (users c.args.map.now.doc (segment c.args.a c.args.b)) ≤ 4000000 - size c.args.map.now.doc = omega (arith, used, c.saturating_sub.ensures, c.position_count.ensures, c.if-saturating_sub-rings.false) in
    let some : 0 < length (users c.args.map.now.doc (segment c.args.a c.args.b)) = omega (arith, used, c.if-rings-eq0.false) in
    IfErr-weaker c.raw_insert.result (λ fault. Refuses fault (first_of (insert_refusals c.args.map.now.doc c.args.a c.args.b c.args.q))) (λ fault. needs_no_pairs fault ≡ true → c.raw_insert.new.self.tests ≡ c.args.map.now.tests)
    (λ fault r. not_early fault (insert_late c.args.map.now.doc c.args.a c.args.b c.args.q (used_border c.args.map.now.doc (segment c.args.a c.args.b) c.uses-rings.result used c.if-rings-eq0.false) (sym c.has_vertex.ensures ∙ c.if-has_vertex.false) (size_fits c.args.map.now.doc c.args.a c.args.b c.args.q c.requires.proper fits some) fault r))
    c.raw_insert.ensures.edits.refused
