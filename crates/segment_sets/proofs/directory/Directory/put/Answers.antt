use Rattle.kit_words.proofs.Common.{◌≡◌, ◌∙◌, get_or_default, on_ok_weaker, on_err_weaker}
use Rattle.segment_sets.specs.Common.{column, every, lines_in}
use Rattle.segment_sets.proofs.Branches.{gains-right, same-right}
use Rattle.segment_sets.proofs.Homes.{home-put, gained-at_home, same-at_home}
use Rattle.segment_sets.proofs.directory.Directory.put.Goals as goal

pub invariant_of-self : goal.invariant_of-self
invariant_of-self g c =
    let columns = c.self.inside.strips.items in
    let some = rw c.rect.ensures at c.in-Some.ensures.some in
    let read : c.index_mut.result.now ≡ column columns c.in-Some.strip = c.index_mut.ensures.value ∙ get_or_default columns c.in-Some.strip _ _ some.1 in
    home-put c.put.result (lines_in c.self.inside.region) columns c.in-Some.strip c.in-Some.place c.put.new.self c.args.entry.now some.1 some.2 some.0 c.self.invariant (rw read at c.put.ensures.put) (rw read at c.put.ensures.unchanged)

pub returns-in-Some-clause-put : goal.returns-in-Some-clause-put
returns-in-Some-clause-put g c =
    let columns = c.self.inside.strips.items in
    let some = rw c.rect.ensures at c.in-Some.ensures.some in
    let read : c.index_mut.result.now ≡ column columns c.in-Some.strip = c.index_mut.ensures.value ∙ get_or_default columns c.in-Some.strip _ _ some.1 in
    rw (← c.self.view_is) (gained-at_home c.put.result columns c.in-Some.strip c.in-Some.place c.put.new.self c.self.inside.rest c.args.entry.now some.1 some.2 (rw read at c.put.ensures.put))

pub returns-in-Some-clause-unchanged : goal.returns-in-Some-clause-unchanged
returns-in-Some-clause-unchanged g c =
    let columns = c.self.inside.strips.items in
    let some = rw c.rect.ensures at c.in-Some.ensures.some in
    let read : c.index_mut.result.now ≡ column columns c.in-Some.strip = c.index_mut.ensures.value ∙ get_or_default columns c.in-Some.strip _ _ some.1 in
    rw (← c.self.view_is) (same-at_home c.put.result columns c.in-Some.strip c.in-Some.place c.put.new.self c.self.inside.rest some.1 some.2 (rw read at c.put.ensures.unchanged))

pub returns-in-None-clause-put : goal.returns-in-None-clause-put
returns-in-None-clause-put g c =
    rw (← c.self.view_is) (on_ok_weaker c.put-in-None.result (gains-right c.args.entry.now (every c.self.inside.strips.items) c.self.inside.rest c.put-in-None.new.self) c.put-in-None.ensures.put)

pub returns-in-None-clause-unchanged : goal.returns-in-None-clause-unchanged
returns-in-None-clause-unchanged g c =
    rw (← c.self.view_is) (on_err_weaker c.put-in-None.result (same-right (every c.self.inside.strips.items) c.self.inside.rest c.put-in-None.new.self) c.put-in-None.ensures.unchanged)
