use Rattle.kit_words.proofs.Common.{◌≡◌, ◌∙◌, sym, refl, get_or_default}
use Rattle.segment_sets.specs.Common.{column, lines_in}
use Rattle.segment_sets.proofs.Homes.{lost-at_home, lost-past_home, lost-elsewhere}
use Rattle.segment_sets.proofs.directory.Directory.take_out.Goals as goal

pub returns-then-not-take_out : goal.returns-then-not-take_out
returns-then-not-take_out g c =
    let columns = c.self.inside.strips.items in
    let some = rw c.rect.ensures at c.in-Some.ensures.some in
    let read : c.index_mut.result.now ≡ column columns c.in-Some.strip = c.index_mut.ensures.value ∙ get_or_default columns c.in-Some.strip _ _ some.1 in
    let found = rw read at c.take_out.ensures.found in
    rw (← c.self.view_is) (lost-past_home (lines_in c.self.inside.region) columns c.in-Some.strip c.in-Some.place c.take_out.new.self c.self.inside.rest c.take_out-then-not-take_out.new.self c.args.entry.now c.self.invariant some.0 some.1 some.2 (sym found ∙ c.if-not-take_out.true) (rw read at c.take_out.ensures.lost) c.take_out-then-not-take_out.ensures.lost)

pub returns-else-not-take_out : goal.returns-else-not-take_out
returns-else-not-take_out g c =
    let columns = c.self.inside.strips.items in
    let some = rw c.rect.ensures at c.in-Some.ensures.some in
    let read : c.index_mut.result.now ≡ column columns c.in-Some.strip = c.index_mut.ensures.value ∙ get_or_default columns c.in-Some.strip _ _ some.1 in
    let found = rw read at c.take_out.ensures.found in
    rw (← c.self.view_is) (lost-at_home columns c.in-Some.strip c.in-Some.place c.take_out.new.self c.self.inside.rest c.args.entry.now some.1 some.2 (sym found ∙ c.if-not-take_out.false) (rw read at c.take_out.ensures.lost))

pub returns-in-None : goal.returns-in-None
returns-in-None g c =
    let columns = c.self.inside.strips.items in
    let out = rw c.rect.ensures at (c.in-None.ensures.none refl) in
    rw (← c.self.view_is) (lost-elsewhere (lines_in c.self.inside.region) columns c.self.inside.rest c.take_out-in-None.new.self c.args.entry.now c.self.invariant out c.take_out-in-None.ensures.lost)
