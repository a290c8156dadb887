use Rattle.kit_words.proofs.Common.{◌≡◌, ◌+◌, ap, sym, ◌∙◌, subst, refl, take, false}
use Rattle.std.proofs.Common.{take_all}
use Rattle.slab.specs.Slab.{get}
use Rattle.arc_tables.specs.Common.{TakesOut, uses_in, store, store_of, Known}
use Rattle.arc_tables.proofs.TakeLemmas.{Dropped, none_dropped, dropped_more, takes_out_of, known_without}
use Rattle.arc_tables.proofs.tables.Tables.take_out.Given.{Over}
use Rattle.arc_tables.proofs.tables.Tables.take_out.Goals as goal

pub loop-u-preserved : goal.loop-u-preserved
loop-u-preserved g c =
    let us = c.as_slice-u-items.result.now in
    let is : us ≡ uses_in (get c.args.self.now.rings c.args.r) = c.as_slice-u-items.ensures.value ∙ ap uses_in (sym c.in-Some.is ∙ c.try_remove.ensures.value) in
    record {
      dropped = subst (λ z. Dropped c.args.r (take (c.loop-u.u-index + 1) z) c.args.self.now.arcs c.drop_use.new.self.arcs) is
          (dropped_more c.args.r _ us c.loop-u.u-index (record { arc = 0; back = false }) c.args.self.now.arcs c.loop-u.self.arcs c.drop_use.new.self.arcs c.loop-u-test.true refl
          (subst (λ z. Dropped c.args.r (take c.loop-u.u-index z) c.args.self.now.arcs c.loop-u.self.arcs) (sym is) c.loop-u.invariant.dropped)
          c.drop_use.ensures.stays c.drop_use.ensures.others c.drop_use.ensures.users c.drop_use.ensures.some);
      listed = c.drop_use.ensures.listed c.loop-u.invariant.listed;
      rings = c.drop_use.ensures.rings ∙ c.loop-u.invariant.rings;
    }

-- all uses of the ring were dropped
all : (g : Over) (c : goal.After-drop-ring g) → Dropped c.args.r (uses_in (get c.args.self.now.rings c.args.r)) c.args.self.now.arcs c.loop-u.self.arcs
all g c =
    let us = c.as_slice-u-items.result.now in
    let is : us ≡ uses_in (get c.args.self.now.rings c.args.r) = c.as_slice-u-items.ensures.value ∙ ap uses_in (sym c.in-Some.is ∙ c.try_remove.ensures.value) in
    subst (λ z. Dropped c.args.r z c.args.self.now.arcs c.loop-u.self.arcs) (ap (take c.loop-u.u-index) (sym is) ∙ take_all c.loop-u.u-index us c.loop-u-test.false ∙ is) c.loop-u.invariant.dropped

pub returns-after-loop-u-clause-gone : goal.returns-after-loop-u-clause-gone
returns-after-loop-u-clause-gone g c = subst (λ z. TakesOut c.args.r (store c.args.self.now) (store_of c.loop-u.self.arcs z)) (sym c.loop-u.invariant.rings)
    (takes_out_of c.args.self.now.arcs c.loop-u.self.arcs c.args.self.now.rings c.try_remove.new.self c.args.r c.requires.known c.try_remove.ensures.updates.changed c.try_remove.ensures.updates.others (all g c))

pub returns-after-loop-u-clause-whole : goal.returns-after-loop-u-clause-whole
returns-after-loop-u-clause-whole g c = record {
  known = subst (λ z. Known c.loop-u.self.arcs z) (sym c.loop-u.invariant.rings)
      (known_without c.args.self.now.arcs c.loop-u.self.arcs c.args.self.now.rings c.try_remove.new.self c.args.r c.requires.known c.try_remove.ensures.updates.changed c.try_remove.ensures.updates.others (all g c));
  listed = c.loop-u.invariant.listed;
}

pub returns-in_default-clause-gone : goal.returns-in_default-clause-gone
returns-in_default-clause-gone g c = takes_out_of c.args.self.now.arcs c.args.self.now.arcs c.args.self.now.rings c.try_remove.new.self c.args.r c.requires.known c.try_remove.ensures.updates.changed c.try_remove.ensures.updates.others
    (subst (λ o. Dropped c.args.r (uses_in o) c.args.self.now.arcs c.args.self.now.arcs) (sym c.in_default.is ∙ c.try_remove.ensures.value) (none_dropped c.args.r c.args.self.now.arcs c.requires.known.some))
