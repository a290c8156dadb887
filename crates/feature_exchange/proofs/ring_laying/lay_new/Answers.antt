use Rattle.kit_words.proofs.Common.{◌≡◌, sym, subst}
use Rattle.std.specs.FinMap as table
use Rattle.arc_tables.specs.Common.{edges}
use Rattle.ring_store.specs.Common.{IsRound}
use Rattle.ring_machine.proofs.Common.{ring_distinct}
use Rattle.feature_exchange.proofs.Exchanged.{keyed_with, holds_with, stands_with}
use Rattle.ring_store.proofs.Keys.{keys_round}
use Rattle.feature_exchange.proofs.ring_laying.lay_new.Goals as goal

pub key_ring-requires-clause-different : goal.key_ring-requires-clause-different
key_ring-requires-clause-different g c = ring_distinct c.args.ring.now c.requires.ring

pub returns-in_err-key_ring-clause-holds : goal.returns-in_err-key_ring-clause-holds
returns-in_err-key_ring-clause-holds g c =
    holds_with c.args.vertices.now c.args.borders.now (g.I.SegIndex.held c.args.index.now) c.requires.stands c.key_ring.new.keys.items c.key_ring.new.vertices c.key_ring.ensures.put c.key_ring.ensures.distinct

pub lay_along-requires-clause-keyed : goal.lay_along-requires-clause-keyed
lay_along-requires-clause-keyed g c =
    keyed_with c.args.vertices.now c.args.borders.now (g.I.SegIndex.held c.args.index.now) c.requires.stands c.key_ring.new.keys.items c.key_ring.new.vertices c.key_ring.ensures.put c.key_ring.ensures.distinct

pub lay_along-requires-clause-round : goal.lay_along-requires-clause-round
lay_along-requires-clause-round g c =
    subst (IsRound c.key_ring.new.vertices) (sym c.as_slice.ensures.value)
    (keys_round c.args.vertices.now c.key_ring.new.vertices c.key_ring.new.keys.items c.args.ring.now c.key_ring.ensures.put c.key_ring.ensures.different c.in_ok-key_ring.ensures.at c.requires.ring)

pub lay_along-requires-clause-holds : goal.lay_along-requires-clause-holds
lay_along-requires-clause-holds g c =
    holds_with c.args.vertices.now c.args.borders.now (g.I.SegIndex.held c.args.index.now) c.requires.stands c.key_ring.new.keys.items c.key_ring.new.vertices c.key_ring.ensures.put c.key_ring.ensures.distinct

pub returns-clause-ok : goal.returns-clause-ok
returns-clause-ok g c =
    subst (λ z. c.lay_along.new.borders ≡ table.insert c.args.borders.now c.in_ok-r.r (edges z)) c.as_slice.ensures.value c.in_ok-r.ensures.ok

pub returns-clause-stands : goal.returns-clause-stands
returns-clause-stands g c =
    stands_with c.args.vertices.now c.args.borders.now (g.I.SegIndex.held c.args.index.now) c.requires.stands c.key_ring.new.keys.items c.key_ring.new.vertices c.key_ring.ensures.put c.key_ring.ensures.distinct
    (keys_round c.args.vertices.now c.key_ring.new.vertices c.key_ring.new.keys.items c.args.ring.now c.key_ring.ensures.put c.key_ring.ensures.different c.in_ok-key_ring.ensures.at c.requires.ring)
    c.in_ok-r.r c.in_ok-r.ensures.free c.lay_along.new.borders
    (subst (λ z. c.lay_along.new.borders ≡ table.insert c.args.borders.now c.in_ok-r.r (edges z)) c.as_slice.ensures.value c.in_ok-r.ensures.ok)
    (g.I.SegIndex.held c.lay_along.new.index) c.lay_along.ensures.holds
