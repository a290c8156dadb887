use Rattle.kit_words.proofs.Common.{sym, ap, ◌∙◌, map, arith}
use Rattle.grid_geometry.specs.Common.{links}
use Rattle.ring_machine.specs.Common.{is_distinct, segment_of}
use Rattle.ring_parts.specs.Common.{path_seen, rings_seen, outer_length}
use Rattle.feature_exchange.specs.Common.{stored, stored_document}
use Rattle.arc_store.proofs.FeaturesKept.{seen_small}
use Rattle.arc_store.proofs.Indexed.{indexed_apart}
use Rattle.arc_store.proofs.SplitPlan.{inner_length, split_few, outer_few}
use Rattle.arc_store.proofs.map.Map.test_cut.Goals as goal

pub way_segments-requires : goal.way_segments-requires
way_segments-requires g c = ap is_distinct (sym c.requires.along) ∙ c.requires.cuttable.different

pub has_room-room-requires-clause-many : goal.has_room-room-requires-clause-many
has_room-room-requires-clause-many g c = seen_small c.self.invariant c.self.view_is

pub has_room-room-requires-clause-short : goal.has_room-room-requires-clause-short
has_room-room-requires-clause-short g c =
    omega (arith, c.requires.short, inner_length (path_seen c.args.path.now) c.args.positions.now c.requires.along)

pub test_split-requires-clause-apart : goal.test_split-requires-clause-apart
test_split-requires-clause-apart g c =
    let m = c.self.inside in
    indexed_apart (stored_document (stored m.frame m.rings.borders m.rings.vertices)) m.rings.index.held c.self.invariant.holds.indexed c.self.invariant.holds.proper

pub test_split-requires-clause-short : goal.test_split-requires-clause-short
test_split-requires-clause-short g c =
    let p = path_seen c.args.path.now in
    omega (
      arith,
      ap (λ z. outer_length (rings_seen z)) c.as_slice-polygon.ensures.value,
      outer_few c.self.invariant c.self.view_is c.args.n p c.requires.cuttable c.args.found.now.place (rings_seen c.args.found.now.rings.items) c.requires.found.first,
      seen_small c.self.invariant c.self.view_is,
      c.requires.short,
      inner_length p c.args.positions.now c.requires.along,
    )

pub returns-in-Ok-clause-few : goal.returns-in-Ok-clause-few
returns-in-Ok-clause-few g c = λ id.
    split_few c.self.invariant c.self.view_is c.args.n (path_seen c.args.path.now) c.requires.cuttable id c.as_slice-added.result.now
    (c.as_slice-added.ensures.value ∙ c.in_ok-added.ensures ∙ ap (λ z. map segment_of (links z)) (sym c.requires.along)) c.test_split.new.tests c.test_split.ensures.few

pub returns-clause-few : goal.returns-clause-few
returns-clause-few g c = λ id.
    split_few c.self.invariant c.self.view_is c.args.n (path_seen c.args.path.now) c.requires.cuttable id c.as_slice-added.result.now
    (c.as_slice-added.ensures.value ∙ c.in_ok-added.ensures ∙ ap (λ z. map segment_of (links z)) (sym c.requires.along)) c.test_split.new.tests c.test_split.ensures.few
