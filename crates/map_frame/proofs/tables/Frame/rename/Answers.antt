use Rattle.kit_words.proofs.Common.{◌<◌, ◌≤◌, refl, sym, ap, ◌∙◌, length, arith, with_item, ℕ, Option}
use Rattle.edit_records.specs.Common.{with_id}
use Rattle.ring_machine.specs.Common.{Text, feature}
use Rattle.map_frame.specs.Common.{Framed, id_or, live}
use Rattle.map_frame.proofs.EditedStands.{entry_is}
use Rattle.map_frame.proofs.PlacedFrames.{id_none, id_seen, live_is}
use Rattle.map_frame.proofs.ReadFeatures.{live_past}
use Rattle.map_frame.proofs.ReadLists.{got}
use Rattle.map_frame.proofs.RenamedTables.{renamed_doc, renamed_kept, renamed_none}
use Rattle.map_frame.proofs.SlotsSet.{absent_past}
use Rattle.map_frame.proofs.tables.Frame.rename.Goals as goal

-- the frame in which the feature has this id
abbrev renamed : ℕ → Option Text → Framed → Framed
renamed n id f = record f { doc = with_id f.doc n id }

pub index_mut-requires : goal.index_mut-requires
index_mut-requires g c = omega (arith, c.if-at-len.true, c.len.ensures)

pub invariant_of-self : goal.invariant_of-self
invariant_of-self g c =
    let t = c.self.inside.tables in
    let n = c.args.n in
    let was = c.index_mut.result.now in
    let new = with_item t.features n c.give_id.new.place in
    let within : n < length t.features.items = omega (arith, c.if-at-len.true, c.len.ensures, t.features.ok) in
    let here = got t.features.items t.features.items n refl was within c.index_mut.ensures.value in
    renamed_kept t c.self.invariant n c.args.id c.give_id.new.place was new refl within here c.give_id.ensures.given

pub returns-then-at-len : goal.returns-then-at-len
returns-then-at-len g c =
    let t = c.self.inside.tables in
    let n = c.args.n in
    let was = c.index_mut.result.now in
    let new = with_item t.features n c.give_id.new.place in
    let within : n < length t.features.items = omega (arith, c.if-at-len.true, c.len.ensures, t.features.ok) in
    let here = got t.features.items t.features.items n refl was within c.index_mut.ensures.value in
    let old = c.give_id.ensures.old ∙ ap (id_or c.args.id) (sym (live_is t.features.items n was here)) in
    let entry = sym (entry_is t c.self.invariant n) ∙ ap (λ (z : Framed). feature z.doc n) c.self.view_is in
    record {
      renamed = renamed_doc t c.self.invariant n c.args.id c.give_id.new.place was new refl within here c.give_id.ensures.given
          ∙ ap (renamed n c.args.id) c.self.view_is;
      old = λ f e. old ∙ id_seen n c.args.id (live t.features.items n) f (entry ∙ e);
      none = λ e. old ∙ id_none n c.args.id (live t.features.items n) (entry ∙ e);
    }

pub returns-else-at-len : goal.returns-else-at-len
returns-else-at-len g c =
    let t = c.self.inside.tables in
    let n = c.args.n in
    let past : length t.features.items ≤ n = omega (arith, c.if-at-len.false, c.len.ensures, t.features.ok) in
    let old = ap (id_or c.args.id) (sym (live_past t.features.items n past)) in
    let entry = sym (entry_is t c.self.invariant n) ∙ ap (λ (z : Framed). feature z.doc n) c.self.view_is in
    record {
      renamed = sym c.self.view_is ∙ renamed_none t c.self.invariant n c.args.id (absent_past t.features.items n past)
          ∙ ap (renamed n c.args.id) c.self.view_is;
      old = λ f e. old ∙ id_seen n c.args.id (live t.features.items n) f (entry ∙ e);
      none = λ e. old ∙ id_none n c.args.id (live t.features.items n) (entry ∙ e);
    }
