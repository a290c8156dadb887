use Rattle.kit_words.proofs.Common.{refl, ap}
use Rattle.arc_tables.proofs.Common.{on_ok_map}
use Rattle.edit_records.specs.Common.{back}
use Rattle.arc_store.specs.Common.{record_seen}
use Rattle.arc_store.proofs.RestorePlan.{movable_back, leavable_back, undoes_began, texts_began, map_began, restored}
use Rattle.arc_store.proofs.map.Map.restore.Goals as goal

pub move_back-requires : goal.move_back-requires
move_back-requires g c =
    let m = c.begin_edit.new.self in
    movable_back m.places m.next m.doc c.in-Moved.from c.in-Moved.to
    (undoes_began c.args.self.now c.begin_edit.ensures.begun (ap record_seen c.in-Moved.is) c.requires.undoes)

pub leave_out-requires : goal.leave_out-requires
leave_out-requires g c =
    let m = c.begin_edit.new.self in
    leavable_back m.places m.next m.doc c.in-Inserted.at
    (undoes_began c.args.self.now c.begin_edit.ensures.begun (ap record_seen c.in-Inserted.is) c.requires.undoes)

pub name_back-requires-clause-texts : goal.name_back-requires-clause-texts
unfolding back
name_back-requires-clause-texts g c =
    texts_began c.args.self.now c.begin_edit.ensures.begun (ap record_seen c.in-Renamed.is) refl c.requires.texts

pub name_back-requires-clause-map : goal.name_back-requires-clause-map
unfolding back
name_back-requires-clause-map g c =
    map_began c.args.self.now c.begin_edit.ensures.begun (ap record_seen c.in-Renamed.is) refl c.requires.undoes

pub exchange_back-requires-clause-texts : goal.exchange_back-requires-clause-texts
unfolding back
exchange_back-requires-clause-texts g c =
    texts_began c.args.self.now c.begin_edit.ensures.begun (ap record_seen c.in-Exchanged.is) refl c.requires.texts

pub returns-in-Moved-clause-restored : goal.returns-in-Moved-clause-restored
unfolding back
returns-in-Moved-clause-restored g c =
    on_ok_map c.move_back.result (restored c.args.self.now c.begin_edit.ensures.begun (ap record_seen c.in-Moved.is) refl) c.move_back.ensures.moved

pub returns-in-Inserted-clause-restored : goal.returns-in-Inserted-clause-restored
unfolding back
returns-in-Inserted-clause-restored g c =
    on_ok_map c.leave_out.result (restored c.args.self.now c.begin_edit.ensures.begun (ap record_seen c.in-Inserted.is) refl) c.leave_out.ensures.left

pub returns-in-Removed-clause-restored : goal.returns-in-Removed-clause-restored
unfolding back
returns-in-Removed-clause-restored g c =
    on_ok_map c.put_back.result (restored c.args.self.now c.begin_edit.ensures.begun (ap record_seen c.in-Removed.is) refl) c.put_back.ensures.put

pub returns-in-Thinned-clause-restored : goal.returns-in-Thinned-clause-restored
unfolding back
returns-in-Thinned-clause-restored g c =
    on_ok_map c.thin_back.result (restored c.args.self.now c.begin_edit.ensures.begun (ap record_seen c.in-Thinned.is) refl) c.thin_back.ensures.put

pub returns-in-Exchanged-clause-restored : goal.returns-in-Exchanged-clause-restored
unfolding back
returns-in-Exchanged-clause-restored g c =
    on_ok_map c.exchange_back.result (restored c.args.self.now c.begin_edit.ensures.begun (ap record_seen c.in-Exchanged.is) refl) c.exchange_back.ensures.exchanged

pub returns-in-Renamed-clause-restored : goal.returns-in-Renamed-clause-restored
unfolding back
returns-in-Renamed-clause-restored g c =
    restored c.args.self.now c.begin_edit.ensures.begun (ap record_seen c.in-Renamed.is) refl c.name_back.ensures
