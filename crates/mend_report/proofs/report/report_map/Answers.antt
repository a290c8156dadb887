use Rattle.kit_words.proofs.Common.{refl, sym, subst, ap, Ok, None}
use Rattle.walk_faults.specs.Common.{Found, features_seen}
use Rattle.mend_report.specs.SeenView.{opened_of}
use Rattle.mend_report.proofs.OpeningLemmas.{answer_opens}
use Rattle.mend_report.proofs.PlaceLemmas.{placed_same, placed_at}
use Rattle.mend_report.proofs.WholeLemmas.{answer_editor}
use Rattle.mend_report.proofs.report.report_map.Goals as goal

-- the walks that are reported are those of the map
pub put_places-requires : goal.put_places-requires
put_places-requires g c = subst (λ ps. Found (features_seen ps) c.in-Ok.value.report.findings) (sym c.as_slice-walks.ensures.value) c.in-Ok.ensures.found

pub returns-clause-looked : goal.returns-clause-looked
returns-clause-looked g c = (opened_of c.in-Ok.value, c.in-Ok.ensures.opened, c.in-Ok.ensures.found)

pub returns-clause-opens : goal.returns-clause-opens
returns-clause-opens g c =
    answer_opens c.args.asked c.args.bytes.now (opened_of c.in-Ok.value) c.in-Ok.value.report.grid (Ok c.in-Ok.value.report)
    c.in-Ok.ensures.opened c.in-Ok.ensures.told c.in-Ok.ensures.found refl c.in-Ok.ensures.dropped

pub returns-clause-editor : goal.returns-clause-editor
returns-clause-editor g c =
    answer_editor c.args.asked c.args.bytes.now c.in-Ok.value.report.grid (Ok c.in-Ok.value.report) c.in-Ok.ensures.told
    (answer_opens c.args.asked c.args.bytes.now (opened_of c.in-Ok.value) c.in-Ok.value.report.grid (Ok c.in-Ok.value.report)
    c.in-Ok.ensures.opened c.in-Ok.ensures.told c.in-Ok.ensures.found refl c.in-Ok.ensures.dropped)

pub returns-clause-placed : goal.returns-clause-placed
returns-clause-placed g c =
    placed_at c.args.asked.grid c.args.bytes.now (opened_of c.in-Ok.value) c.in-Ok.value.report.findings None c.put_places.new.places c.in-Ok.ensures.opened
    (placed_same (opened_of c.in-Ok.value) c.in-Ok.value.report.findings _ _ None None c.put_places.new.places c.text-text.ensures
    (ap features_seen c.as_slice-walks.ensures.value) refl c.in_ok-put_places.ensures.placed)
