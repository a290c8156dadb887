use Rattle.kit_words.proofs.Common.{sym, subst, ap, ◌∙◌, Some, Ok}
use Rattle.topo_reader.specs.Common.{document_of, IsOfWalks, view_raw}
use Rattle.segment_paths.specs.Common.{paths_seen}
use Rattle.walk_faults.specs.Common.{Found, features_seen}
use Rattle.mend_report.specs.Common.{under, IsRemade}
use Rattle.mend_report.specs.SeenView.{opened_of}
use Rattle.mend_report.specs.Remaking.{EndsMending}
use Rattle.mend_report.proofs.CopiedWalks.{walks_copied}
use Rattle.mend_report.proofs.PlaceLemmas.{remade_placed, placed_same}
use Rattle.mend_report.proofs.ReportLemmas.{told_as_asked}
use Rattle.mend_report.proofs.WholeLemmas.{answer_whole}
use Rattle.mend_report.proofs.MendEnds.{ends_mending}
use Rattle.mend_report.proofs.report.mend_map.Goals as goal

pub remake-requires-clause-walks : goal.remake-requires-clause-walks
remake-requires-clause-walks g c =
    subst (λ o. IsOfWalks o) (sym (c.with_transform-map.ensures ∙ ap (λ t. under t (view_raw c.in-Ok.seen.map)) c.text-transform.ensures)) c.in-Ok.ensures.of_walks

-- the walks that were kept are those of the map
pub remake-requires-clause-same : goal.remake-requires-clause-same
remake-requires-clause-same g c =
    ap features_seen c.as_slice.ensures.value ∙ walks_copied _ _ c.in_ok-walks.ensures.cases.0 ∙ ap (λ o. o.polygons) (sym c.with_transform-map.ensures)

pub put_places-requires : goal.put_places-requires
put_places-requires g c =
    subst (λ ps. Found ps c.in-Ok.seen.report.findings)
    (sym (ap features_seen c.as_slice-walks.ensures.value ∙ walks_copied _ _ c.in_ok-walks.ensures.cases.0)) c.in-Ok.ensures.found

pub returns-clause-whole : goal.returns-clause-whole
returns-clause-whole g c =
    answer_whole c.args.asked.grid c.args.bytes.now (opened_of c.in-Ok.seen) (Ok c.in-Ok-remake.value) c.in-Ok.ensures.opened
    (subst (λ o. IsRemade (document_of o) c.in-Ok-remake.value)
    (c.with_transform-map.ensures ∙ ap (λ t. under t (view_raw c.in-Ok.seen.map)) c.text-transform.ensures) c.in-Ok-remake.ensures.remade)

pub returns-clause-told : goal.returns-clause-told
returns-clause-told g c = (
  opened_of c.in-Ok.seen,
  c.in-Ok.seen.report.grid,
  c.in-Ok.ensures.opened,
  c.in-Ok.ensures.told,
  told_as_asked c.args.asked.most c.in-Ok.seen.report.dropped c.args.asked.dropped (opened_of c.in-Ok.seen) c.in-Ok.seen.report.grid c.in-Ok-remake.value _ _
      c.in-Ok.ensures.dropped (c.in-Ok.seen.report.findings, c.in-Ok.ensures.found, c.in_ok-push_mended.ensures),
)

pub returns-clause-placed : goal.returns-clause-placed
returns-clause-placed g c =
    let o = opened_of c.in-Ok.seen in
    let found = c.in-Ok.seen.report.findings in (
      o,
      c.in-Ok.ensures.opened,
      remade_placed o found c.in-Ok-remake.value c.put_places.new.places c.in-Ok.ensures.found
          (placed_same o found _ _ _ _ c.put_places.new.places c.text-transform.ensures
          (ap features_seen c.as_slice-walks.ensures.value ∙ walks_copied _ _ c.in_ok-walks.ensures.cases.0)
          (ap (λ ps. Some (paths_seen ps)) c.as_slice-2.ensures.value) c.in_ok-put_places.ensures.placed),
    )

-- the fault of the map that was read is one of the bytes
pub returns-in-Err-remake-clause-refused : goal.returns-in-Err-remake-clause-refused
returns-in-Err-remake-clause-refused g c =
    ends_mending c.in-Err-remake.fault c.args.asked.grid c.args.bytes.now (opened_of c.in-Ok.seen) c.in-Ok.ensures.opened c.in-Ok.ensures.reads
    (subst (λ o. EndsMending c.in-Err-remake.fault o)
    (c.with_transform-map.ensures ∙ ap (λ t. under t (view_raw c.in-Ok.seen.map)) c.text-transform.ensures) c.in-Err-remake.ensures.refused)
