use Rattle.kit_words.proofs.Common.{List, ◌∙◌, ap, sym, subst, refl, list_any, All-same, All-nil}
use Rattle.grid_geometry.specs.Common.{Segment, segment_eq}
use Rattle.segment_index.specs.Common.{times_by}
use Rattle.segment_paths.specs.Common.{IsPathFault, IsStop, IsPair, AreWays}
use Rattle.segment_paths.proofs.Conflicting.{handed}
use Rattle.segment_paths.proofs.Gathering.{not_held}
use Rattle.segment_paths.proofs.round.play.Goals as goal

pub loop-link-init : goal.loop-link-init
loop-link-init g c = record {
  stops = λ ss h. All-same (IsStop ss) _ _ c.new.ensures.items (All-nil (IsStop ss));
  needed = λ links least. refl;
  conflict = λ ss h. tt;
}

pub loop-link-preserved : goal.loop-link-preserved
loop-link-preserved g c =
    let parted = c.in_ok-part_near.ensures c.loop-link.invariant in
    record {
      stops = λ ss h. c.in_ok-keep_few.ensures.stops ss (parted.stops ss h);
      needed = λ links least. c.in_ok-keep_few.ensures.conflict ∙ parted.needed links least;
      conflict = λ ss h. subst (IsPair ss c.args.ways.now) (sym c.in_ok-keep_few.ensures.conflict) (parted.conflict ss h);
    }

pub add-requires : goal.add-requires
add-requires g c =
    not_held (g.I.SegIndex.held c.loop-link.index) (times_by (g.I.SegIndex.cells c.loop-link.index)) c.rect.result c.clear.new.self.items c.candidates.new.out.items c.link-item.result
    c.clear.ensures.items c.rect.ensures c.in_ok-candidates.ensures
    (ap (λ z. list_any (λ y. segment_eq y c.link-item.result) z) (sym c.deref.ensures.value) ∙ sym c.contains.ensures.value ∙ c.if-not-contains.true)

pub returns-in_err-keep_few-clause-fault : goal.returns-in_err-keep_few-clause-fault
returns-in_err-keep_few-clause-fault g c =
    handed (λ fault. (ss : List Segment) → AreWays ss c.args.ways.now → IsPathFault ss c.args.most fault) c.in_err-keep_few.field-0.0 c.from_residual-in_err-keep_few.result
    c.from_residual-in_err-keep_few.ensures.1
    (λ ss h. c.in_err-keep_few.ensures.fault ss ((c.in_ok-part_near.ensures c.loop-link.invariant).stops ss h))
