use Rattle.kit_words.proofs.Common.{ap, ◌∙◌, length, All-same}
use Rattle.segment_paths.specs.Common.{IsPiece, IsLinkOf, paths_seen}
use Rattle.segment_paths.proofs.Gathering.{still_none}
use Rattle.segment_paths.proofs.Conflicting.{owners_conflict}
use Rattle.segment_paths.proofs.round.Round.part_links.Goals as goal

pub returns : goal.returns
returns g c was =
    let paths = paths_seen c.args.ways.now.paths.items in
    record {
      stops = λ ss h. c.in_ok-part_all.ensures ss paths (was.stops ss h)
          (All-same (IsPiece ss paths) _ _ c.as_slice-3.ensures.value (c.in_ok-ones.ensures.pieces ss h))
          (All-same (IsPiece ss paths) _ _ c.as_slice-4.ensures.value (c.in_ok-others.ensures.pieces ss h));
      needed = λ links least.
          still_none c.args.ways.now.segments.now c.args.one c.args.other (length c.in_ok-ones.ones.items) (length c.in_ok-others.others.items) _ _ least c.requires
          (λ some. c.in_ok-ones.ensures.whole links some) (λ some. c.in_ok-others.ensures.whole links some)
          (λ e. c.owners_of-self.ensures.one (ap length c.as_slice.ensures.value ∙ e)) (λ e. c.owners_of-self.ensures.other (ap length c.as_slice-2.ensures.value ∙ e))
          (was.needed links least);
      conflict = λ ss h.
          owners_conflict ss paths c.args.one c.args.other c.as_slice.result.now c.as_slice-2.result.now _ _ c.requires
          (All-same (IsPiece ss paths) _ _ c.as_slice.ensures.value (c.in_ok-ones.ensures.pieces ss h))
          (All-same (IsPiece ss paths) _ _ c.as_slice-2.ensures.value (c.in_ok-others.ensures.pieces ss h))
          (All-same (IsLinkOf c.args.one) _ _ c.as_slice.ensures.value c.in_ok-ones.ensures.same)
          (All-same (IsLinkOf c.args.other) _ _ c.as_slice-2.ensures.value c.in_ok-others.ensures.same)
          c.owners_of-self.ensures.owners (was.conflict ss h);
    }
