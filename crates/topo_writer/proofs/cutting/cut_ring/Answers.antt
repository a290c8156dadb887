use Rattle.kit_words.proofs.Common.{◌∙◌, ◌++◌, ap, sym, map, take, drop, arith}
use Rattle.topo_writer.specs.Common.{cut_between}
use Rattle.topo_writer.proofs.Marks.{round_marks, round_start}
use Rattle.topo_writer.proofs.Ways.{round_is}
use Rattle.topo_writer.proofs.cutting.cut_ring.Goals as goal

-- the way round is cut into the pieces of the ring
pub returns : goal.returns
returns g c junction h =
    let start = c.first_mark-start.result in
    let ring = c.args.ring.now in
    ap (λ z. cut_between z c.in_ok-cuts.cuts.items) (sym c.as_slice.ensures.value)
    ∙ c.in_ok-cuts.ensures.pieces junction (c.as_slice-2.ensures.value ∙ c.in_ok-marks.ensures
    ∙ ap (λ z. (drop start z ++ take start z) ++ take 1 (drop start z)) h ∙ round_marks junction ring start
    ∙ ap (map junction) (sym (c.as_slice.ensures.value ∙ c.in_ok-way.ensures)))
    ∙ round_is junction ring c.as_slice.result.now start (omega (arith, c.first_mark-start.ensures.within, c.requires)) (c.first_mark-start.ensures.begun junction ring h)
    (c.as_slice.ensures.value ∙ c.in_ok-way.ensures ∙ ap (λ z. (drop start ring ++ take start ring) ++ z) (round_start ring start (omega (arith, c.first_mark-start.ensures.within, c.requires))))
