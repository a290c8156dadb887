use Rattle.kit_words.proofs.Common.{◌-◌, length, arith, sym, ◌∙◌}
use Rattle.segment_paths.proofs.Led.{past_all, past_none}
use Rattle.segment_paths.proofs.ways.is_past.Goals as goal

pub returns-in-Some : goal.returns-in-Some
returns-in-Some g c less sorted =
    past_all c.args.paths.now (length c.args.paths.now - 1) c.in-Some.path.now c.args.segment (omega (arith, c.in-Some.ensures.item.3.0)) c.in-Some.ensures.item.1 (sym c.is_before.ensures ∙ less) sorted

pub returns-in-None : goal.returns-in-None
returns-in-None g c less sorted = past_none c.args.paths.now c.args.segment c.in-None.ensures.item.3
