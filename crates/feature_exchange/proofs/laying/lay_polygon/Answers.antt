use Rattle.kit_words.proofs.Common.{ap, ◌∙◌}
use Rattle.feature_exchange.specs.Common.{numbers_of}
use Rattle.feature_exchange.proofs.Series.{back_again}
use Rattle.feature_exchange.proofs.LaidBeside.{laid_more, laid_as}
use Rattle.feature_exchange.proofs.laying.lay_polygon.Goals as goal

pub returns-in-Ok-clause-laid : goal.returns-in-Ok-clause-laid
returns-in-Ok-clause-laid g c =
    laid_more c.args.tables.now.vertices c.lay_rings.new.tables.vertices c.args.tables.now.borders c.lay_rings.new.tables.borders c.args.tables.now.index.held c.lay_rings.new.tables.index.held
    c.args.laid.now.items c.in_ok-came.came.items c.append_laid.new.laid.items c.requires.stand c.lay_rings.ensures.stand c.in_ok-came.ensures.there c.in_ok-came.ensures.added c.lay_rings.ensures.kept
    c.in-Ok.ensures.appended

pub returns-clause-laid : goal.returns-clause-laid
returns-clause-laid g c =
    let back = back_again c.args.tables.now.vertices c.lay_rings.new.tables.vertices c.take_out_rings.new.tables.vertices c.args.tables.now.borders c.lay_rings.new.tables.borders c.take_out_rings.new.tables.borders
    c.args.tables.now.index.held c.take_out_rings.new.tables.index.held (numbers_of c.in_ok-came.came.items) (numbers_of c.as_slice.result.now)
    c.requires.stand c.take_out_rings.ensures.stand c.in_ok-came.ensures.added (ap numbers_of (c.as_slice.ensures.value ∙ c.in-Err.ensures.still)) c.take_out_rings.ensures.gone
    c.lay_rings.ensures.kept c.take_out_rings.ensures.places in
    laid_as c.args.tables.now.vertices c.args.tables.now.borders c.args.laid.now.items c.take_out_rings.new.tables.vertices c.take_out_rings.new.tables.borders c.append_laid.new.laid.items
    back.1 back.0 c.in-Err.ensures.err
