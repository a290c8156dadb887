use Rattle.kit_words.proofs.Common.{◌≡◌, sym, ap, ◌∙◌, to_z, of_z, arith, w128, ints}
use Rattle.edit_vertex.proofs.Passing.{is_thin, thin_unplaced, thin_between}
use Rattle.edit_vertex.proofs.thinning.is_thin.Goals as goal

pub returns-in-Some : goal.returns-in-Some
returns-in-Some g c =
    let same : to_z w128 (of_z w128 c.args.t) ≡ c.args.t = omega (arith, ints) in
    c.is_flat_at.ensures
    ∙ sym (thin_between c.args.map.now.doc c.args.p _ _ c.requires.proper c.in-Some.ensures.some (to_z w128 (of_z w128 c.args.t)))
    ∙ ap (λ t. is_thin t c.args.map.now.doc c.args.p) same

pub returns-in-None : goal.returns-in-None
returns-in-None g c = sym (thin_unplaced c.args.t c.args.map.now.doc c.args.p c.in-None.ensures.none)
