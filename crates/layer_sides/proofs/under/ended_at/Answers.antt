use Rattle.kit_words.proofs.Common.{◌≡◌, ◌≤◌, ◌∙◌, ap, subst, length, drop, take, All}
use Rattle.layer_sides.specs.Common.{top}
use Rattle.layer_sides.specs.Seen.{segments_seen}
use Rattle.layer_sides.specs.Under.{segment_at}
use Rattle.layer_sides.proofs.Cutting.{cut_at}
use Rattle.layer_sides.proofs.under.ended_at.Goals as goal

pub returns-then-is_before : goal.returns-then-is_before
returns-then-is_before g c =
    let rest = c.split_at.ensures.back in
    let count = c.ended-count.result in
    cut_at (segments_seen c.args.borders.now) c.args.list.now c.args.v c.place_of-from.result count c.place_of-from.ensures
    (subst (λ ks. count ≤ length ks) rest c.ended-count.ensures.bound)
    (subst (λ ks. All (λ i. top (segment_at (segments_seen c.args.borders.now) i) ≡ c.args.v) (take count ks)) rest c.ended-count.ensures.ended)
    (λ front i e. c.is_behind.ensures c.if-is_behind.true front i (c.split_at.ensures.front ∙ e))
    (λ i back e. c.is_before.ensures c.if-is_before.true i back (c.split_at-2.ensures.back ∙ ap (drop count) rest ∙ e))
