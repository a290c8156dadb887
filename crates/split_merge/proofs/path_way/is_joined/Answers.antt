use Rattle.kit_words.proofs.Common.{ap, ◌∙◌, nat_lt}
use Rattle.ring_machine.specs.Common.{is_segment}
use Rattle.split_merge.proofs.PathSegments.{segment_used}
use Rattle.split_merge.proofs.path_way.is_joined.Goals as goal

pub returns-in-Some : goal.returns-in-Some
returns-in-Some g c =
    ap (nat_lt 0) c.uses.ensures ∙ segment_used c.args.map.now.doc c.in-Some.s ∙ ap (is_segment c.args.map.now.doc) c.in-Some.ensures.some
