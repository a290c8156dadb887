use Rattle.kit_words.proofs.Common.{ap, ◌∙◌, ◌++◌, codes, appended_five}
use Rattle.grid_geometry.specs.Common.{Segment}
use Rattle.map_text.specs.Common.{pair_text}
use Rattle.place_text.specs.Common.{pair_behind}
use Rattle.place_text.proofs.Assembled.{arc_is}
use Rattle.cover_places.proofs.objects.push_arc.Goals as goal

pub returns : goal.returns
returns g c =
    let s : Segment = record { lo = c.args.side.0; hi = c.args.side.1 } in
    let old = c.args.text.now.items in
    appended_five old (codes "[") (pair_text s.lo) (codes ",") (pair_text (pair_behind c.args.delta s.lo s.hi)) (codes "]")
    c.extend_from_slice.new.self.items c.push_position.new.text.items c.extend_from_slice-2.new.self.items c.push_behind.new.text.items
    c.extend_from_slice-3.new.self.items
    c.in_ok-extend_from_slice.ensures.items c.in_ok-push_position.ensures c.in_ok-extend_from_slice-2.ensures.items c.in_ok-push_behind.ensures
    c.in_ok-extend_from_slice-3.ensures.items
    ∙ ap (λ z. old ++ z) (arc_is c.args.delta s)
