use Rattle.kit_words.proofs.Common.{codes, appended_six}
use Rattle.map_text.specs.Common.{pair_text}
use Rattle.place_text.specs.Common.{told_by, finding_text, whose_text}
use Rattle.place_text.proofs.objects.PlaceGeometry.push.Goals as goal

pub returns : goal.returns
returns g c =
    let p = c.args.self.now in
    appended_six c.args.text.now.items (codes "{\"type\":\"Point\",\"properties\":") (finding_text p.kind p.number) (whose_text (told_by c.args.owners.now) p.kind p)
    (codes "},\"coordinates\":") (pair_text p.pos) (codes "}")
    c.extend_from_slice.new.self.items c.push_finding.new.text.items c.push_whose.new.text.items c.extend_from_slice-2.new.self.items c.push_position.new.text.items
    c.extend_from_slice-3.new.self.items
    c.in_ok-extend_from_slice.ensures.items c.in_ok-push_finding.ensures c.in_ok-push_whose.ensures c.in_ok-extend_from_slice-2.ensures.items c.in_ok-push_position.ensures
    c.in_ok-extend_from_slice-3.ensures.items
