use Rattle.kit_words.proofs.Common.{codes, decimal}
use Rattle.cover_report.proofs.Appending.{eleven}
use Rattle.cover_report.proofs.lines.push_wide.Goals as goal

pub returns : goal.returns
returns g c =
    eleven c.args.text.now.items (codes "wide ") (decimal c.args.most) (codes " overlap ") (decimal c.args.overlaps) (codes " twice ") (decimal c.args.twices)
    (codes " gap ") (decimal c.args.gaps) (codes " lake ") (decimal c.args.lakes) (codes "\n")
    c.extend_from_slice.new.self.items c.push_number.new.text.items c.extend_from_slice-2.new.self.items c.push_number-2.new.text.items
    c.extend_from_slice-3.new.self.items c.push_number-3.new.text.items c.extend_from_slice-4.new.self.items c.push_number-4.new.text.items
    c.extend_from_slice-5.new.self.items c.push_number-5.new.text.items c.extend_from_slice-6.new.self.items
    c.in_ok-extend_from_slice.ensures.items c.in_ok-push_number.ensures c.in_ok-extend_from_slice-2.ensures.items c.in_ok-push_number-2.ensures
    c.in_ok-extend_from_slice-3.ensures.items c.in_ok-push_number-3.ensures c.in_ok-extend_from_slice-4.ensures.items c.in_ok-push_number-4.ensures
    c.in_ok-extend_from_slice-5.ensures.items c.in_ok-push_number-5.ensures c.in_ok-extend_from_slice-6.ensures.items
