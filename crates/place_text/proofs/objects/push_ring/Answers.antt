use Rattle.kit_words.proofs.Common.{sym, ap, ◌∙◌, ◌++◌, codes, decimal, appended_six}
use Rattle.place_text.specs.Common.{ring_members}
use Rattle.place_text.proofs.objects.push_ring.Goals as goal

pub returns : goal.returns
returns g c =
    let r = c.in-Some.ring in
    appended_six c.args.text.now.items (codes ",\"feature\":") (decimal r.feature) (codes ",\"polygon\":") (decimal r.polygon) (codes ",\"ring\":") (decimal r.ring)
    c.extend_from_slice.new.self.items c.push_number.new.text.items c.extend_from_slice-2.new.self.items c.push_number-2.new.text.items
    c.extend_from_slice-3.new.self.items c.push_number-3.new.text.items
    c.in_ok-extend_from_slice.ensures.items c.in_ok-push_number.ensures c.in_ok-extend_from_slice-2.ensures.items c.in_ok-push_number-2.ensures
    c.in_ok-extend_from_slice-3.ensures.items c.in_ok-push_number-3.ensures
    ∙ ap (λ o. c.args.text.now.items ++ ring_members o) (sym c.in-Some.is)
