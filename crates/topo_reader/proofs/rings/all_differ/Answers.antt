use Rattle.kit_words.proofs.Common.{◌∙◌, ap, sym, subst, length, IsPermutation, length_permutation}
use Rattle.std.proofs.lemmas.Bool.{eqb-true}
use Rattle.topo_reader.proofs.Sorting.{none_twice}
use Rattle.topo_reader.proofs.rings.all_differ.Goals as goal

pub returns : goal.returns
returns g c =
    let copy = c.in_ok-sorted.ensures.items in
    λ h. none_twice c.args.ring.now c.sort_unstable.new.self.items c.dedup.new.self.items
    (subst (λ ps. IsPermutation ps c.sort_unstable.new.self.items) copy c.sort_unstable.ensures.permutation)
    c.sort_unstable.ensures.sorted c.dedup.ensures.filtered (length_permutation _ _ c.sort_unstable.ensures.permutation ∙ ap length copy) (sym c.dedup.new.self.ok.0 ∙ sym c.len.ensures ∙ eqb-true c.len.result (length c.args.ring.now) h)
