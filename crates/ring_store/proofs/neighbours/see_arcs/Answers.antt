use Rattle.kit_words.proofs.Common.{◌∙◌, sym, ap, get_or}
use Rattle.ring_store.specs.Common.{None, noted_all, other_ends, ends_in}
use Rattle.arc_tables.specs.Common.{links}
use Rattle.ring_store.proofs.NeighbourLemmas.{noted_all-append}
use Rattle.ring_store.proofs.neighbours.see_arcs.Goals as goal

pub loop-arc-preserved : goal.loop-arc-preserved
loop-arc-preserved g c = (
  tt,
  tt,
  λ j.
      let seen = get_or c.loop-arc.table.items j None in
      ap (λ n. noted_all n (ends_in c.next.new.self j)) (c.in_ok-see_path.ensures j ∙ ap (λ ks. noted_all seen (other_ends j (links ks))) c.as_slice.ensures.value)
      ∙ sym (noted_all-append seen (other_ends j (links c.in-Some.arc.now.keys.items)) (ends_in c.next.new.self j))
      ∙ ap (λ es. noted_all seen (ends_in es j)) (sym c.in-Some.ensures.steps)
      ∙ c.loop-arc.invariant.2 j,
)
