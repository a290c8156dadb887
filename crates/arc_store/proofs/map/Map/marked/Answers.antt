use Rattle.kit_words.proofs.Common.{ap, ◌∙◌, get_or, map}
use Rattle.std.proofs.Math.ListN.{get_or-map}
use Rattle.ring_store.specs.declared.neighbours.Neighbours.TheVariants.{None}
use Rattle.feature_exchange.specs.Common.{is_meeting, meets}
use Rattle.arc_store.specs.Common.{State}
use Rattle.arc_store.proofs.map.Map.marked.Goals as goal

pub invariant_of-result : goal.invariant_of-result
invariant_of-result g c = record {
  whole = c.self.invariant.holds.whole;
  told = λ k.
      let list = c.in_ok-around.around.items in
      let is = c.in_ok-meetings.ensures ∙ ap (map is_meeting) c.as_slice.ensures.value in
      (get_or list k None, c.in_ok-around.ensures k, ap (λ marks. meets marks k) is ∙ get_or-map is_meeting list k None);
}

pub returns : goal.returns
returns g c = ap (λ (s : State). s.doc) c.self.view_is
