use Rattle.kit_words.proofs.Common.{◌≡◌, true, map, ap, is_ok, subst}
use Rattle.ring_machine.specs.Common.{features, are_distinct}
use Rattle.feature_exchange.specs.Common.{stored, ring_under}
use Rattle.arc_store.specs.Common.{ListsNear}
use Rattle.segment_index.specs.Common.{times_by}
use Rattle.ring_machine.proofs.Common.{formed-in_rings}
use Rattle.arc_store.proofs.NearLemmas.{near_listed}
use Rattle.arc_store.proofs.map.Map.candidates.Goals as goal

pub returns-in-Ok-clause-near : goal.returns-in-Ok-clause-near
returns-in-Ok-clause-near g c =
    let m = c.self.inside in
    subst (λ s. ListsNear s.doc c.args.rect c.args.out.now.items c.candidates.new.out.items) c.self.view_is
    (near_listed _ m.rings.index.held (times_by m.rings.index.cells) c.args.rect c.args.out.now.items c.candidates.new.out.items (is_ok c.candidates.result)
    c.self.invariant.holds.indexed (ap is_ok c.in-Ok.is) c.candidates.ensures)

pub returns-in-Ok-clause-distinct : goal.returns-in-Ok-clause-distinct
returns-in-Ok-clause-distinct g c =
    let m = c.self.inside in
    let s = stored m.frame m.rings.borders m.rings.vertices in
    subst (λ z. are_distinct (map (λ f. f.number) (features z.doc)) ≡ true) c.self.view_is
    (formed-in_rings (ring_under s) s.frame c.self.invariant.holds.formed).numbers

pub returns-in-Err : goal.returns-in-Err
returns-in-Err g c = record {
  near = tt;
  distinct =
      let m = c.self.inside in
      let s = stored m.frame m.rings.borders m.rings.vertices in
      subst (λ z. are_distinct (map (λ f. f.number) (features z.doc)) ≡ true) c.self.view_is
      (formed-in_rings (ring_under s) s.frame c.self.invariant.holds.formed).numbers;
}
