use Rattle.kit_words.proofs.Common.{arith, refl, ◌≡◌, sym, ap, ◌∙◌, subst, ◌<◌, ◌++◌, [], length, get_or, codes}
use Rattle.kit_words.proofs.Common.{Contains, get_or_default, take_all, sum_by-drop_more}
use Rattle.std.proofs.Common.{append-nil}
use Rattle.ring_machine.specs.Common.{rings, is_junction}
use Rattle.topo_writer.specs.Common.{positions_at, rings_at, arcs_in, written_rings}
use Rattle.topo_writer.proofs.Later.{arcs_step, text_step, ring_few}
use Rattle.topo_writer.proofs.Listed.{bracketed, polygon_is}
use Rattle.topo_writer.proofs.ReadRings.{ring_is, each_place}
use Rattle.topo_writer.proofs.rings.push_polygon_of.Goals as goal

pub push_ring_of-requires-clause-there : goal.push_ring_of-requires-clause-there
push_ring_of-requires-clause-there g c =
    let rs = rings_at c.args.map.now c.args.n c.args.polygon in
    let h : c.loop-ring.ring < length rs = omega (arith, c.requires.count) in
    subst (Contains (rings c.args.map.now)) (sym (ring_is c.args.map.now c.args.n c.args.polygon c.loop-ring.ring))
    (each_place (Contains (rings c.args.map.now)) rs c.loop-ring.ring [] c.requires.there h)

pub push_ring_of-requires-clause-table : goal.push_ring_of-requires-clause-table
push_ring_of-requires-clause-table g c = c.loop-ring.invariant.table

pub push_ring_of-requires-clause-few : goal.push_ring_of-requires-clause-few
push_ring_of-requires-clause-few g c =
    let rs = rings_at c.args.map.now c.args.n c.args.polygon in
    let h : c.loop-ring.ring < length rs = omega (arith, c.requires.count) in
    omega (arith, c.loop-ring.invariant.few, sum_by-drop_more length rs c.loop-ring.ring [] h, ap length (ring_is c.args.map.now c.args.n c.args.polygon c.loop-ring.ring))

pub loop-ring-init : goal.loop-ring-init
loop-ring-init g c = record {
  table = c.requires.table;
  few = c.requires.few;
  arcs = refl;
  text = c.in_ok-push.ensures.items ∙ sym (append-nil (c.args.text.now.items ++ codes "["));
}

pub loop-ring-preserved : goal.loop-ring-preserved
loop-ring-preserved g c =
    let d = c.args.map.now in
    let rs = rings_at d c.args.n c.args.polygon in
    let i = c.loop-ring.ring in
    let r = positions_at d c.args.n c.args.polygon i in
    let h : i < length rs = omega (arith, c.requires.count) in
    let is : r ≡ get_or rs i [] = ring_is d c.args.n c.args.polygon i in
    let e : r ≡ get_or rs i r = is ∙ get_or_default rs i [] r h in
    let first = arcs_in d c.args.arcs.now in
    let before = arcs_in d c.loop-ring.arcs in
    let after = arcs_in d c.push_ring_of.new.arcs in
    let arcs = c.in_ok-push_ring_of.ensures.arcs in
    record {
      table = c.in_ok-push_ring_of.ensures.table;
      few = omega (arith, c.loop-ring.invariant.few, sum_by-drop_more length rs i [] h, ap length is, ap length arcs, ring_few (is_junction d) before r);
      arcs = arcs_step (is_junction d) first rs i r h e before after c.loop-ring.invariant.arcs arcs;
      text = text_step (is_junction d) first rs i r h e before after c.loop-ring.invariant.arcs arcs
          (c.args.text.now.items ++ codes "[") c.loop-ring.text.items c.push_comma.new.text.items c.push_ring_of.new.text.items c.loop-ring.invariant.text c.in_ok-push_comma.ensures c.in_ok-push_ring_of.ensures.text;
    }

pub returns-clause-text : goal.returns-clause-text
returns-clause-text g c =
    let d = c.args.map.now in
    let rs = rings_at d c.args.n c.args.polygon in
    let arcs = arcs_in d c.loop-ring.arcs in
    let begun = c.args.text.now.items ++ codes "[" in
    bracketed c.args.text.now.items (written_rings (is_junction d) arcs rs) begun c.loop-ring.text.items c.push-2.new.self.items refl
    (c.loop-ring.invariant.text ∙ ap (λ z. begun ++ written_rings (is_junction d) arcs z) (take_all c.loop-ring.ring rs (omega (arith, c.requires.count))))
    c.in_ok-push-2.ensures.items
    ∙ ap (λ z. c.args.text.now.items ++ z) (polygon_is (is_junction d) arcs rs)
