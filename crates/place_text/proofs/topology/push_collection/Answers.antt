use Rattle.kit_words.proofs.Common.{arith, sym, ◌∙◌, ◌+◌, ◌++◌, codes}
use Rattle.std.proofs.Common.{append-nil}
use Rattle.place_text.specs.Common.{told_by}
use Rattle.place_text.proofs.Listed.{each_step, collected}
use Rattle.place_text.proofs.topology.push_collection.Goals as goal

pub loop-number-init : goal.loop-number-init
loop-number-init g c = c.in_ok-extend_from_slice.ensures.items ∙ sym (append-nil (c.args.text.now.items ++ codes "{\"type\":\"GeometryCollection\",\"geometries\":["))

pub loop-number-preserved : goal.loop-number-preserved
loop-number-preserved g c =
    each_step (λ n x. g.G.Geometry.geometry (told_by c.args.owners.now) n (c.args.others + n) x) c.args.listed.now c.loop-number.number
    c.index-listed-number.result c.loop-number-test.true c.index-listed-number.is
    (c.args.text.now.items ++ codes "{\"type\":\"GeometryCollection\",\"geometries\":[") c.loop-number.text.items c.push_comma.new.text.items c.push.new.text.items
    c.loop-number.invariant c.in_ok-push_comma.ensures c.in_ok-push.ensures

pub returns : goal.returns
returns g c =
    collected (λ n x. g.G.Geometry.geometry (told_by c.args.owners.now) n (c.args.others + n) x) c.args.listed.now c.loop-number.number (omega arith)
    c.args.text.now.items (codes "{\"type\":\"GeometryCollection\",\"geometries\":[") c.loop-number.text.items c.extend_from_slice-2.new.self.items
    c.loop-number.invariant c.in_ok-extend_from_slice-2.ensures.items
