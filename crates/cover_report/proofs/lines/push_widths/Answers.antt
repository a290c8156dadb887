use Rattle.kit_words.proofs.Common.{arith, map, refl}
use Rattle.std.proofs.lemmas.Nat.{one_shl}
use Rattle.cover_report.specs.Faces.{view_told}
use Rattle.cover_report.proofs.LineLemmas.{twice_fits, widths_begun, widths_left, widths_next}
use Rattle.cover_report.proofs.lines.push_widths.Goals as goal

pub loop-shift-init : goal.loop-shift-init
loop-shift-init g c = widths_begun (map (λ f. view_told f.now) c.args.faces.now) c.args.text.now.items c.push_width.new.text.items c.in_ok-push_width.ensures

pub overflow_mul-over : goal.overflow_mul-over
overflow_mul-over g c =
    let less = c.loop-shift-test.true in
    omega (arith, twice_fits c.loop-shift.shift _ (omega (arith, less)) (one_shl c.loop-shift.shift 128 (omega (arith, less))))

pub loop-shift-preserved : goal.loop-shift-preserved
loop-shift-preserved g c =
    let less = c.loop-shift-test.true in
    widths_next (map (λ f. view_told f.now) c.args.faces.now) c.loop-shift.shift _ _ c.loop-shift.text.items c.push_width-in-loop-shift.new.text.items _ (omega (arith, less))
    (one_shl c.loop-shift.shift 128 (omega (arith, less))) refl c.in_ok-push_width-2.ensures c.loop-shift.invariant

pub returns : goal.returns
returns g c =
    widths_left (map (λ f. view_told f.now) c.args.faces.now) c.loop-shift.shift c.loop-shift.text.items _ (omega (arith, c.loop-shift-test.false)) c.loop-shift.invariant
