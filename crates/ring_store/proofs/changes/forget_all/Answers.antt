use Rattle.kit_words.proofs.Common.{◌∙◌, sym, ap, subst, arith, length, take_all}
use Rattle.std.specs.FinMap as table
use Rattle.ring_store.specs.Common.{AreKeyed}
use Rattle.ring_store.proofs.PuttingBack.{last_kept, placed_but_last, none_placed}
use Rattle.ring_store.proofs.changes.forget_all.Goals as goal

pub loop-left-init : goal.loop-left-init
loop-left-init g c = record {
  within = omega arith;
  placed = λ places rs h. (rs, subst (λ z. AreKeyed places rs z c.args.vertices.now) (sym (take_all (length c.args.puts.now) c.args.puts.now (omega arith))) h);
}

pub remove-requires : goal.remove-requires
remove-requires g c =
    ap (λ z. table.contains_key c.loop-left.vertices z.q) (sym c.index-puts-left.is)
    ∙ last_kept c.requires.0 c.loop-left.vertices c.args.puts.now c.loop-left.left c.index-puts-left.result (omega (arith, c.loop-left-test.true)) c.loop-left.invariant.within c.index-puts-left.is
    (c.loop-left.invariant.placed c.requires.0 c.requires.1 c.requires.2)

pub loop-left-preserved : goal.loop-left-preserved
loop-left-preserved g c = record {
  within = omega (arith, c.loop-left.invariant.within);
  placed = λ places rs h.
      placed_but_last places c.loop-left.vertices c.args.puts.now c.loop-left.left c.index-puts-left.result (omega (arith, c.loop-left-test.true)) c.loop-left.invariant.within c.index-puts-left.is
      (c.loop-left.invariant.placed places rs h) c.remove.new.self (c.remove.ensures ∙ ap (λ z. table.remove c.loop-left.vertices z.q) (sym c.index-puts-left.is));
}

pub returns : goal.returns
returns g c = λ places rs h.
    none_placed places c.loop-left.vertices c.args.puts.now c.loop-left.left c.loop-left-test.false (c.loop-left.invariant.placed places rs h)
