use Rattle.kit_words.proofs.Common.{◌≡◌, ℕ, ◌≤◌, ◌+◌, ◌-◌, List, ap, ◌∙◌, subst, arith, take, drop, length, get_or}
use Rattle.kit_words.proofs.Common.{get_or-drop}
use Rattle.std.proofs.Common.{take_all, length-drop}
use Rattle.arc_tables.specs.Common.{store, IsOpen}
use Rattle.arc_tables.proofs.Running.{lay_more, spoils_on_err}
use Rattle.arc_tables.proofs.tables.Tables.lay.Goals as goal

rest : (k : ℕ) (xs : List ℕ) → take (length xs - k) (drop k xs) ≡ drop k xs
rest k xs = take_all (length xs - k) (drop k xs) (omega (arith, length-drop k xs))

pub loop-at-preserved : goal.loop-at-preserved
loop-at-preserved g c =
    let at = c.loop-at.at in
    let k = c.in_ok-piece.piece.keys in
    let a = c.in_ok-piece.ensures.advances in
    let keys = c.args.keys.now in
    let s = rest at keys in
    let l : at + k ≤ length keys = omega (arith, a.within, ap length s, length-drop at keys) in
    record {
      within = omega (arith, l, a.two);
      grown = lay_more keys _ at k c.args.r (store c.args.self.now) (store c.loop-at.self) (store c.go_piece.new.self) s a.two l c.loop-at.invariant.grown a.grown;
      whole = a.whole;
      making = subst (λ q. IsOpen c.go_piece.new.self c.args.r c.in_ok-piece.piece.making q) (ap (λ z. get_or z (k - 1) 0) s ∙ get_or-drop at keys (k - 1) 0) c.in_ok-piece.ensures.making;
      making_there = c.in_ok-piece.ensures.making_there;
      held = λ j. a.held j ∙ c.loop-at.invariant.held j;
    }

pub returns-in_err-piece-clause-err : goal.returns-in_err-piece-clause-err
returns-in_err-piece-clause-err g c = spoils_on_err c.from_residual.result c.args.r _ (store c.args.self.now) (store c.loop-at.self) (store c.go_piece.new.self) c.loop-at.invariant.grown c.in_err-piece.ensures.advances.kept
