use Rattle.kit_words.proofs.Common.{◌≡◌, ◌≤◌, ◌+◌, ◌++◌, sym, ap, ap₂, ◌∙◌, arith, length, take, drop, on_ok_weaker, take-append-drop}
use Rattle.layer_sides.proofs.Cutting.{written_over}
use Rattle.layer_sides.proofs.under.put_begun.Goals as goal

pub returns : goal.returns
returns g c =
    let list = c.args.list.now.items in
    let first = c.split_at.result.0.now in
    let rest = c.split_at.result.1.now in
    let from = c.args.from in
    let over = c.min-over.result in
    let long : over ≡ length first = sym c.split_at.ensures.front_len in
    let there : from + over ≡ from + length first = ap (λ n. from + n) long in
    let before : from + over ≤ c.args.to = omega arith in
    let parts : c.args.begun.now ≡ first ++ rest =
    sym (ap₂ (λ xs ys. xs ++ ys) c.split_at.ensures.front c.split_at.ensures.back ∙ take-append-drop over c.args.begun.now) in
    on_ok_weaker c.put_in.result
    (written_over list first rest c.args.begun.now c.put_over.new.list.items c.take_out.new.list.items c.put_in.new.list.items from c.args.to (from + over)
    there before c.requires.bound parts
    (c.put_over.ensures ∙ ap (λ n. take from list ++ first ++ drop n list) (sym there)) c.take_out.ensures)
    c.put_in.ensures
