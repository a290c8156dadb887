use Rattle.kit_words.proofs.Common.{◌≡◌, ◌++◌, ◌∷◌, [], on_ok_weaker}
use Rattle.segment_sets.proofs.Branches.{gains-cell, gains-left, gains-right}
use Rattle.segment_sets.proofs.cell.put_either.Goals as goal

pub returns-then-is_along : goal.returns-then-is_along
returns-then-is_along g c =
    on_ok_weaker c.put.result (λ (e : c.put.new.self ≡ c.args.along.now ++ c.args.s ∷ []). gains-left c.args.s c.args.along.now c.put.new.self c.args.aside.now (gains-cell c.args.s c.args.along.now c.put.new.self e)) c.put.ensures.put

pub returns-else-is_along : goal.returns-else-is_along
returns-else-is_along g c =
    on_ok_weaker c.put-else-is_along.result (λ (e : c.put-else-is_along.new.self ≡ c.args.aside.now ++ c.args.s ∷ []). gains-right c.args.s c.args.along.now c.args.aside.now c.put-else-is_along.new.self (gains-cell c.args.s c.args.aside.now c.put-else-is_along.new.self e)) c.put-else-is_along.ensures.put
