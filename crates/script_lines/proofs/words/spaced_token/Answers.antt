use Rattle.kit_words.proofs.Common.{sym, subst}
use Rattle.script_lines.specs.Common.{IsToken}
use Rattle.script_lines.proofs.TokenLemmas.{token_found}
use Rattle.script_lines.proofs.words.spaced_token.Goals as goal

pub returns : goal.returns
returns c =
    subst (λ bs. IsToken bs c.split_at.result.0.now c.split_at.result.1.now) (sym c.in_ok-tail.ensures)
    (token_found c.in_ok-tail.tail.now c.in_ok-behind.field-0.now c.split_at.result.0.now c.split_at.result.1.now c.unmarked_len.result
    c.in_ok-behind.ensures c.unmarked_len.ensures.value c.split_at.ensures.front c.split_at.ensures.back)
