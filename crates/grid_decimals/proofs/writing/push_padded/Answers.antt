use Rattle.kit_words.proofs.Common.{◌≡◌, ◌∙◌, ap, decimal, replicate, take}
use Rattle.decimal_texts.proofs.Appending.{last_of_two}
use Rattle.grid_decimals.specs.Common.{padded}
use Rattle.grid_decimals.proofs.Padding.{padded_is}
use Rattle.grid_decimals.proofs.writing.push_padded.Goals as goal
use Rattle.grid_decimals.proofs.writing.push_padded.Goals.{in-Ok, in-Err}

pub returns : goal.returns
returns g c =
    let digits = c.match-try_from.digits.now in
    let is : c.match-try_from.digits.now ≡ decimal c.args.number =
    elim c.match-try_from.branch [
      | in-Ok w ↦ ap (λ b. b.now) w.digits-is ∙ (w.as_bytes-digits.ensures.value ∙ (w.format.ensures.text ∙ ap decimal w.in-Ok.ensures.1))
      | in-Err w ↦ ap (λ b. b.now) w.digits-is ∙ (w.as_bytes-digits-in-Err.ensures.value ∙ w.format-in-Err.ensures.text)
    ] in
    last_of_two c.extend_from_slice-2.result c.args.text.now.items (take c.saturating_sub.result (replicate 36 48)) digits
    (padded c.args.count (decimal c.args.number)) c.extend_from_slice.new.self.items c.extend_from_slice-2.new.self.items
    c.in_ok-extend_from_slice.ensures.items c.extend_from_slice-2.ensures.items
    (padded_is c.saturating_sub.result c.args.count digits (decimal c.args.number) c.requires is c.saturating_sub.ensures)
