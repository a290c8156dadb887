use Rattle.kit_words.proofs.Common.{◌∙◌, ap, map, take_all}
use Rattle.std.specs.Prelude.{string_bytes}
use Rattle.border_cover.proofs.command_line.copies.Goals as goal

pub loop-text-init : goal.loop-text-init
loop-text-init c = ap (map string_bytes) c.new-copies.ensures.items

pub returns : goal.returns
returns c = c.loop-text.invariant ∙ ap (map (λ text. text.now)) (take_all c.loop-text.text-index c.args.given.now c.loop-text-test.false)
