use Rattle.kit_words.proofs.Common.{◌+◌, ◌∙◌, ap, ap₂, arith, ℕ, sym, take_all}
use Rattle.std.specs.Prelude.{sum_by}
use Rattle.std.proofs.lemmas.List.Sums.{sum_by_more}
use Rattle.map_drawing.proofs.LabelLemmas.{letters_drawn, text_is}
use Rattle.map_drawing.proofs.labels.letters.Goals as goal

pub loop-byte-preserved : goal.loop-byte-preserved
loop-byte-preserved c =
    let more = sum_by_more letters_drawn c.args.words.now c.loop-byte.byte-index 0 c.loop-byte-test.true in
    (ap₂ (λ (m n : ℕ). m + n) c.loop-byte.invariant.0 (c.from-count.ensures ∙ c.letters_at.ensures.drawn) ∙ sym more, omega arith)

pub returns-clause-drawn : goal.returns-clause-drawn
returns-clause-drawn c =
    c.loop-byte.invariant.0
    ∙ (ap (sum_by letters_drawn) (take_all c.loop-byte.byte-index c.args.words.now c.loop-byte-test.false) ∙ sym (text_is c.args.words.now))
