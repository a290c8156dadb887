use Rattle.kit_words.proofs.Common.{◌≡◌, ◌≤◌, ◌*◌, take}
use Rattle.std.specs.Prelude.{sum_by}
use Rattle.map_drawing.proofs.LabelLemmas.{letters_drawn}
use Rattle.map_drawing.proofs.labels.letters.Given as goal

-- the letters of the bytes so far, at most two of each
abbrev pub invariant-loop-byte : goal.invariant-loop-byte
invariant-loop-byte l = (l.count ≡ sum_by letters_drawn (take l.byte-index l.words)) × (l.count ≤ 2 * l.byte-index)
