use Rattle.kit_words.proofs.Common.{◌≡◌, ◌++◌, ◌∷◌, [], drop}
use Rattle.map_text.specs.Common.{arc_text}
use Rattle.place_text.proofs.Ways.{rest_text}
use Rattle.place_text.proofs.objects.push_way.Given as goal

-- what is reported and what is left are the whole arc
abbrev pub invariant-loop-to : goal.invariant-loop-to
invariant-loop-to g l =
    l.text.items ++ rest_text l.delta l.from (drop l.to-index l.inner ++ l.end ∷ [])
    ≡ l.fn.text.items ++ arc_text l.delta (l.initial.from ∷ l.inner ++ l.end ∷ [])
