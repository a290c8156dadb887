use Rattle.std.proofs.Common.{◌≡◌, map, length, take}
use Rattle.trials_store.proofs.frames.numbered.Given as goal

-- of the features that were passed, numbers of as many polygons
abbrev pub invariant-loop-polygons : goal.invariant-loop-polygons
invariant-loop-polygons l = map (λ f. length f.items) l.numbers.items ≡ map (λ f. length f.items) (take l.polygons-index l.features)
