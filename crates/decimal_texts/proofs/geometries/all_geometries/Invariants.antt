use Rattle.kit_words.proofs.Common.{◌≡◌, ◌++◌, map, flat_map}
use Rattle.json_spans.specs.Common.{node, members_left}
use Rattle.decimal_texts.specs.Common.{geometries_in, all_geometries}
use Rattle.decimal_texts.proofs.geometries.all_geometries.Given as goal

abbrev pub invariant-loop-member : goal.invariant-loop-member
invariant-loop-member g l = map node l.found.items ++ flat_map (λ m. geometries_in l.shape 100 m.1) (members_left l.member-iterator) ≡ all_geometries l.fn.shape (node l.fn.root)
