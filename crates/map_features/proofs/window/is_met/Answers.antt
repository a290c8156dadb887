use Rattle.kit_words.proofs.Common.{◌+ℤ◌, ℤ, w64, to_z, of_z, arith, ints}
use Rattle.map_features.proofs.WindowLemmas.{passed, passes}
use Rattle.map_features.proofs.window.is_met.Goals as goal

pub returns-then-start-most : goal.returns-then-start-most
returns-then-start-most c =
    let least : ℤ = to_z w64 (of_z w64 c.args.least) in
    let end : ℤ = to_z w64 (of_z w64 (to_z w64 (of_z w64 c.args.start) +ℤ to_z w64 (of_z w64 c.args.extent))) in (
      λ t. (omega (arith, ints), omega (arith, ints, passed least end t, c.requires.start, c.requires.extent.0, c.requires.extent.1)),
      λ h. passes least end (omega (arith, ints, h.1, c.requires.start, c.requires.extent.0, c.requires.extent.1)),
    )
