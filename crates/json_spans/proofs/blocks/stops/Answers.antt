use Rattle.kit_words.proofs.Common.{◌+◌, ◌-◌, ◌%◌, refl, arith, zip2_splat}
use lib.Bits.{bit_or}
use Rattle.json_spans.specs.Common.{is_stop}
use Rattle.json_spans.proofs.Lanes.{masked, after_splat, below}
use Rattle.json_spans.proofs.blocks.stops.Goals as goal

pub returns : goal.returns
returns c =
    let v = c.args.v in
    let long = c.fits-v.0 in
    masked _ is_stop v _ (omega arith) c.fits-v.1 (after_splat below _ 3 32 v long (after_splat (λ a b. (a + (256 - b)) % 256) _ 123 32 v long (zip2_splat bit_or v 32 32 long))) refl
