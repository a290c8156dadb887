use Rattle.kit_words.proofs.Common.{eqb, w8, arith, bitmask_splat}
use Rattle.json_spans.proofs.blocks.quotes.Goals as goal

pub returns : goal.returns
returns c = bitmask_splat w8 eqb c.args.v 32 34 c.fits-v.0 (omega arith)
