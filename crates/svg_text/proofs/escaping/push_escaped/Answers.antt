use Rattle.svg_text.proofs.TextLemmas.{is_text}
use Rattle.svg_text.proofs.escaping.push_escaped.Goals as goal

pub returns-in_err-push_after-clause-means : goal.returns-in_err-push_after-clause-means
returns-in_err-push_after-clause-means g c = is_text c.args.bytes.now

pub returns-clause-means : goal.returns-clause-means
returns-clause-means g c = is_text c.args.bytes.now
