use Rattle.kit_words.proofs.Common.{sym}
use Rattle.cover_report.proofs.Naming.{no_text}
use Rattle.cover_report.proofs.names.is_one_of.Goals as goal

pub returns-in-Err-BadText : goal.returns-in-Err-BadText
returns-in-Err-BadText c = sym (no_text _ _ (rw c.in-Err-BadText.field-0-is at c.in-Err-BadText.ensures))
