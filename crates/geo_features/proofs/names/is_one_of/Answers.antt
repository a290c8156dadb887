use Rattle.kit_words.proofs.Common.{sym}
use Rattle.geo_features.proofs.Naming.{none_says}
use Rattle.geo_features.proofs.names.is_one_of.Goals as goal

pub returns-in-Err-BadText : goal.returns-in-Err-BadText
returns-in-Err-BadText c = sym (none_says _ _ (rw c.in-Err-BadText.field-0-is at c.in-Err-BadText.ensures))
