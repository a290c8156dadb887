use Rattle.kit_words.proofs.Common.{subst}
use Rattle.walk_faults.specs.Common.{Found, IsFindFault, features_seen}
use Rattle.walk_faults.specs.declared.findings.FindFault.TheVariants as fault
use Rattle.mend_report.proofs.looking.look.Goals as goal

-- the walks that were searched are those that were read
pub returns-in-Ok-clause-found : goal.returns-in-Ok-clause-found
returns-in-Ok-clause-found g c = subst (λ ps. Found (features_seen ps) c.in-Ok.findings) c.as_slice.ensures.value c.in-Ok.ensures.found

pub returns-in-Err-TooMany-clause-refused : goal.returns-in-Err-TooMany-clause-refused
returns-in-Err-TooMany-clause-refused g c =
    let told : IsFindFault 4000000 (features_seen c.as_slice.result.now) fault.TooMany =
    subst (λ f. IsFindFault 4000000 (features_seen c.as_slice.result.now) f) c.in-Err-TooMany.field-0-is c.in-Err-TooMany.ensures.fault in
    subst (λ ps. IsFindFault 4000000 (features_seen ps) fault.TooMany) c.as_slice.ensures.value told
