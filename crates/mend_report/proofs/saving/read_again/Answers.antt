use Rattle.mend_report.proofs.Reopened.{never_read}
use Rattle.mend_report.proofs.saving.read_again.Goals as goal

pub returns-in_default : goal.returns-in_default
returns-in_default g c = record {
  read = tt;
  fault = never_read c.args.text.now (c.in-Err.ensures.unread c.in_default.not-OutOfMemory);
}
