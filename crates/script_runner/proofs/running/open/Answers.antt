use Rattle.kit_words.proofs.Common.{◌≡◌, rules}
use Rattle.topo_outline.specs.declared.fault.OpenFault.TheVariants as opening
use Rattle.script_runner.proofs.OpenLemmas.{opens_as, not_read, not_built}
use Rattle.script_runner.proofs.running.open.Goals as goal

pub returns-in-Err : goal.returns-in-Err
returns-in-Err g c =
    let unlike : ¬ (c.in-Err.fault ≡ opening.OutOfMemory) = search rules in
    record {
      opened = tt;
      numbered = tt;
      cells = tt;
      refused = (c.in-Err.ensures.refused, unlike, not_read c.args.bytes.now (c.in-Err.ensures.unread unlike));
    }

pub returns-in-Ok-build-clause-opened : goal.returns-in-Ok-build-clause-opened
returns-in-Ok-build-clause-opened g c = opens_as c.args.bytes.now _ _ c.in-Ok.ensures.reads c.in-Ok-build.ensures.built c.in-Ok-build.ensures.proper

pub returns-in-Err-build-clause-refused : goal.returns-in-Err-build-clause-refused
returns-in-Err-build-clause-refused g c =
    not_built c.args.bytes.now _ c.in-Err-build.fault c.not_built.result c.in-Ok.ensures.opened c.in-Err-build.ensures.conflict c.not_built.ensures
