use Rattle.arc_store.proofs.Standing.{can_stand}
use Rattle.trials_store.proofs.frames.built.Goals as goal

pub build-requires : goal.build-requires
build-requires c = record {
  stands = can_stand c.args.raw c.args.numbers.items c.requires.rings c.requires.alike;
}
