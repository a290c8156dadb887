use Rattle.kit_words.proofs.Common.{◌∙◌, ap}
use Rattle.std.specs.FinMap as table
use Rattle.ring_store.proofs.TableLemmas.{place_back}
use Rattle.ring_store.proofs.changes.put_between.Goals as goal

pub insert-requires-clause-unjoined : goal.insert-requires-clause-unjoined
insert-requires-clause-unjoined g c = λ x. c.requires.unjoined c.in-Ok.k x c.in-Ok.ensures.key

pub returns-in-Err-clause-vertices : goal.returns-in-Err-clause-vertices
returns-in-Err-clause-vertices g c =
    c.remove.ensures ∙ ap (λ z. table.remove z c.in-Ok.k) c.in-Ok.ensures.ok ∙ place_back c.args.vertices.now c.in-Ok.k c.args.q c.in-Ok.ensures.key
