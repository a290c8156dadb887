use Rattle.kit_words.proofs.Common.{subst}
use Rattle.map_features.specs.Common.{IsWithin}
use Rattle.map_features.proofs.WithinLemmas.{included_in}
use Rattle.map_features.proofs.extents.widened.Goals as goal

pub returns-in-Some-clause-kept : goal.returns-in-Some-clause-kept
returns-in-Some-clause-kept c = λ p h.
    included_in c.in-Some.bounds c.with.result p c.with.ensures.least c.with.ensures.most (subst (λ o. IsWithin o p) c.in-Some.is h)
