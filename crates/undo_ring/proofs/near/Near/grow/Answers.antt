use Rattle.kit_words.proofs.Common.{◌∷◌, suc, take, on_ok_weaker}
use Rattle.undo_ring.proofs.NearLemmas.{keeps_covered, known_some}
use Rattle.undo_ring.proofs.near.Near.grow.Goals as goal

pub returns-in-Some-clause-known : goal.returns-in-Some-clause-known
returns-in-Some-clause-known g c =
    let s = c.args.self.now in
    λ docs h. keeps_covered c.in-Some.boxes c.grow.new.self (take (suc s.since) docs) c.grow.ensures.keeps
    (known_some s c.in-Some.boxes docs c.in-Some.is h)

pub returns-in-Some-clause-grown : goal.returns-in-Some-clause-grown
returns-in-Some-clause-grown g c =
    let s = c.args.self.now in
    on_ok_weaker c.grow.result
    (λ grown d docs h ring i p. grown ring ((known_some s c.in-Some.boxes (d ∷ docs) c.in-Some.is h).0 ring i) p)
    c.grow.ensures.grown
