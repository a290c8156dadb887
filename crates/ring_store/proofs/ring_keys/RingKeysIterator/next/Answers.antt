use Rattle.kit_words.proofs.Common.{arith, rules, refl, sym, ap, ◌∙◌, ◌∷◌, ◌+◌, length}
use Rattle.ring_store.specs.Common.{keys_left}
use Rattle.ring_store.proofs.KeysLeft.{left_turned, left_none, left_next}
use Rattle.ring_store.proofs.ring_keys.RingKeysIterator.next.Goals as goal

pub loop-self-init : goal.loop-self-init
loop-self-init g c = (c.self.invariant, refl)

pub invariant_of-self : goal.invariant_of-self
invariant_of-self g c = c.loop-self.invariant.0

pub returns-in_default-clause-steps : goal.returns-in_default-clause-steps
returns-in_default-clause-steps g c =
    let s = c.loop-self.self-inside in
    let none = left_none s.arcs.now s.uses.now s.path.now s.back s.at c.in_default.ensures.cases c.loop-self-test.true in
    (sym c.self.view_is ∙ sym c.loop-self.invariant.1 ∙ none, none)

pub loop-self-smaller : goal.loop-self-smaller
loop-self-smaller g c = omega (arith, c.in-Some.ensures.cases.1)

pub loop-self-preserved : goal.loop-self-preserved
loop-self-preserved g c =
    let s = c.loop-self.self-inside in
    let u = c.in-Some.u.now in
    let us = c.in-Some.rest.now in (
      omega arith,
      ap (λ z. keys_left s.arcs.now us z u.back 1) c.path_at-self-inside.ensures
          ∙ left_turned s.arcs.now u us s.path.now s.back s.at c.loop-self-test.true
          ∙ ap (λ z. keys_left s.arcs.now z s.path.now s.back s.at) (sym c.in-Some.ensures.cases.0)
          ∙ c.loop-self.invariant.1,
    )

pub place_of-requires-clause-some : goal.place_of-requires-clause-some
place_of-requires-clause-some g c = c.loop-self.invariant.0

pub bounds-self-inside-place_of : goal.bounds-self-inside-place_of
bounds-self-inside-place_of g c = let one = c.loop-self.invariant.0 in search rules

pub returns-clause-steps : goal.returns-clause-steps
returns-clause-steps g c =
    let s = c.loop-self.self-inside in
    let x = c.index-self-place_of.result in
    let next = left_next s.arcs.now s.uses.now s.path.now s.back s.at c.place_of.result x c.loop-self.invariant.0 c.loop-self-test.false c.place_of.ensures c.index-self-place_of.is in
    sym c.self.view_is ∙ sym c.loop-self.invariant.1 ∙ next
    ∙ ap (λ z. z ∷ keys_left s.arcs.now s.uses.now s.path.now s.back (s.at + 1)) c.index-self-place_of.is

pub returns-clause-goes : goal.returns-clause-goes
returns-clause-goes g c = record { on = λ _. (tt, tt, omega (arith, ap length (returns-clause-steps g c))); keeps = tt; rests = λ _. tt }
