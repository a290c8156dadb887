use Rattle.kit_words.proofs.Common.{◌≡◌, Contains, subst, sym, ap, ◌∙◌, inl, inr, refl, arith}
use Rattle.std.proofs.Common.{take_all}
use Rattle.slab.specs.Slab.{get}
use Rattle.arc_tables.specs.Common.{times, links, path_in}
use Rattle.arc_tables.proofs.StoreLemmas.{taken_cases}
use Rattle.arc_tables.proofs.place.find_among.Goals as goal
use Rattle.arc_tables.proofs.place.find_among.Goals.{in-Some+in_default-place_in, in_default}

pub loop-arc-preserved : goal.loop-arc-preserved
loop-arc-preserved g c = λ j m. elim (taken_cases c.args.among.now c.loop-arc.arc-index j c.loop-arc-test.true m) [
  | inl k ↦ c.loop-arc.invariant j k
  | inr k ↦ elim c.match-get.branch [
    | in-Some+in_default-place_in w ↦ subst (λ o. times c.args.a c.args.b (links (path_in o)) ≡ 0) (w.in-Some.ensures ∙ ap (get c.args.arcs.now) k) (ap (λ z. times c.args.a c.args.b (links z)) (sym w.as_slice-path.ensures.value) ∙ w.in_default-place_in.ensures.none (omega arith) (omega (arith, w.as_slice-path.ensures.len)))
    | in_default w ↦ subst (λ o. times c.args.a c.args.b (links (path_in o)) ≡ 0) (w.in_default.ensures ∙ ap (get c.args.arcs.now) k) refl
  ]
]

pub returns-clause-none : goal.returns-clause-none
returns-clause-none g c = λ j m. c.loop-arc.invariant j (subst (λ z. Contains z j) (sym (take_all c.loop-arc.arc-index c.args.among.now c.loop-arc-test.false)) m)
