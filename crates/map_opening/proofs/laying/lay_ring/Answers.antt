use Rattle.kit_words.proofs.Common.{ℕ, List, ◌++◌, ◌∷◌, [], Contains, sym, ap, ◌∙◌, subst, length, arith, sum_by_push}
use Rattle.std.specs.FinMap as table
use Rattle.ring_machine.proofs.Common.{in_contains}
use Rattle.arc_tables.specs.Common.{edges}
use Rattle.ring_store.specs.Common.{IsRound}
use Rattle.local_planarity.specs.Common.{IsFilled}
use Rattle.map_opening.specs.Common.{IsLaid, HasSides, segments_along}
use Rattle.map_opening.proofs.LaidRings.{laid_more, along_more}
use Rattle.map_opening.proofs.LaidSides.{side_held, each_more}
use Rattle.map_opening.proofs.laying.lay_ring.Goals as goal

pub returns-clause-laid : goal.returns-clause-laid
returns-clause-laid g c keyed h =
    let old = c.args.opened.now in
    let places = old.tables.vertices in
    let known : HasSides old.tables = λ t s.
    side_held places keyed old.tables.borders old.numbers.items h.laid (λ ks i. h.round ks (in_contains keyed ks i))
    old.tables.index.held h.filled.are_held t s in
    let new = c.fill_ring.new.tables in
    record {
      round = subst (λ p. (ks : List ℕ) → Contains (keyed ++ c.args.keys.now ∷ []) ks → IsRound p ks) (sym c.fill_ring.ensures.vertices)
          (each_more (IsRound places) keyed c.args.keys.now h.round c.requires.round);
      laid = subst (λ z. IsLaid c.add_ring.new.self z (keyed ++ c.args.keys.now ∷ [])) (sym c.in_ok-push.ensures.items)
          (laid_more old.tables.borders c.add_ring.new.self old.numbers.items keyed c.in_ok-number.number c.args.keys.now
          (ap (λ m. table.get m c.in_ok-number.number) (sym c.fill_ring.ensures.borders) ∙ c.in_ok-number.ensures.new)
          (c.in_ok-number.ensures.ok ∙ ap (λ m. table.insert m c.in_ok-number.number (edges c.args.keys.now)) c.fill_ring.ensures.borders) h.laid);
      filled = subst (λ p. IsFilled new.index.held c.fill_ring.new.first (segments_along p (keyed ++ c.args.keys.now ∷ []))) (sym c.fill_ring.ensures.vertices)
          (subst (IsFilled new.index.held c.fill_ring.new.first) (along_more places keyed c.args.keys.now)
          (c.in_ok-fill_ring.ensures.filled _ known h.filled));
      size = omega (arith, h.size, sum_by_push length keyed c.args.keys.now);
    }
