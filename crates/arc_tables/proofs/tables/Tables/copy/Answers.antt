use Rattle.kit_words.proofs.Common.{same_from_all_zip}
use Rattle.arc_tables.proofs.CopyLemmas.{cloned_arcs, cloned_rings, cloned_stands}
use Rattle.arc_tables.proofs.tables.Tables.copy.Goals as goal

pub returns-clause-arcs : goal.returns-clause-arcs
returns-clause-arcs g c = cloned_arcs c.args.self.now.arcs c.in_ok-arcs.arcs c.in_ok-arcs.ensures.cases (λ v w h. (same_from_all_zip _ v.keys.items w.keys.items h.0.0 (λ x y e. e), same_from_all_zip _ v.rings.items w.rings.items h.1 (λ x y e. e)))

pub returns-clause-rings : goal.returns-clause-rings
returns-clause-rings g c = cloned_rings c.args.self.now.rings c.in_ok-rings.rings c.in_ok-rings.ensures.cases (λ v w h. same_from_all_zip _ v.uses.items w.uses.items h.0 (λ x y e. e))

pub returns-clause-stands : goal.returns-clause-stands
returns-clause-stands g c = cloned_stands c.args.self.now.stands.items c.in_ok-stands.stands.items c.in_ok-stands.ensures.cases.0 (λ v w h. same_from_all_zip _ v.arcs.items w.arcs.items h (λ x y e. e))
