use Rattle.kit_words.proofs.Common.{◌∙◌, sym, subst, Contains, inl, inr}
use Rattle.arc_tables.specs.Common.{path_of, links}
use Rattle.arc_tables.proofs.Finding.{none_unless, if_none_map}
use Rattle.arc_tables.proofs.Segments.{times_comm}
use Rattle.arc_tables.proofs.tables.Tables.find.Goals as goal

pub returns-clause-none : goal.returns-clause-none
returns-clause-none g c =
    let a = c.args.a in
    let b = c.args.b in
    elim c.fewer_arcs-among.ensures [
      | inl e ↦ if_none_map c.find_among.result (λ none j. none_unless a b (path_of c.args.self.now j) (λ m. none j (subst (λ z. Contains z j) (sym e) (c.requires.listed j a m)))) c.find_among.ensures.none
      | inr e ↦ if_none_map c.find_among.result (λ none j. times_comm a b (links (path_of c.args.self.now j)) ∙ none_unless b a (path_of c.args.self.now j) (λ m. times_comm b a (links (path_of c.args.self.now j)) ∙ none j (subst (λ z. Contains z j) (sym e) (c.requires.listed j b m)))) c.find_among.ensures.none
    ]
