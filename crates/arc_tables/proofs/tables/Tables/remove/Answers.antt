use Rattle.kit_words.proofs.Common.{refl, sym, ◌∙◌, subst, Contains}
use Rattle.slab.specs.Slab.{get}
use Rattle.arc_tables.specs.Common.{CollapsesAmong, path_in, stand_at}
use Rattle.arc_tables.proofs.Growing.{known_alike}
use Rattle.arc_tables.proofs.Removing.{collapsed_arcs, listed_collapsed}
use Rattle.arc_tables.proofs.tables.Tables.remove.Goals as goal

pub returns-clause-ok : goal.returns-clause-ok
returns-clause-ok g c =
    let s = c.args.self.now in
    let p = c.args.p in
    let among = c.as_slice-2.ensures.value ∙ c.in_ok-among.ensures.items ∙ c.arcs_at.ensures in
    collapsed_arcs s.arcs c.collapse_all.new.arcs (stand_at s.stands.items p) p c.args.b
    (λ j. subst (λ z. CollapsesAmong z j p c.args.b (path_in (get s.arcs j)) (path_in (get c.collapse_all.new.arcs j))) among (c.collapse_all.ensures.paths j))
    (λ j m. c.requires.whole.listed j p m)

pub returns-clause-whole : goal.returns-clause-whole
returns-clause-whole g c =
    let s = c.args.self.now in
    let p = c.args.p in
    let items = c.in_ok-among.ensures.items ∙ c.arcs_at.ensures in
    let among = c.as_slice-2.ensures.value ∙ items in
    record {
      known = known_alike s.arcs c.collapse_all.new.arcs s.rings s.rings c.collapse_all.ensures.users (λ r. refl) c.requires.whole.known;
      listed = listed_collapsed s.arcs c.collapse_all.new.arcs s.stands.items c.list_arcs.new.stands.items c.forget_arcs.new.stands.items p c.args.b
          (λ j. subst (λ z. CollapsesAmong z j p c.args.b (path_in (get s.arcs j)) (path_in (get c.collapse_all.new.arcs j))) among (c.collapse_all.ensures.paths j))
          c.requires.apart c.list_arcs.ensures.kept (λ i m. c.in_ok-list_arcs.ensures.listed i (subst (λ z. Contains z i) (sym (c.as_slice.ensures.value ∙ items)) m)) c.forget_arcs.ensures c.requires.whole.listed;
    }
