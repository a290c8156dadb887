use Rattle.kit_words.proofs.Common.{◌≡◌, ◌+◌, ◌∙◌, ap, refl, sym, subst, Contains, Some, option_copied_mut, on_err}
use Rattle.std.specs.List.{insert}
use Rattle.slab.specs.Slab.{get, with_value}
use Rattle.slab.proofs.SlabLemmas.{Updates-with_value}
use Rattle.arc_tables.specs.Common.{Arc, links, path_in, path_of, users_in}
use Rattle.arc_tables.proofs.Growing.{known_alike}
use Rattle.arc_tables.proofs.EditLemmas.{listed_edited}
use Rattle.arc_tables.proofs.Inserting.{inserted_arcs, untouched, in_inserted}
use Rattle.arc_tables.proofs.WholeLemmas.{whole_same}
use Rattle.arc_tables.proofs.Writes.{listed_now, rekeyed_users, same_paths}
use Rattle.arc_tables.proofs.tables.Tables.insert.Goals as goal

pub returns-clause-ok : goal.returns-clause-ok
returns-clause-ok g c =
    let p = c.in-Some.place in
    let arcs = c.args.self.now.arcs in
    let v : Arc g.row.A.Denot = record c.unwrap-arc.result.now { keys = c.insert.new.self } in
    let is : Some c.unwrap-arc.result.now ≡ get arcs p.arc = sym (ap option_copied_mut c.unwrap-arc.ensures) ∙ c.get_mut.ensures.value in
    let u = Updates-with_value arcs p.arc v c.in-Some.ensures.there in
    inserted_arcs arcs (with_value arcs p.arc v) p.arc c.args.a c.args.b c.args.q p.at p.back c.in-Some.ensures.some c.requires.once
    (ap path_in u.changed ∙ c.in_ok-insert.ensures.items ∙ ap (λ o. insert (path_in o) (p.at + 1) c.args.q) is) u.others

pub returns-clause-whole : goal.returns-clause-whole
returns-clause-whole g c =
    let p = c.in-Some.place in
    let s = c.args.self.now in
    let v : Arc g.row.A.Denot = record c.unwrap-arc.result.now { keys = c.insert.new.self } in
    let is : Some c.unwrap-arc.result.now ≡ get s.arcs p.arc = sym (ap option_copied_mut c.unwrap-arc.ensures) ∙ c.get_mut.ensures.value in
    let u = Updates-with_value s.arcs p.arc v c.in-Some.ensures.there in
    let now : path_in (get (with_value s.arcs p.arc v) p.arc) ≡ insert (path_in (get s.arcs p.arc)) (p.at + 1) c.args.q = ap path_in u.changed ∙ c.in_ok-insert.ensures.items ∙ ap (λ o. insert (path_in o) (p.at + 1) c.args.q) is in
    record {
      known = known_alike s.arcs (with_value s.arcs p.arc v) s.rings s.rings (rekeyed_users s.arcs p.arc v c.in-Some.ensures.there (ap users_in is)) (λ r. refl) c.requires.whole.known;
      listed = listed_edited s.arcs (with_value s.arcs p.arc v) s.stands.items c.list_arc.new.stands.items p.arc c.args.q
          (λ k m. in_inserted (path_in (get s.arcs p.arc)) (p.at + 1) c.args.q k (subst (λ z. Contains z k) now m))
          u.others c.list_arc.ensures.kept (listed_now s.stands.items c.list_arc.new.stands.items c.args.q p.arc c.in_ok-list_arc.ensures.listed) c.requires.whole.listed;
    }

pub returns-in_err-insert-clause-whole : goal.returns-in_err-insert-clause-whole
returns-in_err-insert-clause-whole g c =
    let p = c.in-Some.place in
    let s = c.args.self.now in
    let v : Arc g.row.A.Denot = record c.unwrap-arc.result.now { keys = c.insert.new.self } in
    let is : Some c.unwrap-arc.result.now ≡ get s.arcs p.arc = sym (ap option_copied_mut c.unwrap-arc.ensures) ∙ c.get_mut.ensures.value in
    whole_same s (record s { arcs = with_value s.arcs p.arc v; stands = c.list_arc.new.stands })
    (same_paths s.arcs p.arc v c.in-Some.ensures.there (c.in_err-insert.ensures.items ∙ ap path_in is)) (rekeyed_users s.arcs p.arc v c.in-Some.ensures.there (ap users_in is)) (λ k. refl) c.list_arc.ensures.kept c.requires.whole

pub returns-in_err-insert-clause-err : goal.returns-in_err-insert-clause-err
returns-in_err-insert-clause-err g c =
    let p = c.in-Some.place in
    let s = c.args.self.now in
    let v : Arc g.row.A.Denot = record c.unwrap-arc.result.now { keys = c.insert.new.self } in
    let is : Some c.unwrap-arc.result.now ≡ get s.arcs p.arc = sym (ap option_copied_mut c.unwrap-arc.ensures) ∙ c.get_mut.ensures.value in
    on_err c.from_residual-in_err-insert.result (same_paths s.arcs p.arc v c.in-Some.ensures.there (c.in_err-insert.ensures.items ∙ ap path_in is))

pub returns-in_default-clause-ok : goal.returns-in_default-clause-ok
returns-in_default-clause-ok g c = λ i. sym (untouched c.args.a c.args.b c.args.q (links (path_of c.args.self.now i)) (c.in_default.ensures.none i))
