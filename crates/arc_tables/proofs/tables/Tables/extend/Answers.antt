use Rattle.kit_words.proofs.Common.{◌≡◌, ◌∙◌, ◌++◌, ◌∷◌, [], ap, refl, sym, Some, option_copied_mut}
use Rattle.slab.specs.Slab.{get, with_value}
use Rattle.slab.proofs.SlabLemmas.{Updates-with_value}
use Rattle.arc_tables.specs.Common.{Arc, path_in, users_in}
use Rattle.arc_tables.proofs.WholeLemmas.{whole_alike, whole_longer, whole_same}
use Rattle.arc_tables.proofs.Writes.{listed_now, rekeyed_users, same_paths}
use Rattle.arc_tables.proofs.tables.Tables.extend.Goals as goal

pub returns-in_err-list_arc-clause-whole : goal.returns-in_err-list_arc-clause-whole
returns-in_err-list_arc-clause-whole g c = whole_alike c.args.self.now (record c.args.self.now { stands = c.list_arc.new.stands }) (λ j. refl) (λ k. refl) c.list_arc.ensures.kept c.requires.whole

pub returns-in_err-push_key-clause-whole : goal.returns-in_err-push_key-clause-whole
returns-in_err-push_key-clause-whole g c =
    let s = c.args.self.now in
    let n = c.args.n in
    let v : Arc g.row.A.Denot = record c.unwrap-arc.result.now { keys = c.push_key.new.keys } in
    let is : Some c.unwrap-arc.result.now ≡ get s.arcs n = sym (ap option_copied_mut c.unwrap-arc.ensures) ∙ c.get_mut.ensures.value in
    whole_same s (record s { arcs = with_value s.arcs n v; stands = c.list_arc.new.stands })
    (same_paths s.arcs n v c.requires.there (c.in_err-push_key.ensures.err ∙ ap path_in is)) (rekeyed_users s.arcs n v c.requires.there (ap users_in is)) (λ k. refl) c.list_arc.ensures.kept c.requires.whole

pub returns-clause-whole : goal.returns-clause-whole
returns-clause-whole g c =
    let s = c.args.self.now in
    let n = c.args.n in
    let v : Arc g.row.A.Denot = record c.unwrap-arc.result.now { keys = c.push_key.new.keys } in
    let is : Some c.unwrap-arc.result.now ≡ get s.arcs n = sym (ap option_copied_mut c.unwrap-arc.ensures) ∙ c.get_mut.ensures.value in
    let u = Updates-with_value s.arcs n v c.requires.there in
    whole_longer s (record s { arcs = with_value s.arcs n v; stands = c.list_arc.new.stands }) n c.args.b (rekeyed_users s.arcs n v c.requires.there (ap users_in is)) (λ k. refl)
    (ap path_in u.changed ∙ c.in_ok-push_key.ensures.ok ∙ ap (λ o. path_in o ++ c.args.b ∷ []) is) u.others c.list_arc.ensures.kept
    (listed_now s.stands.items c.list_arc.new.stands.items c.args.b n c.in_ok-list_arc.ensures.listed) c.requires.whole
