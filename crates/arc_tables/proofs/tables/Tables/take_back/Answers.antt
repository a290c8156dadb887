use Rattle.kit_words.proofs.Common.{refl, sym, arith}
use Rattle.arc_tables.specs.Common.{links, path_of}
use Rattle.arc_tables.proofs.Growing.{known_alike}
use Rattle.arc_tables.proofs.EditLemmas.{listed_edited}
use Rattle.arc_tables.proofs.Putting.{unmoved, off_unless, second_there, collapsed_at}
use Rattle.arc_tables.proofs.tables.Tables.take_back.Goals as goal

pub returns-in-Some-clause-ok : goal.returns-in-Some-clause-ok
returns-in-Some-clause-ok g c =
    let p = c.in-Some.place in
    collapsed_at c.args.self.now.arcs c.collapse_arc.new.arcs p.arc c.args.q c.args.b p.at p.back c.in-Some.ensures.some c.requires.once c.requires.beside c.collapse_arc.ensures.here c.collapse_arc.ensures.others

pub returns-in-Some-clause-whole : goal.returns-in-Some-clause-whole
returns-in-Some-clause-whole g c =
    let p = c.in-Some.place in
    let s = c.args.self.now in
    let arcs = c.collapse_arc.new.arcs in
    record {
      known = known_alike s.arcs arcs s.rings s.rings c.collapse_arc.ensures.users (λ r. refl) c.requires.whole.known;
      listed = listed_edited s.arcs arcs s.stands.items s.stands.items p.arc c.args.b (λ k m. (c.collapse_arc.ensures.here.keys k m).1) c.collapse_arc.ensures.others (λ j m x. x)
          (c.requires.whole.listed p.arc c.args.b (second_there c.args.q c.args.b p.at p.back (path_of s p.arc) c.in-Some.ensures.some)) c.requires.whole.listed;
    }

pub returns-in_default-clause-ok : goal.returns-in_default-clause-ok
returns-in_default-clause-ok g c = λ i.
    let es = links (path_of c.args.self.now i) in
    sym (unmoved c.args.q c.args.b es (off_unless c.args.q c.args.b es (c.requires.beside i) (λ k. absurd (omega (arith, k, c.in_default.ensures.none i)))))
