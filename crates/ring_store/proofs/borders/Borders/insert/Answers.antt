use Rattle.kit_words.proofs.Common.{ℕ, ◌∙◌, sym, ap, subst, option_map}
use Rattle.std.specs.FinMap as map
use Rattle.arc_tables.specs.Common.{over, through, path_of}
use Rattle.ring_store.specs.Common.{Joined}
use Rattle.arc_tables.proofs.Common.{on_ok_map, on_err_map, either_result, edited_everywhere, once_alike}
use Rattle.arc_tables.proofs.Common.{rings_unedited}
use Rattle.arc_tables.proofs.Inserting.{over-turns, once_through}
use Rattle.ring_store.proofs.JoinedLemmas.{each_used, not_joined}
use Rattle.ring_store.proofs.borders.Borders.insert.Goals as goal

pub invariant_of-self : goal.invariant_of-self
invariant_of-self g c =
    let s = c.self.inside.tables in
    let t = c.insert.new.self in
    let unjoined = λ (x : ℕ). not_joined s (each_used s c.self.invariant.whole.known) c.args.q x (subst (λ m. ¬ (Joined m c.args.q x)) (sym c.self.view_is) (c.requires.unjoined x)) in
    record {
      whole = c.insert.ensures.whole;
      once = either_result c.insert.result
          (λ e. once_through c.args.a c.args.b c.args.q c.requires.apart (path_of s) (path_of t) e unjoined c.self.invariant.once)
          (λ e. once_alike (path_of s) (path_of t) e c.self.invariant.once)
          c.insert.ensures.ok c.insert.ensures.err;
    }

pub returns-clause-ok : goal.returns-clause-ok
returns-clause-ok g c =
    let s = c.self.inside.tables in
    let t = c.insert.new.self in
    on_ok_map c.insert.result
    (λ e r. edited_everywhere (over c.args.a c.args.b c.args.q) s t (over-turns c.args.a c.args.b c.args.q) e c.insert.ensures.rings r ∙ ap (λ m. option_map (through c.args.a c.args.b c.args.q) (map.get m r)) c.self.view_is)
    c.insert.ensures.ok

pub returns-clause-err : goal.returns-clause-err
returns-clause-err g c = on_err_map c.insert.result (λ e. rings_unedited c.self.inside.tables c.insert.new.self e c.insert.ensures.rings ∙ c.self.view_is) c.insert.ensures.err
