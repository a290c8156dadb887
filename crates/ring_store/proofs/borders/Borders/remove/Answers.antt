use Rattle.kit_words.proofs.Common.{ℕ, ◌∙◌, sym, ap, subst, option_map}
use Rattle.std.specs.FinMap as map
use Rattle.arc_tables.specs.Common.{drawn, collapsed, path_of}
use Rattle.ring_store.specs.Common.{Joined}
use Rattle.arc_tables.proofs.Common.{on_ok_map, on_err_map, either_result, edited_everywhere, once_alike}
use Rattle.arc_tables.proofs.Common.{rings_unedited, drawn-turns, once_collapsed}
use Rattle.ring_store.proofs.JoinedLemmas.{each_used, not_joined, arc_joined}
use Rattle.ring_store.proofs.borders.Borders.remove.Goals as goal

pub invariant_of-self : goal.invariant_of-self
invariant_of-self g c =
    let s = c.self.inside.tables in
    let t = c.remove.new.self in
    let used = each_used s c.self.invariant.whole.known in
    let unjoined = λ (i : ℕ). not_joined s used c.args.a c.args.b (subst (λ m. ¬ (Joined m c.args.a c.args.b)) (sym c.self.view_is) c.requires.unjoined) i in
    record {
      whole = c.remove.ensures.whole;
      once = either_result c.remove.result
          (λ e. once_collapsed c.args.a c.args.b c.args.p c.requires.apart (path_of s) (path_of t) e (λ i. ((λ x h. c.requires.between x (subst (λ m. Joined m c.args.p x) c.self.view_is (arc_joined s used c.args.p x i h))), unjoined i)) c.self.invariant.once)
          (λ e. once_alike (path_of s) (path_of t) e c.self.invariant.once)
          c.remove.ensures.ok c.remove.ensures.err;
    }

pub returns-clause-ok : goal.returns-clause-ok
returns-clause-ok g c =
    let s = c.self.inside.tables in
    let t = c.remove.new.self in
    on_ok_map c.remove.result
    (λ e r. edited_everywhere (drawn c.args.p c.args.b) s t (drawn-turns c.args.p c.args.b) e c.remove.ensures.rings r ∙ ap (λ m. option_map (collapsed c.args.p c.args.b) (map.get m r)) c.self.view_is)
    c.remove.ensures.ok

pub returns-clause-err : goal.returns-clause-err
returns-clause-err g c = on_err_map c.remove.result (λ e. rings_unedited c.self.inside.tables c.remove.new.self e c.remove.ensures.rings ∙ c.self.view_is) c.remove.ensures.err
