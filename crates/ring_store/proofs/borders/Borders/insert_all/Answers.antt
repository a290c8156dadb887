use Rattle.kit_words.proofs.Common.{ℕ, ◌≡◌, ◌<◌, ◌^◌, ◌∙◌, sym, ap, subst, IfOk, option_map}
use Rattle.std.specs.FinMap as map
use Rattle.arc_tables.specs.Common.{links, IsOff, throughs, gained, path_of}
use Rattle.ring_store.specs.Common.{Joined}
use Rattle.arc_tables.proofs.Common.{on_ok_map, on_err_map, puts_map, put_everywhere, rings_linked}
use Rattle.ring_store.proofs.JoinedLemmas.{each_used, not_joined}
use Rattle.ring_store.proofs.borders.Borders.insert_all.Goals as goal

pub insert_all-requires-clause-fits : goal.insert_all-requires-clause-fits
insert_all-requires-clause-fits g c =
    let s = c.self.inside.tables in
    puts_map (λ q. (x : ℕ) → ¬ (Joined c.args.self.now q x)) (λ q. (i : ℕ) → IsOff q (links (path_of s i)))
    (λ q h i x. not_joined s (each_used s c.self.invariant.whole.known) q x (subst (λ m. ¬ (Joined m q x)) (sym c.self.view_is) (h x)) i)
    c.args.puts.now c.requires.fits

pub insert_all-requires-clause-few : goal.insert_all-requires-clause-few
insert_all-requires-clause-few g c = subst (λ m. gained c.args.puts.now (map.values m) < 2 ^ 64) (sym c.self.view_is) c.requires.few

pub returns-clause-count : goal.returns-clause-count
returns-clause-count g c =
    subst (λ m. IfOk c.insert_all.result (λ n. n ≡ gained c.args.puts.now (map.values m))) c.self.view_is c.insert_all.ensures.count

pub returns-clause-ok : goal.returns-clause-ok
returns-clause-ok g c =
    let s = c.self.inside.tables in
    on_ok_map c.insert_all.result
    (λ e r. put_everywhere c.args.puts.now s c.insert_all.new.self e c.insert_all.ensures.rings r ∙ ap (λ m. option_map (throughs c.args.puts.now) (map.get m r)) c.self.view_is)
    c.insert_all.ensures.ok

pub returns-clause-err : goal.returns-clause-err
returns-clause-err g c = on_err_map c.insert_all.result (λ e. rings_linked c.self.inside.tables c.insert_all.new.self e c.insert_all.ensures.rings ∙ c.self.view_is) c.insert_all.ensures.err
