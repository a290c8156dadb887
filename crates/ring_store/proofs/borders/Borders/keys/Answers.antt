use Rattle.kit_words.proofs.Common.{Some, option_map, ap, sym, ◌∙◌, option_copied}
use Rattle.std.specs.FinMap as map
use Rattle.arc_tables.specs.Common.{begins, chain, path_of}
use Rattle.ring_store.proofs.KeysLeft.{keys_here}
use Rattle.arc_tables.proofs.Common.{none_there}
use Rattle.ring_store.proofs.borders.Borders.keys.Goals as goal

pub returns : goal.returns
returns g c =
    let t = c.self.inside.tables in
    let ring = c.in_ok-ring.ring.now in
    ap (λ z. Some z) (ap (λ us. begins (chain (path_of t) us)) c.as_slice.ensures.value)
    ∙ keys_here t c.args.r ring (ap option_copied (sym c.in_ok-ring.was) ∙ c.get.ensures)
    ∙ ap (λ m. option_map begins (map.get m c.args.r)) c.self.view_is

pub returns-in_err-ring : goal.returns-in_err-ring
returns-in_err-ring g c =
    let t = c.self.inside.tables in
    c.from_residual.ensures ∙ ap (option_map begins) (sym (none_there t c.args.r (sym c.get.ensures ∙ ap option_copied c.in_err-ring.was))
    ∙ ap (λ m. map.get m c.args.r) c.self.view_is)
