use Rattle.kit_words.proofs.Common.{◌≡◌, ◌∙◌, sym, cond, not, filter, reduce, rules}
use Rattle.std.proofs.iter.runs.Made.{chains}
use Rattle.grid_geometry.specs.Common.{position_lt}
use Rattle.ring_machine.specs.Common.{has}
use Rattle.ring_parts.proofs.Turning.{goes_by}
use Rattle.ring_parts.proofs.membership.Members.goes_first.Goals as goal

pub returns-in-Some : goal.returns-in-Some
returns-in-Some g c =
    let ring = c.args.self.now.ring.now in
    let least : c.reduce.result ≡ reduce (λ q p. cond (position_lt p q) p q) (filter (λ p. not (has ring p)) c.args.hole.now) = search (rules, chains) in
    c.inside.ensures ∙ sym (goes_by ring c.args.hole.now c.in-Some.w (sym least ∙ c.in-Some.is))
