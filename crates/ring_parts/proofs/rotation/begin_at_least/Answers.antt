use Rattle.kit_words.proofs.Common.{◌≡◌, ◌∙◌, ◌++◌, ap, sym, cond, drop, take, reduce, rules}
use Rattle.std.proofs.iter.runs.Made.{chains}
use Rattle.grid_geometry.specs.Common.{position_lt}
use Rattle.ring_parts.proofs.Turning.{turned_at, canonical_by}
use Rattle.ring_parts.proofs.rotation.begin_at_least.Goals as goal

pub returns-in-Some : goal.returns-in-Some
returns-in-Some c =
    let ring = c.args.ring.now in
    let least : c.reduce.result ≡ reduce (λ q p. cond (position_lt p q) p q) ring = search (rules, chains) in
    c.turn_left.ensures
    ∙ ap (λ n. drop n ring ++ take n ring) c.count_before-place.ensures.value
    ∙ turned_at c.in-Some.least ring
    ∙ canonical_by ring c.in-Some.least (sym least ∙ c.in-Some.is)
