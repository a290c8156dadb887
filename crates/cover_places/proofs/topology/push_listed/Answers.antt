use Rattle.kit_words.proofs.Common.{arith, sym, ap, ◌∙◌, ◌+◌, ◌++◌, length, map, take, take_all}
use Rattle.std.proofs.Common.{append-nil}
use Rattle.map_text.specs.Common.{commas}
use Rattle.cover_places.specs.Places.{place_seen}
use Rattle.cover_places.specs.Text.{border_text, borders_text, sides_of}
use Rattle.cover_places.proofs.Listed.{borders_more, sides_pushed, so_many_borders, text_step}
use Rattle.cover_places.proofs.topology.push_listed.Goals as goal

pub loop-index-init : goal.loop-index-init
loop-index-init g c = (sym (append-nil c.args.text.now.items), c.requires)

pub loop-index-preserved : goal.loop-index-preserved
loop-index-preserved g c =
    let places = c.args.places.now in
    let i = c.loop-index.index in
    let place = c.index-places-index.result in
    let is = c.index-places-index.is in
    let there = c.loop-index-test.true in
    let count = c.len.result in (
      text_step (borders_text 0 (map place_seen (take i places))) (borders_text 0 (map place_seen (take (i + 1) places))) (border_text count (place_seen place)) i
          (borders_more place_seen places i place there is count (c.len.ensures ∙ c.loop-index.sides.ok.0 ∙ ap length c.loop-index.invariant.1))
          (so_many_borders place_seen places i place there is)
          c.args.text.now.items c.loop-index.text.items c.push_comma.new.text.items c.push_border.new.text.items
          c.loop-index.invariant.0 c.in_ok-push_comma.ensures c.in_ok-push_border.ensures,
      sides_pushed place_seen places i place there is c.loop-index.sides.items c.extend_from_slice.new.self.items c.as_slice.result.now
          c.loop-index.invariant.1 c.in_ok-extend_from_slice.ensures.items c.as_slice.ensures.value,
    )

pub returns-clause-text : goal.returns-clause-text
returns-clause-text g c =
    c.loop-index.invariant.0
    ∙ ap (λ z. c.args.text.now.items ++ commas (borders_text 0 (map place_seen z))) (take_all c.loop-index.index c.args.places.now (omega arith))

pub returns-clause-sides : goal.returns-clause-sides
returns-clause-sides g c =
    c.loop-index.invariant.1 ∙ ap (λ z. sides_of (map place_seen z)) (take_all c.loop-index.index c.args.places.now (omega arith))
