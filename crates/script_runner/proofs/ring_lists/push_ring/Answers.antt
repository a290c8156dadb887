use Rattle.kit_words.proofs.Common.{◌∙◌, sym, map}
use Rattle.map_text.specs.Common.{commas, pair_text}
use Rattle.script_runner.proofs.ListLemmas.{between, ring_shown, no_ring_shown}
use Rattle.script_runner.proofs.ring_lists.push_ring.Goals as goal

pub returns-in_default : goal.returns-in_default
returns-in_default g c =
    no_ring_shown c.args.map.now.doc c.args.f c.args.polygon c.args.ring (sym c.in_default.is ∙ c.ring.ensures) c.args.text.now.items c.extend_from_slice.new.self.items c.in_ok-extend_from_slice.ensures.items

pub returns : goal.returns
returns g c =
    ring_shown c.args.map.now.doc c.args.f c.args.polygon c.args.ring c.in-Some.positions (sym c.in-Some.is ∙ c.ring.ensures) c.args.text.now.items c.extend_from_slice-3.new.self.items
    (between (commas (map pair_text c.in-Some.positions)) c.args.text.now.items c.extend_from_slice-2.new.self.items c.push_positions.new.text.items c.extend_from_slice-3.new.self.items
    c.in_ok-extend_from_slice-2.ensures.items c.in_ok-push_positions.ensures c.in_ok-extend_from_slice-3.ensures.items)
