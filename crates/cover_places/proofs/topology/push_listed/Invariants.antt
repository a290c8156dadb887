use Rattle.kit_words.proofs.Common.{◌≡◌, ◌++◌, map, take}
use Rattle.map_text.specs.Common.{commas}
use Rattle.cover_places.specs.Places.{place_seen}
use Rattle.cover_places.specs.Text.{borders_text, sides_of}
use Rattle.cover_places.proofs.topology.push_listed.Given as goal

-- the borders so far, and their sides
abbrev pub invariant-loop-index : goal.invariant-loop-index
invariant-loop-index g l =
    (l.text.items ≡ l.fn.text.items ++ commas (borders_text 0 (map place_seen (take l.index l.places))))
    × (l.sides.items ≡ sides_of (map place_seen (take l.index l.places)))
