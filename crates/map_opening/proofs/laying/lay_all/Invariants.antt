use Rattle.kit_words.proofs.Common.{◌≡◌, take}
use Rattle.map_opening.specs.Common.{lists_seen, AreLaid}
use Rattle.map_opening.proofs.laying.lay_all.Given as goal

-- the rings so far are laid
abbrev pub invariant-loop-keys : goal.invariant-loop-keys
invariant-loop-keys g l = record {
  laid : AreLaid (lists_seen (take l.keys-index l.keyed)) l.opened;
  vertices : l.opened.tables.vertices ≡ l.initial.opened.tables.vertices;
  cells : l.opened.tables.index.cells ≡ l.initial.opened.tables.index.cells;
}
