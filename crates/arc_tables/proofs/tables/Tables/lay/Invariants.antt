use Rattle.kit_words.proofs.Common.{◌≤◌, ◌+◌, ◌-◌, length, take, get_or, IfSome}
use Rattle.slab.specs.Slab.{ContainsKey}
use Rattle.arc_tables.specs.Common.{links, Grows, store, Whole, IsOpen, SameKeys}
use Rattle.arc_tables.proofs.tables.Tables.lay.Given as goal

abbrev pub invariant-loop-at : goal.invariant-loop-at
invariant-loop-at g l = record {
  within : l.at + 1 ≤ length l.keys;
  grown : Grows l.r (links (take (l.at + 1) l.keys)) (store l.fn.self) (store l.self);
  whole : Whole l.self;
  making : IsOpen l.self l.r l.making (get_or l.keys l.at 0);
  making_there : IfSome l.making (λ n. ContainsKey l.self.arcs n);
  held : SameKeys l.fn.self.rings l.self.rings;
}

abbrev pub decreases-loop-at : goal.decreases-loop-at
decreases-loop-at g l = length l.keys - l.at
