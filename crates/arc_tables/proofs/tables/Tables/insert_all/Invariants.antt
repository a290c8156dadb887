use Rattle.kit_words.proofs.Common.{◌≡◌, ℕ, take}
use Rattle.arc_tables.specs.Common.{Once, links, throughs, rings_of, path_of, Whole}
use Rattle.arc_tables.proofs.Gaining.{GainsSoFar}
use Rattle.arc_tables.proofs.tables.Tables.insert_all.Given as goal

-- so many are put in
abbrev pub invariant-loop-at : goal.invariant-loop-at
invariant-loop-at g l = record {
  whole : Whole l.self;
  once : Once (path_of l.self);
  put : (i : ℕ) → links (path_of l.self i) ≡ throughs (take l.at l.puts) (links (path_of l.fn.self i));
  rings : l.self.rings ≡ l.fn.self.rings;
  gained : GainsSoFar l.count l.puts l.at (rings_of l.fn.self) (rings_of l.self);
}
