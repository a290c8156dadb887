use Rattle.kit_words.proofs.Common.{◌≡◌, ℕ, ◌≤◌, length, take}
use Rattle.arc_tables.specs.Common.{Once, links, taken_back, WerePut, path_of, Whole}
use Rattle.arc_tables.proofs.tables.Tables.take_back_all.Given as goal

-- so many are left
abbrev pub invariant-loop-left : goal.invariant-loop-left
invariant-loop-left g l = record {
  within : l.left ≤ length l.puts;
  whole : Whole l.self;
  once : Once (path_of l.self);
  put : WerePut (take l.left l.puts) (path_of l.self);
  back : (i : ℕ) → taken_back (take l.left l.puts) (links (path_of l.self i)) ≡ taken_back l.puts (links (path_of l.fn.self i));
  rings : l.self.rings ≡ l.fn.self.rings;
}

abbrev pub decreases-loop-left : goal.decreases-loop-left
decreases-loop-left g l = l.left
