use Rattle.kit_words.proofs.Common.{◌≡◌, ℕ, List, ◌++◌, Contains, vec_len}
use Rattle.slab.specs.Slab.{get, ContainsKey}
use Rattle.arc_tables.specs.Common.{NewUses, uses_in, IsPut, SameKeys}
use Rattle.arc_tables.proofs.cutting.put_uses.Given as goal

abbrev pub invariant-loop-new : goal.invariant-loop-new
invariant-loop-new g l = record {
  there : (e : NewUses _) → Contains l.news.items e → ContainsKey l.rings e.ring;
  done : List (NewUses g.row.A.Denot);
  parts : l.fn.news.items ≡ l.news.items ++ done;
  held : SameKeys l.fn.rings l.rings;
  put : (r : ℕ) → IsPut done r (uses_in (get l.fn.rings r)) (uses_in (get l.rings r));
}

abbrev pub decreases-loop-new : goal.decreases-loop-new
decreases-loop-new g l = vec_len l.news
