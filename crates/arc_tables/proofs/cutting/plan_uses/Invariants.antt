use Rattle.kit_words.proofs.Common.{ℕ, take, Contains}
use Rattle.slab.specs.Slab.{ContainsKey}
use Rattle.arc_tables.specs.Common.{NewUses, HasRing, Doubles}
use Rattle.arc_tables.proofs.cutting.plan_uses.Given as goal

abbrev pub invariant-loop-r : goal.invariant-loop-r
invariant-loop-r g l = record {
  each : (e : NewUses _) → Contains l.news.items e → Doubles l.rings l.i l.n e;
  all : (r : ℕ) → Contains (take l.r-index l.users) r → ContainsKey l.rings r → HasRing l.news.items r;
}
