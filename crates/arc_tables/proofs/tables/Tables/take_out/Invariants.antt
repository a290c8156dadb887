use Rattle.kit_words.proofs.Common.{◌≡◌, take}
use Rattle.slab.specs.Slab.{get}
use Rattle.arc_tables.specs.Common.{Listed, uses_in}
use Rattle.arc_tables.proofs.TakeLemmas.{Dropped}
use Rattle.arc_tables.proofs.tables.Tables.take_out.Given as goal

abbrev pub invariant-loop-u : goal.invariant-loop-u
invariant-loop-u g l = record {
  dropped : Dropped l.r (take l.u-index (uses_in (get l.fn.self.rings l.r))) l.fn.self.arcs l.self.arcs;
  listed : Listed l.self.arcs l.self.stands.items;
  rings : l.self.rings ≡ l.initial.self.rings;
}
