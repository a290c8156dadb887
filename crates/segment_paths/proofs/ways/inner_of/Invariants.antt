use Rattle.kit_words.proofs.Common.{List, ◌<◌, ◌<ℤ◌, length, All}
use Rattle.grid_geometry.specs.Common.{Segment}
use Rattle.segment_paths.specs.Near.{along}
use Rattle.segment_paths.specs.Common.{IsKnown, IsStop}
use Rattle.segment_paths.proofs.Led.{IsLed}
use Rattle.segment_paths.proofs.ways.inner_of.Given as goal

abbrev pub invariant-loop-stop : goal.invariant-loop-stop
invariant-loop-stop g l = record {
  led : IsLed l.segment l.inner.items (along l.segment l.last);
  known : (ss : List Segment) → All (IsStop ss) l.stops → All (IsKnown ss) l.inner.items;
  short : 0 < length l.inner.items → along l.segment l.last <ℤ along l.segment l.end;
}
