use Rattle.kit_words.proofs.Common.{◌≡◌, ◌++◌, List, codes, length, nat_lt}
use Rattle.json_spans.specs.Common.{items, items_left, node}
use Rattle.ring_machine.specs.Common.{Text}
use Rattle.map_text.specs.Common.{commas}
use Rattle.geo_features.specs.Faults.{each}
use Rattle.geo_features.specs.Points.{point_position}
use Rattle.geo_features.specs.Seen.{view_style}
use Rattle.geo_features.proofs.Walking.{with_front}
use Rattle.geo_features.proofs.points.push_positions.Given as goal

abbrev pub invariant-loop-position : goal.invariant-loop-position
invariant-loop-position g l = record {
  done : List Text;
  more : l.more ≡ nat_lt 0 (length done);
  text : l.text.items ≡ (l.fn.text.items ++ codes "[") ++ commas done;
  rest : with_front done (each (point_position (view_style l.fn.style) l.fn.number) (items_left l.position-iterator)) ≡ each (point_position (view_style l.fn.style) l.fn.number) (items (node l.fn.value));
}
