use Rattle.kit_words.proofs.Common.{◌≡◌, ◌++◌, List, codes, length, min}
use Rattle.json_spans.specs.Common.{items, items_left, node}
use Rattle.ring_machine.specs.Common.{Text}
use Rattle.map_text.specs.Common.{commas}
use Rattle.geo_features.specs.Faults.{each_at}
use Rattle.geo_features.specs.Points.{number_at}
use Rattle.geo_features.specs.Seen.{view_style}
use Rattle.geo_features.proofs.Walking.{with_front}
use Rattle.geo_features.proofs.points.push_position.Given as goal

abbrev pub invariant-loop-part : goal.invariant-loop-part
invariant-loop-part g l = record {
  done : List Text;
  place : l.i ≡ min (length done) 18446744073709551615;
  text : l.text.items ≡ (l.fn.text.items ++ codes "[") ++ commas done;
  rest : with_front done (each_at (number_at (view_style l.fn.style) l.fn.number) (length done) (items_left l.part-iterator)) ≡ each_at (number_at (view_style l.fn.style) l.fn.number) 0 (items (node l.fn.position));
}
