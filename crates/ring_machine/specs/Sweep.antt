-- Which edits sweep over a position that is to keep its side.
use Rattle.std.specs.Prelude.{Bool, not, ◌&&◌, ◌||◌, List, [], ◌∷◌}
use Rattle.std.specs.List.{list_any}
use Rattle.grid_geometry.specs.Common.{Position, segment, is_end, conflict, is_held}
use Rattle.ring_machine.specs.Ring.{has}
use Rattle.ring_machine.specs.Document.{Document}
use Rattle.ring_machine.specs.Parts.{positions, all_segments}
use Rattle.ring_machine.specs.Vertices.{around}

-- the triangle a, b, c holds a position of the document that is not among these
abbrev pub holds_other : Document → List Position → Position → Position → Position → Bool
holds_other d these a b c = list_any (λ w. not (has these w) && is_held w a b c) (positions d)

-- the way from p to q conflicts with a segment that does not end at p
abbrev pub crosses_on_way : Document → Position → Position → Bool
crosses_on_way d p q =
    list_any (λ t. not (is_end p t) && conflict (segment p q) t) (all_segments d)

-- the edge between p and its neighbour a sweeps over a position when p moves to q
abbrev pub edge_sweeps : Document → Position → Position → Position → Bool
edge_sweeps d p q a = holds_other d (a ∷ p ∷ []) a p q

-- moving p to q: an edge at p sweeps over a position, or p itself passes over a segment
unfoldable pub move_sweeps : Document → Position → Position → Bool
move_sweeps d p q =
    list_any (λ s. edge_sweeps d p q s.lo || edge_sweeps d p q s.hi) (around d p)
    || crosses_on_way d p q

-- inserting q: the border between a and b, led over q, sweeps over a position
unfoldable pub insert_sweeps : Document → Position → Position → Position → Bool
insert_sweeps d a b q = holds_other d (a ∷ b ∷ []) a b q

-- removing p: the border between the neighbours of p, led past p, sweeps over a position
unfoldable pub remove_sweeps : Document → Position → Bool
remove_sweeps d p =
    list_any (λ s. holds_other d (s.lo ∷ p ∷ s.hi ∷ []) s.lo p s.hi) (around d p)
