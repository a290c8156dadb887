-- Sides with the labels of their faces.
use Rattle.std.specs.Prelude.{◌≡◌, ℕ, List}
use Rattle.std.specs.List.{All}
use Rattle.std.specs.Ordering.{nat_cmp, ordering_then}
use Rattle.std.specs.declared.cmp.Ordering.{Ordering}
use Rattle.layer_faces.specs.declared.order.Labelled.{Labelled}

-- the side
abbrev pub side_of : Labelled → ℕ
side_of next = next.side

-- the order by the label, then by the side
abbrev pub labelled_cmp : Labelled → Labelled → Ordering
labelled_cmp a b = ordering_then (nat_cmp a.label b.label) (nat_cmp a.side b.side)

-- all have one label
abbrev pub HaveOneLabel : List Labelled → Type 0
HaveOneLabel order = (label : ℕ) × All (λ next. next.label ≡ label) order
