-- Coordinates, one after another, as a loop meets them.
use Rattle.kit_words.proofs.Common.{◌≡◌, ℕ, ◌+◌, ◌<◌, ◌≤◌, List, [], ◌∷◌, ◌++◌, Bool, true, false, if◌then◌else◌, refl, length, map, drop, get_or}
use Rattle.kit_words.proofs.Common.{append_assoc, append-nil, drop_all, flat_map, next_drop}
use Rattle.json_spans.specs.Common.{Node, node, items}
use Rattle.json_spans.specs.declared.span.Span.{Span}
use Rattle.decimal_texts.specs.Common.{first_two, coordinates_of}

-- ---- positions

pub no_position : (b : Bool) (vs old : List Node) → [] ≡ vs → old ≡ old ++ flat_map first_two (if b then vs else flat_map items vs)
no_position true vs old e = rw (← e, append-nil old) refl
no_position false vs old e = rw (← e, append-nil old) refl

pub one_position : (v : Node) (b : Bool) (vs old new : List Node) → b ≡ true → v ∷ [] ≡ vs → new ≡ old ++ first_two v
    → new ≡ old ++ flat_map first_two (if b then vs else flat_map items vs)
one_position v b vs old new right e is = rw (right, ← e, append-nil (first_two v)) is

pub one_list : (v : Node) (b : Bool) (vs old new : List Node) → b ≡ false → v ∷ [] ≡ vs → new ≡ old ++ flat_map first_two (items v)
    → new ≡ old ++ flat_map first_two (if b then vs else flat_map items vs)
one_list v b vs old new wrong e is = rw (wrong, ← e, append-nil (items v)) is

-- ---- one geometry after another

pub turn : (geometries : List Span) (i : ℕ) (g : Span) (old new : List Node) (whole : List Node) → i < length geometries → g ≡ get_or geometries i g
    → new ≡ old ++ coordinates_of (node g) → old ++ flat_map coordinates_of (map node (drop i geometries)) ≡ whole
    → new ++ flat_map coordinates_of (map node (drop (i + 1) geometries)) ≡ whole
turn geometries i g old new whole lt is e h =
    rw (e, append_assoc old (coordinates_of (node g)) (flat_map coordinates_of (map node (drop (i + 1) geometries))))
    (rw (next_drop geometries i g lt is) at h)

pub end : (geometries : List Span) (i : ℕ) (old whole : List Node) → length geometries ≤ i
    → old ++ flat_map coordinates_of (map node (drop i geometries)) ≡ whole → old ≡ whole
end geometries i old whole le h = rw (drop_all i geometries le, append-nil old) at h
