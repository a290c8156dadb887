-- What coordinates need of a grid, one after another, as the loops find it.
use Rattle.kit_words.proofs.Common.{◌≡◌, ℕ, ◌+◌, ◌<◌, ◌≤◌, List, [], ◌∷◌, Bool, true, false, if◌then◌else◌, refl, sym, ◌∙◌, length, map, drop, get_or}
use Rattle.kit_words.proofs.Common.{append-nil, drop_all, flat_map, next_drop, fold, fold-append}
use Rattle.json_spans.specs.Common.{Node, node, items}
use Rattle.json_spans.specs.declared.span.Span.{Span}
use Rattle.decimal_texts.specs.Common.{first_two, coordinates_of}
use Rattle.grid_reader.specs.Common.{PointNeeds, needs_with}

-- ---- one after another

pub front : (f : Node → List Node) (needs whole : PointNeeds) (n : Node) (ns left : List Node) → left ≡ n ∷ ns
    → fold needs_with needs (flat_map f left) ≡ whole → fold needs_with (fold needs_with needs (f n)) (flat_map f ns) ≡ whole
front f needs whole n ns left e h = sym (fold-append needs_with needs (f n) (flat_map f ns)) ∙ rw e at h

pub ended : (f : Node → List Node) (needs whole : PointNeeds) (left : List Node) → left ≡ []
    → fold needs_with needs (flat_map f left) ≡ whole → needs ≡ whole
ended f needs whole left e h = rw e at h

-- ---- one geometry

pub no_position : (needs : PointNeeds) (b : Bool) (vs : List Node) → [] ≡ vs
    → needs ≡ fold needs_with needs (flat_map first_two (if b then vs else flat_map items vs))
no_position needs true vs e = rw (← e) refl
no_position needs false vs e = rw (← e) refl

pub one_position : (needs new : PointNeeds) (v : Node) (b : Bool) (vs : List Node) → b ≡ true → v ∷ [] ≡ vs
    → new ≡ fold needs_with needs (first_two v) → new ≡ fold needs_with needs (flat_map first_two (if b then vs else flat_map items vs))
one_position needs new v b vs right e is = rw (right, ← e, append-nil (first_two v)) is

pub one_list : (needs new : PointNeeds) (v : Node) (b : Bool) (vs : List Node) → b ≡ false → v ∷ [] ≡ vs
    → new ≡ fold needs_with needs (flat_map first_two (items v)) → new ≡ fold needs_with needs (flat_map first_two (if b then vs else flat_map items vs))
one_list needs new v b vs wrong e is = rw (wrong, ← e, append-nil (items v)) is

-- ---- geometry after geometry

pub turn : (geometries : List Span) (i : ℕ) (g : Span) (needs new whole : PointNeeds) → i < length geometries → g ≡ get_or geometries i g
    → new ≡ fold needs_with needs (coordinates_of (node g)) → fold needs_with needs (flat_map coordinates_of (map node (drop i geometries))) ≡ whole
    → fold needs_with new (flat_map coordinates_of (map node (drop (i + 1) geometries))) ≡ whole
turn geometries i g needs new whole lt is e h =
    rw e (front coordinates_of needs whole (node g) (map node (drop (i + 1) geometries)) (node g ∷ map node (drop (i + 1) geometries)) refl
    (rw (next_drop geometries i g lt is) at h))

pub end : (geometries : List Span) (i : ℕ) (needs whole : PointNeeds) → length geometries ≤ i
    → fold needs_with needs (flat_map coordinates_of (map node (drop i geometries))) ≡ whole → needs ≡ whole
end geometries i needs whole le h = rw (drop_all i geometries le) at h
