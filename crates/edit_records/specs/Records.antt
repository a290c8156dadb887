-- What takes a change back: a record of it, the document before it, and when a record fits.
use Rattle.std.specs.Prelude.{ℕ, ◌≡◌, ◌≢◌, ◌≤◌, ◌<◌, ◌==◌, true, false, IsTrue, if◌then◌else◌}
use Rattle.std.specs.Prelude.{List, [], ◌∷◌, map, Option, Some}
use Rattle.std.specs.List.{fold}
use Rattle.grid_geometry.specs.Common.{Position, segment}
use Rattle.ring_machine.specs.Common.{DocumentOf, Document, Feature, Text, has_feature, in_features, is_vertex}
use Rattle.ring_machine.specs.Common.{is_segment, size, put, ins, del, is_junction, Proper, are_long, is_bridged}
use Rattle.ring_machine.specs.Common.{are_distinct, WellFormed}
use Rattle.edit_records.specs.Places.{LayerTree, Fills, exchanged}

-- a vertex that was left out, and its two neighbours
pub record Removal : Type 0 where
  pub at : Position
  pub a : Position
  pub b : Position

-- what was changed
pub data Record : Type 0 where
  -- p to q
  Moved : Position → Position → Record
  Inserted : Position → Record
  Removed : Removal → Record
  -- newest first
  Thinned : List Removal → Record
  -- the feature, and its id before
  Renamed : ℕ → Option Text → Record
  -- at most two numbers, each with the feature that had it, or none
  Exchanged : List (ℕ × Option Feature) → Record

-- ---- the document before

-- the vertex stands between its neighbours again
abbrev pub put_back : Document → Removal → Document
put_back d r = ins d r.a r.b r.at

-- feature n has this id, or none
abbrev pub with_id : {R : Type 0} → DocumentOf R → ℕ → Option Text → DocumentOf R
with_id d n id = in_features (λ f. if f.number == n then record f { id = id } else f) d

-- the document before the change, from the one after it
unfoldable pub back : List LayerTree → Record → Document → Document
back trees (Moved p q) d = put d q p
back trees (Inserted q) d = del d q
back trees (Removed r) d = put_back d r
back trees (Thinned rs) d = fold put_back d rs
back trees (Renamed n id) d = with_id d n id
back trees (Exchanged cs) d = exchanged trees cs d

-- ---- when a record fits

-- a document that a map may have
pub record IsMap (d : Document) : Type 0 where
  pub proper : Proper d
  pub formed : WellFormed d
  pub small : size d ≤ 4000000

-- what is true of every map's document, the places of its features, and the next number
pub record IsHeld (trees : List LayerTree) (next : ℕ) (d : Document) : Type 0 where
  pub map : IsMap d
  pub fills : Fills trees d
  pub below : (m : ℕ) → next ≤ m → has_feature d m ≡ false

-- q is a vertex, and p is none
pub record IsMoved (d : Document) (p q : Position) : Type 0 where
  pub vertex : is_vertex d q ≡ true
  pub free : is_vertex d p ≡ false

-- q may be left out, but for what would be in conflict or swept over
pub record IsInserted (d : Document) (q : Position) : Type 0 where
  pub vertex : is_vertex d q ≡ true
  pub inner : is_junction d q ≡ false
  pub long : are_long d q ≡ true
  pub unjoined : is_bridged d q ≡ false

-- the neighbours of the vertex are joined now, and the vertex is none; with it the document is a
-- map's
pub record IsRemoved (d : Document) (r : Removal) : Type 0 where
  pub apart : r.a ≢ r.b
  pub joined : is_segment d (segment r.a r.b) ≡ true
  pub free : is_vertex d r.at ≡ false
  pub map : IsMap (put_back d r)

-- each vertex in turn
abbrev pub AreRemoved : Document → List Removal → Type 0
AreRemoved d [] = Unit {0}
AreRemoved d (r ∷ rs) = IsRemoved d r × AreRemoved (put_back d r) rs

-- every feature has the number that it is given for, and none has a number that is yet to come
abbrev pub AreChanged : ℕ → List (ℕ × Option Feature) → Type 0
AreChanged next [] = Unit {0}
AreChanged next (c ∷ cs) =
    (c.0 < next) × ((f : Feature) → c.1 ≡ Some f → f.number ≡ c.0) × AreChanged next cs

abbrev pub Fits : ℕ → Document → Record → Type 0
Fits next d (Moved p q) = IsMoved d p q
Fits next d (Inserted q) = IsInserted d q
Fits next d (Removed r) = IsRemoved d r
Fits next d (Thinned rs) = AreRemoved d rs
Fits next d (Renamed n id) = Unit {0}
Fits next d (Exchanged cs) = IsTrue (are_distinct (map (λ c. c.0) cs)) × AreChanged next cs

-- the record takes the change back from this document, the next number being this one
pub record Undoes (trees : List LayerTree) (next : ℕ) (d : Document) (r : Record) : Type 0 where
  pub map : IsMap (back trees r d)
  pub fits : Fits next d r
  -- no number that is yet to come is a feature's
  pub below : (m : ℕ) → next ≤ m → has_feature (back trees r d) m ≡ false

-- the record takes the change from d to e back, and fits
pub record Takes (trees : List LayerTree) (next : ℕ) (d e : Document) (r : Record) : Type 0 where
  pub undoes : Undoes trees next e r
  pub was : back trees r e ≡ d
