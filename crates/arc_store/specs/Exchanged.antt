-- Features exchanged in a map, and the features that an edit asks for.
use Rattle.std.specs.Prelude.{ℕ, List, [], ◌∷◌, ◌≡◌, ◌<◌, true, map, Option, Some, IfSome}
use Rattle.std.specs.List.{AllByRecursion}
use Rattle.grid_geometry.specs.Common.{Position}
use Rattle.ring_machine.specs.Common.{Text, Polygon, Feature, Document, feature_at, are_distinct}
use Rattle.edit_records.specs.Common.{exchanged, IsMap}
use Rattle.topo_outline.specs.Common.{KeepsTexts}
use Rattle.map_frame.specs.Common.{texts_of, with_texts}
use Rattle.feature_exchange.specs.Common.{trees_after, number_after, MayGrow}
use Rattle.arc_store.specs.State.{State}

-- the document in which these numbers have these features, or none; where a new number is to come
-- directly after a feature, it has its place there
abbrev pub asked_document : Option ℕ → List (ℕ × Option Feature) → State → Document
asked_document after cs st = exchanged (trees_after after st.next st.places) cs st.doc

-- the map with this document
abbrev pub exchanged_state : Option ℕ → List (ℕ × Option Feature) → State → State
exchanged_state after cs st = record st {
  doc = asked_document after cs st;
  next = number_after after st.next;
  places = trees_after after st.next st.places;
}

-- these numbers may be given these features, or none: each is named once, and is made; what comes of
-- it is a map again
pub record MayExchange (after : Option ℕ) (cs : List (ℕ × Option Feature)) (st : State) : Type 0 where
  pub apart : are_distinct (map (λ c. c.0) cs) ≡ true
  pub below : AllByRecursion (λ c. c.0 < number_after after st.next) cs
  pub grows : IfSome after (MayGrow st.doc st.next)
  pub is_map : IsMap (asked_document after cs st)
  pub texts : KeepsTexts (asked_document after cs st)

-- feature n with these polygons
abbrev pub feature_with : Document → ℕ → List (List (List Position)) → Feature
feature_with d n polygons = with_texts n (texts_of (feature_at d n)) polygons

-- a new Polygon of these rings, with this id and the properties and unknown members of feature n
abbrev pub part_of : Document → ℕ → ℕ → Text → List (List Position) → Feature
part_of d n number id rings =
    with_texts number (record (texts_of (feature_at d n)) { id = Some id; form = Polygon }) (rings ∷ [])
