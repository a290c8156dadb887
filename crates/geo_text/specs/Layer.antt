-- The layer that is written, and its FeatureCollection up to the list of its Features (RFC 7946, 3.3).
use Rattle.std.specs.Prelude.{ℕ, ◌+◌, ◌-◌, Bool, true, false, not, ◌||◌, ◌&&◌, is_some, if◌then◌else◌, List, [], ◌∷◌, ◌++◌, length, map, filter, take}
use Rattle.std.specs.Prelude.{codes, Option, Some, None, Result, Ok, Err}
use Rattle.std.specs.List.{list_any}
use Rattle.json_spans.specs.Common.{decoded}
use Rattle.ring_machine.specs.Common.{Text, Member, Head, Item, Open, Kept, Layer, Document}
use Rattle.map_text.specs.Common.{further, member, member_if, member_text}
use Rattle.topo_outline.specs.Common.{duplicate}
use Rattle.decimal_texts.specs.Geometries.{is_string_of}
use Rattle.geo_features.specs.Faults.{GeoFault, of_map, no_layer, several_layers, ◌>>=◌, demand}
use Rattle.geo_features.specs.Names.{first_of, is_one_of, same_text, unless_wrong}

-- ---- which layer

abbrev pub is_point : Item → Bool
is_point (Kept t) = true
is_point item = false

-- how many points stand in items
abbrev pub points_in : List Item → ℕ
points_in items = length (filter is_point items)

-- a layer's name, by its token, is the one that is asked for, or none is asked for
abbrev pub is_asked : Option Text → Text → Bool
is_asked None token = true
is_asked (Some name) token = is_string_of name (decoded token)

-- the layers that are asked for, each with the number of points before it
unfoldable pub asked_from : Option Text → ℕ → List Layer → List (ℕ × Layer)
asked_from name n [] = []
asked_from name n (l ∷ ls) =
    if is_asked name l.name then ((n, l) ∷ asked_from name (n + points_in l.items) ls)
    else asked_from name (n + points_in l.items) ls

abbrev pub the_only : {A : Type 0} → List A → Result A GeoFault
the_only [] = Err no_layer
the_only (one ∷ []) = Ok one
the_only (one ∷ another ∷ others) = Err several_layers

abbrev pub asked_layer : Option Text → Document → Result (ℕ × Layer) GeoFault
asked_layer name d = the_only (asked_from name 0 d.layers)

-- ---- a layer that is a collection, or another geometry

abbrev pub no_head : Head
no_head = record { id = None; properties = None; members = [] }

-- what the collection has beside its geometries
abbrev pub layer_head : List Item → Head
layer_head (Open h ∷ items) = h
layer_head items = no_head

-- its geometries; a layer that is one geometry has that one
abbrev pub layer_items : List Item → List Item
layer_items (Open h ∷ items) = take (length items - 1) items
layer_items items = items

-- ---- the collection's members

abbrev pub has_named : List Member → Text → Bool
has_named ms token = list_any (λ m. same_text (decoded m.name) (decoded token)) ms

-- the collection has a member of this name already
abbrev pub has_already : Head → Text → Bool
has_already h token =
    (is_some h.id && is_one_of (codes "id" ∷ []) token)
    || ((is_some h.properties && is_one_of (codes "properties" ∷ []) token) || has_named h.members token)

-- those of the topology that it does not have
abbrev pub missing_members : Head → List Member → List Member
missing_members h of_topology = filter (λ m. not (has_already h m.name)) of_topology

-- its own members, and then those of the topology
abbrev pub collection_members : Head → List Member → List Member
collection_members h of_topology = h.members ++ missing_members h of_topology

-- the names that the members of a collection may not have
abbrev pub not_of_collection : List Text
not_of_collection = codes "features" ∷ codes "coordinates" ∷ codes "geometries" ∷ codes "geometry" ∷ []

-- one of them is called `name`
abbrev pub has_name : List Member → Bool
has_name ms = list_any (λ m. is_one_of (codes "name" ∷ []) m.name) ms

-- the layer's name; where a member has that name, the layer has the name of one that was read without
abbrev pub name_text : Text → List Member → Result Text GeoFault
name_text token ms =
    if has_name ms then demand (is_one_of (codes "features" ∷ []) token) (of_map (duplicate (codes "name"))) (Ok [])
    else Ok (further (map member_text (member (codes "\"name\"") token ∷ [])))

-- the id and the properties, if they are there
abbrev pub head_text : Head → Text
head_text h =
    further (map member_text (member_if (codes "\"id\"") h.id))
    ++ further (map member_text (member_if (codes "\"properties\"") h.properties))

-- the other members before the list of Features
abbrev pub front_members : Head → List Member → List Member
front_members h ms = member_if (codes "\"id\"") h.id ++ (member_if (codes "\"properties\"") h.properties ++ ms)

-- the collection up to its first Feature
abbrev pub front_text : Text → Head → List Member → Result Text GeoFault
front_text token h ms = do
  name ← name_text token ms
  rest ← unless_wrong (first_of not_of_collection ms) ms
  Ok (codes "{\"type\":\"FeatureCollection\"" ++ (name
      ++ (further (map member_text (front_members h rest)) ++ codes ",\"features\":[")))

-- with the members of the topology that come along
abbrev pub front_of : Text → Head → List Member → Result Text GeoFault
front_of token h of_topology = front_text token h (collection_members h of_topology)
