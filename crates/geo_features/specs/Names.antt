-- The members that are not of this format, by their names (RFC 7946, 6.1 and 7.1).
use Rattle.std.specs.Prelude.{Bool, not, ◌&&◌, List, [], ◌∷◌, map, filter, find, codes, Option, Some, None, is_none, Result, Ok, Err, ◌≡◌, false}
use Rattle.std.specs.List.{list_any, list_all}
use Rattle.json_spans.specs.Common.{decoded}
use Rattle.ring_machine.specs.Common.{Text, Member, Head}
use Rattle.topo_outline.specs.Common.{bad_member, is_object, kept_text, members_of, unquoted}
use Rattle.decimal_texts.specs.Geometries.{is_string_of}
use Rattle.geo_features.specs.Faults.{GeoFault, of_map, ◌>>=◌, demand, of_opening}
use Rattle.std.specs.Str.{bytes_eq}

-- a name's token stands for one of these texts (RFC 8259, 7)
abbrev pub is_one_of : List Text → Text → Bool
is_one_of words token = list_any (λ word. is_string_of word (decoded token)) words

-- it is `geometry`, the member that holds what the geometry of a Feature has of its own
abbrev pub is_geometry : Text → Bool
is_geometry token = is_one_of (codes "geometry" ∷ []) token

-- ---- names that another object's members have

abbrev pub not_of_feature : List Text
not_of_feature = codes "coordinates" ∷ codes "geometries" ∷ codes "features" ∷ codes "arcs" ∷ []

-- a Feature without a geometry has nowhere to put its members
abbrev pub not_of_null : List Text
not_of_null = codes "geometry" ∷ not_of_feature

abbrev pub not_of_geometry : List Text
not_of_geometry =
    codes "type" ∷ codes "bbox" ∷ codes "coordinates" ∷ codes "geometries" ∷ codes "geometry"
    ∷ codes "properties" ∷ codes "features" ∷ []

-- the first member whose name is one of these
abbrev pub first_of : List Text → List Member → Option Member
first_of words ms = find (λ m. is_one_of words m.name) ms

-- this member is wrong, where there is one
abbrev pub unless_wrong : {A : Type 0} → Option Member → A → Result A GeoFault
unless_wrong None a = Ok a
unless_wrong (Some m) a = Err (of_map (bad_member (unquoted m.name)))

-- ---- the texts that names stand for

-- a name's token stands for the same text as another one
abbrev pub same_text : Option Text → Option Text → Bool
same_text (Some t) (Some u) = bytes_eq t u
same_text t u = false

-- these are the texts that the names of members stand for
abbrev pub HasNames : (Text → Bool) → List Member → Type 0
HasNames is_there ms = (t : Text) → is_there t ≡ list_any (λ m. same_text (decoded m.name) (Some t)) ms

-- ---- the members of a Feature and of its geometry

-- those that stand in a Feature; the names that it may not have
abbrev pub feature_members : List Text → List Member → Result (List Member) GeoFault
feature_members words ms = unless_wrong (first_of words ms) (filter (λ m. not (is_geometry m.name)) ms)

-- those of an object, once its names are tested
abbrev pub tested_members : Text → Result (List Member) GeoFault
tested_members object = do
  ms ← of_opening (members_of (record { at_byte = 0; bytes = object }))
  Ok (map kept_text ms)

-- those of the object that is the value of this member
abbrev pub members_in : Option Member → Result (List Member) GeoFault
members_in None = Ok []
members_in (Some m) = demand (is_object (record { at_byte = 0; bytes = m.value })) (of_map (bad_member (unquoted m.name)))
    (do
      ms ← tested_members m.value
      unless_wrong (first_of not_of_geometry ms) ms)

-- those that stand in the geometry of a Feature: those of its member `geometry`
abbrev pub geometry_members : List Member → Result (List Member) GeoFault
geometry_members ms = members_in (first_of (codes "geometry" ∷ []) ms)

-- what stands within a GeometryCollection can have these alone
abbrev pub is_bare : Head → Bool
is_bare h = is_none h.id && (is_none h.properties && list_all (λ m. is_geometry m.name) h.members)
