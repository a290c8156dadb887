-- The Features of a layer, one a line, and what stands within those that are collections.
use Rattle.std.specs.Prelude.{ℕ, zero, suc, ◌+◌, Bool, true, false, not, ◌&&◌, List, [], ◌∷◌, ◌++◌, codes, Result, Ok}
use Rattle.ring_machine.specs.Common.{Text, Member, Head, Item, Open, Close, Leaf, Kept}
use Rattle.map_text.specs.Common.{comma_if}
use Rattle.topo_outline.specs.Common.{head_of}
use Rattle.geo_features.specs.Style.{Style}
use Rattle.geo_features.specs.Faults.{GeoFault, nested, ◌>>=◌, demand}
use Rattle.geo_features.specs.Names.{is_bare, not_of_feature}
use Rattle.geo_features.specs.Features.{collection_begin, collection_end, feature_begin, is_null, leaf_geometry, not_of_form, own_text, point_geometry}
use Rattle.geo_features.specs.Points.{point_head}

-- how far a layer is written: the collections that are open in it, the innermost first, and whether something stands
-- before in that one; the number of the next Feature, and that of the next point of the map
pub record At : Type 0 where
  pub heads : List Head
  pub more : Bool
  pub feature : ℕ
  pub point : ℕ

-- before the first item of a layer; how many points of the map stand before it
abbrev pub begin_at : ℕ → At
begin_at point = record { heads = []; more = false; feature = 0; point = point }

-- ---- what stands before and after a geometry

-- a line feed, after a comma where a Feature stands before
abbrev pub line_begin : ℕ → Text
line_begin zero = codes "\n"
line_begin (suc n) = codes ",\n"

-- before it: the begin of its Feature; or within another one a comma, and there nothing of its own may stand beside it
abbrev pub before_in : List Head → At → Head → Bool → Result Text GeoFault
before_in [] at h is_null = Ok (line_begin at.feature ++ feature_begin h)
before_in (outer ∷ heads) at h is_null =
    demand (not is_null && is_bare h) (nested at.feature) (Ok (comma_if at.more))

abbrev pub before_text : At → Head → Bool → Result Text GeoFault
before_text at h is_null = before_in at.heads at h is_null

-- after it: the end of its Feature; within another one nothing
abbrev pub after_text : List Head → List Text → List Member → Result Text GeoFault
after_text [] words ms = own_text words ms
after_text (outer ∷ heads) words ms = Ok []

-- ---- items

-- a geometry that is no collection, with what its object has beside it
abbrev pub standing_text : At → List Text → Head → Bool → Result Text GeoFault → Result Text GeoFault
standing_text at words h is_null geometry = do
  before ← before_text at h is_null
  text ← geometry
  after ← after_text at.heads words h.members
  Ok (before ++ (text ++ after))

-- the begin of a collection
abbrev pub open_text : At → Head → Result Text GeoFault
open_text at h = do
  before ← before_text at h false
  Ok (before ++ collection_begin)

-- the end of the innermost collection
abbrev pub close_text : List Head → Result Text GeoFault
close_text [] = Ok []
close_text (h ∷ heads) = do
  end ← collection_end h.members
  after ← after_text heads not_of_feature h.members
  Ok (end ++ after)

-- an item; where collections are taken apart, their begins and ends are nothing
abbrev pub item_text : Bool → Style → At → Item → Result Text GeoFault
item_text true s at (Open h) = Ok []
item_text true s at Close = Ok []
item_text false s at (Open h) = open_text at h
item_text false s at Close = close_text at.heads
item_text flattens s at (Leaf f) =
    standing_text at (not_of_form f.form) (head_of f) (is_null f.form) (leaf_geometry s f)
item_text flattens s at (Kept t) =
    standing_text at not_of_feature (point_head t) false (point_geometry s at.point t)

-- ---- how far the layer is written after an item

-- after a geometry: something stands before in the innermost collection, or the next Feature has the next number
abbrev pub passed_in : List Head → At → At
passed_in [] at = record at { feature = at.feature + 1 }
passed_in (h ∷ heads) at = record at { more = true }

abbrev pub passed : At → At
passed at = passed_in at.heads at

abbrev pub closed_in : List Head → At → At
closed_in [] at = at
closed_in (h ∷ heads) at = passed (record at { heads = heads })

abbrev pub after_item : Bool → At → Item → At
after_item true at (Open h) = at
after_item true at Close = at
after_item false at (Open h) = record at { heads = h ∷ at.heads; more = false }
after_item false at Close = closed_in at.heads at
after_item flattens at (Leaf f) = passed at
after_item flattens at (Kept t) = record (passed at) { point = at.point + 1 }

-- ---- all of them

-- the end of the list of so many Features, and of the text
abbrev pub list_end : ℕ → Text
list_end zero = codes "]}\n"
list_end (suc n) = codes "\n]}\n"

-- one item after another, without the end of the text; and how far the layer is written then
unfoldable pub items_texts : Bool → Style → At → List Item → Result Text GeoFault
items_texts flattens s at [] = Ok []
items_texts flattens s at (i ∷ items) = do
  text ← item_text flattens s at i
  rest ← items_texts flattens s (after_item flattens at i) items
  Ok (text ++ rest)

unfoldable pub after_items : Bool → At → List Item → At
after_items flattens at [] = at
after_items flattens at (i ∷ items) = after_items flattens (after_item flattens at i) items

-- the items, and the end of the text
abbrev pub items_text : Bool → Style → At → List Item → Result Text GeoFault
items_text flattens s at items = do
  text ← items_texts flattens s at items
  Ok (text ++ list_end (after_items flattens at items).feature)
