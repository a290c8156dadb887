-- The texts of a document that opening would keep in their places.
use Rattle.std.specs.Prelude.{◌≡◌, ◌≢◌, ℕ, List, [], ◌∷◌, Bool, false, Option, Some, None}
use Rattle.std.specs.List.{AllByRecursion, AllPairs, AllZip}
use Rattle.json_spans.specs.Common.{IsValue, IsText, decoded}
use Rattle.ring_machine.specs.Common.{Text, Form, Member, Head, FeatureOf, ItemOf, Open, Close, Leaf, Kept, LayerOf}
use Rattle.ring_machine.specs.Common.{DocumentOf}
use Rattle.ring_machine.specs.Document as form
use Rattle.topo_outline.specs.declared.members.Owner.{Owner}
use Rattle.topo_outline.specs.declared.members.Owner.TheVariants as owner
use Rattle.topo_outline.specs.Words.{word_of}
use Rattle.topo_outline.specs.Members.{is_known}
use Rattle.topo_outline.specs.Layers.{text}
use Rattle.topo_outline.specs.IsOutline.{IsTransform, IsGeometry}

-- a JSON value, however deep (RFC 8259, 3)
abbrev pub IsJson : Text → Type 0
IsJson t = (levels : ℕ) × IsValue levels t

-- a JSON string that stands for this text (RFC 8259, 7)
pub record IsName (token : Text) (name : List ℕ) : Type 0 where
  pub string : IsText token
  pub says : decoded token ≡ Some name

-- what may be missing is right where it is there
abbrev pub IfThere : (Text → Type 0) → Option Text → Type 0
IfThere P None = Unit {0}
IfThere P (Some t) = P t

-- ---- objects

-- a member that an owner keeps: its name is neither known nor dropped there, and its value is JSON
pub record IsKeptMember (o : Owner) (m : Member) (name : List ℕ) : Type 0 where
  pub named : IsName m.name name
  pub unknown : is_known o (word_of name) ≡ false
  pub value : IsJson m.value

-- the members that an owner keeps, of whose names no two stand for one text (RFC 8259, 4)
pub record AreKeptMembers (o : Owner) (ms : List Member) : Type 0 where
  pub names : List (List ℕ)
  pub each : AllZip (IsKeptMember o) ms names
  pub differ : AllPairs (λ t u. t ≢ u) names

-- the texts of an object: its id, its properties, and the other members that it keeps
pub record IsKeptHead (o : Owner) (h : Head) : Type 0 where
  pub id : IfThere IsJson h.id
  pub properties : IfThere IsJson h.properties
  pub members : AreKeptMembers o h.members

-- ---- geometries

-- what a feature has beside its form and its rings
abbrev pub head_of : {R : Type 0} → FeatureOf R → Head
head_of f = record { id = f.id; properties = f.properties; members = f.members }

-- whose members a feature's are
abbrev pub owner_of : Form → Owner
owner_of form.Polygon = owner.Rings
owner_of form.MultiPolygon = owner.Rings
owner_of form.Null = owner.Null

-- the text of a point or of several points, as it is kept whole (TopoJSON 1.0, 2.2.1 and 2.2.2)
pub record IsKeptGeometry (t : Text) : Type 0 where
  pub value : IsJson t
  pub place : ℕ
  pub geometry : IsGeometry (record { at_byte = place; bytes = t }) (text t ∷ [])

-- the texts of one item
abbrev pub KeepsItem : {R : Type 0} → ItemOf R → Type 0
KeepsItem (Open h) = IsKeptHead owner.Collection h
KeepsItem Close = Unit {0}
KeepsItem (Leaf f) = IsKeptHead (owner_of f.form) (head_of f)
KeepsItem (Kept t) = IsKeptGeometry t

-- ---- the document

-- the text of a transform (TopoJSON 1.0, 2.1.2)
pub record IsKeptTransform (t : Text) : Type 0 where
  pub value : IsJson t
  pub place : ℕ
  pub transform : IsTransform (Some (record { at_byte = place; bytes = t })) (Some t)

-- every text of the document is one that opening would keep in its place
pub record KeepsTexts {R : Type 0} (d : DocumentOf R) : Type 0 where
  pub transform : IfThere IsKeptTransform d.transform
  pub layer_names : List (List ℕ)
  pub layers_named : AllZip (λ l t. IsName l.name t) d.layers layer_names
  pub layers_differ : AllPairs (λ t u. t ≢ u) layer_names
  pub items : AllByRecursion (λ l. AllByRecursion KeepsItem l.items) d.layers
  pub members : AreKeptMembers owner.Topology d.members
