-- The texts of an outline are ones that opening would keep.
use Rattle.kit_words.proofs.Common.{◌≡◌, ◌≢◌, ℕ, List, [], ◌∷◌, ◌++◌, Bool, true, false, not, cond, refl, ap, map}
use Rattle.kit_words.proofs.Common.{Option, Some, None, option_map, AllByRecursion, AllPairs, AllZip, AllPairs-filter}
use Rattle.std.specs.Prelude.{filter}
use Rattle.json_spans.specs.Common.{Node, IsText, IsValue}
use Rattle.json_spans.proofs.Common.{member_values}
use Rattle.ring_machine.specs.Common.{Text}
use Rattle.topo_outline.specs.Common.{Word, Owner, word_of, EntryNode, entry_of, member, is_known, kept, kept_text}
use Rattle.topo_outline.specs.Common.{text_of, head, Piece, starts, ends, leaf, text, LayerText, OutlineText, Entries}
use Rattle.topo_outline.specs.Common.{no_entry, entry, HasEntries, NestsAtMost, IsTransform, no_transform}
use Rattle.topo_outline.specs.Common.{null_transform, transform, IsGeometry, null_geometry, point, multi_point, polygon}
use Rattle.topo_outline.specs.Common.{multi_polygon, collection, AreGeometries, no_geometry, geometry, AreLayers}
use Rattle.topo_outline.specs.Common.{no_layer, layer, IsOutline, IsJson, IsName, IfThere, IsKeptMember, AreKeptMembers}
use Rattle.topo_outline.specs.Common.{IsKeptHead, IsKeptGeometry, IsKeptTransform, owner_of}
use Rattle.topo_outline.specs.declared.words.Word.TheVariants as word
use Rattle.topo_outline.specs.declared.members.Owner.TheVariants as owner
use Rattle.topo_outline.proofs.Levels.{AllNest, object_nests, list_nests, value_nests}

-- ---- members

-- the owner keeps a member whose name stands for this text
abbrev is_unknown : Owner → List ℕ → Bool
is_unknown o t = not (is_known o (word_of t))

each_kept : (o : Owner) (k : ℕ) {ms : List (Node × Node)} {ts : List (List ℕ)} {es : List EntryNode}
    → Entries ms ts es → AllByRecursion (λ m. IsText m.0.bytes × IsValue k m.1.bytes) ms
    → AllZip (IsKeptMember o) (kept o es) (filter (is_unknown o) ts)
each_kept o k no_entry h = tt
each_kept o k (entry {m = m} {t = t} {ts = ts} {es = es} is rest) h =
    by (is_known o (word_of t)) refl (each_kept o k rest h.1)
  where
    later : List EntryNode
    later = filter (λ e. not (is_known o e.word)) es

    by : (b : Bool) → is_known o (word_of t) ≡ b
        → AllZip (IsKeptMember o) (map kept_text later) (filter (is_unknown o) ts)
        → AllZip (IsKeptMember o) (map kept_text (cond (not b) (entry_of t m ∷ later) later)) (cond (not b) (t ∷ filter (is_unknown o) ts) (filter (is_unknown o) ts))
    by true e r = r
    by false e r = (record { named = record { string = h.0.0; says = is }; unknown = e; value = (k, h.0.1) }, r)

are_kept : (o : Owner) (n : Node) (es : List EntryNode) → HasEntries n es → AreKeptMembers o (kept o es)
are_kept o n es h =
    let (j, parts) = member_values h.object in
    record {
      names = filter (is_unknown o) h.names;
      each = each_kept o j h.entries parts;
      differ = AllPairs-filter (λ t u. t ≢ u) (is_unknown o) h.names h.differ;
    }

text_kept : (k : ℕ) (w : Word) (es : List EntryNode) → AllNest k es → IfThere IsJson (text_of w es)
text_kept k w es all = by (member w es) refl
  where
    by : (o : Option EntryNode) → member w es ≡ o → IfThere IsJson (option_map (λ m. m.value.bytes) o)
    by None e = tt
    by (Some m) e = (k, value_nests k w es m.value all (ap (option_map (λ m. m.value)) e))

head_kept : (o : Owner) (k : ℕ) (n : Node) (es : List EntryNode) → NestsAtMost k n → HasEntries n es
    → IsKeptHead o (head o es)
head_kept o k n es nests h =
    let (j, less, all) = object_nests k n es nests h in
    record { id = text_kept j word.Id es all; properties = text_kept j word.Properties es all; members = are_kept o n es h }

-- ---- geometries

-- the texts of one piece
abbrev pub KeepsPiece : Piece → Type 0
KeepsPiece (starts h) = IsKeptHead owner.Collection h
KeepsPiece ends = Unit {0}
KeepsPiece (leaf f h n) = IsKeptHead (owner_of f) h
KeepsPiece (text t) = IsKeptGeometry t

both : (ps qs : List Piece) → AllByRecursion KeepsPiece ps → AllByRecursion KeepsPiece qs
    → AllByRecursion KeepsPiece (ps ++ qs)
both [] qs h k = k
both (p ∷ ps) qs h k = (h.0, both ps qs h.1 k)

mutual
  geometry_keeps : {n : Node} {ps : List Piece} → IsGeometry n ps → (k : ℕ) → NestsAtMost k n
      → AllByRecursion KeepsPiece ps
  geometry_keeps (null_geometry {n = n} {es = es} o t e) k nests = (head_kept owner.Null k n es nests o, tt)
  geometry_keeps (point {n = n} o t) k nests =
      (record { value = (k, nests); place = n.at_byte; geometry = point o t }, tt)
  geometry_keeps (multi_point {n = n} o t) k nests =
      (record { value = (k, nests); place = n.at_byte; geometry = multi_point o t }, tt)
  geometry_keeps (polygon {n = n} {es = es} o t a r) k nests = (head_kept owner.Rings k n es nests o, tt)
  geometry_keeps (multi_polygon {n = n} {es = es} o t a r) k nests =
      (head_kept owner.Rings k n es nests o, tt)
  geometry_keeps (collection {n = n} {list = list} {es = es} {ps = ps} o t a r gs) k nests =
      let (j, less, all) = object_nests k n es nests o in
      let (i, fewer, each) = list_nests j list (value_nests j word.Geometries es list all a) r in
      (head_kept owner.Collection k n es nests o, both ps (ends ∷ []) (geometries_keep gs i each) (tt, tt))

  geometries_keep : {ns : List Node} {ps : List Piece} → AreGeometries ns ps → (k : ℕ)
      → AllByRecursion (NestsAtMost k) ns → AllByRecursion KeepsPiece ps
  geometries_keep no_geometry k all = tt
  geometries_keep (geometry {ps = ps} {qs = qs} g gs) k all =
      both ps qs (geometry_keeps g k all.0) (geometries_keep gs k all.1)

-- ---- layers

layers_keep : {es : List EntryNode} {ls : List LayerText} → AreLayers es ls → (k : ℕ) → AllNest k es
    → AllByRecursion (λ l. AllByRecursion KeepsPiece l.pieces) ls
layers_keep no_layer k all = tt
layers_keep (layer g gs) k all = (geometry_keeps g k all.0, layers_keep gs k all.1)

-- the names of the members stand for these texts
abbrev AreNames : List EntryNode → List (List ℕ) → Type 0
AreNames es ts = AllZip (λ e t. IsName e.name.bytes t) es ts

are_names : (k : ℕ) {ms : List (Node × Node)} {ts : List (List ℕ)} {es : List EntryNode}
    → Entries ms ts es → AllByRecursion (λ m. IsText m.0.bytes × IsValue k m.1.bytes) ms → AreNames es ts
are_names k no_entry h = tt
are_names k (entry is rest) h = (record { string = h.0.0; says = is }, are_names k rest h.1)

layers_named : {es : List EntryNode} {ls : List LayerText} → AreLayers es ls → (ts : List (List ℕ))
    → AreNames es ts → AllZip (λ l t. IsName l.name t) ls ts
layers_named no_layer [] h = tt
layers_named no_layer (t ∷ ts) h = absurd h
layers_named (layer g gs) [] h = absurd h
layers_named (layer g gs) (t ∷ ts) h = (h.0, layers_named gs ts h.1)

-- ---- the topology

transform_kept : {v : Option Node} {t : Option Text} → IsTransform v t → (k : ℕ)
    → ((n : Node) → v ≡ Some n → NestsAtMost k n) → IfThere IsKeptTransform t
transform_kept no_transform k nests = tt
transform_kept (null_transform is) k nests = tt
transform_kept (transform {n = n} o a s b r) k nests =
    record { value = (k, nests n refl); place = n.at_byte; transform = transform o a s b r }

-- the texts of an outline are ones that opening would keep in their places
pub record KeepsOutline (o : OutlineText) : Type 0 where
  pub transform : IfThere IsKeptTransform o.transform
  pub layer_names : List (List ℕ)
  pub layers_named : AllZip (λ l t. IsName l.name t) o.layers layer_names
  pub layers_differ : AllPairs (λ t u. t ≢ u) layer_names
  pub pieces : AllByRecursion (λ l. AllByRecursion KeepsPiece l.pieces) o.layers
  pub members : AreKeptMembers owner.Topology o.members

pub outline_keeps : (k : ℕ) (root : Node) (o : OutlineText) → NestsAtMost k root → IsOutline root o
    → KeepsOutline o
outline_keeps k root o nests h =
    let (j, less, all) = object_nests k root h.entries nests h.of_root in
    let objects = value_nests j word.Objects h.entries h.objects all h.has_objects in
    let (i, fewer, inner) = object_nests j h.objects h.named objects h.of_objects in
    let (m, parts) = member_values h.of_objects.object in
    record {
      transform = transform_kept h.transform j (λ n e. value_nests j word.Transform h.entries n all e);
      layer_names = h.of_objects.names;
      layers_named = layers_named h.layers h.of_objects.names (are_names m h.of_objects.entries parts);
      layers_differ = h.of_objects.differ;
      pieces = layers_keep h.layers i inner;
      members = rw h.members (are_kept owner.Topology root h.entries h.of_root);
    }
