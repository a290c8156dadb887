-- The written text of a feature, and that of a collection, is a geometry with its id, its properties
-- and its members.
use Rattle.kit_words.proofs.Common.{◌≡◌, ℕ, List, [], ◌∷◌, ◌++◌, map, true, refl, sym, ap, ◌∙◌, subst, append_assoc}
use Rattle.kit_words.proofs.Common.{codes, ℤ, Option, Some, option_map, AllByRecursion}
use Rattle.ring_machine.specs.Common.{Text, Form, Head, Member, FeatureOf}
use Rattle.ring_machine.specs.Document as form
use Rattle.json_spans.specs.Grammar.{null, text as string_value}
use Rattle.json_spans.specs.Common.{IsValue, IsText, quoted, Node, decoded}
use Rattle.topo_outline.specs.declared.words.Word.TheVariants as word
use Rattle.topo_outline.specs.declared.members.Owner.{Owner}
use Rattle.topo_outline.specs.declared.members.Owner.TheVariants as owner
use Rattle.topo_outline.specs.Common.{word_of, EntryNode, is_known, text_of, kept, head, Piece, starts, ends, leaf}
use Rattle.topo_outline.specs.Common.{HasType, value_at, IsGeometry, AreGeometries, null_geometry, polygon}
use Rattle.topo_outline.specs.Common.{multi_polygon, collection, IsJson, IsName, IfThere, IsKeptHead, owner_of, head_of}
use Rattle.topo_reader.specs.Common.{Arc}
use Rattle.map_text.specs.Common.{list_text, object_text, member_text, further, commas, member, member_if, type_text}
use Rattle.map_text.specs.Common.{polygon_text, shape_text, feature_text, opening_text, closing_text}
use Rattle.map_text.proofs.GrammarLists.{bytes_of, has_texts, list_is_json}
use Rattle.map_text.proofs.MembersKnown.{type_named, id_named, properties_named, arcs_named, geometries_named, polygon_named, multi_polygon_named, collection_named}
use Rattle.map_text.proofs.MembersFields.{Field, present, IsField, HasFields, written_object, written_json}
use Rattle.map_text.proofs.ReadingPlaces.{node_there}
use Rattle.map_text.proofs.ReadingUses.{ShapeIndexes, Fits, shape_json, IsShape, polygon_lists, shape_lists, one, several, nothing}

-- ---- the members that the writer knows

pub name_json : (token name : List ℕ) → IsName token name → IsJson token
name_json token name h = (0, text_value h.string)
  where
    text_value : {t : List ℕ} → IsText t → IsValue 0 t
    text_value (quoted k) = string_value k

abbrev pub type_field : Text → Field
type_field value = record { word = word.Type; says = codes "type"; token = codes "\"type\""; value = Some value }

abbrev id_field : Option Text → Field
id_field value = record { word = word.Id; says = codes "id"; token = codes "\"id\""; value = value }

abbrev properties_field : Option Text → Field
properties_field value = record { word = word.Properties; says = codes "properties"; token = codes "\"properties\""; value = value }

abbrev pub arcs_field : Option Text → Field
arcs_field value = record { word = word.Arcs; says = codes "arcs"; token = codes "\"arcs\""; value = value }

abbrev geometries_field : Text → Field
geometries_field value = record { word = word.Geometries; says = codes "geometries"; token = codes "\"geometries\""; value = Some value }

pub type_is_field : (o : Owner) (value : Text) → is_known o word.Type ≡ true → IsJson value → IsField o (type_field value)
unfolding word_of
type_is_field o value k j = record { named = type_named; word_is = refl; known = k; json = j }

id_is_field : (o : Owner) (value : Option Text) → is_known o word.Id ≡ true → IfThere IsJson value → IsField o (id_field value)
unfolding word_of
id_is_field o value k j = record { named = id_named; word_is = refl; known = k; json = j }

properties_is_field : (o : Owner) (value : Option Text) → is_known o word.Properties ≡ true → IfThere IsJson value → IsField o (properties_field value)
unfolding word_of
properties_is_field o value k j = record { named = properties_named; word_is = refl; known = k; json = j }

pub arcs_is_field : (o : Owner) (value : Option Text) → is_known o word.Arcs ≡ true → IfThere IsJson value → IsField o (arcs_field value)
unfolding word_of
arcs_is_field o value k j = record { named = arcs_named; word_is = refl; known = k; json = j }

geometries_is_field : (o : Owner) (value : Text) → is_known o word.Geometries ≡ true → IsJson value → IsField o (geometries_field value)
unfolding word_of
geometries_is_field o value k j = record { named = geometries_named; word_is = refl; known = k; json = j }

-- ---- what an object with such members has

same_head : (o : Owner) (es : List EntryNode) (h : Head) → text_of word.Id es ≡ h.id → text_of word.Properties es ≡ h.properties → kept o es ≡ h.members → head o es ≡ h
same_head o es h i p k = rw (i, p, k) refl

pub has_type : (o : Owner) (n : Node) (fs : List Field) (ms : List Member) (token name : List ℕ) → (w : HasFields o n fs ms) → option_map bytes_of (value_at word.Type w.entries) ≡ Some token → IsName token name → HasType w.entries name
has_type o n fs ms token name w e h =
    let found = node_there (value_at word.Type w.entries) token e in
    record { value = found.0; there = found.1; string = subst IsText (sym found.2) h.string; says = ap decoded found.2 ∙ h.says }

-- ---- features

-- the text of a feature with this form, and these polygons
abbrev text_by : Form → Head → List (List (List ℤ)) → Text
text_by f h ps = object_text (
    member (codes "\"type\"") (type_text f)
    ∷ (member_if (codes "\"id\"") h.id
    ++ (member_if (codes "\"properties\"") h.properties
    ++ (member_if (codes "\"arcs\"") (shape_text f ps)
    ++ h.members))))

abbrev ring_fields : Form → Head → List (List (List ℤ)) → List Field
ring_fields f h ps = type_field (type_text f) ∷ id_field h.id ∷ properties_field h.properties ∷ arcs_field (shape_text f ps) ∷ []

abbrev null_fields : Head → List Field
null_fields h = type_field (type_text form.Null) ∷ id_field h.id ∷ properties_field h.properties ∷ []

pub four_joined : (a b c d e : List Member) → (a ++ (b ++ (c ++ (d ++ [])))) ++ e ≡ a ++ (b ++ (c ++ (d ++ e)))
four_joined a b c d e = simp append_assoc

three_joined : (a b c e : List Member) → (a ++ (b ++ (c ++ []))) ++ e ≡ a ++ (b ++ (c ++ e))
three_joined a b c e = simp append_assoc

ring_text_is : (f : Form) (h : Head) (ps : List (List (List ℤ))) → text_by f h ps ≡ object_text (present (ring_fields f h ps) ++ h.members)
ring_text_is f h ps = ap object_text (sym (four_joined (member (codes "\"type\"") (type_text f) ∷ []) (member_if (codes "\"id\"") h.id) (member_if (codes "\"properties\"") h.properties) (member_if (codes "\"arcs\"") (shape_text f ps)) h.members))

null_text_is : (h : Head) (ps : List (List (List ℤ))) → text_by form.Null h ps ≡ object_text (present (null_fields h) ++ h.members)
null_text_is h ps = ap object_text (sym (three_joined (member (codes "\"type\"") (type_text form.Null) ∷ []) (member_if (codes "\"id\"") h.id) (member_if (codes "\"properties\"") h.properties) h.members))

-- a text that is read as a feature with this form and head, whose rings stand at a node
pub record IsLeafText (f : Form) (h : Head) (ps : List (List (List ℤ))) (t : Text) : Type 0 where
  pub json : IsJson t
  pub read : (n : Node) → n.bytes ≡ t → (a : Node) × IsGeometry n (leaf f h a ∷ []) × IsShape f ps a

rings_are_fields : (f : Form) (h : Head) (ps : List (List (List ℤ))) → IsJson (type_text f) → IfThere IsJson (shape_text f ps) → IsKeptHead owner.Rings h → AllByRecursion (IsField owner.Rings) (ring_fields f h ps)
rings_are_fields f h ps t s k = (type_is_field owner.Rings (type_text f) refl t, (id_is_field owner.Rings h.id refl k.id, (properties_is_field owner.Rings h.properties refl k.properties, (arcs_is_field owner.Rings (shape_text f ps) refl s, tt))))

nulls_are_fields : (h : Head) → IsKeptHead owner.Null h → AllByRecursion (IsField owner.Null) (null_fields h)
nulls_are_fields h k = (type_is_field owner.Null (type_text form.Null) refl (0, null), (id_is_field owner.Null h.id refl k.id, (properties_is_field owner.Null h.properties refl k.properties, tt)))

polygon_text_made : (arcs : List Arc) (h : Head) (p : List (List ℤ)) (u : List (List Arc)) → IsKeptHead owner.Rings h → ShapeIndexes arcs (p ∷ []) (u ∷ []) → IsLeafText form.Polygon h (p ∷ []) (text_by form.Polygon h (p ∷ []))
polygon_text_made arcs h p u k s =
    let fs = ring_fields form.Polygon h (p ∷ []) in
    let are = rings_are_fields form.Polygon h (p ∷ []) (name_json _ _ polygon_named) (shape_json arcs (u ∷ []) one s) k in
    let is = ring_text_is form.Polygon h (p ∷ []) in
    record {
      json = subst IsJson (sym is) (written_json owner.Rings fs h.members are k.members);
      read = λ n e.
          let w = written_object owner.Rings n fs h.members are refl k.members (e ∙ is) in
          let at_arcs = node_there (value_at word.Arcs w.entries) (polygon_text p) (w.values word.Arcs refl) in (
            at_arcs.0,
            subst (λ z. IsGeometry n (leaf form.Polygon z at_arcs.0 ∷ [])) (same_head owner.Rings w.entries h (w.texts word.Id refl) (w.texts word.Properties refl) w.keeps)
                (polygon w.has (has_type owner.Rings n fs h.members (type_text form.Polygon) (codes "Polygon") w (w.values word.Type refl) polygon_named) at_arcs.1 (polygon_lists arcs at_arcs.0 p u s.0 at_arcs.2)),
            at_arcs.2,
          );
    }

multi_polygon_text_made : (arcs : List Arc) (h : Head) (ps : List (List (List ℤ))) (us : List (List (List Arc))) → IsKeptHead owner.Rings h → ShapeIndexes arcs ps us → IsLeafText form.MultiPolygon h ps (text_by form.MultiPolygon h ps)
multi_polygon_text_made arcs h ps us k s =
    let fs = ring_fields form.MultiPolygon h ps in
    let are = rings_are_fields form.MultiPolygon h ps (name_json _ _ multi_polygon_named) (shape_json arcs us several s) k in
    let is = ring_text_is form.MultiPolygon h ps in
    record {
      json = subst IsJson (sym is) (written_json owner.Rings fs h.members are k.members);
      read = λ n e.
          let w = written_object owner.Rings n fs h.members are refl k.members (e ∙ is) in
          let at_arcs = node_there (value_at word.Arcs w.entries) (list_text (map polygon_text ps)) (w.values word.Arcs refl) in (
            at_arcs.0,
            subst (λ z. IsGeometry n (leaf form.MultiPolygon z at_arcs.0 ∷ [])) (same_head owner.Rings w.entries h (w.texts word.Id refl) (w.texts word.Properties refl) w.keeps)
                (multi_polygon w.has (has_type owner.Rings n fs h.members (type_text form.MultiPolygon) (codes "MultiPolygon") w (w.values word.Type refl) multi_polygon_named) at_arcs.1 (shape_lists arcs at_arcs.0 ps us s at_arcs.2)),
            at_arcs.2,
          );
    }

null_text_made : (h : Head) → IsKeptHead owner.Null h → IsLeafText form.Null h [] (text_by form.Null h [])
null_text_made h k =
    let fs = null_fields h in
    let are = nulls_are_fields h k in
    let is = null_text_is h [] in
    record {
      json = subst IsJson (sym is) (written_json owner.Null fs h.members are k.members);
      read = λ n e.
          let w = written_object owner.Null n fs h.members are refl k.members (e ∙ is) in
          let at_type = node_there (value_at word.Type w.entries) (type_text form.Null) (w.values word.Type refl) in (
            n,
            subst (λ z. IsGeometry n (leaf form.Null z n ∷ [])) (same_head owner.Null w.entries h (w.texts word.Id refl) (w.texts word.Properties refl) w.keeps)
                (null_geometry w.has at_type.1 at_type.2),
            tt,
          );
    }

made_by : (arcs : List Arc) {f : Form} {ps : List (List (List ℤ))} (h : Head) (us : List (List (List Arc))) → Fits f ps → IsKeptHead (owner_of f) h → ShapeIndexes arcs ps us → IsLeafText f h ps (text_by f h ps)
made_by arcs h [] one k s = absurd s
made_by arcs h (u ∷ []) (one {p = p}) k s = polygon_text_made arcs h p u k s
made_by arcs h (u ∷ v ∷ us) one k s = absurd s.1
made_by arcs h us (several {ps = ps}) k s = multi_polygon_text_made arcs h ps us k s
made_by arcs h us nothing k s = null_text_made h k

pub feature_made : (arcs : List Arc) (f : FeatureOf (List ℤ)) (us : List (List (List Arc))) → Fits f.form f.polygons → IsKeptHead (owner_of f.form) (head_of f) → ShapeIndexes arcs f.polygons us → IsLeafText f.form (head_of f) f.polygons (feature_text f)
feature_made arcs f us fits k s = made_by arcs (head_of f) us fits k s

-- ---- collections

abbrev collection_fields : Head → Text → List Field
collection_fields h value = type_field (codes "\"GeometryCollection\"") ∷ id_field h.id ∷ properties_field h.properties ∷ geometries_field value ∷ []

pub further_joined : (xs ys : List Member) → further (map member_text (xs ++ ys)) ≡ further (map member_text xs) ++ further (map member_text ys)
further_joined [] ys = refl
further_joined (x ∷ xs) ys =
    ap (λ (z : Text). (44 ∷ member_text x) ++ z) (further_joined xs ys) ∙ sym (append_assoc (44 ∷ member_text x) (further (map member_text xs)) (further (map member_text ys)))

commas_joined : (x : Member) (xs ys : List Member) → commas (map member_text ((x ∷ xs) ++ ys)) ≡ commas (map member_text (x ∷ xs)) ++ further (map member_text ys)
commas_joined x xs ys =
    ap (λ (z : Text). member_text x ++ z) (further_joined xs ys) ∙ sym (append_assoc (member_text x) (further (map member_text xs)) (further (map member_text ys)))

around : (a c f : Text) → (codes "{" ++ (a ++ codes ",\"geometries\":[")) ++ (c ++ (codes "]" ++ (f ++ codes "}")))
    ≡ codes "{" ++ ((a ++ ((codes "," ++ (codes "\"geometries\"" ++ (codes ":" ++ (codes "[" ++ (c ++ codes "]"))))) ++ f)) ++ codes "}")
around a c f = simp append_assoc

abbrev collection_text : Head → List Text → Text
collection_text h ts = opening_text h ++ (commas ts ++ closing_text h)

collection_is : (h : Head) (ts : List Text) → collection_text h ts ≡ object_text (present (collection_fields h (list_text ts)) ++ h.members)
collection_is h ts =
    let g : Member = member (codes "\"geometries\"") (list_text ts) in
    let t : Member = member (codes "\"type\"") (codes "\"GeometryCollection\"") in
    let bs : List Member = member_if (codes "\"id\"") h.id ++ member_if (codes "\"properties\"") h.properties in
    around (commas (map member_text (t ∷ bs))) (commas ts) (further (map member_text h.members))
    ∙ ap (λ (z : Text). codes "{" ++ (z ++ codes "}")) (sym (commas_joined t bs (g ∷ h.members)))
    ∙ ap object_text (regrouped (t ∷ []) (member_if (codes "\"id\"") h.id) (member_if (codes "\"properties\"") h.properties) (g ∷ []) h.members)
  where
    regrouped : (a b c d e : List Member) → (a ++ (b ++ c)) ++ (d ++ e) ≡ (a ++ (b ++ (c ++ (d ++ [])))) ++ e
    regrouped a b c d e = simp append_assoc

collections_are_fields : (h : Head) (value : Text) → IsKeptHead owner.Collection h → IsJson value → AllByRecursion (IsField owner.Collection) (collection_fields h value)
collections_are_fields h value k j = (type_is_field owner.Collection (codes "\"GeometryCollection\"") refl (name_json _ _ collection_named), (id_is_field owner.Collection h.id refl k.id, (properties_is_field owner.Collection h.properties refl k.properties, (geometries_is_field owner.Collection value refl j, tt))))

pub collection_json : (h : Head) (ts : List Text) → IsKeptHead owner.Collection h → AllByRecursion IsJson ts → IsJson (collection_text h ts)
collection_json h ts k j =
    subst IsJson (sym (collection_is h ts)) (written_json owner.Collection (collection_fields h (list_text ts)) h.members (collections_are_fields h (list_text ts) k (list_is_json ts j)) k.members)

-- the text is read as a collection of the geometries that its texts are read as
pub collection_read : (Q : List Piece → Type 0) (h : Head) (ts : List Text) (n : Node) → IsKeptHead owner.Collection h → AllByRecursion IsJson ts → n.bytes ≡ collection_text h ts
    → ((ns : List Node) → map bytes_of ns ≡ ts → (ps : List Piece) × AreGeometries ns ps × Q ps) → (qs : List Piece) × IsGeometry n (starts h ∷ (qs ++ (ends ∷ []))) × Q qs
collection_read Q h ts n k j e inner =
    let fs = collection_fields h (list_text ts) in
    let w = written_object owner.Collection n fs h.members (collections_are_fields h (list_text ts) k (list_is_json ts j)) refl k.members (e ∙ collection_is h ts) in
    let at_list = node_there (value_at word.Geometries w.entries) (list_text ts) (w.values word.Geometries refl) in
    let listed = has_texts at_list.0 ts at_list.2 j in
    let found = inner listed.nodes listed.are in (
      found.0,
      subst (λ z. IsGeometry n (starts z ∷ (found.0 ++ (ends ∷ [])))) (same_head owner.Collection w.entries h (w.texts word.Id refl) (w.texts word.Properties refl) w.keeps)
          (collection w.has (has_type owner.Collection n fs h.members (codes "\"GeometryCollection\"") (codes "GeometryCollection") w (w.values word.Type refl) collection_named) at_list.1 listed.list found.1),
      found.2,
    )
