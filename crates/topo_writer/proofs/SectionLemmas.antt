-- The sections of a text are the text, and a prefix of some of them is a prefix of it.
use Rattle.kit_words.proofs.Common.{◌≡◌, ◌≤◌, refl, sym, ap, ap₂, ◌∙◌, subst, List, [], ◌∷◌, ◌++◌, map, append_assoc}
use Rattle.kit_words.proofs.Common.{Bool, Option, Some, None, arith, codes, is_some, option_map, AllByRecursion}
use Rattle.device_io.specs.Common.{TookFront}
use Rattle.device_io.specs.declared.Sink as sink
use Rattle.device_io.proofs.Common.{took_first}
use Rattle.grid_geometry.specs.Common.{InRange}
use Rattle.ring_machine.specs.Common.{Text, Member, Layer, Document, in_layer, rings, size, Proper, WellFormed}
use Rattle.topo_outline.specs.Common.{KeepsTexts}
use Rattle.map_frame.specs.Common.{ShownFrame}
use Rattle.map_text.specs.Common.{Saved, arcs_of, commas, further, member, member_if, member_text, layer_member}
use Rattle.map_text.specs.Common.{object_text, arcs_text, text_of}
use Rattle.map_text.proofs.ReadingBack.{text_saves}
use Rattle.map_text.proofs.Common.{further_joined}
use Rattle.topo_writer.specs.Common.{written_item, Arcs, listed_arcs, begin_text, layer_text, layers_text, middle_text}
use Rattle.topo_writer.specs.Common.{end_text, IsMapFrame, arcs_in, FindsArcs}
use Rattle.topo_writer.proofs.Sent.{filled}

-- ---- the text

layers_are : (d : Document) (ls : List Layer)
    → map member_text (map layer_member (map (in_layer (map (written_item d))) ls)) ≡ map (layer_text d) ls
layers_are d [] = refl
layers_are d (l ∷ ls) = ap (λ z. layer_text d l ∷ z) (layers_are d ls)

-- the arcs, with commas between them
abbrev list_of_arcs : Document → Text
list_of_arcs d = listed_arcs (is_some d.transform) (arcs_of d)

-- the text up to the layers, the middle, the arcs and the end
abbrev to_layers : Document → Text
to_layers d = begin_text d.transform ++ layers_text d

abbrev to_middle : Document → Text
to_middle d = to_layers d ++ middle_text

abbrev to_arcs : Document → Text
to_arcs d = to_middle d ++ list_of_arcs d

abbrev to_end : Document → Text
to_end d = to_arcs d ++ end_text d.members

regrouped : (x l a m o c r s e : Text)
    → (x ++ ((o ++ (l ++ c)) ++ ((r ++ (a ++ s)) ++ m))) ++ e ≡ ((((x ++ o) ++ l) ++ (c ++ r)) ++ a) ++ (s ++ (m ++ e))
regrouped x l a m o c r s e = simp append_assoc

pub sections_are : (d : Document) → text_of d ≡ to_end d
sections_are d =
    let transform = member_if (codes "\"transform\"") d.transform in
    let layers = map layer_member (map (in_layer (map (written_item d))) d.layers) in
    let objects = member (codes "\"objects\"") (object_text layers) in
    let list = member (codes "\"arcs\"") (arcs_text (is_some d.transform) (arcs_of d)) in
    let x = further (map member_text transform) in
    let m = further (map member_text d.members) in
    ap (λ z. codes "{\"type\":\"Topology\"" ++ (z ++ codes "}")) (further_joined transform (objects ∷ (list ∷ d.members)))
    ∙ ap (λ z. codes "{\"type\":\"Topology\"" ++ z)
    (regrouped x (commas (map member_text layers)) (list_of_arcs d) m (codes ",\"objects\":{") (codes "}") (codes ",\"arcs\":[") (codes "]") (codes "}"))
    ∙ ap (λ z. (((begin_text d.transform ++ commas z) ++ middle_text) ++ list_of_arcs d) ++ end_text d.members) (layers_are d d.layers)

-- a transform is there where its text is
there_shown : {X : Type 0} (f : X → Text) (o : Option X) (t : Option Text) → option_map f o ≡ t → is_some o ≡ is_some t
there_shown f None t e = ap is_some e
there_shown f (Some x) t e = ap is_some e

-- ---- what is written keeps the map

pub saved_text : (d : Document) → WellFormed d → KeepsTexts d → Proper d → AllByRecursion (AllByRecursion InRange) (rings d)
    → size d ≤ 4000000 → Saved (text_of d) d
saved_text d formed keeps proper range small =
    text_saves d (record { formed = formed; keeps = keeps; are_rings = proper.are_rings; in_range = range; small = omega arith })

-- ---- the sections of a map, as its frame shows them

module _ (d : Document) (frame : ShownFrame) (is : IsMapFrame d frame) where
  -- the begin, in a buffer that was empty
  pub begin_is : (old now sent : Text) (t : Option Text) → t ≡ frame.transform
      → old ≡ [] → now ≡ old ++ begin_text t → sent ≡ now → sent ≡ begin_text d.transform
  begin_is old now sent t shown e p q =
      q ∙ filled old now (begin_text t) e p ∙ ap begin_text (shown ∙ ap (λ (f : ShownFrame). f.transform) is.shown)

  -- whether there is a transform
  pub delta_is : {X : Type 0} (text : X → Text) (r : Option X) → option_map text r ≡ frame.transform
      → (delta : Bool) → delta ≡ is_some r → delta ≡ is_some d.transform
  delta_is text r shown delta there = there ∙ there_shown text r d.transform (shown ∙ ap (λ (f : ShownFrame). f.transform) is.shown)

  -- the end, in a buffer that was emptied
  pub end_is : (old now sent : Text) (members : List Member) → members ≡ frame.members
      → old ≡ [] → now ≡ old ++ end_text members → sent ≡ now → sent ≡ end_text d.members
  end_is old now sent members kept e p q =
      q ∙ filled old now (end_text members) e p ∙ ap end_text (kept ∙ ap (λ (f : ShownFrame). f.members) is.shown)

-- the texts in a table that has the arcs of the document
pub arcs_are : {A : Type 0} (d : Document) (table : Arcs A) → FindsArcs d table → arcs_in d table ≡ arcs_of d
    → (sent : Text) → sent ≡ table.listed.items → sent ≡ list_of_arcs d
arcs_are d table h whole sent p = p ∙ h.finds.listed ∙ ap₂ (λ delta arcs. listed_arcs delta arcs) h.delta whole

-- ---- a front of some sections

module _ {W : Type 0} {its : sink.Ghosts W} {failed : Bool} {old new : W} (d : Document) where
  pub front_at_end : TookFront its failed old new (to_end d) → TookFront its failed old new (text_of d)
  front_at_end p = subst (TookFront its failed old new) (sym (sections_are d)) p

  pub front_at_arcs : TookFront its failed old new (to_arcs d) → TookFront its failed old new (text_of d)
  front_at_arcs p = front_at_end (took_first (end_text d.members) p)

  pub front_at_middle : TookFront its failed old new (to_middle d) → TookFront its failed old new (text_of d)
  front_at_middle p = front_at_arcs (took_first (list_of_arcs d) p)

  pub front_at_layers : TookFront its failed old new (to_layers d) → TookFront its failed old new (text_of d)
  front_at_layers p = front_at_middle (took_first middle_text p)

  pub front_at_begin : TookFront its failed old new (begin_text d.transform) → TookFront its failed old new (text_of d)
  front_at_begin p = front_at_layers (took_first (layers_text d) p)
