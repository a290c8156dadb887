-- The layers of a document, one after another: how they are shown, and the arcs after them.
use Rattle.kit_words.proofs.Common.{◌≡◌, ℕ, ◌+◌, ◌≤◌, ◌<◌, refl, sym, ap, ap₂, ◌∙◌, subst, append_assoc, List, [], ◌∷◌}
use Rattle.kit_words.proofs.Common.{◌++◌, map, length, take, drop, get_or, Some, option_map, slice_get, Contains, codes}
use Rattle.kit_words.proofs.Common.{false, flat_map, filter_map, drop_more, length-map, take-append-drop}
use Rattle.kit_words.proofs.Common.{flat_map-append, slice_get-map, slice_get-get_or, get_or_from_slice_get}
use Rattle.kit_words.proofs.Common.{take-length}
use Rattle.grid_geometry.specs.Common.{Position}
use Rattle.ring_machine.specs.Common.{Document, Layer, Item, Text, feature_of, rings_of, size, is_junction}
use Rattle.ring_machine.proofs.Common.{in_contains, in_at}
use Rattle.map_frame.specs.Common.{ShownItem, shown_item, ShownFrame, shown_layer}
use Rattle.map_text.specs.Common.{arcs_of, pieces, with_pieces, items_text}
use Rattle.topo_writer.specs.Common.{items_at, item_rings, items_written, written_item, LeadsOn, ShowsLayer, arcs_after}
use Rattle.topo_writer.specs.Common.{layer_at, layer_rings, layer_text, IsMapFrame}
use Rattle.topo_writer.proofs.ItemLemmas.{items_back, written_layer}
use Rattle.topo_writer.proofs.LaterParts.{part_arcs}
use Rattle.topo_writer.proofs.Leading.{item_rings-append, leads_begin, leads_first, leads_off}

-- ---- a layer as it is shown

pub layer_count : (d : Document) (frame : ShownFrame) → IsMapFrame d frame → length frame.layers ≡ length d.layers
layer_count d frame h = ap (λ (f : ShownFrame). length f.layers) h.shown ∙ length-map d.layers shown_layer

-- the layer with a number is the one that stands there
pub layer_there : (d : Document) (i : ℕ) → i < length d.layers → layer_at d i ≡ get_or d.layers i (layer_at d i)
layer_there d i l = sym (get_or_from_slice_get d.layers i (layer_at d i) (layer_at d i) (slice_get-get_or d.layers i _ l))

pub layer_contained : (d : Document) (i : ℕ) → i < length d.layers → Contains d.layers (layer_at d i)
layer_contained d i l = in_contains d.layers (layer_at d i) (in_at d.layers i _ l)

pub layer_shown : (d : Document) (frame : ShownFrame) (i : ℕ) → IsMapFrame d frame → i < length d.layers
    → slice_get frame.layers i ≡ Some (shown_layer (layer_at d i))
layer_shown d frame i h l =
    ap (λ (f : ShownFrame). slice_get f.layers i) h.shown
    ∙ slice_get-map shown_layer d.layers i
    ∙ ap (option_map shown_layer) (slice_get-get_or d.layers i _ l)

pub items_shown : (d : Document) (frame : ShownFrame) (i : ℕ) (items : List ShownItem) → IsMapFrame d frame → i < length d.layers
    → Some items ≡ option_map (λ l. l.items) (slice_get frame.layers i) → items ≡ map shown_item (layer_at d i).items
items_shown d frame i items h l e =
    let t : Some items ≡ Some (map shown_item (layer_at d i).items) = e ∙ ap (option_map (λ l. l.items)) (layer_shown d frame i h l) in cc

pub name_shown : (d : Document) (frame : ShownFrame) (i : ℕ) (name : List ℕ) → IsMapFrame d frame → i < length d.layers
    → Some name ≡ option_map (λ l. l.name) (slice_get frame.layers i) → name ≡ (layer_at d i).name
name_shown d frame i name h l e =
    let t : Some name ≡ Some (layer_at d i).name = e ∙ ap (option_map (λ l. l.name)) (layer_shown d frame i h l) in cc

pub shows_layer : (d : Document) (i : ℕ) (items : List ShownItem) → i < length d.layers
    → items ≡ map shown_item (layer_at d i).items → ShowsLayer d items
shows_layer d i items l e = record { layer = layer_at d i; there = layer_contained d i l; shows = e }

-- the items that are shown are those of the layer
pub items_are : (d : Document) (frame : ShownFrame) (i : ℕ) (items : List ShownItem) → IsMapFrame d frame → i < length d.layers
    → items ≡ map shown_item (layer_at d i).items → items_at d items ≡ (layer_at d i).items
items_are d frame i items h l e =
    ap (items_at d) e ∙ items_back d h.formed (layer_at d i) (layer_contained d i l)

-- and so they are written
pub items_out : (d : Document) (frame : ShownFrame) (i : ℕ) (items : List ShownItem) → IsMapFrame d frame → i < length d.layers
    → items ≡ map shown_item (layer_at d i).items → items_written d items ≡ map (written_item d) (layer_at d i).items
items_out d frame i items h l e =
    ap (items_written d) e ∙ written_layer d h.formed (layer_at d i) (layer_contained d i l)

-- ---- the arcs after layers

layers_rings : (ls : List Layer) → flat_map rings_of (flat_map (λ l. filter_map feature_of l.items) ls) ≡ flat_map layer_rings ls
layers_rings [] = refl
layers_rings (l ∷ ls) =
    flat_map-append rings_of (filter_map feature_of l.items) (flat_map (λ k. filter_map feature_of k.items) ls)
    ∙ ap (λ z. layer_rings l ++ z) (layers_rings ls)

items_rings : (ls : List Layer) → item_rings (flat_map (λ l. l.items) ls) ≡ flat_map layer_rings ls
items_rings [] = refl
items_rings (l ∷ ls) = item_rings-append l.items (flat_map (λ k. k.items) ls) ∙ ap (λ z. layer_rings l ++ z) (items_rings ls)

-- after all layers the arcs are those of the document
pub arcs_whole : (d : Document) → arcs_after d (length d.layers) ≡ arcs_of d
arcs_whole d =
    ap (λ z. with_pieces [] (flat_map (pieces (is_junction d)) z))
    (ap (flat_map layer_rings) (take-length d.layers) ∙ sym (layers_rings d.layers))

-- one layer more
pub arcs_next : (d : Document) (i : ℕ) → i < length d.layers → (now next : List (List Position)) (items : List Item)
    → now ≡ arcs_after d i → items ≡ (layer_at d i).items
    → next ≡ with_pieces now (flat_map (pieces (is_junction d)) (item_rings items)) → next ≡ arcs_after d (i + 1)
arcs_next d i l now next items p e q =
    part_arcs (is_junction d) [] layer_rings d.layers i (layer_at d i) l (layer_there d i l) now next p
    (q ∙ ap (λ z. with_pieces now (flat_map (pieces (is_junction d)) (item_rings z))) e)

-- with a layer the arcs after those before it lead on
pub layer_leads : (d : Document) (i : ℕ) (now : List (List Position)) (items : List Item) → size d ≤ 4000000 → i < length d.layers
    → now ≡ arcs_after d i → items ≡ (layer_at d i).items → LeadsOn d now items
layer_leads d i now items small l p e =
    let own : Layer → List Item = λ k. k.items in
    let front = flat_map own (take i d.layers) in
    let rest = flat_map own (drop (i + 1) d.layers) in
    let split : flat_map own d.layers ≡ front ++ flat_map own (drop i d.layers) =
    ap (flat_map own) (sym (take-append-drop i d.layers)) ∙ flat_map-append own (take i d.layers) (drop i d.layers) in
    let back : flat_map own (drop i d.layers) ≡ items ++ rest =
    ap (flat_map own) (drop_more d.layers i _ l) ∙ ap (λ z. z ++ rest) (sym e) in
    let whole : LeadsOn d [] (front ++ (items ++ rest)) =
    subst (LeadsOn d []) (split ∙ ap (λ z. front ++ z) back) (leads_begin d small) in
    leads_first d now items rest
    (leads_off d [] now front (items ++ rest) whole
    (p ∙ ap (λ z. with_pieces [] (flat_map (pieces (is_junction d)) z)) (sym (items_rings (take i d.layers)))))

-- ---- the text of a layer

-- the name of a layer and a colon, after a comma where something stands before, and then the items
pub layer_parts : (d : Document) (i : ℕ) (more name items : Text) → name ≡ (layer_at d i).name
    → items ≡ items_text [] false (map (written_item d) (layer_at d i).items)
    → (more ++ (name ++ codes ":")) ++ items ≡ more ++ layer_text d (layer_at d i)
layer_parts d i more name items n e =
    append_assoc more (name ++ codes ":") items
    ∙ ap (λ z. more ++ z) (append_assoc name (codes ":") items)
    ∙ ap₂ (λ y z. more ++ (y ++ (codes ":" ++ z))) n e
