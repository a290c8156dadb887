-- A text has one outline at most.
use Rattle.kit_words.proofs.Common.{◌≡◌, ℕ, List, [], ◌∷◌, refl, sym, ap, ap₂, ◌∙◌, subst, arith, Option, Some, Ok}
use Rattle.json_spans.specs.Common.{Node}
use Rattle.ring_machine.specs.Common.{Text, Member}
use Rattle.topo_outline.specs.declared.words.Word.TheVariants as word
use Rattle.topo_outline.specs.declared.members.Owner.TheVariants as owner
use Rattle.topo_outline.specs.Common.{EntryNode, member, kept, Piece, LayerText, OutlineText, transform_from}
use Rattle.topo_outline.specs.Common.{NestsAtMost, HasEntries, value_at, IsGeometry, AreLayers, no_layer, layer}
use Rattle.topo_outline.specs.Common.{IsOutline}
use Rattle.topo_outline.proofs.Steps.{same_ok}
use Rattle.topo_outline.proofs.Levels.{AllNest, object_nests, value_nests}
use Rattle.topo_outline.proofs.Entering.{object_gives}
use Rattle.topo_outline.proofs.Nesting.{geometry_gives}
use Rattle.topo_outline.proofs.Shaped.{transform_gives}

some_same : (m n : Node) → Some m ≡ Some n → m ≡ n
some_same m n e = cc

entries_same : {n : Node} {es fs : List EntryNode} → HasEntries n es → HasEntries n fs → es ≡ fs
entries_same h k = same_ok (sym (object_gives h) ∙ object_gives k)

geometry_same : {n : Node} {ps qs : List Piece} (k : ℕ) → NestsAtMost k n → IsGeometry n ps → IsGeometry n qs → ps ≡ qs
geometry_same k nests g h = same_ok (sym (geometry_gives g k k nests (omega arith)) ∙ geometry_gives h k k nests (omega arith))

layers_same : {ms : List EntryNode} {ls ks : List LayerText} (k : ℕ) → AllNest k ms → AreLayers ms ls → AreLayers ms ks → ls ≡ ks
layers_same k nests no_layer no_layer = refl
layers_same k nests (layer {m = m} g gs) (layer h hs) =
    ap₂ (λ (ps : List Piece) (ls : List LayerText). let l : LayerText = record { name = m.name.bytes; pieces = ps } in l ∷ ls) (geometry_same k nests.0 g h) (layers_same k nests.1 gs hs)

abbrev text_with : Option Text → List LayerText → Node → List Member → OutlineText
text_with t ls n ms = record { transform = t; layers = ls; arcs = n; members = ms }

pub outline_same : (k : ℕ) (root : Node) (o p : OutlineText) → NestsAtMost k root → IsOutline root o → IsOutline root p → o ≡ p
outline_same k root o p nests a b =
    let entries : a.entries ≡ b.entries = entries_same a.of_root b.of_root in
    let objects : a.objects ≡ b.objects = some_same a.objects b.objects (sym a.has_objects ∙ ap (value_at word.Objects) entries ∙ b.has_objects) in
    let arcs : o.arcs ≡ p.arcs = some_same o.arcs p.arcs (sym a.has_arcs ∙ ap (value_at word.Arcs) entries ∙ b.has_arcs) in
    let named : a.named ≡ b.named = entries_same a.of_objects (subst (λ n. HasEntries n b.named) (sym objects) b.of_objects) in
    let (j, less, values) = object_nests k root a.entries nests a.of_root in
    let inside = value_nests j word.Objects a.entries a.objects values a.has_objects in
    let (i, fewer, inner) = object_nests j a.objects a.named inside a.of_objects in
    let layers : o.layers ≡ p.layers = layers_same i inner a.layers (subst (λ ms. AreLayers ms p.layers) (sym named) b.layers) in
    let other : transform_from (member word.Transform a.entries) ≡ Ok p.transform = ap (λ (es : List EntryNode). transform_from (member word.Transform es)) entries ∙ transform_gives b.transform (member word.Transform b.entries) refl in
    let transform : o.transform ≡ p.transform = same_ok (sym (transform_gives a.transform (member word.Transform a.entries) refl) ∙ other) in
    let members : o.members ≡ p.members = a.members ∙ ap (kept owner.Topology) entries ∙ sym b.members in
    ap (λ (t : Option Text). text_with t o.layers o.arcs o.members) transform
    ∙ ap (λ (ls : List LayerText). text_with p.transform ls o.arcs o.members) layers
    ∙ ap₂ (λ (n : Node) (ms : List Member). text_with p.transform p.layers n ms) arcs members
