-- An outline is answered exactly if it is that of the topology, and has few features.
use Rattle.kit_words.proofs.Common.{arith, ◌≤◌, ◌≡◌, ◌&&◌, ℕ, List, [], ◌∷◌, true, refl, ap, ap₂, subst, codes, Ok}
use Rattle.kit_words.proofs.Common.{Option, Some, None, option_map, and_parts}
use Rattle.json_spans.specs.Common.{Node, IsListOf, items, kind_of, decoded}
use Rattle.json_spans.proofs.Common.{number_kind, items_told, number_told, text_told, null_told, text_kind, null_kind}
use Rattle.json_spans.specs.declared.kinds.Kind.{Kind}
use Rattle.json_spans.specs.declared.kinds.Kind.TheVariants as kind
use Rattle.ring_machine.specs.Common.{Text}
use Rattle.topo_outline.specs.Common.{Word, Geometry, geometry_of, not_topology, too_large, ◌>>=◌, each, EntryNode}
use Rattle.topo_outline.specs.Common.{member, kept, LayerText, OutlineText, few, is_list, is_object, members_of}
use Rattle.topo_outline.specs.Common.{member_that, wrong, is_number, two_numbers, are_two_numbers, is_transform}
use Rattle.topo_outline.specs.Common.{transform_value, transform_from, is_topology_word, says_topology, is_type_text}
use Rattle.topo_outline.specs.Common.{is_topology, layers, outline_text, outlined, outline, NestsAtMost, HasEntries}
use Rattle.topo_outline.specs.Common.{value_at, HasType, AreTwoNumbers, IsTransform, no_transform, null_transform}
use Rattle.topo_outline.specs.Common.{AreLayers, no_layer, IsOutline}
use Rattle.topo_outline.specs.declared.words.Word.TheVariants as word
use Rattle.topo_outline.specs.declared.words.Geometry.TheVariants as geo
use Rattle.topo_outline.specs.declared.fault.Limit.TheVariants as limit
use Rattle.topo_outline.specs.declared.members.Owner.TheVariants as owner
use Rattle.topo_outline.specs.Shape.{layer, geometry}
use Rattle.topo_outline.specs.IsOutline as shape
use Rattle.topo_outline.proofs.Levels.{AllNest, an_object, object_nests, list_nests, value_nests, list_here, is_an_object, is_a_list}
use Rattle.topo_outline.proofs.Steps.{step, demanded, same_ok}
use Rattle.topo_outline.proofs.Entering.{object_means, object_gives}
use Rattle.topo_outline.proofs.Typing.{member_at, value_of_member, good_member, member_is_good, Says, topology, says}
use Rattle.topo_outline.proofs.Nesting.{geometry_means, geometry_gives, geometry_is_object}

-- ---- the transform

pub number_means : (k : Kind) → is_number k ≡ true → k ≡ kind.Number
number_means kind.Number h = refl
number_means _ h = absurd cc

two_mean : (k : ℕ) (n : Node) (ns : List Node) → NestsAtMost k n → IsListOf n ns → two_numbers ns ≡ true → AreTwoNumbers n
two_mean k n [] nests l h = absurd cc
two_mean k n (x ∷ []) nests l h = absurd cc
two_mean k n (x ∷ y ∷ []) nests l h =
    let (first, second) = and_parts (is_number (kind_of x.bytes)) (is_number (kind_of y.bytes)) h in
    let (j, less, all) = list_nests k n nests l in
    record { x = x; y = y; two = l; x_number = number_told all.0 (number_means _ first); y_number = number_told all.1.0 (number_means _ second) }
two_mean k n (x ∷ y ∷ z ∷ ns) nests l h = absurd cc

numbers_mean : (k : ℕ) (w : Word) (es : List EntryNode) → AllNest k es → are_two_numbers (member w es) ≡ true → (v : Node) × (value_at w es ≡ Some v) × AreTwoNumbers v
numbers_mean k w es all h = by (member w es) refl h
  where
    by : (o : Option EntryNode) → member w es ≡ o → are_two_numbers o ≡ true → (v : Node) × (value_at w es ≡ Some v) × AreTwoNumbers v
    by None e h = absurd cc
    by (Some m) e h =
        let (list, two) = and_parts (is_list m.value) (two_numbers (items m.value)) h in
        let there = value_of_member w es m e in
        let nests = value_nests k w es m.value all there in
        (m.value, there, two_mean k m.value (items m.value) nests (list_here k m.value nests list) two)

two_give : (v : Node) → AreTwoNumbers v → (is_list v && two_numbers (items v)) ≡ true
two_give v t = ap₂ (λ a b. a && b) (is_a_list t.two) (subst (λ ns. two_numbers ns ≡ true) (items_told t.two) (ap₂ (λ a b. is_number a && is_number b) (number_kind t.x_number) (number_kind t.y_number)))

numbers_give : (o : Option EntryNode) (v : Node) → option_map (λ m. m.value) o ≡ Some v → AreTwoNumbers v → are_two_numbers o ≡ true
numbers_give None v e t = absurd cc
numbers_give (Some m) v e t = let same : m.value ≡ v = cc in rw same (two_give v t)

kind_is_object : (n : Node) → kind_of n.bytes ≡ kind.Object → is_object n ≡ true
kind_is_object n e = rw e refl

value_means : (j : ℕ) (m : EntryNode) (k : Kind) (t : Option Text) → NestsAtMost j m.value → kind_of m.value.bytes ≡ k → transform_value m k ≡ Ok t → IsTransform (Some m.value) t
value_means j m kind.Null t nests e h = rw (← same_ok h) (null_transform (null_told nests e))
value_means j m kind.Object t nests e h =
    step (members_of m.value) _ h λ es entered tested.
    let (right, last) = demanded (is_transform es) (wrong m) (Ok (Some m.value.bytes)) tested in
    let (scales, translates) = and_parts (are_two_numbers (member word.Scale es)) (are_two_numbers (member word.Translate es)) right in
    let o = object_means j m.value es nests (kind_is_object m.value e) entered in
    let (i, less, all) = object_nests j m.value es nests o in
    let (scale, at_scale, two_scales) = numbers_mean i word.Scale es all scales in
    let (translate, at_translate, two_translates) = numbers_mean i word.Translate es all translates in
    rw (← same_ok last) (shape.transform o at_scale two_scales at_translate two_translates)
value_means j m _ t nests e h = absurd cc

transform_means : (j : ℕ) (es : List EntryNode) (t : Option Text) → AllNest j es → transform_from (member word.Transform es) ≡ Ok t → IsTransform (value_at word.Transform es) t
transform_means j es t all h = by (member word.Transform es) refl h
  where
    by : (o : Option EntryNode) → member word.Transform es ≡ o → transform_from o ≡ Ok t → IsTransform (option_map (λ m. m.value) o) t
    by None e h = rw (← same_ok h) no_transform
    by (Some m) e h = value_means j m (kind_of m.value.bytes) t (value_nests j word.Transform es m.value all (value_of_member word.Transform es m e)) refl h

pub transform_gives : {v : Option Node} {t : Option Text} → IsTransform v t → (o : Option EntryNode) → option_map (λ m. m.value) o ≡ v → transform_from o ≡ Ok t
transform_gives no_transform None e = refl
transform_gives no_transform (Some m) e = absurd cc
transform_gives (null_transform k) None e = absurd cc
transform_gives (null_transform {n = n} k) (Some m) e = let same : m.value ≡ n = cc in rw (same, null_kind k) refl
transform_gives (shape.transform a b c d f) None e = absurd cc
transform_gives (shape.transform {n = n} {scale = s} {translate = r} {es = es} o at_scale scales at_translate translates) (Some m) e =
    let same : m.value ≡ n = cc in
    rw (same, an_object (kind_of n.bytes) (is_an_object o.object), object_gives o, numbers_give (member word.Scale es) s at_scale scales, numbers_give (member word.Translate es) r at_translate translates) refl

-- ---- the layers

layers_mean : (k : ℕ) (ms : List EntryNode) (ls : List LayerText) → AllNest k ms → each layer ms ≡ Ok ls → AreLayers ms ls
unfolding layer
layers_mean k [] ls nests h = rw (← same_ok h) no_layer
layers_mean k (m ∷ ms) ls nests h =
    step (layer m) _ h λ l one more.
    step (each layer ms) _ more λ rest others last.
    let (object, inner) = demanded (is_object m.value) (wrong m) (geometry 100 m.value >>= λ ps. Ok (record { name = m.name.bytes; pieces = ps })) one in
    step (geometry 100 m.value) _ inner λ ps pieces made.
    rw (← same_ok last, ← same_ok made) (shape.layer (geometry_means 100 k m.value ps nests.0 object pieces) (layers_mean k ms rest nests.1 others))

layers_give : {ms : List EntryNode} {ls : List LayerText} (k : ℕ) → AreLayers ms ls → AllNest k ms → k ≤ 100 → each layer ms ≡ Ok ls
unfolding layer
layers_give k no_layer nests le = refl
layers_give k (shape.layer g gs) nests le = rw (geometry_is_object g, geometry_gives g k 100 nests.0 le, layers_give k gs nests.1 le) refl

-- ---- the member `type`

text_kind_is : (k : Kind) → is_type_text k ≡ true → k ≡ kind.Text
text_kind_is kind.Text h = refl
text_kind_is _ h = absurd cc

topology_text : (t : List ℕ) (g : Geometry) → Says t g → is_topology_word g ≡ true → t ≡ codes "Topology"
topology_text t geo.Topology (topology e) h = e
topology_text t _ s h = absurd cc

topology_said : (o : Option (List ℕ)) → says_topology o ≡ true → o ≡ Some (codes "Topology")
topology_said None h = absurd cc
topology_said (Some t) h = ap (λ (u : List ℕ). Some u) (topology_text t (geometry_of t) (says t) h)

topology_means : (j : ℕ) (es : List EntryNode) → AllNest j es → is_topology (member word.Type es) ≡ true → HasType es (codes "Topology")
topology_means j es all h = by (member word.Type es) refl h
  where
    by : (o : Option EntryNode) → member word.Type es ≡ o → is_topology o ≡ true → HasType es (codes "Topology")
    by None found h = absurd cc
    by (Some m) found h =
        let (string, said) = and_parts (is_type_text (kind_of m.value.bytes)) (says_topology (decoded m.value.bytes)) h in
        let there = value_of_member word.Type es m found in
        record { value = m.value; there = there; string = text_told (value_nests j word.Type es m.value all there) (text_kind_is _ string); says = topology_said _ said }

topology_gives : (es : List EntryNode) → HasType es (codes "Topology") → is_topology (member word.Type es) ≡ true
unfolding geometry_of
topology_gives es h =
    let (m, found, same) = member_at word.Type es h.value h.there in
    rw (found, same, text_kind h.string, h.says) refl

-- ---- the topology

outlined_means : (k : ℕ) (root : Node) (es : List EntryNode) (o : OutlineText) → AllNest k es → HasEntries root es → HasType es (codes "Topology") → outlined es ≡ Ok o → IsOutline root o
outlined_means k root es o nests object typed h =
    step (transform_from (member word.Transform es)) _ h λ t transformed more.
    step (member_that is_object (codes "objects") word.Objects es) _ more λ m found most.
    step (member_that is_list (codes "arcs") word.Arcs es) _ most λ a found_arcs rest.
    step (layers m.value) _ rest λ ls layered last.
    let (small, made) = demanded (few ls) (too_large limit.Features) (Ok (outline_text t ls a.value es)) last in
    step (members_of m.value) (each layer) layered λ named entered one_by_one.
    let (there, is_one) = good_member is_object (codes "objects") word.Objects es m found in
    let (arcs_there, is_arcs) = good_member is_list (codes "arcs") word.Arcs es a found_arcs in
    let at_objects = value_of_member word.Objects es m there in
    let at_arcs = value_of_member word.Arcs es a arcs_there in
    let inside = value_nests k word.Objects es m.value nests at_objects in
    let o = object_means k m.value named inside is_one entered in
    let (j, less, all) = object_nests k m.value named inside o in
    rw (← same_ok made) (record {
      entries = es;
      objects = m.value;
      named = named;
      of_root = object;
      topology = typed;
      transform = transform_means k es t nests transformed;
      has_objects = at_objects;
      of_objects = o;
      layers = layers_mean j named ls all one_by_one;
      has_arcs = at_arcs;
      are_arcs = (items a.value, list_here k a.value (value_nests k word.Arcs es a.value nests at_arcs) is_arcs);
      members = refl;
    })

pub outline_means : (k : ℕ) (root : Node) (o : OutlineText) → NestsAtMost k root → outline root ≡ Ok o → IsOutline root o
outline_means k root o nests h =
    let (object, more) = demanded (is_object root) not_topology _ h in
    step (members_of root) _ more λ es entered most.
    let (right, last) = demanded (is_topology (member word.Type es)) not_topology (outlined es) most in
    let of_root = object_means k root es nests object entered in
    let (j, less, all) = object_nests k root es nests of_root in
    outlined_means j root es o all of_root (topology_means j es all right) last

-- an outline that is answered has few features
pub outline_few : (root : Node) (o : OutlineText) → outline root ≡ Ok o → few o.layers ≡ true
outline_few root o h =
    let (object, more) = demanded (is_object root) not_topology _ h in
    step (members_of root) _ more λ es entered most.
    let (right, last) = demanded (is_topology (member word.Type es)) not_topology (outlined es) most in
    step (transform_from (member word.Transform es)) _ last λ t transformed rest.
    step (member_that is_object (codes "objects") word.Objects es) _ rest λ m found further.
    step (member_that is_list (codes "arcs") word.Arcs es) _ further λ a found_arcs left.
    step (layers m.value) _ left λ ls layered limit_tested.
    let (small, made) = demanded (few ls) (too_large limit.Features) (Ok (outline_text t ls a.value es)) limit_tested in
    rw (← same_ok made) small

layers_of_object : {n : Node} {es : List EntryNode} {ls : List LayerText} (k : ℕ) → HasEntries n es → AreLayers es ls → NestsAtMost k n → k ≤ 100 → layers n ≡ Ok ls
layers_of_object {n = n} {es = es} k o l nests le =
    let (j, less, all) = object_nests k n es nests o in
    rw (object_gives o, layers_give j l all (omega arith)) refl

outlined_gives : (es : List EntryNode) (o : OutlineText) (m a : EntryNode) → transform_from (member word.Transform es) ≡ Ok o.transform → member_that is_object (codes "objects") word.Objects es ≡ Ok m → member_that is_list (codes "arcs") word.Arcs es ≡ Ok a → layers m.value ≡ Ok o.layers → a.value ≡ o.arcs → few o.layers ≡ true → o.members ≡ kept owner.Topology es → outlined es ≡ Ok o
outlined_gives es o m a transformed found found_arcs layered arcs_are small kept_are = rw (transformed, found, found_arcs, layered, arcs_are, small, ← kept_are) refl

pub outline_gives : (root : Node) (o : OutlineText) → NestsAtMost 100 root → IsOutline root o → few o.layers ≡ true → outline root ≡ Ok o
outline_gives root o nests s small =
    let (k, less, all) = object_nests 100 root s.entries nests s.of_root in
    let (m, found, same) = member_at word.Objects s.entries s.objects s.has_objects in
    let (a, found_arcs, same_arcs) = member_at word.Arcs s.entries o.arcs s.has_arcs in
    rw (is_an_object s.of_root.object, object_gives s.of_root, topology_gives s.entries s.topology) (
    outlined_gives s.entries o m a
    (transform_gives s.transform (member word.Transform s.entries) refl)
    (member_is_good is_object (codes "objects") word.Objects s.entries m found (rw same (is_an_object s.of_objects.object)))
    (member_is_good is_list (codes "arcs") word.Arcs s.entries a found_arcs (rw same_arcs (is_a_list s.are_arcs.1)))
    (rw same (layers_of_object k s.of_objects s.layers (value_nests k word.Objects s.entries s.objects all s.has_objects) (omega arith)))
    same_arcs small s.members)
