-- Layers that are looked at one after another.
use Rattle.kit_words.proofs.Common.{◌≡◌, ◌∙◌, ℕ, ◌+◌, ◌<◌, ◌++◌, ◌∷◌, [], Bool, true, false, List, ap, sym, subst, refl, length, map, take, drop}
use Rattle.kit_words.proofs.Common.{append_assoc, append-nil, drop-map, get_or, if◌then◌else◌, length-append, next_drop}
use Rattle.ring_machine.specs.Common.{Text}
use Rattle.topo_outline.specs.Common.{LayerText, leaves, leaves_in, view_layer}
use Rattle.topo_outline.specs.declared.document.RawLayer.{RawLayer}
use Rattle.layer_sides.specs.Common.{Polygon}
use Rattle.layer_sides.specs.Common.{AreBorders, Bordering}
use Rattle.layer_faces.specs.Common.{AddUp, AreFaces, AreSums, FaceOf, uneven_from}
use Rattle.layer_faces.specs.declared.sums.Sums.{Sums}
use Rattle.layer_faces.specs.declared.uneven.Uneven.{Uneven}
use Rattle.cover_report.specs.Faces.{all_told}
use Rattle.cover_report.specs.Layers.{AddsLook, AreLooks, IsLookAt, LayerOf, LookedAt, asked_layers, layer_of}
use Rattle.cover_report.specs.Names.{is_asked}
use Rattle.cover_report.specs.Uneven.{uneven_told}

-- what was found in a layer's polygons is found in the layer
pub found_in : (l : LayerOf) (k : LookedAt) (polygons : List Polygon) (owners : List ℕ) (borders : List Bordering) (faces : List FaceOf) (uneven : List Uneven) (sums : Sums)
    → polygons ≡ l.polygons → owners ≡ l.owners → AreBorders polygons borders → AreFaces polygons owners (map (λ b. b.segment) borders) faces
    → uneven ≡ uneven_from (map (λ b. b.segment) borders) 0 polygons → AreSums polygons (map (λ b. b.segment) borders) faces sums → AddUp sums
    → k.name ≡ l.name → k.faces ≡ all_told faces → k.uneven ≡ map (uneven_told l.owners l.numbers) uneven → k.sums ≡ sums → IsLookAt l k
found_in l k polygons owners borders faces uneven sums p o are_borders are_faces are_uneven are_sums add_up name told is_uneven is_sums =
    let ss = map (λ (b : Bordering). b.segment) borders in
    record {
      name = name;
      borders = borders;
      are_borders = subst (λ (ps : List Polygon). AreBorders ps borders) p are_borders;
      faces = faces;
      are_faces = subst (λ (ps : List Polygon). AreFaces ps l.owners ss faces) p (subst (λ (os : List ℕ). AreFaces polygons os ss faces) o are_faces);
      told = told;
      uneven = is_uneven ∙ ap (map (uneven_told l.owners l.numbers)) (are_uneven ∙ ap (uneven_from ss 0) p);
      sums = subst (λ (s : Sums). AreSums l.polygons ss faces s) (sym is_sums) (subst (λ (ps : List Polygon). AreSums ps ss faces sums) p are_sums);
      add_up = subst AddUp (sym is_sums) add_up;
    }

-- how many features a layer has, and those behind it
pub leaves_next : (l : LayerText) (ls : List LayerText) → length (leaves (l ∷ ls)) ≡ length (leaves_in l.pieces) + length (leaves ls)
unfolding leaves
leaves_next l ls = length-append (leaves_in l.pieces) (leaves ls)

pub leaves_here : {A : Type 0} (layers : List (RawLayer A)) (i : ℕ) (layer : RawLayer A) → i < length layers → layer ≡ get_or layers i layer
    → length (leaves (map view_layer (drop i layers))) ≡ length (leaves_in (view_layer layer).pieces) + length (leaves (map view_layer (drop (i + 1) layers)))
leaves_here layers i layer l e =
    ap (λ z. length (leaves (map view_layer z))) (next_drop layers i layer l e) ∙ leaves_next (view_layer layer) (map view_layer (drop (i + 1) layers))

-- at first nothing was found
pub goes_begun : {X Y : Type 0} (of : X → List Polygon) (see : Y → LookedAt) (names : List Text) (ls : List LayerText) (rest features : List X) (before : List Y) → rest ≡ features → before ≡ []
    → (ks : List LookedAt) → AreLooks (asked_layers names 0 (map of rest) ls) ks → AreLooks (asked_layers names 0 (map of features) ls) (map see before ++ ks)
goes_begun of see names ls rest features before same none ks h =
    subst (λ (z : List LookedAt). AreLooks (asked_layers names 0 (map of features) ls) (z ++ ks)) (sym (ap (map see) none))
    (subst (λ (z : List LayerOf). AreLooks z ks) (ap (λ z. asked_layers names 0 (map of z) ls) same) h)

module _ (names : List Text) (whole : List LayerOf) where
  -- whatever is found in the layers that are left, with what was found before it is found in all
  abbrev pub GoesOn : ℕ → List (List Polygon) → List LayerText → List LookedAt → Type 0
  GoesOn first features ls before = (ks : List LookedAt) → AreLooks (asked_layers names first features ls) ks → AreLooks whole (before ++ ks)

  turned : (first : ℕ) (features : List (List Polygon)) (l : LayerText) (ls : List LayerText) (b : Bool) → is_asked names l.name ≡ b
      → asked_layers names first features (l ∷ ls)
      ≡ (if b then (layer_of l.name first (take (length (leaves_in l.pieces)) features) ∷ asked_layers names (first + length (leaves_in l.pieces)) (drop (length (leaves_in l.pieces)) features) ls)
      else asked_layers names (first + length (leaves_in l.pieces)) (drop (length (leaves_in l.pieces)) features) ls)
  unfolding asked_layers
  turned first features l ls b e =
      ap (λ (z : Bool). if z then (layer_of l.name first (take (length (leaves_in l.pieces)) features) ∷ asked_layers names (first + length (leaves_in l.pieces)) (drop (length (leaves_in l.pieces)) features) ls)
      else asked_layers names (first + length (leaves_in l.pieces)) (drop (length (leaves_in l.pieces)) features) ls) e

  pub passed_turn : (first : ℕ) (features : List (List Polygon)) (l : LayerText) (ls : List LayerText) (before after : List LookedAt)
      → is_asked names l.name ≡ false → after ≡ before → GoesOn first features (l ∷ ls) before
      → GoesOn (first + length (leaves_in l.pieces)) (drop (length (leaves_in l.pieces)) features) ls after
  passed_turn first features l ls before after e same goes = λ ks h.
      subst (λ (z : List LookedAt). AreLooks whole (z ++ ks)) (sym same)
      (goes ks (subst (λ (z : List LayerOf). AreLooks z ks) (sym (turned first features l ls false e)) h))

  pub looked_turn : (first : ℕ) (features : List (List Polygon)) (l : LayerText) (ls : List LayerText) (before after : List LookedAt)
      → is_asked names l.name ≡ true → AddsLook (layer_of l.name first (take (length (leaves_in l.pieces)) features)) before after
      → GoesOn first features (l ∷ ls) before
      → GoesOn (first + length (leaves_in l.pieces)) (drop (length (leaves_in l.pieces)) features) ls after
  looked_turn first features l ls before after e (k, found, is) goes = λ ks h.
      subst (λ (z : List LookedAt). AreLooks whole z) (sym (ap (λ (z : List LookedAt). z ++ ks) is ∙ append_assoc before (k ∷ []) ks))
      (goes (k ∷ ks) (subst (λ (z : List LayerOf). AreLooks z (k ∷ ks)) (sym (turned first features l ls true e)) (found, h)))

  -- a layer's turn, whether it is asked for or not
  turn : (first : ℕ) (features : List (List Polygon)) (l : LayerText) (ls : List LayerText) (before after : List LookedAt) (b : Bool) → b ≡ is_asked names l.name
      → (b ≡ false → after ≡ before) → (b ≡ true → AddsLook (layer_of l.name first (take (length (leaves_in l.pieces)) features)) before after)
      → GoesOn first features (l ∷ ls) before → GoesOn (first + length (leaves_in l.pieces)) (drop (length (leaves_in l.pieces)) features) ls after
  turn first features l ls before after true e passed looked goes = looked_turn first features l ls before after (sym e) (looked refl) goes
  turn first features l ls before after false e passed looked goes = passed_turn first features l ls before after (sym e) (passed refl) goes

  pub turned_on : {X : Type 0} (of : X → List Polygon) (l : LayerText) (ls : List LayerText) (b : Bool) (first next : ℕ) (rest left : List X) (before after : List LookedAt)
      → b ≡ is_asked names l.name → (b ≡ false → after ≡ before)
      → (b ≡ true → AddsLook (layer_of l.name first (take (length (leaves_in l.pieces)) (map of rest))) before after)
      → next ≡ first + length (leaves_in l.pieces) → left ≡ drop (length (leaves_in l.pieces)) rest
      → GoesOn first (map of rest) (l ∷ ls) before → GoesOn next (map of left) ls after
  turned_on of l ls b first next rest left before after e passed looked is_next is_left goes =
      subst (λ (n : ℕ). GoesOn n (map of left) ls after) (sym is_next)
      (subst (λ (fs : List (List Polygon)). GoesOn (first + length (leaves_in l.pieces)) fs ls after)
      (sym (ap (map of) is_left ∙ sym (drop-map of (length (leaves_in l.pieces)) rest)))
      (turn first (map of rest) l ls before after b e passed looked goes))

  no_layer : (n : ℕ) (fs : List (List Polygon)) → AreLooks (asked_layers names n fs []) []
  unfolding asked_layers
  no_layer n fs = tt

  -- where no layer is left, what was found is found in all
  pub goes_end : (first : ℕ) (features : List (List Polygon)) (ls : List LayerText) (before : List LookedAt) → ls ≡ [] → GoesOn first features ls before
      → AreLooks whole before
  goes_end first features ls before none goes =
      subst (λ (z : List LookedAt). AreLooks whole z) (append-nil before)
      (goes [] (subst (λ (z : List LayerText). AreLooks (asked_layers names first features z) []) (sym none) (no_layer first features)))
