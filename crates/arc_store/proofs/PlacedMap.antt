-- Where the features of a map stand, and what is true of its document.
use Rattle.kit_words.proofs.Common.{◌≡◌, ◌<◌, ◌≤◌, ℕ, true, false, refl, sym, ap, ◌∙◌, subst, arith, List, Option, Some}
use Rattle.kit_words.proofs.Common.{None, option_map, is_some, false≢true, true_from_ne_false, false_from_ne_true}
use Rattle.ring_machine.specs.Common.{DocumentOf, FeatureOf, Document, feature, in_feature, in_rings, has_feature}
use Rattle.ring_machine.specs.Common.{feature_at, or_else, no_feature}
use Rattle.ring_machine.proofs.Common.{feature-in_rings, has_feature-found}
use Rattle.edit_records.specs.Common.{LayerTree, Fills, has_place, IsMap, IsHeld, Record}
use Rattle.edit_records.proofs.Common.{fills-nowhere, fills-grown, fills-in_rings}
use Rattle.vertex_index.specs.Common.{Placement}
use Rattle.segment_index.specs.Common.{SegmentSet}
use Rattle.segment_index.specs.Frames.{Frame as GridFrame}
use Rattle.arc_tables.specs.Common.{Rings}
use Rattle.topo_outline.specs.Common.{KeepsTexts}
use Rattle.topo_outline.proofs.Common.{keeps-in_rings}
use Rattle.map_frame.specs.Common.{Framed, ArePlaced, Texts, texts_of}
use Rattle.feature_exchange.specs.Common.{trees_after, stored, ring_under, stored_document}
use Rattle.arc_store.specs.Common.{IsKept, state_of, State}
use Rattle.arc_store.proofs.FeaturesKept.{seen_doc, seen_formed, seen_proper, seen_size, seen_small}

-- rings in the place of their numbers leave the places as they are
pub placed-in_rings : {R S : Type 0} (g : R → S) (trees : List LayerTree) (next : ℕ) (d : DocumentOf R)
    → ArePlaced trees next d → ArePlaced trees next (in_rings g d)
placed-in_rings g trees next d h = record {
  fills = fills-in_rings g trees d h.fills;
  formed = h.formed;
  alone = h.alone;
  placed = h.placed;
  known = h.known;
}

-- a number that is yet to come is no feature's
pub later_new : {R : Type 0} (trees : List LayerTree) (next : ℕ) (d : DocumentOf R) → ArePlaced trees next d
    → (m : ℕ) → next ≤ m → has_feature d m ≡ false
later_new trees next d h m later =
    has_feature-found d m
    ∙ ap is_some (fills-nowhere trees d h.fills m (false_from_ne_true _ (λ e. let l = h.known m e in omega (arith, l))))

module _ {frame : Framed} {rings : Rings} {places : Placement} {held : SegmentSet} {positions : ℕ}
    (kept : IsKept frame rings places held positions) {l : ℕ} {cells : Option GridFrame} {o : Option Record} {now : State}
    (is : state_of frame rings places l cells o ≡ now) where
  pub placed_seen : ArePlaced frame.places frame.next frame.doc → ArePlaced now.places now.next now.doc
  placed_seen h =
      subst (λ (s : State). ArePlaced s.places s.next s.doc) is
      (placed-in_rings (ring_under (stored frame rings places)) frame.places frame.next frame.doc h)

  pub map_seen : IsMap now.doc
  map_seen = record {
    proper = seen_proper kept is;
    formed = seen_formed kept is;
    small = omega (arith, seen_size kept is, seen_small kept is);
  }

  pub keeps_seen : KeepsTexts now.doc
  keeps_seen =
      subst KeepsTexts (seen_doc kept is)
      (keeps-in_rings (ring_under (stored frame rings places)) frame.doc kept.holds.keeps)

  pub held_seen : ArePlaced frame.places frame.next frame.doc → IsHeld now.places now.next now.doc
  held_seen h = record {
    map = map_seen;
    fills = (placed_seen h).fills;
    below = later_new now.places now.next now.doc (placed_seen h);
  }

  -- the texts of a feature as the frame has them
  pub texts_there : (n : ℕ) (t : Texts) → Some t ≡ option_map texts_of (feature frame.doc n)
      → t ≡ texts_of (feature_at now.doc n)
  texts_there n t e =
      by (feature frame.doc n) refl e ∙ ap (λ d. texts_of (feature_at d n)) (seen_doc kept is)
    where
      by : (o : Option (FeatureOf ℕ)) → feature frame.doc n ≡ o → Some t ≡ option_map texts_of o
          → t ≡ texts_of (feature_at (stored_document (stored frame rings places)) n)
      by None h k = absurd cc
      by (Some f) h k =
          let same : t ≡ texts_of f = cc in
          same ∙ sym (ap (λ o. texts_of (or_else no_feature o))
          (feature-in_rings (ring_under (stored frame rings places)) frame.doc n
          ∙ ap (option_map (in_feature (ring_under (stored frame rings places)))) h))

  pub texts_missing : (n : ℕ) → has_feature now.doc n ≡ true → None ≡ option_map texts_of (feature frame.doc n) → ⊥
  texts_missing n there e = by (feature frame.doc n) refl e
    where
      by : (o : Option (FeatureOf ℕ)) → feature frame.doc n ≡ o → None ≡ option_map texts_of o → ⊥
      by (Some f) h k = cc
      by None h k =
          let none : feature now.doc n ≡ None =
          ap (λ d. feature d n) (sym (seen_doc kept is))
          ∙ feature-in_rings (ring_under (stored frame rings places)) frame.doc n
          ∙ ap (option_map (in_feature (ring_under (stored frame rings places)))) h in
          false≢true (sym (has_feature-found now.doc n ∙ ap is_some none) ∙ there)

-- ---- places for what is to come

-- a number that is yet to come has no place
pub next_free : {R : Type 0} (trees : List LayerTree) (next : ℕ) (d : DocumentOf R) → ArePlaced trees next d
    → has_place trees next ≡ false
next_free trees next d h = false_from_ne_true _ (λ e. let l = h.known next e in omega (arith, l))

-- the features stand at these places too
pub fills_after : (after : Option ℕ) (trees : List LayerTree) (next : ℕ) (d : Document) → ArePlaced trees next d
    → Fills (trees_after after next trees) d
fills_after None trees next d h = h.fills
fills_after (Some n) trees next d h =
    fills-grown trees d n next (fills-nowhere trees d h.fills next (next_free trees next d h)) h.fills

-- a feature has a number below the next one
pub there_below : {R : Type 0} (trees : List LayerTree) (next : ℕ) (d : DocumentOf R) → ArePlaced trees next d
    → (n : ℕ) → has_feature d n ≡ true → n < next
there_below trees next d h n there = h.known n (true_from_ne_false _ (λ e.
    false≢true (sym (has_feature-found d n ∙ ap is_some (fills-nowhere trees d h.fills n e)) ∙ there)))

-- and the next one is no feature's
pub next_new : {R : Type 0} (trees : List LayerTree) (next : ℕ) (d : DocumentOf R) → ArePlaced trees next d
    → has_feature d next ≡ false
next_new trees next d h = later_new trees next d h next (omega arith)
