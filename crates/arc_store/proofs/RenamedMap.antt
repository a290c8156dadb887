-- The map as its callers see it, after a feature got another id.
use Rattle.kit_words.proofs.Common.{◌≡◌, ℕ, refl, sym, ap, ◌∙◌, Option, None, Some, option_map}
use Rattle.ring_machine.specs.Common.{Feature, FeatureOf, Text, renamed, feature, in_feature}
use Rattle.ring_machine.proofs.Common.{feature-in_rings}
use Rattle.edit_records.specs.Common.{Record, Renamed}
use Rattle.vertex_index.specs.Common.{Placement}
use Rattle.segment_index.specs.Common.{SegmentSet}
use Rattle.segment_index.specs.Frames.{Frame as GridFrame}
use Rattle.arc_tables.specs.Common.{Rings}
use Rattle.map_frame.specs.Common.{Framed}
use Rattle.feature_exchange.specs.Common.{stored, ring_under}
use Rattle.arc_store.specs.Common.{IsKept, state_of, State}
use Rattle.arc_store.proofs.NamedBack.{state_named}

module _ {frame : Framed} {rings : Rings} {places : Placement} {held : SegmentSet} {positions : ℕ}
    (kept : IsKept frame rings places held positions) {l : ℕ} {cells : Option GridFrame} {o : Option Record} {now : State}
    (is : state_of frame rings places l cells o ≡ now) (n : ℕ) where
  -- the feature has the id that it has in the frame
  pub id_there : (was : Option Text) → ((g : FeatureOf ℕ) → feature frame.doc n ≡ Some g → was ≡ g.id)
      → (f : Feature) → feature now.doc n ≡ Some f → was ≡ f.id
  id_there was old f e =
      by (feature frame.doc n) refl
      (sym (feature-in_rings (ring_under (stored frame rings places)) frame.doc n) ∙ ap (λ (s : State). feature s.doc n) is ∙ e)
    where
      by : (x : Option (FeatureOf ℕ)) → feature frame.doc n ≡ x
          → option_map (in_feature (ring_under (stored frame rings places))) x ≡ Some f → was ≡ f.id
      by None h there = absurd cc
      by (Some g) h there =
          let same : in_feature (ring_under (stored frame rings places)) g ≡ f = cc in
          old g h ∙ ap (λ (x : Feature). x.id) same

  -- with the id and what takes it back
  pub renamed_state : (id : Text) (new : Framed) → new ≡ record frame { doc = renamed frame.doc n id }
      → (was : Option Text) → ((g : FeatureOf ℕ) → feature frame.doc n ≡ Some g → was ≡ g.id)
      → (f : Feature) → feature now.doc n ≡ Some f
      → state_of new rings places l cells (Some (Renamed n was))
      ≡ record now { doc = renamed now.doc n id; last = Some (Renamed n f.id) }
  renamed_state id new made was old f e =
      ap (λ (s : State). record s { last = Some (Renamed n was) }) (state_named kept is n (Some id) new made)
      ∙ ap (λ i. record now { doc = renamed now.doc n id; last = Some (Renamed n i) }) (id_there was old f e)
