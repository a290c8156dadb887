-- A map in which a feature has another id, or none.
use Rattle.kit_words.proofs.Common.{◌≡◌, ℕ, sym, ap, ◌∙◌, subst, Option, length, sum_by}
use Rattle.ring_machine.specs.Common.{Text}
use Rattle.edit_records.specs.Common.{Record, IsMap, with_id}
use Rattle.topo_outline.specs.Common.{KeepsTexts}
use Rattle.vertex_index.specs.Common.{Placement}
use Rattle.segment_index.specs.Common.{SegmentSet}
use Rattle.segment_index.specs.Frames.{Frame as GridFrame}
use Rattle.arc_tables.specs.Common.{Rings}
use Rattle.map_frame.specs.Common.{Framed}
use Rattle.feature_exchange.specs.Common.{Stored, stored, stored_document}
use Rattle.feature_exchange.proofs.Common.{rings-named, named_document, named_holds}
use Rattle.arc_store.specs.Common.{IsKept, state_of, State}
use Rattle.arc_store.proofs.FeaturesKept.{kept_as}

module _ {frame : Framed} {rings : Rings} {places : Placement} {held : SegmentSet} {positions : ℕ}
    (kept : IsKept frame rings places held positions) {l : ℕ} {cells : Option GridFrame} {o : Option Record} {now : State}
    (is : state_of frame rings places l cells o ≡ now) (n : ℕ) (id : Option Text) where
  abbrev was : Stored
  was = stored frame rings places

  there : with_id now.doc n id ≡ with_id (stored_document was) n id
  there = ap (λ (s : State). with_id s.doc n id) (sym is)

  module _ (frame' : Framed) (named : frame' ≡ record frame { doc = with_id frame.doc n id }) where
    pub kept_named : IsMap (with_id now.doc n id) → KeepsTexts (with_id now.doc n id)
        → IsKept frame' rings places held positions
    kept_named m keeps =
        subst (λ f. IsKept f rings places held positions) (sym named)
        (kept_as (with_id (stored_document was) n id)
        (named_holds was n id held (subst IsMap there m) (subst KeepsTexts there keeps) kept.holds)
        (named_document was n id)
        (kept.sized ∙ sym (ap (sum_by length) (rings-named n id (stored_document was)))))

    pub state_named : state_of frame' rings places l cells o ≡ record now { doc = with_id now.doc n id }
    state_named =
        ap (λ f. state_of f rings places l cells o) named
        ∙ ap (λ z. record { doc = z; next = frame.next; places = frame.places; tests = l; cells = cells; last = o }) (named_document was n id)
        ∙ ap (λ (s : State). record s { doc = with_id s.doc n id }) is
