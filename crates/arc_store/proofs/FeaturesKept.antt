-- What is kept when features were exchanged.
use Rattle.kit_words.proofs.Common.{◌≡◌, ◌≤◌, ℕ, ◌+◌, refl, sym, ap, ◌∙◌, subst, Option, None, Some, is_some, length}
use Rattle.kit_words.proofs.Common.{arith, sum_by}
use Rattle.ring_machine.specs.Common.{Document, Feature, Text, renamed, feature, size, Proper, WellFormed, take_out}
use Rattle.ring_machine.specs.Common.{feature_at, or_else, no_feature}
use Rattle.ring_machine.proofs.Common.{formed-in_rings, has_feature-found, feature_stands, size-renamed, take_out_none}
use Rattle.ring_machine.proofs.Common.{size-take_out_at}
use Rattle.topo_outline.specs.Common.{IsJson}
use Rattle.vertex_index.specs.Common.{Placement}
use Rattle.segment_index.specs.Common.{SegmentSet}
use Rattle.segment_index.specs.Frames.{Frame as GridFrame}
use Rattle.arc_tables.specs.Common.{Rings}
use Rattle.map_frame.specs.Common.{Framed}
use Rattle.feature_exchange.specs.Common.{Holds, IsIndexed, stored, stored_document, ring_under}
use Rattle.feature_exchange.proofs.Common.{named_document, renamed_holds}
use Rattle.edit_records.specs.Common.{Record}
use Rattle.arc_store.specs.Common.{IsKept, state_of, State}
use Rattle.ring_parts.proofs.Common.{counted_flat}

module _ {frame : Framed} {rings : Rings} {places : Placement} {held : SegmentSet} {positions : ℕ} where
  pub kept_so : Holds (stored frame rings places) held → positions ≡ size (stored_document (stored frame rings places))
      → IsKept frame rings places held positions
  kept_so h sized = record { holds = h; sized = sized }

  -- where the document is another one, of so many positions
  pub kept_as : (d : Document) → Holds (stored frame rings places) held
      → stored_document (stored frame rings places) ≡ d → positions ≡ size d
      → IsKept frame rings places held positions
  kept_as d h is sized = kept_so h (sized ∙ ap size (sym is))

  module _ (kept : IsKept frame rings places held positions) {l : ℕ} {cells : Option GridFrame} {o : Option Record} {now : State} (is : state_of frame rings places l cells o ≡ now) where
    -- the document is the one that is seen
    pub seen_doc : stored_document (stored frame rings places) ≡ now.doc
    seen_doc = ap (λ (z : State). z.doc) is

    pub seen_formed : WellFormed now.doc
    seen_formed = subst WellFormed seen_doc (formed-in_rings (ring_under (stored frame rings places)) frame.doc kept.holds.formed)

    pub seen_proper : Proper now.doc
    seen_proper = subst Proper seen_doc kept.holds.proper

    pub seen_indexed : IsIndexed now.doc held
    seen_indexed = subst (λ d. IsIndexed d held) seen_doc kept.holds.indexed

    pub seen_size : positions ≡ size now.doc
    seen_size = kept.sized ∙ ap size seen_doc

    pub seen_small : positions ≤ 4000000
    seen_small = omega (arith, kept.sized, kept.holds.small)

-- ---- a feature that is taken out

-- as many positions less as its rings have
pub gone_size : (d : Document) → WellFormed d → (n : ℕ)
    → size (take_out d n) + sum_by (sum_by length) (feature_at d n).polygons ≡ size d
gone_size d formed n = by (feature d n) refl
  where
    by : (o : Option Feature) → feature d n ≡ o
        → size (take_out d n) + sum_by (sum_by length) (or_else no_feature o).polygons ≡ size d
    by None e = omega (arith, ap size (take_out_none n d (has_feature-found d n ∙ ap is_some e)))
    by (Some f) e =
        omega (arith, counted_flat length f.polygons, size-take_out_at d n f (feature_stands d formed n f e))

-- ---- a feature that gets another id

module _ {frame : Framed} {rings : Rings} {places : Placement} {held : SegmentSet} {positions : ℕ}
    (kept : IsKept frame rings places held positions) (n : ℕ) (id : Text) (json : IsJson id) where
  pub kept_renamed : IsKept (record frame { doc = renamed frame.doc n id }) rings places held positions
  kept_renamed =
      kept_as (renamed (stored_document (stored frame rings places)) n id)
      (renamed_holds (stored frame rings places) n id held json kept.holds)
      (named_document (stored frame rings places) n (Some id))
      (kept.sized ∙ sym (size-renamed (stored_document (stored frame rings places)) n id))
