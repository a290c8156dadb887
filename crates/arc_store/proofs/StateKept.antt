-- The map as its callers see it, after its tables changed and nothing else did.
use Rattle.kit_words.proofs.Common.{◌≡◌, ℕ, sym, ap, ap₂, ◌∙◌, Option}
use Rattle.ring_machine.specs.Common.{Document}
use Rattle.edit_records.specs.Common.{Record}
use Rattle.segment_index.specs.Common.{SegmentSet}
use Rattle.segment_index.specs.Frames.{Frame as GridFrame}
use Rattle.vertex_index.specs.Common.{Placement}
use Rattle.arc_tables.specs.Common.{Rings}
use Rattle.map_frame.specs.Common.{Framed}
use Rattle.feature_exchange.specs.Common.{stored, stored_document}
use Rattle.arc_store.specs.Common.{IsKept, state_of, IsSameMap, State}

module _ {frame : Framed} {rings : Rings} {places : Placement} {held : SegmentSet} {positions : ℕ}
    (kept : IsKept frame rings places held positions) {l : ℕ} {cells : Option GridFrame} {o : Option Record} {now : State}
    (is : state_of frame rings places l cells o ≡ now) (rings' : Rings) (places' : Placement) (cells' : Option GridFrame) where
  -- another document
  pub with_document : {d : Document} → stored_document (stored frame rings' places') ≡ d → cells' ≡ cells
      → state_of frame rings' places' l cells' o ≡ record now { doc = d }
  with_document {d} e c =
      ap₂ (λ y z. record { doc = y; next = frame.next; places = frame.places; tests = l; cells = z; last = o }) e c
      ∙ ap (λ (s : State). record s { doc = d }) is

  -- the same tables
  pub same_tables : rings' ≡ rings → places' ≡ places → cells' ≡ cells → state_of frame rings' places' l cells' o ≡ now
  same_tables r p c =
      ap₂ (λ x y. state_of frame x y l cells' o) r p ∙ ap (λ z. state_of frame rings places l z o) c ∙ is

  -- the same tables, whatever was tested
  pub tested : (l' : ℕ) → rings' ≡ rings → places' ≡ places → cells' ≡ cells
      → IsSameMap now (state_of frame rings' places' l' cells' o)
  tested l' r p c =
      ap₂ (λ x y. state_of frame x y l' cells' o) r p ∙ ap (λ z. state_of frame rings places l' z o) c
      ∙ ap (λ (s : State). record s { tests = l' }) is

  -- another document, whatever was tested
  pub with_document_tested : {d : Document} (l' : ℕ) → stored_document (stored frame rings' places') ≡ d
      → cells' ≡ cells → IsSameMap (record now { doc = d }) (state_of frame rings' places' l' cells' o)
  with_document_tested {d} l' e c =
      ap₂ (λ y z. record { doc = y; next = frame.next; places = frame.places; tests = l'; cells = z; last = o }) e c
      ∙ ap (λ (s : State). record s { doc = d; tests = l' }) is

  -- and what takes that back
  pub with_record : {d : Document} {l' : ℕ} {made : Option Record} {new : State}
      → stored_document (stored frame rings' places') ≡ d → cells' ≡ cells
      → new ≡ state_of frame rings' places' l' cells' made
      → IsSameMap (record now { doc = d; last = made }) new
  with_record {d} {l'} {made} e c n =
      n
      ∙ ap₂ (λ y z. record { doc = y; next = frame.next; places = frame.places; tests = l'; cells = z; last = made }) e c
      ∙ ap (λ (s : State). record s { doc = d; tests = l'; last = made }) is
      ∙ ap (λ k. record now { doc = d; tests = k; last = made }) (sym (ap (λ (s : State). s.tests) n))
