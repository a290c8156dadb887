-- What is kept of an exchange: the list of the changes afterwards, with what was there.
use Rattle.kit_words.proofs.Common.{◌≡◌, ℕ, sym, ap, ◌∙◌, ◌++◌, List, length, take, drop, Option, None, Some}
use Rattle.kit_words.proofs.Common.{option_map, take-append_seam, length-map}
use Rattle.ring_machine.specs.Common.{Document, Feature, feature}
use Rattle.edit_records.specs.Common.{LayerTree, had_before, Exchanged}
use Rattle.edit_records.proofs.Common.{fills-nowhere}
use Rattle.map_frame.specs.Common.{ArePlaced}
use Rattle.feature_exchange.specs.Common.{feature_seen, seen}
use Rattle.feature_exchange.specs.declared.change.Change.{Change}
use Rattle.arc_store.proofs.PlacedMap.{next_free}

module _ {A : Type 0} (d : Document) (items old new : List (Change A)) (n : ℕ) (whole : n ≡ length items) (same : old ≡ items)
    (had : seen new ≡ had_before d (seen old)) (asked : List (ℕ × Option Feature)) (are : seen old ≡ asked) where
  numbers_kept : n ≡ length new
  numbers_kept =
      whole ∙ sym (ap length same)
      ∙ sym (length-map old (λ (c : Change A). (c.number, option_map (feature_seen c.number) c.was)))
      ∙ sym (length-map (seen old) (λ (c : ℕ × Option Feature). (c.0, feature d c.0)))
      ∙ sym (ap length had)
      ∙ length-map new (λ (c : Change A). (c.number, option_map (feature_seen c.number) c.was))

  -- the list is written in whole
  pub record_kept : Some (Exchanged (seen (take n (new ++ drop (length new) items)))) ≡ Some (Exchanged (had_before d asked))
  record_kept =
      ap (λ z. Some (Exchanged (seen z))) (ap (λ k. take k (new ++ drop (length new) items)) numbers_kept ∙ take-append_seam new (drop (length new) items))
      ∙ ap (λ z. Some (Exchanged z)) (had ∙ ap (had_before d) are)

-- the next new number had no feature
pub next_none : (trees : List LayerTree) (next : ℕ) (d : Document) → ArePlaced trees next d → feature d next ≡ None
next_none trees next d placed = fills-nowhere trees d placed.fills next (next_free trees next d placed)
