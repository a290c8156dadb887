-- A ring of a kept map, and where borders meet along it.
use Rattle.std.proofs.Common.{◌≡◌, ℕ, Bool, true, sym, ap, ◌∙◌, List, [], Some, option_map, None as Absent}
use Rattle.kit_words.proofs.Common.{unwrap_or}
use Rattle.std.specs.FinMap as table
use Rattle.grid_geometry.specs.Common.{Position}
use Rattle.ring_machine.specs.Common.{is_junction, rings}
use Rattle.ring_machine.proofs.Common.{in_contains}
use Rattle.vertex_index.specs.Common.{place}
use Rattle.ring_store.specs.declared.neighbours.Neighbours.{Neighbours}
use Rattle.ring_store.specs.declared.neighbours.Neighbours.TheVariants.{None, One, Two, More}
use Rattle.ring_store.specs.Common.{AreNeighbours}
use Rattle.map_frame.specs.Common.{frame_ring}
use Rattle.feature_exchange.specs.Common.{Stored, stored_document, ring_under, IsWhole, is_meeting, meets, MarksAlong}
use Rattle.feature_exchange.proofs.Common.{along}
use Rattle.ring_store.proofs.Common.{kept_place}
use Rattle.arc_store.proofs.Around.{two_no_junction, neighbours_none, neighbours_one, neighbours_more}
use Rattle.arc_store.proofs.FrameNames.{number_there}
use Rattle.arc_store.proofs.FrameReads.{ring-in_rings}

module _ (s : Stored) (n polygon ring : ℕ) where
  -- the ring that stands there
  pub ring_read : (number : ℕ) → Some number ≡ frame_ring s.frame n polygon ring
      → ring_under s number ≡ unwrap_or (frame_ring (stored_document s) n polygon ring) []
  ring_read number e =
      ap (λ o. unwrap_or (option_map (ring_under s) o) []) e
      ∙ sym (ap (λ o. unwrap_or o []) (ring-in_rings (ring_under s) s.frame n polygon ring))

  -- and where none does
  pub no_ring_read : Absent ≡ frame_ring s.frame n polygon ring
      → [] ≡ unwrap_or (frame_ring (stored_document s) n polygon ring) []
  no_ring_read e =
      ap (λ o. unwrap_or (option_map (ring_under s) o) []) e
      ∙ sym (ap (λ o. unwrap_or o []) (ring-in_rings (ring_under s) s.frame n polygon ring))

module _ (s : Stored) (w : IsWhole s) where
  -- the frame's rings are held
  pub number_held : (n polygon ring number : ℕ) → Some number ≡ frame_ring s.frame n polygon ring
      → table.contains_key s.rings number ≡ true
  number_held n polygon ring number e =
      (w.named number).0 (in_contains (rings s.frame) number (number_there s.frame (record { feature = n; polygon = polygon; ring = ring }) number (sym e)))

  -- borders meet at a junction
  meeting : (k : ℕ) (p : Position) → table.get s.places k ≡ Some p → (o : Neighbours)
      → AreNeighbours s.rings k o → is_meeting o ≡ is_junction (stored_document s) p
  meeting k p here None h = absurd (neighbours_none s w k p here h)
  meeting k p here (One a) h = absurd (neighbours_one s w k p here a h)
  meeting k p here (Two a b) h = sym (two_no_junction s w k p here a b h)
  meeting k p here More h = sym (neighbours_more s w k p here h)

  -- so they meet along each ring where junctions are
  pub junctions_along : (marks : List Bool) → ((k : ℕ) → (o : Neighbours) × AreNeighbours s.rings k o × (meets marks k ≡ is_meeting o)) → (r : ℕ)
      → MarksAlong s.places s.rings r marks (is_junction (stored_document s))
  junctions_along marks all r k h =
      (all k).2 ∙ meeting k (place s.places k) (kept_place s.places k (along s w r k h)) (all k).0 (all k).1
