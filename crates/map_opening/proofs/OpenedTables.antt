-- Rings that are laid along the keys of what was read: their tables stand, and hold what was read.
use Rattle.kit_words.proofs.Common.{◌≡◌, ℕ, true, sym, ap, ◌∙◌, subst, List, [], map, Some, Option, Contains, unwrap_or}
use Rattle.kit_words.proofs.Common.{list_all, map-map}
use Rattle.std.specs.FinMap as table
use Rattle.grid_geometry.specs.Common.{Position}
use Rattle.ring_machine.specs.Common.{is_ring}
use Rattle.ring_machine.proofs.Common.{In, contains_in, in_contains, in_flat, map_there}
use Rattle.vertex_index.specs.Common.{Placement, AreDistinct, place}
use Rattle.segment_index.specs.Common.{SegmentSet}
use Rattle.arc_tables.specs.Common.{Edge, Rings, begins, edges}
use Rattle.local_planarity.specs.Common.{IsHeld}
use Rattle.ring_store.specs.Common.{keyed_ring, GoesRound, IsRound, Stands}
use Rattle.ring_store.proofs.Common.{begins_edges, goes_round}
use Rattle.map_opening.specs.Common.{all_keys, IsKeyed, IsLaid, segments_along}
use Rattle.map_opening.proofs.LaidSides.{along_laid, laid_along, held_side, side_held}
use Rattle.map_opening.proofs.KeyedRings.{round_keyed}

module _ (places : Placement) (rings : List (List Position)) (keyed : List (List ℕ)) (k : IsKeyed places rings keyed)
    (m : Rings) (numbers : List ℕ) (l : IsLaid m numbers keyed) where
  -- the positions of the ring with each number
  pub rings_at : map (keyed_ring places m) numbers ≡ rings
  rings_at =
      let shown = λ (o : Option (List Edge)). map (place places) (begins (unwrap_or o [])) in
      sym (map-map shown (table.get m) numbers) ∙ ap (map shown) l.along ∙ map-map shown (λ ks. Some (edges ks)) keyed
      ∙ map_there (λ ks. shown (Some (edges ks))) (map (place places)) keyed (λ ks i. ap (map (place places)) (begins_edges ks))
      ∙ k.at

  module _ (are : list_all is_ring rings ≡ true) (held : SegmentSet) (h : IsHeld held (segments_along places keyed)) where
    round_key : (ks : List ℕ) → In ks keyed → IsRound places ks
    round_key = round_keyed places rings keyed k are

    -- the tables belong together
    pub laid_stands : AreDistinct places → Stands places m held
    laid_stands distinct = record {
      round = λ r es e.
          let f = laid_along places keyed m numbers l r es e in subst GoesRound (sym f.2) (goes_round places f.0 (round_key f.0 f.1));
      placed = λ x v.
          let f = laid_along places keyed m numbers l v.ring v.edges v.held in
          (round_key f.0 f.1).placed x (subst (λ z. Contains z x) (ap begins f.2 ∙ begins_edges f.0) v.visited);
      passed = λ x c.
          let f = in_flat (λ ks. ks) x keyed (contains_in (all_keys keyed) x (k.passed x c)) in
          let r = along_laid places keyed m numbers l f.0 f.1 in
          record {
            ring = r.0;
            edges = edges f.0;
            held = r.1;
            visited = subst (λ z. Contains z x) (sym (begins_edges f.0)) (in_contains f.0 x f.2);
          };
      distinct = distinct;
      indexed = λ t. (held_side places keyed m numbers l round_key held h t, side_held places keyed m numbers l round_key held h t);
    }
