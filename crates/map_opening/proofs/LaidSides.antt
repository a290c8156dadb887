-- The segments of rings that are laid: an index that is filled along their keys holds exactly these.
use Rattle.kit_words.proofs.Common.{◌≡◌, ℕ, true, sym, ap, ◌∙◌, subst, List, [], ◌∷◌, ◌++◌, map, Some, is_some, inl}
use Rattle.kit_words.proofs.Common.{inr, Contains, unwrap_or}
use Rattle.std.specs.FinMap as table
use Rattle.std.specs.FinSet as set
use Rattle.grid_geometry.specs.Common.{Segment, segment}
use Rattle.ring_machine.specs.Common.{segments}
use Rattle.ring_machine.proofs.Common.{In, in-append, contains_in, in_contains, in_mapped, in_flat, any_in, in_any}
use Rattle.ring_machine.proofs.Common.{in-map, in-flat_map}
use Rattle.vertex_index.specs.Common.{Placement, place}
use Rattle.segment_index.specs.Common.{SegmentSet, segment_is}
use Rattle.segment_index.proofs.Common.{same_segment, is-itself}
use Rattle.arc_tables.specs.Common.{Edge, Rings, edges}
use Rattle.local_planarity.specs.Common.{IsHeld}
use Rattle.ring_store.specs.Common.{IsRound, IsSide, sides}
use Rattle.map_opening.specs.Common.{IsLaid, segments_along}
use Rattle.map_opening.proofs.FilledLists.{sides_round}

module _ (places : Placement) (keyed : List (List ℕ)) (m : Rings) (numbers : List ℕ) (l : IsLaid m numbers keyed) where
  -- along each list of keys goes a ring
  pub along_laid : (ks : List ℕ) → In ks keyed → (r : ℕ) × (table.get m r ≡ Some (edges ks))
  along_laid ks i =
      let f = in_mapped (table.get m) (Some (edges ks)) numbers
      (subst (In (Some (edges ks))) (sym l.along) (in-map (λ js. Some (edges js)) ks keyed i)) in
      (f.0, f.2)

  -- and each ring goes along one
  pub laid_along : (r : ℕ) (es : List Edge) → table.get m r ≡ Some es → (ks : List ℕ) × In ks keyed × (es ≡ edges ks)
  laid_along r es e =
      let here = contains_in numbers r (l.only r (ap is_some e)) in
      let f = in_mapped (λ ks. Some (edges ks)) (table.get m r) keyed
      (subst (In (table.get m r)) l.along (in-map (table.get m) r numbers here)) in
      (f.0, f.1, ap (λ z. unwrap_or z []) (sym e ∙ sym f.2))

  module _ (round : (ks : List ℕ) → In ks keyed → IsRound places ks) (held : SegmentSet)
      (h : IsHeld held (segments_along places keyed)) where
    pub held_side : (t : Segment) → set.contains held t ≡ true → IsSide places m t
    held_side t i =
        let u = any_in (segment_is t) (segments_along places keyed) (h t ∙ i) in
        let f = in_flat (λ ks. segments (map (place places) ks)) u.0 keyed u.1 in
        let e = in_mapped (λ (x : Edge). segment (place places x.0) (place places x.1)) u.0 (edges f.0)
        (subst (In u.0) (sym (sides_round places f.0 (round f.0 f.1))) f.2) in
        let r = along_laid f.0 f.1 in
        record {
          ring = r.0;
          edges = edges f.0;
          held = r.1;
          edge = e.0;
          among = in_contains (edges f.0) e.0 e.1;
          is = same_segment t u.0 u.2 ∙ sym e.2;
        }

    pub side_held : (t : Segment) → IsSide places m t → set.contains held t ≡ true
    side_held t s =
        let f = laid_along s.ring s.edges s.held in
        let e = contains_in (edges f.0) s.edge (subst (λ z. Contains z s.edge) f.2 s.among) in
        let i : In t (segments (map (place places) f.0))
        = subst (In t) (sides_round places f.0 (round f.0 f.1))
        (subst (λ z. In z (sides places (edges f.0))) (sym s.is)
        (in-map (λ (x : Edge). segment (place places x.0) (place places x.1)) s.edge (edges f.0) e)) in
        sym (h t)
        ∙ in_any (segment_is t) t (segments_along places keyed)
        (in-flat_map (λ ks. segments (map (place places) ks)) f.0 t keyed f.1 i) (is-itself t)

-- what holds of each list holds of one more
pub each_more : (P : List ℕ → Type 0) (keyed : List (List ℕ)) (keys : List ℕ)
    → ((ks : List ℕ) → Contains keyed ks → P ks) → P keys
    → (ks : List ℕ) → Contains (keyed ++ keys ∷ []) ks → P ks
each_more P keyed keys each last ks h =
    elim (in-append ks keyed (keys ∷ []) (contains_in (keyed ++ keys ∷ []) ks h)) [
      | inl i ↦ each ks (in_contains keyed ks i)
      | inr (inl e) ↦ subst P e last
      | inr (inr n) ↦ absurd n
    ]
