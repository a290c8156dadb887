-- The plan of a split: what the tests are asked of, what they decide, and what is kept.
use Rattle.kit_words.proofs.Common.{◌≡◌, ◌≤◌, ◌<◌, ℕ, ◌+◌, Bool, true, false, refl, sym, ap, ap₂, ◌∙◌, subst, List, []}
use Rattle.kit_words.proofs.Common.{◌∷◌, map, length, slice_set, Option, Some, None, eqb-true, arith, Vec, not, nat_le}
use Rattle.kit_words.proofs.Common.{nat_lt, ◌==◌, list_any, sum_by, nat_tests, length-append, set-set, map-set}
use Rattle.kit_words.proofs.Common.{sum_by-cons, sum_by_more_le}
use Rattle.grid_geometry.specs.Common.{Position, Segment}
use Rattle.ring_machine.specs.Common.{is_distinct, WrongSide, TooLarge, Document, Feature, Text, has_feature, is_vertex}
use Rattle.ring_machine.specs.Common.{size, all_segments, Proper, least_conflict, WellFormed, Path, cut, is_cut_by}
use Rattle.ring_machine.specs.Common.{is_wrong_side, first_of, is_layer, positions_of, is_path_segment, feature_at}
use Rattle.ring_machine.specs.Common.{split_refusals, ◌unless◌}
use Rattle.ring_machine.proofs.Common.{split-accepted, split_is_proper, path_segments, formed-cut}
use Rattle.ring_parts.specs.Common.{outer_length, rings_seen, polygons_seen}
use Rattle.vertex_index.specs.Common.{Placement}
use Rattle.segment_index.specs.Common.{SegmentSet, times_by}
use Rattle.segment_index.specs.Frames.{Frame as GridFrame}
use Rattle.arc_tables.specs.Common.{Rings}
use Rattle.local_planarity.specs.Common.{IsAfter, most_for, most_tests}
use Rattle.local_planarity.specs.declared.leaving.Leaving.TheVariants.{Nothing}
use Rattle.edit_records.specs.Common.{IsMap, Record}
use Rattle.topo_outline.specs.Common.{KeepsTexts, IsJson}
use Rattle.topo_outline.proofs.Common.{keeps-cut}
use Rattle.map_frame.specs.Common.{ArePlaced, Framed}
use Rattle.arc_store.proofs.PlacedMap.{next_new, there_below}
use Rattle.arc_store.proofs.SplitMade.{both_parts, split_made}
use Rattle.arc_store.proofs.ChangesCounted.{two_apart}
use Rattle.arc_store.specs.Common.{asked_document, MayExchange, IsKept, state_of, IsCuttable, IsFirstCut, IsTested}
use Rattle.arc_store.specs.Common.{State}
use Rattle.arc_store.proofs.CutDecided.{split_after, split_passed, split_decided}
use Rattle.arc_store.proofs.FeaturesKept.{seen_indexed, seen_size, gone_size}
use Rattle.arc_store.proofs.PathSegments.{path_new, way_single}
use Rattle.arc_store.proofs.Tested.{edit_few}

at_most : (n : ℕ) → nat_le n 4000000 ≡ true → n ≤ 4000000
at_most n h = grind (arith, nat_tests)

below : (n : ℕ) → nat_lt n 200000 ≡ true → n < 200000
below n h = grind (arith, nat_tests)

-- a path has two positions beside its inner ones
pub inner_length : (p : Path) (ps : List Position) → positions_of p ≡ ps → length p.inner + 2 ≡ length ps
inner_length p ps e = omega (arith, ap length e, length-append p.inner (p.last ∷ []))

outer_part : (q : List (List Position)) → outer_length q ≤ sum_by length q
outer_part [] = omega arith
outer_part (outer ∷ holes) = omega (arith, sum_by-cons length outer holes)

-- the conditions, for the path as the code holds it
pub cuttable : (d : Document) (n : ℕ) (p q : Path) → p ≡ q → WellFormed d → Proper d → has_feature d n ≡ true
    → is_layer d n ≡ false → list_any (is_cut_by q) (feature_at d n).polygons ≡ true
    → is_distinct (positions_of q) ≡ true → list_any (is_vertex d) q.inner ≡ false
    → is_path_segment d q ≡ false → IsCuttable d n p
cuttable d n p q seen formed proper there inside cuts different free new =
    subst (IsCuttable d n) (sym seen) (record {
      formed = formed;
      proper = proper;
      there = there;
      inside = inside;
      cut = cuts;
      different = different;
      free = free;
      new = new;
    })

module _ {frame : Framed} {rings : Rings} {places : Placement} {held : SegmentSet} {positions : ℕ}
    (kept : IsKept frame rings places held positions) {l : ℕ} {cells : Option GridFrame} {o : Option Record} {now : State}
    (is : state_of frame rings places l cells o ≡ now) where
  module _ (n : ℕ) (p : Path) (a : IsCuttable now.doc n p) where
    -- how many tests there were
    pub split_few : (id : Text) (added : List Segment) → added ≡ path_segments p → (m : ℕ)
        → ((ss : List Segment) → IsAfter held Nothing added ss → m ≤ l + most_tests (times_by cells) ss added)
        → m ≤ now.tests + most_for (times_by now.cells) now.doc (cut now.doc n id p now.next)
    split_few id added comes m few =
        let counted = edit_few now.doc (cut now.doc n id p now.next) held (seen_indexed kept is) Nothing (path_segments p)
        (split_after now.doc now.next n id p a held (seen_indexed kept is)) (times_by cells)
        (path_new now.doc held p (seen_indexed kept is) a.new) (way_single (positions_of p) a.different) l m
        (subst (λ z. (ss : List Segment) → IsAfter held Nothing z ss → m ≤ l + most_tests (times_by cells) ss z) comes few) in
        subst (λ (z : State). m ≤ z.tests + most_for (times_by z.cells) now.doc (cut now.doc n id p now.next)) is counted

    module _ (place : ℕ) (q : List (List Position)) (c : IsFirstCut (feature_at now.doc n).polygons p place q) where
      -- its outer ring has no more positions than the map
      pub outer_few : outer_length q ≤ positions
      outer_few = omega (
        arith,
        outer_part q,
        ap (sum_by length) c.at,
        sum_by_more_le (sum_by length) (feature_at now.doc n).polygons place [] c.within,
        gone_size now.doc a.formed n,
        seen_size kept is,
      )

-- ---- what is asked of the exchange

module _ (st : State) (n : ℕ) (id : Text) (p : Path) (place : ℕ) (q : List (List Position))
    (placed : ArePlaced st.places st.next st.doc) (keeps : KeepsTexts st.doc) (json : IsJson id) (a : IsCuttable st.doc n p)
    (c : IsFirstCut (feature_at st.doc n).polygons p place q) (accepted : first_of (split_refusals st.doc st.next n id p) ≡ None) where
  abbrev asked_for : List (ℕ × Option Feature)
  asked_for = both_parts st.doc n st.next id p place q

  pub split_is : asked_document (Some n) asked_for st ≡ cut st.doc n id p st.next
  split_is = split_made st.places st.doc n st.next id p place q placed a c

  cut_map : IsMap (cut st.doc n id p st.next)
  cut_map = record {
    proper = split_is_proper st.doc st.next n id p a.formed a.proper accepted;
    formed = formed-cut st.doc n id p st.next a.formed a.inside (next_new st.places st.next st.doc placed);
    small = at_most (size (cut st.doc n id p st.next)) (split-accepted st.doc st.next n id p accepted).small;
  }

  number_below : n < st.next
  number_below = there_below st.places st.next st.doc placed n a.there

  -- the number of the part is another one
  differ : (st.next == n) ≡ false
  differ = by (st.next == n) refl
    where
      by : (b : Bool) → (st.next == n) ≡ b → b ≡ false
      by false e = refl
      by true e = absurd (let s : st.next ≡ n = eqb-true st.next n e in omega (arith, number_below, s))

  pub split_may : MayExchange (Some n) asked_for st
  split_may = record {
    apart = two_apart n st.next differ;
    below = (let first : n < st.next + 1 = omega (arith, number_below) in first, (let second : st.next < st.next + 1 = omega arith in second, tt));
    grows = record {
      there = a.there;
      inside = a.inside;
      few = below st.next (split-accepted st.doc st.next n id p accepted).numbers_left;
    };
    is_map = subst IsMap (sym split_is) cut_map;
    texts = subst KeepsTexts (sym split_is) (keeps-cut st.doc n id p st.next a.formed json keeps);
  }

-- ---- lists that were written twice

set_again : {X : Type 0} (xs : List X) (i : ℕ) (x y : X) → slice_set (slice_set xs i x) i y ≡ slice_set xs i y
set_again xs i x y = set-set xs i x y

pub set_mapped : {X Y : Type 0} (f : X → Y) (xs : List X) (i : ℕ) (x : X) → map f (slice_set xs i x) ≡ slice_set (map f xs) i (f x)
set_mapped f xs i x = map-set f xs i x

-- the rings that stay come where those of the cut polygon were taken out
pub put_first : {A : Type 0} (others : List (Vec (Vec Position A) A)) (polygons : List (List (List Position))) (place : ℕ)
    (first : Vec (Vec Position A) A) (made : List (List Position))
    → polygons_seen others ≡ slice_set polygons place [] → rings_seen first.items ≡ made
    → polygons_seen (slice_set others place first) ≡ slice_set polygons place made
put_first {A} others polygons place first made e h =
    set_mapped (λ (v : Vec (Vec Position A) A). rings_seen v.items) others place first
    ∙ ap₂ (λ z y. slice_set z place y) e h ∙ set_again polygons place [] made

-- ---- what the tests decide

module _ (d : Document) (held : SegmentSet) (next n : ℕ) (id : Text) (path : Path) (polygon : List (List Position)) (room : Bool)
    (t : IsTested d held next n path polygon room) where
  -- where no two segments conflict, the last refusals decide
  pub split_rest : (added : List Segment) → added ≡ path_segments path
      → ((ss : List Segment) → IsAfter held Nothing added ss → least_conflict ss ≡ None)
      → first_of (split_refusals d next n id path) ≡ first_of ((WrongSide unless not (is_wrong_side path polygon)) ∷ (TooLarge unless room) ∷ [])
  split_rest added comes none =
      split_decided d next n id path t.cuttable polygon t.first (is_wrong_side path polygon) room refl t.limits
      (none (all_segments (cut d n id path next)) (split_passed d next n id path t.cuttable held t.indexed added comes))
