-- Features exchanged, from before anything is laid until the old rings are taken out.
use Rattle.kit_words.proofs.Common.{◌≡◌, ◌≤◌, ◌<◌, ℕ, true, refl, sym, ap, ◌∙◌, subst, List, [], map, Option, Some}
use Rattle.kit_words.proofs.Common.{None, is_some, Vec, IfSome, flat_map, list_all, AllByRecursion, flat_map-map}
use Rattle.ring_machine.specs.Common.{Feature, FeatureOf, feature, is_ring, are_distinct}
use Rattle.ring_machine.proofs.Common.{In, has_feature-found, feature-in_rings, is_some-mapped, is_layer-in_rings}
use Rattle.ring_machine.specs.Parts as parts_of
use Rattle.vertex_index.specs.Common.{Placement}
use Rattle.arc_tables.specs.Common.{Rings}
use Rattle.map_frame.specs.Common.{IsNumberOf, feature_numbers, Framed, ArePlaced}
use Rattle.edit_records.specs.Common.{has_place, exchanged, IsMap}
use Rattle.segment_index.specs.Common.{SegmentSet}
use Rattle.topo_outline.specs.Common.{KeepsTexts}
use Rattle.feature_exchange.specs.Common.{numbers_of, AreAdded, AreGone, KeepsPlaces, seen, changed_as, places_after}
use Rattle.feature_exchange.specs.Common.{next_after, frame_after, MayGrow, Holds, AreLaid, asked_rings, length_of}
use Rattle.feature_exchange.specs.Common.{coming, IsReady, FitsForm, all_numbered, put_in, stored, Stored, ring_under}
use Rattle.feature_exchange.specs.Common.{stored_document, rings_under, Change}
use Rattle.ring_store.specs.Common.{keyed_ring, Stands}
use Rattle.feature_exchange.specs.declared.laid.LaidRing.{LaidRing}
use Rattle.feature_exchange.proofs.Series.{number_there, there_none, added_first}
use Rattle.feature_exchange.proofs.Asked.{AreFor, asked_are_rings, asked_size, asked_fit, for_coming, for_numbers}
use Rattle.feature_exchange.proofs.ExchangedFeatures.{exchanged_document, exchanged_map}
use Rattle.feature_exchange.proofs.Exchanges.{Exchanged}
use Rattle.feature_exchange.proofs.PlacesAfter.{places_come}
use Rattle.feature_exchange.proofs.Prepared.{ready_of}
use Rattle.feature_exchange.proofs.Readied.{going}

-- the frame's features stand as the document's
pub grows_frame : (s : Stored) (next : ℕ) (after : Option ℕ) → IfSome after (MayGrow (stored_document s) next)
    → IfSome after (MayGrow s.frame next)
grows_frame s next None g = g
grows_frame s next (Some n) g = record {
  there =
      has_feature-found s.frame n ∙ sym (is_some-mapped (parts_of.in_feature (ring_under s)) (feature s.frame n))
      ∙ ap is_some (sym (feature-in_rings (ring_under s) s.frame n))
      ∙ sym (has_feature-found (stored_document s) n) ∙ g.there;
  inside = sym (is_layer-in_rings (ring_under s) s.frame n) ∙ g.inside;
  few = g.few;
}

-- ---- before

module _ {A : Type 0} (frame : Framed) (b : Rings) (v : Placement) (placed : ArePlaced frame.places frame.next frame.doc)
    (after : Option ℕ) (grows : IfSome after (MayGrow (stored_document (stored frame b v)) frame.next)) (cs : List (Change A))
    (below : AllByRecursion (λ c. c.number < next_after after frame) cs)
    (apart : are_distinct (map (λ c. c.number) cs) ≡ true)
    (map_is : IsMap (changed_as after frame cs (stored_document (stored frame b v)))) where
  comes : (m : ℕ) → m < next_after after frame → has_place (places_after after frame) m ≡ true
  comes = places_come frame placed after (grows_frame (stored frame b v) frame.next after grows)

  pub whole_rings : list_all is_ring (flat_map asked_rings cs) ≡ true
  whole_rings =
      asked_are_rings (places_after after frame) (next_after after frame) cs comes below apart (stored_document (stored frame b v)) map_is

  pub whole_size : length_of (flat_map asked_rings cs) ≤ 4000000
  whole_size =
      asked_size (places_after after frame) (next_after after frame) cs comes below apart (stored_document (stored frame b v)) map_is

  whole_fit : (c : ℕ × Option Feature) → In c (seen cs) → FitsForm c.1
  whole_fit =
      asked_fit (places_after after frame) (next_after after frame) cs comes below apart (stored_document (stored frame b v)) map_is

  -- ---- when all is laid

  module _ (b1 : Rings) (v1 : Placement) (h i : SegmentSet) (holds : Holds (stored frame b v) h) (frame1 : Framed)
      (placed1 : ArePlaced frame1.places frame1.next frame1.doc)
      (ok : frame1 ≡ record (frame_after after frame) { room = frame1.room }) (ls : List (Vec (Vec ℕ A) A))
      (laid : List (LaidRing A)) (stands : Stands v1 b1 i) (more : AreLaid v b [] v1 b1 laid)
      (listed : numbers_of laid ≡ flat_map (λ l. flat_map (λ p. p) (feature_numbers l)) ls)
      (at : AreFor (keyed_ring v1 b1) cs ls) (room : (r : ℕ) → IsNumberOf (numbers_of laid) r → r < frame1.room) where
    pub whole_added : AreAdded b b1 (numbers_of laid)
    whole_added = more.added b (there_none {A = A} b [] refl) (added_first {A = A} b [] refl)

    pub whole_ready : IsReady frame1 (all_numbered cs ls)
    whole_ready =
        ready_of (stored frame b v) h holds frame1 (ap (λ (f : Framed). f.doc) ok) placed1 cs ls
        (subst (λ z. AllByRecursion (λ c. c.number < z) cs) (sym (ap (λ (f : Framed). f.next) ok)) below) apart
        b1 (numbers_of laid) whole_added listed (keyed_ring v1 b1) at whole_fit room

    -- ---- when the old rings are gone

    module _ (frame2 : Framed) (b2 : Rings) (v2 : Placement) (j : SegmentSet) (gone : List ℕ)
        (is : frame2 ≡ put_in frame1 (all_numbered cs ls)) (stands' : Stands v2 b2 j) (went : AreGone b1 b2 gone)
        (left : KeepsPlaces v2 v1) (gone_is : gone ≡ flat_map (λ c. rings_under frame.doc c.number) cs)
        (texts : KeepsTexts (changed_as after frame cs (stored_document (stored frame b v)))) where
      going_is : gone ≡ going frame.doc (all_numbered cs ls)
      going_is =
          gone_is
          ∙ sym (flat_map-map (rings_under frame.doc) (λ (c : Change A). c.number) cs)
          ∙ ap (flat_map (rings_under frame.doc)) (sym (for_numbers (keyed_ring v1 b1) cs ls at))
          ∙ flat_map-map (rings_under frame.doc) (λ (c : ℕ × Option (FeatureOf ℕ)). c.0) (all_numbered cs ls)

      came : coming (all_numbered cs ls) ≡ numbers_of laid
      came = for_coming (keyed_ring v1 b1) cs ls at ∙ sym listed

      abbrev mid : Stored
      mid = record { frame = frame.doc; rings = b1; places = v1 }

      exchange : Exchanged (stored frame b v) mid (stored frame2 b2 v2) h i j (coming (all_numbered cs ls)) (going frame.doc (all_numbered cs ls))
      exchange = record {
        holds = holds;
        laid = stands;
        added = subst (AreAdded b b1) (sym came) whole_added;
        there = λ r k. number_there b1 laid (more.there (there_none {A = A} b [] refl)) r (subst (In r) came k);
        kept = more.kept;
        stands = stands';
        went = subst (AreGone b1 b2) going_is went;
        left = left;
      }

      places_is : frame1.places ≡ places_after after frame
      places_is = ap (λ (f : Framed). f.places) ok

      doc_is : frame2.doc ≡ exchanged frame1.places (all_numbered cs ls) frame1.doc
      doc_is = ap (λ (f : Framed). f.doc) is

      pub whole_document : stored_document (stored frame2 b2 v2) ≡ changed_as after frame cs (stored_document (stored frame b v))
      whole_document =
          exchanged_document (stored frame b v) mid (stored frame2 b2 v2) h i j frame1 cs ls (ap (λ (f : Framed). f.doc) ok) whole_ready doc_is exchange at whole_rings
          ∙ ap (λ z. exchanged z (seen cs) (stored_document (stored frame b v))) places_is

      pub whole_holds : Holds (stored frame2 b2 v2) j
      whole_holds =
          exchanged_map (stored frame b v) mid (stored frame2 b2 v2) h i j frame1 cs ls (ap (λ (f : Framed). f.doc) ok) whole_ready doc_is exchange at whole_rings
          (subst (λ z. IsMap (exchanged z (seen cs) (stored_document (stored frame b v)))) (sym places_is) map_is)
          (subst (λ z. KeepsTexts (exchanged z (seen cs) (stored_document (stored frame b v)))) (sym places_is) texts)
