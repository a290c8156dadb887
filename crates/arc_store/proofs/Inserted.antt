-- What an insertion of a vertex does to a map that is kept.
use Rattle.kit_words.proofs.Common.{◌≡◌, ◌≢◌, ◌≤◌, ◌+◌, ℕ, Bool, true, false, refl, sym, ap, ap₂, ◌∙◌, subst, cond}
use Rattle.kit_words.proofs.Common.{List, [], ◌∷◌, map, length, ◌⊎◌, inl, inr, ◌&&◌, ◌||◌, arith, Some, None, is_some}
use Rattle.kit_words.proofs.Common.{not, option_map, unwrap_or, list_any, false≢true, ℕ_discrete, or_cases}
use Rattle.kit_words.proofs.Common.{false_from_ne_true}
use Rattle.std.specs.FinMap as table
use Rattle.std.specs.FinSet as set
use Rattle.grid_geometry.specs.Common.{Position, Segment, segment, segment_eq}
use Rattle.ring_machine.specs.Common.{canonical, is_ring, segment_of, rings, size, is_segment, ins, ins_ring, Proper}
use Rattle.ring_machine.proofs.Common.{g_ins, ins_is, starts, starts_of, by_edges, In, document-agrees, all_of, all_in}
use Rattle.ring_machine.proofs.Common.{in-map, in-flat_map, segment_eq-true, rings-in_rings, ins_is_proper, contains_in}
use Rattle.ring_machine.proofs.Common.{in_contains, in_mapped, in_flat, is_some-mapped, mapped_there}
use Rattle.vertex_index.proofs.Common.{get-inserted}
use Rattle.segment_index.specs.Candidates.{SegmentSet, has as among}
use Rattle.arc_tables.specs.Common.{Edge, is_seg, Rings, begins, over, through}
use Rattle.ring_store.specs.Common.{Joined, GoesRound}
use Rattle.vertex_index.specs.Common.{place}
use Rattle.feature_exchange.specs.Common.{Stored, positions_along, ring_under, stored_document, Visits, IsWhole, IsIndexed}
use Rattle.feature_exchange.specs.Common.{Holds}
use Rattle.ring_store.proofs.Common.{has-eq, IsKept, place_is, place_kept, one_key, place_alike, insert_other, laid}
use Rattle.ring_store.proofs.Common.{edge_ends, ends_is_seg, times_edge}
use Rattle.arc_store.specs.Common.{IsPlaceable}
use Rattle.arc_store.proofs.Around.{segment_joined, come_over}
use Rattle.arc_store.proofs.Insertions.{Comes, segments_ins}
use Rattle.arc_store.proofs.Numbers.{users_of, size_over}
use Rattle.feature_exchange.proofs.Common.{ring_under_is, begin_kept, framed, key_vertex}
use Rattle.arc_store.proofs.KeyWays.{edited_along, edited_way, over_keeps, round_way, round_of_way, seg_same}
use Rattle.arc_store.proofs.RingEdits.{ring_pivot}
use Rattle.arc_store.proofs.Moved.{inserted_distinct}

-- ---- one ring

-- the ring of the positions, where the keys lead over n
pub ins_along : (at at' : ℕ → Position) (j k n : ℕ) (q : Position) (es : List Edge) → GoesRound es
    → at' n ≡ q → ((x : ℕ) → In x (begins es) → at' x ≡ at x)
    → ((x : ℕ) → In x (begins es) → at x ≡ at j → x ≡ j)
    → ((x : ℕ) → In x (begins es) → at x ≡ at k → x ≡ k)
    → is_ring (ins_ring (at j) (at k) q (canonical (map at (begins es)))) ≡ true
    → canonical (map at' (begins (through j k n es))) ≡ ins_ring (at j) (at k) q (canonical (map at (begins es)))
ins_along at at' j k n q es g here same inj ink h =
    edited_along at at' (starts_of (g_ins (segment_of (at j, at k)) q)) (over j k n) es g each (ring_pivot _ (ap is_ring is ∙ h)) ∙ is
  where
    is : canonical (by_edges (starts_of (g_ins (segment_of (at j, at k)) q)) (canonical (map at (begins es)))) ≡ ins_ring (at j) (at k) q (canonical (map at (begins es)))
    is = ins_is (at j) (at k) q (canonical (map at (begins es)))

    each : (e : Edge) → In e es → starts_of (g_ins (segment_of (at j, at k)) q) (laid at e) ≡ map at' (begins (over j k n e))
    each e i =
        let ends = edge_ends es g e i in
        ap (λ t. starts (cond t ((at e.0, q) ∷ (q, at e.1) ∷ []) ((at e.0, at e.1) ∷ []))) (seg_same at j k e (inj e.0 ends.0) (ink e.0 ends.0) (inj e.1 ends.1) (ink e.1 ends.1))
        ∙ by ends (is_seg j k e)
      where
        by : In e.0 (begins es) × In e.1 (begins es) → (t : Bool)
            → starts (cond t ((at e.0, q) ∷ (q, at e.1) ∷ []) ((at e.0, at e.1) ∷ []))
            ≡ map at' (begins (cond t ((e.0, n) ∷ (n, e.1) ∷ []) (e ∷ [])))
        by ends true = ap₂ (λ y z. y ∷ z ∷ []) (sym (same e.0 ends.0)) (sym here)
        by ends false = ap (λ y. y ∷ []) (sym (same e.0 ends.0))

-- the keys of the edges that lead over n are those from before, and n
begins_through : (j k n : ℕ) (es : List Edge) (x : ℕ) → In x (begins (through j k n es))
    → In x (begins es) ⊎ (x ≡ n)
begins_through j k n es x h =
    let f = in_mapped (λ (e : Edge). e.0) x (through j k n es) h in
    let e = in_flat (over j k n) f.0 es f.1 in
    by e.0 e.1 f.0 f.2 (is_seg j k e.0) e.2
  where
    by : (e : Edge) → In e es → (f : Edge) → f.0 ≡ x → (t : Bool)
        → In f (cond t ((e.0, n) ∷ (n, e.1) ∷ []) (e ∷ [])) → In x (begins es) ⊎ (x ≡ n)
    by e i f g true (inl m) = inl (subst (λ z. In z (begins es)) (ap (λ (d : Edge). d.0) m ∙ g) (in-map (λ (d : Edge). d.0) e es i))
    by e i f g true (inr (inl m)) = inr (sym g ∙ sym (ap (λ (d : Edge). d.0) m))
    by e i f g true (inr (inr m)) = absurd m
    by e i f g false (inl m) = inl (subst (λ z. In z (begins es)) (ap (λ (d : Edge). d.0) m ∙ g) (in-map (λ (d : Edge). d.0) e es i))
    by e i f g false (inr m) = absurd m

begins_stay : (j k n : ℕ) (es : List Edge) (x : ℕ) → In x (begins es)
    → In x (begins (through j k n es))
begins_stay j k n es x h =
    let e = in_mapped (λ (e : Edge). e.0) x es h in
    subst (λ z. In z (begins (through j k n es))) e.2 (by e.0 e.1 (is_seg j k e.0) refl)
  where
    by : (e : Edge) → In e es → (t : Bool) → is_seg j k e ≡ t → In e.0 (begins (through j k n es))
    by e i true m = in-map (λ (d : Edge). d.0) (e.0, n) (through j k n es) (in-flat_map (over j k n) e (e.0, n) es i (subst (λ t. In (e.0, n) (cond t ((e.0, n) ∷ (n, e.1) ∷ []) (e ∷ []))) (sym m) (inl refl)))
    by e i false m = in-map (λ (d : Edge). d.0) e (through j k n es) (in-flat_map (over j k n) e e es i (subst (λ t. In e (cond t ((e.0, n) ∷ (n, e.1) ∷ []) (e ∷ []))) (sym m) (inl refl)))

begins_new : (j k n : ℕ) (es : List Edge) (e : Edge) → In e es → is_seg j k e ≡ true
    → In n (begins (through j k n es))
begins_new j k n es e i m =
    in-map (λ (d : Edge). d.0) (n, e.1) (through j k n es)
    (in-flat_map (over j k n) e (n, e.1) es i (subst (λ t. In (n, e.1) (cond t ((e.0, n) ∷ (n, e.1) ∷ []) (e ∷ []))) (sym m) (inr (inl refl))))

-- ---- the map

-- an insertion of q, under the new key n, between the vertices of j and k
pub record Insertion (s : Stored) (after : Rings) (j k n : ℕ) (a b q : Position) : Type 0 where
  pub first : table.get s.places j ≡ Some a
  pub second : table.get s.places k ≡ Some b
  pub new : table.get s.places n ≡ None
  pub edited : (r : ℕ) → table.get after r ≡ option_map (through j k n) (table.get s.rings r)
  pub may : IsPlaceable (stored_document s) a b q

-- the map with these rings, and one more vertex
abbrev pub with_vertex : Stored → Rings → ℕ → Position → Stored
with_vertex s after n q =
    record { frame = s.frame; rings = after; places = table.insert s.places n q }

module _ (s : Stored) (after : Rings) (j k n : ℕ) (a b q : Position) (w : IsWhole s) (proper : Proper (stored_document s)) (i : Insertion s after j k n a b q) where
  abbrev next : Stored
  next = with_vertex s after n q

  kept_differs : (x : ℕ) → IsKept s.places x → x ≢ n
  kept_differs x h e = false≢true (sym (ap is_some (ap (table.get s.places) e ∙ i.new)) ∙ h)

  place_stays : (x : ℕ) → IsKept s.places x → place next.places x ≡ place s.places x
  place_stays x h = place_alike s.places next.places x x (insert_other s.places n q x (kept_differs x h))

  -- each edited ring of the document is a ring
  ring_stays : (r : ℕ) → In r (rings s.frame) → is_ring (ins_ring a b q (ring_under s r)) ≡ true
  ring_stays r h =
      all_in is_ring (rings (ins (stored_document s) a b q)) (ins_ring a b q (ring_under s r))
      (ins_is_proper (stored_document s) a b q proper i.may.free i.may.apart).are_rings
      (subst (In (ins_ring a b q (ring_under s r))) (sym (rings-in_rings (ins_ring a b q) (stored_document s)))
      (in-map (ins_ring a b q) (ring_under s r) (rings (stored_document s))
      (subst (In (ring_under s r)) (sym (rings-in_rings (ring_under s) s.frame)) (in-map (ring_under s) r (rings s.frame) h))))

  -- the ring of the edited edges
  ring_edited : (r : ℕ) → In r (rings s.frame) → (es : List Edge) → table.get s.rings r ≡ Some es
      → canonical (positions_along next.places (through j k n es)) ≡ ins_ring a b q (ring_under s r)
  ring_edited r h es e =
      subst (λ z. canonical (positions_along next.places (through j k n es)) ≡ ins_ring a b q z) (sym (ring_under_is s w r es e))
      (subst (λ z. canonical (positions_along next.places (through j k n es)) ≡ ins_ring z b q (canonical (positions_along s.places es))) (place_is s.places j a i.first)
      (subst (λ z. canonical (positions_along next.places (through j k n es)) ≡ ins_ring (place s.places j) z q (canonical (positions_along s.places es))) (place_is s.places k b i.second)
      (ins_along (place s.places) (place next.places) j k n q es (w.round r es e)
      (place_is next.places n q (get-inserted s.places n q))
      (λ x m. place_stays x (begin_kept s w r es e x m))
      (λ x m f. one_key s.places w.distinct x j (begin_kept s w r es e x m) (place_kept s.places j a i.first) f)
      (λ x m f. one_key s.places w.distinct x k (begin_kept s w r es e x m) (place_kept s.places k b i.second) f)
      (ap₂ (λ y z. is_ring (ins_ring y z q (canonical (positions_along s.places es)))) (place_is s.places j a i.first) (place_is s.places k b i.second)
      ∙ ap (λ z. is_ring (ins_ring a b q z)) (sym (ring_under_is s w r es e)) ∙ ring_stays r h))))

  edges_after : (r : ℕ) (es : List Edge) → table.get s.rings r ≡ Some es
      → table.get after r ≡ Some (through j k n es)
  edges_after r es e = i.edited r ∙ ap (option_map (through j k n)) e

  ring_after : (r : ℕ) → In r (rings s.frame) → ins_ring a b q (ring_under s r) ≡ ring_under next r
  ring_after r h =
      let e = framed s w r h in
      sym (ap (λ o. canonical (positions_along next.places (unwrap_or o []))) (edges_after r e.0 e.1) ∙ ring_edited r h e.0 e.1)

  -- the document is the one with q between a and b
  pub document_inserted : stored_document next ≡ ins (stored_document s) a b q
  document_inserted =
      sym (document-agrees (ring_under s) (ins_ring a b q) (ring_under next) s.frame
      (all_of (λ r. ins_ring a b q (ring_under s r) ≡ ring_under next r) (rings s.frame) ring_after))

  framed_ring : (r : ℕ) (es : List Edge) → table.get s.rings r ≡ Some es → In r (rings s.frame)
  framed_ring r es e = contains_in (rings s.frame) r ((w.named r).1 (ap is_some e))

  round_after : (r : ℕ) (es : List Edge) → table.get s.rings r ≡ Some es
      → GoesRound (through j k n es)
  round_after r es e =
      let way = round_way es (w.round r es e) in
      let h = framed_ring r es e in
      round_of_way (place next.places) way.0 (through j k n es)
      (edited_way (over j k n) (λ x. x) (over_keeps j k n) way.0 es way.0 way.1)
      (ap is_ring (ring_edited r h es e) ∙ ring_stays r h)

  kept_after : (x : ℕ) → IsKept s.places x → IsKept next.places x
  kept_after x h = ap is_some (insert_other s.places n q x (kept_differs x h)) ∙ h

  -- the ends of the segment are joined
  pub border_joined : Joined s.rings j k
  border_joined = segment_joined s w j k a b i.first i.second i.may.border

  -- the new vertex stands in a ring that had the segment
  new_passed : (r : ℕ) × Visits next r n
  new_passed =
      let u = border_joined in
      let d = times_edge j k u.edges u.has in (
        u.ring,
        (
          through j k n u.edges,
          edges_after u.ring u.edges u.held,
          in_contains (begins (through j k n u.edges)) n (begins_new j k n u.edges d.0 d.1 (ends_is_seg j k d.0 d.2)),
        ),
      )

  pub whole_inserted : IsWhole next
  whole_inserted = record {
    named = λ r. (
      λ h. ap is_some (i.edited r) ∙ is_some-mapped (through j k n) (table.get s.rings r) ∙ (w.named r).0 h,
      λ h. (w.named r).1 (sym (is_some-mapped (through j k n) (table.get s.rings r)) ∙ sym (ap is_some (i.edited r)) ∙ h),
    );
    once = w.once;
    round = λ r es e. let was = mapped_there (through j k n) (table.get s.rings r) es (sym (i.edited r) ∙ e) in subst GoesRound was.2 (round_after r was.0 was.1);
    placed = λ r x v.
        let was = mapped_there (through j k n) (table.get s.rings r) v.0 (sym (i.edited r) ∙ v.1) in
        elim (begins_through j k n was.0 x (subst (λ z. In x (begins z)) (sym was.2) (contains_in (begins v.0) x v.2))) [
          | inl m ↦ kept_after x (begin_kept s w r was.0 was.1 x m)
          | inr m ↦ subst (IsKept next.places) (sym m) (place_kept next.places n q (get-inserted s.places n q))
        ];
    passed = λ x h. passed_by x h (ℕ_discrete x n);
    distinct = inserted_distinct s.places n q w.distinct (λ y e. false≢true (sym i.may.free ∙ key_vertex s w y q e));
  }
    where
      passed_by : (x : ℕ) → IsKept next.places x → Dec (x ≡ n) → (r : ℕ) × Visits next r x
      passed_by x h (yes e) = subst (λ z. (r : ℕ) × Visits next r z) (sym e) new_passed
      passed_by x h (no f) =
          let v = w.passed x (sym (ap is_some (insert_other s.places n q x f)) ∙ h) in
          (v.0, (through j k n v.1.0, edges_after v.0 v.1.0 v.1.1, in_contains (begins (through j k n v.1.0)) x (begins_stay j k n v.1.0 x (contains_in (begins v.1.0) x v.1.2))))

  -- ---- segments and size

  -- the segments after the insertion: that of a and b is led over q
  pub segments_inserted : (t : Segment)
      → is_segment (ins (stored_document s) a b q) t
      ≡ ((is_segment (stored_document s) t && not (segment_eq t (segment a b))) || list_any (segment_eq t) (segment a q ∷ segment q b ∷ []))
  segments_inserted = segments_ins (stored_document s) a b q i.may.border

  -- those that come in are segments, are two, and are new
  pub come_inserted : Comes (stored_document s) (segment a q) (segment q b)
  come_inserted = come_over s w a b q i.may.border i.may.free

  -- the size grows by one for each ring that has the segment
  pub size_inserted : size (ins (stored_document s) a b q) ≡ size (stored_document s) + length (users_of s j k)
  size_inserted = size_over s w j k a b q i.first i.second

  -- ---- the index

  -- after the two segments came into the index and that of a and b went, it is that of the new map
  pub reindexed_inserted : (held held' : SegmentSet) → IsIndexed (stored_document s) held
      → ((t : Segment) → set.contains held' t ≡ ((set.contains held t || among (segment a q ∷ segment q b ∷ []) t) && not (among (segment a b ∷ []) t)))
      → IsIndexed (ins (stored_document s) a b q) held'
  reindexed_inserted held held' x h t =
      h t
      ∙ ap₂ (λ y z. (set.contains held t || y) && not z) (has-eq (segment a q ∷ segment q b ∷ []) t) (has-eq (segment a b ∷ []) t)
      ∙ ap (λ y. (y || list_any (segment_eq t) (segment a q ∷ segment q b ∷ [])) && not (segment_eq t (segment a b) || false)) (x t)
      ∙ by (is_segment (stored_document s) t) (list_any (segment_eq t) (segment a q ∷ segment q b ∷ [])) (segment_eq t (segment a b)) apart_from_it
      ∙ sym (segments_inserted t)
    where
      by : (was comes goes : Bool) → (comes ≡ true → goes ≡ false)
          → ((was || comes) && not (goes || false)) ≡ ((was && not goes) || comes)
      by was comes goes f = grind arith

      -- what comes in is not the segment of a and b
      apart_from_it : list_any (segment_eq t) (segment a q ∷ segment q b ∷ []) ≡ true → segment_eq t (segment a b) ≡ false
      apart_from_it u = false_from_ne_true _ (λ v. elim (or_cases (segment_eq t (segment a q)) (segment_eq t (segment q b) || false) u) [
        | inl k' ↦ new (segment a q) come_inserted.first_new (segment_eq-true t (segment a q) k') v
        | inr k' ↦ elim (or_cases (segment_eq t (segment q b)) false k') [
          | inl l ↦ new (segment q b) come_inserted.second_new (segment_eq-true t (segment q b) l) v
          | inr l ↦ false≢true l
        ]
      ])
        where
          new : (z : Segment) → is_segment (stored_document s) z ≡ false → t ≡ z → segment_eq t (segment a b) ≡ true → ⊥
          new z n e v = false≢true (sym n ∙ ap (is_segment (stored_document s)) (sym e ∙ segment_eq-true t (segment a b) v) ∙ i.may.border)

-- the map with the new vertex is held again, where the index has its segments
pub holds_inserted : (s : Stored) (held held' : SegmentSet) (after : Rings) (j k n : ℕ) (a b q : Position)
    → Holds s held → Insertion s after j k n a b q → IsIndexed (ins (stored_document s) a b q) held'
    → Holds (with_vertex s after n q) held'
holds_inserted s held held' after j k n a b q h i x =
    let is = document_inserted s after j k n a b q h.whole h.proper i in
    record {
      whole = whole_inserted s after j k n a b q h.whole h.proper i;
      formed = h.formed;
      keeps = h.keeps;
      proper = subst Proper (sym is) (ins_is_proper (stored_document s) a b q h.proper i.may.free i.may.apart);
      small = subst (λ d. size d ≤ 4000000) (sym is) i.may.small;
      indexed = subst (λ d. IsIndexed d held') (sym is) x;
    }
