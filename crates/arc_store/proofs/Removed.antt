-- What a removal of a vertex does to a map that is kept.
use Rattle.kit_words.proofs.Common.{◌≡◌, ◌≢◌, ◌≤◌, ◌+◌, ℕ, Bool, true, false, refl, sym, ap, ap₂, ◌∙◌, subst, cond}
use Rattle.kit_words.proofs.Common.{List, [], ◌∷◌, ◌++◌, map, length, inl, inr, ◌&&◌, ◌||◌, arith, Some, is_some, not}
use Rattle.kit_words.proofs.Common.{option_map, unwrap_or, filter, list_any, false≢true, cases_Bool, ℕ_discrete}
use Rattle.kit_words.proofs.Common.{false_from_ne_true}
use Rattle.std.specs.FinMap as table
use Rattle.std.specs.FinSet as set
use Rattle.grid_geometry.specs.Common.{Position, position_eq, Segment, segment, segment_eq, is_end}
use Rattle.grid_geometry.specs.Ring as geometry
use Rattle.grid_geometry.proofs.Common.{segment-comm}
use Rattle.ring_machine.specs.Common.{canonical, has, is_ring, rings, size, is_segment, del, del_ring, Proper}
use Rattle.ring_machine.proofs.Common.{is_of, segment_ordered, position_eq-true, position_eq-refl, Pivot}
use Rattle.ring_machine.proofs.Common.{starts, starts_of, by_edges, In, filter-in, document-agrees, all_of, all_in}
use Rattle.ring_machine.proofs.Common.{in-map, has-in, in-has, rings-in_rings, ring_long, ring_distinct, del_is_proper}
use Rattle.ring_machine.proofs.Common.{segment_eq-true, in_any, contains_in, in_contains, in_mapped, in_flat}
use Rattle.ring_machine.proofs.Common.{same_answer, is_some-mapped, mapped_there, ring_is_canonical, in_canonical}
use Rattle.ring_machine.proofs.Common.{onto as drawn_onto, others, filter_lacks, Beside}
use Rattle.ring_machine.proofs.Removal.{g_del, del_is}
use Rattle.segment_index.specs.Candidates.{SegmentSet, has as among}
use Rattle.arc_tables.specs.Common.{Edge, is_seg, Rings, begins, onto, drawn, collapsed}
use Rattle.ring_store.specs.Common.{Joined, GoesRound}
use Rattle.vertex_index.specs.Common.{place}
use Rattle.feature_exchange.specs.Common.{Stored, positions_along, edges_under, ring_under, stored_document, IsWhole}
use Rattle.feature_exchange.specs.Common.{IsIndexed, Holds}
use Rattle.ring_store.proofs.Common.{has-eq, filter-mapped, IsKept, place_is, place_kept, one_key, place_alike}
use Rattle.ring_store.proofs.Common.{remove_here, remove_other, laid, edge_ends, edge_apart, ends_is_seg, of_canonical}
use Rattle.arc_store.specs.Common.{IsLeavable}
use Rattle.arc_store.proofs.Around.{AreTwo, two_ways, bridged_two, segments_two}
use Rattle.feature_exchange.proofs.Common.{two_ends, AreJoined, segments_at, document_ring, rings_are, ring_under_is}
use Rattle.feature_exchange.proofs.Common.{begin_kept, framed, ring_is_ring, joined_kept, joined_differ}
use Rattle.arc_store.proofs.Insertions.{has_segment, has_segment_by}
use Rattle.arc_store.proofs.Numbers.{users_of, framed_has}
use Rattle.arc_store.proofs.Removals.{segments_off, size_del}
use Rattle.arc_store.proofs.KeyWays.{edited_along, edited_way, drawn_keeps, round_way, round_of_way, meets_onto}
use Rattle.arc_store.proofs.RingEdits.{ring_pivot, begun_at, edge_on, edge_back, beside_next, beside_last}
use Rattle.arc_tables.proofs.Common.{onto_p, onto_other, ends_of}

-- ---- one ring

-- two keys of an edge come together where the edge goes
onto_meets : (m k : ℕ) (e : Edge) → e.0 ≢ e.1 → onto m k e.0 ≡ onto m k e.1 → is_seg m k e ≡ true
onto_meets m k e f h = by (ℕ_discrete e.0 m) (ℕ_discrete e.1 m)
  where
    by : Dec (e.0 ≡ m) → Dec (e.1 ≡ m) → is_seg m k e ≡ true
    by (yes u) (yes v) = absurd (f (u ∙ sym v))
    by (yes u) (no v) = ends_is_seg m k e (inl (u, sym (onto_other m k e.1 v) ∙ sym h ∙ onto_p m k e.0 u))
    by (no u) (yes v) = ends_is_seg m k e (inr (sym (onto_other m k e.0 u) ∙ h ∙ onto_p m k e.1 v, v))
    by (no u) (no v) = absurd (f (sym (onto_other m k e.0 u) ∙ h ∙ onto_other m k e.1 v))

-- the ring of the positions, where m moves onto its neighbour k in the ring
pub del_along : (at at' : ℕ → Position) (m k : ℕ) (es : List Edge) → GoesRound es
    → ((x : ℕ) → In x (begins es) → drawn_onto (at m) (at k) (at x) ≡ at' (onto m k x))
    → ((x y : ℕ) → In x (begins es) → In y (begins es) → at' (onto m k x) ≡ at' (onto m k y) → onto m k x ≡ onto m k y)
    → Beside (at m) (at k) (canonical (map at (begins es)))
    → is_ring (del_ring (at m) (canonical (map at (begins es)))) ≡ true
    → canonical (map at' (begins (collapsed m k es))) ≡ del_ring (at m) (canonical (map at (begins es)))
del_along at at' m k es g same inj beside h =
    edited_along at at' (starts_of (g_del (at m) (at k))) (drawn m k) es g each both.1 ∙ both.0
  where
    both : (canonical (by_edges (starts_of (g_del (at m) (at k))) (canonical (map at (begins es)))) ≡ del_ring (at m) (canonical (map at (begins es)))) × Pivot (by_edges (starts_of (g_del (at m) (at k))) (canonical (map at (begins es))))
    both = del_is (at m) (at k) (canonical (map at (begins es))) beside (ring_pivot (others (at m) (canonical (map at (begins es)))) h)

    each : (e : Edge) → In e es
        → starts_of (g_del (at m) (at k)) (laid at e) ≡ map at' (begins (drawn m k e))
    each e i =
        let ends = edge_ends es g e i in
        ap₂ (λ y z. starts (cond (position_eq y z) [] ((y, z) ∷ []))) (same e.0 ends.0) (same e.1 ends.1)
        ∙ ap (λ t. starts (cond t [] ((at' (onto m k e.0), at' (onto m k e.1)) ∷ []))) (test ends)
        ∙ grind arith
      where
        test : In e.0 (begins es) × In e.1 (begins es)
            → position_eq (at' (onto m k e.0)) (at' (onto m k e.1)) ≡ is_seg m k e
        test ends = same_answer _ (is_seg m k e)
            (λ t. onto_meets m k e (edge_apart es g e i) (inj e.0 e.1 ends.0 ends.1 (position_eq-true (at' (onto m k e.0)) (at' (onto m k e.1)) t)))
            (λ t. ap (λ z. position_eq (at' z) (at' (onto m k e.1))) (meets_onto m k e t) ∙ position_eq-refl (at' (onto m k e.1)))

-- edges that are not at m stay
collapsed_same : (m k : ℕ) (es : List Edge) → ((e : Edge) → In e es → (e.0 ≢ m) × (e.1 ≢ m))
    → collapsed m k es ≡ es
collapsed_same m k [] h = refl
collapsed_same m k (e ∷ es) h =
    ap₂ (λ y z. y ++ z) (by (h e (inl refl)) (is_seg m k e) refl) (collapsed_same m k es (λ d i. h d (inr i)))
  where
    by : (e.0 ≢ m) × (e.1 ≢ m) → (t : Bool) → is_seg m k e ≡ t
        → cond t [] ((onto m k e.0, onto m k e.1) ∷ []) ≡ e ∷ []
    by f true i = absurd (elim (ends_of m k e i) [ inl j ↦ f.0 j.0 | inr j ↦ f.1 j.1 ])
    by f false i = ap₂ (λ y z. (y, z) ∷ []) (onto_other m k e.0 f.0) (onto_other m k e.1 f.1)

-- ---- the map

-- a removal of p, the position of m, whose neighbours are j and k
pub record Removing (s : Stored) (after : Rings) (m j k : ℕ) (p : Position) : Type 0 where
  pub here : table.get s.places m ≡ Some p
  pub two : AreTwo s m j k
  pub edited : (r : ℕ) → table.get after r ≡ option_map (collapsed m k) (table.get s.rings r)
  pub may : IsLeavable (stored_document s) p

-- the map with these rings, and one vertex less
abbrev pub without_vertex : Stored → Rings → ℕ → Stored
without_vertex s after m =
    record { frame = s.frame; rings = after; places = table.remove s.places m }

module _ (s : Stored) (after : Rings) (m j k : ℕ) (p : Position) (w : IsWhole s) (proper : Proper (stored_document s)) (i : Removing s after m j k p) where
  abbrev next : Stored
  next = without_vertex s after m

  p_is : place s.places m ≡ p
  p_is = place_is s.places m p i.here

  m_kept : IsKept s.places m
  m_kept = place_kept s.places m p i.here

  m_joined : Joined s.rings m k
  m_joined = (i.two.1 k).1 (inr refl)

  k_kept : IsKept s.places k
  k_kept = (joined_kept s w m k m_joined).1

  k_differs : k ≢ m
  k_differs e = joined_differ s w m k m_joined (sym e)

  place_stays : (x : ℕ) → x ≢ m → place next.places x ≡ place s.places x
  place_stays x f = place_alike s.places next.places x x (remove_other s.places m x f)

  -- no other key has the position
  elsewhere : (x : ℕ) → IsKept s.places x → x ≢ m → place s.places x ≢ p
  elsewhere x h f e = f (one_key s.places w.distinct x m h m_kept (e ∙ sym p_is))

  ring_there : (r : ℕ) → In r (rings s.frame) → In (ring_under s r) (rings (stored_document s))
  ring_there r h =
      subst (In (ring_under s r)) (sym (rings-in_rings (ring_under s) s.frame)) (in-map (ring_under s) r (rings s.frame) h)

  -- each edited ring of the document is a ring
  ring_stays : (r : ℕ) → In r (rings s.frame) → is_ring (del_ring p (ring_under s r)) ≡ true
  ring_stays r h =
      all_in is_ring (rings (del (stored_document s) p)) (del_ring p (ring_under s r))
      (del_is_proper (stored_document s) p proper i.may.long i.may.apart).are_rings
      (subst (In (del_ring p (ring_under s r))) (sym (rings-in_rings (del_ring p) (stored_document s)))
      (in-map (del_ring p) (ring_under s r) (rings (stored_document s)) (ring_there r h)))

  beside_k : (ring : List Position) → In ring (rings (stored_document s)) → is_ring ring ≡ true
      → has ring p ≡ true → Beside p (place s.places k) ring
  beside_k ring h is t =
      let d = ring_distinct ring is in
      let b = begun_at p ring (has-in p ring t) (ring_long ring is) in
      elim (two_ways s w m p i.here j k i.two ring h b) [
        | inl n ↦ subst (λ z. Beside p z ring) n.1 (beside_last p ring d b)
        | inr n ↦ subst (λ z. Beside p z ring) n.0 (beside_next p ring d b)
      ]

  onto_kept : (x : ℕ) → IsKept s.places x → IsKept s.places (onto m k x) × (onto m k x ≢ m)
  onto_kept x h = by (ℕ_discrete x m)
    where
      by : Dec (x ≡ m) → IsKept s.places (onto m k x) × (onto m k x ≢ m)
      by (yes e) = (subst (IsKept s.places) (sym (onto_p m k x e)) k_kept, λ f. k_differs (sym (onto_p m k x e) ∙ f))
      by (no f) = (subst (IsKept s.places) (sym (onto_other m k x f)) h, λ e. f (sym (onto_other m k x f) ∙ e))

  onto_place : (x : ℕ) → IsKept s.places x
      → drawn_onto (place s.places m) (place s.places k) (place s.places x) ≡ place next.places (onto m k x)
  onto_place x h = by (ℕ_discrete x m)
    where
      by : Dec (x ≡ m)
          → drawn_onto (place s.places m) (place s.places k) (place s.places x) ≡ place next.places (onto m k x)
      by (yes e) =
          ap (λ t. cond t (place s.places k) (place s.places x)) (ap (λ z. position_eq (place s.places z) (place s.places m)) e ∙ position_eq-refl (place s.places m))
          ∙ sym (place_stays k k_differs) ∙ ap (place next.places) (sym (onto_p m k x e))
      by (no f) =
          ap (λ t. cond t (place s.places k) (place s.places x)) (false_from_ne_true _ (λ e. elsewhere x h f (position_eq-true (place s.places x) (place s.places m) e ∙ p_is)))
          ∙ sym (place_stays x f) ∙ ap (place next.places) (sym (onto_other m k x f))

  -- the ring of the edited edges, where the ring has p and where not
  ring_with : (r : ℕ) → In r (rings s.frame) → (es : List Edge) → table.get s.rings r ≡ Some es
      → has (ring_under s r) p ≡ true
      → canonical (positions_along next.places (collapsed m k es)) ≡ del_ring p (ring_under s r)
  ring_with r h es e t =
      let is = ring_under_is s w r es e in
      subst (λ z. canonical (positions_along next.places (collapsed m k es)) ≡ del_ring p z) (sym is)
      (subst (λ z. canonical (positions_along next.places (collapsed m k es)) ≡ del_ring z (canonical (positions_along s.places es))) p_is
      (del_along (place s.places) (place next.places) m k es (w.round r es e)
      (λ x u. onto_place x (begin_kept s w r es e x u))
      (λ x y u v f. let a = onto_kept x (begin_kept s w r es e x u) in let b = onto_kept y (begin_kept s w r es e y v) in
      one_key s.places w.distinct (onto m k x) (onto m k y) a.0 b.0 (sym (place_stays (onto m k x) a.1) ∙ f ∙ place_stays (onto m k y) b.1))
      (subst (λ z. Beside z (place s.places k) (canonical (positions_along s.places es))) (sym p_is)
      (subst (Beside p (place s.places k)) is (beside_k (ring_under s r) (ring_there r h) (ring_is_ring s w r es e) t)))
      (ap (λ z. is_ring (del_ring z (canonical (positions_along s.places es)))) p_is ∙ ap (λ z. is_ring (del_ring p z)) (sym is) ∙ ring_stays r h)))

  -- the keys of a ring without p
  off_m : (r : ℕ) (es : List Edge) → table.get s.rings r ≡ Some es → has (ring_under s r) p ≡ false
      → (x : ℕ) → In x (begins es) → x ≢ m
  off_m r es e t x h f =
      false≢true (sym t ∙ in-has p (ring_under s r) (subst (In p) (sym (ring_under_is s w r es e)) (in_canonical (positions_along s.places es) p
      (subst (λ z. In z (positions_along s.places es)) (ap (place s.places) f ∙ p_is) (in-map (place s.places) x (begins es) h)))))

  ring_without : (r : ℕ) (es : List Edge) → table.get s.rings r ≡ Some es → has (ring_under s r) p ≡ false
      → canonical (positions_along next.places (collapsed m k es)) ≡ del_ring p (ring_under s r)
  ring_without r es e t =
      ap (λ z. canonical (positions_along next.places z)) (collapsed_same m k es (λ d u. let ends = edge_ends es (w.round r es e) d u in (off_m r es e t d.0 ends.0, off_m r es e t d.1 ends.1)))
      ∙ ap canonical (mapped_same (begins es) (λ x u. place_stays x (off_m r es e t x u)))
      ∙ sym (ring_under_is s w r es e)
      ∙ sym (ap canonical (filter_lacks p (ring_under s r) t) ∙ ring_is_canonical (ring_under s r) (ring_is_ring s w r es e))
    where
      mapped_same : (xs : List ℕ) → ((x : ℕ) → In x xs → place next.places x ≡ place s.places x)
          → map (place next.places) xs ≡ map (place s.places) xs
      mapped_same [] f = refl
      mapped_same (x ∷ xs) f = ap₂ (λ y z. y ∷ z) (f x (inl refl)) (mapped_same xs (λ y u. f y (inr u)))

  ring_edited : (r : ℕ) → In r (rings s.frame) → (es : List Edge) → table.get s.rings r ≡ Some es
      → canonical (positions_along next.places (collapsed m k es)) ≡ del_ring p (ring_under s r)
  ring_edited r h es e = elim (cases_Bool (has (ring_under s r) p)) [ inl t ↦ ring_with r h es e t | inr t ↦ ring_without r es e t ]

  edges_after : (r : ℕ) (es : List Edge) → table.get s.rings r ≡ Some es
      → table.get after r ≡ Some (collapsed m k es)
  edges_after r es e = i.edited r ∙ ap (option_map (collapsed m k)) e

  ring_after : (r : ℕ) → In r (rings s.frame) → del_ring p (ring_under s r) ≡ ring_under next r
  ring_after r h =
      let e = framed s w r h in
      sym (ap (λ o. canonical (positions_along next.places (unwrap_or o []))) (edges_after r e.0 e.1) ∙ ring_edited r h e.0 e.1)

  -- the document is the one without p
  pub document_removed : stored_document next ≡ del (stored_document s) p
  document_removed =
      sym (document-agrees (ring_under s) (del_ring p) (ring_under next) s.frame
      (all_of (λ r. del_ring p (ring_under s r) ≡ ring_under next r) (rings s.frame) ring_after))

  framed_ring : (r : ℕ) (es : List Edge) → table.get s.rings r ≡ Some es → In r (rings s.frame)
  framed_ring r es e = contains_in (rings s.frame) r ((w.named r).1 (ap is_some e))

  round_after : (r : ℕ) (es : List Edge) → table.get s.rings r ≡ Some es
      → GoesRound (collapsed m k es)
  round_after r es e =
      let way = round_way es (w.round r es e) in
      let h = framed_ring r es e in
      round_of_way (place next.places) (onto m k way.0) (collapsed m k es)
      (edited_way (drawn m k) (onto m k) (drawn_keeps m k) way.0 es way.0 way.1)
      (ap is_ring (ring_edited r h es e) ∙ ring_stays r h)

  kept_after : (x : ℕ) → IsKept s.places x → x ≢ m → IsKept next.places x
  kept_after x h f = ap is_some (remove_other s.places m x f) ∙ h

  -- the keys of the edited edges
  begins_drawn : (es : List Edge) (x : ℕ) → In x (begins (collapsed m k es))
      → (y : ℕ) × In y (begins es) × (x ≡ onto m k y)
  begins_drawn es x h =
      let f = in_mapped (λ (e : Edge). e.0) x (collapsed m k es) h in
      let e = in_flat (drawn m k) f.0 es f.1 in
      by e.0 e.1 f.0 f.2 (is_seg m k e.0) e.2
    where
      by : (e : Edge) → In e es → (f : Edge) → f.0 ≡ x → (t : Bool)
          → In f (cond t [] ((onto m k e.0, onto m k e.1) ∷ []))
          → (y : ℕ) × In y (begins es) × (x ≡ onto m k y)
      by e u f g true v = absurd v
      by e u f g false (inl v) = (e.0, in-map (λ (d : Edge). d.0) e es u, sym g ∙ sym (ap (λ (d : Edge). d.0) v))
      by e u f g false (inr v) = absurd v

  -- the key of an edited ring that stands at x's position is x
  key_there : (r : ℕ) (es : List Edge) → table.get s.rings r ≡ Some es → (x : ℕ) → IsKept s.places x
      → (y : ℕ) → In y (begins (collapsed m k es)) → place next.places y ≡ place s.places x → y ≡ x
  key_there r es e x h y u f =
      let z = begins_drawn es y u in
      let kept = onto_kept z.0 (begin_kept s w r es e z.0 z.1) in
      one_key s.places w.distinct y x (subst (IsKept s.places) (sym z.2) kept.0) h
      (sym (place_stays y (λ v. kept.1 (sym z.2 ∙ v))) ∙ f)

  -- each other position of a ring stays in it
  still_there : (r : ℕ) (es : List Edge) → table.get s.rings r ≡ Some es → (x : ℕ)
      → In x (begins es) → x ≢ m
      → In (place s.places x) (positions_along next.places (collapsed m k es))
  still_there r es e x u f =
      of_canonical (positions_along next.places (collapsed m k es)) (place s.places x)
      (subst (In (place s.places x)) (sym (ring_edited r (framed_ring r es e) es e))
      (in_canonical (others p (ring_under s r)) (place s.places x) (filter-in (λ z. not (position_eq z p)) (place s.places x) (ring_under s r) was (ap not off))))
    where
      was : In (place s.places x) (ring_under s r)
      was = subst (In (place s.places x)) (sym (ring_under_is s w r es e)) (in_canonical (positions_along s.places es) (place s.places x) (in-map (place s.places) x (begins es) u))

      off : position_eq (place s.places x) p ≡ false
      off = false_from_ne_true _ (λ v. elsewhere x (begin_kept s w r es e x u) f (position_eq-true (place s.places x) p v))

  still_passed : (r : ℕ) (es : List Edge) → table.get s.rings r ≡ Some es → (x : ℕ)
      → In x (begins es) → x ≢ m → In x (begins (collapsed m k es))
  still_passed r es e x u f =
      let y = in_mapped (place next.places) (place s.places x) (begins (collapsed m k es)) (still_there r es e x u f) in
      subst (λ v. In v (begins (collapsed m k es))) (key_there r es e x (begin_kept s w r es e x u) y.0 y.1 y.2) y.1

  pub whole_removed : IsWhole next
  whole_removed = record {
    named = λ r. (
      λ h. ap is_some (i.edited r) ∙ is_some-mapped (collapsed m k) (table.get s.rings r) ∙ (w.named r).0 h,
      λ h. (w.named r).1 (sym (is_some-mapped (collapsed m k) (table.get s.rings r)) ∙ sym (ap is_some (i.edited r)) ∙ h),
    );
    once = w.once;
    round = λ r es e. let was = mapped_there (collapsed m k) (table.get s.rings r) es (sym (i.edited r) ∙ e) in subst GoesRound was.2 (round_after r was.0 was.1);
    placed = λ r x v.
        let was = mapped_there (collapsed m k) (table.get s.rings r) v.0 (sym (i.edited r) ∙ v.1) in
        let y = begins_drawn was.0 x (subst (λ z. In x (begins z)) (sym was.2) (contains_in (begins v.0) x v.2)) in
        let kept = onto_kept y.0 (begin_kept s w r was.0 was.1 y.0 y.1) in
        subst (IsKept next.places) (sym y.2) (kept_after (onto m k y.0) kept.0 kept.1);
    passed = λ x h.
        let f = stays x h in
        let v = w.passed x (sym (ap is_some (remove_other s.places m x f)) ∙ h) in
        (v.0, (collapsed m k v.1.0, edges_after v.0 v.1.0 v.1.1, in_contains (begins (collapsed m k v.1.0)) x (still_passed v.0 v.1.0 v.1.1 x (contains_in (begins v.1.0) x v.1.2) f)));
    distinct = λ x y q e f.
        w.distinct x y q (sym (remove_other s.places m x (stays x (ap is_some e))) ∙ e) (sym (remove_other s.places m y (stays y (ap is_some f))) ∙ f);
  }
    where
      stays : (x : ℕ) → IsKept next.places x → x ≢ m
      stays x h e = false≢true (sym (ap is_some (ap (table.get next.places) e ∙ remove_here s.places m)) ∙ h)

  -- ---- segments and size

  -- the segments after the removal: those at p go, and that of its neighbours comes
  pub segments_removed : (t : Segment)
      → is_segment (del (stored_document s) p) t
      ≡ ((is_segment (stored_document s) t && not (is_end p t)) || segment_eq t (segment (place s.places j) (place s.places k)))
  segments_removed = segments_two s w m p i.here j k i.two

  pub bridge_new : is_segment (stored_document s) (segment (place s.places j) (place s.places k)) ≡ false
  bridge_new = sym (bridged_two s w m p i.here j k i.two) ∙ i.may.unjoined

  -- a ring with p has the segment of p and k
  has_by_segment : (ring : List Position) → In ring (rings (stored_document s))
      → has ring p ≡ has_segment (segment p (place s.places k)) ring
  has_by_segment ring h = same_answer (has ring p) _ (λ t.
      let b = begun_at p ring (has-in p ring t) (ring_long ring (document_ring s w ring h)) in
      let d = ring_distinct ring (document_ring s w ring h) in
      has_segment_by (segment p (place s.places k)) ring ∙ elim (two_ways s w m p i.here j k i.two ring h b) [
        | inl n ↦ in_any (is_of (segment p (place s.places k))) (b.y, p) (geometry.edges ring) (edge_back p ring d b) (ap (λ z. segment_eq z (segment p (place s.places k))) (segment-comm b.y p ∙ ap (segment p) n.1) ∙ segment_ordered.eq-refl (segment p (place s.places k)))
        | inr n ↦ in_any (is_of (segment p (place s.places k))) (p, b.x) (geometry.edges ring) (edge_on p ring d b) (ap (λ z. segment_eq (segment p z) (segment p (place s.places k))) n.0 ∙ segment_ordered.eq-refl (segment p (place s.places k)))
      ]) (back (has ring p) refl)
    where
      back : (x : Bool) → has ring p ≡ x → has_segment (segment p (place s.places k)) ring ≡ true → has ring p ≡ true
      back true t g = t
      back false t g = absurd (false≢true (sym (segments_off p ring t (segment p (place s.places k)) g) ∙ (two_ends p (place s.places k)).0))

  -- the size shrinks by one for each ring that has p, and so the segment of m and k
  pub size_removed : size (stored_document s) ≡ size (del (stored_document s) p) + length (users_of s m k)
  size_removed =
      size_del (stored_document s) p (document_ring s w)
      ∙ ap (λ z. size (del (stored_document s) p) + z)
      (ap (λ z. length (filter (λ ring. has ring p) z)) (rings_are s w)
      ∙ filter-mapped (ring_under s) (λ ring. has ring p) (λ r. list_any (is_seg m k) (edges_under s.rings r)) (rings s.frame)
      (λ r h. has_by_segment (ring_under s r) (ring_there r h) ∙ ap (λ z. has_segment (segment z (place s.places k)) (ring_under s r)) (sym p_is) ∙ framed_has s w m k m_kept k_kept r h))

  -- ---- the index

  -- the two neighbours, as a list
  two_joined : AreJoined s m (j ∷ k ∷ [])
  two_joined x = (
    λ h. elim (contains_in (j ∷ k ∷ []) x h) [
      | inl e ↦ (i.two.1 x).1 (inl (sym e))
      | inr h' ↦ elim h' [ inl e ↦ (i.two.1 x).1 (inr (sym e)) | inr e ↦ absurd e ]
    ],
    λ h. in_contains (j ∷ k ∷ []) x (elim ((i.two.1 x).0 h) [ inl e ↦ inl (sym e) | inr e ↦ inr (inl (sym e)) ]),
  )

  -- after the new segment came into the index and those at p went, it is that of the new map
  pub reindexed_removed : (held held' : SegmentSet) → IsIndexed (stored_document s) held
      → ((t : Segment) → set.contains held' t ≡ ((set.contains held t || among (segment (place s.places j) (place s.places k) ∷ []) t) && not (among (segment (place s.places j) p ∷ segment (place s.places k) p ∷ []) t)))
      → IsIndexed (del (stored_document s) p) held'
  reindexed_removed held held' x h t =
      h t
      ∙ ap₂ (λ y z. (set.contains held t || y) && not z) (has-eq (segment (place s.places j) (place s.places k) ∷ []) t) (has-eq (segment (place s.places j) p ∷ segment (place s.places k) p ∷ []) t ∙ sym (segments_at s w m p i.here (j ∷ k ∷ []) two_joined t))
      ∙ ap (λ y. (y || (segment_eq t (segment (place s.places j) (place s.places k)) || false)) && not (is_segment (stored_document s) t && is_end p t)) (x t)
      ∙ by (is_segment (stored_document s) t) (segment_eq t (segment (place s.places j) (place s.places k))) (is_end p t)
      (λ e. ap (is_segment (stored_document s)) (segment_eq-true t (segment (place s.places j) (place s.places k)) e) ∙ bridge_new)
      ∙ sym (segments_removed t)
    where
      by : (was comes at_p : Bool) → (comes ≡ true → was ≡ false)
          → ((was || (comes || false)) && not (was && at_p)) ≡ ((was && not at_p) || comes)
      by was comes at_p f = grind arith

-- the map without the vertex is held again, where the index has its segments
pub holds_removed : (s : Stored) (held held' : SegmentSet) (after : Rings) (m j k : ℕ) (p : Position)
    → Holds s held → Removing s after m j k p → IsIndexed (del (stored_document s) p) held'
    → Holds (without_vertex s after m) held'
holds_removed s held held' after m j k p h i x =
    let is = document_removed s after m j k p h.whole h.proper i in
    record {
      whole = whole_removed s after m j k p h.whole h.proper i;
      formed = h.formed;
      keeps = h.keeps;
      proper = subst Proper (sym is) (del_is_proper (stored_document s) p h.proper i.may.long i.may.apart);
      small = subst (λ d. size d ≤ 4000000) (sym is) (omega (arith, h.small, size_removed s after m j k p h.whole h.proper i));
      indexed = subst (λ d. IsIndexed d held') (sym is) x;
    }
