-- What a move of a vertex makes of a map that is kept.
use Rattle.kit_words.proofs.Common.{◌≡◌, ◌≢◌, ◌≤◌, ◌+◌, ℕ, Bool, true, false, refl, sym, ap, ap₂, ◌∙◌, subst, cond}
use Rattle.kit_words.proofs.Common.{List, [], ◌∷◌, ◌++◌, map, length, ◌||◌, ◌&&◌, inl, inr, arith, Some, is_some, ◌==◌}
use Rattle.kit_words.proofs.Common.{not, unwrap_or, pos, list_any, sum_by, fold, false≢true, Decides-eqb, map-append}
use Rattle.kit_words.proofs.Common.{length-map, ℕ_discrete, and_parts, or_cases, or_right, or_parts, false_from_ne_true}
use Rattle.kit_words.proofs.Common.{not-true}
use Rattle.std.specs.FinMap as table
use Rattle.std.specs.FinSet as set
use Rattle.grid_geometry.specs.Common.{Position, position, position_eq, Segment, segment, segment_eq, is_end}
use Rattle.grid_geometry.proofs.Common.{segment-comm}
use Rattle.ring_machine.specs.Common.{canonical, has, Document, rings, size, is_vertex, is_segment, all_segments, put}
use Rattle.ring_machine.specs.Common.{put_ring, Proper, are_distinct}
use Rattle.ring_machine.proofs.Common.{Pivot, canonical_parts, canonical_swap, In, document-agrees, all_of, none_in}
use Rattle.ring_machine.proofs.Common.{in-map, has-in, in-has, segment_ordered, segment_eq-true, rings-in_rings}
use Rattle.ring_machine.proofs.Common.{put_is_proper, put-distinct, contains_in, in_contains, in_mapped, any_in, in_any}
use Rattle.ring_machine.proofs.Common.{same_answer, canonical_length, in_canonical}
use Rattle.ring_machine.proofs.Keys.{shifted, key_moved}
use Rattle.ring_machine.proofs.SidesKept.{pivot_some}
use Rattle.vertex_index.specs.Common.{Placement, AreDistinct, place}
use Rattle.vertex_index.proofs.Common.{get-inserted}
use Rattle.segment_index.specs.Candidates.{SegmentSet, AreSingle, has as has_segment, segment_is, times_in}
use Rattle.segment_index.proofs.Common.{same_segment}
use Rattle.arc_tables.specs.Common.{Edge, begins}
use Rattle.ring_store.specs.Common.{Joined}
use Rattle.feature_exchange.specs.Common.{Stored, positions_along, ring_under, stored_document, Visits, IsWhole, IsIndexed}
use Rattle.feature_exchange.specs.Common.{Holds}
use Rattle.feature_exchange.proofs.Common.{end_of_two, two_ends, joined_back, framed, ring_laid, key_vertex, begin_kept}
use Rattle.feature_exchange.proofs.Common.{positions_distinct, positions_long, ring_under_is, segment_between}
use Rattle.feature_exchange.proofs.Common.{joined_segment, joined_kept, joined_differ, AreJoined, segments_to}
use Rattle.feature_exchange.proofs.Common.{segments_at, one_to}
use Rattle.ring_store.proofs.Common.{has_key, insert_other, IsKept, place_is, kept_place, place_kept, one_key, has-eq}
use Rattle.arc_store.specs.Common.{IsMovable}
use Rattle.arc_store.proofs.Indexed.{end_vertex}

-- ---- lists

map_alike : {A B : Type 0} (f g : A → B) → ((a : A) → f a ≡ g a) → (xs : List A)
    → map f xs ≡ map g xs
map_alike f g h [] = refl
map_alike f g h (x ∷ xs) = ap₂ (λ y z. y ∷ z) (h x) (map_alike f g h xs)

-- positions that are changed before or after the ring is turned
pub canonical_map : (f : Position → Position) (ps : List Position) → Pivot (map f ps)
    → canonical (map f (canonical ps)) ≡ canonical (map f ps)
canonical_map f ps v =
    let parts = canonical_parts ps in
    let there : map f ps ≡ map f parts.0 ++ map f parts.1 = ap (map f) parts.2 ∙ map-append f parts.0 parts.1 in
    let back : map f (canonical ps) ≡ map f parts.1 ++ map f parts.0 = ap (map f) parts.3 ∙ map-append f parts.1 parts.0 in
    ap canonical back ∙ sym (ap canonical there ∙ canonical_swap (map f parts.0) (map f parts.1) (subst Pivot there v))

-- ---- segments to one position

-- from different vertices they are different
pub segments_to_single : (places : Placement) (q : Position) → AreDistinct places → (xs : List ℕ)
    → ((x : ℕ) → In x xs → IsKept places x) → are_distinct xs ≡ true
    → AreSingle (segments_to places q xs)
segments_to_single places q d [] kept h t = omega arith
segments_to_single places q d (x ∷ xs) kept h t =
    let h' = and_parts (not (has_key x xs)) (are_distinct xs) h in
    by (segment_is t (segment (place places x) q)) refl (not-true _ h'.0) (segments_to_single places q d xs (λ y i. kept y (inr i)) h'.1 t)
  where
    none : (ys : List ℕ) → ((y : ℕ) → In y ys → IsKept places y) → t ≡ segment (place places x) q
        → has_key x ys ≡ false → times_in (segments_to places q ys) t ≡ 0
    none [] kept' e n = refl
    none (y ∷ ys) kept' e n =
        let n' = or_parts (y == x) (has_key x ys) n in
        ap₂ (λ a b. cond a 1 0 + b)
        (false_from_ne_true _ (λ f. false≢true (sym n'.0 ∙ (Decides-eqb y x).1 (one_to places q d y x (kept' y (inl refl)) (kept x (inl refl)) (sym (same_segment t (segment (place places y) q) f) ∙ e)))))
        (none ys (λ z i. kept' z (inr i)) e n'.1)

    by : (b : Bool) → segment_is t (segment (place places x) q) ≡ b → has_key x xs ≡ false
        → times_in (segments_to places q xs) t ≤ 1
        → cond b 1 0 + times_in (segments_to places q xs) t ≤ 1
    by true e n l = omega (arith, none xs (λ y i. kept y (inr i)) (same_segment t (segment (place places x) q) e) n)
    by false e n l = omega (arith, l)

-- ---- the number of positions

pub size-put : (d : Document) (p q : Position) → size (put d p q) ≡ size d
size-put d p q = ap (sum_by length) (rings-in_rings (put_ring p q) d) ∙ over 0 (rings d)
  where
    one : (ring : List Position) → length (put_ring p q ring) ≡ length ring
    one ring =
        canonical_length (map (λ r. cond (position_eq r p) q r) ring) ∙ length-map ring (λ r. cond (position_eq r p) q r)

    over : (n : ℕ) (rs : List (List Position))
        → fold (λ a x. a + length x) n (map (put_ring p q) rs) ≡ fold (λ a x. a + length x) n rs
    over n [] = refl
    over n (r ∷ rs) = over (n + length (put_ring p q r)) rs ∙ ap (λ m. fold (λ a x. a + length x) (n + m) rs) (one r)

-- ---- a move

-- the map with the vertex of this key at q
abbrev pub moved_to : Stored → ℕ → Position → Stored
moved_to s k q = record { frame = s.frame; rings = s.rings; places = table.insert s.places k q }

place_here : (places : Placement) (k : ℕ) (q : Position)
    → place (table.insert places k q) k ≡ q
place_here places k q = place_is (table.insert places k q) k q (get-inserted places k q)

place_other : (places : Placement) (k : ℕ) (q : Position) (j : ℕ) → j ≢ k
    → place (table.insert places k q) j ≡ place places j
place_other places k q j h = ap (λ o. unwrap_or o (position (pos 0) (pos 0))) (insert_other places k q j h)

place_moved : (places : Placement) (k : ℕ) (q : Position) (j : ℕ)
    → place (table.insert places k q) j ≡ shifted (place places) k q j
place_moved places k q j = by (j == k) refl
  where
    by : (b : Bool) → (j == k) ≡ b
        → place (table.insert places k q) j ≡ cond b q (place places j)
    by true e = ap (place (table.insert places k q)) ((Decides-eqb j k).0 e) ∙ place_here places k q
    by false e = place_other places k q j (λ i. false≢true (sym e ∙ (Decides-eqb j k).1 i))

-- where no other key is at q, positions stay distinct
pub inserted_distinct : (places : Placement) (k : ℕ) (q : Position) → AreDistinct places
    → ((j : ℕ) → table.get places j ≡ Some q → ⊥) → AreDistinct (table.insert places k q)
inserted_distinct places k q d none i j x e f = by (ℕ_discrete i k) (ℕ_discrete j k)
  where
    is_q : (j : ℕ) → j ≡ k → table.get (table.insert places k q) j ≡ Some x → Some x ≡ Some q
    is_q j m g = sym g ∙ ap (table.get (table.insert places k q)) m ∙ get-inserted places k q

    by : Dec (i ≡ k) → Dec (j ≡ k) → i ≡ j
    by (yes m) (yes n) = m ∙ sym n
    by (yes m) (no n) = absurd (none j (sym (insert_other places k q j n) ∙ f ∙ is_q i m e))
    by (no m) (yes n) = absurd (none i (sym (insert_other places k q i m) ∙ e ∙ is_q j n f))
    by (no m) (no n) = d i j x (sym (insert_other places k q i m) ∙ e) (sym (insert_other places k q j n) ∙ f)

module _ (s : Stored) (w : IsWhole s) (k : ℕ) (p q : Position) (at : table.get s.places k ≡ Some p) (free : is_vertex (stored_document s) q ≡ false) where
  kept : IsKept s.places k
  kept = place_kept s.places k p at

  here : place s.places k ≡ p
  here = place_is s.places k p at

  -- no vertex that is kept is at q
  pub none_there : (j : ℕ) → table.get s.places j ≡ Some q → ⊥
  none_there j e = false≢true (sym free ∙ key_vertex s w j q e)

  pub not_there : (j : ℕ) → IsKept s.places j → place s.places j ≢ q
  not_there j h e = none_there j (kept_place s.places j h ∙ ap Some e)

  -- ---- the document

  ring_free : (r : ℕ) (es : List Edge) → table.get s.rings r ≡ Some es
      → has (positions_along s.places es) q ≡ false
  ring_free r es e = false_from_ne_true _ (λ i. false≢true (sym (none_in (λ ring. has ring q) (rings (stored_document s)) (canonical (positions_along s.places es)) free (ring_laid s w r es e))
      ∙ in-has q (canonical (positions_along s.places es)) (in_canonical (positions_along s.places es) q (has-in q (positions_along s.places es) i))))

  positions_moved : (r : ℕ) (es : List Edge) → table.get s.rings r ≡ Some es
      → positions_along (table.insert s.places k q) es
      ≡ map (λ r. cond (position_eq r p) q r) (positions_along s.places es)
  positions_moved r es e =
      map_alike (place (table.insert s.places k q)) (shifted (place s.places) k q) (place_moved s.places k q) (begins es)
      ∙ key_moved (place s.places) k q (begins es) (all_of (λ n. place s.places n ≡ place s.places k → n ≡ k) (begins es) (λ n i. one_key s.places w.distinct n k (begin_kept s w r es e n i) kept))
      ∙ ap (λ z. map (λ r. cond (position_eq r z) q r) (positions_along s.places es)) here

  ring_moved : (r : ℕ) → In r (rings s.frame)
      → put_ring p q (ring_under s r) ≡ ring_under (moved_to s k q) r
  ring_moved r i =
      let e = framed s w r i in
      let ps = positions_along s.places e.0 in
      let f : Position → Position = λ r. cond (position_eq r p) q r in
      let pivot : Pivot (map f ps) = pivot_some (map f ps) (omega (arith, length-map ps f, positions_long s w r e.0 e.1)) (put-distinct p q ps (ring_free r e.0 e.1) (positions_distinct s w r e.0 e.1)) in
      ap (put_ring p q) (ring_under_is s w r e.0 e.1) ∙ canonical_map f ps pivot ∙ ap canonical (sym (positions_moved r e.0 e.1))
      ∙ ap (λ o. canonical (positions_along (table.insert s.places k q) (unwrap_or o []))) (sym e.1)

  -- the document of the moved map is the moved document
  pub document_moved : stored_document (moved_to s k q) ≡ put (stored_document s) p q
  document_moved = sym (document-agrees (ring_under s) (put_ring p q) (ring_under (moved_to s k q)) s.frame (all_of (λ r. put_ring p q (ring_under s r) ≡ ring_under (moved_to s k q) r) (rings s.frame) ring_moved))

  -- and its tables belong together
  pub whole_moved : IsWhole (moved_to s k q)
  whole_moved = record {
    named = w.named;
    once = w.once;
    round = w.round;
    placed = λ r j v. placed j (w.placed r j v) (ℕ_discrete j k);
    passed = λ j h. passed j h (ℕ_discrete j k);
    distinct = inserted_distinct s.places k q w.distinct none_there;
  }
    where
      placed : (j : ℕ) → IsKept s.places j → Dec (j ≡ k) → IsKept (table.insert s.places k q) j
      placed j h (yes e) = ap (λ z. is_some (table.get (table.insert s.places k q) z)) e ∙ ap is_some (get-inserted s.places k q)
      placed j h (no n) = ap is_some (insert_other s.places k q j n) ∙ h

      passed : (j : ℕ) → IsKept (table.insert s.places k q) j → Dec (j ≡ k) → (r : ℕ) × Visits s r j
      passed j h (yes e) = w.passed j (ap (λ z. is_some (table.get s.places z)) e ∙ kept)
      passed j h (no n) = w.passed j (sym (ap is_some (insert_other s.places k q j n)) ∙ h)

  pub size_moved : size (stored_document (moved_to s k q)) ≡ size (stored_document s)
  size_moved = ap size document_moved ∙ size-put (stored_document s) p q

  -- ---- segments

  -- what is joined to the vertex goes to q
  to_q : (x : ℕ) → Joined s.rings k x
      → is_segment (put (stored_document s) p q) (segment (place s.places x) q) ≡ true
  to_q x j =
      let other : x ≢ k = λ e. joined_differ s w k x j (sym e) in
      ap₂ (λ (y : Position) z. is_segment (put (stored_document s) p q) (segment y z)) (sym (place_other s.places k q x other)) (sym (place_here s.places k q))
      ∙ ap (λ d. is_segment d (segment (place (table.insert s.places k q) x) (place (table.insert s.places k q) k))) (sym document_moved)
      ∙ joined_segment (moved_to s k q) whole_moved x k (joined_back s k x j)

  -- two other vertices keep their segment
  stays : (a b : ℕ) → Joined s.rings a b → a ≢ k → b ≢ k
      → is_segment (put (stored_document s) p q) (segment (place s.places a) (place s.places b)) ≡ true
  stays a b j m n =
      ap₂ (λ (y : Position) z. is_segment (put (stored_document s) p q) (segment y z)) (sym (place_other s.places k q a m)) (sym (place_other s.places k q b n))
      ∙ ap (λ d. is_segment d (segment (place (table.insert s.places k q) a) (place (table.insert s.places k q) b))) (sym document_moved)
      ∙ joined_segment (moved_to s k q) whole_moved a b j

  not_end : (a b : ℕ) → Joined s.rings a b → a ≢ k → b ≢ k
      → is_end p (segment (place s.places a) (place s.places b)) ≡ false
  not_end a b j m n =
      let both = joined_kept s w a b j in
      false_from_ne_true _ (λ e. elim (end_of_two p (place s.places a) (place s.places b) e) [
        | inl i ↦ m (one_key s.places w.distinct a k both.0 kept (sym i ∙ sym here))
        | inr i ↦ n (one_key s.places w.distinct b k both.1 kept (sym i ∙ sym here))
      ])

  -- after the move there are the segments that do not end at p, and those to q
  pub segments_moved : (xs : List ℕ) → AreJoined s k xs → (t : Segment)
      → is_segment (put (stored_document s) p q) t
      ≡ ((is_segment (stored_document s) t && not (is_end p t)) || list_any (segment_eq t) (segments_to s.places q xs))
  segments_moved xs j t = same_answer _ _ (λ h.
      let b = segment_between (moved_to s k q) whole_moved t (ap (λ d. is_segment d t) document_moved ∙ h) in
      forth b.a b.b b.joined b.is (ℕ_discrete b.a k) (ℕ_discrete b.b k))
      (λ h. elim (or_cases (is_segment (stored_document s) t && not (is_end p t)) (list_any (segment_eq t) (segments_to s.places q xs)) h) [
        | inl i ↦
            let both = and_parts (is_segment (stored_document s) t) (not (is_end p t)) i in
            let b = segment_between s w t both.0 in
            ap (is_segment (put (stored_document s) p q)) b.is ∙ stays b.a b.b b.joined (off b.a b.b (not-true _ both.1) b.is).0 (off b.a b.b (not-true _ both.1) b.is).1
        | inr i ↦
            let u = any_in (segment_eq t) (segments_to s.places q xs) i in
            let x = in_mapped (λ x. segment (place s.places x) q) u.0 xs u.1 in
            ap (is_segment (put (stored_document s) p q)) (segment_eq-true t u.0 u.2 ∙ sym x.2) ∙ to_q x.0 ((j x.0).0 (in_contains xs x.0 x.1))
      ])
    where
      added : (x : ℕ) → Joined s.rings k x → t ≡ segment (place s.places x) q
          → ((is_segment (stored_document s) t && not (is_end p t)) || list_any (segment_eq t) (segments_to s.places q xs)) ≡ true
      added x i e = or_right (is_segment (stored_document s) t && not (is_end p t)) _
          (in_any (segment_eq t) (segment (place s.places x) q) (segments_to s.places q xs) (in-map (λ x. segment (place s.places x) q) x xs (contains_in xs x ((j x).1 i)))
          (ap (segment_eq t) (sym e) ∙ segment_ordered.eq-refl t))

      moved_segment : (a b : ℕ) (y z : Position) → t ≡ segment (place (table.insert s.places k q) a) (place (table.insert s.places k q) b)
          → place (table.insert s.places k q) a ≡ y → place (table.insert s.places k q) b ≡ z
          → t ≡ segment y z
      moved_segment a b y z e f g = e ∙ ap₂ segment f g

      forth : (a b : ℕ) → Joined s.rings a b
          → t ≡ segment (place (table.insert s.places k q) a) (place (table.insert s.places k q) b)
          → Dec (a ≡ k) → Dec (b ≡ k)
          → ((is_segment (stored_document s) t && not (is_end p t)) || list_any (segment_eq t) (segments_to s.places q xs)) ≡ true
      forth a b i e (yes m) (yes n) = absurd (joined_differ s w a b i (m ∙ sym n))
      forth a b i e (yes m) (no n) =
          added b (subst (λ z. Joined s.rings z b) m i)
          (moved_segment a b q (place s.places b) e (ap (place (table.insert s.places k q)) m ∙ place_here s.places k q) (place_other s.places k q b n) ∙ segment-comm q (place s.places b))
      forth a b i e (no m) (yes n) =
          added a (subst (λ z. Joined s.rings z a) n (joined_back s a b i))
          (moved_segment a b (place s.places a) q e (place_other s.places k q a m) (ap (place (table.insert s.places k q)) n ∙ place_here s.places k q))
      forth a b i e (no m) (no n) =
          let is = moved_segment a b (place s.places a) (place s.places b) e (place_other s.places k q a m) (place_other s.places k q b n) in
          ap₂ (λ y z. (y && not z) || list_any (segment_eq t) (segments_to s.places q xs))
          (ap (is_segment (stored_document s)) is ∙ joined_segment s w a b i) (ap (is_end p) is ∙ not_end a b i m n)

      -- a segment that does not end at p is of two other vertices
      off : (a b : ℕ) → is_end p t ≡ false → t ≡ segment (place s.places a) (place s.places b)
          → (a ≢ k) × (b ≢ k)
      off a b n e = (
        λ m. false≢true (sym n ∙ ap (is_end p) e ∙ ap (λ z. is_end z (segment (place s.places a) (place s.places b))) (sym here ∙ ap (place s.places) (sym m)) ∙ (two_ends (place s.places a) (place s.places b)).0),
        λ m. false≢true (sym n ∙ ap (is_end p) e ∙ ap (λ z. is_end z (segment (place s.places a) (place s.places b))) (sym here ∙ ap (place s.places) (sym m)) ∙ (two_ends (place s.places a) (place s.places b)).1),
      )

  -- and is new
  pub added_new : (xs : List ℕ) (t : Segment) → In t (segments_to s.places q xs)
      → is_segment (stored_document s) t ≡ false
  added_new xs t i =
      let x = in_mapped (λ x. segment (place s.places x) q) t xs i in
      false_from_ne_true _ (λ e. false≢true (sym free ∙ end_vertex (stored_document s) q t e (ap (is_end q) (sym x.2) ∙ (two_ends (place s.places x.0) q).1)))

  -- no two are one
  pub added_single : (xs : List ℕ) → AreJoined s k xs → are_distinct xs ≡ true
      → AreSingle (segments_to s.places q xs)
  added_single xs j d = segments_to_single s.places q w.distinct xs (λ x i. (joined_kept s w k x ((j x).0 (in_contains xs x i))).1) d

  -- ---- the index

  -- in the words of an index
  pub indexed_moved : (xs : List ℕ) → AreJoined s k xs → (held : SegmentSet)
      → IsIndexed (stored_document s) held → (t : Segment)
      → has_segment (all_segments (put (stored_document s) p q)) t
      ≡ ((set.contains held t && not (is_end p t)) || has_segment (segments_to s.places q xs) t)
  indexed_moved xs j held i t =
      has-eq (all_segments (put (stored_document s) p q)) t ∙ segments_moved xs j t
      ∙ ap₂ (λ a b. (a && not (is_end p t)) || b) (sym (i t)) (sym (has-eq (segments_to s.places q xs) t))

  -- after the added segments came into the index and those at p went, it is that of the moved map
  pub reindexed : (xs : List ℕ) → AreJoined s k xs → (held held' : SegmentSet)
      → IsIndexed (stored_document s) held
      → ((t : Segment) → set.contains held' t ≡ ((set.contains held t || has_segment (segments_to s.places q xs) t) && not (has_segment (segments_to s.places p xs) t)))
      → IsIndexed (put (stored_document s) p q) held'
  reindexed xs j held held' i h t =
      h t
      ∙ ap (λ b. (set.contains held t || has_segment (segments_to s.places q xs) t) && not b) (has-eq (segments_to s.places p xs) t ∙ sym (segments_at s w k p at xs j t) ∙ ap (λ b. b && is_end p t) (sym (i t)))
      ∙ either (set.contains held t) (has_segment (segments_to s.places q xs) t) (is_end p t) apart_from_held
      ∙ sym (indexed_moved xs j held i t) ∙ has-eq (all_segments (put (stored_document s) p q)) t
    where
      either : (held added at_p : Bool) → (held && added) ≡ false
          → ((held || added) && not (held && at_p)) ≡ ((held && not at_p) || added)
      either held added at_p e = grind arith

      apart_from_held : (set.contains held t && has_segment (segments_to s.places q xs) t) ≡ false
      apart_from_held = false_from_ne_true _ (λ e.
          let both = and_parts (set.contains held t) (has_segment (segments_to s.places q xs) t) e in
          let u = any_in (segment_eq t) (segments_to s.places q xs) (sym (has-eq (segments_to s.places q xs) t) ∙ both.1) in
          false≢true (sym (added_new xs u.0 u.1) ∙ ap (is_segment (stored_document s)) (sym (segment_eq-true t u.0 u.2)) ∙ sym (i t) ∙ both.0))

-- a move gives a map with all that is true of maps
pub holds_moved : (s : Stored) (held held' : SegmentSet) (k : ℕ) (p q : Position) → Holds s held
    → table.get s.places k ≡ Some p → IsMovable (stored_document s) p q
    → IsIndexed (put (stored_document s) p q) held' → Holds (moved_to s k q) held'
holds_moved s held held' k p q h at may indexed =
    let is = document_moved s h.whole k p q at may.free in
    record {
      whole = whole_moved s h.whole k p q at may.free;
      formed = h.formed;
      keeps = h.keeps;
      proper = subst Proper (sym is) (put_is_proper (stored_document s) p q h.proper may.free may.apart);
      small = omega (arith, h.small, size_moved s h.whole k p q at may.free);
      indexed = subst (λ d. IsIndexed d held') (sym is) indexed;
    }
