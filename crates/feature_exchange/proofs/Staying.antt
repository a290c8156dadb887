-- Rings that were laid in two steps, and rings that stay while others come and go.
use Rattle.kit_words.proofs.Common.{◌≡◌, ℕ, sym, ap, ◌∙◌, List, [], ◌++◌, map, inl, inr, Some, None, is_some, IsTrue}
use Rattle.kit_words.proofs.Common.{unwrap_or, false≢true, Contains-append_left, Contains-append_right}
use Rattle.std.specs.FinMap as table
use Rattle.ring_machine.proofs.Common.{In, in-append, distinct-append, contains_in, in_contains, there, map_there}
use Rattle.vertex_index.specs.Common.{Placement, place}
use Rattle.segment_index.specs.Common.{SegmentSet}
use Rattle.arc_tables.specs.Common.{Edge, Rings, begins}
use Rattle.ring_store.proofs.Common.{place_is, kept_place}
use Rattle.feature_exchange.specs.Common.{AreAdded, KeepsPlaces}
use Rattle.ring_store.specs.Common.{keyed_ring, Stands}
use Rattle.feature_exchange.proofs.Numbered.{contained_or}
use Rattle.feature_exchange.proofs.Visited.{visited_at}

-- ---- first some came, and then others

pub added_twice : (m m' m'' : Rings) (first second : List ℕ) → AreAdded m m' first → AreAdded m' m'' second
    → ((r : ℕ) → In r first → IsTrue (table.contains_key m' r)) → AreAdded m m'' (first ++ second)
added_twice m m' m'' first second a b there = record {
  free = λ r c. elim (in-append r first second (contains_in (first ++ second) r c)) [
    | inl i ↦ a.free r (in_contains first r i)
    | inr i ↦ new r i
  ];
  different = distinct-append first second a.different b.different (λ r i j. apart r i j);
  kept = λ r es e. b.kept r es (a.kept r es e);
  others = λ r f.
      b.others r (λ c. f (Contains-append_right first second r c))
      ∙ a.others r (λ c. f (Contains-append_left first second r c));
}
  where
    apart : (r : ℕ) → In r first → In r second → ⊥
    apart r i j = false≢true (sym (ap is_some (b.free r (in_contains second r j))) ∙ there r i)

    new : (r : ℕ) → In r second → table.get m r ≡ None
    new r i = elim (contained_or r first) [
      | inl c ↦ a.free r c
      | inr f ↦ sym (a.others r f) ∙ b.free r (in_contains second r i)
    ]

-- ---- a ring that stays

module _ (p q p' : Placement) (m m' : Rings) (h h' : SegmentSet) (s : Stands p m h) (s' : Stands p' m' h')
    (kept : KeepsPlaces p q) (left : KeepsPlaces p' q) where
  -- the vertices that are visited before and after are where they were
  pub ring_at-stays : (r : ℕ) → IsTrue (table.contains_key m r) → table.get m' r ≡ table.get m r
      → keyed_ring p' m' r ≡ keyed_ring p m r
  ring_at-stays r c same =
      let o = there (table.get m r) c in
      let at : (k : ℕ) → In k (begins o.0) → place p' k ≡ place p k = λ k i.
      here k o.0 (same ∙ o.1) o.1 i in
      ap (λ e. map (place p') (begins (unwrap_or e []))) (same ∙ o.1)
      ∙ map_there (place p') (place p) (begins o.0) at
      ∙ sym (ap (λ e. map (place p) (begins (unwrap_or e []))) o.1)
    where
      here : (k : ℕ) (es : List Edge) → table.get m' r ≡ Some es → table.get m r ≡ Some es → In k (begins es)
          → place p' k ≡ place p k
      here k es e f i =
          let before = kept k (place p k) (kept_place p k (s.placed k (visited_at m r es f k i))) in
          let after = left k (place p' k) (kept_place p' k (s'.placed k (visited_at m' r es e k i))) in
          sym (place_is q k (place p' k) after) ∙ place_is q k (place p k) before
