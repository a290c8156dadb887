-- How many rings have a segment: as many as the arc that has it.
use Rattle.kit_words.proofs.Common.{◌≡◌, ℕ, zero, suc, ◌<◌, ◌≤◌, ◌+◌, Bool, true, false, cond, refl, sym, ap, ◌∙◌}
use Rattle.kit_words.proofs.Common.{subst, arith, List, [], ◌∷◌, map, length, Contains, inl, inr, Option, Some, None}
use Rattle.kit_words.proofs.Common.{◌==◌, slice_index_or, nat_cmp, Less, nat_cmp_is, nat_cmp_total, false≢true, or_left}
use Rattle.kit_words.proofs.Common.{or_right, cases_Bool, both_ways, nil_from_length, sum_by-cons, Decides-eqb}
use Rattle.kit_words.proofs.Common.{nat_tests}
use Rattle.std.specs.Prelude.{count_by}
use Rattle.std.specs.FinMap as rings
use Rattle.slab.specs.Slab as slab
use Rattle.slab.specs.Slab.{get}
use Rattle.arc_tables.specs.Common.{Use, Ring, Tables, Edge, links, walk, chain, times, has_segment, users_of, path_of}
use Rattle.arc_tables.specs.Common.{users_in, uses_in, uses_arc, AllDifferent, without, edges_in, rings_of, Sound}
use Rattle.arc_tables.proofs.Different.{in_without, from_without, different_without, length-without}
use Rattle.arc_tables.proofs.Moves.{links-reverse, times-append, times-flipped}
use Rattle.arc_tables.proofs.RingLemmas.{mapped_slot}

-- ---- the entries of a map from slots

module _ {X : Type 0} where
  put_first : (slots : List (Option X)) (i j : ℕ) (v : X) → i < j → rings.put nat_cmp i v (slab.entries_from j slots) ≡ (i, v) ∷ slab.entries_from j slots
  put_first [] i j v h = refl
  put_first (None ∷ rest) i j v h = put_first rest i (j + 1) v (omega arith)
  put_first (Some w ∷ rest) i j v h = let less : nat_cmp i j ≡ Less = sym (nat_cmp_is i j Less h) in rw less refl

  entries_slots : (slots : List (Option X)) (i : ℕ) → rings.entries (rings.from_entries {R = nat_cmp} (slab.entries_from i slots)) ≡ slab.entries_from i slots
  entries_slots [] i = nil_from_length _ (sym (rings.len-entries (rings.empty {R = nat_cmp})) ∙ rings.len-empty nat_cmp X)
  entries_slots (None ∷ rest) i = entries_slots rest (i + 1)
  entries_slots (Some v ∷ rest) i =
      rings.entries-insert nat_cmp_total (rings.from_entries (slab.entries_from (i + 1) rest)) i v
      ∙ ap (rings.put nat_cmp i v) (entries_slots rest (i + 1))
      ∙ put_first rest i (i + 1) v (omega arith)

  -- a slot has a value that passes
  abbrev passes : (X → Bool) → Option X → Bool
  passes p None = false
  passes p (Some v) = p v

-- as many values pass as there are numbers in a list that has, once, just the keys of these
module _ {X : Type 0} (p : X → Bool) where
  count_slots : (slots : List (Option X)) (i : ℕ) (xs : List ℕ) → AllDifferent xs → ((k : ℕ) → Contains xs k → (j : ℕ) × (k ≡ i + j) × (passes p (slice_index_or slots j None) ≡ true)) →
      ((j : ℕ) → passes p (slice_index_or slots j None) ≡ true → Contains xs (i + j)) → count_by p (map (λ e. e.1) (slab.entries_from i slots)) ≡ length xs
  count_slots [] i [] d from to = refl
  count_slots [] i (x ∷ xs) d from to = absurd (false≢true (from x (0, omega arith, refl)).2)
  count_slots (None ∷ rest) i xs d from to = count_slots rest (i + 1) xs d (λ k m. later k (from k m)) (λ j h. subst (Contains xs) (omega arith) (to (suc j) h))
    where
      later : (k : ℕ) → (j : ℕ) × (k ≡ i + j) × (passes p (slice_index_or (None ∷ rest) j None) ≡ true) → (j : ℕ) × (k ≡ i + 1 + j) × (passes p (slice_index_or rest j None) ≡ true)
      later k (zero, e, h) = absurd (false≢true h)
      later k (suc j, e, h) = (j, omega arith, h)
  count_slots (Some v ∷ rest) i xs d from to =
      sum_by-cons (λ x. cond (p x) 1 0) v (map (λ e. e.1) (slab.entries_from (i + 1) rest)) ∙ elim (cases_Bool (p v)) [
        | inl f ↦
            let here : Contains xs i = subst (Contains xs) (omega arith) (to 0 f) in
            let rest_is = count_slots rest (i + 1) (without i xs) (different_without i xs d) (λ k m. let n = from_without i xs k m in later k (λ e. absurd (n.1 e)) (from k n.0)) (λ j h. in_without i xs (i + 1 + j) (λ e. absurd (omega arith)) (subst (Contains xs) (omega arith) (to (suc j) h))) in
            omega (arith, ap {B = ℕ} (λ b. cond b 1 0) f, rest_is, length-without i xs d here)
        | inr f ↦
            let rest_is = count_slots rest (i + 1) xs d (λ k m. later k (λ e. f) (from k m)) (λ j h. subst (Contains xs) (omega arith) (to (suc j) h)) in
            omega (arith, ap {B = ℕ} (λ b. cond b 1 0) f, rest_is)
      ]
    where
      later : (k : ℕ) → (k ≡ i → p v ≡ false) → (j : ℕ) × (k ≡ i + j) × (passes p (slice_index_or (Some v ∷ rest) j None) ≡ true) → (j : ℕ) × (k ≡ i + 1 + j) × (passes p (slice_index_or rest j None) ≡ true)
      later k f (zero, e, h) = absurd (both_ways (p v) (f (omega arith)) h)
      later k f (suc j, e, h) = (j, omega arith, h)

-- ---- the segments of a ring, and the arcs that it uses

pub segment_times : (a b : ℕ) (es : List Edge) → has_segment a b es ≡ true → 1 ≤ times a b es
segment_times a b [] h = absurd (false≢true h)
segment_times a b (e ∷ es) h = grind (arith, segment_times a b es)

pub times_segment : (a b : ℕ) (es : List Edge) → 1 ≤ times a b es → has_segment a b es ≡ true
times_segment a b [] h = absurd (omega arith)
times_segment a b (e ∷ es) h = grind (arith, times_segment a b es)

times_walk : (a b : ℕ) (back : Bool) (ps : List ℕ) → times a b (links (walk back ps)) ≡ times a b (links ps)
times_walk a b true ps = ap (times a b) (links-reverse ps) ∙ times-flipped a b (links ps)
times_walk a b false ps = refl

module _ (a b : ℕ) (path : ℕ → List ℕ) where
  pub chain_has : (n : ℕ) (us : List Use) → 1 ≤ times a b (links (path n)) → uses_arc n us ≡ true → 1 ≤ times a b (chain path us)
  chain_has n [] l h = absurd (false≢true h)
  chain_has n (u ∷ us) l h = grind (arith, nat_tests, chain_has n us l, times-append a b (links (walk u.back (path u.arc))) (chain path us), times_walk a b u.back (path u.arc))

  pub chain_uses : (us : List Use) → 1 ≤ times a b (chain path us) → (n : ℕ) × (uses_arc n us ≡ true) × (1 ≤ times a b (links (path n)))
  chain_uses [] h = absurd (omega arith)
  chain_uses (u ∷ us) h = by (times a b (links (path u.arc))) refl (chain_uses us)
    where
      by : (k : ℕ) → times a b (links (path u.arc)) ≡ k → (1 ≤ times a b (chain path us) → (n : ℕ) × (uses_arc n us ≡ true) × (1 ≤ times a b (links (path n)))) → (n : ℕ) × (uses_arc n (u ∷ us) ≡ true) × (1 ≤ times a b (links (path n)))
      by zero e later = let m = later (omega (arith, times-append a b (links (walk u.back (path u.arc))) (chain path us), times_walk a b u.back (path u.arc))) in (m.0, or_right (u.arc == m.0) (uses_arc m.0 us) m.1, m.2)
      by (suc k) e later = (u.arc, or_left (u.arc == u.arc) (uses_arc u.arc us) ((Decides-eqb u.arc u.arc).1 refl), omega arith)

-- ---- the arc that has the segment

module _ {A : Type 0} (t : Tables A) (a b : ℕ) where
  ring_passes : (o : Option (Ring A)) → passes (has_segment a b) (edges_in (path_of t) o) ≡ has_segment a b (chain (path_of t) (uses_in o))
  ring_passes o = grind arith

  -- whether the ring under a number has the segment
  has : ℕ → Bool
  has r = has_segment a b (chain (path_of t) (uses_in (get t.rings r)))

  counted : (xs : List ℕ) → AllDifferent xs → ((r : ℕ) → Contains xs r → has r ≡ true) → ((r : ℕ) → has r ≡ true → Contains xs r) → users_of (rings_of t) a b ≡ length xs
  unfolding has
  counted xs d from to =
      let slots = map (edges_in (path_of t)) t.rings.slots in
      let slot : (j : ℕ) → passes (has_segment a b) (slice_index_or slots j None) ≡ has j = λ j. ap (passes (has_segment a b)) (mapped_slot (edges_in (path_of t)) refl t.rings.slots j) ∙ ring_passes (get t.rings j) in
      ap (λ es. count_by (has_segment a b) (map (λ e. e.1) es)) (entries_slots slots 0)
      ∙ count_slots (has_segment a b) slots 0 xs d (λ k m. (k, omega arith, slot k ∙ from k m)) (λ j h. subst (Contains xs) (omega arith) (to j (sym (slot j) ∙ h)))

  -- arc n has the segment
  pub users_here : Sound t → (n : ℕ) → 1 ≤ times a b (links (path_of t n)) → users_of (rings_of t) a b ≡ length (users_in (get t.arcs n))
  unfolding has
  users_here s n l = counted (users_in (get t.arcs n)) (s.whole.known.single n)
      (λ r m. times_segment a b (chain (path_of t) (uses_in (get t.rings r))) (chain_has a b (path_of t) n (uses_in (get t.rings r)) l (s.whole.known.used r n m)))
      (λ r h. let u = chain_uses a b (path_of t) (uses_in (get t.rings r)) (segment_times a b (chain (path_of t) (uses_in (get t.rings r))) h) in
      s.whole.known.users r n (subst (λ z. uses_arc z (uses_in (get t.rings r)) ≡ true) (s.once.apart a b u.0 n u.2 l) u.1))

  -- no arc has the segment
  pub users_nowhere : ((n : ℕ) → times a b (links (path_of t n)) ≡ 0) → users_of (rings_of t) a b ≡ 0
  unfolding has
  users_nowhere none = counted [] tt (λ r m. absurd (omega (arith, m.1)))
      (λ r h. let u = chain_uses a b (path_of t) (uses_in (get t.rings r)) (segment_times a b (chain (path_of t) (uses_in (get t.rings r))) h) in absurd (omega (arith, u.2, none u.0)))
