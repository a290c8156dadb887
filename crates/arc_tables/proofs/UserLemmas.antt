-- Which rings have a segment: those of the arc that has it.
use Rattle.kit_words.proofs.Common.{◌≡◌, ℕ, ◌≤◌, true, sym, ap, ◌∙◌, subst, arith, List, [], ◌++◌, Option, Some, None}
use Rattle.kit_words.proofs.Common.{append-nil, ◌∷◌, refl, inl, inr, length, get_or, Contains}
use Rattle.slab.specs.Slab.{get}
use Rattle.arc_tables.specs.Common.{Ring, Tables, Edge, links, chain, times, has_segment, path_of, users_in, uses_in}
use Rattle.arc_tables.specs.Common.{uses_arc, edges_in, rings_of, stand_at, Sound, HasSegment, ListsUsers}
use Rattle.arc_tables.proofs.Counting.{segment_times, times_segment, chain_has, chain_uses}
use Rattle.arc_tables.proofs.RingLemmas.{get_rings, ring_here}
use Rattle.arc_tables.proofs.CutLemmas.{present}
use Rattle.arc_tables.proofs.Different.{none_contained}
use Rattle.arc_tables.proofs.Finding.{stands_in}
use Rattle.slab.proofs.SlabLemmas.{Contains-cons_cases}

module _ {A : Type 0} where
  edges_there : (path : ℕ → List ℕ) (o : Option (Ring A)) (es : List Edge) → edges_in path o ≡ Some es
      → es ≡ chain path (uses_in o)
  edges_there path None es e = absurd cc
  edges_there path (Some r) es e = cc

  module _ (t : Tables A) (a b : ℕ) where
    -- the arcs of a ring with the segment
    pub arc_used : (r : ℕ) → HasSegment (rings_of t) a b r
        → (n : ℕ) × (uses_arc n (uses_in (get t.rings r)) ≡ true) × (1 ≤ times a b (links (path_of t n)))
    arc_used r h =
        let es = edges_there (path_of t) (get t.rings r) h.edges (sym (get_rings t r) ∙ h.held) in
        chain_uses a b (path_of t) (uses_in (get t.rings r))
        (segment_times a b (chain (path_of t) (uses_in (get t.rings r))) (ap (has_segment a b) (sym es) ∙ h.has))

    -- a ring that uses an arc with the segment has it
    pub has_used : Sound t → (n r : ℕ) → 1 ≤ times a b (links (path_of t n)) → uses_arc n (uses_in (get t.rings r)) ≡ true
        → HasSegment (rings_of t) a b r
    has_used s n r l u = record {
      edges = chain (path_of t) (uses_in (get t.rings r));
      held = ring_here t r (present n (get t.rings r) u);
      has = times_segment a b (chain (path_of t) (uses_in (get t.rings r))) (chain_has a b (path_of t) n (uses_in (get t.rings r)) l u);
    }

    -- arc n has the segment
    pub listed_here : Sound t → (n : ℕ) → 1 ≤ times a b (links (path_of t n)) → (old new users : List ℕ)
        → users ≡ users_in (get t.arcs n) → new ≡ old ++ users → ListsUsers (rings_of t) a b old new
    listed_here s n l old new users is e = record {
      found = users_in (get t.arcs n);
      appended = e ∙ ap (λ z. old ++ z) is;
      all = λ r. (
        λ m. has_used s n r l (s.whole.known.used r n m),
        λ h. let u = arc_used r h in
            s.whole.known.users r n (subst (λ z. uses_arc z (uses_in (get t.rings r)) ≡ true) (s.once.apart a b u.0 n u.2 l) u.1),
      );
      once = s.whole.known.single n;
    }

    one_alone : (xs : List ℕ) (d : ℕ) → length xs ≡ 1 → xs ≡ get_or xs 0 d ∷ []
    one_alone [] d h = absurd (omega arith)
    one_alone (x ∷ []) d h = refl
    one_alone (x ∷ y ∷ xs) d h = absurd (omega (arith, h))

    -- the one arc that a is listed for has each segment of a
    pub listed_alone : Sound t → (among : List ℕ) (d : ℕ) → among ≡ stand_at t.stands.items a → length among ≡ 1
        → (users : List ℕ) → users ≡ users_in (get t.arcs (get_or among 0 d))
        → (r : ℕ) → HasSegment (rings_of t) a b r → ListsUsers (rings_of t) a b [] users
    listed_alone s among d stand one users is r h =
        let n = get_or among 0 d in
        let alone : stand_at t.stands.items a ≡ n ∷ [] = sym stand ∙ one_alone among d one in
        let u = arc_used r h in
        let there : Contains (n ∷ []) u.0 = subst (λ z. Contains z u.0) alone (s.whole.listed u.0 a (stands_in a b (path_of t u.0) u.2)) in
        let same : n ≡ u.0 = elim (Contains-cons_cases n u.0 [] there) [ inl e ↦ e | inr m ↦ absurd (none_contained u.0 [] refl m) ] in
        listed_here s n (subst (λ z. 1 ≤ times a b (links (path_of t z))) (sym same) u.2) [] users users is refl

    -- no arc has the segment
    pub listed_nowhere : ((n : ℕ) → times a b (links (path_of t n)) ≡ 0) → (old : List ℕ)
        → ListsUsers (rings_of t) a b old old
    listed_nowhere none old = record {
      found = [];
      appended = sym (append-nil old);
      all = λ r. (
        λ m. absurd (omega (arith, m.1)),
        λ h. let u = arc_used r h in absurd (omega (arith, u.2, none u.0)),
      );
      once = tt;
    }
