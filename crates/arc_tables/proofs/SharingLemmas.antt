-- The rings that have a segment in common with a ring: those of its arcs that have a segment.
use Rattle.kit_words.proofs.Common.{◌≡◌, ℕ, ◌≤◌, true, false, refl, sym, subst, arith, inl, inr, List, [], ◌∷◌, ◌++◌}
use Rattle.kit_words.proofs.Common.{Contains, ◌==◌, flat_map, false≢true, or_left, or_right, or_cases, Decides-eqb}
use Rattle.kit_words.proofs.Common.{Contains-append_cases, Contains-append_left, Contains-append_right}
use Rattle.slab.specs.Slab.{Slab, get}
use Rattle.arc_tables.specs.Common.{Use, Arc, Tables, links, times, path_of, users_in, uses_in, uses_arc, rings_of}
use Rattle.arc_tables.specs.Common.{Sound, ListsSharing, where_some, sharers_in}
use Rattle.arc_tables.proofs.Inserting.{placed}
use Rattle.arc_tables.proofs.UserLemmas.{arc_used, has_used}

-- a path with a segment has its first
first_segment : (path users : List ℕ) (x : ℕ) → Contains (where_some path users) x
    → (a : ℕ) × (b : ℕ) × (1 ≤ times a b (links path)) × Contains users x
first_segment [] users x m = absurd (omega (arith, m.1))
first_segment (p ∷ []) users x m = absurd (omega (arith, m.1))
first_segment (p ∷ q ∷ path) users x m = (p, q, placed p q 0 false (p ∷ q ∷ path) (record { within = omega arith; here = refl; next = refl }), m)

where_segment : (path users : List ℕ) (a b x : ℕ) → 1 ≤ times a b (links path) → Contains users x
    → Contains (where_some path users) x
where_segment [] users a b x l m = absurd (omega arith)
where_segment (p ∷ []) users a b x l m = absurd (omega arith)
where_segment (p ∷ q ∷ path) users a b x l m = m

module _ {A : Type 0} where
  -- the rings of the arcs of these uses that have a segment
  abbrev pub sharers : Slab (Arc A) → List Use → List ℕ
  sharers arcs us = flat_map (λ u. sharers_in (get arcs u.arc)) us

  sharers_from : (arcs : Slab (Arc A)) (us : List Use) (x : ℕ) → Contains (sharers arcs us) x
      → (n : ℕ) × (uses_arc n us ≡ true) × Contains (sharers_in (get arcs n)) x
  sharers_from arcs [] x m = absurd (omega (arith, m.1))
  sharers_from arcs (u ∷ us) x m = elim (Contains-append_cases (sharers_in (get arcs u.arc)) (sharers arcs us) x m) [
    | inl h ↦ (u.arc, or_left (u.arc == u.arc) (uses_arc u.arc us) ((Decides-eqb u.arc u.arc).1 refl), h)
    | inr h ↦ let n = sharers_from arcs us x h in (n.0, or_right (u.arc == n.0) (uses_arc n.0 us) n.1, n.2)
  ]

  sharers_to : (arcs : Slab (Arc A)) (us : List Use) (n x : ℕ) → uses_arc n us ≡ true
      → Contains (sharers_in (get arcs n)) x → Contains (sharers arcs us) x
  sharers_to arcs [] n x h m = absurd (false≢true h)
  sharers_to arcs (u ∷ us) n x h m = elim (or_cases (u.arc == n) (uses_arc n us) h) [
    | inl e ↦ Contains-append_left (sharers_in (get arcs u.arc)) (sharers arcs us) x (subst (λ z. Contains (sharers_in (get arcs z)) x) (sym ((Decides-eqb u.arc n).0 e)) m)
    | inr k ↦ Contains-append_right (sharers_in (get arcs u.arc)) (sharers arcs us) x (sharers_to arcs us n x k m)
  ]

  -- the rings of all arcs of ring r
  pub sharing_listed : (t : Tables A) → Sound t → (r : ℕ) (old new : List ℕ)
      → new ≡ old ++ sharers t.arcs (uses_in (get t.rings r)) → ListsSharing (rings_of t) r old new
  sharing_listed t s r old new e = record {
    found = sharers t.arcs (uses_in (get t.rings r));
    appended = e;
    all = λ x. (
      λ m.
          let n = sharers_from t.arcs (uses_in (get t.rings r)) x m in
          let f = first_segment (path_of t n.0) (users_in (get t.arcs n.0)) x n.2 in
          record {
            a = f.0;
            b = f.1;
            one = has_used t f.0 f.1 s n.0 r f.2 n.1;
            other = has_used t f.0 f.1 s n.0 x f.2 (s.whole.known.used x n.0 f.3);
          },
      λ h.
          let n = arc_used t h.a h.b r h.one in
          let m = arc_used t h.a h.b x h.other in
          let same : m.0 ≡ n.0 = s.once.apart h.a h.b m.0 n.0 m.2 n.2 in
          sharers_to t.arcs (uses_in (get t.rings r)) n.0 x n.1
          (where_segment (path_of t n.0) (users_in (get t.arcs n.0)) h.a h.b x n.2
          (s.whole.known.users x n.0 (subst (λ z. uses_arc z (uses_in (get t.rings x)) ≡ true) same m.1))),
    );
  }
