-- What passes the level of a position behind it: edges of a ring that holds it, and the rings of given segments.
use Rattle.kit_words.proofs.Common.{◌≡◌, ◌<◌, ◌+◌, ◌⊎◌, ℕ, Bool, true, false, not, refl, sym, ap, ap₂, ◌∙◌, subst, cond}
use Rattle.kit_words.proofs.Common.{◌&&◌, pos, ℤ, List, [], ◌∷◌, ◌++◌, take, get_or, length, int_lt, inl, inr, arith}
use Rattle.kit_words.proofs.Common.{is_gt, false≢true, take_more, Contains}
use Rattle.grid_geometry.specs.Common.{orientation, Position, position_cmp, Edge, edges, links, is_counted}
use Rattle.grid_geometry.specs.Common.{is_odd_count, is_inside, xor, Segment, segment}
use Rattle.ring_machine.specs.Common.{Document}
use Rattle.ring_machine.proofs.Common.{In, in-append, in_left, in_right, contains_in, in_contains, xor-comm, xor-same}
use Rattle.ring_machine.proofs.Common.{xor-none}
use Rattle.map_frame.specs.declared.names.RingName.{RingName}
use Rattle.arc_store.specs.Common.{ListsRings}
use Rattle.point_queries.specs.Common.{is_behind, AreBehind, ListsUnseen, odd, ring_has}
use Rattle.point_queries.proofs.Holding.{passes_level, behind_edge, xor_through}
use Rattle.point_queries.proofs.OddRings.{has_of, of_has}
use Rattle.point_queries.proofs.Odds.{odd-some, odd-xor}
use Rattle.point_queries.proofs.Passing.{passed_edge}

-- ---- an edge and its segment

level_edge : (p a b : Position) → passes_level p (segment a b).lo (segment a b).hi ≡ passes_level p a b
level_edge p a b = by (is_gt (position_cmp a b))
  where
    either : Bool → Segment
    either t = cond t (record { lo = b; hi = a }) (record { lo = a; hi = b })

    by : (t : Bool) → passes_level p (either t).lo (either t).hi ≡ passes_level p a b
    by true = xor-comm (int_lt p.y b.y) (int_lt p.y a.y)
    by false = refl

pub behind_is : (p a b : Position) → is_behind p (segment a b) ≡ behind_edge p a b
behind_is p a b = ap₂ (λ y z. y && not z) (level_edge p a b) (passed_edge p a b)

-- ---- a ring that holds a position passes its level behind it

counted_passes : (p a b : Position) → is_counted p a b ≡ true → passes_level p a b ≡ true
counted_passes p a b h = by (int_lt p.y a.y) (int_lt p.y b.y) (orientation a b p) h
  where
    by : (u v : Bool) (s : ℤ) → cond u (cond v false (int_lt s (pos 0))) (cond v (int_lt (pos 0) s) false) ≡ true → xor u v ≡ true
    by true true s h = h
    by true false s h = refl
    by false true s h = refl
    by false false s h = h

level_links : (p a z : Position) (rest : List Position)
    → odd (λ (e : Edge). passes_level p e.0 e.1) (links (a ∷ rest ++ z ∷ [])) ≡ passes_level p a z
level_links p a z [] = xor-none (passes_level p a z)
level_links p a z (b ∷ rest) =
    ap (xor (passes_level p a b)) (level_links p b z rest) ∙ xor_through (int_lt p.y a.y) (int_lt p.y b.y) (int_lt p.y z.y)

odd_counts : (p : Position) (es : List Edge) → odd (λ (e : Edge). is_counted p e.0 e.1) es ≡ is_odd_count p es
odd_counts p [] = refl
odd_counts p (e ∷ es) = ap (xor (is_counted p e.0 e.1)) (odd_counts p es)

pub some_behind : (p : Position) (ring : List Position) → is_inside p ring ≡ true
    → (e : Edge) × In e (edges ring) × (behind_edge p e.0 e.1 ≡ true)
some_behind p [] h = absurd (false≢true h)
some_behind p (a ∷ rest) h =
    let passes = λ (e : Edge). passes_level p e.0 e.1 in
    let counts = λ (e : Edge). is_counted p e.0 e.1 in
    let es = edges (a ∷ rest) in
    let differ : odd (λ e. xor (passes e) (counts e)) es ≡ true =
    odd-xor passes counts es ∙ ap₂ xor (level_links p a a rest ∙ xor-same (int_lt p.y a.y)) (odd_counts p es ∙ h) in
    let e = odd-some (λ e. xor (passes e) (counts e)) es differ in
    (e.0, e.1, only (passes e.0) (counts e.0) (counted_passes p (e.0).0 (e.0).1) e.2)
  where
    only : (u v : Bool) → (v ≡ true → u ≡ true) → xor u v ≡ true → (u && not v) ≡ true
    only u v more h = grind arith

-- ---- the rings of segments, a segment at a time

pub behind_none : (d : Document) (p : Position) (suspects : List RingName) → AreBehind d p suspects [] []
behind_none d p suspects = record {
  among = λ name c. absurd (contains_in [] name c);
  covers = λ name s q c. absurd (contains_in [] s c);
}

in_more : {X : Type 0} (x d : X) (xs : List X) (i : ℕ) → i < length xs → In x (take (i + 1) xs) → In x (take i xs) ⊎ (x ≡ get_or xs i d)
in_more x d xs i l h =
    elim (in-append x (take i xs) (get_or xs i d ∷ []) (subst (In x) (take_more xs i d l) h)) [
      | inl k ↦ inl k
      | inr (inl e) ↦ inr (sym e)
      | inr (inr k) ↦ absurd k
    ]

module _ (d : Document) (p : Position) (suspects : List RingName) (ss : List Segment) (i : ℕ) (s other : Segment) (old : List RingName) (l : i < length ss)
    (here : s ≡ get_or ss i other) (before : AreBehind d p suspects (take i ss) old) where
  behind_more : (new : List RingName) → is_behind p s ≡ true → ListsRings d (segment s.lo s.hi) old new → AreBehind d p suspects (take (i + 1) ss) new
  behind_more new it listed = record {
    among = λ name c.
        elim (in-append name old listed.found (subst (In name) listed.appended (contains_in new name c))) [
          | inl k ↦ before.among name (in_contains old name k)
          | inr k ↦ (s, has_of d s name ((listed.all name).0 (in_contains listed.found name k)), it)
        ];
    covers = λ name t q c h k. in_contains new name (subst (In name) (sym listed.appended)
        (elim (in_more t other ss i l (contains_in (take (i + 1) ss) t c)) [
          | inl j ↦ in_left name old listed.found (contains_in old name (before.covers name t q (in_contains (take i ss) t j) h k))
          | inr e ↦
              let same : t ≡ s = e ∙ sym here in
              in_right name old listed.found (contains_in listed.found name ((listed.all name).1 (of_has d s name (subst (λ u. ring_has d name u ≡ true) same h))))
        ]));
  }

  pub behind_same : is_behind p s ≡ false → AreBehind d p suspects (take (i + 1) ss) old
  behind_same none = record {
    among = before.among;
    covers = λ name t q c h k.
        elim (in_more t other ss i l (contains_in (take (i + 1) ss) t c)) [
          | inl j ↦ before.covers name t q (in_contains (take i ss) t j) h k
          | inr e ↦ absurd (false≢true (sym none ∙ ap (is_behind p) (sym (e ∙ sym here)) ∙ k))
        ];
  }

  -- each suspect is among them already
  behind_seen : ((name : RingName) → Contains suspects name → Contains old name) → AreBehind d p suspects (take (i + 1) ss) old
  behind_seen seen = record { among = before.among; covers = λ name t q c h k. seen name q }

  pub behind_on : (new : List RingName) → is_behind p s ≡ true → ListsUnseen d s suspects old new → AreBehind d p suspects (take (i + 1) ss) new
  behind_on new it (inl listed) = behind_more new it listed
  behind_on new it (inr seen) = subst (AreBehind d p suspects (take (i + 1) ss)) (sym seen.0) (behind_seen seen.1)
