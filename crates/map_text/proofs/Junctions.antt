-- Rings that are cut at junctions: what they are cut into are pieces, where a ring without junction
-- counts as cut at its first position.
use Rattle.kit_words.proofs.Common.{◌≡◌, ◌≤◌, Bool, true, false, refl, sym, ap, ap₂, ◌∙◌, subst, cond, List, [], ◌∷◌}
use Rattle.kit_words.proofs.Common.{◌++◌, ◌||◌, inl, inr, arith, length, not, nat_le, AllByRecursion, list_any}
use Rattle.kit_words.proofs.Common.{false≢true, length-append, and_parts, or_right, or_parts, not-true}
use Rattle.grid_geometry.specs.Common.{Position, position_eq, position_lt, Segment}
use Rattle.ring_machine.specs.Common.{segment_of, has, is_distinct, is_ring, begins_least}
use Rattle.ring_machine.proofs.Common.{position_lt-asym, position_lt-irrefl, same_ends, In, in_left, in_right, Rotated}
use Rattle.ring_machine.proofs.Common.{rotated-trans, rotated_distinct, none_in, all_in, has-in, in-has, IsPiece}
use Rattle.ring_machine.proofs.Common.{in_recursion}
use Rattle.ring_machine.proofs.StaysProper.{at_least}
use Rattle.map_text.specs.Common.{before_first, from_first, begun, cut_round, pieces}
use Rattle.map_text.proofs.Lists.{rotated-sym, in_rotated}
use Rattle.map_text.proofs.Cuts.{AllTriples, GoesOn, Marked, cut_pieces}
use Rattle.map_text.proofs.Around.{placed, all_triples, other_end, ends_other}

-- ---- rings

pub record Ring (ps : List Position) : Type 0 where
  pub long : 3 ≤ length ps
  pub distinct : is_distinct ps ≡ true
  pub least : begins_least ps ≡ true

pub ring_parts : (ps : List Position) → is_ring ps ≡ true → Ring ps
ring_parts ps h =
    let a = and_parts (nat_le 3 (length ps)) _ h in
    let b = and_parts (is_distinct ps) (begins_least ps) a.1 in
    record { long = at_least (length ps) a.0; distinct = b.0; least = b.1 }

-- ---- where a ring is begun

both_parts : (j : Position → Bool) (ps : List Position) → before_first j ps ++ from_first j ps ≡ ps
both_parts j [] = refl
both_parts j (p ∷ ps) = grind (arith, both_parts j ps)

pub begun_rotated : (j : Position → Bool) (ps : List Position) → Rotated ps (begun j ps)
begun_rotated j ps = record { us = before_first j ps; vs = from_first j ps; from = sym (both_parts j ps); to = refl }

pub record BeginsAt (j : Position → Bool) (ps : List Position) : Type 0 where
  pub q : Position
  pub qs : List Position
  pub is : ps ≡ q ∷ qs
  pub at : j q ≡ true

from_found : (j : Position → Bool) (ps : List Position) → list_any j ps ≡ true → BeginsAt j (from_first j ps)
from_found j [] h = absurd (false≢true h)
from_found j (p ∷ ps) h = by (j p) refl h (from_found j ps)
  where
    by : (b : Bool) → j p ≡ b → (b || list_any j ps) ≡ true → (list_any j ps ≡ true → BeginsAt j (from_first j ps)) → BeginsAt j (cond b (p ∷ ps) (from_first j ps))
    by true e k f = record { q = p; qs = ps; is = refl; at = e }
    by false e k f = f k

pub begun_found : (j : Position → Bool) (ps : List Position) → list_any j ps ≡ true → BeginsAt j (begun j ps)
begun_found j ps h = let r = from_found j ps h in record { q = r.q; qs = r.qs ++ before_first j ps; is = ap (λ z. z ++ before_first j ps) r.is; at = r.at }

pub begun_none : (j : Position → Bool) (ps : List Position) → list_any j ps ≡ false → begun j ps ≡ ps
begun_none j ps h = let r = go ps h in ap₂ (λ y z. y ++ z) r.0 r.1
  where
    go : (qs : List Position) → list_any j qs ≡ false → (from_first j qs ≡ []) × (before_first j qs ≡ qs)
    go [] k = (refl, refl)
    go (q ∷ qs) k =
        let n = or_parts (j q) (list_any j qs) k in
        let r = go qs n.1 in
        (ap (λ b. cond b (q ∷ qs) (from_first j qs)) n.0 ∙ r.0, ap (λ b. cond b [] (q ∷ before_first j qs)) n.0 ∙ ap (λ z. q ∷ z) r.1)

-- ---- the first positions of rings without junction

abbrev pub firsts_of : (Position → Bool) → List (List Position) → List Position
firsts_of j [] = []
firsts_of j ([] ∷ rs) = firsts_of j rs
firsts_of j ((p ∷ ps) ∷ rs) = cond (list_any j (p ∷ ps)) (firsts_of j rs) (p ∷ firsts_of j rs)

first_ring : (j : Position → Bool) (m : Position) (rs : List (List Position)) → In m (firsts_of j rs) → (ps : List Position) × In (m ∷ ps) rs × (list_any j (m ∷ ps) ≡ false)
first_ring j m [] i = absurd i
first_ring j m ([] ∷ rs) i = let r = first_ring j m rs i in (r.0, inr r.1, r.2)
first_ring j m ((p ∷ ps) ∷ rs) i = by (list_any j (p ∷ ps)) refl i (first_ring j m rs)
  where
    by : (b : Bool) → list_any j (p ∷ ps) ≡ b → In m (cond b (firsts_of j rs) (p ∷ firsts_of j rs)) → (In m (firsts_of j rs) → (qs : List Position) × In (m ∷ qs) rs × (list_any j (m ∷ qs) ≡ false)) → (qs : List Position) × In (m ∷ qs) ((p ∷ ps) ∷ rs) × (list_any j (m ∷ qs) ≡ false)
    by true e k f = let r = f k in (r.0, inr r.1, r.2)
    by false e (inl k) f = (ps, inl (ap (λ z. z ∷ ps) k), ap (λ z. list_any j (z ∷ ps)) (sym k) ∙ e)
    by false e (inr k) f = let r = f k in (r.0, inr r.1, r.2)

ring_first : (j : Position → Bool) (m : Position) (ps : List Position) (rs : List (List Position)) → In (m ∷ ps) rs → list_any j (m ∷ ps) ≡ false → In m (firsts_of j rs)
ring_first j m ps [] i h = absurd i
ring_first j m ps ([] ∷ rs) (inl e) h = absurd cc
ring_first j m ps ([] ∷ rs) (inr i) h = ring_first j m ps rs i h
ring_first j m ps ((p ∷ qs) ∷ rs) (inl e) h =
    let f : p ≡ m = cc in
    subst (λ b. In m (cond b (firsts_of j rs) (p ∷ firsts_of j rs))) (sym (ap (list_any j) e ∙ h)) (inl f)
ring_first j m ps ((p ∷ qs) ∷ rs) (inr i) h = by (list_any j (p ∷ qs)) (ring_first j m ps rs i h)
  where
    by : (b : Bool) → In m (firsts_of j rs) → In m (cond b (firsts_of j rs) (p ∷ firsts_of j rs))
    by true k = k
    by false k = inr k

-- ---- rings that meet where no junction is

-- j is the test for junctions, and nb the neighbours of a position that is none
module _ (j : Position → Bool) (nb : Position → Segment) (rs : List (List Position)) (are : (ring : List Position) → In ring rs → Ring ring)
    (fact : (ring : List Position) → In ring rs → (u v x : Position) (rest : List Position) → Rotated ring (u ∷ v ∷ x ∷ rest) → j v ≡ false → segment_of (u, x) ≡ nb v) where
  abbrev pub next : Position → Position → Position
  next u v = other_end u (nb v)

  -- the ring other has no junction
  module _ (other : List Position) (io : In other rs) (free : list_any j other ≡ false) where
    -- a ring that is at a position of other stays in it
    stays : (ring : List Position) → In ring rs → (u v x : Position) (rest : List Position) → Rotated ring (u ∷ v ∷ x ∷ rest) → In v other → In x other
    stays ring i u v x rest r h =
        let p = placed v other (are other io).long h in
        let n = none_in j other v free h in
        let e : segment_of (u, x) ≡ segment_of (p.u, p.x) = fact ring i u v x rest r n ∙ sym (fact other io p.u v p.x p.rest p.turned n) in
        elim (same_ends (u, x) (p.u, p.x) e) [
          | inl s ↦ subst (λ z. In z other) s.1 (in_rotated p.x (p.u ∷ v ∷ p.x ∷ p.rest) other (rotated-sym p.turned) (inr (inr (inl refl))))
          | inr s ↦ subst (λ z. In z other) s.0 (in_rotated p.u (p.u ∷ v ∷ p.x ∷ p.rest) other (rotated-sym p.turned) (inl refl))
        ]

    walk : (a b : Position) (ws : List Position) → AllTriples (λ u v x. In v other → In x other) (a ∷ b ∷ ws) → In b other → AllByRecursion (λ w. In w other) ws
    walk a b [] t h = tt
    walk a b (x ∷ ws) t h = (t.0 h, walk b x ws t.1 (t.0 h))

    spread : (ring : List Position) → In ring rs → (v w : Position) → In v ring → In v other → In w ring → In w other
    spread ring i v w iv h iw =
        let p = placed v ring (are ring i).long iv in
        let l : 2 ≤ length (v ∷ p.x ∷ p.rest) = omega arith in
        let t = all_triples (λ a b c. In b other → In c other) p.u (v ∷ p.x ∷ p.rest) l (λ a b c rest r. stays ring i a b c rest (trans p.turned r)) in
        let all = walk p.u v (p.x ∷ p.rest ++ p.u ∷ []) t h in
        here p.u p.x p.rest all (in_rotated w ring (p.u ∷ v ∷ p.x ∷ p.rest) p.turned iw)
      where
        trans : {ys zs : List Position} → Rotated ring ys → Rotated ys zs → Rotated ring zs
        trans r s = rotated-trans _ _ _ r s

        here : (u x : Position) (rest : List Position) → AllByRecursion (λ z. In z other) (x ∷ rest ++ u ∷ []) → In w (u ∷ v ∷ x ∷ rest) → In w other
        here u x rest all (inl e) = subst (λ z. In z other) e (in_recursion (λ z. In z other) (x ∷ rest ++ u ∷ []) u all (in_right u (x ∷ rest) (u ∷ []) (inl refl)))
        here u x rest all (inr (inl e)) = subst (λ z. In z other) e h
        here u x rest all (inr (inr k)) = in_recursion (λ z. In z other) (x ∷ rest ++ u ∷ []) w all (in_left w (x ∷ rest) (u ∷ []) k)

  -- where pieces end
  abbrev pub k : Position → Bool
  k p = j p || has (firsts_of j rs) p

  -- on the way round from q no other position is the first of a ring without junction
  no_first : (ring : List Position) → In ring rs → (q : Position) (qs : List Position) → begun j ring ≡ q ∷ qs → (v : Position) → In v qs → has (firsts_of j rs) v ≡ true → ⊥
  no_first ring i q qs e v iv h =
      let f = first_ring j v rs (has-in v (firsts_of j rs) h) in
      let r : Rotated ring (q ∷ qs) = subst (Rotated ring) e (begun_rotated j ring) in
      let there = spread (v ∷ f.0) f.1 f.2 ring i v q (in_rotated v (q ∷ qs) ring (rotated-sym r) (inr iv)) (inl refl) (in_rotated q (q ∷ qs) ring (rotated-sym r) (inl refl)) in
      by f.0 f.1 f.2 there (list_any j ring) refl
    where
      by : (ps : List Position) → In (v ∷ ps) rs → list_any j (v ∷ ps) ≡ false → In q (v ∷ ps) → (b : Bool) → list_any j ring ≡ b → ⊥
      by ps iv' n there true t =
          let g = begun_found j ring t in
          let same : g.q ≡ q = let m = sym g.is ∙ e in cc in
          false≢true (sym (none_in j (v ∷ ps) q n there) ∙ ap j (sym same) ∙ g.at)
      by ps iv' n there false t =
          let is : ring ≡ q ∷ qs = sym (begun_none j ring t) ∙ e in
          let low = all_in (position_lt q) qs v (ap begins_least (sym is) ∙ (are ring i).least) iv in
          elim there [
            | inl s ↦ false≢true (sym (position_lt-irrefl q) ∙ ap (position_lt q) (sym s) ∙ low)
            | inr s ↦ false≢true (sym (position_lt-asym q v low) ∙ all_in (position_lt v) ps q (are (v ∷ ps) iv').least s)
          ]

  first_marked : (ring : List Position) → In ring rs → (q : Position) (qs : List Position) → begun j ring ≡ q ∷ qs → k q ≡ true
  first_marked ring i q qs e = by (list_any j ring) refl
    where
      by : (b : Bool) → list_any j ring ≡ b → k q ≡ true
      by true t =
          let g = begun_found j ring t in
          let same : g.q ≡ q = let m = sym g.is ∙ e in cc in
          ap (λ c. c || has (firsts_of j rs) q) (ap j (sym same) ∙ g.at)
      by false t =
          let is : ring ≡ q ∷ qs = sym (begun_none j ring t) ∙ e in
          or_right (j q) (has (firsts_of j rs) q) (in-has q (firsts_of j rs) (ring_first j q qs rs (subst (λ z. In z rs) is i) (ap (list_any j) (sym is) ∙ t)))

  marked : (q : Position) (qs : List Position) → ((v : Position) → In v qs → j v ≡ k v) → k q ≡ true → Marked j k next (qs ++ q ∷ [])
  marked q [] h e = e
  marked q (v ∷ []) h e = (h v (inl refl), e)
  marked q (v ∷ w ∷ ws) h e = (h v (inl refl), marked q (w ∷ ws) (λ x i. h x (inr i)) e)

  distinct_ends : (u v x : Position) (rest : List Position) → is_distinct (u ∷ v ∷ x ∷ rest) ≡ true → position_eq u x ≡ false
  distinct_ends u v x rest d = (or_parts (position_eq u x) _ (or_parts (position_eq u v) _ (not-true _ (and_parts (not (has (v ∷ x ∷ rest) u)) _ d).0)).1).0

  goes_on : (ring : List Position) → In ring rs → (u v x : Position) (rest : List Position) → Rotated ring (u ∷ v ∷ x ∷ rest) → GoesOn j k next u v x
  goes_on ring i u v x rest r h =
      let o = ends_other u x (nb v) (distinct_ends u v x rest (rotated_distinct ring (u ∷ v ∷ x ∷ rest) r (are ring i).distinct)) (fact ring i u v x rest r (or_parts (j v) _ h).0) in
      record { free = h; on = o.0; back = o.1 }

  pub ring_pieces : (ring : List Position) → In ring rs → AllByRecursion (IsPiece k next) (pieces j ring)
  ring_pieces ring i = by (begun j ring) refl
    where
      by : (ps : List Position) → begun j ring ≡ ps → AllByRecursion (IsPiece k next) (cut_round j ps)
      by [] e = tt
      by (q ∷ []) e = absurd (omega (arith, (are ring i).long, ap length (begun_rotated j ring).from, ap length (begun_rotated j ring).to, ap length e, length-append (begun_rotated j ring).us (begun_rotated j ring).vs, length-append (begun_rotated j ring).vs (begun_rotated j ring).us))
      by (q ∷ q' ∷ qs) e =
          let r : Rotated ring (q ∷ q' ∷ qs) = subst (Rotated ring) e (begun_rotated j ring) in
          let l : 2 ≤ length (q' ∷ qs) = omega (arith, (are ring i).long, ap length r.from, ap length r.to, length-append r.us r.vs, length-append r.vs r.us) in
          cut_pieces j k next q q' (qs ++ q ∷ []) (first_marked ring i q (q' ∷ qs) e)
          (all_triples (GoesOn j k next) q (q' ∷ qs) l (λ u v x rest s. goes_on ring i u v x rest (rotated-trans ring (q ∷ q' ∷ qs) (u ∷ v ∷ x ∷ rest) r s)))
          (marked q (q' ∷ qs) (λ v iv. same v iv (j v) refl (has (firsts_of j rs) v) refl) (first_marked ring i q (q' ∷ qs) e))
        where
          same : (v : Position) → In v (q' ∷ qs) → (b : Bool) → j v ≡ b → (c : Bool) → has (firsts_of j rs) v ≡ c → j v ≡ (j v || has (firsts_of j rs) v)
          same v iv true f c g = rw f refl
          same v iv false f false g = rw (f, g) refl
          same v iv false f true g = absurd (no_first ring i q (q' ∷ qs) e v iv g)
