-- The walks and rings that arcs mean are those that the reader gives.
use Rattle.kit_words.proofs.Common.{◌≡◌, ℕ, ◌-◌, ◌≤◌, Bool, true, false, List, [], ◌∷◌, ◌++◌, length, take, refl, sym}
use Rattle.kit_words.proofs.Common.{ap, ◌∙◌, subst, arith, Option, Some, None, Ok, nat_le, AllZip, flat_map, false≢true}
use Rattle.kit_words.proofs.Common.{reverse-append, flat_map-cons, take-append_seam, and_parts, le-leb, leb-true}
use Rattle.std.proofs.Common.{length-append}
use Rattle.grid_geometry.specs.Common.{Position, position_eq}
use Rattle.ring_machine.specs.Common.{canonical}
use Rattle.ring_machine.proofs.Common.{position_eq-true, position_eq-refl}
use Rattle.topo_outline.specs.declared.fault.RingAt.{RingAt}
use Rattle.topo_outline.specs.Common.{arcs_do_not_meet, ring_short}
use Rattle.topo_reader.specs.Common.{Closed, Rings, Walks, Arc, first_of, last_of, meet_from, ends, meet, unless}
use Rattle.topo_reader.specs.Common.{squeezed, last_after, front, all_of, joined, first_repeat, distinct, simple}
use Rattle.topo_reader.specs.Common.{walk_of, ring_of, closed_of, polygon_of, feature_of, all_rings, Polygons, Leads}
use Rattle.topo_reader.specs.Common.{Chain, there, along, Once, none, last, same, next, IsWalk, nowhere, around, IsRing}
use Rattle.topo_reader.specs.Common.{IsClosed, AreClosed}
use Rattle.topo_reader.proofs.Repeats.{none_again, no_repeat, Differ, differ, distinct_of, not_equal}
use Rattle.topo_reader.proofs.Steps.{bind_ok, demand_ok, ok_same, each_at_of, of_each_at}

-- ---- equal neighbours taken once

-- what is kept after p
once_after : {p : Position} {ps qs : List Position} → Once (p ∷ ps) qs → p ∷ squeezed (Some p) ps ≡ qs
unfolding squeezed
once_after last = refl
once_after (same {p = p} {ps = ps} o) = rw (position_eq-refl p) (once_after o)
once_after (next {p = p} {q = q} apart o) = rw (not_equal p q apart) (ap (λ rs. p ∷ rs) (once_after o))

pub once_squeezed : (ps qs : List Position) → Once ps qs → squeezed None ps ≡ qs
unfolding squeezed
once_squeezed [] qs none = refl
once_squeezed (p ∷ ps) qs o = once_after o

is_once_after : (p : Position) (ps : List Position) → Once (p ∷ ps) (p ∷ squeezed (Some p) ps)
unfolding squeezed
is_once_after p [] = last
is_once_after p (q ∷ ps) = by (position_eq p q) refl (is_once_after q ps)
  where
    by : (b : Bool) → position_eq p q ≡ b → Once (q ∷ ps) (q ∷ squeezed (Some q) ps) → Once (p ∷ q ∷ ps) (p ∷ (unless b q ++ squeezed (Some q) ps))
    by true e o = subst (λ r. Once (p ∷ r ∷ ps) (p ∷ squeezed (Some r) ps)) (position_eq-true p q e) (same (subst (λ r. Once (r ∷ ps) (r ∷ squeezed (Some r) ps)) (sym (position_eq-true p q e)) o))
    by false e o = next (λ eq. false≢true (sym e ∙ (ap (position_eq p) (sym eq) ∙ position_eq-refl p))) o

is_once : (ps : List Position) → Once ps (squeezed None ps)
unfolding squeezed
is_once [] = none
is_once (p ∷ ps) = is_once_after p ps

-- ---- the last one

front_of : (ps : List Position) (p : Position) → front (ps ++ p ∷ []) ≡ ps
front_of ps p =
    let e : length (ps ++ p ∷ []) - 1 ≡ length ps = omega (arith, length-append ps (p ∷ [])) in
    ap (λ n. take n (ps ++ p ∷ [])) e ∙ take-append_seam ps (p ∷ [])

-- a list with a last position is its front and that
ends_with : (q p : Position) (ps : List Position) → last_after (Some q) ps ≡ Some p → (zs : List Position) × (q ∷ ps ≡ zs ++ p ∷ [])
unfolding last_after
ends_with q p [] h = ([], ap (λ r. r ∷ []) (some_same h))
  where
    some_same : Some q ≡ Some p → q ≡ p
    some_same e = cc
ends_with q p (r ∷ ps) h = let rest = ends_with r p ps h in (q ∷ rest.0, ap (λ rs. q ∷ rs) rest.1)

last_squeezed : (before : Option Position) (ps : List Position) → last_after before (squeezed before ps) ≡ last_after before ps
unfolding squeezed last_after
last_squeezed before [] = refl
last_squeezed None (p ∷ ps) = last_squeezed (Some p) ps
last_squeezed (Some q) (p ∷ ps) = grind (arith, last_squeezed (Some p) ps, position_eq-true q p)

last_append : (before : Option Position) (xs ys : List Position) → last_after before (xs ++ ys) ≡ last_after (last_after before xs) ys
unfolding last_after
last_append before [] ys = refl
last_append before (x ∷ xs) ys = last_append (Some x) xs ys

-- ---- arcs that meet

leads : (p : Position) (ps : List Position) → (q : Position) × Leads p (p ∷ ps) q
leads p [] = (p, record { after = []; until = []; begins = refl; ends = refl })
leads p (q ∷ ps) =
    let rest = leads q ps in
    (rest.0, record { after = q ∷ ps; until = p ∷ rest.1.until; begins = refl; ends = ap (λ qs. p ∷ qs) rest.1.ends })

first_is : {p : Position} {a : Arc} {q : Position} → Leads p a q → first_of a ≡ Some p
first_is l = ap first_of l.begins

last_is : {p : Position} {a : Arc} {q : Position} → Leads p a q → last_of a ≡ Some q
last_is {q = q} l = ap last_of l.ends ∙ ap first_of (reverse-append l.until (q ∷ []))

last_along : {p : Position} {a : Arc} {q : Position} (before : Option Position) → Leads p a q → last_after before a ≡ Some q
unfolding last_after
last_along {q = q} before l = ap (last_after before) l.ends ∙ last_append before l.until (q ∷ [])

chain_meets : {p : Position} {uses : List Arc} {q : Position} → Chain p uses q → (meet_from (Some p) uses ≡ true) × (ends (Some p) uses ≡ Some q)
unfolding meet_from ends
chain_meets there = (refl, refl)
chain_meets (along {p = p} l c) =
    let rest = chain_meets c in
    (rw (first_is l, last_is l, position_eq-refl p) rest.0, rw (last_is l) rest.1)

chain_joined : {p : Position} {uses : List Arc} {q : Position} → Chain p uses q → last_after (Some p) (all_of uses) ≡ Some q
unfolding all_of last_after
chain_joined there = refl
chain_joined (along {p = p} {a = a} {as' = as'} l c) =
    last_append (Some p) a (all_of as') ∙ ap (λ o. last_after o (all_of as')) (last_along (Some p) l) ∙ chain_joined c

closed_meets : {p q : Position} {uses : List Arc} → Chain p uses q → p ≡ q → meet uses ≡ true
unfolding meet_from ends
closed_meets there e = refl
closed_meets {p = p} {q = q} (along {a = a} {as' = as'} l c) e =
    let whole = chain_meets (along l c) in
    ap (λ o. meet_from o (a ∷ as')) (whole.1 ∙ ap (λ r. Some r) (sym e)) ∙ whole.0

meets_chain : (p : Position) (uses : List Arc) → meet_from (Some p) uses ≡ true → (q : Position) × Chain p uses q × (ends (Some p) uses ≡ Some q)
unfolding meet_from ends
meets_chain p [] h = (p, there, refl)
meets_chain p ([] ∷ as') h = absurd (false≢true h)
meets_chain p ((r ∷ ps) ∷ as') h =
    let two = and_parts (position_eq p r) (meet_from (last_of (r ∷ ps)) as') h in
    let one = leads r ps in
    let rest = meets_chain one.0 as' (ap (λ o. meet_from o as') (sym (last_is one.1)) ∙ two.1) in (
      rest.0,
      subst (λ s. Chain s ((r ∷ ps) ∷ as') rest.0) (sym (position_eq-true p r two.0)) (along one.1 rest.1),
      ap (λ o. ends o as') (last_is one.1) ∙ rest.2,
    )

none_before : (a : Arc) (as' : List Arc) → meet_from None (a ∷ as') ≡ true → ⊥
unfolding meet_from
none_before [] as' h = false≢true h
none_before (p ∷ ps) as' h = false≢true h

is_closed : (a : Arc) (as' : List Arc) → meet (a ∷ as') ≡ true → (s : Position) × Chain s (a ∷ as') s
unfolding meet_from ends
is_closed a as' h = by (ends (last_of a) as') refl h
  where
    some_same : (p q : Position) → ◌≡◌ {A = Option Position} (Some p) (Some q) → p ≡ q
    some_same p q e = cc

    by : (o : Option Position) → ends (last_of a) as' ≡ o → meet_from o (a ∷ as') ≡ true → (s : Position) × Chain s (a ∷ as') s
    by None e met = absurd (none_before a as' met)
    by (Some s) e met =
        let found = meets_chain s (a ∷ as') met in
        (s, subst (λ q. Chain s (a ∷ as') q) (some_same found.0 s (sym found.2 ∙ e)) found.1)

-- ---- a closed chain

pub all_is : (uses : List Arc) → all_of uses ≡ flat_map (λ a. a) uses
unfolding all_of
all_is [] = refl
all_is (a ∷ uses) = ap (λ ps. a ++ ps) (all_is uses) ∙ sym (flat_map-cons (λ (b : Arc). b) a uses)

pub begins_with : {s : Position} {a : Arc} {as' : List Arc} {q : Position} → Chain s (a ∷ as') q → (rest : List Position) × (all_of (a ∷ as') ≡ s ∷ rest)
unfolding all_of
begins_with (along {as' = as'} l c) = (l.after ++ all_of as', ap (λ ps. ps ++ all_of as') l.begins)

closes : (s : Position) (rest whole : List Position) → whole ≡ s ∷ rest → last_after (Some s) whole ≡ Some s → squeezed None whole ≡ front (squeezed None whole) ++ s ∷ []
unfolding squeezed last_after
closes s rest whole e h = subst (λ w. last_after (Some s) w ≡ Some s → squeezed None w ≡ front (squeezed None w) ++ s ∷ []) (sym e) by h
  where
    by : last_after (Some s) rest ≡ Some s → s ∷ squeezed (Some s) rest ≡ front (s ∷ squeezed (Some s) rest) ++ s ∷ []
    by last_of_rest =
        let parts = ends_with s s (squeezed (Some s) rest) (last_squeezed (Some s) rest ∙ last_of_rest) in
        parts.1 ∙ ap (λ ps. ps ++ s ∷ []) (sym (ap front parts.1 ∙ front_of parts.0 s))

closed_once : {s : Position} {a : Arc} {as' : List Arc} → Chain s (a ∷ as') s → Once (flat_map (λ b. b) (a ∷ as')) (joined (a ∷ as') ++ s ∷ [])
closed_once {s = s} {a = a} {as' = as'} c =
    let first = begins_with c in
    subst (λ ps. Once ps (joined (a ∷ as') ++ s ∷ [])) (all_is (a ∷ as'))
    (subst (λ qs. Once (all_of (a ∷ as')) qs) (closes s first.0 (all_of (a ∷ as')) first.1 (chain_joined c)) (is_once (all_of (a ∷ as'))))

-- ---- one walk

pub walk_read : (at_ring : RingAt) (uses : List Arc) (walk : List Position) → IsWalk uses walk → walk_of at_ring uses ≡ Ok walk
unfolding walk_of meet_from ends all_of squeezed
walk_read at_ring [] [] nowhere = refl
walk_read at_ring uses walk (around {start = start} c o) =
    let is : joined uses ≡ walk =
    ap front (ap (squeezed None) (all_is uses) ∙ once_squeezed (flat_map (λ a. a) uses) (walk ++ start ∷ []) o) ∙ front_of walk start in
    rw (closed_meets c refl, is) refl

no_arcs : joined [] ≡ []
unfolding all_of squeezed
no_arcs = refl

closed_walk : (uses : List Arc) → meet uses ≡ true → IsWalk uses (joined uses)
closed_walk [] met = subst (λ ps. IsWalk [] ps) (sym no_arcs) nowhere
closed_walk (a ∷ as') met = let chain = is_closed a as' met in around chain.1 (closed_once chain.1)

pub walk_meant : (at_ring : RingAt) (uses : List Arc) (walk : List Position) → walk_of at_ring uses ≡ Ok walk → IsWalk uses walk
unfolding walk_of
walk_meant at_ring uses walk h =
    let met = demand_ok (meet uses) (arcs_do_not_meet at_ring) (Ok (joined uses)) walk h in
    subst (λ ps. IsWalk uses ps) (ok_same (joined uses) walk met.1) (closed_walk uses met.0)

-- ---- one ring

pub ring_read : (at_ring : RingAt) (uses : List Arc) (ring : List Position) → IsRing uses ring → ring_of at_ring uses ≡ Ok ring
unfolding ring_of
ring_read at_ring uses ring r =
    let new : first_repeat [] r.corners ≡ None = no_repeat [] r.corners (distinct_of r.corners r.different, λ q h. absurd (false≢true h)) in
    rw (walk_read at_ring uses r.corners (around r.closed r.once), le-leb 3 (length r.corners) r.long, new, r.turned) refl

pub long_ring : {uses : List Arc} {walk ring : List Position} → IsWalk uses walk → 3 ≤ length walk → Differ walk → ring ≡ canonical walk → IsRing uses ring
long_ring nowhere long different turned = absurd (omega (arith, long))
long_ring (around {start = start} {walk = walk} c o) long different turned = record {
  start = start;
  corners = walk;
  closed = c;
  once = o;
  long = long;
  different = different;
  turned = turned;
}

-- a walk that is simple is a ring
simple_ring : (at_ring : RingAt) (uses : List Arc) (walk ring : List Position) → IsWalk uses walk → simple at_ring walk ≡ Ok ring → IsRing uses ring
simple_ring at_ring uses walk ring w h =
    let long = demand_ok (nat_le 3 (length walk)) (ring_short at_ring) (distinct at_ring walk (first_repeat [] walk)) ring h in
    by (first_repeat [] walk) refl (leb-true 3 (length walk) long.0) long.1
  where
    by : (o : Option Position) → first_repeat [] walk ≡ o → 3 ≤ length walk → distinct at_ring walk o ≡ Ok ring → IsRing uses ring
    by (Some p) e l d = absurd cc
    by None e l d = long_ring w l (differ walk (none_again [] walk e).0) (sym (ok_same (canonical walk) ring d))

pub ring_meant : (at_ring : RingAt) (uses : List Arc) (ring : List Position) → ring_of at_ring uses ≡ Ok ring → IsRing uses ring
unfolding ring_of
ring_meant at_ring uses ring h =
    let walk = bind_ok (walk_of at_ring uses) (simple at_ring) ring h in
    simple_ring at_ring uses walk.0 ring (walk_meant at_ring uses walk.0 walk.1) walk.2

-- ---- all of them

closed_read : (closed : Closed) (at_ring : RingAt) (uses : List Arc) (ring : List Position) → IsClosed closed uses ring → closed_of closed at_ring uses ≡ Ok ring
closed_read Rings at_ring uses ring h = ring_read at_ring uses ring h
closed_read Walks at_ring uses ring h = walk_read at_ring uses ring h

closed_meant : (closed : Closed) (at_ring : RingAt) (uses : List Arc) (ring : List Position) → closed_of closed at_ring uses ≡ Ok ring → IsClosed closed uses ring
closed_meant Rings at_ring uses ring h = ring_meant at_ring uses ring h
closed_meant Walks at_ring uses ring h = walk_meant at_ring uses ring h

module _ (closed : Closed) where
  abbrev Are : List (List (List Arc)) → Polygons → Type 0
  Are uses polygons = AreClosed (IsClosed closed) uses polygons

  polygon_read : (f p : ℕ) (uses : List (List Arc)) (rings : List (List Position)) → AllZip (IsClosed closed) uses rings → polygon_of closed f p uses ≡ Ok rings
  unfolding polygon_of
  polygon_read f p uses rings h = each_at_of (IsClosed closed) (λ r. closed_of closed (record { feature = f; polygon = p; ring = r })) (λ i a b. closed_read closed (record { feature = f; polygon = p; ring = i }) a b) 0 uses rings h

  feature_read : (f : ℕ) (uses : List (List (List Arc))) (polygons : Polygons) → Are uses polygons → feature_of closed f uses ≡ Ok polygons
  unfolding feature_of
  feature_read f uses polygons h = each_at_of (AllZip (IsClosed closed)) (polygon_of closed f) (polygon_read f) 0 uses polygons h

  pub rings_of : (uses : List (List (List (List Arc)))) (polygons : List Polygons) → AllZip Are uses polygons → all_rings closed uses ≡ Ok polygons
  unfolding all_rings
  rings_of uses polygons h = each_at_of Are (feature_of closed) feature_read 0 uses polygons h

  polygon_meant : (f p : ℕ) (uses : List (List Arc)) (rings : List (List Position)) → polygon_of closed f p uses ≡ Ok rings → AllZip (IsClosed closed) uses rings
  unfolding polygon_of
  polygon_meant f p uses rings h = of_each_at (IsClosed closed) (λ r. closed_of closed (record { feature = f; polygon = p; ring = r })) (λ i a b. closed_meant closed (record { feature = f; polygon = p; ring = i }) a b) 0 uses rings h

  feature_meant : (f : ℕ) (uses : List (List (List Arc))) (polygons : Polygons) → feature_of closed f uses ≡ Ok polygons → Are uses polygons
  unfolding feature_of
  feature_meant f uses polygons h = of_each_at (AllZip (IsClosed closed)) (polygon_of closed f) (polygon_meant f) 0 uses polygons h

  pub are_rings : (uses : List (List (List (List Arc)))) (polygons : List Polygons) → all_rings closed uses ≡ Ok polygons → AllZip Are uses polygons
  unfolding all_rings
  are_rings uses polygons h = of_each_at Are (feature_of closed) feature_meant 0 uses polygons h
