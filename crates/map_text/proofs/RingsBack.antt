-- The pieces of a ring, joined again, are the ring.
use Rattle.kit_words.proofs.Common.{◌≡◌, ◌≢◌, ◌≤◌, Bool, true, false, refl, sym, ap, ◌∙◌, subst, cond, List, [], ◌∷◌}
use Rattle.kit_words.proofs.Common.{◌++◌, arith, length, not, flat_map, AllByRecursion, false≢true, append-nil}
use Rattle.kit_words.proofs.Common.{length-append, and_parts, or_parts, not-true}
use Rattle.grid_geometry.specs.Common.{Position, position_eq}
use Rattle.ring_machine.specs.Common.{has, is_distinct, is_ring, canonical}
use Rattle.ring_machine.proofs.Common.{position_eq-refl, Pivot, canonical_at, canonical_swap, rotated_distinct}
use Rattle.topo_reader.specs.Common.{Arc, Chain, there, along, Once, last, same, next, IsRing}
use Rattle.topo_reader.proofs.Repeats.{differ}
use Rattle.map_text.specs.Common.{led_from, cut_way, cut_round, begun, pieces}
use Rattle.map_text.proofs.Cuts.{Begins, first_part}
use Rattle.map_text.proofs.Junctions.{Ring, ring_parts, begun_rotated}

-- ---- the pieces meet

led_chain : (p v r : Position) (pss : List Arc) (z : Position) → Begins v r pss → Chain v pss z → Chain p (led_from p pss) z
led_chain p v r [] z b c = absurd cc
led_chain p v r (a ∷ pss) z b (along l c) =
    along (record { after = a; until = p ∷ l.until; begins = refl; ends = ap (λ y. p ∷ y) l.ends }) c

cut_chain : (j : Position → Bool) (p : Position) (ws : List Position) (z : Position) → Chain p (cut_way j p (ws ++ z ∷ [])) z
cut_chain j p [] z = along (record { after = z ∷ []; until = p ∷ []; begins = refl; ends = refl }) there
cut_chain j p (v ∷ ws) z = tail ws (cut_chain j v ws z)
  where
    on : (b : Bool) (r : Position) (rs : List Position) → Chain v (cut_way j v (r ∷ rs)) z
        → Chain p (cond b ((p ∷ v ∷ []) ∷ cut_way j v (r ∷ rs)) (led_from p (cut_way j v (r ∷ rs)))) z
    on true r rs c = along (record { after = v ∷ []; until = p ∷ []; begins = refl; ends = refl }) c
    on false r rs c = led_chain p v r (cut_way j v (r ∷ rs)) z (first_part j v r rs) c

    tail : (us : List Position) → Chain v (cut_way j v (us ++ z ∷ [])) z → Chain p (cut_way j p (v ∷ us ++ z ∷ [])) z
    tail [] c = on (j v) z [] c
    tail (w ∷ us) c = on (j v) w (us ++ z ∷ []) c

-- ---- their positions

-- no two neighbours are equal
abbrev pub Apart : List Position → Type 0
Apart [] = Unit {0}
Apart (p ∷ []) = Unit {0}
Apart (p ∷ q ∷ ps) = (p ≢ q) × Apart (q ∷ ps)

abbrev joined : List Arc → List Position
joined pss = flat_map (λ a. a) pss

led_once : (p q r : Position) (pss : List Arc) (ps : List Position) → Begins q r pss → p ≢ q → Once (joined pss) (q ∷ ps)
    → Once (joined (led_from p pss)) (p ∷ q ∷ ps)
led_once p q r pss ps b n o = subst (λ z. Once (joined z) (q ∷ ps) → Once (joined (led_from p z)) (p ∷ q ∷ ps)) (sym b.is) (λ h. next n h) o

cut_once : (p q r : Position) (pss : List Arc) (ps : List Position) → Begins q r pss → p ≢ q → Once (joined pss) (q ∷ ps)
    → Once (joined ((p ∷ q ∷ []) ∷ pss)) (p ∷ q ∷ ps)
cut_once p q r pss ps b n o = subst (λ z. Once (joined z) (q ∷ ps) → Once (joined ((p ∷ q ∷ []) ∷ z)) (p ∷ q ∷ ps)) (sym b.is) (λ h. next n (same h)) o

way_once : (j : Position → Bool) (p q : Position) (qs : List Position) → Apart (p ∷ q ∷ qs)
    → Once (joined (cut_way j p (q ∷ qs))) (p ∷ q ∷ qs)
way_once j p q [] a = next a.0 last
way_once j p q (r ∷ rs) a = by (j q) (first_part j q r rs) (way_once j q r rs a.1)
  where
    by : (b : Bool) → Begins q r (cut_way j q (r ∷ rs)) → Once (joined (cut_way j q (r ∷ rs))) (q ∷ r ∷ rs)
        → Once (joined (cond b ((p ∷ q ∷ []) ∷ cut_way j q (r ∷ rs)) (led_from p (cut_way j q (r ∷ rs))))) (p ∷ q ∷ r ∷ rs)
    by true f o = cut_once p q r (cut_way j q (r ∷ rs)) (r ∷ rs) f a.0 o
    by false f o = led_once p q r (cut_way j q (r ∷ rs)) (r ∷ rs) f a.0 o

differs : (p q : Position) → position_eq p q ≡ false → p ≢ q
differs p q h e = false≢true (sym h ∙ ap (position_eq p) (sym e) ∙ position_eq-refl p)

-- the way round from q: no other position is q, and they are distinct
apart_to : (q v : Position) (vs : List Position) → is_distinct (v ∷ vs) ≡ true → has (v ∷ vs) q ≡ false → Apart (v ∷ vs ++ q ∷ [])
apart_to q v [] d h = ((λ e. differs q v (or_parts (position_eq q v) false h).0 (sym e)), tt)
apart_to q v (w ∷ ws) d h =
    let d' = and_parts (not (has (w ∷ ws) v)) _ d in
    (differs v w (or_parts (position_eq v w) _ (not-true _ d'.0)).0, apart_to q w ws d'.1 (or_parts (position_eq q v) _ h).1)

apart_round : (q v : Position) (vs : List Position) → is_distinct (q ∷ v ∷ vs) ≡ true → Apart (q ∷ v ∷ vs ++ q ∷ [])
apart_round q v vs d =
    let d' = and_parts (not (has (v ∷ vs) q)) _ d in
    (differs q v (or_parts (position_eq q v) _ (not-true _ d'.0)).0, apart_to q v vs d'.1 (not-true _ d'.0))

-- ---- neighbours in a piece

led_apart : (p q r : Position) (pss : List Arc) → Begins q r pss → p ≢ q → AllByRecursion Apart pss → AllByRecursion Apart (led_from p pss)
led_apart p q r pss b n h = subst (λ z. AllByRecursion Apart z → AllByRecursion Apart (led_from p z)) (sym b.is) (λ k. ((n, k.0), k.1)) h

way_apart : (j : Position → Bool) (p q : Position) (qs : List Position) → Apart (p ∷ q ∷ qs) → AllByRecursion Apart (cut_way j p (q ∷ qs))
way_apart j p q [] a = ((a.0, tt), tt)
way_apart j p q (r ∷ rs) a = by (j q) (first_part j q r rs) (way_apart j q r rs a.1)
  where
    by : (b : Bool) → Begins q r (cut_way j q (r ∷ rs)) → AllByRecursion Apart (cut_way j q (r ∷ rs))
        → AllByRecursion Apart (cond b ((p ∷ q ∷ []) ∷ cut_way j q (r ∷ rs)) (led_from p (cut_way j q (r ∷ rs))))
    by true f h = ((a.0, tt), h)
    by false f h = led_apart p q r (cut_way j q (r ∷ rs)) f a.0 h

-- no two neighbours in a piece of a ring are equal
pub pieces_apart : (j : Position → Bool) (ring : List Position) → is_ring ring ≡ true → AllByRecursion Apart (pieces j ring)
pieces_apart j ring is =
    let r = ring_parts ring is in
    let t = begun_rotated j ring in
    go (begun j ring)
    (omega (arith, r.long, ap length t.from, ap length t.to, length-append t.us t.vs, length-append t.vs t.us))
    (rotated_distinct ring (begun j ring) t r.distinct)
  where
    go : (ps : List Position) → 3 ≤ length ps → is_distinct ps ≡ true → AllByRecursion Apart (cut_round j ps)
    go [] l d = tt
    go (q ∷ []) l d = absurd (omega (arith, l))
    go (q ∷ v ∷ vs) l d = way_apart j q v (vs ++ q ∷ []) (apart_round q v vs d)

-- ---- the ring

-- a ring is its canonical rotation, and has a least position
canonical_ring : (ps : List Position) → Ring ps → (canonical ps ≡ ps) × Pivot ps
canonical_ring [] r = absurd (omega (arith, r.long))
canonical_ring (p ∷ ps) r =
    (canonical_at [] ps p refl r.least ∙ append-nil (p ∷ ps), record { us = []; m = p; vs = ps; is = refl; below_us = refl; below_vs = r.least })

-- the pieces of a ring lead round it
pub pieces_lead : (j : Position → Bool) (ring : List Position) → is_ring ring ≡ true → IsRing (pieces j ring) ring
pieces_lead j ring is =
    let r = ring_parts ring is in
    let t = begun_rotated j ring in
    let c = canonical_ring ring r in
    let back : ring ≡ canonical (begun j ring) = sym (ap canonical t.to ∙ sym (canonical_swap t.us t.vs (subst Pivot t.from c.1)) ∙ ap canonical (sym t.from) ∙ c.0) in
    let long : 3 ≤ length (begun j ring) = omega (arith, r.long, ap length t.from, ap length t.to, length-append t.us t.vs, length-append t.vs t.us) in
    go (begun j ring) back long (rotated_distinct ring (begun j ring) t r.distinct)
  where
    go : (ps : List Position) → ring ≡ canonical ps → 3 ≤ length ps → is_distinct ps ≡ true → IsRing (cut_round j ps) ring
    go [] b l d = absurd (omega (arith, l))
    go (q ∷ []) b l d = absurd (omega (arith, l))
    go (q ∷ v ∷ vs) b l d = record {
      start = q;
      corners = q ∷ v ∷ vs;
      closed = cut_chain j q (v ∷ vs) q;
      once = way_once j q v (vs ++ q ∷ []) (apart_round q v vs d);
      long = l;
      different = differ (q ∷ v ∷ vs) d;
      turned = b;
    }
