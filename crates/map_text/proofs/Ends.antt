-- The arcs of a document are cut at its junctions and nowhere else.
use Rattle.kit_words.proofs.Common.{◌≡◌, Bool, true, false, refl, sym, ap, ap₂, ◌∙◌, subst, cond, List, [], ◌∷◌, ◌++◌}
use Rattle.kit_words.proofs.Common.{◌||◌, ◌≤◌, length, arith, flat_map, AllByRecursion, list_any, length-append}
use Rattle.kit_words.proofs.Common.{or_parts, all_joined, all_weaker}
use Rattle.grid_geometry.specs.Common.{Position}
use Rattle.ring_machine.specs.Common.{Document, rings, is_junction}
use Rattle.ring_machine.proofs.Common.{In, all_of, in_recursion}
use Rattle.map_text.specs.Common.{begun, led_from, cut_way, cut_round, pieces, is_arc, with_piece, with_pieces, arcs_of}
use Rattle.map_text.specs.Common.{IsCut, between, closed}
use Rattle.map_text.proofs.Lists.{each-flat_map, in_rotated}
use Rattle.map_text.proofs.Junctions.{begun_rotated, begun_found, begun_none}

-- ---- what holds of each piece holds of each arc

pub with_pieces-each : (P : List Position → Type 0) (arcs pss : List (List Position)) → AllByRecursion P arcs
    → AllByRecursion P pss → AllByRecursion P (with_pieces arcs pss)
with_pieces-each P arcs [] h k = h
with_pieces-each P arcs (ps ∷ pss) h k = with_pieces-each P (with_piece arcs ps) pss (by (is_arc arcs ps)) k.1
  where
    by : (b : Bool) → AllByRecursion P (cond b arcs (arcs ++ ps ∷ []))
    by true = h
    by false = all_joined P arcs (ps ∷ []) h (k.0, tt)

pub each_arc : (P : List Position → Type 0) (d : Document)
    → ((ring : List Position) → In ring (rings d) → AllByRecursion P (pieces (is_junction d) ring))
    → AllByRecursion P (arcs_of d)
each_arc P d h = with_pieces-each P [] (flat_map (pieces (is_junction d)) (rings d)) tt (each-flat_map P (pieces (is_junction d)) (rings d) h)

-- ---- cut at the junctions

-- the first piece leads from p on to a junction, and the others are cut
record LeadsOn (j : Position → Bool) (p : Position) (pss : List (List Position)) : Type 0 where
  pub ms : List Position
  pub q : Position
  pub others : List (List Position)
  pub is : pss ≡ (p ∷ ms ++ q ∷ []) ∷ others
  pub free : list_any j ms ≡ false
  pub at : j q ≡ true
  pub rest : AllByRecursion (IsCut j) others

from_junction : (j : Position → Bool) (p : Position) (pss : List (List Position)) → j p ≡ true → LeadsOn j p pss
    → AllByRecursion (IsCut j) pss
from_junction j p pss h o = subst (AllByRecursion (IsCut j)) (sym o.is) (between p o.q o.ms refl h o.at o.free, o.rest)

cut_leads : (j : Position → Bool) (p : Position) (ws : List Position) (z : Position) → j z ≡ true
    → LeadsOn j p (cut_way j p (ws ++ z ∷ []))
cut_leads j p [] z h = record { ms = []; q = z; others = []; is = refl; free = refl; at = h; rest = tt }
cut_leads j p (v ∷ ws) z h = tail ws (cut_leads j v ws z h)
  where
    on : (b : Bool) → j v ≡ b → (c : List (List Position)) → LeadsOn j v c
        → LeadsOn j p (cond b ((p ∷ v ∷ []) ∷ c) (led_from p c))
    on true e c o = record { ms = []; q = v; others = c; is = refl; free = refl; at = e; rest = from_junction j v c e o }
    on false e c o = record { ms = v ∷ o.ms; q = o.q; others = o.others; is = ap (led_from p) o.is; free = ap₂ (λ y t. y || t) e o.free; at = o.at; rest = o.rest }

    tail : (us : List Position) → LeadsOn j v (cut_way j v (us ++ z ∷ [])) → LeadsOn j p (cut_way j p (v ∷ us ++ z ∷ []))
    tail [] o = on (j v) refl (cut_way j v (z ∷ [])) o
    tail (w ∷ us) o = on (j v) refl (cut_way j v (w ∷ us ++ z ∷ [])) o

cut_none : (j : Position → Bool) (p : Position) (ws : List Position) (z : Position) → list_any j ws ≡ false
    → cut_way j p (ws ++ z ∷ []) ≡ (p ∷ ws ++ z ∷ []) ∷ []
cut_none j p [] z h = refl
cut_none j p (v ∷ []) z h = ap (λ b. cond b ((p ∷ v ∷ []) ∷ (v ∷ z ∷ []) ∷ []) ((p ∷ v ∷ z ∷ []) ∷ [])) (or_parts (j v) false h).0
cut_none j p (v ∷ w ∷ ws) z h =
    let n = or_parts (j v) (list_any j (w ∷ ws)) h in
    ap (λ b. cond b ((p ∷ v ∷ []) ∷ cut_way j v (w ∷ ws ++ z ∷ [])) (led_from p (cut_way j v (w ∷ ws ++ z ∷ [])))) n.0
    ∙ ap (led_from p) (cut_none j v (w ∷ ws) z n.1)

round_none : (j : Position → Bool) (ps : List Position) → list_any j ps ≡ false → AllByRecursion (IsCut j) (cut_round j ps)
round_none j [] k = tt
round_none j (q ∷ qs) k =
    let n = or_parts (j q) (list_any j qs) k in
    subst (AllByRecursion (IsCut j)) (sym (cut_none j q qs q n.1)) (closed q qs refl k, tt)

pub ring_cut : (j : Position → Bool) (ring : List Position) → AllByRecursion (IsCut j) (pieces j ring)
ring_cut j ring = by (list_any j ring) refl
  where
    by : (b : Bool) → list_any j ring ≡ b → AllByRecursion (IsCut j) (pieces j ring)
    by true e =
        let g = begun_found j ring e in
        subst (λ z. AllByRecursion (IsCut j) (cut_round j z)) (sym g.is)
        (from_junction j g.q (cut_way j g.q (g.qs ++ g.q ∷ [])) g.at (cut_leads j g.q g.qs g.q g.at))
    by false e = subst (λ z. AllByRecursion (IsCut j) (cut_round j z)) (sym (begun_none j ring e)) (round_none j ring e)

-- each arc begins and ends at a junction and has none between, or is closed and has none
pub arcs_cut : (d : Document) → AllByRecursion (IsCut (is_junction d)) (arcs_of d)
arcs_cut d = each_arc (IsCut (is_junction d)) d (λ ring i. ring_cut (is_junction d) ring)

-- ---- their positions

pub long_cut : (j : Position → Bool) (arc : List Position) → IsCut j arc → 2 ≤ length arc
long_cut j arc (between p q inner is at_p at_q free) = omega (arith, ap length is, length-append inner (q ∷ []))
long_cut j arc (closed p inner is free) = omega (arith, ap length is, length-append inner (p ∷ []))

-- each arc has two positions or more
pub arcs_long : (d : Document) → AllByRecursion (λ a. 2 ≤ length a) (arcs_of d)
arcs_long d = all_weaker (IsCut (is_junction d)) (λ a. 2 ≤ length a) (long_cut (is_junction d)) (arcs_of d) (arcs_cut d)

module _ (P : Position → Type 0) (j : Position → Bool) where
  led_each : (p : Position) (pss : List (List Position)) → P p → AllByRecursion (AllByRecursion P) pss
      → AllByRecursion (AllByRecursion P) (led_from p pss)
  led_each p [] h k = tt
  led_each p (ps ∷ pss) h k = ((h, k.0), k.1)

  cut_each : (p : Position) (ps : List Position) → P p → AllByRecursion P ps → AllByRecursion (AllByRecursion P) (cut_way j p ps)
  cut_each p [] h k = tt
  cut_each p (q ∷ []) h k = ((h, (k.0, tt)), tt)
  cut_each p (q ∷ r ∷ rs) h k = by (j q) (cut_each q (r ∷ rs) k.0 k.1)
    where
      by : (b : Bool) → AllByRecursion (AllByRecursion P) (cut_way j q (r ∷ rs))
          → AllByRecursion (AllByRecursion P) (cond b ((p ∷ q ∷ []) ∷ cut_way j q (r ∷ rs)) (led_from p (cut_way j q (r ∷ rs))))
      by true m = ((h, (k.0, tt)), m)
      by false m = led_each p (cut_way j q (r ∷ rs)) h m

  pub pieces_each : (ring : List Position) → AllByRecursion P ring → AllByRecursion (AllByRecursion P) (pieces j ring)
  pieces_each ring h = by (begun j ring) (all_of P (begun j ring) (λ p i. in_recursion P ring p h (back p i)))
    where
      back : (p : Position) → In p (begun j ring) → In p ring
      back p i = let r = begun_rotated j ring in in_rotated p (begun j ring) ring (record { us = r.vs; vs = r.us; from = r.to; to = r.from }) i

      by : (ps : List Position) → AllByRecursion P ps → AllByRecursion (AllByRecursion P) (cut_round j ps)
      by [] k = tt
      by (q ∷ qs) k = cut_each q (qs ++ q ∷ []) k.0 (all_joined P qs (q ∷ []) k.1 (k.0, tt))

-- what holds of each position of each ring holds of each position of each arc
pub arcs_each : (P : Position → Type 0) (d : Document) → AllByRecursion (AllByRecursion P) (rings d)
    → AllByRecursion (AllByRecursion P) (arcs_of d)
arcs_each P d h = each_arc (AllByRecursion P) d (λ ring i. pieces_each P (is_junction d) ring (in_recursion (AllByRecursion P) (rings d) ring h i))
