-- What an accepted edit of a vertex gives: a proper document, with every position on its side.
use Rattle.kit_words.proofs.Common.{◌≡◌, ℕ, ℤ, Bool, true, false, refl, sym, ap, ◌∙◌, cond, List, [], ◌∷◌, arith, ◌++◌}
use Rattle.kit_words.proofs.Common.{map, ◌||◌, ◌&&◌, Option, None, Some, inl, inr, not, list_any, fold, filter}
use Rattle.kit_words.proofs.Common.{option_and_then, false≢true, list_any-append, or_cases, or_right}
use Rattle.kit_words.proofs.Common.{false_from_ne_true, not-true}
use Rattle.grid_geometry.specs.Common.{Position, position_eq, segment, is_inside}
use Rattle.ring_machine.specs.Common.{has, canonical, Document, rings, is_vertex, is_segment, put, ins, del, del_ring}
use Rattle.ring_machine.specs.Common.{is_junction, Proper, first_pair, move_sweeps, insert_sweeps, remove_sweeps}
use Rattle.ring_machine.specs.Common.{ring_at, KeepsSides, vertices, Refusal, first_of, planar, conflict_of, is_small}
use Rattle.ring_machine.specs.Common.{are_long, is_bridged, move_refusals, insert_refusals, remove_refusals, Thinning}
use Rattle.ring_machine.specs.Common.{is_flat, without, thin_at, thinned}
use Rattle.ring_machine.proofs.Canonical.{canonical_parts}
use Rattle.ring_machine.proofs.MergeAccepted.{passes}
use Rattle.ring_machine.proofs.RingsOf.{rings-in_rings}
use Rattle.ring_machine.proofs.StaysProper.{put_is_proper, ins_is_proper, del_is_proper}
use Rattle.ring_machine.proofs.SidesKept.{ring_at-mapped, move-keeps, insert-keeps, remove-keeps}

-- ---- no refusal: each condition holds

stays_apart : (d : Document) (rest : List (Option Refusal)) → first_of (planar d ∷ rest) ≡ None
    → (first_pair d ≡ None) × (first_of rest ≡ None)
stays_apart d rest h = by (first_pair d) refl h
  where
    by : (o : _) → first_pair d ≡ o → first_of (conflict_of o ∷ rest) ≡ None
        → (first_pair d ≡ None) × (first_of rest ≡ None)
    by None e k = (e, k)
    by (Some pair) e k = absurd cc

pub record MoveAccepted (d : Document) (p q : Position) : Type 0 where
  pub vertex : is_vertex d p ≡ true
  pub free : is_vertex d q ≡ false
  pub apart : first_pair (put d p q) ≡ None
  pub still : move_sweeps d p q ≡ false

pub move-accepted : (d : Document) (p q : Position) → first_of (move_refusals d p q) ≡ None
    → MoveAccepted d p q
unfolding move_refusals
move-accepted d p q h =
    let a = passes _ (is_vertex d p) _ h in
    let b = passes _ (not (is_vertex d q)) _ a.1 in
    let c = stays_apart (put d p q) _ b.1 in
    let e = passes _ (not (move_sweeps d p q)) _ c.1 in
    record { vertex = a.0; free = not-true (is_vertex d q) b.0; apart = c.0; still = not-true (move_sweeps d p q) e.0 }

pub record InsertAccepted (d : Document) (a b q : Position) : Type 0 where
  pub border : is_segment d (segment a b) ≡ true
  pub free : is_vertex d q ≡ false
  pub small : is_small (ins d a b q) ≡ true
  pub apart : first_pair (ins d a b q) ≡ None
  pub still : insert_sweeps d a b q ≡ false

pub insert-accepted : (d : Document) (a b q : Position) → first_of (insert_refusals d a b q) ≡ None
    → InsertAccepted d a b q
unfolding insert_refusals
insert-accepted d a b q h =
    let s = passes _ (is_segment d (segment a b)) _ h in
    let f = passes _ (not (is_vertex d q)) _ s.1 in
    let l = passes _ (is_small (ins d a b q)) _ f.1 in
    let c = stays_apart (ins d a b q) _ l.1 in
    let e = passes _ (not (insert_sweeps d a b q)) _ c.1 in
    record { border = s.0; free = not-true (is_vertex d q) f.0; small = l.0; apart = c.0; still = not-true (insert_sweeps d a b q) e.0 }

pub record RemoveAccepted (d : Document) (p : Position) : Type 0 where
  pub vertex : is_vertex d p ≡ true
  pub single : is_junction d p ≡ false
  pub long : are_long d p ≡ true
  pub bridge_is_new : is_bridged d p ≡ false
  pub apart : first_pair (del d p) ≡ None
  pub still : remove_sweeps d p ≡ false

pub remove-accepted : (d : Document) (p : Position) → first_of (remove_refusals d p) ≡ None
    → RemoveAccepted d p
unfolding remove_refusals
remove-accepted d p h =
    let v = passes _ (is_vertex d p) _ h in
    let j = passes _ (not (is_junction d p)) _ v.1 in
    let l = passes _ (are_long d p) _ j.1 in
    let b = passes _ (not (is_bridged d p)) _ l.1 in
    let c = stays_apart (del d p) _ b.1 in
    let e = passes _ (not (remove_sweeps d p)) _ c.1 in
    record { vertex = v.0; single = not-true (is_junction d p) j.0; long = l.0; bridge_is_new = not-true (is_bridged d p) b.0; apart = c.0; still = not-true (remove_sweeps d p) e.0 }

-- ---- what they give

pub moved : (d : Document) (p q : Position) → Proper d → first_of (move_refusals d p q) ≡ None
    → Proper (put d p q) × KeepsSides d (put d p q)
moved d p q proper h = let a = move-accepted d p q h in (put_is_proper d p q proper a.free a.apart, move-keeps d p q proper a.still)

pub inserted : (d : Document) (a b q : Position) → Proper d
    → first_of (insert_refusals d a b q) ≡ None → Proper (ins d a b q) × KeepsSides d (ins d a b q)
inserted d a b q proper h = let c = insert-accepted d a b q h in (ins_is_proper d a b q proper c.free c.apart, insert-keeps d a b q c.still)

pub removed : (d : Document) (p : Position) → Proper d → first_of (remove_refusals d p) ≡ None
    → Proper (del d p) × KeepsSides d (del d p)
removed d p proper h = let a = remove-accepted d p h in (del_is_proper d p proper a.long a.apart, remove-keeps d p proper a.single a.long a.still)

-- ---- thinning

has-canonical : (ring : List Position) (w : Position) → has (canonical ring) w ≡ true
    → has ring w ≡ true
has-canonical ring w h =
    let parts = canonical_parts ring in
    ap (λ r. has r w) parts.2 ∙ swapped parts.0 parts.1 (ap (λ r. has r w) (sym parts.3) ∙ h)
  where
    turn_or : (x y : Bool) → (x || y) ≡ true → (y || x) ≡ true
    turn_or x y k = grind arith

    swapped : (us vs : List Position) → has (vs ++ us) w ≡ true → has (us ++ vs) w ≡ true
    swapped us vs k = list_any-append (position_eq w) us vs ∙ turn_or (has vs w) (has us w) (sym (list_any-append (position_eq w) vs us) ∙ k)

has-filter : (test : Position → Bool) (ps : List Position) (w : Position)
    → has (filter test ps) w ≡ true → has ps w ≡ true
has-filter test [] w h = h
has-filter test (p ∷ ps) w h = grind (arith, has-filter test ps w)

pub has-del : (p : Position) (ring : List Position) (w : Position) → has (del_ring p ring) w ≡ true
    → has ring w ≡ true
has-del p ring w h = has-filter (λ r. not (position_eq r p)) ring w (has-canonical (filter (λ r. not (position_eq r p)) ring) w h)

pub vertex-del : (d : Document) (p w : Position) → is_vertex (del d p) w ≡ true → is_vertex d w ≡ true
vertex-del d p w h = over (rings d) (sym (ap (list_any (λ ring. has ring w)) (rings-in_rings (del_ring p) d)) ∙ h)
  where
    over : (rs : List (List Position)) → list_any (λ ring. has ring w) (map (del_ring p) rs) ≡ true
        → list_any (λ ring. has ring w) rs ≡ true
    over [] k = k
    over (r ∷ rs) k = elim (or_cases (has (del_ring p r) w) (list_any (λ ring. has ring w) (map (del_ring p) rs)) k) [
      | inl i ↦ ap (λ t. t || list_any (λ ring. has ring w) rs) (has-del p r w i)
      | inr i ↦ or_right (has r w) _ (over rs i)
    ]

-- after some removals: proper, with no new positions, and sides kept
pub record ThinnedFrom (before after : Document) : Type 0 where
  pub proper : Proper after
  pub old : (w : Position) → is_vertex after w ≡ true → is_vertex before w ≡ true
  pub smaller : (n i j : ℕ) (s : List Position) → ring_at after n i j ≡ Some s
      → (r : List Position) × (ring_at before n i j ≡ Some r) × ((w : Position) → has s w ≡ true → has r w ≡ true)
  pub sides : KeepsSides before after

from_itself : (d : Document) → Proper d → ThinnedFrom d d
from_itself d proper = record {
  proper = proper;
  old = λ w h. h;
  smaller = λ n i j s e. (s, e, λ w h. h);
  sides = λ n i j r s w e f v u o. let same : s ≡ r = some_same s r (sym f ∙ e) in ap (is_inside w) same;
}
  where
    some_same : (s r : List Position) → Some s ≡ Some r → s ≡ r
    some_same s r e = cc

one_more : (before now : Document) (p : Position) → ThinnedFrom before now
    → first_of (remove_refusals now p) ≡ None → ThinnedFrom before (del now p)
one_more before now p t h =
    let both = removed now p t.proper h in
    record {
      proper = both.0;
      old = λ w v. t.old w (vertex-del now p w v);
      smaller = λ n i j s e.
          let k = was (ring_at now n i j) s (sym (ring_at-mapped (del_ring p) now n i j) ∙ e) in
          let l = t.smaller n i j k.0 k.1 in
          (l.0, l.1, λ w v. l.2 w (has-del p k.0 w (ap (λ z. has z w) (sym k.2) ∙ v)));
      sides = λ n i j r s w e f v u o.
          let k = was (ring_at now n i j) s (sym (ring_at-mapped (del_ring p) now n i j) ∙ f) in
          let l = t.smaller n i j k.0 k.1 in
          let same : l.0 ≡ r = some_same l.0 r (sym l.1 ∙ e) in
          let now_vertex = vertex-del now p w u in
          let off : has k.0 w ≡ false = false_from_ne_true (has k.0 w) (λ x. false≢true (sym o ∙ ap (λ z. has z w) (sym same) ∙ l.2 w x)) in
          both.1 n i j k.0 s w k.1 f now_vertex u off ∙ t.sides n i j r k.0 w e k.1 v now_vertex o;
    }
  where
    some_same : (s r : List Position) → Some s ≡ Some r → s ≡ r
    some_same s r e = cc

    was : (o : Option (List Position)) (s : List Position)
        → option_and_then (λ a. Some (del_ring p a)) o ≡ Some s
        → (r : List Position) × (o ≡ Some r) × (s ≡ del_ring p r)
    was None s e = absurd cc
    was (Some r) s e = (r, refl, some_same s (del_ring p r) (sym e))

at_one : (before : Document) (t : ℤ) (so_far : Thinning) (p : Position)
    → ThinnedFrom before so_far.doc → ThinnedFrom before (thin_at t so_far p).doc
at_one before t so_far p h = by (not (is_junction so_far.doc p) && is_flat t so_far.doc p) (first_of (remove_refusals so_far.doc p)) refl
  where
    by : (b : Bool) (o : Option Refusal) → first_of (remove_refusals so_far.doc p) ≡ o
        → ThinnedFrom before (cond b (without so_far p o) so_far).doc
    by true None e = one_more before so_far.doc p h e
    by true (Some r) e = h
    by false o e = h

pub thinned-keeps : (d : Document) (t : ℤ) → Proper d → ThinnedFrom d (thinned t d).doc
unfolding thinned
thinned-keeps d t proper = over (vertices d) (record { doc = d; removed = 0 }) (from_itself d proper)
  where
    over : (ps : List Position) (so_far : Thinning) → ThinnedFrom d so_far.doc
        → ThinnedFrom d (fold (thin_at t) so_far ps).doc
    over [] so_far h = h
    over (p ∷ ps) so_far h = over ps (thin_at t so_far p) (at_one d t so_far p h)
