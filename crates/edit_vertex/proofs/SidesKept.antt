-- An accepted edit of a vertex leaves every position on its side of every ring, and so does any
-- number of removals, one after the other.
use Rattle.kit_words.proofs.Common.{◌≡◌, ℤ, Bool, true, false, refl, sym, ap, ◌∙◌, subst, cond, List, [], ◌∷◌, take}
use Rattle.kit_words.proofs.Common.{Option, None, Some, not, ◌&&◌, fold, option_and_then, false≢true}
use Rattle.grid_geometry.specs.Common.{Position, is_inside}
use Rattle.ring_machine.specs.Common.{has, Document, Proper, vertices, del, del_ring, is_junction, ring_at, KeepsSides}
use Rattle.ring_machine.specs.Common.{Refusal, first_of, remove_refusals, Thinning, is_flat, without, thin_at}
use Rattle.ring_machine.specs.Common.{thinned_over, IsThinnedPart}
use Rattle.ring_machine.proofs.Common.{ThinnedFrom, removed}
use Rattle.ring_machine.proofs.SidesKept.{ring_at-mapped}
use Rattle.ring_machine.proofs.Accepted.{has-del, vertex-del}

some_same : (s r : List Position) → Some s ≡ Some r → s ≡ r
some_same s r e = cc

-- no edit
pub same_keeps : (d : Document) → KeepsSides d d
same_keeps d n i j r s w e f v u o = ap (is_inside w) (some_same s r (sym f ∙ e))

-- ---- one vertex left out

left_ring : (p : Position) (o : Option (List Position)) (s : List Position)
    → option_and_then (λ r. Some (del_ring p r)) o ≡ Some s
    → (r : List Position) × (o ≡ Some r) × (s ≡ del_ring p r)
left_ring p None s e = absurd cc
left_ring p (Some r) s e = (r, refl, some_same s (del_ring p r) (sym e))

one_left_out : (d : Document) (p : Position) → Proper d → first_of (remove_refusals d p) ≡ None
    → ThinnedFrom d (del d p)
one_left_out d p proper accepted =
    let both = removed d p proper accepted in
    record {
      proper = both.0;
      old = λ w h. vertex-del d p w h;
      smaller = λ n i j s e.
          let k = left_ring p (ring_at d n i j) s (sym (ring_at-mapped (del_ring p) d n i j) ∙ e) in
          (k.0, k.1, λ w h. has-del p k.0 w (ap (λ z. has z w) (sym k.2) ∙ h));
      sides = both.1;
    }

-- ---- more of them

lacks_more : (r s : Bool) → (s ≡ true → r ≡ true) → r ≡ false → s ≡ false
lacks_more r false h e = refl
lacks_more r true h e = absurd (false≢true (sym e ∙ h refl))

thinned_twice : (a b c : Document) → ThinnedFrom a b → ThinnedFrom b c → ThinnedFrom a c
thinned_twice a b c first next = record {
  proper = next.proper;
  old = λ w h. first.old w (next.old w h);
  smaller = λ n i j s e.
      let mid = next.smaller n i j s e in
      let was = first.smaller n i j mid.0 mid.1 in
      (was.0, was.1, λ w h. was.2 w (mid.2 w h));
  sides = λ n i j r s w e f v u o.
      let mid = next.smaller n i j s f in
      let was = first.smaller n i j mid.0 mid.1 in
      let same : was.0 ≡ r = some_same was.0 r (sym was.1 ∙ e) in
      let off : has mid.0 w ≡ false = lacks_more (has r w) (has mid.0 w) (λ h. ap (λ z. has z w) (sym same) ∙ was.2 w h) o in
      let there = next.old w u in
      next.sides n i j mid.0 s w mid.1 f there u off ∙ first.sides n i j r mid.0 w e mid.1 v there o;
}

pass_from : (d : Document) (t : ℤ) (ps : List Position) (so_far : Thinning) → ThinnedFrom d so_far.doc
    → ThinnedFrom d (fold (thin_at t) so_far ps).doc
pass_from d t [] so_far h = h
pass_from d t (p ∷ ps) so_far h =
    pass_from d t ps (thin_at t so_far p)
    (by (not (is_junction so_far.doc p) && is_flat t so_far.doc p) (first_of (remove_refusals so_far.doc p)) refl)
  where
    by : (b : Bool) (o : Option Refusal) → first_of (remove_refusals so_far.doc p) ≡ o
        → ThinnedFrom d (cond b (without so_far p o) so_far).doc
    by true None e = thinned_twice d so_far.doc (del so_far.doc p) h (one_left_out so_far.doc p h.proper e)
    by true (Some r) e = h
    by false o e = h

-- a pass over these vertices
pub pass_keeps : (d : Document) (t : ℤ) (ps : List Position) → Proper d
    → KeepsSides d (thinned_over t d ps).doc
pass_keeps d t ps proper =
    (pass_from d t ps (record { doc = d; removed = 0 }) (record {
      proper = proper;
      old = λ w h. h;
      smaller = λ n i j s e. (s, e, λ w h. h);
      sides = same_keeps d;
    })).sides

-- a pass that stopped on the way
pub part_keeps : (t : ℤ) (old new : Document) → Proper old → IsThinnedPart t old new → KeepsSides old new
part_keeps t old new proper part = subst (KeepsSides old) (sym part.1) (pass_keeps old t (take part.0 (vertices old)) proper)
