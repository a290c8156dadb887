-- One vertex of a pass of thinning, and the pass as far as it has come.
use Rattle.kit_words.proofs.Common.{◌≡◌, ℕ, zero, suc, ◌+◌, ◌<◌, ◌≤◌, Bool, true, false, refl, sym, ap, ap₂, ◌∙◌, cond}
use Rattle.kit_words.proofs.Common.{ℤ, List, [], ◌∷◌, ◌++◌, take, length, get_or, Option, None, Some, arith, not, ◌&&◌}
use Rattle.kit_words.proofs.Common.{pos, unsigned_abs, int_le, fold, false≢true, take_more, and_parts, not-true}
use Rattle.grid_geometry.specs.Common.{Position, Segment, Box, segment, orientation}
use Rattle.ring_machine.specs.Common.{Document, is_vertex, Proper, del, around, is_junction, Refusal, NoVertex}
use Rattle.ring_machine.specs.Common.{first_of, remove_refusals, is_bridged, Thinning, is_flat, without, thin_at}
use Rattle.arc_store.specs.Common.{Refuses, IsBetween}
use Rattle.arc_store.specs.declared.fault.EditFault.{EditFault}
use Rattle.arc_store.specs.declared.fault.EditFault.TheVariants.{OutOfMemory}
use Rattle.arc_store.specs.declared.fault.EditFault.TheVariants as edit
use Rattle.local_planarity.specs.Common.{most_for}
use Rattle.edit_vertex.specs.Common.{most_at, most_over}
use Rattle.edit_vertex.proofs.Lists.{all_same}
use Rattle.edit_vertex.proofs.Removing.{same_around, place_there, ordered_ends, remove_no_vertex, bridged_refused}

-- ---- whether a vertex is thin

-- twice the area of the triangle of p and the ends of s is at most t
abbrev pub is_flat_side : ℤ → Position → Segment → Bool
is_flat_side t p s = int_le (pos (unsigned_abs (orientation s.lo p s.hi))) t

pub flat_between : (d : Document) (p a b : Position) → Proper d → IsBetween d p a b → (t : ℤ)
    → is_flat t d p ≡ int_le (pos (unsigned_abs (orientation a p b))) t
flat_between d p a b proper between t =
    let ends = ordered_ends a b between.order in
    all_same (is_flat_side t p) (around d p) (segment a b) (place_there d p a b proper between) (same_around d p a b proper between)
    ∙ ap₂ (λ u v. int_le (pos (unsigned_abs (orientation u p v))) t) ends.0 ends.1

-- p is a vertex, no junction, and flat
abbrev pub is_thin : ℤ → Document → Position → Bool
is_thin t d p = is_vertex d p && (not (is_junction d p) && is_flat t d p)

pub thin_unplaced : (t : ℤ) (d : Document) (p : Position)
    → (is_vertex d p && not (is_junction d p)) ≡ false → is_thin t d p ≡ false
thin_unplaced t d p h = by (is_vertex d p) (is_junction d p) h
  where
    by : (v j : Bool) → (v && not j) ≡ false → (v && (not j && is_flat t d p)) ≡ false
    by true true h = refl
    by true false h = absurd (false≢true (sym h))
    by false j h = refl

pub thin_vertex : (t : ℤ) (d : Document) (p : Position) → is_thin t d p ≡ true
    → is_vertex d p ≡ true
thin_vertex t d p h =
    (and_parts (is_vertex d p) (not (is_junction d p) && is_flat t d p) h).0

pub thin_inner : (t : ℤ) (d : Document) (p : Position) → is_thin t d p ≡ true
    → is_junction d p ≡ false
thin_inner t d p h =
    let rest = (and_parts (is_vertex d p) (not (is_junction d p) && is_flat t d p) h).1 in
    not-true (is_junction d p) (and_parts (not (is_junction d p)) (is_flat t d p) rest).0

pub thin_between : (d : Document) (p a b : Position) → Proper d → IsBetween d p a b → (t : ℤ)
    → is_thin t d p ≡ int_le (pos (unsigned_abs (orientation a p b))) t
thin_between d p a b proper between t =
    ap₂ (λ u v. u && (not v && is_flat t d p)) between.vertex between.inner ∙ flat_between d p a b proper between t

-- ---- one vertex of the pass

-- so many were left out of the document
abbrev pub with_count : Document → ℕ → Thinning
with_count d n = record { doc = d; removed = n }

module _ (t : ℤ) (d : Document) (p : Position) (n : ℕ) where
  abbrev thin_by : Bool → Option Refusal → Thinning
  thin_by b o = cond b (without (with_count d n) p o) (with_count d n)

  parts : is_thin t d p ≡ true → (not (is_junction d p) && is_flat t d p) ≡ true
  parts h = (and_parts (is_vertex d p) (not (is_junction d p) && is_flat t d p) h).1

  pub thin_gone : is_thin t d p ≡ true → first_of (remove_refusals d p) ≡ None
      → (new : Document) → new ≡ del d p
      → thin_at t (with_count d n) p ≡ with_count new (n + 1)
  thin_gone h k new e = ap₂ thin_by (parts h) k ∙ ap (λ x. with_count x (n + 1)) (sym e)

  refused : (fault : EditFault) → Refuses fault (first_of (remove_refusals d p))
      → (fault ≡ OutOfMemory → ⊥) → (r : Refusal) × (first_of (remove_refusals d p) ≡ Some r)
  refused edit.OutOfMemory h k = absurd (k refl)
  refused fault h k = (_, h)

  pub thin_refused : is_thin t d p ≡ true → (fault : EditFault)
      → Refuses fault (first_of (remove_refusals d p)) → (fault ≡ OutOfMemory → ⊥)
      → (new : Document) → new ≡ d → thin_at t (with_count d n) p ≡ with_count new (n + 0)
  thin_refused h fault k l new e =
      let same : n ≡ n + 0 = omega arith in
      ap₂ thin_by (parts h) (refused fault k l).1 ∙ ap₂ with_count (sym e) same

  -- where the neighbours are joined it stays
  pub thin_bridged : is_thin t d p ≡ true → is_bridged d p ≡ true
      → thin_at t (with_count d n) p ≡ with_count d (n + 0)
  thin_bridged h b =
      let same : n ≡ n + 0 = omega arith in
      ap₂ thin_by (parts h) (bridged_refused d p (thin_vertex t d p h) (thin_inner t d p h) b).1 ∙ ap (with_count d) same

  pub thin_passed : is_thin t d p ≡ false → thin_at t (with_count d n) p ≡ with_count d (n + 0)
  thin_passed h =
      let same : n ≡ n + 0 = omega arith in
      by (is_vertex d p) refl h ∙ ap (with_count d) same
    where
      either : (b : Bool) → thin_by b (Some NoVertex) ≡ with_count d n
      either true = refl
      either false = refl

      by : (v : Bool) → is_vertex d p ≡ v → (v && (not (is_junction d p) && is_flat t d p)) ≡ false
          → thin_at t (with_count d n) p ≡ with_count d n
      by true e h = ap (λ b. thin_by b (first_of (remove_refusals d p))) h
      by false e h =
          ap (thin_by (not (is_junction d p) && is_flat t d p)) (remove_no_vertex d p e)
          ∙ either (not (is_junction d p) && is_flat t d p)

-- ---- how many tests the pass takes

module _ (times : Segment → Box → ℕ) (t : ℤ) where
  -- at a vertex that is thin those of its removal
  pub most_thin : (d : Document) (p : Position) → is_thin t d p ≡ true
      → most_at times t d p ≡ most_for times d (del d p)
  most_thin d p h = ap (λ b. cond b (most_for times d (del d p)) 0) (parts t d p 0 h)

  over-push : (s : Thinning) (ps : List Position) (p : Position)
      → most_over times t s (ps ++ p ∷ []) ≡ most_over times t s ps + most_at times t (fold (thin_at t) s ps).doc p
  over-push s [] p = omega arith
  over-push s (q ∷ ps) p = omega (arith, over-push (thin_at t s q) ps p)

  -- one vertex more
  pub most_more : (s : Thinning) (now : Document) (n : ℕ) (ps : List Position) (i : ℕ)
      (p : Position) (before after : ℕ) → i < length ps → p ≡ get_or ps i p
      → fold (thin_at t) s (take i ps) ≡ with_count now n
      → before ≤ most_over times t s (take i ps) → after ≤ before + most_at times t now p
      → after ≤ most_over times t s (take (i + 1) ps)
  most_more s now n ps i p before after l e h k m =
      let at : most_at times t (fold (thin_at t) s (take i ps)).doc p ≡ most_at times t now p = ap (λ (z : Thinning). most_at times t z.doc p) h in
      let more : most_over times t s (take (i + 1) ps) ≡ most_over times t s (take i ps ++ p ∷ []) = ap (most_over times t s) (take_more ps i p l ∙ ap (λ z. take i ps ++ z ∷ []) (sym e)) in
      omega (arith, at, more, over-push s (take i ps) p, k, m)

  -- a part of the pass takes no more than the whole
  pub most_part : (s : Thinning) (ps : List Position) (i : ℕ)
      → most_over times t s (take i ps) ≤ most_over times t s ps
  most_part s ps zero = omega arith
  most_part s [] (suc i) = omega arith
  most_part s (p ∷ ps) (suc i) = omega (arith, most_part (thin_at t s p) ps i)
