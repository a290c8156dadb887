-- The area of the ring that joins two rings is the sum of their areas.
use Rattle.kit_words.proofs.Common.{◌≡◌, ◌≤◌, ℤ, pos, ◌+ℤ◌, neg_ℤ, Bool, true, false, refl, sym, ap, ◌∙◌, subst, cond}
use Rattle.kit_words.proofs.Common.{List, ◌∷◌, ◌++◌, reverse, inl, arith, int_lt, unsigned_abs, list_any, false≢true}
use Rattle.kit_words.proofs.Common.{ints, or_parts}
use Rattle.grid_geometry.specs.Common.{Position, Edge, edges, signed_area, total_area}
use Rattle.ring_machine.specs.Common.{is_ring, is_common, passed_alike, positive, runs, same_side, same_segments}
use Rattle.ring_machine.specs.Common.{joined, absolute_area}
use Rattle.ring_machine.proofs.Arcs.{flip, flipped}
use Rattle.ring_machine.proofs.Areas.{total_area-append, total_area-flipped, total_area_swap}
use Rattle.ring_machine.proofs.Spots.{Rotated}
use Rattle.ring_machine.proofs.First.{In, in_left}
use Rattle.ring_machine.proofs.Cycles.{in_rotated, rotated-sym, edges_reversed, in_flipped}
use Rattle.ring_machine.proofs.JoinedRuns.{Shared, shared, other_of, alike_in, in_alike, in_reverse}
use Rattle.ring_machine.proofs.JoinedRests.{joined_edges, run_in}

-- ---- where a ring begins, and which way it goes

pub total_area-rotated : (es fs : List Edge) → Rotated es fs → total_area fs ≡ total_area es
total_area-rotated es fs r = ap total_area r.to ∙ total_area_swap r.vs r.us ∙ ap total_area (sym r.from)

opposite_of : (a b : ℤ) → a +ℤ b ≡ pos 0 → b ≡ neg_ℤ a
opposite_of a b h = omega (arith, ints, h)

pub signed_area-reverse : (ring : List Position) → signed_area (reverse ring)
    ≡ neg_ℤ (signed_area ring)
signed_area-reverse ring =
    total_area-rotated (flipped (edges ring)) (edges (reverse ring)) (edges_reversed ring)
    ∙ opposite_of (signed_area ring) (total_area (flipped (edges ring))) (total_area-flipped (edges ring))

-- ---- signed areas

cancelled : (j r o run back own others : ℤ) → j ≡ own +ℤ others → r ≡ run +ℤ own → o
    ≡ back +ℤ others
    → run +ℤ back ≡ pos 0 → j ≡ r +ℤ o
cancelled j r o run back own others a b c d = omega (arith, ints, a, b, c, d)

-- the run cancels
pub joined_signed : (r s : List Position) → is_ring r ≡ true → is_ring s ≡ true → Shared r s
    → signed_area (joined r s) ≡ signed_area r +ℤ signed_area (other_of r s)
joined_signed r s ring second k =
    let run = k.first ∷ k.more in
    cancelled (signed_area (joined r s)) (signed_area r) (signed_area (other_of r s)) (total_area run) (total_area (flipped run)) (total_area k.own) (total_area k.others)
    (total_area-rotated (k.own ++ k.others) (edges (joined r s)) (joined_edges r s ring second k) ∙ total_area-append k.own k.others)
    (sym (total_area-rotated (edges r) (run ++ k.own) k.here) ∙ total_area-append run k.own)
    (sym (total_area-rotated (edges (other_of r s)) (flipped run ++ k.others) k.there) ∙ total_area-append (flipped run) k.others)
    (total_area-flipped run)

-- ---- both on their sides of the run

abbrev below : List Position → Bool
below ring = int_lt (signed_area ring) (pos 0)

both_down : (r s : ℤ) → int_lt r (pos 0) ≡ true → int_lt s (pos 0) ≡ true
    → pos (unsigned_abs (r +ℤ s)) ≡ pos (unsigned_abs r) +ℤ pos (unsigned_abs s)
both_down r s h k = grind (arith, ints)

both_up : (r s : ℤ) → int_lt r (pos 0) ≡ false → int_lt s (pos 0) ≡ false
    → pos (unsigned_abs (r +ℤ s)) ≡ pos (unsigned_abs r) +ℤ pos (unsigned_abs s)
both_up r s h k = grind (arith, ints)

one_down : (r s : ℤ) → int_lt r (pos 0) ≡ true → int_lt s (pos 0) ≡ false
    → pos (unsigned_abs (r +ℤ neg_ℤ s)) ≡ pos (unsigned_abs r) +ℤ pos (unsigned_abs s)
one_down r s h k = grind (arith, ints)

one_up : (r s : ℤ) → int_lt r (pos 0) ≡ false → int_lt s (pos 0) ≡ true
    → pos (unsigned_abs (r +ℤ neg_ℤ s)) ≡ pos (unsigned_abs r) +ℤ pos (unsigned_abs s)
one_up r s h k = grind (arith, ints)

-- where the areas do not lie on the same side of the run, the other ring turns as the first does
pub sums : (r s : List Position) → is_ring r ≡ true → is_ring s ≡ true → Shared r s
    → same_side r s ≡ false
    → pos (unsigned_abs (signed_area r +ℤ signed_area (other_of r s)))
    ≡ absolute_area r +ℤ absolute_area s
sums r s ring second k sides = by (below r) (below s) (passed_alike r s) refl refl refl (or_parts (same_segments r s) (passed_alike (positive r) (positive s)) sides).1
  where
    first_here : In k.first (edges r)
    first_here = run_in r s ring second k k.first (inl refl)

    first_there : In (flip k.first) (edges (other_of r s))
    first_there =
        let run = k.first ∷ k.more in
        in_rotated (flipped run ++ k.others) (edges (other_of r s)) (flip k.first) (rotated-sym (edges (other_of r s)) (flipped run ++ k.others) k.there) (in_left (flip k.first) (flipped run) k.others (in_flipped k.first run (inl refl)))

    back_in : passed_alike r s ≡ false → In (flip k.first) (edges s)
    back_in e = subst (λ z. In (flip k.first) (edges z)) (ap (λ b. cond b (reverse s) s) e) first_there

    by : (a b t : Bool) → below r ≡ a → below s ≡ b → passed_alike r s ≡ t
        → passed_alike (cond a (reverse r) r) (cond b (reverse s) s) ≡ false
        → pos (unsigned_abs (signed_area r +ℤ signed_area (cond t (reverse s) s)))
        ≡ absolute_area r +ℤ absolute_area s
    by true true false h l e n = both_down (signed_area r) (signed_area s) h l
    by false false false h l e n = both_up (signed_area r) (signed_area s) h l
    by true false true h l e n = ap (λ z. pos (unsigned_abs (signed_area r +ℤ z))) (signed_area-reverse s) ∙ one_down (signed_area r) (signed_area s) h l
    by false true true h l e n = ap (λ z. pos (unsigned_abs (signed_area r +ℤ z))) (signed_area-reverse s) ∙ one_up (signed_area r) (signed_area s) h l
    by true false false h l e n = absurd (false≢true (sym n ∙ in_alike (reverse r) s (flip k.first) (in_reverse r k.first first_here) (back_in e)))
    by false true false h l e n = absurd (false≢true (sym n ∙ in_alike r (reverse s) k.first first_here (in_reverse s (flip k.first) (back_in e))))
    by false false true h l e n = absurd (false≢true (sym n ∙ e))
    by true true true h l e n = let a = alike_in r s e in absurd (false≢true (sym n ∙ in_alike (reverse r) (reverse s) (flip a.0) (in_reverse r a.0 a.1) (in_reverse s a.0 a.2)))

-- the absolute area of the joined ring is the sum of those of both
pub joined_area : (r s : List Position) → is_ring r ≡ true → is_ring s ≡ true
    → list_any (is_common s) (edges r) ≡ true → runs (is_common s) (edges r) ≤ 1
    → same_side r s ≡ false
    → absolute_area (joined r s) ≡ absolute_area r +ℤ absolute_area s
joined_area r s ring second some one sides =
    let k = shared r s ring second some one in
    ap (λ z. pos (unsigned_abs z)) (joined_signed r s ring second k) ∙ sums r s ring second k sides
