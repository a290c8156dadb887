-- Sums and differences of the code, beside a window.
use Rattle.kit_words.proofs.Common.{◌≡◌, ◌≤◌, ◌≤ℤ◌, ◌+ℤ◌, ◌-ℤ◌, ◌*ℤ◌, true, ℕ, ℤ, pos, unsigned_abs, w64, to_z}
use Rattle.kit_words.proofs.Common.{of_z, arith, ints, int_le, int_max, ◌∙◌, subst, sym}

-- a side, a margin further out
pub further_out : (side margin : ℤ) → unsigned_abs side ≤ 1000000000000 → pos 1 ≤ℤ margin → margin ≤ℤ pos 600000000000
    → to_z w64 (of_z w64 (to_z w64 (of_z w64 side) -ℤ to_z w64 (of_z w64 margin))) ≡ side -ℤ margin
further_out side margin h low high = omega (arith, ints, h, low, high)

-- an extent with a margin on both sides
pub extent_about : (least most margin : ℤ) → unsigned_abs least ≤ 1000000000000 → unsigned_abs most ≤ 1000000000000 → pos 1 ≤ℤ margin → margin ≤ℤ pos 600000000000
    → to_z w64 (of_z w64 (to_z w64 (of_z w64 (to_z w64 (of_z w64 most) -ℤ to_z w64 (of_z w64 least))) +ℤ to_z w64 (of_z w64 (pos 2 *ℤ to_z w64 (of_z w64 margin)))))
    ≡ most -ℤ least +ℤ pos 2 *ℤ margin
extent_about least most margin h k low high = omega (arith, ints, h, k, low, high)

pub starts_before : (least margin : ℤ) → pos 1 ≤ℤ margin → (least -ℤ margin) ≤ℤ least
starts_before least margin low = omega (arith, ints, low)

pub ends_behind : (least most margin : ℤ) → pos 1 ≤ℤ margin → most ≤ℤ (least -ℤ margin +ℤ (most -ℤ least +ℤ pos 2 *ℤ margin))
ends_behind least most margin low = omega (arith, ints, low)

-- a test of the code, as what it says
pub passed : (a b : ℤ) → int_le a b ≡ true → a ≤ℤ b
passed a b h = grind (arith, ints)

pub passes : (a b : ℤ) → a ≤ℤ b → int_le a b ≡ true
passes a b h = grind (arith, ints)

-- a coordinate of a middle, less half of a width
pub half_off : (at middle half : ℤ) (d : ℕ) → at ≡ middle → unsigned_abs middle ≤ 1000000000000 → unsigned_abs half ≤ 4000000000000 → unsigned_abs half ≡ d → pos 0 ≤ℤ half
    → to_z w64 (of_z w64 (to_z w64 (of_z w64 at) -ℤ to_z w64 (of_z w64 half))) ≡ middle -ℤ pos d
half_off at middle half d is range small size sign = omega (arith, ints, is, range, small, size, sign)

pub width_kept : (width : ℤ) → pos 1 ≤ℤ width → width ≤ℤ pos 4000000000000 → to_z w64 (of_z w64 width) ≡ width
width_kept width low high = omega (arith, ints, low, high)

extent_kept : (a : ℤ) → pos 0 ≤ℤ a → a ≤ℤ pos 2000000000000 → to_z w64 (of_z w64 a) ≡ a
extent_kept a low high = omega (arith, ints, low, high)

-- the greater of two extents
pub record IsExtent (a : ℤ) : Type 0 where
  pub least : pos 0 ≤ℤ a
  pub most : a ≤ℤ pos 2000000000000
  pub same : to_z w64 (of_z w64 a) ≡ a

greater_of : (a b : ℤ) → (pos 0 ≤ℤ a) × (a ≤ℤ pos 2000000000000) → (pos 0 ≤ℤ b) × (b ≤ℤ pos 2000000000000)
    → (pos 0 ≤ℤ int_max a b) × (int_max a b ≤ℤ pos 2000000000000)
greater_of a b (h, i) (k, j) = (grind (arith, ints), grind (arith, ints))

pub greater_extent : (r a b : ℤ) → r ≡ int_max (to_z w64 (of_z w64 a)) (to_z w64 (of_z w64 b)) → (pos 0 ≤ℤ a) × (a ≤ℤ pos 2000000000000)
    → (pos 0 ≤ℤ b) × (b ≤ℤ pos 2000000000000) → IsExtent r
greater_extent r a b e h k =
    let both = greater_of a b h k in
    rw (e ∙ (λ i. int_max (extent_kept a h.0 h.1 i) (extent_kept b k.0 k.1 i))) (record { least = both.0; most = both.1; same = extent_kept (int_max a b) both.0 both.1 })

-- the greater of how wide and how high a box is, as the code answers it
pub extent_answered : (r x0 x1 y0 y1 : ℤ)
    → r ≡ int_max (to_z w64 (of_z w64 (to_z w64 (of_z w64 x1) -ℤ to_z w64 (of_z w64 x0)))) (to_z w64 (of_z w64 (to_z w64 (of_z w64 y1) -ℤ to_z w64 (of_z w64 y0))))
    → unsigned_abs x0 ≤ 1000000000000 → unsigned_abs x1 ≤ 1000000000000 → x0 ≤ℤ x1
    → unsigned_abs y0 ≤ 1000000000000 → unsigned_abs y1 ≤ 1000000000000 → y0 ≤ℤ y1
    → (pos 0 ≤ℤ to_z w64 (of_z w64 r)) × (to_z w64 (of_z w64 r) ≤ℤ pos 2000000000000)
extent_answered r x0 x1 y0 y1 e left right across lower upper upward =
    let kept = greater_extent r (to_z w64 (of_z w64 x1) -ℤ to_z w64 (of_z w64 x0)) (to_z w64 (of_z w64 y1) -ℤ to_z w64 (of_z w64 y0)) e
    (omega (arith, ints, left, right, across), omega (arith, ints, left, right, across))
    (omega (arith, ints, lower, upper, upward), omega (arith, ints, lower, upper, upward)) in
    subst (λ z. (pos 0 ≤ℤ z) × (z ≤ℤ pos 2000000000000)) (sym kept.same) (kept.least, kept.most)
