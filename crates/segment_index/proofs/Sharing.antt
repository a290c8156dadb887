-- Boxes that meet share a cell.
use Rattle.kit_words.proofs.Common.{◌≡◌, ◌≤◌, ◌+◌, ◌≤ℤ◌, ℤ, ℕ, max, Bool, true, false, cond, ◌&&◌, refl, ap, arith}
use Rattle.kit_words.proofs.Common.{int_le, None, Some, int_min, int_max, ints}
use Rattle.grid_geometry.specs.Common.{Segment, Box, box_of, boxes_meet}
use Rattle.segment_sets.specs.Common.{Lines, AreMonotone, cover_of, within, has_cell, shared}
use Rattle.segment_index.specs.Common.{Frame, IsFrame, lines_of, shared_cells, times_by}
use Rattle.segment_sets.proofs.Common.{meet_parts, le_from, line-mono, total-one}

-- the only fact about columns and rows that a grid rests on
pub frame-monotone : (f : Frame) → IsFrame f → AreMonotone (lines_of f)
frame-monotone f ok = record {
  across = λ a b h. line-mono f.side f.x0 f.width a b ok.wide h;
  upward = λ a b h. line-mono f.side f.y0 f.height a b ok.high h;
}

pub ordered : (a b : ℤ) → int_min a b ≤ℤ int_max a b
ordered a b = grind (arith, ints)

-- two stretches of lines that meet have a common one
stretches : (a b c d : ℕ) → a ≤ b → c ≤ d → a ≤ d → c ≤ b → (within a (b + 1) (max a c) ≡ true) × (within c (d + 1) (max a c) ≡ true)
stretches a b c d h i j k = (grind arith, grind arith)

-- a cell that the covers of boxes which meet have in common
pub common_cell : (l : Lines) → AreMonotone l → (r q : Box) → l.column r.x0 ≤ l.column r.x1 → l.row r.y0 ≤ l.row r.y1 → l.column q.x0 ≤ l.column q.x1 → l.row q.y0 ≤ l.row q.y1 → boxes_meet r q ≡ true
    → (i : ℕ) × (j : ℕ) × (has_cell (cover_of l r) i j ≡ true) × (has_cell (cover_of l q) i j ≡ true)
common_cell l mono r q rx ry qx qy h =
    let p = meet_parts (int_le r.x0 q.x1) (int_le q.x0 r.x1) (int_le r.y0 q.y1) (int_le q.y0 r.y1) h in
    let x = stretches (l.column r.x0) (l.column r.x1) (l.column q.x0) (l.column q.x1) rx qx (mono.across _ _ (le_from _ _ p.0)) (mono.across _ _ (le_from _ _ p.1)) in
    let y = stretches (l.row r.y0) (l.row r.y1) (l.row q.y0) (l.row q.y1) ry qy (mono.upward _ _ (le_from _ _ p.2)) (mono.upward _ _ (le_from _ _ p.3)) in
    (max (l.column r.x0) (l.column q.x0), max (l.row r.y0) (l.row q.y0), (λ k. x.0 k && y.0 k), (λ k. x.1 k && y.1 k))

-- boxes that meet share a cell
pub meeting-shares : (l : Lines) → AreMonotone l → (r q : Box) → r.x0 ≤ℤ r.x1 → r.y0 ≤ℤ r.y1 → q.x0 ≤ℤ q.x1 → q.y0 ≤ℤ q.y1 → boxes_meet r q ≡ true → 1 ≤ shared (cover_of l r) (cover_of l q)
meeting-shares l mono r q rx ry qx qy h =
    let k = common_cell l mono r q (mono.across _ _ rx) (mono.upward _ _ ry) (mono.across _ _ qx) (mono.upward _ _ qy) h in
    let one : cond {A = ℕ} (has_cell (cover_of l r) k.0 k.1) 1 0 ≡ 1 = ap (λ b. cond {A = ℕ} b 1 0) k.2 in
    omega (arith, one, total-one (λ i j. cond (has_cell (cover_of l r) i j) 1 0) (cover_of l q) k.0 k.1 k.3)

-- an index without cells gives no segment more often than one with cells may, whatever these are
pub without_cells : (f : Frame) → IsFrame f → (t : Segment) (r : Box) → r.x0 ≤ℤ r.x1 → r.y0 ≤ℤ r.y1 → times_by None t r ≤ times_by (Some f) t r
without_cells f ok t r across upward = step (boxes_meet (box_of t) r) refl
  where
    step : (b : Bool) → boxes_meet (box_of t) r ≡ b → cond b 1 0 ≤ shared_cells f t r
    step true e = meeting-shares (lines_of f) (frame-monotone f ok) (box_of t) r (ordered t.lo.x t.hi.x) (ordered t.lo.y t.hi.y) across upward e
    step false e = omega arith
