-- A box with one more position in it.
use Rattle.kit_words.proofs.Common.{◌≡◌, ℕ, ◌≤◌, Bool, true, false, cond, ℤ, refl, arith, unsigned_abs, int_lt, ◌≤ℤ◌}
use Rattle.kit_words.proofs.Common.{Option, Some, int_min, int_max, ints, clamps}
use Rattle.grid_geometry.specs.Common.{Position, InRange, Box, IsBox}
use Rattle.topo_reader.specs.Common.{box_with}

min_within : (a b : ℤ) (n : ℕ) → unsigned_abs a ≤ n → unsigned_abs b ≤ n → unsigned_abs (int_min a b) ≤ n
min_within a b n ha hb = by (int_lt b a)
  where
    by : (t : Bool) → unsigned_abs (cond t b a) ≤ n
    by true = hb
    by false = ha

max_within : (a b : ℤ) (n : ℕ) → unsigned_abs a ≤ n → unsigned_abs b ≤ n → unsigned_abs (int_max a b) ≤ n
max_within a b n ha hb = grind (arith, ints)

min_below_max : (a b c : ℤ) → int_min a c ≤ℤ int_max b c
min_below_max a b c = omega (arith, ints, clamps)

pub is_box_with : (x0 y0 x1 y1 : ℤ) (p : Position) (a b c d : ℤ) → IsBox (record { x0 = x0; y0 = y0; x1 = x1; y1 = y1 }) → InRange p →
    a ≡ int_min x0 p.x → b ≡ int_min y0 p.y → c ≡ int_max x1 p.x → d ≡ int_max y1 p.y → IsBox (record { x0 = a; y0 = b; x1 = c; y1 = d })
is_box_with x0 y0 x1 y1 p a b c d box here ea eb ec ed = rw (ea, eb, ec, ed) (record {
  least = record { across = min_within x0 p.x _ box.least.across here.across; upward = min_within y0 p.y _ box.least.upward here.upward };
  most = record { across = max_within x1 p.x _ box.most.across here.across; upward = max_within y1 p.y _ box.most.upward here.upward };
  across = min_below_max x0 x1 p.x;
  upward = min_below_max y0 y1 p.y;
})

pub box_with_is : (x0 y0 x1 y1 : ℤ) (rect : Option Box) (box : Box) (p : Position) (a b c d : ℤ) → rect ≡ Some box → ◌≡◌ {A = Box} (record { x0 = x0; y0 = y0; x1 = x1; y1 = y1 }) box →
    a ≡ int_min x0 p.x → b ≡ int_min y0 p.y → c ≡ int_max x1 p.x → d ≡ int_max y1 p.y → ◌≡◌ {A = Box} (record { x0 = a; y0 = b; x1 = c; y1 = d }) (box_with rect p)
box_with_is x0 y0 x1 y1 rect box p a b c d is seen ea eb ec ed = rw (is, ← seen, ea, eb, ec, ed) refl
