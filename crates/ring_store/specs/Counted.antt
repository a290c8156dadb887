-- An index of segments that knows how many it holds.
use Rattle.std.specs.Prelude.{ℕ, ℤ, Option, refl}
use Rattle.std.specs.Coded.{Coded, code_by, coded×, coded_ℕ, coded_ℤ, coded_option}
use Rattle.std.specs.FinSet as set
use Rattle.segment_index.specs.Common.{SegmentSet, segment_code, Frame}

-- the segments that an index holds, and the frame of its cells
pub record Indexed : Type 0 where
  pub held : SegmentSet
  pub cells : Option Frame

-- a frame is stored as its five numbers
abbrev pub frame_code : Coded Frame
frame_code =
    code_by (((ℤ × ℤ) × (ℕ × ℕ)) × ℕ) (coded× (coded× (coded× coded_ℤ coded_ℤ) (coded× coded_ℕ coded_ℕ)) coded_ℕ)
    (λ f. (((f.x0, f.y0), (f.width, f.height)), f.side))
    (λ p. record { x0 = p.0.0.0; y0 = p.0.0.1; width = p.0.1.0; height = p.0.1.1; side = p.1 })
    (λ _. refl)

-- and what an index holds with it
abbrev pub indexed_code : Coded Indexed
indexed_code =
    code_by (SegmentSet × Option Frame) (coded× (set.code segment_code) (coded_option frame_code))
    (λ i. (i.held, i.cells)) (λ p. record { held = p.0; cells = p.1 }) (λ _. refl)
