-- Worked examples: what is a way along a segment, and what is none.
use Rattle.kit_words.proofs.Common.{◌≡◌, ℕ, pos, refl, [], ◌∷◌, IsStrictlySortedBy, Less, Equal, Greater}
use Rattle.grid_geometry.specs.Common.{orientation, Position, position, Segment, segment}
use Rattle.segment_paths.specs.Near.{is_near, along}
use Rattle.segment_paths.specs.Common.{IsWay}

abbrev at : ℕ → ℕ → Position
at x y = position (pos x) (pos y)

-- from 0 10 to 20 7
abbrev side : Segment
side = segment (at 0 10) (at 20 7)

-- 0, 103, 266 and 409 along it
over_two : IsWay side (at 5 9 ∷ at 13 8 ∷ [])
unfolding is_near along orientation IsStrictlySortedBy
over_two = record { near = refl; onward = ((refl, (refl, (refl, tt))), ((refl, (refl, tt)), ((refl, tt), (tt, tt)))) }

over_none : IsWay side []
unfolding is_near along IsStrictlySortedBy
over_none = record { near = refl; onward = ((refl, tt), (tt, tt)) }

-- a position that is taken twice
not_twice : IsWay side (at 5 9 ∷ at 5 9 ∷ []) → ⊥
unfolding along IsStrictlySortedBy
not_twice w = let h : Equal ≡ Less = w.onward.1.0.0 in cc

-- an end that is put in
not_an_end : IsWay side (at 20 7 ∷ []) → ⊥
unfolding along IsStrictlySortedBy
not_an_end w = let h : Equal ≡ Less = w.onward.1.0.0 in cc

-- from the greater end on
not_backwards : IsWay side (at 13 8 ∷ at 5 9 ∷ []) → ⊥
unfolding along IsStrictlySortedBy
not_backwards w = let h : Greater ≡ Less = w.onward.1.0.0 in cc
