-- The order of segments, and of segments with numbers of polygons.
use Rattle.kit_words.proofs.Common.{◌≡◌, Bool, true, refl, sym, ap, ap₂, ◌∙◌, ◌&&◌, ◌==◌, Ordering, Less, Equal, Greater}
use Rattle.kit_words.proofs.Common.{ordering_then, is_lt, nat_cmp, nat_cmp_total, IsTotalOrder, on_total}
use Rattle.kit_words.proofs.Common.{then_total, tied_itself, and_parts, Decides-eqb, nat_cmp-IsAntisymmetric}
use Rattle.grid_geometry.specs.Common.{position_cmp, Segment, segment_cmp, segment_eq}
use Rattle.grid_geometry.proofs.Common.{position_cmp-exact}
use Rattle.ring_machine.proofs.Common.{position_total, position_eq-refl, segment_eq-true}
use Rattle.layer_sides.specs.declared.standing.Standing.{Standing}
use Rattle.layer_sides.specs.Standing.{standing_cmp, standing_eq}

-- ---- of segments

pub segment_total : IsTotalOrder segment_cmp
segment_total = then_total (on_total (λ (s : Segment). s.lo) position_total) (on_total (λ (s : Segment). s.hi) position_total)

-- segments that compare alike are one
pub segment_exact : (s t : Segment) → segment_cmp s t ≡ Equal → s ≡ t
segment_exact s t h = both (position_cmp s.lo t.lo) (position_cmp s.hi t.hi) refl refl h
  where
    both : (a b : Ordering) → position_cmp s.lo t.lo ≡ a → position_cmp s.hi t.hi ≡ b → ordering_then a b ≡ Equal → s ≡ t
    both Equal Equal p q e = let lo = position_cmp-exact s.lo t.lo p in let hi = position_cmp-exact s.hi t.hi q in λ i. record { lo = lo i; hi = hi i }
    both Equal Less p q e = cc
    both Equal Greater p q e = cc
    both Less b p q e = cc
    both Greater b p q e = cc

pub segment_eq-refl : (s : Segment) → segment_eq s s ≡ true
segment_eq-refl s = ap₂ (λ a b. a && b) (position_eq-refl s.lo) (position_eq-refl s.hi)

-- ---- with numbers

-- a comes before b
abbrev pub standing_lt : Standing → Standing → Bool
standing_lt a b = is_lt (standing_cmp a b)

pub standing_total : IsTotalOrder standing_cmp
standing_total = then_total (on_total (λ (x : Standing). x.segment) segment_total) (on_total (λ (x : Standing). x.polygon) nat_cmp_total)

pub same_standing : (a b : Standing) → a.segment ≡ b.segment → a.polygon ≡ b.polygon → a ≡ b
same_standing a b e f = λ i. record { segment = e i; polygon = f i }

pub standing_exact : (a b : Standing) → standing_cmp a b ≡ Equal → a ≡ b
standing_exact a b h = both (segment_cmp a.segment b.segment) (nat_cmp a.polygon b.polygon) refl refl h
  where
    both : (p q : Ordering) → segment_cmp a.segment b.segment ≡ p → nat_cmp a.polygon b.polygon ≡ q → ordering_then p q ≡ Equal → a ≡ b
    both Equal Equal e f h = same_standing a b (segment_exact a.segment b.segment e) (nat_cmp-IsAntisymmetric a.polygon b.polygon f)
    both Equal Less e f h = cc
    both Equal Greater e f h = cc
    both Less q e f h = cc
    both Greater q e f h = cc

pub standing_eq-true : (a b : Standing) → standing_eq a b ≡ true → a ≡ b
standing_eq-true a b h =
    let k = and_parts (segment_eq a.segment b.segment) (a.polygon == b.polygon) h in
    same_standing a b (segment_eq-true a.segment b.segment k.0) ((Decides-eqb a.polygon b.polygon).0 k.1)

pub standing_eq-refl : (a : Standing) → standing_eq a a ≡ true
standing_eq-refl a = ap₂ (λ y z. y && z) (segment_eq-refl a.segment) ((Decides-eqb a.polygon a.polygon).1 refl)

-- of one segment the order is that of the numbers
pub by_number : (a b : Standing) → a.segment ≡ b.segment → standing_cmp a b ≡ nat_cmp a.polygon b.polygon
by_number a b e = ap (λ o. ordering_then o (nat_cmp a.polygon b.polygon)) (ap (λ z. segment_cmp z b.segment) e ∙ tied_itself segment_total b.segment)

-- what comes before has no greater segment
pub no_greater : (a b : Standing) → standing_cmp a b ≡ Less → (a.segment ≡ b.segment → segment_cmp a.segment b.segment ≡ Less) → segment_cmp a.segment b.segment ≡ Less
no_greater a b h k = by (segment_cmp a.segment b.segment) refl h
  where
    by : (o : Ordering) → segment_cmp a.segment b.segment ≡ o → ordering_then o (nat_cmp a.polygon b.polygon) ≡ Less → o ≡ Less
    by Less e f = refl
    by Equal e f = sym e ∙ k (segment_exact a.segment b.segment e)
    by Greater e f = f
