-- The ends of the segment of two positions.
use Rattle.kit_words.proofs.Common.{◌≡◌, ◌≢◌, Bool, true, false, refl, sym, ap, ◌∙◌, cond, ◌||◌, ◌⊎◌, inl, inr, is_gt}
use Rattle.kit_words.proofs.Common.{ordering_reverse, Ordering, Less, Equal, Greater, or_cases, or_right}
use Rattle.grid_geometry.specs.Common.{Position, position_eq, position_cmp, Segment, segment, is_end, IsSegment}
use Rattle.grid_geometry.proofs.Common.{position_cmp-exact, position_cmp-back}
use Rattle.ring_machine.proofs.Common.{position_eq-true, position_eq-refl}

pub segment_ends : (a b : Position)
    → (((segment a b).lo ≡ a) × ((segment a b).hi ≡ b)) ⊎ (((segment a b).lo ≡ b) × ((segment a b).hi ≡ a))
segment_ends a b = by (is_gt (position_cmp a b))
  where
    by : (t : Bool)
        → (((cond {A = Segment} t (record { lo = b; hi = a }) (record { lo = a; hi = b })).lo ≡ a) × ((cond {A = Segment} t (record { lo = b; hi = a }) (record { lo = a; hi = b })).hi ≡ b)) ⊎ (((cond {A = Segment} t (record { lo = b; hi = a }) (record { lo = a; hi = b })).lo ≡ b) × ((cond {A = Segment} t (record { lo = b; hi = a }) (record { lo = a; hi = b })).hi ≡ a))
    by true = inr (refl, refl)
    by false = inl (refl, refl)

-- two positions make a segment
pub two_positions : (a b : Position) → a ≢ b → IsSegment (segment a b)
two_positions a b h = by (position_cmp a b) refl
  where
    by : (o : Ordering) → position_cmp a b ≡ o
        → IsSegment (cond {A = Segment} (is_gt o) (record { lo = b; hi = a }) (record { lo = a; hi = b }))
    by Less e = e
    by Equal e = absurd (h (position_cmp-exact a b e))
    by Greater e = position_cmp-back a b ∙ ap ordering_reverse e

pub end_is : (p : Position) (t : Segment) → (t.lo ≡ p) ⊎ (t.hi ≡ p) → is_end p t ≡ true
end_is p t (inl e) = ap (λ b. b || position_eq p t.hi) (ap (position_eq p) e ∙ position_eq-refl p)
end_is p t (inr e) = or_right (position_eq p t.lo) (position_eq p t.hi) (ap (position_eq p) e ∙ position_eq-refl p)

pub is_end_of : (p : Position) (t : Segment) → is_end p t ≡ true → (t.lo ≡ p) ⊎ (t.hi ≡ p)
is_end_of p t h = elim (or_cases (position_eq p t.lo) (position_eq p t.hi) h) [
  | inl e ↦ inl (sym (position_eq-true p t.lo e))
  | inr e ↦ inr (sym (position_eq-true p t.hi e))
]

-- an end of the segment of two positions is one of them
pub end_of_two : (p a b : Position) → is_end p (segment a b) ≡ true → (p ≡ a) ⊎ (p ≡ b)
end_of_two p a b h = elim (segment_ends a b) [
  | inl e ↦ elim (is_end_of p (segment a b) h) [ inl f ↦ inl (sym f ∙ e.0) | inr f ↦ inr (sym f ∙ e.1) ]
  | inr e ↦ elim (is_end_of p (segment a b) h) [ inl f ↦ inr (sym f ∙ e.0) | inr f ↦ inl (sym f ∙ e.1) ]
]

-- and both of them are ends
pub two_ends : (a b : Position) → (is_end a (segment a b) ≡ true) × (is_end b (segment a b) ≡ true)
two_ends a b = elim (segment_ends a b) [
  | inl e ↦ (end_is a (segment a b) (inl e.0), end_is b (segment a b) (inr e.1))
  | inr e ↦ (end_is a (segment a b) (inr e.1), end_is b (segment a b) (inl e.0))
]
