-- What is asked of borders, said of their segments and of their numbers.
use Rattle.kit_words.proofs.Common.{◌≡◌, ℕ, ◌<◌, sym, ◌∙◌, subst, List, length, map, Contains, get_or-map, get_or_default}
use Rattle.kit_words.proofs.Common.{length-map, IsStrictlySortedBy, Option, Some, None, IsNone, refl}
use Rattle.std.specs.Prelude.{IsFalse}
use Rattle.std.specs.Ordering.{nat_cmp}
use Rattle.grid_geometry.specs.Common.{conflict}
use Rattle.layer_sides.specs.Borders.{Bordering}
use Rattle.layer_sides.specs.Under.{AreApart, AreAscending, AreSorted, NoneConflict, border_at, bounds_of, segments_of}

-- a border at a place
border_there : (bs : List Bordering) (k : ℕ) → k < length bs → Contains bs (border_at bs k)
border_there bs k l = (k, l, get_or_default bs k _ _ l)

below : {A : Type 0} (f : Bordering → A) (bs : List Bordering) (k : ℕ) → k < length (map f bs) → k < length bs
below f bs k l = subst (λ n. k < n) (length-map bs f) l

pub none_conflict : (bs : List Bordering) → AreApart bs → NoneConflict (segments_of bs)
none_conflict bs h s t c d =
    let i = below (λ b. b.segment) bs c.0 c.1 in
    let j = below (λ b. b.segment) bs d.0 d.1 in
    subst (λ z. IsFalse (conflict z t)) (sym (get_or-map (λ (b : Bordering). b.segment) bs c.0 _ s i) ∙ c.2)
    (subst (λ z. IsFalse (conflict (border_at bs c.0).segment z)) (sym (get_or-map (λ (b : Bordering). b.segment) bs d.0 _ t j) ∙ d.2)
    (h (border_at bs c.0) (border_at bs d.0) (border_there bs c.0 i) (border_there bs d.0 j)))

pub all_ascend : (bs : List Bordering) → AreSorted bs → AreAscending (bounds_of bs)
all_ascend bs h k d l =
    let i = below (λ b. b.bounds) bs k l in
    subst (IsStrictlySortedBy nat_cmp) (sym (get_or-map (λ (b : Bordering). b.bounds) bs k _ d i)) (h (border_at bs k) (border_there bs k i))

-- what is none of the values that there could be is none
pub none_of : {X : Type 0} (o : Option X) → ((x : X) → o ≡ Some x → ⊥) → IsNone o
none_of None h = refl
none_of (Some x) h = absurd (h x refl)
