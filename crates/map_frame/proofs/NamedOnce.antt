-- A ring's number stands in one feature alone, where the numbers of a document's rings are distinct.
use Rattle.kit_words.proofs.Common.{◌≡◌, ℕ, zero, suc, Bool, true, false, refl, sym, ap, ◌∙◌, subst, cond, List, []}
use Rattle.kit_words.proofs.Common.{◌∷◌, ◌++◌, Option, Some, None, option_map, ◌==◌, slice_get, unwrap_or, flat_map}
use Rattle.kit_words.proofs.Common.{find, Decides-eqb}
use Rattle.ring_machine.specs.Common.{FeatureOf, DocumentOf, features, feature, rings, rings_of, are_distinct}
use Rattle.ring_machine.proofs.Common.{In, in_left, in_right, distinct_parts, slice-in}
use Rattle.map_frame.specs.Common.{RingName, element}
use Rattle.map_frame.proofs.NamedForgotten.{element_is}

pub same_some : {X : Type 0} (x y : X) → Some x ≡ Some y → x ≡ y
same_some x y e = ap (λ o. unwrap_or o x) e

pub rest_distinct : (us vs : List ℕ) → are_distinct (us ++ vs) ≡ true → are_distinct vs ≡ true
rest_distinct us vs d = (distinct_parts us vs d).right

pub in_part : {X Y : Type 0} (g : X → List Y) (xs : List X) (i : ℕ) (x : X) (r : Y) → slice_get xs i ≡ Some x
    → In r (g x) → In r (flat_map g xs)
in_part g [] i x r e k = absurd cc
in_part g (y ∷ xs) zero x r e k = in_left r (g y) (flat_map g xs) (subst (λ z. In r (g z)) (sym (same_some y x e)) k)
in_part g (y ∷ xs) (suc i) x r e k = in_right r (g y) (flat_map g xs) (in_part g xs i x r e k)

-- two places with the same number are one
pub one_part : {X : Type 0} (g : X → List ℕ) (xs : List X) → are_distinct (flat_map g xs) ≡ true → (i j : ℕ) (x y : X)
    (r : ℕ) → slice_get xs i ≡ Some x → slice_get xs j ≡ Some y → In r (g x) → In r (g y) → i ≡ j
one_part g [] d i j x y r e f k l = absurd cc
one_part g (z ∷ xs) d zero zero x y r e f k l = refl
one_part g (z ∷ xs) d zero (suc j) x y r e f k l =
    absurd ((distinct_parts (g z) (flat_map g xs) d).apart r (subst (λ w. In r (g w)) (sym (same_some z x e)) k) (in_part g xs j y r f l))
one_part g (z ∷ xs) d (suc i) zero x y r e f k l =
    absurd ((distinct_parts (g z) (flat_map g xs) d).apart r (subst (λ w. In r (g w)) (sym (same_some z y f)) l) (in_part g xs i x r e k))
one_part g (z ∷ xs) d (suc i) (suc j) x y r e f k l =
    ap suc (one_part g xs (rest_distinct (g z) (flat_map g xs) d) i j x y r e f k l)

-- where an element that was found stands, and that it passes the test
pub found_at : {X : Type 0} (p : X → Bool) (xs : List X) (x : X) → find p xs ≡ Some x
    → (i : ℕ) × (slice_get xs i ≡ Some x) × (p x ≡ true)
found_at p [] x e = absurd cc
found_at {X} p (y ∷ xs) x e = by (p y) refl e (found_at p xs x)
  where
    by : (b : Bool) → p y ≡ b → cond (p y) (Some y) (find p xs) ≡ Some x
        → (find p xs ≡ Some x → (i : ℕ) × (slice_get xs i ≡ Some x) × (p x ≡ true))
        → (i : ℕ) × (slice_get (y ∷ xs) i ≡ Some x) × (p x ≡ true)
    by true t h rest = let k : Some y ≡ Some x = rw t at h in
        (0, k, ap p (sym (same_some y x k)) ∙ t)
    by false t h rest = let k : find p xs ≡ Some x = rw t at h in
        let m = rest k in (suc m.0, m.1, m.2)

-- the number of the ring with this place, of a feature that may be there
abbrev pub ring_of : Option (FeatureOf ℕ) → RingName → Option ℕ
ring_of f o = element (element (option_map (λ x. x.polygons) f) o.polygon) o.ring

-- the feature that a ring's number was found in
pub ring_in : (f : Option (FeatureOf ℕ)) (o : RingName) (r : ℕ) → ring_of f o ≡ Some r
    → (x : FeatureOf ℕ) × (f ≡ Some x) × In r (rings_of x)
ring_in None o r e = absurd cc
ring_in (Some x) o r e =
    let a = element_is (slice_get x.polygons o.polygon) o.ring r e in
    (x, refl, in_part (λ (polygon : List ℕ). polygon) x.polygons o.polygon a.0 r a.1 (slice-in a.0 o.ring r a.2))

-- a ring stands in one feature
pub one_owner : (d : DocumentOf ℕ) → are_distinct (rings d) ≡ true → (m n : ℕ) (f g : FeatureOf ℕ) (r : ℕ)
    → feature d m ≡ Some f → feature d n ≡ Some g → In r (rings_of f) → In r (rings_of g) → m ≡ n
one_owner d once m n f g r e h i j =
    let a = found_at (λ x. x.number == m) (features d) f e in
    let b = found_at (λ x. x.number == n) (features d) g h in
    let places = one_part rings_of (features d) once a.0 b.0 f g r a.1 b.1 i j in
    let same : f ≡ g = same_some f g (sym a.1 ∙ ap (slice_get (features d)) places ∙ b.1) in
    sym ((Decides-eqb f.number m).0 a.2) ∙ ap (λ x. x.number) same ∙ (Decides-eqb g.number n).0 b.2
