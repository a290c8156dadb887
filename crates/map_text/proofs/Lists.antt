-- What holds of each element of a list, and where an element stands.
use Rattle.kit_words.proofs.Common.{refl, sym, subst, List, [], ◌∷◌, inl, inr, flat_map, AllByRecursion, all_joined}
use Rattle.ring_machine.proofs.Common.{In, in-append, in_left, in_right, Rotated}

-- ---- each element

pub each-flat_map : {A B : Type 0} (P : B → Type 0) (f : A → List B) (xs : List A)
    → ((x : A) → In x xs → AllByRecursion P (f x)) → AllByRecursion P (flat_map f xs)
each-flat_map P f [] h = tt
each-flat_map P f (x ∷ xs) h = all_joined P (f x) (flat_map f xs) (h x (inl refl)) (each-flat_map P f xs (λ y i. h y (inr i)))

-- ---- lists begun elsewhere

pub rotated-sym : {A : Type 0} {xs ys : List A} → Rotated xs ys → Rotated ys xs
rotated-sym r = record { us = r.vs; vs = r.us; from = r.to; to = r.from }

pub in_rotated : {A : Type 0} (a : A) (xs ys : List A) → Rotated xs ys → In a xs → In a ys
in_rotated a xs ys r h = subst (In a) (sym r.to) (elim (in-append a r.us r.vs (subst (In a) r.from h)) [
  | inl k ↦ in_right a r.vs r.us k
  | inr k ↦ in_left a r.vs r.us k
])
