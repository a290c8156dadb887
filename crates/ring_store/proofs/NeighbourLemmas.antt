-- What stands around a vertex, from the arcs that it stands in.
use Rattle.kit_words.proofs.Common.{◌≡◌, ◌≢◌, ℕ, ◌≤◌, ◌<◌, ◌+◌, ◌-◌, false, refl, sym, ap, ◌∙◌, subst, List, [], ◌∷◌}
use Rattle.kit_words.proofs.Common.{◌++◌, take, length, get_or, ◌⊎◌, inl, inr, ◌↔◌, arith, Contains, ◌==◌, flat_map}
use Rattle.kit_words.proofs.Common.{list_any, cases_Bool, both_ways, Decides-eqb, nat_tests, take_more, append-nil}
use Rattle.kit_words.proofs.Common.{flat_map-append, Contains-append_left, Contains-append_right, Contains-append_cases}
use Rattle.slab.proofs.SlabLemmas.{Contains-cons, Contains-cons_cases}
use Rattle.ring_store.specs.Common.{Neighbours, None, One, Two, More, noted, noted_all, other_end, other_ends}
use Rattle.ring_store.specs.Common.{ends_among}
use Rattle.arc_tables.specs.Common.{Edge, links, times, has_segment}
use Rattle.arc_tables.proofs.Finding.{links_more}
use Rattle.arc_tables.proofs.Common.{any_contained, contained_any, segment_times, times_segment}

-- ---- what was seen

pub noted_all-append : (n : Neighbours) (xs ys : List ℕ) → noted_all n (xs ++ ys) ≡ noted_all (noted_all n xs) ys
noted_all-append n [] ys = refl
noted_all-append n (x ∷ xs) ys = noted_all-append (noted n x) xs ys

-- a path has one edge more
pub ends_more : (k : ℕ) (ps : List ℕ) (at p q : ℕ) → 1 ≤ at → at < length ps → p ≡ get_or ps (at - 1) p → q ≡ get_or ps at q →
    other_ends k (links (take at ps)) ++ other_end k (p, q) ≡ other_ends k (links (take (at + 1) ps))
ends_more k ps at p q l m ep eq =
    ap (λ z. other_ends k (links (take at ps)) ++ z) (sym (append-nil (other_end k (p, q))))
    ∙ sym (flat_map-append (other_end k) (links (take at ps)) ((p, q) ∷ []))
    ∙ ap (other_ends k) (sym (links_more ps at p q l m ep eq))

-- and the arcs are one arc more
pub ends_among_more : (k : ℕ) (path : ℕ → List ℕ) (among : List ℕ) (i : ℕ) → i < length among →
    ends_among path (take i among) k ++ other_ends k (links (path (get_or among i 0))) ≡ ends_among path (take (i + 1) among) k
ends_among_more k path among i l =
    let f : ℕ → List ℕ = λ j. other_ends k (links (path j)) in
    ap (λ z. ends_among path (take i among) k ++ z) (sym (append-nil (f (get_or among i 0))))
    ∙ sym (flat_map-append f (take i among) (get_or among i 0 ∷ []))
    ∙ ap (λ z. ends_among path z k) (sym (take_more among i 0 l))

-- what was seen, with one edge more
pub path_more : (k : ℕ) (n : Neighbours) (ps : List ℕ) (at p q : ℕ) → 1 ≤ at → at < length ps → p ≡ get_or ps (at - 1) p → q ≡ get_or ps at q →
    noted_all (noted_all n (other_ends k (links (take at ps)))) (other_end k (p, q)) ≡ noted_all n (other_ends k (links (take (at + 1) ps)))
path_more k n ps at p q l m ep eq = sym (noted_all-append n (other_ends k (links (take at ps))) (other_end k (p, q))) ∙ ap (noted_all n) (ends_more k ps at p q l m ep eq)

-- and with one arc more
pub among_more : (k : ℕ) (n : Neighbours) (path : ℕ → List ℕ) (among : List ℕ) (i : ℕ) → i < length among →
    noted_all (noted_all n (ends_among path (take i among) k)) (other_ends k (links (path (get_or among i 0)))) ≡ noted_all n (ends_among path (take (i + 1) among) k)
among_more k n path among i l = sym (noted_all-append n (ends_among path (take i among) k) (other_ends k (links (path (get_or among i 0))))) ∙ ap (noted_all n) (ends_among_more k path among i l)

-- exactly these have the property, or more than two do
abbrev pub Sees : (ℕ → Type 0) → Neighbours → Type 0
Sees P None = (x : ℕ) → ¬ (P x)
Sees P (One a) = (x : ℕ) → P x ↔ (x ≡ a)
Sees P (Two a b) = (a ≢ b) × ((x : ℕ) → P x ↔ ((x ≡ a) ⊎ (x ≡ b)))
Sees P More = (a : ℕ) × (b : ℕ) × (c : ℕ) × ((a ≢ b) × (a ≢ c) × (b ≢ c)) × (P a × P b × P c)

pub sees_alike : (P Q : ℕ → Type 0) → ((x : ℕ) → P x → Q x) → ((x : ℕ) → Q x → P x) → (n : Neighbours) → Sees P n → Sees Q n
sees_alike P Q f g None h = λ x q. h x (g x q)
sees_alike P Q f g (One a) h = λ x. ((λ q. (h x).0 (g x q)), (λ e. f x ((h x).1 e)))
sees_alike P Q f g (Two a b) h = (h.0, λ x. ((λ q. (h.1 x).0 (g x q)), (λ e. f x ((h.1 x).1 e))))
sees_alike P Q f g More h = (h.0, h.1, h.2, h.3, (f h.0 h.4.0, f h.1 h.4.1, f h.2 h.4.2))

ne_from : (a b : ℕ) → (a == b) ≡ false → a ≢ b
ne_from a b e f = both_ways _ e ((Decides-eqb a b).1 f)

-- one more is seen
pub sees_more : (P : ℕ → Type 0) (n : Neighbours) (x : ℕ) → Sees P n → Sees (λ y. P y ⊎ (y ≡ x)) (noted n x)
sees_more P None x h = λ y. ((λ k. elim k [ inl p ↦ absurd (h y p) | inr e ↦ e ]), (λ e. inr e))
sees_more P (One a) x h = elim (cases_Bool (a == x)) [
  | inl e ↦ let same : a ≡ x = (Decides-eqb a x).0 e in rw e (λ y. ((λ k. elim k [ inl p ↦ (h y).0 p | inr f ↦ f ∙ sym same ]), (λ f. inr (f ∙ same))))
  | inr e ↦ rw e (ne_from a x e, λ y. ((λ k. elim k [ inl p ↦ inl ((h y).0 p) | inr f ↦ inr f ]), (λ k. elim k [ inl f ↦ inl ((h y).1 f) | inr f ↦ inr f ])))
]
sees_more P (Two a b) x h = elim (cases_Bool (a == x)) [
  | inl e ↦ let same : a ≡ x = (Decides-eqb a x).0 e in rw e (h.0, λ y. ((λ k. elim k [ inl p ↦ (h.1 y).0 p | inr g ↦ inl (g ∙ sym same) ]), (λ k. inl ((h.1 y).1 k))))
  | inr e ↦ elim (cases_Bool (b == x)) [
    | inl f ↦ let same : b ≡ x = (Decides-eqb b x).0 f in rw (e, f) (h.0, λ y. ((λ k. elim k [ inl p ↦ (h.1 y).0 p | inr g ↦ inr (g ∙ sym same) ]), (λ k. inl ((h.1 y).1 k))))
    | inr f ↦ rw (e, f) (a, b, x, (h.0, ne_from a x e, ne_from b x f), (inl ((h.1 a).1 (inl refl)), inl ((h.1 b).1 (inr refl)), inr refl))
  ]
]
sees_more P More x h = (h.0, h.1, h.2, h.3, (inl h.4.0, inl h.4.1, inl h.4.2))

pub sees_all : (P : ℕ → Type 0) (n : Neighbours) (xs : List ℕ) → Sees P n → Sees (λ y. P y ⊎ Contains xs y) (noted_all n xs)
sees_all P n [] h = sees_alike P (λ y. P y ⊎ Contains [] y) (λ y p. inl p) (λ y k. elim k [ inl p ↦ p | inr m ↦ absurd (omega (arith, m.1)) ]) n h
sees_all P n (x ∷ xs) h =
    sees_alike (λ y. (P y ⊎ (y ≡ x)) ⊎ Contains xs y) (λ y. P y ⊎ Contains (x ∷ xs) y)
    (λ y k. elim k [ inl j ↦ elim j [ inl p ↦ inl p | inr e ↦ inr (0, omega arith, sym e) ] | inr m ↦ inr (Contains-cons x y xs m) ])
    (λ y k. elim k [ inl p ↦ inl (inl p) | inr m ↦ elim (Contains-cons_cases x y xs m) [ inl e ↦ inl (inr (sym e)) | inr j ↦ inr j ] ])
    (noted_all (noted n x) xs) (sees_all (λ y. P y ⊎ (y ≡ x)) (noted n x) xs (sees_more P n x h))

pub sees_list : (xs : List ℕ) → Sees (Contains xs) (noted_all None xs)
sees_list xs = sees_alike (λ y. ⊥ ⊎ Contains xs y) (Contains xs) (λ y k. elim k [ inl p ↦ absurd p | inr m ↦ m ]) (λ y m. inr m) (noted_all None xs) (sees_all (λ y. ⊥) None xs (λ y p. p))

-- ---- the other ends

-- the other ends at k are the vertices that have a segment with it
ends_any : (k x : ℕ) (es : List Edge) → list_any (λ y. y == x) (other_ends k es) ≡ has_segment k x es
ends_any k x [] = refl
ends_any k x (e ∷ es) = grind (arith, nat_tests, ends_any k x es)

pub times_ends : (k x : ℕ) (es : List Edge) → 1 ≤ times k x es → Contains (other_ends k es) x
times_ends k x es h = any_contained x (other_ends k es) (ends_any k x es ∙ times_segment k x es h)

pub ends_times : (k x : ℕ) (es : List Edge) → Contains (other_ends k es) x → 1 ≤ times k x es
ends_times k x es m = segment_times k x es (sym (ends_any k x es) ∙ contained_any x (other_ends k es) m)

-- an element of a flat_map is one of an element's
pub in_flat_map : {X : Type 0} (f : X → List ℕ) (xs : List X) (y : ℕ) → Contains (flat_map f xs) y → (x : X) × Contains xs x × Contains (f x) y
in_flat_map f [] y h = absurd (omega (arith, h.1))
in_flat_map f (x ∷ xs) y h = elim (Contains-append_cases (f x) (flat_map f xs) y h) [
  | inl m ↦ (x, (0, omega arith, refl), m)
  | inr m ↦ let k = in_flat_map f xs y m in (k.0, Contains-cons x k.0 xs k.1, k.2)
]

pub to_flat_map : {X : Type 0} (f : X → List ℕ) (xs : List X) (x : X) (y : ℕ) → Contains xs x → Contains (f x) y → Contains (flat_map f xs) y
to_flat_map f [] x y m h = absurd (omega (arith, m.1))
to_flat_map f (z ∷ xs) x y m h = elim (Contains-cons_cases z x xs m) [
  | inl e ↦ Contains-append_left (f z) (flat_map f xs) y (subst (λ w. Contains (f w) y) (sym e) h)
  | inr k ↦ Contains-append_right (f z) (flat_map f xs) y (to_flat_map f xs x y k h)
]
