-- Which segments the arcs have, and which arcs a vertex stands in, after each move.
use Rattle.kit_words.proofs.Common.{◌≡◌, ◌≢◌, ℕ, refl, sym, ap, ◌∙◌, subst, List, [], ◌∷◌, ◌⊎◌, inl, inr, arith}
use Rattle.kit_words.proofs.Common.{Contains, nat_tests, Contains-append_left, Contains-append_right}
use Rattle.kit_words.proofs.Common.{Contains-push_cases, cases_eq}
use Rattle.slab.proofs.SlabLemmas.{Contains-cons}
use Rattle.arc_tables.specs.Common.{links, times, Store, Cuts}

-- ---- which arcs a vertex stands in: at least these are listed

abbrev pub Stands : (ℕ → List ℕ) → (ℕ → List ℕ) → Type 0
Stands path stand = (j k : ℕ) → Contains (path j) k → Contains (stand k) j

-- the keys of the new arc are noted first
pub stands_cut : (i n : ℕ) (us : List ℕ) (m : ℕ) (vs : List ℕ) (s t : Store) (stand stand' : ℕ → List ℕ) → Cuts i n us m vs s t → Stands s.path stand →
    ((k j : ℕ) → Contains (stand k) j → Contains (stand' k) j) → ((k : ℕ) → Contains (m ∷ vs) k → Contains (stand' k) n) → Stands t.path stand'
stands_cut i n us m vs s t stand stand' c h kept noted j k x = elim (cases_eq j i) [
  | inl e ↦ kept k j (subst (λ z. Contains (stand k) z) (sym e) (h i k (subst (λ z. Contains z k) (sym c.was) (elim (Contains-push_cases us m k (subst (λ z. Contains z k) (ap t.path e ∙ c.first) x)) [
    | inl y ↦ Contains-append_left us (m ∷ vs) k y
    | inr y ↦ Contains-append_right us (m ∷ vs) k (0, omega arith, y)
  ]))))
  | inr f ↦ elim (cases_eq j n) [
    | inl e ↦ subst (λ z. Contains (stand' k) z) (sym e) (noted k (subst (λ z. Contains z k) (ap t.path e ∙ c.second) x))
    | inr g ↦ kept k j (h j k (subst (λ z. Contains z k) (c.others j f g) x))
  ]
]

-- vertices that are not on the path of arc i forget it
pub stands_off : (i : ℕ) (path stand stand' : ℕ → List ℕ) → ((k j : ℕ) → (j ≢ i) ⊎ Contains (path i) k → Contains (stand k) j → Contains (stand' k) j) → Stands path stand → Stands path stand'
stands_off i path stand stand' kept h j k x = elim (cases_eq j i) [
  | inl e ↦ kept k j (inr (subst (λ z. Contains (path z) k) e x)) (h j k x)
  | inr f ↦ kept k j (inl f) (h j k x)
]

-- a path without the vertex has none of its segments
pub none_at : (a b : ℕ) (ps : List ℕ) → (Contains ps a → ⊥) → times a b (links ps) ≡ 0
none_at a b [] h = refl
none_at a b (p ∷ []) h = refl
none_at a b (p ∷ q ∷ ps) h =
    let f : p ≢ a = λ e. h (0, omega arith, e) in
    let g : q ≢ a = λ e. h (1, omega arith, e) in
    grind (arith, nat_tests, none_at a b (q ∷ ps) (λ x. h (Contains-cons p a (q ∷ ps) x)))
