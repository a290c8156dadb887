-- A vertex comes between two others.
use Rattle.kit_words.proofs.Common.{◌≡◌, ◌≢◌, ℕ, ◌+◌, ◌≤◌, ◌<◌, suc, Bool, true, cond, refl, sym, ap, ap₂, ◌∙◌, subst}
use Rattle.kit_words.proofs.Common.{List, [], ◌∷◌, ◌++◌, take, drop, length, get_or, ◌⊎◌, inl, inr, arith, Contains}
use Rattle.kit_words.proofs.Common.{drop-cons, append_assoc, ℕ_discrete, insert, take-append-drop, take_more}
use Rattle.kit_words.proofs.Common.{flat_map-append, Contains-append_left, Contains-append_right, Contains-append_cases}
use Rattle.kit_words.proofs.Common.{cases_eq, nat_tests}
use Rattle.slab.specs.Slab.{Slab, get}
use Rattle.slab.proofs.SlabLemmas.{Contains-cons_cases}
use Rattle.arc_tables.specs.Common.{Arc, Edge, links, is_seg, one, times, Once, AreApart, over, through, IsPlace}
use Rattle.arc_tables.specs.Common.{path_in}
use Rattle.arc_tables.proofs.Moves.{is_seg-flip, links-append, times-append}
use Rattle.arc_tables.proofs.Segments.{times_comm, StandsFor, once_for}
use Rattle.arc_tables.proofs.EditLemmas.{Turns, EditsArcs}

pub over-turns : (a b q : ℕ) → Turns (over a b q)
over-turns a b q e = grind (arith, is_seg-flip a b e)

-- ---- in one arc

-- where the segment does not stand, nothing changes
pub untouched : (a b q : ℕ) (es : List Edge) → times a b es ≡ 0 → through a b q es ≡ es
untouched a b q [] h = refl
untouched a b q (e ∷ es) h = grind (arith, untouched a b q es)

-- between two keys of a path, where their segment stands there alone
pub between : (a b q : ℕ) (us : List ℕ) (x y : ℕ) (vs : List ℕ) → is_seg a b (x, y) ≡ true → times a b (links (us ++ x ∷ y ∷ vs)) ≤ 1 →
    links (us ++ x ∷ q ∷ y ∷ vs) ≡ through a b q (links (us ++ x ∷ y ∷ vs))
between a b q us x y vs h once =
    let whole : links (us ++ x ∷ y ∷ vs) ≡ links (us ++ x ∷ []) ++ (x, y) ∷ links (y ∷ vs) = links-append us x (y ∷ vs) in
    let count : times a b (links (us ++ x ∷ y ∷ vs)) ≡ times a b (links (us ++ x ∷ [])) + (one (is_seg a b (x, y)) + times a b (links (y ∷ vs))) = ap (times a b) whole ∙ times-append a b (links (us ++ x ∷ [])) ((x, y) ∷ links (y ∷ vs)) in
    let here : one (is_seg a b (x, y)) ≡ 1 = ap one h in
    links-append us x (q ∷ y ∷ vs)
    ∙ sym (ap (through a b q) whole
    ∙ flat_map-append (over a b q) (links (us ++ x ∷ [])) ((x, y) ∷ links (y ∷ vs))
    ∙ ap₂ (λ u v. u ++ v) (untouched a b q (links (us ++ x ∷ [])) (omega arith)) (ap₂ (λ t z. cond t ((x, q) ∷ (q, y) ∷ []) ((x, y) ∷ []) ++ z) h (untouched a b q (links (y ∷ vs)) (omega arith))))

pub at_next : (ps : List ℕ) (at here next : ℕ) → here ≡ at → next ≡ at + 1 → at < length ps → drop here ps ≡ get_or ps at 0 ∷ drop next ps
at_next ps at here next d e l =
    let f : suc at ≡ next = omega arith in
    ap (λ k. drop k ps) d ∙ drop-cons ps at 0 l ∙ ap (λ k. get_or ps at 0 ∷ drop k ps) f

-- the path around a place
pub parted : (ps : List ℕ) (at : ℕ) → at + 1 < length ps → ps ≡ take at ps ++ get_or ps at 0 ∷ get_or ps (at + 1) 0 ∷ drop (at + 2) ps
parted ps at l =
    sym (take-append-drop at ps) ∙ ap (λ z. take at ps ++ z) (at_next ps at at (at + 1) refl refl (omega arith) ∙ ap (λ z. get_or ps at 0 ∷ z) (at_next ps (at + 1) (at + 1) (at + 2) refl (omega arith) l))

pub inserted : (ps : List ℕ) (at q : ℕ) → at + 1 < length ps → insert ps (at + 1) q ≡ take at ps ++ get_or ps at 0 ∷ q ∷ get_or ps (at + 1) 0 ∷ drop (at + 2) ps
inserted ps at q l =
    ap₂ (λ y z. y ++ q ∷ z) (take_more ps at 0 (omega arith)) (at_next ps (at + 1) (at + 1) (at + 2) refl (omega arith) l) ∙ append_assoc (take at ps) (get_or ps at 0 ∷ []) (q ∷ get_or ps (at + 1) 0 ∷ drop (at + 2) ps)

pub of_place : (a b at : ℕ) (back : Bool) (ps : List ℕ) → IsPlace ps at back a b → is_seg a b (get_or ps at 0, get_or ps (at + 1) 0) ≡ true
of_place a b at back ps p = grind (arith, nat_tests, p.here, p.next)

-- the segment stands at its place
pub placed : (a b at : ℕ) (back : Bool) (ps : List ℕ) → IsPlace ps at back a b → 1 ≤ times a b (links ps)
placed a b at back ps p =
    let x = get_or ps at 0 in
    let y = get_or ps (at + 1) 0 in
    let rest = drop (at + 2) ps in
    omega (
      arith,
      ap (λ z. times a b (links z)) (parted ps at p.within) ∙ ap (times a b) (links-append (take at ps) x (y ∷ rest)) ∙ times-append a b (links (take at ps ++ x ∷ [])) ((x, y) ∷ links (y ∷ rest)),
      ap one (of_place a b at back ps p),
    )

pub inserted_at : (a b q at : ℕ) (back : Bool) (ps : List ℕ) → IsPlace ps at back a b → times a b (links ps) ≤ 1 → links (insert ps (at + 1) q) ≡ through a b q (links ps)
inserted_at a b q at back ps p once =
    let parts = parted ps at p.within in
    ap links (inserted ps at q p.within)
    ∙ between a b q (take at ps) (get_or ps at 0) (get_or ps (at + 1) 0) (drop (at + 2) ps) (of_place a b at back ps p) (subst (λ z. times a b (links z) ≤ 1) parts once)
    ∙ ap (λ z. through a b q (links z)) (sym parts)

-- the keys are the old ones and the new one
pub in_inserted : (ps : List ℕ) (at q k : ℕ) → Contains (insert ps at q) k → Contains ps k ⊎ (k ≡ q)
in_inserted ps at q k m = elim (Contains-append_cases (take at ps) (q ∷ drop at ps) k m) [
  | inl y ↦ inl (subst (λ z. Contains z k) (take-append-drop at ps) (Contains-append_left (take at ps) (drop at ps) k y))
  | inr y ↦ elim (Contains-cons_cases q k (drop at ps) y) [
    | inl e ↦ inr (sym e)
    | inr z ↦ inl (subst (λ z. Contains z k) (take-append-drop at ps) (Contains-append_right (take at ps) (drop at ps) k z))
  ]
]

module _ {A : Type 0} where
  -- the one arc with the segment leads over q, and the others have it not
  pub inserted_arcs : (arcs arcs' : Slab (Arc A)) (i a b q at : ℕ) (back : Bool) → IsPlace (path_in (get arcs i)) at back a b → Once (λ j. path_in (get arcs j)) →
      path_in (get arcs' i) ≡ insert (path_in (get arcs i)) (at + 1) q → ((j : ℕ) → j ≢ i → get arcs' j ≡ get arcs j) → EditsArcs (over a b q) (λ j. path_in (get arcs j)) (λ j. path_in (get arcs' j))
  inserted_arcs arcs arcs' i a b q at back p once e others j =
      let here : 1 ≤ times a b (links (path_in (get arcs i))) = placed a b at back (path_in (get arcs i)) p in
      elim (cases_eq j i) [
        | inl f ↦ subst (λ k. links (path_in (get arcs' k)) ≡ through a b q (links (path_in (get arcs k)))) (sym f) (ap links e ∙ inserted_at a b q at back (path_in (get arcs i)) p (once.single a b i))
        | inr f ↦ ap (λ o. links (path_in o)) (others j f) ∙ sym (untouched a b q (links (path_in (get arcs j))) (none_besides j f here))
      ]
    where
      none_besides : (j : ℕ) → j ≢ i → 1 ≤ times a b (links (path_in (get arcs i))) → times a b (links (path_in (get arcs j))) ≡ 0
      none_besides j f here = grind (arith, once.apart a b j i)

-- ---- each segment once

module _ (a b q : ℕ) (ne : AreApart a b q) where
  -- a segment of q comes in where that of a and b was
  pub with_q : (x : ℕ) (es : List Edge) → ((y : ℕ) → times q y es ≡ 0) → times q x (through a b q es) ≤ times a b es
  with_q x [] h = omega arith
  with_q x (e ∷ es) h = grind (arith, nat_tests, times-append q x (over a b q e) (through a b q es), h x, h e.0, h e.1, ne.0, with_q x es (λ y. omega (arith, h y)))

  -- and any other stays
  without_q : (c d : ℕ) → c ≢ q → d ≢ q → (es : List Edge) → times c d (through a b q es) ≤ times c d es
  without_q c d f g [] = omega arith
  without_q c d f g (e ∷ es) = grind (arith, nat_tests, times-append c d (over a b q e) (through a b q es), without_q c d f g es)

  pub once_through : (s t : ℕ → List ℕ) → EditsArcs (over a b q) s t → ((x i : ℕ) → times q x (links (s i)) ≡ 0) → Once s → Once t
  once_through s t k new = once_for s t (λ c d. by c d (ℕ_discrete c q) (ℕ_discrete d q))
    where
      by : (c d : ℕ) → Dec (c ≡ q) → Dec (d ≡ q) → StandsFor s t c d
      by c d (yes f) _ = (a, b, λ i. omega (arith, ap (λ y. times y d (links (t i))) f, ap (times q d) (k i), with_q d (links (s i)) (λ y. new y i)))
      by c d (no f) (yes g) = (a, b, λ i. omega (arith, times_comm c d (links (t i)), ap (λ y. times y c (links (t i))) g, ap (times q c) (k i), with_q c (links (s i)) (λ y. new y i)))
      by c d (no f) (no g) = (c, d, λ i. omega (arith, ap (times c d) (k i), without_q c d f g (links (s i))))
