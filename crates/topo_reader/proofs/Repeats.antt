-- No position stands twice: as a loop with what was seen finds it, as a test, and by places.
use Rattle.kit_words.proofs.Common.{◌≡◌, ◌≢◌, suc, Bool, true, false, cond, List, [], ◌∷◌, ◌++◌, get_or, refl, sym, ap}
use Rattle.kit_words.proofs.Common.{ap₂, ◌∙◌, arith, ◌&&◌, ◌||◌, inl, inr, Some, None, not, All, AllPairs, false≢true}
use Rattle.kit_words.proofs.Common.{list_any-append, list_any_none, All-cons, All-nil, AllPairs-cons, and_parts}
use Rattle.kit_words.proofs.Common.{or_cases, not-true}
use Rattle.grid_geometry.specs.Common.{Position, position_eq}
use Rattle.ring_machine.specs.Common.{has, is_distinct}
use Rattle.ring_machine.proofs.Common.{position_eq-true, position_eq-refl}
use Rattle.topo_reader.specs.Common.{first_repeat}

-- ---- by a loop and by a test

-- no two are equal, and none stood before
abbrev pub AreNew : List Position → List Position → Type 0
AreNew seen ps = (is_distinct ps ≡ true) × ((q : Position) → has seen q ≡ true → has ps q ≡ false)

pub none_again : (seen ps : List Position) → first_repeat seen ps ≡ None → AreNew seen ps
unfolding first_repeat
none_again seen [] h = (refl, λ q is. refl)
none_again seen (p ∷ ps) h = by (has seen p) refl h (λ n. none_again (seen ++ p ∷ []) ps n)
  where
    apart : (q : Position) → has seen p ≡ false → has seen q ≡ true → has ps q ≡ false → (position_eq q p || has ps q) ≡ false
    apart q e is out = grind (arith, position_eq-true q p)

    new : has seen p ≡ false → AreNew (seen ++ p ∷ []) ps → AreNew seen (p ∷ ps)
    new e rest =
        let mine : has ps p ≡ false = rest.1 p (list_any-append (position_eq p) seen (p ∷ []) ∙ ap₂ (λ y z. y || (z || false)) e (position_eq-refl p)) in
        (ap₂ (λ y z. not y && z) mine rest.0, λ q is. apart q e is (rest.1 q (list_any-append (position_eq q) seen (p ∷ []) ∙ ap (λ y. y || (position_eq q p || false)) is)))

    by : (b : Bool) → has seen p ≡ b → cond b (Some p) (first_repeat (seen ++ p ∷ []) ps) ≡ None →
        (first_repeat (seen ++ p ∷ []) ps ≡ None → AreNew (seen ++ p ∷ []) ps) → AreNew seen (p ∷ ps)
    by true e n rest = absurd cc
    by false e n rest = new e (rest n)

or_none : (a b : Bool) → (a || b) ≡ false → b ≡ false
or_none a b h = grind arith

only_that : (p q : Position) → (position_eq q p || false) ≡ true → q ≡ p
only_that p q h = grind (arith, position_eq-true q p)

pub no_repeat : (seen ps : List Position) → AreNew seen ps → first_repeat seen ps ≡ None
unfolding first_repeat
no_repeat seen [] new = refl
no_repeat seen (p ∷ ps) new =
    let two = and_parts (not (has ps p)) (is_distinct ps) new.0 in
    grind (arith, position_eq-refl p, new.1 p, no_repeat (seen ++ p ∷ []) ps (two.1, λ q is. later (not-true (has ps p) two.0) q is))
  where
    later : has ps p ≡ false → (q : Position) → has (seen ++ p ∷ []) q ≡ true → has ps q ≡ false
    later mine q is = elim (or_cases (has seen q) (position_eq q p || false) (sym (list_any-append (position_eq q) seen (p ∷ [])) ∙ is)) [
      | inl before ↦ or_none (position_eq q p) (has ps q) (new.1 q before)
      | inr that ↦ ap (has ps) (only_that p q that) ∙ mine
    ]

-- ---- by a test and by places

abbrev pub Differ : List Position → Type 0
Differ ps = AllPairs (λ p q. p ≢ q) ps

others : (p : Position) (ps : List Position) → has ps p ≡ false → All (λ q. p ≢ q) ps
others p [] h = All-nil (λ q. p ≢ q)
others p (q ∷ ps) h = All-cons (λ r. p ≢ r) q ps
    (λ e. false≢true (sym h ∙ ap (λ b. b || has ps p) (ap (position_eq p) (sym e) ∙ position_eq-refl p)))
    (others p ps (or_none (position_eq p q) (has ps p) h))

pub differ : (ps : List Position) → is_distinct ps ≡ true → Differ ps
differ [] h = λ i j d lt within. absurd (omega (arith, within))
differ (p ∷ ps) h =
    let two = and_parts (not (has ps p)) (is_distinct ps) h in
    AllPairs-cons (λ q r. q ≢ r) p ps (others p ps (not-true (has ps p) two.0)) (differ ps two.1)

pub not_equal : (p q : Position) → p ≢ q → position_eq p q ≡ false
not_equal p q h = grind (arith, position_eq-true p q)

pub distinct_of : (ps : List Position) → Differ ps → is_distinct ps ≡ true
distinct_of [] h = refl
distinct_of (p ∷ ps) h =
    let none : has ps p ≡ false =
    list_any_none (position_eq p) ps (λ k d lt. not_equal p (get_or ps k d) (h 0 (suc k) d (omega arith) (omega (arith, lt)))) in
    let rest : is_distinct ps ≡ true = distinct_of ps (λ i j d lt within. h (suc i) (suc j) d (omega (arith, lt)) (omega (arith, within))) in
    ap₂ (λ a b. not a && b) none rest
