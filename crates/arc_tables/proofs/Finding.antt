-- Where a segment stands, or that it stands nowhere.
use Rattle.kit_words.proofs.Common.{◌≡◌, ℕ, zero, suc, ◌<◌, ◌≤◌, ◌+◌, ◌-◌, false, refl, ◌&&◌, sym, ap, ◌∙◌, subst, List}
use Rattle.kit_words.proofs.Common.{[], ◌∷◌, ◌++◌, take, length, get_or, arith, append_assoc, inl, inr, Contains}
use Rattle.kit_words.proofs.Common.{Option, Some, None, IfNone, ◌==◌, take_more, cases_Bool, both_ways, or_from}
use Rattle.kit_words.proofs.Common.{list_any}
use Rattle.arc_tables.proofs.Held.{none_at}
use Rattle.arc_tables.specs.Common.{links, times, one}
use Rattle.arc_tables.proofs.Moves.{links-append, times-append}
use Rattle.arc_tables.proofs.Different.{contained_any, any_contained}

-- a path without the vertex has none of its segments, so it is enough to look where it stands
pub none_unless : (a b : ℕ) (ps : List ℕ) → (Contains ps a → times a b (links ps) ≡ 0) → times a b (links ps) ≡ 0
none_unless a b ps h = elim (cases_Bool (list_any (λ k. k == a) ps)) [ inl e ↦ h (any_contained a ps e) | inr e ↦ none_at a b ps (λ m. both_ways _ e (contained_any a ps m)) ]

-- a vertex with a segment of a path stands in it
pub stands_in : (a b : ℕ) (ps : List ℕ) → 1 ≤ times a b (links ps) → Contains ps a
stands_in a b ps h = elim (cases_Bool (list_any (λ k. k == a) ps)) [ inl e ↦ any_contained a ps e | inr e ↦ absurd (omega (arith, h, none_at a b ps (λ m. both_ways _ e (contained_any a ps m)))) ]

pub if_none_map : {X : Type 0} {P Q : Type 0} (o : Option X) → (P → Q) → IfNone o P → IfNone o Q
if_none_map None f p = f p
if_none_map (Some x) f p = tt

-- one key has no edge
pub none_begun : (a b : ℕ) (ps : List ℕ) (n : ℕ) → n ≤ 1 → times a b (links (take n ps)) ≡ 0
none_begun a b ps zero l = refl
none_begun a b [] (suc n) l = refl
none_begun a b (p ∷ ps) (suc zero) l = refl
none_begun a b (p ∷ ps) (suc (suc n)) l = absurd (omega arith)

-- one more key is one more link
pub links_more : (ps : List ℕ) (at p q : ℕ) → 1 ≤ at → at < length ps → p ≡ get_or ps (at - 1) p → q ≡ get_or ps at q → links (take (at + 1) ps) ≡ links (take at ps) ++ (p, q) ∷ []
links_more ps at p q l m ep eq =
    let before : take at ps ≡ take (at - 1) ps ++ p ∷ [] = subst (λ k. take k ps ≡ take (at - 1) ps ++ p ∷ []) (omega arith) (take_more ps (at - 1) p (omega arith) ∙ ap (λ z. take (at - 1) ps ++ z ∷ []) (sym ep)) in
    ap links (take_more ps at q m ∙ ap (λ z. take at ps ++ z ∷ []) (sym eq) ∙ ap (λ z. z ++ q ∷ []) before ∙ append_assoc (take (at - 1) ps) (p ∷ []) (q ∷ []))
    ∙ links-append (take (at - 1) ps) p (q ∷ [])
    ∙ ap (λ z. links z ++ (p, q) ∷ []) (sym before)

-- one more edge, which is not of the segment
pub times_more : (a b p q : ℕ) (ps : List ℕ) (at : ℕ) → 1 ≤ at → at < length ps → p ≡ get_or ps (at - 1) p → q ≡ get_or ps at q → times a b (links (take at ps)) ≡ 0 →
    (p == a && q == b) ≡ false → (p == b && q == a) ≡ false → times a b (links (take (at + 1) ps)) ≡ 0
times_more a b p q ps at l m ep eq h f g =
    omega (arith, ap (times a b) (links_more ps at p q l m ep eq), times-append a b (links (take at ps)) ((p, q) ∷ []), ap one (or_from _ _ f g))
