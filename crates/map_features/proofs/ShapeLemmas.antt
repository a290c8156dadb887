-- The features of a map, found one after another.
use Rattle.kit_words.proofs.Common.{◌≡◌, ℕ, suc, ◌+◌, ◌<◌, ◌≤◌, List, [], ◌∷◌, ◌++◌, length, map, drop, get_or, ap, ap₂, sym, ◌∙◌, refl, arith}
use Rattle.kit_words.proofs.Common.{append-nil, append_assoc, drop_all, drop-drop, length-append, length-map, next_drop}
use Rattle.ring_machine.specs.Common.{Head}
use Rattle.map_features.specs.Shapes.{Described, descriptions_from}

pub none_left : {P : Type 0} (n : ℕ) (heads : List Head) → descriptions_from {P = P} n heads [] ≡ []
none_left n [] = refl
none_left n (head ∷ heads) = refl

-- those of the first heads, and behind them those of the others
joined : {P : Type 0} (n : ℕ) (hs ks : List Head) (ps : List P)
    → descriptions_from n (hs ++ ks) ps ≡ descriptions_from n hs ps
    ++ descriptions_from (n + length (descriptions_from n hs ps)) ks (drop (length (descriptions_from n hs ps)) ps)
joined n [] ks ps =
    let same : n + 0 ≡ n = omega arith in
    ap (λ (m : ℕ). descriptions_from m ks ps) (sym same)
joined n (h ∷ hs) ks [] = sym (none_left (n + 0) ks)
joined n (h ∷ hs) ks (p ∷ ps) =
    let count : ℕ = length (descriptions_from (n + 1) hs ps) in
    let same : n + suc count ≡ n + 1 + count = omega arith in
    ap (λ (ds : List (Described _)). (n, h.id, h.properties, p) ∷ ds) (joined (n + 1) hs ks ps
    ∙ ap (λ (m : ℕ). descriptions_from (n + 1) hs ps ++ descriptions_from m ks (drop count ps)) (sym same))

module _ {A P : Type 0} (view : A → Described P) (all : List P) where
  -- what was found, and what is found of these heads behind it
  abbrev pub found_with : List A → List Head → List (Described P)
  found_with found heads = map view found ++ descriptions_from (length found) heads (drop (length found) all)

  -- the next heads were gone over
  pub found_more : (old new : List A) (hs ks : List Head) → map view new ≡ found_with old hs → found_with new ks ≡ found_with old (hs ++ ks)
  found_more old new hs ks is =
      let first : List (Described P) = descriptions_from (length old) hs (drop (length old) all) in
      let count : length new ≡ length old + length first =
      sym (length-map new view) ∙ (ap (λ (ds : List (Described P)). length ds) is ∙ (length-append (map view old) first
      ∙ ap (λ (n : ℕ). n + length first) (length-map old view))) in
      let rest : List (Described P) = descriptions_from (length old + length first) ks (drop (length first) (drop (length old) all)) in
      let moved : descriptions_from (length new) ks (drop (length new) all) ≡ rest =
      ap (λ (n : ℕ). descriptions_from n ks (drop n all)) count
      ∙ ap (λ (ps : List P). descriptions_from (length old + length first) ks ps) (sym (drop-drop (length first) (length old) all)) in
      ap₂ (λ (xs ys : List (Described P)). xs ++ ys) is moved ∙ (append_assoc (map view old) first rest
      ∙ ap (λ (ds : List (Described P)). map view old ++ ds) (sym (joined (length old) hs ks (drop (length old) all))))

  -- none are left
  pub found_all : (found : List A) → found_with found [] ≡ map view found
  found_all found = append-nil (map view found)
