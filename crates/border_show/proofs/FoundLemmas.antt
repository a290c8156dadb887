-- The single feature that a search found is the one that is named.
use Rattle.kit_words.proofs.Common.{◌≡◌, ◌==◌, ℕ, List, [], ◌∷◌, true, Bor, None, Option, option_map, Result, Ok, Err, IfOk, subst, sym, length, arith, eqb-true}
use Rattle.std.specs.declared.alloc.Global.{Global}
use Rattle.topo_reader.specs.declared.document.RawDoc.{RawDoc}
use Rattle.map_features.specs.declared.shapes.Shape.{Shape}
use Rattle.border_show.specs.declared.finding.NoFeature.{NoFeature}
use Rattle.border_show.specs.declared.finding.Shown.{Shown}
use Rattle.border_show.specs.Found.{IsEarlier, IsShownBefore, IsShownEarlier, IsShownFeature, IsShownOf}

pub weaker : (r : Result Shown NoFeature) (P Q : Shown → Type 0) → ((shown : Shown) → P shown → Q shown) → IfOk r P → IfOk r Q
weaker (Ok shown) P Q by h = by shown h
weaker (Err fault) P Q by h = h

pub weaker_within : {E : Type 0} (r : Result (Result Shown NoFeature) E) (P Q : Shown → Type 0) → ((shown : Shown) → P shown → Q shown)
    → IfOk r (λ s. IfOk s P) → IfOk r (λ s. IfOk s Q)
weaker_within (Ok s) P Q by h = weaker s P Q by h
weaker_within (Err fault) P Q by h = h

-- of what is not there nothing is said
pub any_shown : (r : Result Shown NoFeature) → IfOk r (λ shown. Unit {0})
any_shown (Ok shown) = tt
any_shown (Err fault) = tt

pub no_map_before : (before : Option (Bor (RawDoc Global))) (text : List ℕ) (r : Result Shown NoFeature) → before ≡ None
    → IfOk r (IsEarlier (option_map (λ (b : Bor (RawDoc Global)). b.now) before) text)
no_map_before before text r is =
    subst (λ (o : Option (Bor (RawDoc Global))). IfOk r (IsEarlier (option_map (λ (b : Bor (RawDoc Global)). b.now) o) text)) (sym is) (any_shown r)

none : {X : Type 0} (found : List X) → (length found == 0) ≡ true → found ≡ []
none [] h = λ i. []
none (x ∷ xs) h = absurd (omega (arith, eqb-true (length (x ∷ xs)) 0 h))

module _ (before : Option (RawDoc Global)) (text : List ℕ) where
  pub found_here : (found : List (Shape Global)) (shown : Shown) → IsShownFeature found shown → IsShownOf before text found shown
  found_here [] shown h = absurd h
  found_here (shape ∷ shapes) shown h = h

  pub found_nowhere : (found : List (Shape Global)) (shown : Shown) → (length found == 0) ≡ true → IsEarlier before text shown → IsShownOf before text found shown
  found_nowhere found shown empty earlier = subst (λ (fs : List (Shape Global)). IsShownOf before text fs shown) (sym (none found empty)) earlier

-- the same, of a map before an edit
before_here : (found : List (Shape Global)) (shown : Shown) → IsShownEarlier found shown → IsShownBefore found shown
before_here [] shown h = absurd h
before_here (shape ∷ shapes) shown h = h

pub found_before : (found : List (Shape Global)) (r : Result Shown NoFeature) → IfOk r (IsShownEarlier found) → IfOk r (IsShownBefore found)
found_before found r h = weaker r (IsShownEarlier found) (IsShownBefore found) (before_here found) h

pub none_before : (found : List (Shape Global)) (r : Result Shown NoFeature) → (length found == 0) ≡ true → IfOk r (IsShownBefore found)
none_before found r empty = subst (λ (fs : List (Shape Global)). IfOk r (IsShownBefore fs)) (sym (none found empty)) (any_shown r)
