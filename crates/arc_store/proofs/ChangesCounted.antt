-- How many positions there are in features that are exchanged.
use Rattle.kit_words.proofs.Common.{◌≡◌, ◌≤◌, ◌<◌, ◌+◌, ℕ, true, false, refl, sym, ap, ap₂, ◌∙◌, ◌++◌, ◌&&◌, ◌||◌, ◌==◌}
use Rattle.kit_words.proofs.Common.{not, List, [], ◌∷◌, map, length, Option, Some, None, option_map, flat_map}
use Rattle.kit_words.proofs.Common.{AllByRecursion, sum_by-append, sum_by-cons}
use Rattle.ring_machine.specs.Common.{Feature, Document, size, are_distinct}
use Rattle.edit_records.specs.Common.{LayerTree, Fills, exchanged, had_before, has_place, numbers_placed, weight}
use Rattle.edit_records.specs.Common.{weights}
use Rattle.edit_records.proofs.ExchangedSizes.{exchanged-size, had-within}
use Rattle.feature_exchange.specs.Common.{feature_seen, seen, length_of, asked_rings}
use Rattle.feature_exchange.specs.declared.change.Change.{Change}
use Rattle.feature_exchange.specs.declared.change.WholeFeature.{WholeFeature}

module _ {A : Type 0} where
  asked_weight : (c : Change A) → length_of (asked_rings c) ≡ weight (option_map (feature_seen c.number) c.was)
  asked_weight c = by c.was refl
    where
      by : (o : Option (WholeFeature A)) → c.was ≡ o → length_of (asked_rings c) ≡ weight (option_map (feature_seen c.number) o)
      by None e = rw e refl
      by (Some w) e = rw e refl

  -- the positions of all rings that are to come
  pub weights_asked : (cs : List (Change A)) → weights (seen cs) ≡ length_of (flat_map asked_rings cs)
  weights_asked [] = refl
  weights_asked (c ∷ cs) =
      sum_by-cons (λ (x : ℕ × Option Feature). weight x.1) (c.number, option_map (feature_seen c.number) c.was) (seen cs)
      ∙ ap (λ z. z + weights (seen cs)) (sym (asked_weight c))
      ∙ ap (λ z. length_of (asked_rings c) + z) (weights_asked cs)
      ∙ sym (sum_by-append length (asked_rings c) (flat_map asked_rings cs))

  numbers_seen : (cs : List (Change A)) → map (λ c. c.0) (seen cs) ≡ map (λ c. c.number) cs
  numbers_seen [] = refl
  numbers_seen (c ∷ cs) = ap (λ z. c.number ∷ z) (numbers_seen cs)

  places_seen : (trees : List LayerTree) (next : ℕ) (cs : List (Change A)) → ((n : ℕ) → n < next → has_place trees n ≡ true)
      → AllByRecursion (λ c. c.number < next) cs → AllByRecursion (λ c. has_place trees c.0 ≡ true) (seen cs)
  places_seen trees next [] placed h = tt
  places_seen trees next (c ∷ cs) placed h = (placed c.number h.0, places_seen trees next cs placed h.1)

  module _ (trees : List LayerTree) (next : ℕ) (cs : List (Change A)) (d : Document) (fills : Fills trees d)
      (alone : are_distinct (numbers_placed trees) ≡ true) (placed : (n : ℕ) → n < next → has_place trees n ≡ true)
      (apart : are_distinct (map (λ c. c.number) cs) ≡ true) (below : AllByRecursion (λ c. c.number < next) cs) where
    apart_seen : are_distinct (map (λ c. c.0) (seen cs)) ≡ true
    apart_seen = ap are_distinct (numbers_seen cs) ∙ apart

    pub sizes_after : size (exchanged trees (seen cs) d) + weights (had_before d (seen cs)) ≡ size d + weights (seen cs)
    sizes_after = exchanged-size trees (seen cs) d fills alone apart_seen (places_seen trees next cs placed below)

    pub had_few : weights (had_before d (seen cs)) ≤ size d
    had_few = had-within trees (seen cs) d fills alone apart_seen (places_seen trees next cs placed below)

-- what is asked for by two changes
pub seen_two : {A : Type 0} (a b : Change A) (x y : ℕ × Option Feature) (list : List (Change A)) → list ≡ a ∷ b ∷ []
    → seen (a ∷ []) ≡ x ∷ [] → seen (b ∷ []) ≡ y ∷ [] → seen list ≡ x ∷ y ∷ []
seen_two {A} a b x y list e f g = ap seen e ∙ ap₂ (λ u v. u ++ v) f g

-- numbers that differ
pub two_apart : (m n : ℕ) → (n == m) ≡ false → are_distinct (m ∷ n ∷ []) ≡ true
two_apart m n e = ap (λ b. not (b || false) && (not false && true)) e

pub below_seen : {A : Type 0} (next : ℕ) (cs : List (Change A)) → AllByRecursion (λ c. c.0 < next) (seen cs)
    → AllByRecursion (λ c. c.number < next) cs
below_seen next [] h = tt
below_seen next (c ∷ cs) h = (h.0, below_seen next cs h.1)

pub apart_numbers : {A : Type 0} (cs : List (Change A)) → are_distinct (map (λ c. c.0) (seen cs)) ≡ true
    → are_distinct (map (λ c. c.number) cs) ≡ true
apart_numbers cs h = sym (ap are_distinct (numbers_seen cs)) ∙ h
