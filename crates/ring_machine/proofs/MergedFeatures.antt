-- What stands under the first number once two features are joined.
use Rattle.kit_words.proofs.Common.{◌≡◌, ℕ, false, refl, ap, ◌∙◌, Some, arith, ◌==◌, option_map, find, nat_tests}
use Rattle.ring_machine.specs.Common.{Document, Feature, features, feature, instead, joined_polygons, joined_feature}
use Rattle.ring_machine.specs.Common.{join, feature_at, or_else, no_feature}
use Rattle.ring_machine.proofs.Swapped.{find_one}
use Rattle.ring_machine.proofs.Instead.{features-instead}
use Rattle.ring_machine.proofs.Without.{feature-take_out_other}
use Rattle.ring_machine.proofs.CutJoined.{join_is}

-- f with its polygon joined with that of g
abbrev pub merged : Feature → Feature → Feature
merged g f = record f { polygons = joined_polygons f.polygons g.polygons }

pub feature_at-join : (d : Document) (n : ℕ) (f g : Feature) → (n == g.number) ≡ false
    → feature d n ≡ Some f → feature_at (join d n g) n ≡ merged g f
feature_at-join d n f g o h =
    ap (λ e. feature_at e n) (join_is d n g)
    ∙ ap (or_else no_feature)
    (feature-take_out_other (instead n (joined_feature g) d) g.number n (other n g.number o)
    ∙ ap (find (λ k. k.number == n)) (features-instead n (joined_feature g) d)
    ∙ find_one n (joined_feature g) (merged g) (λ k. refl) (λ k. refl) (features d)
    ∙ ap (option_map (merged g)) h)
  where
    other : (j k : ℕ) → (j == k) ≡ false → (k == j) ≡ false
    other j k e = grind (arith, nat_tests)
