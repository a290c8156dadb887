-- Which features and rings there are after an exchange.
use Rattle.kit_words.proofs.Common.{◌≡◌, ℕ, Bool, true, false, refl, sym, ap, ap₂, ◌∙◌, cond, List, [], ◌∷◌, ◌||◌}
use Rattle.kit_words.proofs.Common.{Option, Some, None, option_map, ◌==◌}
use Rattle.ring_machine.specs.Common.{FeatureOf, DocumentOf, feature, features, in_feature, in_rings}
use Rattle.ring_machine.proofs.Common.{In, feature_in, feature-in_rings}
use Rattle.edit_records.specs.Common.{LayerTree, numbers_placed, filled, exchanged_features, exchanged, is_exchanged}
use Rattle.edit_records.specs.Common.{with_changed}
use Rattle.edit_records.proofs.ExchangesMade.{exchanged-in_rings}
use Rattle.edit_records.proofs.PlacesBack.{filled-agree}

-- ---- after an exchange

module _ {R : Type 0} where
  features-agree : (cs : List (ℕ × Option (FeatureOf R))) (j k : ℕ → Option (FeatureOf R)) (m : ℕ)
      → (is_exchanged cs m ≡ false → j m ≡ k m) → exchanged_features cs j m ≡ exchanged_features cs k m
  features-agree [] j k m e = e refl
  features-agree (c ∷ cs) j k m e = by (m == c.0) e (features-agree cs j k m)
    where
      by : (b : Bool) → (b || is_exchanged cs m ≡ false → j m ≡ k m)
          → ((is_exchanged cs m ≡ false → j m ≡ k m) → exchanged_features cs j m ≡ exchanged_features cs k m)
          → cond b c.1 (exchanged_features cs j m) ≡ cond b c.1 (exchanged_features cs k m)
      by true e rest = refl
      by false e rest = rest e

  -- what the numbers had is of no weight
  pub exchanged-agree : (trees : List LayerTree) (cs : List (ℕ × Option (FeatureOf R)))
      (d e : DocumentOf R) → d.transform ≡ e.transform → d.members ≡ e.members
      → ((m : ℕ) → In m (numbers_placed trees) → is_exchanged cs m ≡ false → feature d m ≡ feature e m)
      → exchanged trees cs d ≡ exchanged trees cs e
  exchanged-agree trees cs d e transform members same =
      ap₂ (λ y z. record {
        transform = y;
        layers = filled (exchanged_features cs (feature d)) trees;
        members = z;
      }) transform members
      ∙ ap (λ z. record { transform = e.transform; layers = z; members = e.members })
      (filled-agree (exchanged_features cs (feature d)) (exchanged_features cs (feature e)) trees
      (λ m i. features-agree cs (feature d) (feature e) m (same m i)))

-- rings that are other ones after the exchange, but for those of the features that stay
pub exchanged-rings : {R S : Type 0} (g h : R → S) (trees : List LayerTree)
    (cs : List (ℕ × Option (FeatureOf R))) (d : DocumentOf R)
    → ((f : FeatureOf R) → In f (features d) → is_exchanged cs f.number ≡ false
    → in_feature h f ≡ in_feature g f)
    → in_rings h (exchanged trees cs d) ≡ exchanged trees (with_changed (in_feature h) cs) (in_rings g d)
exchanged-rings {R} g h trees cs d same =
    exchanged-in_rings h trees cs d
    ∙ exchanged-agree trees (with_changed (in_feature h) cs) (in_rings h d) (in_rings g d) refl refl (λ m i out.
    feature-in_rings h d m
    ∙ alike m (feature d m) refl (sym (numbers_same cs m) ∙ out)
    ∙ sym (feature-in_rings g d m))
  where
    numbers_same : (cs : List (ℕ × Option (FeatureOf R))) (m : ℕ)
        → is_exchanged (with_changed (in_feature h) cs) m ≡ is_exchanged cs m
    numbers_same [] m = refl
    numbers_same (c ∷ cs) m = ap (λ b. (m == c.0) || b) (numbers_same cs m)

    alike : (m : ℕ) (o : Option (FeatureOf R)) → feature d m ≡ o → is_exchanged cs m ≡ false
        → option_map (in_feature h) o ≡ option_map (in_feature g) o
    alike m None e out = refl
    alike m (Some f) e out =
        let at = feature_in d m f e in
        ap (λ z. Some z) (same f at.0 (ap (is_exchanged cs) at.1 ∙ out))
