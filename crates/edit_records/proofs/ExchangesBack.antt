-- An edit of features, taken back, gives the document again.
use Rattle.kit_words.proofs.Common.{◌≡◌, ℕ, Bool, true, false, refl, sym, ap, ap₂, ◌∙◌, cond, List, [], ◌∷◌, Option}
use Rattle.kit_words.proofs.Common.{None, eqb-true, ◌==◌}
use Rattle.ring_machine.specs.Common.{Path, cut, Text, Feature, FeatureOf, Document, DocumentOf, join, take_out}
use Rattle.ring_machine.specs.Common.{feature, has_feature}
use Rattle.ring_machine.proofs.Common.{feature-cut_other, feature-join_other, In, feature_none, take_out_is}
use Rattle.ring_machine.proofs.Common.{feature-take_out_other}
use Rattle.edit_records.specs.Common.{LayerTree, filled, Fills, numbers_placed, exchanged_features, exchanged, grown}
use Rattle.edit_records.proofs.PlacesBack.{filled-agree, fills-grown}

-- ---- what stood at the numbers

-- the document with the features that it had at the numbers that have a place is the document
pub exchanged-back : {R : Type 0} (trees : List LayerTree) (cs : List (ℕ × Option (FeatureOf R)))
    (d e : DocumentOf R) → Fills trees d → e.transform ≡ d.transform → e.members ≡ d.members
    → ((m : ℕ) → In m (numbers_placed trees) → exchanged_features cs (feature e) m ≡ feature d m)
    → exchanged trees cs e ≡ d
exchanged-back trees cs d e fills transform members same =
    let layers : filled (exchanged_features cs (feature e)) trees ≡ d.layers =
    filled-agree (exchanged_features cs (feature e)) (feature d) trees same ∙ sym fills in
    ap₂ (λ y z. record {
      transform = y;
      layers = filled (exchanged_features cs (feature e)) trees;
      members = z;
    }) transform members
    ∙ ap (λ z. record { transform = d.transform; layers = z; members = d.members }) layers

turned : (j k : ℕ) (b : Bool) → (j == k) ≡ b → (k == j) ≡ b
turned j k true e = ap₂ (λ y z. y == z) (sym (eqb-true j k e)) (eqb-true j k e) ∙ e
turned j k false e = by (k == j) refl
  where
    by : (b : Bool) → (k == j) ≡ b → (k == j) ≡ false
    by false f = f
    by true f = absurd (true≢false (sym (ap₂ (λ y z. y == z) (sym (eqb-true k j f)) (eqb-true k j f) ∙ f) ∙ e))
      where
        true≢false : true ≡ false → ⊥
        true≢false h = cc

-- one number
one_changed : (n : ℕ) (o : Option Feature) (j k : ℕ → Option Feature) → k n ≡ o
    → ((m : ℕ) → (n == m) ≡ false → j m ≡ k m) → (m : ℕ)
    → exchanged_features ((n, o) ∷ []) j m ≡ k m
one_changed n o j k at other m = by (m == n) refl
  where
    by : (b : Bool) → (m == n) ≡ b → cond b o (j m) ≡ k m
    by true e = sym at ∙ ap k (sym (eqb-true m n e))
    by false e = other m (turned m n false e)

-- two numbers
two_changed : (n l : ℕ) (o p : Option Feature) (j k : ℕ → Option Feature) → k n ≡ o → k l ≡ p
    → ((m : ℕ) → (n == m) ≡ false → (l == m) ≡ false → j m ≡ k m) → (m : ℕ)
    → exchanged_features ((n, o) ∷ (l, p) ∷ []) j m ≡ k m
two_changed n l o p j k at there other m = by (m == n) (m == l) refl refl
  where
    by : (b c : Bool) → (m == n) ≡ b → (m == l) ≡ c → cond b o (cond c p (j m)) ≡ k m
    by true c e f = sym at ∙ ap k (sym (eqb-true m n e))
    by false true e f = sym there ∙ ap k (sym (eqb-true m l f))
    by false false e f = other m (turned m n false e) (turned m l false f)

-- ---- the edits of features

abbrev pub deleted : Document → ℕ → List (ℕ × Option Feature)
deleted d n = (n, feature d n) ∷ []

abbrev pub merged : Document → ℕ → ℕ → List (ℕ × Option Feature)
merged d n g =
    (n, feature d n) ∷ (g, feature d g) ∷ []

abbrev pub split : Document → ℕ → ℕ → List (ℕ × Option Feature)
split d n new = (n, feature d n) ∷ (new, None) ∷ []

pub take_out-back : (trees : List LayerTree) (d : Document) (n : ℕ) → Fills trees d
    → exchanged trees (deleted d n) (take_out d n) ≡ d
take_out-back trees d n fills =
    exchanged-back trees (deleted d n) d (take_out d n) fills
    (ap (λ (z : Document). z.transform) (take_out_is n d)) (ap (λ (z : Document). z.members) (take_out_is n d))
    (λ m i. one_changed n (feature d n) (feature (take_out d n)) (feature d) refl (feature-take_out_other d n) m)

pub join-back : (trees : List LayerTree) (d : Document) (n : ℕ) (g : Feature) → Fills trees d
    → exchanged trees (merged d n g.number) (join d n g) ≡ d
unfolding join take_out
join-back trees d n g fills =
    exchanged-back trees (merged d n g.number) d (join d n g) fills refl refl
    (λ m i. two_changed n g.number (feature d n) (feature d g.number) (feature (join d n g)) (feature d) refl refl (feature-join_other d n g) m)

pub cut-back : (trees : List LayerTree) (d : Document) (n : ℕ) (id : Text) (path : Path) (new : ℕ)
    → Fills trees d → has_feature d new ≡ false
    → exchanged (grown n new trees) (split d n new) (cut d n id path new) ≡ d
unfolding cut
cut-back trees d n id path new fills free =
    let none = feature_none d new free in
    exchanged-back (grown n new trees) (split d n new) d (cut d n id path new) (fills-grown trees d n new none fills) refl refl
    (λ m i. two_changed n new (feature d n) None (feature (cut d n id path new)) (feature d) refl none (feature-cut_other d n id path new) m)
