-- Features by their numbers: which one is found, and where it stands among the others.
use Rattle.kit_words.proofs.Common.{◌≡◌, ℕ, Bool, true, false, refl, sym, ap, ap₂, ◌∙◌, subst, cond, List, [], arith}
use Rattle.kit_words.proofs.Common.{◌∷◌, ◌++◌, map, ◌||◌, ◌&&◌, inl, inr, Some, None, option_map, is_some, eqb-true}
use Rattle.kit_words.proofs.Common.{eq-eqb, ◌==◌, not, list_any, find, filter_map, false≢true, map-append, and_parts}
use Rattle.kit_words.proofs.Common.{or_parts, not-true}
use Rattle.ring_machine.specs.Common.{FeatureOf, ItemOf, DocumentOf, Open, Close, Leaf, Kept, feature_of, features}
use Rattle.ring_machine.specs.Common.{feature, has_feature, in_item, in_features, in_feature, in_rings, are_distinct}
use Rattle.ring_machine.specs.Common.{WellFormed}
use Rattle.ring_machine.proofs.First.{In, in-append, in_left, in_right}
use Rattle.ring_machine.proofs.Neighbours.{in-map}
use Rattle.ring_machine.proofs.Members.{in_any}
use Rattle.ring_machine.proofs.InItems.{features-in_items}

-- ---- what is found in a list

module _ {A : Type 0} (test : A → Bool) where
  -- some element passes where one is found
  pub any_found : (xs : List A) → list_any test xs ≡ is_some (find test xs)
  any_found [] = refl
  any_found (x ∷ xs) = grind (arith, any_found xs)

  pub found_in : (xs : List A) (a : A) → find test xs ≡ Some a → In a xs × (test a ≡ true)
  found_in [] a e = absurd cc
  found_in (x ∷ xs) a e = grind (arith, found_in xs a)

  -- where none passes, none is found
  pub none_found : (xs : List A) → list_any test xs ≡ false → find test xs ≡ None
  none_found [] h = refl
  none_found (x ∷ xs) h =
      let h' = or_parts (test x) (list_any test xs) h in
      ap (λ b. cond b (Some x) (find test xs)) h'.0 ∙ none_found xs h'.1

-- what is found among changed elements
pub find-mapped : {A B : Type 0} (h : A → B) (test : A → Bool) (other : B → Bool)
    → ((a : A) → other (h a) ≡ test a) → (xs : List A)
    → find other (map h xs) ≡ option_map h (find test xs)
find-mapped h test other same [] = refl
find-mapped h test other same (x ∷ xs) =
    ap (λ b. cond b (Some (h x)) (find other (map h xs))) (same x)
    ∙ by (test x) (find-mapped h test other same xs)
  where
    by : (b : Bool) → find other (map h xs) ≡ option_map h (find test xs)
        → cond b (Some (h x)) (find other (map h xs)) ≡ option_map h (cond b (Some x) (find test xs))
    by b e = grind arith

-- ---- distinct numbers

-- no number is in both lists
abbrev pub AreApart : List ℕ → List ℕ → Type 0
AreApart xs ys = (m : ℕ) → In m xs → In m ys → ⊥

not_among : (m : ℕ) (ns : List ℕ) → (In m ns → ⊥) → list_any (λ k. k == m) ns ≡ false
not_among m [] h = refl
not_among m (n ∷ ns) h = grind (arith, not_among m ns (λ i. h (inr i)))

pub among : (m : ℕ) (ns : List ℕ) → In m ns → list_any (λ k. k == m) ns ≡ true
among m ns i = in_any (λ k. k == m) m ns i (eq-eqb m m refl)

pub distinct-append : (xs ys : List ℕ) → are_distinct xs ≡ true → are_distinct ys ≡ true
    → AreApart xs ys → are_distinct (xs ++ ys) ≡ true
distinct-append [] ys h k a = k
distinct-append (x ∷ xs) ys h k a =
    let h' = and_parts (not (list_any (λ m. m == x) xs)) (are_distinct xs) h in
    ap₂ (λ b c. not b && c) (not_among x (xs ++ ys) (other (not-true _ h'.0)))
    (distinct-append xs ys h'.1 k (λ m i j. a m (inr i) j))
  where
    other : list_any (λ m. m == x) xs ≡ false → In x (xs ++ ys) → ⊥
    other e i = elim (in-append x xs ys i) [
      | inl j ↦ false≢true (sym e ∙ among x xs j)
      | inr j ↦ a x (inl refl) j
    ]

-- what distinct numbers are, begun with some of them
pub record DistinctParts (xs ys : List ℕ) : Type 0 where
  pub left : are_distinct xs ≡ true
  pub right : are_distinct ys ≡ true
  pub apart : AreApart xs ys

pub distinct_parts : (xs ys : List ℕ) → are_distinct (xs ++ ys) ≡ true → DistinctParts xs ys
distinct_parts [] ys h = record { left = refl; right = h; apart = λ m i j. i }
distinct_parts (x ∷ xs) ys h =
    let h' = and_parts (not (list_any (λ m. m == x) (xs ++ ys))) (are_distinct (xs ++ ys)) h in
    let k = distinct_parts xs ys h'.1 in
    let alone : In x (xs ++ ys) → ⊥ = λ i. false≢true (sym (not-true _ h'.0) ∙ among x (xs ++ ys) i) in
    record {
      left = ap₂ (λ b c. not b && c) (not_among x xs (λ i. alone (in_left x xs ys i))) k.left;
      right = k.right;
      apart = λ m i j. elim i [
        | inl e ↦ alone (in_right x xs ys (subst (λ z. In z ys) (sym e) j))
        | inr i' ↦ k.apart m i' j
      ];
    }

-- ---- where a feature stands

module _ {R : Type 0} where
  abbrev pub numbers_of : List (FeatureOf R) → List ℕ
  numbers_of fs = map (λ f. f.number) fs

  -- f has the number n, and stands before vs and after us, of which none has it
  pub record Stands (n : ℕ) (f : FeatureOf R) (fs : List (FeatureOf R)) : Type 0 where
    pub us : List (FeatureOf R)
    pub vs : List (FeatureOf R)
    pub is : fs ≡ us ++ f ∷ vs
    pub number : f.number ≡ n
    pub none_before : list_any (λ g. g.number == n) us ≡ false
    pub none_after : list_any (λ g. g.number == n) vs ≡ false

  any_number : (n : ℕ) (fs : List (FeatureOf R))
      → list_any (λ g. g.number == n) fs ≡ list_any (λ m. m == n) (numbers_of fs)
  any_number n [] = refl
  any_number n (f ∷ fs) = ap (λ z. (f.number == n) || z) (any_number n fs)

  -- of distinct numbers, the one that is found stands alone
  pub stands : (n : ℕ) (f : FeatureOf R) (fs : List (FeatureOf R))
      → are_distinct (numbers_of fs) ≡ true → find (λ g. g.number == n) fs ≡ Some f → Stands n f fs
  stands n f [] d e = absurd cc
  stands n f (g ∷ fs) d e =
      let d' = and_parts (not (list_any (λ m. m == g.number) (numbers_of fs))) (are_distinct (numbers_of fs)) d in
      by (g.number == n) refl e (not-true _ d'.0) (stands n f fs d'.1)
    where
      by : (b : Bool) → (g.number == n) ≡ b → cond b (Some g) (find (λ h. h.number == n) fs) ≡ Some f
          → list_any (λ m. m == g.number) (numbers_of fs) ≡ false
          → (find (λ h. h.number == n) fs ≡ Some f → Stands n f fs) → Stands n f (g ∷ fs)
      by true t k none ih =
          let same : g ≡ f = cc in
          let at : g.number ≡ n = eqb-true g.number n t in
          record {
            us = [];
            vs = fs;
            is = ap (λ z. z ∷ fs) same;
            number = ap (λ h. h.number) (sym same) ∙ at;
            none_before = refl;
            none_after = any_number n fs ∙ subst (λ m. list_any (λ k. k == m) (numbers_of fs) ≡ false) at none;
          }
      by false t k none ih =
          let s = ih k in
          record {
            us = g ∷ s.us;
            vs = s.vs;
            is = ap (λ z. g ∷ z) s.is;
            number = s.number;
            none_before = ap₂ (λ a b. a || b) t s.none_before;
            none_after = s.none_after;
          }

  -- of distinct numbers, each feature is the one that is found by its own
  pub found : (f : FeatureOf R) (fs : List (FeatureOf R)) → are_distinct (numbers_of fs) ≡ true
      → In f fs → find (λ g. g.number == f.number) fs ≡ Some f
  found f [] d i = absurd i
  found f (g ∷ fs) d (inl e) =
      ap (λ b. cond b (Some g) (find (λ h. h.number == f.number) fs)) (eq-eqb g.number f.number (ap (λ h. h.number) e))
      ∙ ap (λ h. Some h) e
  found f (g ∷ fs) d (inr i) =
      let d' = and_parts (not (list_any (λ m. m == g.number) (numbers_of fs))) (are_distinct (numbers_of fs)) d in
      by (g.number == f.number) refl (not-true _ d'.0) (found f fs d'.1 i)
    where
      by : (b : Bool) → (g.number == f.number) ≡ b
          → list_any (λ m. m == g.number) (numbers_of fs) ≡ false
          → find (λ h. h.number == f.number) fs ≡ Some f
          → cond b (Some g) (find (λ h. h.number == f.number) fs) ≡ Some f
      by true t none e = absurd (false≢true (sym none ∙ among g.number (numbers_of fs)
          (subst (λ m. In m (numbers_of fs)) (sym (eqb-true g.number f.number t)) (in-map (λ h. h.number) f fs i))))
      by false t none e = e

-- ---- documents

module _ {R : Type 0} (d : DocumentOf R) where
  -- a number is a feature's where a feature is found by it
  pub has_feature-found : (n : ℕ) → has_feature d n ≡ is_some (feature d n)
  has_feature-found n = any_found (λ f. f.number == n) (features d)

  pub feature_none : (n : ℕ) → has_feature d n ≡ false → feature d n ≡ None
  feature_none n h = none_found (λ f. f.number == n) (features d) h

  pub feature_in : (n : ℕ) (f : FeatureOf R) → feature d n ≡ Some f → In f (features d) × (f.number ≡ n)
  feature_in n f e =
      let k = found_in (λ g. g.number == n) (features d) f e in (k.0, eqb-true f.number n k.1)

  pub feature_stands : WellFormed d → (n : ℕ) (f : FeatureOf R) → feature d n ≡ Some f
      → Stands n f (features d)
  feature_stands w n f e = stands n f (features d) w.numbers e

  pub feature_found : WellFormed d → (f : FeatureOf R) (n : ℕ) → In f (features d) → f.number ≡ n
      → feature d n ≡ Some f
  feature_found w f n i e =
      subst (λ m. feature d m ≡ Some f) e (found f (features d) w.numbers i)

-- ---- features changed in their places

module _ {R S : Type 0} (h : FeatureOf R → FeatureOf S) where
  features-items : (is : List (ItemOf R))
      → filter_map feature_of (map (in_item h) is) ≡ map h (filter_map feature_of is)
  features-items [] = refl
  features-items (Leaf f ∷ is) = ap (λ z. h f ∷ z) (features-items is)
  features-items (Open a ∷ is) = features-items is
  features-items (Close ∷ is) = features-items is
  features-items (Kept t ∷ is) = features-items is

  pub features-in_features : (d : DocumentOf R) → features (in_features h d) ≡ map h (features d)
  features-in_features d =
      features-in_items (map (in_item h)) (map h) refl (map-append h) features-items d

  -- where they keep their numbers, the changed one is found
  pub feature-in_features : ((f : FeatureOf R) → (h f).number ≡ f.number) → (d : DocumentOf R) (n : ℕ)
      → feature (in_features h d) n ≡ option_map h (feature d n)
  feature-in_features same d n =
      ap (find (λ f. f.number == n)) (features-in_features d)
      ∙ find-mapped h (λ f. f.number == n) (λ f. f.number == n) (λ f. ap (λ m. m == n) (same f)) (features d)

-- the feature with changed rings is found
pub feature-in_rings : {R S : Type 0} (g : R → S) (d : DocumentOf R) (n : ℕ)
    → feature (in_rings g d) n ≡ option_map (in_feature g) (feature d n)
feature-in_rings g d n = feature-in_features (in_feature g) (λ f. refl) d n
