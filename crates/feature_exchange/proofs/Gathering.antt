-- The rings of features that are gathered: each is there, and none is listed twice.
use Rattle.kit_words.proofs.Common.{◌≡◌, ℕ, true, refl, sym, ap, ◌∙◌, subst, List, [], ◌∷◌, Option, Some, None, map}
use Rattle.kit_words.proofs.Common.{inl, Contains, IsTrue, flat_map, flat_map-map}
use Rattle.std.specs.FinMap as table
use Rattle.ring_machine.specs.Common.{FeatureOf, feature, rings, are_distinct}
use Rattle.ring_machine.proofs.Common.{In, distinct-append, distinct_parts, feature_in, contains_in, in_contains}
use Rattle.ring_machine.proofs.Common.{in_flat}
use Rattle.segment_index.specs.Common.{SegmentSet}
use Rattle.feature_exchange.specs.Common.{Holds, Stored, Change, rings_under}
use Rattle.feature_exchange.proofs.Under.{under_found, under_none, under_in, under_distinct, under_apart}

module _ (s : Stored) (held : SegmentSet) (h : Holds s held) where
  kept : (r : ℕ) → In r (rings s.frame) → IsTrue (table.contains_key s.rings r)
  kept r i = (h.whole.named r).0 (in_contains (rings s.frame) r i)

  -- ---- of several features

  abbrev under_all : List ℕ → List ℕ
  under_all ns = flat_map (rings_under s.frame) ns

  all_different : (ns : List ℕ) → are_distinct ns ≡ true → are_distinct (under_all ns) ≡ true
  all_different [] d = refl
  all_different (n ∷ ns) d =
      let parts = distinct_parts (n ∷ []) ns d in
      distinct-append (rings_under s.frame n) (under_all ns) (under_distinct s.frame h.formed h.whole.once n) (all_different ns parts.right)
      (λ r i j.
      let w = in_flat (rings_under s.frame) r ns j in
      apart n w.0 (λ e. parts.apart n (inl refl) (subst (λ z. In z ns) (sym e) w.1)) r w.2 (feature s.frame n) refl i)
    where
      apart : (n g : ℕ) → (n ≡ g → ⊥) → (r : ℕ) → In r (rings_under s.frame g) → (o : Option (FeatureOf ℕ))
          → feature s.frame n ≡ o → In r (rings_under s.frame n) → ⊥
      apart n g two r j None e i = subst (In r) (under_none s.frame n e) i
      apart n g two r j (Some f) e i =
          let k = feature_in s.frame n f e in
          under_apart s.frame h.formed h.whole.once g f k.0 (λ m. two (sym k.1 ∙ m)) r (subst (In r) (under_found s.frame n f e) i) j

  module _ {A : Type 0} (cs : List (Change A)) where
    pub going_is : flat_map (λ c. rings_under s.frame c.number) cs ≡ under_all (map (λ c. c.number) cs)
    going_is = sym (flat_map-map (rings_under s.frame) (λ (c : Change A). c.number) cs)

    pub going_there : (numbers : List ℕ) → numbers ≡ flat_map (λ c. rings_under s.frame c.number) cs
        → (r : ℕ) → Contains numbers r → IsTrue (table.contains_key s.rings r)
    going_there numbers is r c =
        let w = in_flat (λ (c : Change A). rings_under s.frame c.number) r cs (subst (In r) is (contains_in numbers r c)) in
        kept r (under_in s.frame w.0.number r w.2)

    pub going_different : are_distinct (map (λ c. c.number) cs) ≡ true → (numbers : List ℕ)
        → numbers ≡ flat_map (λ c. rings_under s.frame c.number) cs → are_distinct numbers ≡ true
    going_different d numbers is = ap are_distinct (is ∙ going_is) ∙ all_different (map (λ c. c.number) cs) d
