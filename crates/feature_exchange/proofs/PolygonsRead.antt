-- The rings of a feature, read from the tables, are those that it has in the document.
use Rattle.kit_words.proofs.Common.{◌≡◌, ℕ, true, refl, sym, ap, ◌∙◌, subst, List, [], ◌++◌, map, Option, None, Some}
use Rattle.kit_words.proofs.Common.{option_map, Contains, Vec, unwrap_or, IfSome, flat_map}
use Rattle.std.specs.FinMap as table
use Rattle.ring_machine.specs.Common.{DocumentOf, FeatureOf, feature, in_feature, feature_at, or_else, no_feature, rings}
use Rattle.ring_machine.proofs.Common.{In, feature-in_rings, contains_in, in_contains, there}
use Rattle.arc_tables.specs.Common.{Rings, begins, Edge}
use Rattle.map_frame.specs.Common.{polygon_numbers}
use Rattle.feature_exchange.specs.Common.{IsWhole, Stored, stored_document, edges_under, ring_under, AlongVertices, ring_in}
use Rattle.feature_exchange.specs.Common.{rings_under}
use Rattle.feature_exchange.proofs.KeyLists.{AreHeld}
use Rattle.feature_exchange.proofs.Under.{numbers_read, under_in}

-- the keys that were read are those along the ring
pub keys_found : (m : Rings) (r : ℕ) → table.contains_key m r ≡ true → (old new : List ℕ) → old ≡ []
    → IfSome (table.get m r) (λ es. new ≡ old ++ begins es) → new ≡ begins (edges_under m r)
keys_found m r h old new e f =
    let es = there (table.get m r) h in
    subst (λ o. IfSome o (λ es. new ≡ old ++ begins es)) es.1 f
    ∙ ap (λ z. z ++ begins es.0) e ∙ sym (ap (λ o. begins (unwrap_or o [])) es.1)

-- the rings of feature n are held where all are
at_held : (d : DocumentOf ℕ) (m : Rings) → AreHeld m (rings d) → (n : ℕ) (part : List ℕ) → part ≡ rings_under d n
    → AreHeld m part
at_held d m held n part e r c =
    held r (in_contains (rings d) r (under_in d n r (subst (In r) e (contains_in part r c))))

module _ (s : Stored) (w : IsWhole s) where
  pub along : AlongVertices s.places s.rings
  along r k c = by (table.get s.rings r) refl c
    where
      by : (o : Option (List Edge)) → table.get s.rings r ≡ o → Contains (begins (unwrap_or o [])) k
          → table.contains_key s.places k ≡ true
      by None e c = absurd (contains_in [] k c)
      by (Some es) e c = w.placed r k (es, e, c)

  module _ {A : Type 0} (n : ℕ) where
    -- the rings of a feature are held
    pub numbers_held : (ps : List (Vec ℕ A)) → Some (map polygon_numbers ps) ≡ option_map (λ f. f.polygons) (feature s.frame n)
        → AreHeld s.rings (flat_map polygon_numbers ps)
    numbers_held ps e =
        at_held s.frame s.rings (λ r h. (w.named r).0 h) n (flat_map polygon_numbers ps) (numbers_read s.frame n ps e)

    pub polygons_read : (ps : List (Vec ℕ A)) → Some (map polygon_numbers ps) ≡ option_map (λ f. f.polygons) (feature s.frame n)
        → map (map (ring_in s.places s.rings)) (map polygon_numbers ps) ≡ (feature_at (stored_document s) n).polygons
    polygons_read ps e =
        by (feature s.frame n) e
        ∙ sym (ap (λ o. (or_else no_feature o).polygons) (feature-in_rings (ring_under s) s.frame n))
      where
        by : (o : Option (FeatureOf ℕ)) → Some (map polygon_numbers ps) ≡ option_map (λ f. f.polygons) o
            → map (map (ring_in s.places s.rings)) (map polygon_numbers ps)
            ≡ (or_else no_feature (option_map (in_feature (ring_under s)) o)).polygons
        by None f = absurd cc
        by (Some x) f = ap (λ o. map (map (ring_in s.places s.rings)) (unwrap_or o [])) f

  -- no feature has no polygons
  pub no_polygons : (n : ℕ) → None ≡ option_map (λ f. f.polygons) (feature s.frame n)
      → [] ≡ (feature_at (stored_document s) n).polygons
  no_polygons n e =
      by (feature s.frame n) e
      ∙ sym (ap (λ o. (or_else no_feature o).polygons) (feature-in_rings (ring_under s) s.frame n))
    where
      by : (o : Option (FeatureOf ℕ)) → None ≡ option_map (λ f. f.polygons) o
          → [] ≡ (or_else no_feature (option_map (in_feature (ring_under s)) o)).polygons
      by None f = refl
      by (Some x) f = absurd cc
