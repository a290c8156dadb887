-- Tables in which other features stand at the same places.
use Rattle.kit_words.proofs.Common.{◌≡◌, ◌<◌, ◌≤◌, ℕ, true, sym, ap, ◌∙◌, subst, List, length, Option, Some, map}
use Rattle.kit_words.proofs.Common.{option_map, is_some, Vec, list_all, filter_map, AllByRecursion, slice_get_within}
use Rattle.ring_machine.specs.Common.{FeatureOf, features, feature, has_feature, fits_form, are_distinct}
use Rattle.ring_machine.proofs.Common.{has_feature-found, feature_in, is_some-mapped, mapped_there, all_in}
use Rattle.edit_records.specs.Common.{filled}
use Rattle.edit_records.proofs.Common.{filled-agree}
use Rattle.map_frame.specs.Common.{Feature, RingName, Tables, Framed, doc_of, framed, places_of, view_feature, AreNamed}
use Rattle.map_frame.specs.Common.{IsFramed, all_numbers, live}
use Rattle.map_frame.proofs.EditedFeatures.{forms_all, distinct_numbers}
use Rattle.map_frame.proofs.PlacesSeen.{entry, entry_number, feature_of_frame, features_of, layers_filled, layers_geometries}
use Rattle.map_frame.proofs.ReadFeatures.{live_there, number_stands}

module _ {A : Type 0} where
  -- a feature that is there has a number of the table
  pub entry_within : (fs : List (Option (Feature A))) (n : ℕ) (x : FeatureOf ℕ) → entry fs n ≡ Some x → n < length fs
  entry_within fs n x e =
      let y = mapped_there (view_feature n) (live fs n) x e in
      slice_get_within fs n (Some y.0) (live_there fs n y.0 y.1)

module _ {A : Type 0} (t : Tables A) (k : IsFramed t) where
  -- a feature is that of the table
  pub entry_is : (n : ℕ) → feature (doc_of t) n ≡ entry t.features.items n
  entry_is n =
      feature_of_frame t n (λ x e. number_stands t k n (entry_within t.features.items n x e))

  -- what is said of a feature that was read in the table
  pub read_as : {Y : Type 0} (h : FeatureOf ℕ → Y) (n : ℕ) (fs : List (Option (Feature A))) (o : Option (Feature A))
      → o ≡ live fs n → fs ≡ t.features.items → (f : Framed) → framed t ≡ f
      → option_map h (option_map (view_feature n) o) ≡ option_map h (feature f.doc n)
  read_as h n fs o e same f is =
      ap (λ z. option_map h (option_map (view_feature n) z)) (e ∙ ap (λ z. live z n) same)
      ∙ ap (option_map h) (sym (entry_is n)) ∙ ap (λ (z : Framed). option_map h (feature z.doc n)) is

  -- and its form fits
  pub entry_fits : (n : ℕ) (y : FeatureOf ℕ) → entry t.features.items n ≡ Some y → fits_form y ≡ true
  entry_fits n y e =
      all_in fits_form (features (doc_of t)) y k.formed.forms (feature_in (doc_of t) n y (entry_is n ∙ e)).0

  -- some feature has this number
  pub has_is : (n : ℕ) → has_feature (doc_of t) n ≡ is_some (live t.features.items n)
  has_is n =
      has_feature-found (doc_of t) n ∙ ap is_some (entry_is n) ∙ is_some-mapped (view_feature n) (live t.features.items n)

  module _ (fs' : Vec (Option (Feature A)) A) (count : ℕ) (names : Vec (Option RingName) A)
      (len : length fs'.items ≡ length t.features.items) where
    abbrev edited : Tables A
    edited = record t { features = fs'; count = count; names = names }

    pub edited_entry : (n : ℕ) → feature (doc_of edited) n ≡ entry fs'.items n
    edited_entry n =
        feature_of_frame edited n
        (λ x e. number_stands t k n (subst (λ z. n < z) len (entry_within fs'.items n x e)))

    -- these features stand at the places of their numbers
    pub edited_doc : (j : ℕ → Option (FeatureOf ℕ)) → ((m : ℕ) → entry fs'.items m ≡ j m)
        → doc_of edited ≡ record {
          transform = (doc_of t).transform;
          layers = filled j (places_of t.layers.items);
          members = (doc_of t).members;
        }
    edited_doc j each =
        ap (λ z. record { transform = (doc_of t).transform; layers = z; members = (doc_of t).members })
        (layers_filled fs'.items t.layers.items
        ∙ filled-agree (entry fs'.items) j (places_of t.layers.items) (λ m i. each m))

    -- the tables still belong together
    pub edited_kept : ((m : ℕ) (y : FeatureOf ℕ) → entry fs'.items m ≡ Some y → fits_form y ≡ true)
        → count ≡ length (filter_map (entry fs'.items) (all_numbers t.layers.items))
        → AreNamed names.items (doc_of edited) → IsFramed edited
    edited_kept fits counted named = record {
      formed = record {
        geometries = layers_geometries fs'.items t.layers.items k.enclosed;
        forms = ap (list_all fits_form) (features_of edited)
            ∙ forms_all fits_form (entry fs'.items) ns fits;
        numbers = ap (λ xs. are_distinct (map (λ f. f.number) xs)) (features_of edited)
            ∙ distinct_numbers (entry fs'.items) (λ f. f.number) (entry_number fs'.items) ns k.once;
      };
      enclosed = k.enclosed;
      once = k.once;
      below = subst (λ z. AllByRecursion (λ n. n < z) ns) (sym len) k.below;
      alike = k.alike ∙ sym len;
      standing = k.standing;
      counted = counted ∙ sym (ap length (features_of edited));
      few = subst (λ z. z ≤ 200000) (sym len) k.few;
      named = named;
      empty = k.empty;
    }
      where
        ns : List ℕ
        ns = all_numbers t.layers.items
