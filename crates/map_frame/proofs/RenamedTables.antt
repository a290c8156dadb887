-- Tables in which a feature got another id.
use Rattle.kit_words.proofs.Common.{◌≡◌, ◌<◌, ℕ, Bool, true, false, refl, sym, ap, ◌∙◌, List, [], ◌∷◌, length, map}
use Rattle.kit_words.proofs.Common.{slice_set, Option, Some, None, option_map, cond, eqb-true, slice_get, Vec, ◌==◌}
use Rattle.kit_words.proofs.Common.{length-map, option_map_id}
use Rattle.ring_machine.specs.Common.{Text, FeatureOf, DocumentOf, features, feature, in_item, in_layer, fits_form}
use Rattle.ring_machine.proofs.Common.{features-in_features, feature-in_features}
use Rattle.edit_records.specs.Common.{exchanged, exchanged_features, with_id}
use Rattle.edit_records.proofs.Common.{filled-agree, filled-changed}
use Rattle.map_frame.specs.Common.{Feature, RingName, Tables, Framed, IsFramed, with_own_id, framed, doc_of, places_of}
use Rattle.map_frame.specs.Common.{view_feature}
use Rattle.map_frame.proofs.EditedNames.{named_alike}
use Rattle.map_frame.proofs.EditedStands.{entry_is, entry_fits}
use Rattle.map_frame.proofs.NamedOnce.{ring_of}
use Rattle.map_frame.proofs.PlacesSeen.{entry, entry_number, features_of, layers_filled}
use Rattle.map_frame.proofs.TakenTables.{taken_none, set_framed, set_kept}

-- the feature with another id, or none
abbrev set_id : Option Text → FeatureOf ℕ → FeatureOf ℕ
set_id id f = record f { id = id }

id_kept : (id : Option Text) (b : Bool) (f : FeatureOf ℕ)
    → ((cond b (set_id id f) f).number ≡ f.number) × ((cond b (set_id id f) f).polygons ≡ f.polygons)
id_kept id true f = (refl, refl)
id_kept id false f = (refl, refl)

module _ {A : Type 0} (t : Tables A) (k : IsFramed t) (n : ℕ) (id : Option Text) where
  abbrev fs : List (Option (Feature A))
  fs = t.features.items

  -- a change of feature n alone
  abbrev change : FeatureOf ℕ → FeatureOf ℕ
  change f = cond (f.number == n) (set_id id f) f

  changed_at : (m : ℕ) → option_map change (entry fs m)
      ≡ exchanged_features ((n, option_map (set_id id) (entry fs n)) ∷ []) (feature (doc_of t)) m
  changed_at m = own (entry fs m) refl ∙ by (m == n) refl
    where
      own : (o : Option (FeatureOf ℕ)) → entry fs m ≡ o
          → option_map change o ≡ option_map (λ f. cond (m == n) (set_id id f) f) o
      own None e = refl
      own (Some f) e = ap (λ i. Some (cond (i == n) (set_id id f) f)) (entry_number fs m f e)

      by : (b : Bool) → (m == n) ≡ b → option_map (λ f. cond b (set_id id f) f) (entry fs m)
          ≡ cond b (option_map (set_id id) (entry fs n)) (feature (doc_of t) m)
      by true q = ap (λ i. option_map (set_id id) (entry fs i)) (eqb-true m n q)
      by false q = option_map_id (entry fs m) ∙ sym (entry_is t k m)

  abbrev framed_as : DocumentOf ℕ → Framed
  framed_as d = record (framed t) { doc = d }

  -- the feature is exchanged for itself with another id
  exchanged_is : exchanged (places_of t.layers.items) ((n, option_map (set_id id) (entry fs n)) ∷ []) (doc_of t)
      ≡ with_id (doc_of t) n id
  exchanged_is =
      ap (λ z. record { transform = (doc_of t).transform; layers = z; members = (doc_of t).members })
      (filled-agree _ _ (places_of t.layers.items) (λ m i. sym (changed_at m))
      ∙ sym (filled-changed change (entry fs) (places_of t.layers.items))
      ∙ ap (map (in_layer (map (in_item change)))) (sym (layers_filled fs t.layers.items)))

  -- no feature has the number
  pub renamed_none : entry fs n ≡ None → framed t ≡ framed_as (with_id (doc_of t) n id)
  renamed_none gone =
      taken_none t k n gone
      ∙ ap (λ o. framed_as (exchanged (places_of t.layers.items) ((n, option_map (set_id id) o) ∷ []) (doc_of t))) (sym gone)
      ∙ ap framed_as exchanged_is

  module _ (place was : Option (Feature A)) (fs' : Vec (Option (Feature A)) A)
      (items : fs'.items ≡ slice_set fs n place) (l : n < length fs)
      (here : slice_get fs n ≡ Some was) (is : place ≡ with_own_id id was) where
    abbrev after : Tables A
    after = record t { features = fs' }

    given_id : (o : Option (Feature A)) → option_map (view_feature n) (with_own_id id o)
        ≡ option_map (set_id id) (option_map (view_feature n) o)
    given_id None = refl
    given_id (Some f) = refl

    was_there : entry fs n ≡ option_map (view_feature n) was
    was_there = rw here refl

    pub renamed_doc : framed after ≡ framed_as (with_id (doc_of t) n id)
    renamed_doc =
        set_framed t k n fs' place items l t.count t.names refl
        ∙ ap (λ o. framed_as (exchanged (places_of t.layers.items) ((n, o) ∷ []) (doc_of t)))
        (ap (option_map (view_feature n)) is ∙ given_id was ∙ ap (option_map (set_id id)) (sym was_there))
        ∙ ap framed_as exchanged_is

    fits : (o : Option (Feature A)) → was ≡ o → (f : Feature A) → with_own_id id o ≡ Some f → fits_form (view_feature n f) ≡ true
    fits None e f h = absurd cc
    fits (Some g) e f h =
        let same : record g { texts = record g.texts { id = id } } ≡ f = cc in
        ap (λ z. fits_form (view_feature n z)) (sym same)
        ∙ entry_fits t k n (view_feature n g) (was_there ∙ ap (option_map (view_feature n)) e)

    -- each ring has its number
    same_rings : (o : RingName) → ring_of (feature (doc_of after) o.feature) o ≡ ring_of (feature (doc_of t) o.feature) o
    same_rings o =
        ap (λ (f : Framed). ring_of (feature f.doc o.feature) o) renamed_doc
        ∙ ap (λ z. ring_of z o) (feature-in_features change (λ f. (id_kept id (f.number == n) f).0) (doc_of t) o.feature)
        ∙ by (feature (doc_of t) o.feature)
      where
        by : (u : Option (FeatureOf ℕ)) → ring_of (option_map change u) o ≡ ring_of u o
        by None = refl
        by (Some f) = ap (λ ps. ring_of (Some (record f { polygons = ps })) o) (id_kept id (f.number == n) f).1

    pub renamed_kept : IsFramed after
    renamed_kept =
        set_kept t k n fs' place items l t.count t.names (λ f e. fits was refl f (sym is ∙ e))
        (k.counted ∙ sym (length-map (features (doc_of t)) change)
        ∙ ap length (sym (features-in_features change (doc_of t)))
        ∙ ap (λ (f : Framed). length (features f.doc)) (sym renamed_doc) ∙ ap length (features_of after))
        (named_alike t.names.items (doc_of t) (doc_of after) same_rings k.named)
