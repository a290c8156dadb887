-- Tables from which a feature was taken, or into which one was put.
use Rattle.kit_words.proofs.Common.{◌≡◌, ◌≢◌, ◌+◌, ◌<◌, ℕ, Bool, true, false, refl, sym, ap, ap₂, ◌∙◌, cond, List, []}
use Rattle.kit_words.proofs.Common.{◌∷◌, length, map, slice_set, arith, Option, Some, None, is_some, option_map}
use Rattle.kit_words.proofs.Common.{slice_get, Vec, ◌==◌, filter_map, false≢true, Decides-eqb, length-set}
use Rattle.kit_words.proofs.Common.{slice_get_within, ℕ_discrete}
use Rattle.ring_machine.specs.Common.{FeatureOf, DocumentOf, feature, rings, are_distinct, fits_form}
use Rattle.edit_records.specs.Common.{exchanged, exchanged_features}
use Rattle.map_frame.specs.Common.{polygon_numbers, Feature, RingName, Tables, Framed, IsFramed, all_numbers, number_at}
use Rattle.map_frame.specs.Common.{AreNamed, Loss, Gain, element, framed, doc_of, places_of, view_feature}
use Rattle.map_frame.proofs.CountedFeatures.{length_less}
use Rattle.map_frame.proofs.EditedNames.{named_anew, named_put}
use Rattle.map_frame.proofs.EditedStands.{entry_is, entry_fits, edited_entry, edited_doc, edited_kept}
use Rattle.map_frame.proofs.NamedLists.{gain_none}
use Rattle.map_frame.proofs.NamedAs.{loss_as, gain_as, rings_to, rings_from}
use Rattle.map_frame.proofs.NamedOnce.{ring_of}
use Rattle.map_frame.proofs.ReadFeatures.{number_stands}
use Rattle.map_frame.proofs.PlacesSeen.{entry, features_of}
use Rattle.map_frame.proofs.SlotsSet.{entry_here, entry_other}

module _ {A : Type 0} (t : Tables A) (k : IsFramed t) (n : ℕ) where
  abbrev fs : List (Option (Feature A))
  fs = t.features.items

  -- the features with this one, or none, under the number
  abbrev with_this : Option (FeatureOf ℕ) → ℕ → Option (FeatureOf ℕ)
  with_this o = exchanged_features ((n, o) ∷ []) (feature (doc_of t))

  exchanged_at : (o u : Option (FeatureOf ℕ)) (m : ℕ) → (m ≡ n → u ≡ o) → (m ≢ n → u ≡ feature (doc_of t) m)
      → u ≡ with_this o m
  exchanged_at o u m here other = by (m == n) refl
    where
      by : (b : Bool) → (m == n) ≡ b → u ≡ cond b o (feature (doc_of t) m)
      by true e = here ((Decides-eqb m n).0 e)
      by false e = other (λ s. false≢true (sym e ∙ (Decides-eqb m n).1 s))

  abbrev framed_as : DocumentOf ℕ → ℕ → ℕ → Framed
  framed_as d next room = record { doc = d; next = next; places = places_of t.layers.items; room = room }

  -- no feature has the number
  pub taken_none : entry fs n ≡ None
      → framed t ≡ record (framed t) { doc = exchanged (places_of t.layers.items) ((n, None) ∷ []) (doc_of t) }
  taken_none gone =
      ap (λ d. framed_as d (length fs) (length t.names.items))
      (edited_doc t k t.features t.count t.names refl (with_this None) (λ m.
      exchanged_at None (entry fs m) m (λ s. ap (entry fs) s ∙ gone) (λ f. sym (entry_is t k m))))

  module _ (fs' : Vec (Option (Feature A)) A) (place : Option (Feature A))
      (items : fs'.items ≡ slice_set fs n place) (within : n < length fs)
      (count : ℕ) (names : Vec (Option RingName) A) where
    abbrev after : Tables A
    after = record t { features = fs'; count = count; names = names }

    long : length fs'.items ≡ length fs
    long = ap length items ∙ length-set fs n place

    here : entry fs'.items n ≡ option_map (view_feature n) place
    here = ap (λ z. entry z n) items ∙ entry_here fs n place within

    other : (m : ℕ) → m ≢ n → entry fs'.items m ≡ entry fs m
    other m f = ap (λ z. entry z m) items ∙ entry_other fs n place m f

    each : (m : ℕ) → entry fs'.items m ≡ with_this (option_map (view_feature n) place) m
    each m =
        exchanged_at (option_map (view_feature n) place) (entry fs'.items m) m
        (λ s. ap (entry fs'.items) s ∙ here) (λ f. other m f ∙ sym (entry_is t k m))

    pub set_framed : length names.items ≡ length t.names.items
        → framed after ≡ record (framed t) {
          doc = exchanged (places_of t.layers.items) ((n, option_map (view_feature n) place) ∷ []) (doc_of t);
        }
    set_framed same =
        ap₂ (λ d z. framed_as d z (length names.items))
        (edited_doc t k fs' count names long (with_this (option_map (view_feature n) place)) each) long
        ∙ ap (λ r. framed_as (exchanged (places_of t.layers.items) ((n, option_map (view_feature n) place) ∷ []) (doc_of t)) (length fs) r) same

    fits : ((f : Feature A) → place ≡ Some f → fits_form (view_feature n f) ≡ true)
        → (m : ℕ) (y : FeatureOf ℕ) → entry fs'.items m ≡ Some y → fits_form y ≡ true
    fits new m y e = by (ℕ_discrete m n)
      where
        at : (o : Option (Feature A)) → place ≡ o → option_map (view_feature n) o ≡ Some y → fits_form y ≡ true
        at None is h = absurd cc
        at (Some f) is h =
            let same : view_feature n f ≡ y = cc in ap fits_form (sym same) ∙ new f is

        by : Dec (m ≡ n) → fits_form y ≡ true
        by (yes s) = at place refl (sym here ∙ ap (entry fs'.items) (sym s) ∙ e)
        by (no f) = entry_fits t k m y (sym (other m f) ∙ e)

    pub same_features : (m : ℕ) → m ≢ n → feature (doc_of after) m ≡ feature (doc_of t) m
    same_features m f = edited_entry t k fs' count names long m ∙ other m f ∙ sym (entry_is t k m)

    pub feature_here : feature (doc_of after) n ≡ option_map (view_feature n) place
    feature_here = edited_entry t k fs' count names long n ∙ here

    pub set_kept : ((f : Feature A) → place ≡ Some f → fits_form (view_feature n f) ≡ true)
        → count ≡ length (filter_map (entry fs'.items) (all_numbers t.layers.items))
        → AreNamed names.items (doc_of after) → IsFramed after
    set_kept new counted named = edited_kept t k fs' count names long (fits new) counted named

  -- ---- a feature is taken

  module _ (f : Feature A) (was : slice_get fs n ≡ Some (Some f)) where
    pub there_seen : entry fs n ≡ Some (view_feature n f)
    there_seen = rw was refl

    pub taken_within : n < length fs
    taken_within = slice_get_within fs n (Some f) was

    less_by_one : length (filter_map (entry fs) (all_numbers t.layers.items))
        ≡ length (filter_map (entry (slice_set fs n None)) (all_numbers t.layers.items)) + 1
    less_by_one =
        length_less (entry fs) (entry (slice_set fs n None)) n (ap is_some there_seen)
        (ap is_some (entry_here fs n None taken_within)) (λ m off. ap is_some (entry_other fs n None m off))
        (all_numbers t.layers.items) k.once (number_stands t k n taken_within)

    pub counted_there : t.count ≡ length (filter_map (entry (slice_set fs n None)) (all_numbers t.layers.items)) + 1
    counted_there = k.counted ∙ ap length (features_of t) ∙ less_by_one

    module _ (fs' : Vec (Option (Feature A)) A) (items : fs'.items ≡ slice_set fs n None)
        (count : ℕ) (names : Vec (Option RingName) A) where
      abbrev taken : Tables A
      taken = record t { features = fs'; count = count; names = names }

      gone : feature (doc_of taken) n ≡ None
      gone = feature_here fs' None items taken_within count names

      -- the rings of the feature lost their names
      taken_named : are_distinct (rings (doc_of t)) ≡ true
          → Loss t.names.items names.items (λ r. (p i : ℕ)
          × (element (slice_get (map polygon_numbers f.polygons.items) p) i ≡ Some r))
          → AreNamed names.items (doc_of taken)
      taken_named once loss =
          let d = doc_of t in
          let e = doc_of taken in
          let had : feature d n ≡ Some (view_feature n f) = entry_is t k n ∙ there_seen in
          named_anew d e t.names.items names.items names.items (λ m. m ≡ n) (λ m. ℕ_discrete m n) once k.named
          (loss_as _ _ t.names.items names.items (rings_to d n (view_feature n f) had) (rings_from d n (view_feature n f) had) loss)
          (gain_as (λ o k. ⊥) (λ o k. (o.feature ≡ n) × (number_at e o ≡ Some k)) names.items names.items
          (λ o k i. absurd i)
          (λ o k i. let h : None ≡ Some k = sym (ap (λ z. ring_of z o) (ap (feature e) i.0 ∙ gone)) ∙ i.1 in absurd cc)
          (gain_none names.items (λ o k. ⊥) (λ o k i. i)))
          (same_features fs' None items taken_within count names)

      pub taken_kept : are_distinct (rings (doc_of t)) ≡ true → count + 1 ≡ t.count
          → Loss t.names.items names.items (λ r. (p i : ℕ)
          × (element (slice_get (map polygon_numbers f.polygons.items) p) i ≡ Some r))
          → IsFramed taken
      taken_kept once less loss =
          set_kept fs' None items taken_within count names (λ f e. absurd cc)
          (let m : count ≡ length (filter_map (entry (slice_set fs n None)) (all_numbers t.layers.items)) = omega (arith, less, counted_there) in
          m ∙ ap (λ z. length (filter_map (entry z) (all_numbers t.layers.items))) (sym items))
          (taken_named once loss)

  -- ---- a feature is put

  module _ (f : Feature A) (free : feature (doc_of t) n ≡ None) (within : n < length fs) where
    pub none_there : entry fs n ≡ None
    none_there = sym (entry_is t k n) ∙ free

    pub counted_put : length (filter_map (entry (slice_set fs n (Some f))) (all_numbers t.layers.items)) ≡ t.count + 1
    counted_put =
        let one = length_less (entry (slice_set fs n (Some f))) (entry fs) n
        (ap is_some (entry_here fs n (Some f) within)) (ap is_some none_there)
        (λ m off. sym (ap is_some (entry_other fs n (Some f) m off)))
        (all_numbers t.layers.items) k.once (number_stands t k n within) in
        let was : t.count ≡ length (filter_map (entry fs) (all_numbers t.layers.items)) = k.counted ∙ ap length (features_of t) in
        omega (arith, was, one)

    module _ (fs' : Vec (Option (Feature A)) A) (items : fs'.items ≡ slice_set fs n (Some f))
        (count : ℕ) (names : Vec (Option RingName) A) where
      abbrev put : Tables A
      put = record t { features = fs'; count = count; names = names }

      pub put_kept : fits_form (view_feature n f) ≡ true → count ≡ t.count + 1
          → Gain t.names.items names.items (λ o r. (o.feature ≡ n)
          × (element (slice_get (map polygon_numbers f.polygons.items) o.polygon) o.ring ≡ Some r))
          → IsFramed put
      put_kept fitting more gain =
          set_kept fs' (Some f) items within count names
          (λ g e. let same : f ≡ g = cc in ap (λ z. fits_form (view_feature n z)) (sym same) ∙ fitting)
          (more ∙ sym counted_put ∙ ap (λ z. length (filter_map (entry z) (all_numbers t.layers.items))) (sym items))
          (named_put (doc_of t) (doc_of put) t.names.items names.items n k.named free
          (gain_as _ (λ o r. (o.feature ≡ n) × (number_at (doc_of put) o ≡ Some r)) t.names.items names.items
          (λ o r i. (i.0, at o i.0 ∙ i.1)) (λ o r i. (i.0, sym (at o i.0) ∙ i.1)) gain)
          (same_features fs' (Some f) items within count names))
        where
          at : (o : RingName) → o.feature ≡ n
              → number_at (doc_of put) o ≡ element (slice_get (map polygon_numbers f.polygons.items) o.polygon) o.ring
          at o s = ap (λ z. ring_of z o) (ap (feature (doc_of put)) s ∙ feature_here fs' (Some f) items within count names)
