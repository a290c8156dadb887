-- Texts, one after another, as a loop makes them: the first fault in order, or all.
use Rattle.kit_words.proofs.Common.{◌≡◌, ℕ, ◌+◌, ◌++◌, ◌∙◌, List, [], ◌∷◌, Result, Ok, Err, ap, append_assoc, append-nil, refl, sym}
use Rattle.geo_features.specs.declared.fault.ExportFault.{ExportFault}
use Rattle.geo_features.specs.Faults.{GeoFault, each, each_at, ◌>>=◌}
use Rattle.geo_features.specs.Gives.{IsGeoFault}
use Rattle.geo_features.proofs.Carrying.{carry}

abbrev pub with_front : {A : Type 0} → List A → Result (List A) GeoFault → Result (List A) GeoFault
with_front front r = r >>= λ xs. Ok (front ++ xs)

regroup : {A : Type 0} (front : List A) (p : A) (r : Result (List A) GeoFault) → with_front front (r >>= λ ps. Ok (p ∷ ps)) ≡ with_front (front ++ p ∷ []) r
regroup {A = A} front p (Ok ps) = ap (λ (qs : List A). Ok qs) (sym (append_assoc front (p ∷ []) ps))
regroup front p (Err e) = refl

-- ---- one by one

pub each_turn : {A B : Type 0} (f : A → Result B GeoFault) (front : List B) (b : B) (a : A) (as' left : List A) (whole : Result (List B) GeoFault)
    → left ≡ a ∷ as' → f a ≡ Ok b → with_front front (each f left) ≡ whole → with_front (front ++ b ∷ []) (each f as') ≡ whole
each_turn f front b a as' left whole e is h = sym (regroup front b (each f as')) ∙ rw (e, is) at h

pub each_stop : {A B : Type 0} (o : ExportFault) (f : A → Result B GeoFault) (front : List B) (a : A) (as' left : List A) (whole : Result (List B) GeoFault)
    → left ≡ a ∷ as' → IsGeoFault o (f a) → with_front front (each f left) ≡ whole → IsGeoFault o whole
each_stop o f front a as' left whole e is h = carry o (f a) whole (λ x fx. sym (rw (e, fx) at h)) is

pub each_end : {A B : Type 0} (f : A → Result B GeoFault) (front : List B) (left : List A) (whole : Result (List B) GeoFault)
    → left ≡ [] → with_front front (each f left) ≡ whole → whole ≡ Ok front
each_end f front left whole e h = sym (rw (e, append-nil front) at h)

-- ---- one by one, with numbers

pub each_at_turn : {A B : Type 0} (f : ℕ → A → Result B GeoFault) (front : List B) (b : B) (i : ℕ) (a : A) (as' left : List A) (whole : Result (List B) GeoFault)
    → left ≡ a ∷ as' → f i a ≡ Ok b → with_front front (each_at f i left) ≡ whole → with_front (front ++ b ∷ []) (each_at f (i + 1) as') ≡ whole
each_at_turn f front b i a as' left whole e is h = sym (regroup front b (each_at f (i + 1) as')) ∙ rw (e, is) at h

pub each_at_stop : {A B : Type 0} (o : ExportFault) (f : ℕ → A → Result B GeoFault) (front : List B) (i : ℕ) (a : A) (as' left : List A) (whole : Result (List B) GeoFault)
    → left ≡ a ∷ as' → IsGeoFault o (f i a) → with_front front (each_at f i left) ≡ whole → IsGeoFault o whole
each_at_stop o f front i a as' left whole e is h = carry o (f i a) whole (λ x fx. sym (rw (e, fx) at h)) is

pub each_at_end : {A B : Type 0} (f : ℕ → A → Result B GeoFault) (front : List B) (i : ℕ) (left : List A) (whole : Result (List B) GeoFault)
    → left ≡ [] → with_front front (each_at f i left) ≡ whole → whole ≡ Ok front
each_at_end f front i left whole e h = sym (rw (e, append-nil front) at h)
