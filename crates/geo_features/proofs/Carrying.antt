-- Faults and texts, handed on from one step to the next.
use Rattle.kit_words.proofs.Common.{◌≡◌, ◌++◌, ◌∙◌, false, List, Result, Ok, Err, ap, append_assoc, refl, sym}
use Rattle.topo_outline.specs.Common.{Fault}
use Rattle.topo_outline.specs.declared.fault.OpenFault.{OpenFault}
use Rattle.topo_outline.specs.declared.fault.OpenFault.TheVariants as map_fault
use Rattle.geo_features.specs.Faults.{GeoFault, of_map, ◌>>=◌}
use Rattle.geo_features.specs.Gives.{Appends, IsGeoFault, IsMapFault, IsSendFault, of_device}
use Rattle.geo_features.specs.declared.fault.ExportFault.{ExportFault}
use Rattle.geo_features.specs.declared.fault.ExportFault.TheVariants as fault

-- ---- results

pub ok_same : {A E : Type 0} (a b : A) → ◌≡◌ {A = Result A E} (Ok a) (Ok b) → a ≡ b
ok_same a b e = cc

pub err_same : {A E : Type 0} (a b : E) → ◌≡◌ {A = Result A E} (Err a) (Err b) → a ≡ b
err_same a b e = cc

pub err_not_ok : {A E : Type 0} (x : E) (a : A) → ◌≡◌ {A = Result A E} (Err x) (Ok a) → ⊥
err_not_ok x a e = cc

-- ---- faults

carry_map : {X Y : Type 0} (f : OpenFault) (r : Result X GeoFault) (s : Result Y GeoFault)
    → ((x : GeoFault) → r ≡ Err x → s ≡ Err x) → IsMapFault f r → IsMapFault f s
carry_map map_fault.OutOfMemory r s h is = tt
carry_map _ r s h is = (is.0, is.1, h (of_map is.0) is.2)

-- one fault stands for another
pub carry : {X Y : Type 0} (e : ExportFault) (r : Result X GeoFault) (s : Result Y GeoFault)
    → ((x : GeoFault) → r ≡ Err x → s ≡ Err x) → IsGeoFault e r → IsGeoFault e s
carry (fault.Open f) r s h is = carry_map f r s h is
carry fault.Device r s h is = absurd is
carry _ r s h is = h _ is

-- what makes a text has no fault of a device
pub not_device : {X : Type 0} (e : ExportFault) (r : Result X GeoFault) → IsGeoFault e r → false ≡ of_device e
not_device fault.Device r is = absurd is
not_device (fault.Open f) r is = refl
not_device fault.NoLayer r is = refl
not_device fault.SeveralLayers r is = refl
not_device (fault.FewDecimals asked least) r is = refl
not_device (fault.Nested feature) r is = refl
not_device (fault.PointNotWhole point place) r is = refl
not_device (fault.PointOutOfRange point place) r is = refl

-- and its fault is one of a call that sends it
pub sends_fault : {X : Type 0} (e : ExportFault) (r : Result X GeoFault) → IsGeoFault e r → IsSendFault e r
sends_fault fault.Device r is = absurd is
sends_fault (fault.Open f) r is = is
sends_fault fault.NoLayer r is = is
sends_fault fault.SeveralLayers r is = is
sends_fault (fault.FewDecimals asked least) r is = is
sends_fault (fault.Nested feature) r is = is
sends_fault (fault.PointNotWhole point place) r is = is
sends_fault (fault.PointOutOfRange point place) r is = is

-- ---- texts

-- the defined text was put after the old one
pub record Put {A : Type 0} (old new : List A) (r : Result (List A) GeoFault) : Type 0 where
  pub text : List A
  pub is : r ≡ Ok text
  pub put : new ≡ old ++ text

pub put_of : {A : Type 0} (old new : List A) (r : Result (List A) GeoFault)
    → (r >>= λ xs. Ok (old ++ xs)) ≡ Ok new → Put old new r
put_of old new (Ok xs) e = record { text = xs; is = refl; put = sym (ok_same (old ++ xs) new e) }
put_of old new (Err f) e = absurd (err_not_ok f new e)

pub put_back : {A : Type 0} (old new : List A) (r : Result (List A) GeoFault)
    → Put old new r → (r >>= λ xs. Ok (old ++ xs)) ≡ Ok new
put_back old new r p = rw p.is (ap (λ (z : List _). Ok z) (sym p.put))

-- one text after another
pub put_both : {A : Type 0} (old mid new : List A) (r s : Result (List A) GeoFault)
    → Put old mid r → Put mid new s → Put old new (r >>= λ a. s >>= λ b. Ok (a ++ b))
put_both old mid new r s p q = record {
  text = p.text ++ q.text;
  is = rw (p.is, q.is) refl;
  put = q.put ∙ ap (λ z. z ++ q.text) p.put ∙ append_assoc old p.text q.text;
}

-- a text that is put whatever happens
pub plain : {A : Type 0} (old new text : List A) → new ≡ old ++ text → Put old new (Ok text)
plain old new text e = record { text = text; is = refl; put = e }

pub appends_of : {X A : Type 0} (old new : List A) (r : Result X ExportFault) (s : Result (List A) GeoFault) (x : X) → r ≡ Ok x → Put old new s → Appends old new r s
appends_of old new r s x e p = rw e (put_back old new s p)

-- ---- a call whose answer is handed on, after what was put before

pub appends_front : {X A : Type 0} (old mid new front : List A) (r : Result X ExportFault) (s : Result (List A) GeoFault)
    → mid ≡ old ++ front → Appends mid new r s → Appends old new r (s >>= λ o. Ok (front ++ o))
appends_front {A = A} old mid new front (Ok x) s e h =
    let p : Put mid new s = put_of mid new s h in
    put_back old new (s >>= λ o. Ok (front ++ o)) (record {
      text = front ++ p.text;
      is = ap (λ (r : Result (List A) GeoFault). r >>= λ o. Ok (front ++ o)) p.is;
      put = p.put ∙ ap (λ z. z ++ p.text) e ∙ append_assoc old front p.text;
    })
appends_front old mid new front (Err f) s e h = carry f s (s >>= λ o. Ok (front ++ o)) (λ x fx. rw fx refl) h

-- the last of three
pub appends_three : {X A : Type 0} (old m1 m2 new : List A) (b g a : Result (List A) GeoFault) (r : Result X ExportFault)
    → Put old m1 b → Put m1 m2 g → Appends m2 new r a
    → Appends old new r (b >>= λ x. g >>= λ y. a >>= λ z. Ok (x ++ (y ++ z)))
appends_three {A = A} old m1 m2 new b g a (Ok x) p q h =
    let k : Put m2 new a = put_of m2 new a h in
    put_back old new (b >>= λ x. g >>= λ y. a >>= λ z. Ok (x ++ (y ++ z))) (record {
      text = p.text ++ (q.text ++ k.text);
      is =
          ap (λ (r : Result (List A) GeoFault). r >>= λ x. g >>= λ y. a >>= λ z. Ok (x ++ (y ++ z))) p.is
          ∙ ap (λ (r : Result (List A) GeoFault). r >>= λ y. a >>= λ z. Ok (p.text ++ (y ++ z))) q.is
          ∙ ap (λ (r : Result (List A) GeoFault). r >>= λ z. Ok (p.text ++ (q.text ++ z))) k.is;
      put = k.put ∙ ap (λ z. z ++ k.text) (q.put ∙ ap (λ z. z ++ q.text) p.put)
          ∙ append_assoc (old ++ p.text) q.text k.text ∙ append_assoc old p.text (q.text ++ k.text);
    })
appends_three old m1 m2 new b g a (Err f) p q h = carry f a (b >>= λ x. g >>= λ y. a >>= λ z. Ok (x ++ (y ++ z))) (λ x fx. rw (p.is, q.is, fx) refl) h

-- the second of three is at fault, and the first
pub stops_second : {A : Type 0} (e : ExportFault) (b g a : Result (List A) GeoFault) (x : List A) → b ≡ Ok x → IsGeoFault e g
    → IsGeoFault e (b >>= λ x. g >>= λ y. a >>= λ z. Ok (x ++ (y ++ z)))
stops_second e b g a x is h = carry e g (b >>= λ x. g >>= λ y. a >>= λ z. Ok (x ++ (y ++ z))) (λ f fx. rw (is, fx) refl) h

pub stops_first : {A B : Type 0} (e : ExportFault) (r : Result A GeoFault) (k : A → Result B GeoFault) → IsGeoFault e r → IsGeoFault e (r >>= k)
stops_first e r k h = carry e r (r >>= k) (λ f fx. rw fx refl) h
