-- Histories that are cut short, and that outlive a new number.
use Rattle.kit_words.proofs.Common.{◌≡◌, ℕ, zero, suc, ◌≤◌, Bool, true, false, refl, sym, ap, ◌∙◌, subst, cond, List}
use Rattle.kit_words.proofs.Common.{[], ◌∷◌, take, Option, None, arith, eqb-true, ◌==◌}
use Rattle.ring_machine.specs.Common.{Document, Feature, feature, has_feature}
use Rattle.ring_machine.proofs.Common.{feature_none}
use Rattle.edit_records.specs.Common.{LayerTree, exchanged_features, grown, Record, Moved, Inserted, Removed, Thinned}
use Rattle.edit_records.specs.Common.{Renamed, Exchanged, back, AreChanged, Fits, IsMap, Undoes, documents, AreUndoing}
use Rattle.edit_records.proofs.PlacesBack.{filled-grown}

-- ---- the newest ones

pub documents-take : (trees : List LayerTree) (n : ℕ) (d : Document) (rs : List Record)
    → documents trees d (take n rs) ≡ take n (documents trees d rs)
documents-take trees zero d rs = refl
documents-take trees (suc n) d [] = refl
documents-take trees (suc n) d (r ∷ rs) =
    ap (λ z. back trees r d ∷ z) (documents-take trees n (back trees r d) rs)

pub undoing-take : (trees : List LayerTree) (next n : ℕ) (d : Document) (rs : List Record)
    → AreUndoing trees next d rs → AreUndoing trees next d (take n rs)
undoing-take trees next zero d rs h = tt
undoing-take trees next (suc n) d [] h = h
undoing-take trees next (suc n) d (r ∷ rs) h = (h.0, undoing-take trees next n (back trees r d) rs h.1)

-- ---- a greater next number

changed_later : (next later : ℕ) → next ≤ later → (cs : List (ℕ × Option Feature)) → AreChanged next cs → AreChanged later cs
changed_later next later l [] h = h
changed_later next later l (c ∷ cs) h =
    (omega (arith, h.0), h.1, changed_later next later l cs h.2)

fits_later : (next later : ℕ) → next ≤ later → (d : Document) (r : Record) → Fits next d r → Fits later d r
fits_later next later l d (Moved p q) h = h
fits_later next later l d (Inserted q) h = h
fits_later next later l d (Removed r) h = h
fits_later next later l d (Thinned rs) h = h
fits_later next later l d (Renamed n id) h = h
fits_later next later l d (Exchanged cs) h = (h.0, changed_later next later l cs h.1)

undoes_later : (trees : List LayerTree) (next later : ℕ) → next ≤ later → (d : Document) (r : Record)
    → Undoes trees next d r → Undoes trees later d r
undoes_later trees next later l d r u = record {
  map = u.map;
  fits = fits_later next later l d r u.fits;
  below = λ m h. u.below m (omega (arith, l, h));
}

pub undoing-later : (trees : List LayerTree) (next later : ℕ) → next ≤ later → (d : Document)
    (rs : List Record) → AreUndoing trees next d rs → AreUndoing trees later d rs
undoing-later trees next later l d [] h = h
undoing-later trees next later l d (r ∷ rs) h =
    (undoes_later trees next later l d r h.0, undoing-later trees next later l (back trees r d) rs h.1)

-- ---- a new number's place

module _ (trees : List LayerTree) (next n new : ℕ) (later : next ≤ new) where
  none_before : (cs : List (ℕ × Option Feature)) → AreChanged next cs → (features : ℕ → Option Feature)
      → features new ≡ None → exchanged_features cs features new ≡ None
  none_before [] h features none = none
  none_before (c ∷ cs) h features none =
      by (new == c.0) refl (none_before cs h.2 features none)
    where
      by : (b : Bool) → (new == c.0) ≡ b → exchanged_features cs features new ≡ None
          → cond b c.1 (exchanged_features cs features new) ≡ None
      by true e k = let same : new ≡ c.0 = eqb-true new c.0 e in absurd (omega (arith, same, h.0, later))
      by false e k = k

  pub back-grown : (d : Document) (r : Record) → Fits next d r → has_feature d new ≡ false
      → back (grown n new trees) r d ≡ back trees r d
  unfolding back
  back-grown d (Moved p q) h free = refl
  back-grown d (Inserted q) h free = refl
  back-grown d (Removed r) h free = refl
  back-grown d (Thinned rs) h free = refl
  back-grown d (Renamed m id) h free = refl
  back-grown d (Exchanged cs) h free =
      ap (λ z. record { transform = d.transform; layers = z; members = d.members })
      (filled-grown (exchanged_features cs (feature d)) n new
      (none_before cs h.1 (feature d) (feature_none d new free)) trees)

  pub documents-grown : (d : Document) (rs : List Record) → AreUndoing trees next d rs
      → has_feature d new ≡ false → documents (grown n new trees) d rs ≡ documents trees d rs
  documents-grown d [] h free = refl
  documents-grown d (r ∷ rs) h free =
      let same = back-grown d r h.0.fits free in
      ap (λ z. z ∷ documents (grown n new trees) z rs) same
      ∙ ap (λ z. back trees r d ∷ z) (documents-grown (back trees r d) rs h.1 (h.0.below new later))

  pub undoing-grown : (d : Document) (rs : List Record) → AreUndoing trees next d rs
      → has_feature d new ≡ false → AreUndoing (grown n new trees) next d rs
  undoing-grown d [] h free = h
  undoing-grown d (r ∷ rs) h free =
      let same = back-grown d r h.0.fits free in
      let rest = undoing-grown (back trees r d) rs h.1 (h.0.below new later) in (
        record {
          map = subst (λ z. IsMap z) (sym same) h.0.map;
          fits = h.0.fits;
          below = λ m l. ap (λ z. has_feature z m) same ∙ h.0.below m l;
        },
        subst (λ z. AreUndoing (grown n new trees) next z rs) (sym same) rest,
      )
