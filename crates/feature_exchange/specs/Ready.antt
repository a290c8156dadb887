-- Features exchanged in a frame of ring numbers: when that can be done without memory.
use Rattle.std.specs.Prelude.{ℕ, ◌≡◌, ◌<◌, true, List, [], ◌∷◌, map, Option, None, Some, option_map, IsTrue, Contains, Vec}
use Rattle.std.specs.List.{flat_map, AllByRecursion}
use Rattle.grid_geometry.specs.Common.{Position}
use Rattle.ring_machine.specs.Common.{FeatureOf, DocumentOf, feature, rings, rings_of, are_distinct, fits_form}
use Rattle.edit_records.specs.Common.{AreNumbered, exchanged}
use Rattle.map_frame.specs.Common.{feature_numbers, Framed, texts_of, with_texts, ArePlaced}
use Rattle.feature_exchange.specs.declared.change.Change.{Change}
use Rattle.feature_exchange.specs.declared.change.WholeFeature.{WholeFeature}

-- the rings of a feature, and none where there is none
abbrev pub rings_in : {R : Type 0} → Option (FeatureOf R) → List R
rings_in None = []
rings_in (Some f) = rings_of f

-- the rings that come
abbrev pub coming : {R : Type 0} → List (ℕ × Option (FeatureOf R)) → List R
coming cs = flat_map (λ c. rings_in c.1) cs

-- the features fit their forms
abbrev pub FitsForm : {R : Type 0} → Option (FeatureOf R) → Type 0
FitsForm {R} o = (f : FeatureOf R) → o ≡ Some f → fits_form f ≡ true

-- these numbers can have these features in the frame
pub record IsReady (frame : Framed) (cs : List (ℕ × Option (FeatureOf ℕ))) : Type 0 where
  pub placed : ArePlaced frame.places frame.next frame.doc
  pub below : AllByRecursion (λ c. c.0 < frame.next) cs
  pub apart : IsTrue (are_distinct (map (λ c. c.0) cs))
  pub own : AreNumbered cs
  pub fits : AllByRecursion (λ c. FitsForm c.1) cs
  pub once : IsTrue (are_distinct (rings frame.doc))
  pub different : IsTrue (are_distinct (coming cs))
  pub new : (r : ℕ) → Contains (coming cs) r → ¬ (Contains (rings frame.doc) r)
  pub room : (r : ℕ) → Contains (coming cs) r → r < frame.room

module _ {A : Type 0} where
  -- the change, with ring numbers in the place of rings
  abbrev pub numbered : Change A → List (List ℕ) → ℕ × Option (FeatureOf ℕ)
  numbered c polygons = (c.number, option_map (λ w. with_texts c.number w.texts polygons) c.was)

  -- all of them
  abbrev pub all_numbered : List (Change A) → List (Vec (Vec ℕ A) A) → List (ℕ × Option (FeatureOf ℕ))
  all_numbered (c ∷ cs) (l ∷ ls) = numbered c (feature_numbers l) ∷ all_numbered cs ls
  all_numbered [] ls = []
  all_numbered (c ∷ cs) [] = []

  -- what a number had, with these rings
  abbrev pub had : Vec (Vec (Vec Position A) A) A → FeatureOf ℕ → WholeFeature A
  had polygons f = record { texts = texts_of f; polygons = polygons }

  -- what the number of the change had
  abbrev pub change_had : DocumentOf ℕ → Change A → Vec (Vec (Vec Position A) A) A → Change A
  change_had d c polygons = record { number = c.number; was = option_map (had polygons) (feature d c.number) }

  -- what the numbers had
  abbrev pub all_had : DocumentOf ℕ → List (Change A) → List (Vec (Vec (Vec Position A) A) A)
      → List (Change A)
  all_had d (c ∷ cs) (p ∷ ps) = change_had d c p ∷ all_had d cs ps
  all_had d [] ps = []
  all_had d (c ∷ cs) [] = []

-- the frame with these features
abbrev pub put_in : Framed → List (ℕ × Option (FeatureOf ℕ)) → Framed
put_in frame cs = record frame { doc = exchanged frame.places cs frame.doc }
