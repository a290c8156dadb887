-- A table of features in which one place was written.
use Rattle.kit_words.proofs.Common.{◌≡◌, ◌≢◌, ◌<◌, ◌≤◌, ℕ, zero, suc, refl, ap, List, [], ◌∷◌, length, slice_set, arith}
use Rattle.kit_words.proofs.Common.{Option, Some, None, option_map, slice_get, slice_get_past}
use Rattle.map_frame.specs.Common.{Feature, view_feature}
use Rattle.map_frame.proofs.PlacesSeen.{entry}

module _ {X : Type 0} where
  pub set_here : (xs : List X) (i : ℕ) (x : X) → i < length xs → slice_get (slice_set xs i x) i ≡ Some x
  set_here [] i x l = absurd (omega arith)
  set_here (y ∷ xs) zero x l = refl
  set_here (y ∷ xs) (suc i) x l = set_here xs i x (omega arith)

  pub set_other : (xs : List X) (i j : ℕ) (x : X) → j ≢ i → slice_get (slice_set xs i x) j ≡ slice_get xs j
  set_other [] i j x f = refl
  set_other (y ∷ xs) zero zero x f = absurd (f refl)
  set_other (y ∷ xs) zero (suc j) x f = refl
  set_other (y ∷ xs) (suc i) zero x f = refl
  set_other (y ∷ xs) (suc i) (suc j) x f = set_other xs i j x (λ e. f (ap suc e))

module _ {A : Type 0} (fs : List (Option (Feature A))) (n : ℕ) (o : Option (Feature A)) where
  pub entry_here : n < length fs → entry (slice_set fs n o) n ≡ option_map (view_feature n) o
  entry_here l = rw (set_here fs n o l) refl

  pub entry_other : (m : ℕ) → m ≢ n → entry (slice_set fs n o) m ≡ entry fs m
  entry_other m f = rw (set_other fs n m o f) refl

module _ {A : Type 0} (fs : List (Option (Feature A))) (n : ℕ) where
  -- a number past the table is of no feature
  pub absent_past : length fs ≤ n → entry fs n ≡ None
  absent_past l = rw (slice_get_past fs n l) refl

  -- nor is that of a feature that was taken out
  pub absent_taken : slice_get fs n ≡ Some None → entry fs n ≡ None
  absent_taken e = rw e refl
