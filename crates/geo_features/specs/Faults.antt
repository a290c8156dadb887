-- Why a layer is not written.
use Rattle.std.specs.Prelude.{ℕ, ◌+◌, Bool, true, false, List, [], ◌∷◌, Result, Ok, Err}
use Rattle.topo_outline.specs.Common.{Fault}

-- what is wrong: a fault of the map; no layer, or more than one, is the one that is asked for; so many decimals are asked
-- for, and this is the least number; something within this Feature has an id, properties or members of its own; and of
-- this point of the map a coordinate, at this place of the point's own text, is not whole, or beyond the range
pub data GeoFault : Type 0 where
  of_map : Fault → GeoFault
  no_layer : GeoFault
  several_layers : GeoFault
  few_decimals : ℕ → ℕ → GeoFault
  nested : ℕ → GeoFault
  point_not_whole : ℕ → ℕ → GeoFault
  point_out_of_range : ℕ → ℕ → GeoFault

-- one after another: the first fault is answered
infixl 10 ◌>>=◌
abbrev pub ◌>>=◌ : {A B : Type 0} → Result A GeoFault → (A → Result B GeoFault) → Result B GeoFault
(Ok x) >>= f = f x
(Err e) >>= f = Err e

-- the first fault in order, or all answers
abbrev pub each : {A B : Type 0} → (A → Result B GeoFault) → List A → Result (List B) GeoFault
each f [] = Ok []
each f (a ∷ as') = do
  b ← f a
  bs ← each f as'
  Ok (b ∷ bs)

-- the same, each with its number
abbrev pub each_at : {A B : Type 0} → (ℕ → A → Result B GeoFault) → ℕ → List A → Result (List B) GeoFault
each_at f i [] = Ok []
each_at f i (a ∷ as') = do
  b ← f i a
  bs ← each_at f (i + 1) as'
  Ok (b ∷ bs)

-- r, where the test holds
abbrev pub demand : {A : Type 0} → Bool → GeoFault → Result A GeoFault → Result A GeoFault
demand true f r = r
demand false f r = Err f

-- a fault of the map
abbrev pub of_opening : {A : Type 0} → Result A Fault → Result A GeoFault
of_opening (Ok a) = Ok a
of_opening (Err f) = Err (of_map f)
