-- How the table of rings' names changes.
use Rattle.std.specs.Prelude.{ℕ, ◌≡◌, ◌<◌, ◌⊎◌, List, length, Option, slice_get, Some}
use Rattle.map_frame.specs.declared.names.RingName.{RingName}
use Rattle.map_frame.specs.Named.{IsNamed}
use Rattle.map_frame.specs.Readers.{element}

-- rings got names, each one for which this is true and no other, and no ring lost its name
pub record Gain (old new : List (Option RingName)) (Is : RingName → ℕ → Type 0) : Type 0 where
  pub right : (r : ℕ) (name : RingName) → IsNamed new r name → IsNamed old r name ⊎ Is name r
  pub kept : (r : ℕ) (name : RingName) → IsNamed old r name → (o : RingName) × IsNamed new r o
  pub each : (r : ℕ) (name : RingName) → Is name r → (o : RingName) × IsNamed new r o

-- the rings for which this is true lost their names, and no other ring did
pub record Loss (old new : List (Option RingName)) (Is : ℕ → Type 0) : Type 0 where
  pub right : (r : ℕ) (name : RingName) → IsNamed new r name → IsNamed old r name × (Is r → ⊥)
  pub kept : (r : ℕ) (name : RingName) → IsNamed old r name → (Is r → ⊥) → IsNamed new r name

-- the same rings have the same names
pub record SameNames (old new : List (Option RingName)) : Type 0 where
  pub from : (r : ℕ) (name : RingName) → IsNamed new r name → IsNamed old r name
  pub to : (r : ℕ) (name : RingName) → IsNamed old r name → IsNamed new r name

-- the number is one of the list
abbrev pub IsNumberOf : List ℕ → ℕ → Type 0
IsNumberOf rings r = (i : ℕ) × (slice_get rings i ≡ Some r)

-- there is room for the names of these rings
abbrev pub HasRoom : List ℕ → List (Option RingName) → Type 0
HasRoom rings names = (r : ℕ) → IsNumberOf rings r → r < length names

-- the number of the ring with this name, among the rings of all features
abbrev pub number_among : List (List (List ℕ)) → RingName → Option ℕ
number_among all name = element (element (slice_get all name.feature) name.polygon) name.ring

-- each of these rings has a name, and it is its own
pub record AllNamed (names : List (Option RingName)) (all : List (List (List ℕ))) : Type 0 where
  pub each : (r : ℕ) (name : RingName) → number_among all name ≡ Some r
      → (o : RingName) × IsNamed names r o
  pub right : (r : ℕ) (name : RingName) → IsNamed names r name → number_among all name ≡ Some r
