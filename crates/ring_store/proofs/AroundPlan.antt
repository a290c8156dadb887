-- The positions around a vertex, from the list of what is joined to it.
use Rattle.kit_words.proofs.Common.{◌≡◌, ◌<◌, ℕ, true, sym, ap, ◌∙◌, subst, List, [], ◌++◌, map, length, get_or}
use Rattle.kit_words.proofs.Common.{Contains, Bool, false, refl, ◌≢◌, ◌∷◌, inl, inr, Some}
use Rattle.std.specs.FinMap as table
use Rattle.grid_geometry.specs.Common.{Position}
use Rattle.vertex_index.specs.Common.{Placement, place}
use Rattle.arc_tables.specs.Common.{Rings}
use Rattle.ring_store.specs.Common.{Joined, AreNeighbours, ListsJoined, AreAround}
use Rattle.ring_store.specs.Planned.{ArePlaced}
use Rattle.ring_store.specs.declared.neighbours.Neighbours.TheVariants.{Two}
use Rattle.ring_store.proofs.Places.{place_is}
use Rattle.ring_machine.specs.Common.{has}
use Rattle.ring_machine.proofs.Common.{In, in_mapped, in_contains, has-in}
use Rattle.ring_store.proofs.Planned.{all_different}

module _ (places : Placement) (m : Rings) (k : ℕ) (old new : List ℕ) (lists : ListsJoined m k old new) (none : old ≡ []) where
  all_new : new ≡ lists.found
  all_new = lists.appended ∙ ap (λ z. z ++ lists.found) none

  -- each of them is kept
  pub key_placed : ArePlaced places m k → (i x : ℕ) → i < length new → x ≡ get_or new i x
      → table.contains_key places x ≡ true
  key_placed placed i x l e =
      placed x ((lists.all x).0 (subst (λ z. Contains z x) all_new (i, l, sym e)))

  pub around_is : (around : List Position) → around ≡ map (place places) new
      → AreAround places m k around
  around_is around e = record {
    keys = lists.found;
    joined = lists.all;
    once = all_different lists.found lists.once;
    are = e ∙ ap (map (place places)) all_new;
  }

-- a position that none of them has
pub not_around : (places : Placement) (m : Rings) (k : ℕ) (around : List Position)
    → AreAround places m k around → (p : Position)
    → ((x : ℕ) → Joined m k x → place places x ≢ p) → has around p ≡ false
not_around places m k around r p differ = by (has around p) refl
  where
    by : (b : Bool) → has around p ≡ b → has around p ≡ false
    by false e = e
    by true e =
        let x = in_mapped (place places) p r.keys (subst (In p) r.are (has-in p around e)) in
        absurd (differ x.0 ((r.joined x.0).0 (in_contains r.keys x.0 x.1)) x.2)
