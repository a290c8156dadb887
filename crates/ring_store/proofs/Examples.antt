-- Worked examples of vertices put back, the second between the first and a neighbour of it.
use Rattle.kit_words.proofs.Common.{◌≡◌, ◌≢◌, ℕ, pos, true, false, refl, sym, ap, ◌∙◌, List, [], ◌∷◌, None, false≢true}
use Rattle.kit_words.proofs.Common.{same_Some, none-some, ℕ_discrete}
use Rattle.std.specs.FinMap as table
use Rattle.grid_geometry.specs.Common.{Position, position, position_eq, segment}
use Rattle.vertex_index.specs.Common.{Placement, IsOccupied}
use Rattle.vertex_index.proofs.Common.{get-inserted}
use Rattle.ring_store.proofs.Places.{insert_other}
use Rattle.ring_store.specs.Common.{Removal, ArePlaceable, comings, goings}

abbrev on_axis : ℕ → Position
on_axis x = position (pos x) (pos 0)

-- one between 0 and 4, and then one between it and 4
abbrev two : List Removal
two = record { at = on_axis 2; a = on_axis 0; b = on_axis 4 } ∷ record { at = on_axis 3; a = on_axis 2; b = on_axis 4 } ∷ []

-- the segment from 2 to 4 comes, and then it goes
they_come : comings two ≡ segment (on_axis 0) (on_axis 2) ∷ segment (on_axis 2) (on_axis 4) ∷ segment (on_axis 2) (on_axis 3) ∷ segment (on_axis 3) (on_axis 4) ∷ []
they_come = refl

they_go : goings two ≡ segment (on_axis 0) (on_axis 4) ∷ segment (on_axis 2) (on_axis 4) ∷ []
they_go = refl

apart : (p q : Position) → position_eq p p ≡ true → position_eq p q ≡ false → p ≢ q
apart p q same differ e = false≢true (sym differ ∙ ap (position_eq p) (sym e) ∙ same)

module _ (places : Placement) (first : IsOccupied places (on_axis 0)) (last : IsOccupied places (on_axis 4)) (free : ¬ (IsOccupied places (on_axis 2))) (free_too : ¬ (IsOccupied places (on_axis 3))) where
  -- the second is placeable wherever the first was placed
  they_are_placeable : ArePlaceable places two
  they_are_placeable = (apart (on_axis 0) (on_axis 4) refl refl, first, last, free, λ k new. (apart (on_axis 2) (on_axis 4) refl refl, (k, get-inserted places k (on_axis 2)), still k new, not_yet k, λ j next. tt))
    where
      differs : (k : ℕ) → table.get places k ≡ None → last.0 ≢ k
      differs k new e = none-some (on_axis 4) (sym new ∙ ap (table.get places) (sym e) ∙ last.1)

      still : (k : ℕ) → table.get places k ≡ None → IsOccupied (table.insert places k (on_axis 2)) (on_axis 4)
      still k new = (last.0, insert_other places k (on_axis 2) last.0 (differs k new) ∙ last.1)

      not_yet : (k : ℕ) → ¬ (IsOccupied (table.insert places k (on_axis 2)) (on_axis 3))
      not_yet k held = by (ℕ_discrete held.0 k)
        where
          by : Dec (held.0 ≡ k) → ⊥
          by (yes e) = apart (on_axis 2) (on_axis 3) refl refl (same_Some (on_axis 2) (on_axis 3) (sym (get-inserted places k (on_axis 2)) ∙ ap (table.get (table.insert places k (on_axis 2))) (sym e) ∙ held.1))
          by (no f) = free_too (held.0, sym (insert_other places k (on_axis 2) held.0 f) ∙ held.1)
