-- What is known of a key that stood at a position or was put there.
use Rattle.kit_words.proofs.Common.{◌≡◌, ℕ, Bool, true, false, Some, None, refl, sym, ap, ◌∙◌, subst}
use Rattle.std.specs.FinMap as map
use Rattle.grid_geometry.specs.Common.{Position}
use Rattle.vertex_index.specs.Common.{Placement, AreDistinct}
use Rattle.vertex_index.specs.Put.{IsHere, IsNew}
use Rattle.vertex_index.proofs.PlacementLemmas.{get-inserted, insert-same}

module _ (old new : Placement) (k : ℕ) (p : Position) where
  -- it is that of the vertex that stands there
  pub put_found : (b : Bool) → (b ≡ false → IsHere old new k p) → (b ≡ true → IsNew old new k p)
      → AreDistinct new → (j : ℕ) → map.get old j ≡ Some p → k ≡ j
  put_found true here there d j e = absurd ((there refl).none j e)
  put_found false here there d j e =
      subst AreDistinct (here refl).same d k j p (here refl).here e

  -- and of no other
  pub put_key : (b : Bool) → (b ≡ false → IsHere old new k p) → (b ≡ true → IsNew old new k p)
      → (q : Position) → map.get old k ≡ Some q → q ≡ p
  put_key true here there q e = let bad : None ≡ Some q = sym (there refl).key ∙ e in cc
  put_key false here there q e = let one : Some q ≡ Some p = sym e ∙ (here refl).here in cc

  pub put_ok : (b : Bool) → (b ≡ false → IsHere old new k p) → (b ≡ true → IsNew old new k p)
      → new ≡ map.insert old k p
  put_ok true here there = (there refl).put
  put_ok false here there = (here refl).same ∙ sym (insert-same old k p (here refl).here)

  pub put_held : new ≡ map.insert old k p → map.get new k ≡ Some p
  put_held e = ap (λ m. map.get m k) e ∙ get-inserted old k p
