-- Each position of a map's rings is in range, since each vertex stands at one.
use Rattle.kit_words.proofs.Common.{◌≡◌, ℕ, List, [], ◌∷◌, ◌++◌, map, Option, Some, None, refl, sym, subst, arith}
use Rattle.kit_words.proofs.Common.{unwrap_or, pos, AllByRecursion, all_front, all_back, all_joined}
use Rattle.std.specs.FinMap as table
use Rattle.grid_geometry.specs.Common.{Position, InRange, position}
use Rattle.ring_machine.specs.Common.{canonical, rings}
use Rattle.ring_machine.proofs.Common.{canonical_parts, rings-in_rings}
use Rattle.vertex_index.specs.Common.{Placement, place, AreInRange}
use Rattle.arc_tables.specs.Common.{begins}
use Rattle.feature_exchange.specs.Common.{Stored, edges_under, ring_under, stored_document}

each_made : {A B : Type 0} (P : B → Type 0) (f : A → B) (xs : List A) → ((x : A) → P (f x)) → AllByRecursion P (map f xs)
each_made P f [] h = tt
each_made P f (x ∷ xs) h = (h x, each_made P f xs h)

each_canonical : (P : Position → Type 0) (ps : List Position) → AllByRecursion P ps → AllByRecursion P (canonical ps)
each_canonical P ps h =
    let parts = canonical_parts ps in
    let whole : AllByRecursion P (parts.0 ++ parts.1) = subst (AllByRecursion P) parts.2 h in
    subst (AllByRecursion P) (sym parts.3) (all_joined P parts.1 parts.0 (all_back P parts.0 parts.1 whole) (all_front P parts.0 parts.1 whole))

place_in_range : (m : Placement) (k : ℕ) → AreInRange m → InRange (place m k)
place_in_range m k h = by (table.get m k) refl
  where
    by : (o : Option Position) → table.get m k ≡ o → InRange (unwrap_or o (position (pos 0) (pos 0)))
    by None e = record { across = omega arith; upward = omega arith }
    by (Some p) e = h k p e

pub rings_in_range : (s : Stored) → AreInRange s.places → AllByRecursion (AllByRecursion InRange) (rings (stored_document s))
rings_in_range s h =
    subst (AllByRecursion (AllByRecursion InRange)) (sym (rings-in_rings (ring_under s) s.frame))
    (each_made (AllByRecursion InRange) (ring_under s) (rings s.frame) (λ r. each_canonical InRange (map (place s.places) (begins (edges_under s.rings r)))
    (each_made InRange (place s.places) (begins (edges_under s.rings r)) (λ k. place_in_range s.places k h))))
