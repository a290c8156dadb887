-- Whether an arc knows a ring is told by the arc's rings, and by the ring's uses as well.
use Rattle.kit_words.proofs.Common.{◌≡◌, ℕ, refl, sym, ◌∙◌, Contains, arith, IsSome, Option, Some, None, length, ◌≤◌}
use Rattle.kit_words.proofs.Common.{◌==◌, list_any, same_from_decides}
use Rattle.slab.specs.Slab.{Slab, get, ContainsKey}
use Rattle.arc_tables.specs.Common.{Arc, Ring, users_in, uses_in, uses_arc, Known, AllDifferent}
use Rattle.arc_tables.proofs.Different.{any_contained, contained_any}

pub known_by_uses : {A : Type 0} (arcs : Slab (Arc A)) (rings : Slab (Ring A)) → Known arcs rings → (r i : ℕ)
    → uses_arc i (uses_in (get rings r)) ≡ list_any (λ k. k == r) (users_in (get arcs i))
known_by_uses arcs rings known r i =
    let users = users_in (get arcs i) in
    same_from_decides {P = Contains users r} _ _ (known.users r i, known.used r i) (any_contained r users, contained_any r users)

pub in_use : {A : Type 0} (o : Option (Arc A)) (k : ℕ) → Contains (users_in o) k → IsSome o
in_use None k m = absurd (omega (arith, m.1))
in_use (Some v) k m = refl

-- and an arc that is in use is there
pub known_of : {A : Type 0} (arcs : Slab (Arc A)) (rings : Slab (Ring A)) → ((r i : ℕ) → uses_arc i (uses_in (get rings r)) ≡ list_any (λ k. k == r) (users_in (get arcs i)))
    → ((i : ℕ) → AllDifferent (users_in (get arcs i))) → ((i : ℕ) → ContainsKey arcs i → 1 ≤ length (users_in (get arcs i))) → Known arcs rings
known_of arcs rings told single some = record {
  users = λ r i u. any_contained r (users_in (get arcs i)) (sym (told r i) ∙ u);
  there = λ r i u. in_use (get arcs i) r (any_contained r (users_in (get arcs i)) (sym (told r i) ∙ u));
  used = λ r i m. told r i ∙ contained_any r (users_in (get arcs i)) m;
  single = single;
  some = some;
}
