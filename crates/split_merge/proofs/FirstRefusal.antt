-- The first refusal of two groups of conditions, the one after the other.
use Rattle.kit_words.proofs.Common.{◌≡◌, ◌++◌, refl, sym, subst, List, [], ◌∷◌, Option, None, Some}
use Rattle.ring_machine.specs.Common.{Refusal, first_of}
use Rattle.arc_store.specs.Common.{Refuses}
use Rattle.arc_store.specs.declared.fault.EditFault.{EditFault}
use Rattle.arc_store.specs.declared.fault.EditFault.TheVariants as edit

-- where the first group refuses nothing, the second decides
pub second_group : (xs ys : List (Option Refusal)) → first_of xs ≡ None
    → first_of (xs ++ ys) ≡ first_of ys
second_group [] ys h = refl
second_group (None ∷ xs) ys h = second_group xs ys h
second_group (Some r ∷ xs) ys h = absurd cc

-- a refusal of the first group is the first of both
pub first_group : (xs ys : List (Option Refusal)) (r : Refusal) → first_of xs ≡ Some r
    → first_of (xs ++ ys) ≡ Some r
first_group [] ys r h = absurd cc
first_group (None ∷ xs) ys r h = first_group xs ys r h
first_group (Some q ∷ xs) ys r h = h

-- a fault that names no refusal is allocation failure, and may come in the place of any
pub memory : (fault : EditFault) (refusal : Option Refusal) → Refuses fault None
    → Refuses fault refusal
memory edit.OutOfMemory refusal h = tt
memory fault refusal h = absurd cc

-- a fault that the first group gives is one of both
pub refuses_first : (fault : EditFault) (xs ys : List (Option Refusal)) → Refuses fault (first_of xs)
    → Refuses fault (first_of (xs ++ ys))
refuses_first fault xs ys h = by (first_of xs) refl h
  where
    by : (o : Option Refusal) → first_of xs ≡ o → Refuses fault o
        → Refuses fault (first_of (xs ++ ys))
    by None e h = memory fault (first_of (xs ++ ys)) h
    by (Some r) e h = subst (Refuses fault) (sym (first_group xs ys r e)) h
