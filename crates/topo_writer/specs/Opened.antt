-- The collections that are open after items of a layer.
use Rattle.std.specs.Prelude.{Bool, true, false, List, [], ◌∷◌}
use Rattle.ring_machine.specs.Common.{Head, ItemOf, Open, Close, Leaf, Kept}

-- the heads of the collections that are open after the items, the innermost first; those that were
-- open before them
abbrev pub open_after : {R : Type 0} → List Head → List (ItemOf R) → List Head
open_after heads [] = heads
open_after heads (Open h ∷ items) = open_after (h ∷ heads) items
open_after [] (Close ∷ items) = open_after [] items
open_after (h ∷ heads) (Close ∷ items) = open_after heads items
open_after heads (Leaf f ∷ items) = open_after heads items
open_after heads (Kept t ∷ items) = open_after heads items

-- something stands before what follows the items, in the collection that is open there; whether it
-- did before them
abbrev pub more_after : {R : Type 0} → Bool → List (ItemOf R) → Bool
more_after more [] = more
more_after more (Open h ∷ items) = more_after false items
more_after more (Close ∷ items) = more_after true items
more_after more (Leaf f ∷ items) = more_after true items
more_after more (Kept t ∷ items) = more_after true items

-- each Close of the items has a collection that is open before it
abbrev pub is_begin : {R : Type 0} → List Head → List (ItemOf R) → Bool
is_begin heads [] = true
is_begin heads (Open h ∷ items) = is_begin (h ∷ heads) items
is_begin [] (Close ∷ items) = false
is_begin (h ∷ heads) (Close ∷ items) = is_begin heads items
is_begin heads (Leaf f ∷ items) = is_begin heads items
is_begin heads (Kept t ∷ items) = is_begin heads items
