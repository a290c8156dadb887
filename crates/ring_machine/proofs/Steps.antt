-- What a step is, for each command: the one place that opens the machine.
use Rattle.kit_words.proofs.Common.{◌≡◌, ℕ, ℤ, List, ◌∷◌, refl}
use Rattle.grid_geometry.specs.Common.{Position}
use Rattle.ring_machine.specs.Common.{Document, Text, all_segments, first_pair, least_conflict, put, ins, del, Path}
use Rattle.ring_machine.specs.Common.{path_of, cut, stays, parted, instead, join, take_out, move_refusals}
use Rattle.ring_machine.specs.Common.{insert_refusals, remove_refusals, split_refusals, merge_refusals}
use Rattle.ring_machine.specs.Common.{feature_refusals, feature_at, Move, Insert, Remove, Thin, Split, Merge, Rename}
use Rattle.ring_machine.specs.Common.{Delete, Undo, Done, Made, State, step, edit, changed, undone, thin_step}
use Rattle.ring_machine.specs.Common.{split_state, renamed}

pub step-move : (depth : ℕ) (st : State) (p q : Position)
    → step depth st (Move p q)
    ≡ edit st (move_refusals st.doc p q) Done (changed depth st (put st.doc p q))
unfolding step
step-move depth st p q = refl

pub step-insert : (depth : ℕ) (st : State) (a b q : Position)
    → step depth st (Insert a b q)
    ≡ edit st (insert_refusals st.doc a b q) Done (changed depth st (ins st.doc a b q))
unfolding step
step-insert depth st a b q = refl

pub step-remove : (depth : ℕ) (st : State) (p : Position)
    → step depth st (Remove p)
    ≡ edit st (remove_refusals st.doc p) Done (changed depth st (del st.doc p))
unfolding step
step-remove depth st p = refl

pub step-thin : (depth : ℕ) (st : State) (t : ℤ) → step depth st (Thin t) ≡ thin_step depth st t
unfolding step
step-thin depth st t = refl

pub step-split : (depth : ℕ) (st : State) (n : ℕ) (id : Text) (path : List Position)
    → step depth st (Split n id path)
    ≡ edit st (split_refusals st.doc st.next n id (path_of path)) (Made st.next) (split_state depth st n id path)
unfolding step
step-split depth st n id path = refl

pub step-merge : (depth : ℕ) (st : State) (n m : ℕ)
    → step depth st (Merge n m)
    ≡ edit st (merge_refusals st.doc n m) Done (changed depth st (join st.doc n (feature_at st.doc m)))
unfolding step
step-merge depth st n m = refl

pub step-rename : (depth : ℕ) (st : State) (n : ℕ) (id : Text)
    → step depth st (Rename n id)
    ≡ edit st (feature_refusals st.doc n) Done (changed depth st (renamed st.doc n id))
unfolding step
step-rename depth st n id = refl

pub step-delete : (depth : ℕ) (st : State) (n : ℕ)
    → step depth st (Delete n)
    ≡ edit st (feature_refusals st.doc n) Done (changed depth st (take_out st.doc n))
unfolding step
step-delete depth st n = refl

pub step-undo : (depth : ℕ) (st : State) → step depth st Undo ≡ undone st
unfolding step
step-undo depth st = refl

-- ---- the conditions in order

pub first_pair-is : (d : Document) → first_pair d ≡ least_conflict (all_segments d)
unfolding first_pair
first_pair-is d = refl

pub cut-is : (d : Document) (n : ℕ) (id : Text) (path : Path) (number : ℕ)
    → cut d n id path number ≡ instead n (λ f. stays path f ∷ parted path number id f) d
unfolding cut
cut-is d n id path number = refl
