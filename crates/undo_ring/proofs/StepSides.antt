-- A step of the machine that edits vertices leaves every position on its side of every ring.
use Rattle.kit_words.proofs.Common.{◌≡◌, ℕ, ℤ, Bool, true, false, refl, sym, subst, cond, List, Option, None, Some}
use Rattle.kit_words.proofs.Common.{◌==◌}
use Rattle.ring_machine.specs.Common.{Proper, put, ins, del, KeepsSides, thinned, first_of, move_refusals}
use Rattle.ring_machine.specs.Common.{insert_refusals, remove_refusals, Command, Move, Insert, Remove, Thin, Refusal}
use Rattle.ring_machine.specs.Common.{Answer, Done, Thinned, Refused, State, step, edit, changed, thin_step}
use Rattle.ring_machine.proofs.Common.{moved, inserted, removed, thinned-keeps, step-move, step-insert, step-remove}
use Rattle.ring_machine.proofs.Common.{step-thin}
use Rattle.edit_vertex.proofs.Common.{same_keeps}
use Rattle.undo_ring.specs.Common.{EditsVertices}

-- what holds of the accepted edit, and of each refusal, holds of a step that may be refused
pub edit_either : (st : State) (P : Answer × State → Type 0) (rs : List (Option Refusal)) (a : Answer) (after : State)
    → (first_of rs ≡ None → P (a, after)) → ((r : Refusal) → P (Refused r, st)) → P (edit st rs a after)
edit_either st P rs a after accepted refused = by (first_of rs) refl
  where
    by : (o : Option Refusal) → first_of rs ≡ o → P (edit st rs a after)
    by None e = let done : edit st rs a after ≡ (a, after) = rw e refl in subst P (sym done) (accepted e)
    by (Some r) e = let stays : edit st rs a after ≡ (Refused r, st) = rw e refl in subst P (sym stays) (refused r)

module _ (depth : ℕ) (st : State) (proper : Proper st.doc) where
  abbrev Keeps : Answer × State → Type 0
  Keeps r = KeepsSides st.doc r.1.doc

  -- an edit that may be refused
  edit_keeps : (rs : List (Option Refusal)) (a : Answer) (after : State)
      → (first_of rs ≡ None → KeepsSides st.doc after.doc) → Keeps (edit st rs a after)
  edit_keeps rs a after accepted = edit_either st Keeps rs a after accepted (λ r. same_keeps st.doc)

  thin_keeps : (t : ℤ) → Keeps (thin_step depth st t)
  thin_keeps t = by ((thinned t st.doc).removed == 0)
    where
      by : (none : Bool)
          → Keeps (cond none (Thinned 0, st) (Thinned (thinned t st.doc).removed, changed depth st (thinned t st.doc).doc))
      by true = same_keeps st.doc
      by false = (thinned-keeps st.doc t proper).sides

  pub step_keeps : (c : Command) → EditsVertices c → Keeps (step depth st c)
  step_keeps (Move p q) edits =
      subst Keeps (sym (step-move depth st p q))
      (edit_keeps (move_refusals st.doc p q) Done (changed depth st (put st.doc p q)) (λ h. (moved st.doc p q proper h).1))
  step_keeps (Insert a b q) edits =
      subst Keeps (sym (step-insert depth st a b q))
      (edit_keeps (insert_refusals st.doc a b q) Done (changed depth st (ins st.doc a b q)) (λ h. (inserted st.doc a b q proper h).1))
  step_keeps (Remove p) edits =
      subst Keeps (sym (step-remove depth st p))
      (edit_keeps (remove_refusals st.doc p) Done (changed depth st (del st.doc p)) (λ h. (removed st.doc p proper h).1))
  step_keeps (Thin t) edits = subst Keeps (sym (step-thin depth st t)) (thin_keeps t)
  step_keeps c edits = absurd edits
