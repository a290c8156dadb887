-- The answers to commands are the machine's.
use Rattle.kit_words.proofs.Common.{◌≡◌, ℕ, refl, sym, ap, ◌∙◌, List, ◌++◌, length, Bool, true, false, cond, Option}
use Rattle.kit_words.proofs.Common.{None, Some, IsTrue, codes, ◌⊎◌, MatchOption, IsSomeAnd}
use Rattle.ring_machine.specs.Common.{Document, features, has_feature, vertices, distinct_segments, counts_of, first_of}
use Rattle.ring_machine.specs.Common.{feature_refusals, feature_at, State, step, edit, query}
use Rattle.ring_machine.specs.Command.{Command, Undo, Rings, Count, Show, Refusal, NoFeature, NothingToUndo, Answer as Answered, Done, RingsAre, CountsAre, DocumentIs, Refused}
use Rattle.arc_store.specs.declared.fault.EditFault.{EditFault}
use Rattle.undo_ring.specs.Common.{answer_of, refusal_of, Edited, machine_of, Applies, Refuses, LacksMemory, IsCutShort}
use Rattle.undo_ring.specs.Common.{CommandFails, IsUndone}
use Rattle.undo_ring.specs.declared.answer.Answer.{Answer}
use Rattle.undo_ring.specs.declared.answer.Answer.TheVariants as told
use Rattle.undo_ring.proofs.MapAnswers.{is_false}
use Rattle.script_runner.specs.Common.{answer_text, refusal_text, polygons_text, numbers_text, refusals, Replied}
use Rattle.script_runner.specs.Common.{IsShown, TellsFault}

step-rings : (depth : ℕ) (st : State) (n : ℕ) → step depth st (Rings n) ≡ query st (feature_refusals st.doc n) (RingsAre (feature_at st.doc n).polygons)
unfolding step
step-rings depth st n = refl

step-count : (depth : ℕ) (st : State) → step depth st Count ≡ (CountsAre (counts_of st.doc), st)
unfolding step
step-count depth st = refl

pub step-show : (depth : ℕ) (st : State) → step depth st Show ≡ (DocumentIs st.doc, st)
unfolding step
step-show depth st = refl

-- what is known of a step that is known
by_step : (was is : Edited) (c : Command) (old new : List ℕ) (refuses : Bool) (a : Answered) (st : State) → (a, st) ≡ step was.depth (machine_of was) c → machine_of is ≡ st → is.depth ≡ was.depth
    → new ≡ old ++ answer_text a → cond refuses 1 0 ≡ refusals a → Replied was is c old new refuses
by_step was is c old new refuses a st s k d t n = record {
  told = t ∙ ap (λ r. old ++ answer_text r.0) s;
  stands = k ∙ ap (λ r. r.1) s;
  depth = d;
  counts = n ∙ ap (λ r. refusals r.0) s;
}

-- ---- what an editor answers

-- an answer is no refusal
answered : {A : Type 0} (a : Answer A) → 0 ≡ refusals (answer_of a)
answered told.Done = refl
answered (told.Thinned n) = refl
answered (told.Made n) = refl
answered (told.Area z) = refl
answered (told.At at) = refl
answered (told.Neighbours ns) = refl

pub applied : {A : Type 0} (was is : Edited) (c : Command) (a : Answer A) (old new : List ℕ) → Applies was is c a → new ≡ old ++ answer_text (answer_of a) → Replied was is c old new false
applied {A} was is c a old new h t = by_step was is c old new false (answer_of a) (machine_of is) h.steps refl h.stays.depth t (answered a)

refused : (was is : Edited) (c : Command) (r : Refusal) (old new : List ℕ) → Refuses was is c r → new ≡ old ++ (codes "refused " ++ refusal_text r) → Replied was is c old new true
refused was is c r old new h t =
    by_step was is c old new true (Refused r) (machine_of was) h.steps (ap machine_of h.same) (ap (λ e. e.depth) h.same) t refl

pub failed : (was is : Edited) (c : Command) (fault : EditFault) (old new : List ℕ) → CommandFails fault was is c → TellsFault fault old new → Replied was is c old new true
failed was is c fault old new h t = by (refusal_of fault) h t
  where
    by : (o : Option Refusal) → MatchOption o (LacksMemory was is ⊎ IsCutShort was is c) (Refuses was is c) → IsSomeAnd o (λ r. new ≡ old ++ (codes "refused " ++ refusal_text r)) → Replied was is c old new true
    by None k u = absurd u
    by (Some r) k u = refused was is c r old new k u

pub undone : (was is : Edited) (old new : List ℕ) → IsUndone was is → new ≡ old ++ codes "ok" → Replied was is Undo old new false
undone was is old new h t = by_step was is Undo old new false Done (machine_of is) h.steps refl h.stays.depth t refl

pub not_undone : (was is : Edited) (old new : List ℕ) → Refuses was is Undo NothingToUndo → new ≡ old ++ codes "refused nothing to undo" → Replied was is Undo old new true
not_undone was is old new = refused was is Undo NothingToUndo old new

-- ---- questions that no editor is asked

-- no refusal, and the first refusal
edit-none : (st after : State) (rs : List (Option Refusal)) (a : Answered) → first_of rs ≡ None → edit st rs a after ≡ (a, after)
edit-none st after rs a e = rw e refl

edit-some : (st after : State) (rs : List (Option Refusal)) (a : Answered) (r : Refusal) → first_of rs ≡ Some r → edit st rs a after ≡ (Refused r, st)
edit-some st after rs a r e = rw e refl

there : (d : Document) (n : ℕ) → has_feature d n ≡ true → first_of (feature_refusals d n) ≡ None
there d n h = rw h refl

missing : (d : Document) (n : ℕ) → has_feature d n ≡ false → first_of (feature_refusals d n) ≡ Some NoFeature
missing d n h = rw h refl

module _ (d : Document) (n : ℕ) (old new : List ℕ) where
  pub listed : IsTrue (has_feature d n) → new ≡ old ++ polygons_text (feature_at d n).polygons → IsShown d (Rings n) old new false
  listed h t = λ e same.
      let st = machine_of e in
      let is = step-rings e.depth st n ∙ edit-none st st (feature_refusals st.doc n) (RingsAre (feature_at st.doc n).polygons) (ap (λ z. first_of (feature_refusals z n)) same ∙ there d n h) in
      by_step e e (Rings n) old new false (RingsAre (feature_at st.doc n).polygons) st (sym is) refl refl
      (t ∙ ap (λ z. old ++ polygons_text (feature_at z n).polygons) (sym same)) refl

  pub not_listed : (IsTrue (has_feature d n) → ⊥) → new ≡ old ++ codes "refused no feature" → IsShown d (Rings n) old new true
  not_listed h t = λ e same.
      let st = machine_of e in
      let is = step-rings e.depth st n ∙ edit-some st st (feature_refusals st.doc n) (RingsAre (feature_at st.doc n).polygons) NoFeature (ap (λ z. first_of (feature_refusals z n)) same ∙ missing d n (is_false (has_feature d n) h)) in
      by_step e e (Rings n) old new true (Refused NoFeature) st (sym is) refl refl t refl

pub counted : (d : Document) (f v s : ℕ) (old new : List ℕ) → f ≡ length (features d) → v ≡ length (vertices d) → s ≡ length (distinct_segments d) → new ≡ old ++ numbers_text f v s
    → IsShown d Count old new false
counted d f v s old new ef ev es t = λ e same.
    by_step e e Count old new false (CountsAre (counts_of e.map.doc)) (machine_of e) (sym (step-count e.depth (machine_of e))) refl refl
    (t ∙ ap (λ n. old ++ numbers_text n v s) ef ∙ ap (λ n. old ++ numbers_text (length (features d)) n s) ev
    ∙ ap (λ n. old ++ numbers_text (length (features d)) (length (vertices d)) n) es ∙ ap (λ z. old ++ answer_text (CountsAre (counts_of z))) (sym same)) refl
