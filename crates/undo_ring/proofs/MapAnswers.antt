-- An edit's own clauses make a step of the machine, whatever the history.
use Rattle.kit_words.proofs.Common.{◌≡◌, ◌≢◌, ◌≤◌, ℕ, ℤ, ap, ap₂, IfOk, refl, sym, subst, ◌∙◌, List, [], ◌∷◌, take}
use Rattle.kit_words.proofs.Common.{Bool, true, false, cond, Option, None, Some, IsTrue, Result, Ok, Err, OnOk, not}
use Rattle.kit_words.proofs.Common.{◌&&◌, ◌==◌, arith, inl, inr, nat_tests, MatchOption, fold}
use Rattle.grid_geometry.specs.Common.{Position}
use Rattle.ring_machine.specs.Common.{Document, has_feature, put, ins, del, is_junction, path_of, join, take_out}
use Rattle.ring_machine.specs.Common.{Thinning, IsThinnedPart, is_flat, without, thin_at, thinned, area_of, inside_at}
use Rattle.ring_machine.specs.Common.{border_at, neighbours_of, vertices, first_of, move_refusals, insert_refusals}
use Rattle.ring_machine.specs.Common.{remove_refusals, split_refusals, merge_refusals, feature_refusals, feature_at}
use Rattle.ring_machine.specs.Common.{Command, Move, Insert, Remove, Thin, Split, Merge, Rename, Delete, Area, At}
use Rattle.ring_machine.specs.Common.{Neighbours, Refusal, Refused, State, step, edit, changed, query, renamed}
use Rattle.ring_machine.specs.Common.{split_state}
use Rattle.ring_machine.specs.Command as machine
use Rattle.ring_machine.proofs.Common.{step-move, step-insert, step-remove, step-thin, step-split, step-merge}
use Rattle.ring_machine.proofs.Common.{step-rename, step-delete}
use Rattle.edit_records.specs.Common.{string_text}
use Rattle.edit_records.specs.Common.{Record, Takes}
use Rattle.arc_store.specs.Common.{Edits, IsSameMap, edit_begun, split_map, IsRecorded, Refuses}
use Rattle.arc_store.specs.State.{State as MapState}
use Rattle.arc_store.specs.declared.fault.EditFault.{EditFault}
use Rattle.arc_store.specs.declared.fault.EditFault.TheVariants.{OutOfMemory}
use Rattle.point_queries.specs.declared.numbers.At.{At as AtFound}
use Rattle.edit_vertex.specs.Common.{IsThinRecorded}
use Rattle.undo_ring.specs.Common.{with_past, past_after, is_change, StaysPlaced, KeepsMap, AcceptsOn, RefusesOn, StopsOn}
use Rattle.undo_ring.specs.Common.{FailsOn, AnswersMap, done_of, made_of}
use Rattle.undo_ring.specs.declared.answer.Answer.TheVariants as told

step-area : (depth : ℕ) (st : State) (n : ℕ) → step depth st (Area n) ≡ query st (feature_refusals st.doc n) (machine.AreaIs (area_of (feature_at st.doc n)))
unfolding step
step-area depth st n = refl

step-at : (depth : ℕ) (st : State) (p : Position) → step depth st (At p) ≡ (machine.AtIs (inside_at st.doc p) (border_at st.doc p), st)
unfolding step
step-at depth st p = refl

step-neighbours : (depth : ℕ) (st : State) (n : ℕ) → step depth st (Neighbours n) ≡ query st (feature_refusals st.doc n) (machine.NeighboursAre (neighbours_of st.doc (feature_at st.doc n)))
unfolding step
step-neighbours depth st n = refl

-- no refusal, and the first refusal
edit-none : (st after : State) (rs : List (Option Refusal)) (a : machine.Answer) → first_of rs ≡ None → edit st rs a after ≡ (a, after)
edit-none st after rs a e = rw e refl

edit-some : (st after : State) (rs : List (Option Refusal)) (a : machine.Answer) (r : Refusal) → first_of rs ≡ Some r → edit st rs a after ≡ (Refused r, st)
edit-some st after rs a r e = rw e refl

-- ---- maps

pub same_map : (old new : MapState) → new.doc ≡ old.doc → StaysPlaced old new → new.cells ≡ old.cells
    → new.last ≡ old.last → IsSameMap old new
same_map old new d s c l =
    λ i. record new { doc = d i; next = s.next i; places = s.places i; cells = c i; last = l i }

-- ---- a refusal

by_fault : (fault : EditFault) (o : Option Refusal) (old new : MapState) (c : Command) → Refuses fault o → IsSameMap old new → ((r : Refusal) → o ≡ Some r → RefusesOn old new c r) → FailsOn fault old new c
by_fault OutOfMemory o old new c f same k = inl same
by_fault fault o old new c f same k = k _ f

-- what a step is that may be refused
abbrev IsEdit : MapState → Command → List (Option Refusal) → machine.Answer → (ℕ → State → State) → Type 0
IsEdit old c rs a after = (depth : ℕ) (past : List Document) → step depth (with_past old past) c ≡ edit (with_past old past) rs a (after depth (with_past old past))

refused : (old new : MapState) (c : Command) (rs : List (Option Refusal)) (a : machine.Answer) (after : ℕ → State → State) → IsEdit old c rs a after → (fault : EditFault) → Refuses fault (first_of rs) → IsSameMap old new → FailsOn fault old new c
refused old new c rs a after steps fault f same =
    by_fault fault (first_of rs) old new c f same (λ r first. record {
      steps = λ depth past. sym (steps depth past ∙ edit-some (with_past old past) (after depth (with_past old past)) rs a r first);
      same = same;
    })

-- ---- an edit

module _ (A : Type 0) (old new : MapState) (taken : old.last ≡ None) where
  -- nothing was to be taken back before
  as_it_was : IsSameMap (edit_begun old) new → IsSameMap old new
  as_it_was same = same ∙ ap (λ o. record old { tests = new.tests; last = o }) (sym taken)

  -- the document is another
  abbrev IsMade : Result (Unit {0}) EditFault → List (Option Refusal) → Document → Type 0
  IsMade outcome rs e =
      Edits (edit_begun old) new outcome (first_of rs) (record old { doc = e; last = new.last })

  edited : (c : Command) (rs : List (Option Refusal)) (e : Document) → IsEdit old c rs machine.Done (λ depth st. changed depth st e)
      → (outcome : Result (Unit {0}) EditFault) → IsMade outcome rs e → OnOk outcome (IsRecorded old new) → AnswersMap {A = A} old new c (done_of outcome)
  edited c rs e steps (Ok done) edits recorded = record {
    steps = λ depth past.
        ap (λ (m : MapState). (machine.Done, with_past m (take depth (old.doc ∷ past)))) edits.made
        ∙ sym (steps depth past ∙ edit-none (with_past old past) (changed depth (with_past old past) e) rs machine.Done edits.accepted);
    cells = ap (λ (m : MapState). m.cells) edits.made;
    kept = (recorded, inl (record { next = ap (λ (m : MapState). m.next) edits.made; places = ap (λ (m : MapState). m.places) edits.made }));
  }
  edited c rs e steps (Err fault) edits recorded =
      refused old new c rs machine.Done (λ depth st. changed depth st e) steps fault edits.refused (as_it_was edits.unchanged)

  pub move_answered : (p q : Position) (outcome : Result (Unit {0}) EditFault) → IsMade outcome (move_refusals old.doc p q) (put old.doc p q)
      → OnOk outcome (IsRecorded old new) → AnswersMap {A = A} old new (Move p q) (done_of outcome)
  move_answered p q = edited (Move p q) (move_refusals old.doc p q) (put old.doc p q) (λ depth past. step-move depth (with_past old past) p q)

  pub insert_answered : (a b q : Position) (outcome : Result (Unit {0}) EditFault) → IsMade outcome (insert_refusals old.doc a b q) (ins old.doc a b q)
      → OnOk outcome (IsRecorded old new) → AnswersMap {A = A} old new (Insert a b q) (done_of outcome)
  insert_answered a b q = edited (Insert a b q) (insert_refusals old.doc a b q) (ins old.doc a b q) (λ depth past. step-insert depth (with_past old past) a b q)

  pub remove_answered : (p : Position) (outcome : Result (Unit {0}) EditFault) → IsMade outcome (remove_refusals old.doc p) (del old.doc p)
      → OnOk outcome (IsRecorded old new) → AnswersMap {A = A} old new (Remove p) (done_of outcome)
  remove_answered p = edited (Remove p) (remove_refusals old.doc p) (del old.doc p) (λ depth past. step-remove depth (with_past old past) p)

  pub merge_answered : (f g : ℕ) (outcome : Result (Unit {0}) EditFault) → IsMade outcome (merge_refusals old.doc f g) (join old.doc f (feature_at old.doc g))
      → OnOk outcome (IsRecorded old new) → AnswersMap {A = A} old new (Merge f g) (done_of outcome)
  merge_answered f g = edited (Merge f g) (merge_refusals old.doc f g) (join old.doc f (feature_at old.doc g)) (λ depth past. step-merge depth (with_past old past) f g)

  pub delete_answered : (f : ℕ) (outcome : Result (Unit {0}) EditFault) → IsMade outcome (feature_refusals old.doc f) (take_out old.doc f)
      → OnOk outcome (IsRecorded old new) → AnswersMap {A = A} old new (Delete f) (done_of outcome)
  delete_answered f = edited (Delete f) (feature_refusals old.doc f) (take_out old.doc f) (λ depth past. step-delete depth (with_past old past) f)

  -- of an id as the call has it
  pub rename_answered : (f : ℕ) (name copy : List ℕ) → copy ≡ name → (outcome : Result (Unit {0}) EditFault)
      → IsMade outcome (feature_refusals old.doc f) (renamed old.doc f (string_text copy))
      → OnOk outcome (IsRecorded old new) → AnswersMap {A = A} old new (Rename f (string_text name)) (done_of outcome)
  rename_answered f name copy e outcome edits recorded =
      subst (λ z. AnswersMap {A = A} old new (Rename f (string_text z)) (done_of outcome)) e
      (edited (Rename f (string_text copy)) (feature_refusals old.doc f) (renamed old.doc f (string_text copy)) (λ depth past. step-rename depth (with_past old past) f (string_text copy)) outcome edits recorded)

  -- ---- a split

  -- the feature is cut, and the number is the next one
  abbrev IsCut : Result ℕ EditFault → ℕ → List ℕ → List Position → Type 0
  IsCut outcome f id path =
      Edits (edit_begun old) new outcome (first_of (split_refusals old.doc old.next f id (path_of path)))
      (record (split_map old f id (path_of path)) { last = new.last })

  split_by : (f : ℕ) (id : List ℕ) (path : List Position) (outcome : Result ℕ EditFault) → IsCut outcome f id path
      → IfOk outcome (λ made. made ≡ old.next) → OnOk outcome (IsRecorded old new) → AnswersMap {A = A} old new (Split f id path) (made_of outcome)
  split_by f id path (Ok made) edits number recorded = record {
    steps = λ depth past.
        ap₂ (λ (k : ℕ) (m : MapState). (machine.Made k, with_past m (take depth (old.doc ∷ past)))) number edits.made
        ∙ sym (step-split depth (with_past old past) f id path
        ∙ edit-none (with_past old past) (split_state depth (with_past old past) f id path) (split_refusals old.doc old.next f id (path_of path)) (machine.Made old.next) edits.accepted);
    cells = ap (λ (m : MapState). m.cells) edits.made;
    kept = (recorded, inr (record { after = f; next = ap (λ (m : MapState). m.next) edits.made; places = ap (λ (m : MapState). m.places) edits.made }));
  }
  split_by f id path (Err fault) edits number recorded =
      refused old new (Split f id path) (split_refusals old.doc old.next f id (path_of path)) (machine.Made old.next) (λ depth st. split_state depth st f id path)
      (λ depth past. step-split depth (with_past old past) f id path) fault edits.refused (as_it_was edits.unchanged)

  -- of an id and a path as the call has them
  pub split_answered : (f : ℕ) (name : List ℕ) (path : List Position) (copy : List ℕ) (copied : List Position) → copy ≡ name → copied ≡ path
      → (outcome : Result ℕ EditFault) → IsCut outcome f (string_text copy) copied → IfOk outcome (λ made. made ≡ old.next)
      → OnOk outcome (IsRecorded old new) → AnswersMap {A = A} old new (Split f (string_text name) path) (made_of outcome)
  split_answered f name path copy copied e h outcome edits number recorded =
      subst (λ z. AnswersMap {A = A} old new (Split f (string_text name) z) (made_of outcome)) h
      (subst (λ z. AnswersMap {A = A} old new (Split f (string_text z) copied) (made_of outcome)) e (split_by f (string_text copy) copied outcome edits number recorded))

-- ---- a pass of thinning

-- so far in a pass that began with d: the same document if nothing was left out
abbrev IsPass : Document → Thinning → Type 0
IsPass d so_far = so_far.removed ≡ 0 → so_far.doc ≡ d

module _ (d : Document) (t : ℤ) where
  at_one : (so_far : Thinning) (p : Position) → IsPass d so_far → IsPass d (thin_at t so_far p)
  at_one so_far p h = by (not (is_junction so_far.doc p) && is_flat t so_far.doc p) (first_of (remove_refusals so_far.doc p))
    where
      by : (b : Bool) (o : Option Refusal) → IsPass d (cond b (without so_far p o) so_far)
      by false o = h
      by true (Some r) = h
      by true None = λ z. absurd (omega arith)

  passes : (ps : List Position) (so_far : Thinning) → IsPass d so_far → IsPass d (fold (thin_at t) so_far ps)
  passes [] so_far h = h
  passes (p ∷ ps) so_far h = passes ps (thin_at t so_far p) (at_one so_far p h)

  passed : IsPass d (thinned t d)
  unfolding thinned
  passed = passes (vertices d) (record { doc = d; removed = 0 }) (λ z. refl)

-- what a thinning keeps, as the count says
thin_kept : (A : Type 0) (old new : MapState) (k : ℕ) → old.last ≡ None → StaysPlaced old new → new.cells ≡ old.cells
    → IsThinRecorded old new → MatchOption new.last (k ≡ 0) (λ made. 1 ≤ k) → KeepsMap (is_change {A = A} (told.Thinned k)) old new
thin_kept A old new k taken placed cells recorded some = on new.last refl recorded some
  where
    on : (o : Option Record) → new.last ≡ o
        → MatchOption o (new.doc ≡ old.doc) (λ made. Takes new.places new.next old.doc new.doc made × (new.doc ≢ old.doc))
        → MatchOption o (k ≡ 0) (λ made. 1 ≤ k) → KeepsMap (not (k == 0)) old new
    on None e d z =
        subst (λ j. KeepsMap (not (j == 0)) old new) (sym z) (same_map old new d placed cells (e ∙ sym taken))
    on (Some made) e h l =
        subst (λ b. KeepsMap (not b) old new) (sym (positive k l)) ((made, e, h.0), inl placed)
      where
        positive : (j : ℕ) → 1 ≤ j → (j == 0) ≡ false
        positive j p = grind (arith, nat_tests)

thin_by : {A : Type 0} (old new : MapState) (t : ℤ) (k : ℕ) → old.last ≡ None → StaysPlaced old new → new.cells ≡ old.cells
    → IsThinRecorded old new → MatchOption new.last (k ≡ 0) (λ made. 1 ≤ k)
    → k ≡ (thinned t old.doc).removed → new.doc ≡ (thinned t old.doc).doc → AcceptsOn {A = A} old new (Thin t) (told.Thinned k)
thin_by {A} old new t k taken placed cells recorded some count is = record {
  steps = λ depth past. by depth past ((thinned t old.doc).removed == 0) refl;
  cells = cells;
  kept = thin_kept A old new k taken placed cells recorded some;
}
  where
    by : (depth : ℕ) (past : List Document) (b : Bool) → ((thinned t old.doc).removed == 0) ≡ b
        → (machine.Thinned k, with_past new (past_after {A = A} (told.Thinned k) depth old.doc past)) ≡ step depth (with_past old past) (Thin t)
    by depth past true z =
        let none : (thinned t old.doc).removed ≡ 0 = grind (arith, nat_tests) in
        let zero_is : k ≡ 0 = count ∙ none in
        ap (λ j. (machine.Thinned j, with_past new (past_after {A = A} (told.Thinned j) depth old.doc past))) zero_is
        ∙ ap₂ (λ d n. let st : State = record { doc = d; next = n; past = past } in (machine.Thinned 0, st)) (is ∙ passed old.doc t none) placed.next
        ∙ sym (step-thin depth (with_past old past) t ∙ ap (λ b. cond b (machine.Thinned 0, with_past old past) (machine.Thinned (thinned t old.doc).removed, changed depth (with_past old past) (thinned t old.doc).doc)) z)
    by depth past false z =
        let some : (k == 0) ≡ false = ap (λ j. j == 0) count ∙ z in
        ap (λ b. (machine.Thinned k, with_past new (cond (not b) (take depth (old.doc ∷ past)) past))) some
        ∙ ap (λ j. (machine.Thinned j, with_past new (take depth (old.doc ∷ past)))) count
        ∙ ap₂ (λ d n. let st : State = record { doc = d; next = n; past = take depth (old.doc ∷ past) } in (machine.Thinned (thinned t old.doc).removed, st)) is placed.next
        ∙ sym (step-thin depth (with_past old past) t ∙ ap (λ b. cond b (machine.Thinned 0, with_past old past) (machine.Thinned (thinned t old.doc).removed, changed depth (with_past old past) (thinned t old.doc).doc)) z)

-- of a bound as the call has it
pub thin_answered : {A : Type 0} (old new : MapState) (t s : ℤ) (k : ℕ) → s ≡ t → old.last ≡ None → StaysPlaced old new → new.cells ≡ old.cells
    → IsThinRecorded old new → MatchOption new.last (k ≡ 0) (λ made. 1 ≤ k)
    → k ≡ (thinned s old.doc).removed → new.doc ≡ (thinned s old.doc).doc → AcceptsOn {A = A} old new (Thin t) (told.Thinned k)
thin_answered {A} old new t s k same taken placed cells recorded some count is =
    subst (λ z. AcceptsOn {A = A} old new (Thin z) (told.Thinned k)) same (thin_by {A = A} old new s k taken placed cells recorded some count is)

pub thin_stopped : (old new : MapState) (t s : ℤ) → s ≡ t → IsThinnedPart s old.doc new.doc → IsThinRecorded old new → StaysPlaced old new → new.cells ≡ old.cells → StopsOn old new (Thin t)
thin_stopped old new t s same part recorded placed cells =
    record { bound = t; thins = refl; part = subst (λ z. IsThinnedPart z old.doc new.doc) same part; recorded = recorded; stays = placed; cells = cells }

-- ---- queries

there : (d : Document) (n : ℕ) → has_feature d n ≡ true → first_of (feature_refusals d n) ≡ None
there d n h = rw h refl

missing : (d : Document) (n : ℕ) → has_feature d n ≡ false → first_of (feature_refusals d n) ≡ Some machine.NoFeature
missing d n h = rw h refl

-- a question about a feature that is there, or is not
module _ (m : MapState) (n : ℕ) (c : Command) (a : machine.Answer)
    (asks : (depth : ℕ) (past : List Document) → step depth (with_past m past) c ≡ query (with_past m past) (feature_refusals m.doc n) a) where
  found : has_feature m.doc n ≡ true → (depth : ℕ) (past : List Document) → (a, with_past m past) ≡ step depth (with_past m past) c
  found h depth past = sym (asks depth past ∙ edit-none (with_past m past) (with_past m past) (feature_refusals m.doc n) a (there m.doc n h))

  not_found : has_feature m.doc n ≡ false → RefusesOn m m c machine.NoFeature
  not_found h = record {
    steps = λ depth past. sym (asks depth past ∙ edit-some (with_past m past) (with_past m past) (feature_refusals m.doc n) a machine.NoFeature (missing m.doc n h));
    same = refl;
  }

pub is_false : (b : Bool) → (IsTrue b → ⊥) → b ≡ false
is_false true k = absurd (k refl)
is_false false k = refl

pub area_answered : {A : Type 0} (m : MapState) (n : ℕ) (z : ℤ) → z ≡ area_of (feature_at m.doc n) → IsTrue (has_feature m.doc n) → AcceptsOn {A = A} m m (Area n) (told.Area z)
area_answered {A} m n z is h = record {
  steps = λ depth past. ap (λ y. (machine.AreaIs y, with_past m past)) is ∙ found m n (Area n) (machine.AreaIs (area_of (feature_at m.doc n))) (λ e p. step-area e (with_past m p) n) h depth past;
  cells = refl;
  kept = refl;
}

pub area_refused : (m : MapState) (n : ℕ) → (IsTrue (has_feature m.doc n) → ⊥) → RefusesOn m m (Area n) machine.NoFeature
area_refused m n h = not_found m n (Area n) (machine.AreaIs (area_of (feature_at m.doc n))) (λ e p. step-area e (with_past m p) n) (is_false (has_feature m.doc n) h)

pub at_answered : {A : Type 0} (m : MapState) (p : Position) (at : AtFound A) → at.inside ≡ inside_at m.doc p → at.border ≡ border_at m.doc p → AcceptsOn {A = A} m m (At p) (told.At at)
at_answered {A} m p at e f = record {
  steps = λ depth past. ap₂ (λ i b. (machine.AtIs i b, with_past m past)) e f ∙ sym (step-at depth (with_past m past) p);
  cells = refl;
  kept = refl;
}

pub neighbours_answered : {A : Type 0} (m : MapState) (n : ℕ) (ns : List ℕ) → ns ≡ neighbours_of m.doc (feature_at m.doc n) → IsTrue (has_feature m.doc n) → AcceptsOn {A = A} m m (Neighbours n) (told.Neighbours ns)
neighbours_answered {A} m n ns is h = record {
  steps = λ depth past. ap (λ ys. (machine.NeighboursAre ys, with_past m past)) is ∙ found m n (Neighbours n) (machine.NeighboursAre (neighbours_of m.doc (feature_at m.doc n))) (λ e p. step-neighbours e (with_past m p) n) h depth past;
  cells = refl;
  kept = refl;
}

pub neighbours_refused : (m : MapState) (n : ℕ) → has_feature m.doc n ≡ false → RefusesOn m m (Neighbours n) machine.NoFeature
neighbours_refused m n h = not_found m n (Neighbours n) (machine.NeighboursAre (neighbours_of m.doc (feature_at m.doc n))) (λ e p. step-neighbours e (with_past m p) n) h
