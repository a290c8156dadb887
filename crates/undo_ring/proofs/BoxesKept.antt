-- The boxes that cover a document cover it after a command, too.
use Rattle.kit_words.proofs.Common.{◌≡◌, ◌≤◌, ℕ, ℤ, zero, suc, refl, sym, subst, ◌∙◌, List, [], ◌∷◌, take, Bool, true}
use Rattle.kit_words.proofs.Common.{false, cond, Option, None, Some, inl, inr, ◌⊎◌, arith, Result, Ok, Err, Contains}
use Rattle.kit_words.proofs.Common.{false≢true, ◌==◌, MatchOption, IfSome, OnOk}
use Rattle.grid_geometry.specs.Common.{Position}
use Rattle.ring_machine.specs.Common.{Document, Feature, Text, rings, has, put, ins, del, Path, path_of, cut, join}
use Rattle.ring_machine.specs.Common.{take_out, thinned, IsThinnedPart, vertices, move_refusals, insert_refusals}
use Rattle.ring_machine.specs.Common.{remove_refusals, split_refusals, merge_refusals, feature_refusals, feature_at}
use Rattle.ring_machine.specs.Common.{Command, Move, Insert, Remove, Thin, Split, Merge, Rename, Delete, Undo, Area}
use Rattle.ring_machine.specs.Common.{Neighbours, Rings, Refusal, Answer, Done, Thinned, Made, State, step, edit, query}
use Rattle.ring_machine.specs.Common.{changed, renamed, split_state, thin_step, AreaIs, NeighboursAre, RingsAre}
use Rattle.ring_machine.specs.Common.{area_of, neighbours_of}
use Rattle.ring_machine.proofs.Common.{contains_in, in_contains, has-in, in-has, step-move, step-insert, step-remove}
use Rattle.ring_machine.proofs.Common.{step-thin, step-split, step-merge, step-rename, step-delete}
use Rattle.segment_index.specs.Common.{SegmentSet}
use Rattle.point_queries.specs.Common.{CoversRings, IsCovered, KeepsCovered}
use Rattle.arc_store.specs.Common.{IsSameMap}
use Rattle.arc_store.specs.State.{State as MapState}
use Rattle.arc_store.specs.declared.fault.EditFault.{EditFault}
use Rattle.undo_ring.specs.Common.{refusal_of, with_past, StopsOn, RefusesOn, AnswersMap, AreCovered}
use Rattle.edit_records.specs.Common.{command_of}
use Rattle.undo_ring.specs.Common.{CoversSince, HasGrown, HasComing, touched_by, HasCome, GrowsWith, Near}
use Rattle.undo_ring.specs.declared.answer.Answer.{Answer as Told}
use Rattle.edit_records.specs.declared.command.Command.{Command as Asked}
use Rattle.edit_records.specs.declared.command.Command.TheVariants as told
use Rattle.point_queries.specs.Common.{CoversFeature}
use Rattle.undo_ring.proofs.Recording.{handed}
use Rattle.undo_ring.proofs.RingOrigins.{put_from, ins_from, del_from, thinned_from, thinned_over_from, renamed_from, take_out_from, cut_from, join_from}
use Rattle.undo_ring.proofs.NearLemmas.{keeps_covered}
use Rattle.undo_ring.proofs.StepSides.{edit_either}

-- ---- one ring

-- the command takes nothing back
abbrev pub IsNoUndo : Command → Type 0
IsNoUndo Undo = ⊥
IsNoUndo c = Unit {0}

module _ (boxes : SegmentSet) where
  -- a part of what lies in a box
  covered_part : (s r : List Position) → IsCovered boxes s → ((x : Position) → Contains r x → Contains s x) → IsCovered boxes r
  covered_part s r h part = record { by = h.by; held = h.held; within = λ p i. h.within p (part p i) }

  behind : (q x : Position) (s : List Position) → Contains s x → Contains (q ∷ s) x
  behind q x s i = in_contains (q ∷ s) x (inr (contains_in s x i))

  in_front : (q x : Position) (s : List Position) → x ≡ q → Contains (q ∷ s) x
  in_front q x s e = in_contains (q ∷ s) x (inl (sym e))

  -- q may stand in it where the other ring has p
  grown_part : (p q : Position) (s r : List Position) → IsCovered boxes s → (Contains s p → IsCovered boxes (q ∷ s))
      → ((x : Position) → Contains r x → Contains s x ⊎ ((x ≡ q) × Contains s p)) → IsCovered boxes r
  grown_part p q s r h grown from = by (has s p) refl
    where
      by : (b : Bool) → has s p ≡ b → IsCovered boxes r
      by true e = covered_part (q ∷ s) r (grown (in_contains s p (has-in p s e))) (λ x i. elim (from x i) [
        | inl j ↦ behind q x s j
        | inr j ↦ in_front q x s j.0
      ])
      by false e = covered_part s r h (λ x i. elim (from x i) [
        | inl j ↦ j
        | inr j ↦ absurd (false≢true (sym e ∙ in-has p s (contains_in s p j.1)))
      ])

  -- ---- one document

  module _ (d : Document) (covers : CoversRings boxes (rings d)) where
    put_covers : (p q : Position) → HasGrown d p q boxes → CoversRings boxes (rings (put d p q))
    put_covers p q grown r i =
        let f = put_from d p q r i in grown_part p q f.0 r (covers f.0 f.1) (grown f.0 f.1) f.2

    ins_covers : (a b q : Position) → HasGrown d a q boxes → CoversRings boxes (rings (ins d a b q))
    ins_covers a b q grown r i =
        let f = ins_from d a b q r i in grown_part a q f.0 r (covers f.0 f.1) (grown f.0 f.1) f.2

    del_covers : (p : Position) → CoversRings boxes (rings (del d p))
    del_covers p r i = let f = del_from d p r i in covered_part f.0 r (covers f.0 f.1) f.2

    pub part_covers : (t : ℤ) (e : Document) → IsThinnedPart t d e → CoversRings boxes (rings e)
    part_covers t e part r i =
        let f = thinned_over_from t d (take part.0 (vertices d)) r (subst (λ z. Contains (rings z) r) part.1 i) in
        covered_part f.0 r (covers f.0 f.1) f.2

    thinned_covers : (t : ℤ) → CoversRings boxes (rings (thinned t d).doc)
    thinned_covers t r i = let f = thinned_from t d r i in covered_part f.0 r (covers f.0 f.1) f.2

    renamed_covers : (n : ℕ) (id : Text) → CoversRings boxes (rings (renamed d n id))
    renamed_covers n id r i = covers r (renamed_from d n id r i)

    taken_covers : (n : ℕ) → CoversRings boxes (rings (take_out d n))
    taken_covers n r i = covers r (take_out_from d n r i)

    cut_covers : (n : ℕ) (id : Text) (path : Path) (next : ℕ)
        → CoversFeature boxes (cut d n id path next) n → CoversFeature boxes (cut d n id path next) next
        → CoversRings boxes (rings (cut d n id path next))
    cut_covers n id path next first second r i = elim (cut_from d n id path next r i) [
      | inl j ↦ covers r j
      | inr f ↦ elim f.3 [
        | inl e ↦ first f.0 f.1 e r f.2
        | inr e ↦ second f.0 f.1 e r f.2
      ]
    ]

    join_covers : (n : ℕ) (g : Feature) → CoversFeature boxes (join d n g) n → CoversRings boxes (rings (join d n g))
    join_covers n g come r i = elim (join_from d n g r i) [
      | inl j ↦ covers r j
      | inr f ↦ come f.0 f.1 f.3 r f.2
    ]

  -- ---- one step of the machine

  module _ (st : State) (covers : CoversRings boxes (rings st.doc)) where
    -- the state after it is covered, where what came is
    abbrev StaysCovered : Option (ℕ × ℕ) → State → Type 0
    StaysCovered touched after = HasCome boxes after.doc touched → CoversRings boxes (rings after.doc)

    -- a step that may be refused
    edit_covers : (c : Command) (rs : List (Option Refusal)) (a : Answer) (touched : Option (ℕ × ℕ)) (after : State)
        → step 0 st c ≡ edit st rs a after → StaysCovered touched after → StaysCovered touched (step 0 st c).1
    edit_covers c rs a touched after steps accepted =
        subst (λ (r : Answer × State). StaysCovered touched r.1) (sym steps)
        (edit_either st (λ r. StaysCovered touched r.1) rs a after (λ e. accepted) (λ r come. covers))

    thin_covers : (t : ℤ) → StaysCovered None (thin_step 0 st t).1
    thin_covers t = by ((thinned t st.doc).removed == 0)
      where
        by : (none : Bool)
            → StaysCovered None (cond {A = Answer × State} none (Thinned 0, st) (Thinned (thinned t st.doc).removed, changed 0 st (thinned t st.doc).doc)).1
        by true come = covers
        by false come = thinned_covers st.doc covers t

    -- a query leaves the state
    query_covers : (c : Command) (rs : List (Option Refusal)) (a : Answer) → step 0 st c ≡ query st rs a → StaysCovered None (step 0 st c).1
    query_covers c rs a steps = edit_covers c rs a None st steps (λ come. covers)

    pub step_covers : (c : Command) → IsNoUndo c → HasComing st.doc c boxes → StaysCovered (touched_by st.next c) (step 0 st c).1
    unfolding step
    step_covers (Move p q) edits ready =
        edit_covers (Move p q) (move_refusals st.doc p q) Done None (changed 0 st (put st.doc p q)) (step-move 0 st p q)
        (λ come. put_covers st.doc covers p q ready)
    step_covers (Insert a b q) edits ready =
        edit_covers (Insert a b q) (insert_refusals st.doc a b q) Done None (changed 0 st (ins st.doc a b q)) (step-insert 0 st a b q)
        (λ come. ins_covers st.doc covers a b q ready)
    step_covers (Remove p) edits ready =
        edit_covers (Remove p) (remove_refusals st.doc p) Done None (changed 0 st (del st.doc p)) (step-remove 0 st p)
        (λ come. del_covers st.doc covers p)
    step_covers (Thin t) edits ready =
        subst (λ (r : Answer × State). StaysCovered None r.1) (sym (step-thin 0 st t)) (thin_covers t)
    step_covers (Split n id path) edits ready =
        edit_covers (Split n id path) (split_refusals st.doc st.next n id (path_of path)) (Made st.next) (Some (n, st.next)) (split_state 0 st n id path)
        (step-split 0 st n id path) (λ come. cut_covers st.doc covers n id (path_of path) st.next come.0 come.1)
    step_covers (Merge n m) edits ready =
        edit_covers (Merge n m) (merge_refusals st.doc n m) Done (Some (n, n)) (changed 0 st (join st.doc n (feature_at st.doc m)))
        (step-merge 0 st n m) (λ come. join_covers st.doc covers n (feature_at st.doc m) come.0)
    step_covers (Rename n id) edits ready =
        edit_covers (Rename n id) (feature_refusals st.doc n) Done None (changed 0 st (renamed st.doc n id)) (step-rename 0 st n id)
        (λ come. renamed_covers st.doc covers n id)
    step_covers (Delete n) edits ready =
        edit_covers (Delete n) (feature_refusals st.doc n) Done None (changed 0 st (take_out st.doc n)) (step-delete 0 st n)
        (λ come. taken_covers st.doc covers n)
    step_covers (Area n) edits ready = query_covers (Area n) (feature_refusals st.doc n) (AreaIs (area_of (feature_at st.doc n))) refl
    step_covers (Neighbours n) edits ready =
        query_covers (Neighbours n) (feature_refusals st.doc n) (NeighboursAre (neighbours_of st.doc (feature_at st.doc n))) refl
    step_covers (Rings n) edits ready = query_covers (Rings n) (feature_refusals st.doc n) (RingsAre (feature_at st.doc n).polygons) refl
    step_covers Undo edits ready = absurd edits
    step_covers c edits ready = λ come. covers

  -- ---- what a command makes of a map

  module _ (m n : MapState) (c : Command) (commands : IsNoUndo c) (covers : CoversRings boxes (rings m.doc)) where
    same_covers : IsSameMap m n → CoversRings boxes (rings n.doc)
    same_covers same = subst (λ (s : MapState). CoversRings boxes (rings s.doc)) (sym same) covers

    fault_covers : (o : Option Refusal) → MatchOption o (IsSameMap m n ⊎ StopsOn m n c) (RefusesOn m n c) → CoversRings boxes (rings n.doc)
    fault_covers None (inl same) = same_covers same
    fault_covers None (inr stops) = part_covers m.doc covers stops.bound n.doc stops.part
    fault_covers (Some r) refuses = same_covers refuses.same

    pub answer_covers : {A : Type 0} (result : Result (Told A) EditFault) → AnswersMap m n c result
        → OnOk result (HasComing m.doc c boxes) → HasCome boxes n.doc (touched_by m.next c) → CoversRings boxes (rings n.doc)
    answer_covers (Ok answer) accepts ready come =
        subst (λ (r : Answer × State). HasCome boxes r.1.doc (touched_by m.next c) → CoversRings boxes (rings r.1.doc))
        (sym (accepts.steps 0 []))
        (step_covers (with_past m []) covers c commands ready) come
    answer_covers (Err fault) fails ready come = fault_covers (refusal_of fault) fails

-- ---- the newest documents

fewer : (boxes : SegmentSet) (j k : ℕ) (docs : List Document) → j ≤ k → AreCovered boxes (take k docs) → AreCovered boxes (take j docs)
fewer boxes zero k docs le h = tt
fewer boxes (suc j) zero docs le h = absurd (omega (arith, le))
fewer boxes (suc j) (suc k) [] le h = tt
fewer boxes (suc j) (suc k) (d ∷ docs) le h = (h.0, fewer boxes j k docs (omega (arith, le)) h.1)

bounded : (boxes : SegmentSet) (k c : ℕ) (docs : List Document) → AreCovered boxes (take k docs) → AreCovered boxes (take k (take c docs))
bounded boxes zero c docs h = tt
bounded boxes (suc k) zero docs h = tt
bounded boxes (suc k) (suc c) [] h = tt
bounded boxes (suc k) (suc c) (d ∷ docs) h = (h.0, bounded boxes k c docs h.1)

module _ {A : Type 0} (before after : Near A) (d e : Document) (past : List Document) where
  -- after a change to the document e
  pub changed_known : CoversSince before (d ∷ past) → (depth : ℕ) (touched : Option (ℕ × ℕ)) → GrowsWith before after e touched
      → ((boxes : SegmentSet) → CoversRings boxes (rings d) → (was : SegmentSet) → before.boxes ≡ Some was → KeepsCovered was boxes
      → HasCome boxes e touched → CoversRings boxes (rings e))
      → CoversSince after (e ∷ take depth (d ∷ past))
  changed_known known depth touched follows covers = by after.boxes refl follows.boxes
    where
      by : (o : Option SegmentSet) → after.boxes ≡ o
          → IfSome o (λ boxes. (was : SegmentSet) × (before.boxes ≡ Some was) × KeepsCovered was boxes × HasCome boxes e touched)
          → IfSome o (λ boxes. AreCovered boxes (take (suc after.since) (e ∷ take depth (d ∷ past))))
      by None same h = tt
      by (Some boxes) same h =
          let old : AreCovered h.0 (take (suc before.since) (d ∷ past)) =
          subst (λ (o : Option SegmentSet). IfSome o (λ b. AreCovered b (take (suc before.since) (d ∷ past)))) h.1 known in
          let kept = keeps_covered h.0 boxes (take (suc before.since) (d ∷ past)) h.2 old in (
            covers boxes kept.0 h.0 h.1 h.2 h.3,
            bounded boxes after.since depth (d ∷ past) (fewer boxes after.since (suc before.since) (d ∷ past) follows.since kept),
          )

-- what is ready in boxes is so in boxes that keep them
ready_kept : (d : Document) (c : Command) (a b : SegmentSet) → KeepsCovered a b → HasComing d c a → HasComing d c b
ready_kept d (Move p q) a b keeps h = λ ring i j. keeps (q ∷ ring) (h ring i j)
ready_kept d (Insert p r q) a b keeps h = λ ring i j. keeps (q ∷ ring) (h ring i j)
ready_kept d c a b keeps h = tt

no_undo : (c : Asked) → IsNoUndo (command_of c)
no_undo (told.Move p q) = tt
no_undo c = tt

-- ---- a command, as the calls have it

module _ {A B : Type 0} (before after : Near A) (m n : MapState) (past later : List Document) (depth : ℕ) (asked : Asked)
    (known : CoversSince before (m.doc ∷ past)) (result : Result (Told B) EditFault) (answers : AnswersMap m n (command_of asked) result)
    (ready : OnOk result (IfSome before.boxes (HasComing m.doc (command_of asked)))) where
  abbrev c : Command
  c = command_of asked

  come_covers : (boxes : SegmentSet) → CoversRings boxes (rings m.doc) → (was : SegmentSet) → before.boxes ≡ Some was → KeepsCovered was boxes
      → HasCome boxes n.doc (touched_by m.next c) → CoversRings boxes (rings n.doc)
  come_covers boxes covers was same keeps come =
      answer_covers boxes m n c (no_undo asked) covers result answers (by result ready) come
    where
      by : (r : Result (Told B) EditFault) → OnOk r (IfSome before.boxes (HasComing m.doc c)) → OnOk r (HasComing m.doc c boxes)
      by (Err fault) h = tt
      by (Ok answer) h = ready_kept m.doc c was boxes keeps (subst (λ (o : Option SegmentSet). IfSome o (HasComing m.doc c)) same h)

  pub known_after : (made : Bool)
      → ((made ≡ false) × (n.doc ≡ m.doc) × (later ≡ past)) ⊎ ((made ≡ true) × (later ≡ take depth (m.doc ∷ past)))
      → (made ≡ true → GrowsWith before after n.doc (touched_by m.next c)) → (made ≡ false → after ≡ before)
      → CoversSince after (n.doc ∷ later)
  known_after made (inl h) follows same =
      subst (λ (z : Near A). CoversSince z (n.doc ∷ later)) (sym (same h.0))
      (subst (λ d. CoversSince before (d ∷ later)) (sym h.1) (subst (λ ds. CoversSince before (m.doc ∷ ds)) (sym h.2) known))
  known_after made (inr h) follows same =
      subst (λ ds. CoversSince after (n.doc ∷ ds)) (sym h.1)
      (changed_known before after m.doc n.doc past known depth (touched_by m.next c) (follows h.0) come_covers)

  -- the map has handed its record out
  pub editor_known : (now : MapState) → now ≡ handed n → (made told : Bool) → told ≡ made
      → (touched : Option (ℕ × ℕ)) → touched ≡ touched_by m.next c
      → ((made ≡ false) × (n.doc ≡ m.doc) × (later ≡ past)) ⊎ ((made ≡ true) × (later ≡ take depth (m.doc ∷ past)))
      → (told ≡ true → GrowsWith before after now.doc touched) → (told ≡ false → after ≡ before)
      → CoversSince after (now.doc ∷ later)
  editor_known now is made told tells touched touches newer follows same =
      let change : made ≡ true → GrowsWith before after n.doc (touched_by m.next c) =
      λ e. subst (GrowsWith before after n.doc) touches
      (subst (λ (z : MapState). GrowsWith before after z.doc touched) is (follows (tells ∙ e))) in
      subst (λ (z : MapState). CoversSince after (z.doc ∷ later)) (sym is)
      (known_after made newer change (λ e. same (tells ∙ e)))

-- what is ready where the boxes cover these documents
pub ready_at : {A B : Type 0} (near : Near A) (boxes : Option SegmentSet) (d : Document) (docs : List Document) (P : SegmentSet → Type 0)
    (result : Result B EditFault) → CoversSince near (d ∷ docs)
    → OnOk result ((docs : List Document) → CoversSince near (d ∷ docs) → IfSome boxes P) → OnOk result (IfSome boxes P)
ready_at near boxes d docs P (Err fault) known h = tt
ready_at near boxes d docs P (Ok answer) known h = h docs known
