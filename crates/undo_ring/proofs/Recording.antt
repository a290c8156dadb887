-- A history of records is the machine's.
use Rattle.kit_words.proofs.Common.{◌≡◌, ◌≢◌, ◌≤◌, ℕ, zero, suc, refl, sym, ap, subst, ◌∙◌, List, [], ◌∷◌, map, take}
use Rattle.kit_words.proofs.Common.{drop, Bool, true, false, cond, Option, None, Some, option_map, is_some, inl, inr}
use Rattle.kit_words.proofs.Common.{◌⊎◌, arith, Result, Ok, Err, IfOk, IfErr, MatchOption, slice_get, AllByRecursion}
use Rattle.kit_words.proofs.Common.{take-map}
use Rattle.circular_buffer.specs.Buffer.{Buffer, buffer}
use Rattle.ring_machine.specs.Common.{Document, Command, Undo, Refusal, Refused, NothingToUndo, State, step, undone}
use Rattle.ring_machine.specs.Common.{has_feature}
use Rattle.ring_machine.proofs.Common.{step-undo}
use Rattle.edit_records.specs.Common.{grown, Record, IsHeld, Undoes, Takes, back, documents, AreUndoing}
use Rattle.edit_records.proofs.HistoriesKept.{documents-take, undoing-take, undoing-later}
use Rattle.edit_records.proofs.HistoriesKept.{documents-grown, undoing-grown}
use Rattle.topo_outline.specs.Common.{KeepsTexts}
use Rattle.arc_store.specs.Common.{IsRecorded, IsSameMap}
use Rattle.arc_store.specs.State.{State as MapState}
use Rattle.arc_store.specs.declared.fault.EditFault.{EditFault}
use Rattle.undo_ring.specs.Common.{answer_of, refusal_of, with_past, is_change, past_after, StaysPlaced, IsGrown, KeepsMap}
use Rattle.undo_ring.specs.Common.{AcceptsOn, RefusesOn, StopsOn, FailsOn, AnswersMap, Edited, machine_of, IsSameButTests}
use Rattle.undo_ring.specs.Common.{Applies, Refuses, LacksMemory, IsCutShort, CommandFails, IsUndone, IsTrail, records_kept, edited_by}
use Rattle.undo_ring.specs.Common.{Answer}
use Rattle.undo_ring.proofs.MapAnswers.{same_map}

-- the map without the record that it handed out
abbrev pub handed : MapState → MapState
handed m = record m { last = None }

all-take : {X : Type 0} (P : X → Type 0) (n : ℕ) (xs : List X) → AllByRecursion P xs → AllByRecursion P (take n xs)
all-take P zero xs h = tt
all-take P (suc n) [] h = tt
all-take P (suc n) (x ∷ xs) h = (h.0, all-take P n xs h.1)

module _ {X : Type 0} (seen : X → Record) where
  module _ (m : MapState) (records : Buffer X) (trail : IsTrail m (map seen records.items)) where
    abbrev before : List Record
    before = map seen records.items

    abbrev past : List Document
    past = documents m.places m.doc before

    -- ---- a change

    -- older records still lead to the same documents
    older : (n : MapState) → has_feature m.doc m.next ≡ false → StaysPlaced m n ⊎ IsGrown m n
        → AreUndoing n.places n.next m.doc before × (documents n.places m.doc before ≡ past)
    older n free (inl s) = (
      subst (λ t. AreUndoing t n.next m.doc before) (sym s.places)
          (subst (λ k. AreUndoing m.places k m.doc before) (sym s.next) trail.undoing),
      ap (λ t. documents t m.doc before) s.places,
    )
    older n free (inr g) =
        let same : m.next ≤ m.next = omega arith in
        let more : m.next ≤ n.next = omega (arith, g.next) in (
          subst (λ t. AreUndoing t n.next m.doc before) (sym g.places)
              (undoing-later (grown g.after m.next m.places) m.next n.next more m.doc before
              (undoing-grown m.places m.next g.after m.next same m.doc before trail.undoing free)),
          ap (λ t. documents t m.doc before) g.places
              ∙ documents-grown m.places m.next g.after m.next same m.doc before trail.undoing free,
        )

    module _ (n : MapState) (free : has_feature m.doc m.next ≡ false) (keeps : KeepsTexts m.doc)
        (recorded : IsRecorded m n) (placed : StaysPlaced m n ⊎ IsGrown m n) (r : X)
        (given : Some (seen r) ≡ n.last) where
      made_is : recorded.0 ≡ seen r
      made_is = cc (recorded.1, given)

      undoes : Undoes n.places n.next n.doc (seen r)
      undoes = subst (Undoes n.places n.next n.doc) made_is recorded.2.undoes

      was : back n.places (seen r) n.doc ≡ m.doc
      was = ap (λ z. back n.places z n.doc) (sym made_is) ∙ recorded.2.was

      abbrev pushed : List X
      pushed = take records.capacity (r ∷ records.items)

      undoing_pushed : AreUndoing n.places n.next n.doc (map seen pushed)
      undoing_pushed =
          subst (AreUndoing n.places n.next n.doc) (take-map seen records.capacity (r ∷ records.items))
          (undoing-take n.places n.next records.capacity n.doc (seen r ∷ before)
          (undoes, subst (λ z. AreUndoing n.places n.next z before) (sym was) (older n free placed).0))

      past_pushed : documents n.places n.doc (map seen pushed) ≡ take records.capacity (m.doc ∷ past)
      past_pushed =
          ap (documents n.places n.doc) (sym (take-map seen records.capacity (r ∷ records.items)))
          ∙ documents-take n.places records.capacity n.doc (seen r ∷ before)
          ∙ ap (λ z. take records.capacity (z ∷ documents n.places z before)) was
          ∙ ap (λ z. take records.capacity (m.doc ∷ z)) (older n free placed).1

      trail_pushed : IsTrail (handed n) (map seen pushed)
      trail_pushed = record {
        undoing = undoing_pushed;
        texts = subst (AllByRecursion KeepsTexts) (sym past_pushed)
            (all-take KeepsTexts records.capacity (m.doc ∷ past) (keeps, trail.texts));
        taken = refl;
      }

    -- ---- no change

    module _ (n : MapState) (same : IsSameMap m n) where
      still : handed n ≡ record m { tests = n.tests }
      still = ap handed same ∙ ap (λ z. record m { tests = n.tests; last = z }) (sym trail.taken)

      none_made : (made : Option X) → option_map seen made ≡ n.last → made ≡ None
      none_made None e = refl
      none_made (Some r) e = let gone = e ∙ ap (λ (z : MapState). z.last) same ∙ trail.taken in absurd cc

      trail_still : IsTrail (handed n) before
      trail_still = subst (λ z. IsTrail z before) (sym still) (record {
        undoing = trail.undoing;
        texts = trail.texts;
        taken = trail.taken;
      })

      same_still : IsSameButTests (edited_by seen m records) (edited_by seen (handed n) records)
      same_still = ap (λ z. edited_by seen z records) still

    -- ---- what became of the map, and of the records

    module _ (n : MapState) (made : Option X) (given : option_map seen made ≡ n.last) where
      abbrev after : Edited
      after = edited_by seen (handed n) (records_kept records made)

      abbrev Stays : Type 0
      Stays = IsTrail (handed n) (map seen (records_kept records made).items)

      when_same : IsSameMap m n → Stays × IsSameButTests (edited_by seen m records) after
      when_same same =
          subst (λ o. IsTrail (handed n) (map seen (records_kept records o).items) × IsSameButTests (edited_by seen m records) (edited_by seen (handed n) (records_kept records o)))
          (sym (none_made n same made given)) (trail_still n same, same_still n same)

      -- nothing was recorded, and the documents are as they were; or the one from before is the newest of
      -- those that are kept
      abbrev pub IsNewer : Type 0
      IsNewer =
          ((is_some made ≡ false) × (n.doc ≡ m.doc) × (after.past ≡ past))
          ⊎ ((is_some made ≡ true) × (after.past ≡ take records.capacity (m.doc ∷ past)))

      by_same : IsSameMap m n → IsNewer
      by_same same = inl (
        ap is_some (none_made n same made given),
        ap (λ (z : MapState). z.doc) same,
        ap (λ (z : Edited). z.past) (when_same same).1,
      )

      module _ (free : has_feature m.doc m.next ≡ false) (keeps : KeepsTexts m.doc) where
        when_changed : IsRecorded m n → StaysPlaced m n ⊎ IsGrown m n
            → Stays × ((after.past ≡ take records.capacity (m.doc ∷ past)) × (after.depth ≡ records.capacity))
        when_changed recorded placed = by made given
          where
            by : (o : Option X) → option_map seen o ≡ n.last
                → IsTrail (handed n) (map seen (records_kept records o).items)
                × ((documents n.places n.doc (map seen (records_kept records o).items) ≡ take records.capacity (m.doc ∷ past)) × ((records_kept records o).capacity ≡ records.capacity))
            by None e = let both = e ∙ recorded.1 in absurd cc
            by (Some r) e = (trail_pushed n free keeps recorded placed r e, (past_pushed n free keeps recorded placed r e, refl))

        by_change : IsRecorded m n → StaysPlaced m n ⊎ IsGrown m n → IsNewer
        by_change recorded placed = inr (by made given, (when_changed recorded placed).1.0)
          where
            by : (o : Option X) → option_map seen o ≡ n.last → is_some o ≡ true
            by None e = let both = e ∙ recorded.1 in absurd cc
            by (Some r) e = refl

        -- a thinning that stopped left the map as it was, or it is recorded
        stopped : (c : Command) → StopsOn m n c → IsSameMap m n ⊎ (IsRecorded m n × (n.doc ≢ m.doc))
        stopped c s = on n.last refl s.recorded
          where
            on : (o : Option Record) → n.last ≡ o
                → MatchOption o (n.doc ≡ m.doc) (λ z. Takes n.places n.next m.doc n.doc z × (n.doc ≢ m.doc))
                → IsSameMap m n ⊎ (IsRecorded m n × (n.doc ≢ m.doc))
            on None e d = inl (same_map m n d s.stays s.cells (e ∙ sym trail.taken))
            on (Some z) e k = inr ((z, e, k.0), k.1)

        -- which documents stand after it
        pub newer : {A : Type 0} (c : Command) (result : Result (Answer A) EditFault) → AnswersMap m n c result → IsNewer
        newer c (Ok a) h = by (is_change a) h.kept
          where
            by : (b : Bool) → KeepsMap b m n → IsNewer
            by true k = by_change k.0 k.1
            by false k = by_same k
        newer c (Err fault) h = by (refusal_of fault) h
          where
            by : (o : Option Refusal) → MatchOption o (IsSameMap m n ⊎ StopsOn m n c) (RefusesOn m n c) → IsNewer
            by None (inl same) = by_same same
            by None (inr s) = elim (stopped c s) [ inl same ↦ by_same same | inr r ↦ by_change r.0 (inl s.stays) ]
            by (Some r) k = by_same k.same

        -- an accepted command
        pub applied : {A : Type 0} (c : Command) (a : Answer A) → AcceptsOn m n c a
            → Stays × Applies (edited_by seen m records) after c a
        applied {A} c a h = by (is_change a) refl h.kept
          where
            steps : (p : List Document) → p ≡ past_after a records.capacity m.doc past
                → (answer_of a, with_past n p) ≡ step records.capacity (with_past m past) c
            steps p e = ap (λ z. (answer_of a, with_past n z)) e ∙ h.steps records.capacity past

            by : (b : Bool) → is_change a ≡ b → KeepsMap b m n
                → Stays × Applies (edited_by seen m records) after c a
            by true e k =
                let w = when_changed k.0 k.1 in (
                  w.0,
                  record {
                    steps = steps after.past (w.1.0 ∙ sym (ap (λ b. cond b (take records.capacity (m.doc ∷ past)) past) e));
                    stays = record { depth = w.1.1; cells = h.cells };
                  },
                )
            by false e k =
                let w = when_same k in (
                  w.0,
                  record {
                    steps = steps after.past (ap (λ (z : Edited). z.past) w.1 ∙ sym (ap (λ b. cond b (take records.capacity (m.doc ∷ past)) past) e));
                    stays = record { depth = ap (λ (z : Edited). z.depth) w.1; cells = h.cells };
                  },
                )

        -- one that failed
        pub failed : (c : Command) (fault : EditFault) → FailsOn fault m n c
            → Stays × CommandFails fault (edited_by seen m records) after c
        failed c fault h = by (refusal_of fault) h
          where
            cut_short : StopsOn m n c → Stays × (LacksMemory (edited_by seen m records) after ⊎ IsCutShort (edited_by seen m records) after c)
            cut_short s = elim (stopped c s) [
              | inl same ↦ let w = when_same same in (w.0, inl w.1)
              | inr r ↦
                  let w = when_changed r.0 (inl s.stays) in (
                    w.0,
                    inr (record {
                      bound = s.bound;
                      thins = s.thins;
                      part = s.part;
                      other = r.1;
                      change = ap (λ p. with_past n p) w.1.0 ∙ ap (λ k. let st : State = record { doc = n.doc; next = k; past = take records.capacity (m.doc ∷ past) } in st) s.stays.next;
                      stays = record { depth = w.1.1; cells = s.cells };
                    }),
                  )
            ]

            by : (o : Option Refusal) → MatchOption o (IsSameMap m n ⊎ StopsOn m n c) (RefusesOn m n c)
                → Stays × MatchOption o (LacksMemory (edited_by seen m records) after ⊎ IsCutShort (edited_by seen m records) after c) (Refuses (edited_by seen m records) after c)
            by None (inl same) = let w = when_same same in (w.0, inl w.1)
            by None (inr s) = cut_short s
            by (Some r) k =
                let w = when_same k.same in (w.0, record { steps = k.steps records.capacity past; same = w.1 })

-- ---- taking back

module _ {X : Type 0} where
  front_item : (items : List X) (x : X) → Some x ≡ slice_get items 0 → items ≡ x ∷ drop 1 items
  front_item [] x e = absurd cc
  front_item (y ∷ ys) x e = cc

  no_item : (items : List X) → None ≡ slice_get items 0 → items ≡ []
  no_item [] e = refl
  no_item (y ∷ ys) e = absurd cc

module _ {X : Type 0} (seen : X → Record) (m : MapState) (records popped : Buffer X) (trail : IsTrail m (map seen records.items))
    (gone : popped ≡ buffer (drop 1 records.items) records.capacity) where
  -- nothing was kept
  pub none_kept : None ≡ slice_get records.items 0
      → IsTrail m (map seen popped.items) × Refuses (edited_by seen m records) (edited_by seen m popped) Undo NothingToUndo
  none_kept none =
      let empty = no_item records.items none in
      let same : popped ≡ records =
      gone ∙ ap (λ xs. buffer (drop 1 xs) records.capacity) empty ∙ ap (λ xs. buffer xs records.capacity) (sym empty) in (
        subst (λ (b : Buffer X). IsTrail m (map seen b.items)) (sym same) trail,
        record {
          steps = sym (step-undo records.capacity (machine_of (edited_by seen m records))
              ∙ ap (λ xs. undone (with_past m (documents m.places m.doc (map seen xs)))) empty
              ∙ ap (λ xs. (Refused NothingToUndo, with_past m (documents m.places m.doc (map seen xs)))) (sym empty));
          same = ap (edited_by seen m) same;
        },
      )

  module _ (x : X) (first : Some x ≡ slice_get records.items 0) where
    abbrev rest : List X
    rest = drop 1 records.items

    front : records.items ≡ x ∷ rest
    front = front_item records.items x first

    all : IsTrail m (seen x ∷ map seen rest)
    all = subst (λ xs. IsTrail m (map seen xs)) front trail

    module _ (n : MapState) where
      pub taken_back : n ≡ record m { doc = back m.places (seen x) m.doc; tests = 0; last = None }
          → IsTrail n (map seen popped.items) × IsUndone (edited_by seen m records) (edited_by seen n popped)
      taken_back is =
          subst (λ (b : Buffer X). IsTrail n (map seen b.items) × IsUndone (edited_by seen m records) (edited_by seen n b)) (sym gone)
          (subst (λ z. IsTrail z (map seen rest) × IsUndone (edited_by seen m records) (edited_by seen z (buffer rest records.capacity))) (sym is) (
            record { undoing = all.undoing.1; texts = all.texts.1; taken = refl },
            record {
              steps = sym (step-undo records.capacity (machine_of (edited_by seen m records))
                  ∙ ap (λ xs. undone (with_past m (documents m.places m.doc (map seen xs)))) front);
              untested = refl;
              stays = record { depth = refl; cells = refl };
            },
          ))

-- ---- a command, as the calls have it

module _ {X : Type 0} (seen : X → Record) (m n now : MapState) (records after : Buffer X) (trail : IsTrail m (map seen records.items))
    (held : IsHeld m.places m.next m.doc) (keeps : KeepsTexts m.doc) (made : Option X) (given : option_map seen made ≡ n.last)
    (is : now ≡ handed n) (pushed : after ≡ records_kept records made) where
  abbrev old : Edited
  old = edited_by seen m records

  abbrev new : Edited
  new = edited_by seen now after

  free : has_feature m.doc m.next ≡ false
  free = held.below m.next (omega arith)

  answered : {A : Type 0} (result : Result (Answer A) EditFault) (c : Command) → AnswersMap m n c result
      → IsTrail (handed n) (map seen (records_kept records made).items)
      × (IfOk result (Applies old (edited_by seen (handed n) (records_kept records made)) c) × IfErr result (λ fault. CommandFails fault old (edited_by seen (handed n) (records_kept records made)) c))
  answered (Ok a) c h = let r = applied seen m records trail n made given free keeps c a h in (r.0, (r.1, tt))
  answered (Err fault) c h = let r = failed seen m records trail n made given free keeps c fault h in (r.0, (tt, r.1))

  module _ {A : Type 0} (result : Result (Answer A) EditFault) (c : Command) (h : AnswersMap m n c result) where
    -- what holds of the map and of the records that are kept, as the calls have them
    as_kept : (P : MapState → Buffer X → Type 0) → P (handed n) (records_kept records made) → P now after
    as_kept P k = subst (λ z. P z after) (sym is) (subst (P (handed n)) (sym pushed) k)

    pub trail_after : IsTrail now (map seen after.items)
    trail_after = as_kept (λ z b. IsTrail z (map seen b.items)) (answered result c h).0

    -- the documents that stand after it
    pub newer_after : ((is_some made ≡ false) × (n.doc ≡ m.doc) × (new.past ≡ old.past))
        ⊎ ((is_some made ≡ true) × (new.past ≡ take records.capacity (m.doc ∷ old.past)))
    newer_after =
        as_kept (λ z b. ((is_some made ≡ false) × (n.doc ≡ m.doc) × ((edited_by seen z b).past ≡ old.past))
        ⊎ ((is_some made ≡ true) × ((edited_by seen z b).past ≡ take records.capacity (m.doc ∷ old.past))))
        (newer seen m records trail n made given free keeps c result h)

    module _ (e : Edited) (view : old ≡ e) where
      pub applied_after : IfOk result (λ a. Applies e new c a)
      applied_after =
          subst (λ z. IfOk result (λ a. Applies z new c a)) view
          (as_kept (λ z b. IfOk result (λ a. Applies old (edited_by seen z b) c a)) (answered result c h).1.0)

      pub failed_after : IfErr result (λ fault. CommandFails fault e new c)
      failed_after =
          subst (λ z. IfErr result (λ fault. CommandFails fault z new c)) view
          (as_kept (λ z b. IfErr result (λ fault. CommandFails fault old (edited_by seen z b) c)) (answered result c h).1.1)
