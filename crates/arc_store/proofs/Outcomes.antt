-- What an edit makes of a map, from how it ended.
use Rattle.kit_words.proofs.Common.{◌≡◌, ℕ, sym, ap, ap₂, ◌∙◌, subst, Option, None, Result, Ok, Err, OnOk, IsErrAnd}
use Rattle.ring_machine.specs.Common.{Document, Refusal}
use Rattle.edit_records.specs.Common.{Record}
use Rattle.arc_store.specs.Common.{Refuses, Edits, IsSameMap, edit_begun, State, EditFault}

kept_made : {R : Type 0} (result : Result R EditFault) (reached new : State)
    → OnOk result (IsSameMap reached new) → OnOk result (IsSameMap (record reached { last = new.last }) new)
kept_made (Ok value) reached new made =
    made ∙ ap (λ l. record reached { tests = new.tests; last = l }) (sym (ap (λ (s : State). s.last) made))
kept_made (Err fault) reached new made = tt

module _ {R : Type 0} {old new reached : State} {refusal : Option Refusal} where
  pub is_made : {value : R} → refusal ≡ None → IsSameMap reached new
      → Edits old new (Ok value) refusal reached
  is_made none same = record { accepted = none; made = same; refused = tt; unchanged = tt }

  pub is_refused : {fault : EditFault} → Refuses fault refusal → IsSameMap old new
      → Edits {R = R} old new (Err fault) refusal reached
  is_refused refuses same = record { accepted = tt; made = tt; refused = refuses; unchanged = same }

  -- the fault is handed on
  pub hands_on : (fault : EditFault) (result : Result R EditFault) → IsErrAnd result (λ y. y ≡ fault)
      → Refuses fault refusal → IsSameMap old new → Edits old new result refusal reached
  hands_on fault (Ok value) is refuses same = absurd is
  hands_on fault (Err y) is refuses same =
      is_refused (subst (λ z. Refuses z refusal) (sym is) refuses) same

  -- the condition that fails first in other words
  pub with_refusal : {other : Option Refusal} {result : Result R EditFault} → refusal ≡ other
      → Edits old new result refusal reached → Edits old new result other reached
  with_refusal {result = result} same edits = subst (λ o. Edits old new result o reached) same edits

  -- what is true of the state that is reached is true of the map
  pub holds_made : (P : State → Type 0) (result : Result R EditFault)
      → Edits old new result refusal reached
      → (refusal ≡ None → P (record reached { tests = new.tests })) → OnOk result (P new)
  holds_made P (Ok value) edits law = subst P (sym edits.made) (law edits.accepted)
  holds_made P (Err fault) edits law = tt

  -- whatever was tested before it, and whatever takes it back
  pub keeps_last : {n : ℕ} (result : Result R EditFault) → Edits old new result refusal reached
      → Edits old new result refusal (record reached { tests = n; last = new.last })
  keeps_last result edits = record {
    accepted = edits.accepted;
    made = kept_made result reached new edits.made;
    refused = edits.refused;
    unchanged = edits.unchanged;
  }

-- an edit has begun, and nothing was done since
pub just_begun : (old : State) {now : State} → now ≡ edit_begun old → IsSameMap (edit_begun old) now
just_begun old begins =
    begins ∙ ap (λ n. record (edit_begun old) { tests = n }) (sym (ap (λ (s : State). s.tests) begins))

-- the document is another, and this takes the edit back
pub with_last : (st : State) {was new : State} {e d : Document} {l last : Option Record}
    → was ≡ record st { doc = e } → e ≡ d → l ≡ last → new ≡ record was { last = l }
    → IsSameMap (record st { doc = d; last = last }) new
with_last st {d = d} {l = l} {last = last} is doc kept n =
    n
    ∙ ap₂ (λ (s : State) (o : Option Record). record s { last = o }) is kept
    ∙ ap (λ z. record st { doc = z; last = last }) doc
    ∙ ap (λ k. record st { doc = d; tests = k; last = last }) (sym (ap (λ (s : State). s.tests) (n ∙ ap (λ (s : State). record s { last = l }) is)))
