-- An edit of features that has begun, carried out: its record takes it back.
use Rattle.kit_words.proofs.Common.{◌≡◌, ◌≢◌, ℕ, true, false, refl, sym, ap, ap₂, ◌∙◌, subst, Option, Some, None}
use Rattle.kit_words.proofs.Common.{is_some, eq-eqb, Result, Ok, Err, OnOk, false≢true}
use Rattle.ring_machine.specs.Common.{Document, Feature, Text, features, feature, has_feature, join, take_out, Path}
use Rattle.ring_machine.specs.Common.{renamed, Refusal, NoFeature, first_of, feature_refusals, split_refusals}
use Rattle.ring_machine.specs.Common.{merge_refusals, feature_at, or_else, no_feature}
use Rattle.ring_machine.proofs.Common.{has_feature-found, merge-accepted, passes}
use Rattle.ring_machine.proofs.MergeAccepted.{found}
use Rattle.edit_records.specs.Common.{Renamed, Exchanged, IsHeld, Takes}
use Rattle.edit_records.proofs.Common.{deleted, merged, split, delete-recorded, merge-recorded, split-recorded}
use Rattle.edit_records.proofs.Common.{rename-recorded}
use Rattle.arc_store.specs.Common.{Edits, split_map, State, IsRecorded}
use Rattle.arc_store.specs.declared.fault.EditFault.{EditFault}
use Rattle.arc_store.proofs.Common.{is_made, holds_made}

-- a feature that is cut is there
split_there : (d : Document) (next n : ℕ) (id : Text) (path : Path)
    → first_of (split_refusals d next n id path) ≡ None → has_feature d n ≡ true
unfolding split_refusals
split_there d next n id path h = (passes _ (has_feature d n) _ h).0

-- a feature that is to be there is, or it is what the edit is refused by
pub there : (d : Document) (n : ℕ) → has_feature d n ≡ true → first_of (feature_refusals d n) ≡ None
there d n h = rw h refl

pub missing : (d : Document) (n : ℕ) → has_feature d n ≡ false
    → first_of (feature_refusals d n) ≡ Some NoFeature
missing d n h = rw h refl

-- a feature is cut along a path
abbrev pub SplitsAlong : ℕ → Text → Path → State → State → Result ℕ EditFault → Type 0
SplitsAlong n id path old new r =
    Edits old new r (first_of (split_refusals old.doc old.next n id path)) (split_map old n id path)

-- in an edit that has begun
module _ (old new : State) (held : IsHeld old.places old.next old.doc) where
  pub delete_recorded : {R : Type 0} {refusal : Option Refusal} (r : Result R EditFault) (n : ℕ)
      → has_feature old.doc n ≡ true
      → Edits old new r refusal (record old { doc = take_out old.doc n; last = new.last })
      → OnOk r (has_feature old.doc n ≡ true → new.last ≡ Some (Exchanged (deleted old.doc n)))
      → OnOk r (IsRecorded old new)
  delete_recorded (Err e) n h edits last = tt
  delete_recorded (Ok u) n h edits last =
      subst (IsRecorded old) (sym edits.made)
      (Exchanged (deleted old.doc n), last h, delete-recorded old.places old.next old.doc held n h)

  pub merge_recorded : {R : Type 0} (r : Result R EditFault) (n m : ℕ)
      → Edits old new r (first_of (merge_refusals old.doc n m)) (record old {
        doc = join old.doc n (feature_at old.doc m);
        last = Some (Exchanged (merged old.doc n m));
      })
      → OnOk r (IsRecorded old new)
  merge_recorded r n m edits = holds_made (IsRecorded old) r edits (λ accepted.
      let d = old.doc in
      let a = merge-accepted d n m accepted in
      let g = feature_at d m in
      let number : g.number ≡ m = ap (λ o. (or_else no_feature o).number) a.second_is ∙ a.second_number in
      let first : has_feature d n ≡ true = has_feature-found d n ∙ ap is_some a.first_is in
      let second : has_feature d m ≡ true = has_feature-found d m ∙ ap is_some a.second_is in
      let apart : n ≢ g.number = λ e. false≢true (sym a.differ ∙ eq-eqb n m (e ∙ number)) in (
        Exchanged (merged d n m),
        refl,
        subst (λ k. Takes old.places old.next d (join d n g) (Exchanged (merged d n k))) number
            (merge-recorded old.places old.next d held n g first (subst (λ k. has_feature d k ≡ true) (sym number) second) apart),
      ))

  pub split_recorded : (r : Result ℕ EditFault) (n : ℕ) (id : Text) (path : Path)
      → SplitsAlong n id path old new r → OnOk r (IsRecorded old new)
  split_recorded r n id path edits = holds_made (IsRecorded old) r edits (λ accepted.
      (Exchanged (split old.doc n old.next), refl, split-recorded old.places old.next old.doc held n id path (split_there old.doc old.next n id path accepted)))

  -- what an accepted renaming changes, and that it is recorded
  pub record IsRenamed (n : ℕ) (id : Text) : Type 0 where
    pub edits : Edits {R = Unit {0}} old new (Ok tt) (first_of (feature_refusals old.doc n))
        (record old { doc = renamed old.doc n id; last = new.last })
    pub recorded : IsRecorded old new

  pub rename_recorded : (n : ℕ) (id : Text) → has_feature old.doc n ≡ true
      → ((f : Feature) → feature old.doc n ≡ Some f
      → new ≡ record old { doc = renamed old.doc n id; last = Some (Renamed n f.id) })
      → IsRenamed n id
  rename_recorded n id h made =
      let f = found n (features old.doc) h in
      let is = made f.0 f.1 in
      record {
        edits = is_made (there old.doc n h)
            (is ∙ ap₂ (λ k l. record old { doc = renamed old.doc n id; tests = k; last = l }) (sym (ap (λ (s : State). s.tests) is)) (sym (ap (λ (s : State). s.last) is)));
        recorded = subst (IsRecorded old) (sym is)
            (Renamed n (f.0).id, refl, rename-recorded old.places old.next old.doc held n id f.0 f.1);
      }
