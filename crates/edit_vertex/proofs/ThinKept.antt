-- What a thinning keeps of the vertices that it left out, one after the other.
use Rattle.kit_words.proofs.Common.{◌≡◌, ◌≢◌, ◌≤◌, ◌<◌, ◌+◌, ℕ, true, sym, ap, ◌∙◌, subst, List, [], ◌∷◌, length}
use Rattle.kit_words.proofs.Common.{Option, None, Some, arith, nat_lt, is_some, MatchOption, fold, false≢true}
use Rattle.kit_words.proofs.Common.{nat_tests}
use Rattle.grid_geometry.specs.Common.{Position, segment}
use Rattle.ring_machine.specs.Common.{Document, size, Proper, first_of, remove_refusals, del, around}
use Rattle.ring_machine.proofs.Common.{removed, in_contains}
use Rattle.edit_records.specs.Common.{LayerTree, Record, Removal, Thinned, back, put_back, AreRemoved, IsHeld, Takes}
use Rattle.edit_records.proofs.Common.{thin-begun, thin-more}
use Rattle.arc_store.specs.Common.{IsSameMap, edit_begun, State, users, IsLeftOut, IsThinning, left_out}
use Rattle.edit_vertex.specs.Common.{IsThinnedFrom, IsThinRecorded}
use Rattle.edit_vertex.proofs.Inserting.{segment_used, size_grown}

-- ---- the document changes

some : (n : ℕ) → nat_lt 0 n ≡ true → 0 < n
some n h = grind (arith, nat_tests)

-- each vertex that is put back makes the document larger
grown : (d : Document) (rs : List Removal) → Proper d → AreRemoved d rs
    → size d + length rs ≤ size (fold put_back d rs)
grown d [] proper h = omega arith
grown d (r ∷ rs) proper h =
    let s = segment r.a r.b in
    let used = some (length (users d s)) (segment_used d s ∙ h.0.joined) in
    omega (arith, grown (put_back d r) rs h.0.map.proper h.1, size_grown d r.a r.b r.at proper, used)

differs : (trees : List LayerTree) (next : ℕ) (start d : Document) (r : Removal) (rs : List Removal)
    → Proper d → Takes trees next start d (Thinned (r ∷ rs)) → d ≢ start
unfolding back
differs trees next start d r rs proper t e =
    omega (arith, grown d (r ∷ rs) proper t.undoes.fits, ap size t.was, ap size e)

-- ---- one vertex more

-- what is kept by these tables
abbrev Kept : Document → List LayerTree → ℕ → Document → Option Record → Type 0
Kept start trees next d last = Takes trees next start d (Thinned (left_out last))

pub left_one : (start : Document) (old new : State) (p : Position)
    → IsHeld old.places old.next old.doc → first_of (remove_refusals old.doc p) ≡ None
    → IsSameMap (record old { doc = del old.doc p; last = new.last }) new
    → (r : Removal) × (new.last ≡ Some (Thinned (r ∷ left_out old.last))) × IsLeftOut old.doc p r
    → IsThinnedFrom start old → IsThinnedFrom start new
left_one start old new p held accepted is made from =
    let r = made.0 in
    let left = made.2 in
    let rs = left_out old.last in
    let more = thin-more old.places old.next start old.doc rs held from.takes p r.a r.b accepted left.apart (λ s i. left.between s (in_contains (around old.doc p) s i)) in
    let by_at = subst (λ at. Takes old.places old.next start (del old.doc p) (Thinned (record { at = at; a = r.a; b = r.b } ∷ rs))) (sym left.at) more in
    let takes = subst (λ (s : State). Takes s.places s.next start s.doc (Thinned (r ∷ rs))) (sym is) by_at in
    let proper = subst (λ (s : State). Proper s.doc) (sym is) (removed old.doc p held.map.proper accepted).0 in
    record {
      thinning = subst IsThinning (sym made.1) tt;
      takes = subst (λ last. Kept start new.places new.next new.doc last) (sym made.1) takes;
      changed = subst (λ last. MatchOption last (new.doc ≡ start) (λ _. new.doc ≢ start)) (sym made.1)
          (differs new.places new.next start new.doc r rs proper takes);
    }

-- nothing more is left out
pub left_as_is : (start : Document) (old new : State) → IsSameMap old new
    → IsThinnedFrom start old → IsThinnedFrom start new
left_as_is start old new is from =
    subst (IsThinnedFrom start) (sym is) (record { thinning = from.thinning; takes = from.takes; changed = from.changed })

-- ---- the whole pass

-- nothing was left out yet
pub none_left : (old now : State) → now ≡ edit_begun old → IsHeld now.places now.next now.doc
    → IsThinnedFrom old.doc now
none_left old now begins held =
    let none : now.last ≡ None = ap (λ (s : State). s.last) begins in
    let same : now.doc ≡ old.doc = ap (λ (s : State). s.doc) begins in
    let takes = subst (λ d. Takes now.places now.next d now.doc (Thinned [])) same (thin-begun now.places now.next now.doc held) in
    record {
      thinning = subst IsThinning (sym none) tt;
      takes = subst (λ o. Kept old.doc now.places now.next now.doc o) (sym none) takes;
      changed = subst (λ o. MatchOption o (now.doc ≡ old.doc) (λ _. now.doc ≢ old.doc)) (sym none) same;
    }

-- a record takes back what was left out, or nothing was
pub thinning_kept : (old new : State) → IsThinnedFrom old.doc new → IsThinRecorded old new
thinning_kept old new from = by new.last from.thinning from.takes from.changed
  where
    by : (last : Option Record) → IsThinning last → Kept old.doc new.places new.next new.doc last
        → MatchOption last (new.doc ≡ old.doc) (λ _. new.doc ≢ old.doc)
        → MatchOption last (new.doc ≡ old.doc) (λ made. Takes new.places new.next old.doc new.doc made × (new.doc ≢ old.doc))
    by None thinning takes changed = changed
    by (Some (Thinned (r ∷ rs))) thinning takes changed = (takes, changed)
    by (Some (Thinned [])) thinning takes changed = absurd thinning
    by (Some other) thinning takes changed = absurd thinning

-- ---- how many

-- so many were left out, and none where nothing is kept
abbrev pub IsCount : Option Record → ℕ → Type 0
IsCount last n = MatchOption last (n ≡ 0) (λ made. 1 ≤ n)

-- one more was left out, and this is kept
pub one_counted : (last : Option Record) (n m : ℕ) → is_some last ≡ true → m ≡ n + 1 → IsCount last m
one_counted None n m h e = absurd (false≢true h)
one_counted (Some r) n m h e = omega (arith, e)

-- no more than before
pub as_counted : (before after : Option Record) (n m : ℕ) → after ≡ before → m ≡ n
    → IsCount before n → IsCount after m
as_counted before after n m same e h =
    subst (λ o. IsCount o m) (sym same) (subst (IsCount before) (sym e) h)
