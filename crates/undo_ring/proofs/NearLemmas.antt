-- The boxes that an editor keeps beside its history: what they cover after a change, and after an undo.
use Rattle.kit_words.proofs.Common.{◌≡◌, ◌≤◌, ℕ, suc, refl, sym, subst, List, [], ◌∷◌, take, true, Option, None, Some}
use Rattle.kit_words.proofs.Common.{Result, Ok, Err, OnOk, is_ok, IfSome, false≢true}
use Rattle.ring_machine.specs.Common.{Document}
use Rattle.segment_index.specs.Common.{SegmentSet}
use Rattle.point_queries.specs.Common.{KeepsCovered}
use Rattle.point_queries.specs.Common.{CoversFeature}
use Rattle.undo_ring.specs.Common.{AreCovered, CoversSince, HasCome, GrowsWith, Near}

-- boxes that keep what lay in others cover the documents that those did
pub keeps_covered : (old new : SegmentSet) (docs : List Document) → KeepsCovered old new → AreCovered old docs → AreCovered new docs
keeps_covered old new [] keeps h = tt
keeps_covered old new (d ∷ docs) keeps h = (λ r i. keeps r (h.0 r i), keeps_covered old new docs keeps h.1)

pub known_some : {A : Type 0} (near : Near A) (boxes : SegmentSet) (docs : List Document) → near.boxes ≡ Some boxes
    → CoversSince near docs → AreCovered boxes (take (suc near.since) docs)
known_some near boxes docs e h = subst (λ o. IfSome o (λ boxes. AreCovered boxes (take (suc near.since) docs))) e h

-- one document fewer
pub one_back : (boxes : Option SegmentSet) (since : ℕ) (d : Document) (docs : List Document)
    → IfSome boxes (λ boxes. AreCovered boxes (take (suc since) (d ∷ docs)))
    → IfSome boxes (λ boxes. AreCovered boxes (take since docs))
one_back None since d docs h = tt
one_back (Some boxes) since d docs h = h.1

-- a change that made no other rings
pub follows_same : {A : Type 0} (old new : Near A) (d : Document) (touched : Option (ℕ × ℕ)) → touched ≡ None
    → new.boxes ≡ old.boxes → new.since ≤ suc old.since → GrowsWith old new d touched
follows_same old new d touched none same since = record {
  since = since;
  boxes = subst (λ o. IfSome o (λ boxes. (before : SegmentSet) × (old.boxes ≡ Some before) × KeepsCovered before boxes × HasCome boxes d touched))
      (sym same) (by old.boxes refl);
}
  where
    by : (o : Option SegmentSet) → old.boxes ≡ o
        → IfSome o (λ boxes. (before : SegmentSet) × (old.boxes ≡ Some before) × KeepsCovered before boxes × HasCome boxes d touched)
    by None e = tt
    by (Some b) e = (b, e, λ r h. h, subst (λ t. HasCome b d t) (sym none) tt)

-- what holds where there is a value holds, since there is one
pub was_ok : {X E P : Type 0} (r : Result X E) → is_ok r ≡ true → OnOk r P → P
was_ok (Ok x) t p = p
was_ok (Err e) t p = absurd (false≢true t)

-- a change that made other rings of two features
pub follows_more : {A : Type 0} (old new : Near A) (before between after : SegmentSet) (d : Document) (n m : ℕ)
    (touched : Option (ℕ × ℕ)) → touched ≡ Some (n, m) → old.boxes ≡ Some before → new.boxes ≡ Some after
    → new.since ≤ suc old.since → KeepsCovered before between → KeepsCovered between after → CoversFeature between d n
    → CoversFeature after d m → GrowsWith old new d touched
follows_more old new before between after d n m touched named was is since first second covered last = record {
  since = since;
  boxes = subst (λ o. IfSome o (λ boxes. (before : SegmentSet) × (old.boxes ≡ Some before) × KeepsCovered before boxes × HasCome boxes d touched))
      (sym is) (before, was, λ r h. second r (first r h), subst (HasCome after d) (sym named) come);
}
  where
    come : HasCome after d (Some (n, m))
    come = (λ f i e r j. second r (covered f i e r j), last)

-- where there are no boxes, any change is followed
pub follows_none : {A : Type 0} (old new : Near A) (d : Document) (touched : Option (ℕ × ℕ)) → new.boxes ≡ None
    → new.since ≤ suc old.since → GrowsWith old new d touched
follows_none old new d touched none since = record {
  since = since;
  boxes = subst (λ o. IfSome o (λ boxes. (before : SegmentSet) × (old.boxes ≡ Some before) × KeepsCovered before boxes × HasCome boxes d touched))
      (sym none) tt;
}
