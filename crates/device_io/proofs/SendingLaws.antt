-- What a sink took over several calls, one after another.
use Rattle.kit_words.proofs.Common.{◌≡◌, Bool, false, List, [], ◌++◌, ℕ, Ok, Err, Result, Appends-nil, Appends-trans}
use Rattle.std.specs.Result.{IsErrAnd}
use Rattle.device_io.specs.Common.{Took, TookFront, Sends}
use Rattle.device_io.specs.declared.Sink as sink
use Rattle.device_io.proofs.DeviceLemmas.{front_first, front_second, no_front}

module _ {W : Type 0} {its : sink.Ghosts W} where
  -- nothing was sent
  pub took_nothing : {now : W} → its.has_failed now ≡ false → Took its now now []
  took_nothing {now = now} works = record { taken = Appends-nil (its.taken now); works = works }

  pub took_none : {now : W} {text : List ℕ} → its.has_failed now ≡ false → TookFront its false now now text
  took_none {now = now} {text = text} works =
      record { taken = no_front (its.taken now) text; stands = works }

  -- one text after another
  pub took_both : {old mid new : W} {first text : List ℕ}
      → Took its old mid first → Took its mid new text → Took its old new (first ++ text)
  took_both {old = old} {mid = mid} {new = new} {first = first} {text = text} p q = record {
    taken = Appends-trans (its.taken old) (its.taken mid) (its.taken new) first text p.taken q.taken;
    works = q.works;
  }

  -- a prefix of the first text is a prefix of both, and so is the first with a prefix of the second
  pub took_first : {failed : Bool} {old new : W} {text : List ℕ} (more : List ℕ)
      → TookFront its failed old new text → TookFront its failed old new (text ++ more)
  took_first {old = old} {new = new} {text = text} more p = record {
    taken = front_first (its.taken old) (its.taken new) text more p.taken;
    stands = p.stands;
  }

  pub took_second : {failed : Bool} {old mid new : W} {first text : List ℕ}
      → Took its old mid first → TookFront its failed mid new text
      → TookFront its failed old new (first ++ text)
  took_second {old = old} {mid = mid} {new = new} {first = first} {text = text} p q = record {
    taken = front_second (its.taken old) (its.taken mid) (its.taken new) first text p.taken q.taken;
    stands = q.stands;
  }

  -- where a fault ends a call, as `?` hands it on
  pub sends_front : {T E : Type 0} (is_its : E → Bool) {old new : W} {text : List ℕ} (fault : E)
      (result : Result T E) → IsErrAnd result (λ e. e ≡ fault)
      → TookFront its (is_its fault) old new text → Sends its is_its old new result text
  sends_front is_its fault (Ok x) is p = absurd is
  sends_front is_its fault (Err e) is p = rw is p
