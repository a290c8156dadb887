-- What sending a text to a sink does.
use Rattle.std.specs.Prelude.{◌≡◌, Bool, true, false, List, ℕ, Result, MatchResult}
use Rattle.std.specs.Io.KnownBytes.{Appends}
use Rattle.device_io.specs.Devices.{AppendsPrefix}
use Rattle.device_io.specs.declared.Failed.{Failed}
use Rattle.device_io.specs.declared.Sink as sink

-- the sink took the text, and works
pub record Took {W : Type 0} (its : sink.Ghosts W) (old new : W) (text : List ℕ) : Type 0 where
  pub taken : Appends (its.taken old) (its.taken new) text
  pub works : its.has_failed new ≡ false

-- the sink took a prefix of the text, and has failed or not
pub record TookFront {W : Type 0} (its : sink.Ghosts W) (failed : Bool) (old new : W)
    (text : List ℕ) : Type 0 where
  pub taken : AppendsPrefix (its.taken old) (its.taken new) text
  pub stands : its.has_failed new ≡ failed

-- a call sends the text: the sink took it; or a prefix of it, and has failed exactly where the fault is
-- its own
abbrev pub Sends : {W T E : Type 0} → sink.Ghosts W → (E → Bool) → W → W → Result T E → List ℕ → Type 0
Sends its is_its old new result text =
    MatchResult result
    (λ _. Took its old new text)
    (λ fault. TookFront its (is_its fault) old new text)

-- how the sink stands after a call: it works, or has failed exactly where the fault is its own
abbrev pub Stands : {W T E : Type 0} → sink.Ghosts W → (E → Bool) → W → Result T E → Type 0
Stands its is_its now result =
    MatchResult result
    (λ _. its.has_failed now ≡ false)
    (λ fault. its.has_failed now ≡ is_its fault)

-- a failure is always the sink's own
abbrev pub of_sink : Failed → Bool
of_sink fault = true
