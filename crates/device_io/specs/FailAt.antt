-- What a device that fails after so many calls shows.
use Rattle.std.specs.Prelude.{◌≡◌, ℕ, ◌+◌, ◌<◌, Bool, true, ◌||◌, Result, MatchResult}
use Rattle.device_io.specs.declared.Failed.{Failed}
use Rattle.device_io.specs.declared.fail_at.FailAt.{FailAt}

-- how many calls it still passes on
abbrev pub calls_left : {D : Type 0} → FailAt D → ℕ
calls_left device = device.calls

-- whether it has failed where none was left
abbrev pub fails_itself : {D : Type 0} → FailAt D → Bool
fails_itself device = device.failed

-- whether it has failed, or the device that calls are passed on to
abbrev pub is_failed : {D : Type 0} → (D → Bool) → FailAt D → Bool
is_failed has_failed device = fails_itself device || has_failed device.device

-- a call was passed on and is counted; or while some are left, the device failed that it was passed on to
abbrev pub IsPassed : {D T : Type 0} → (D → Bool) → FailAt D → FailAt D → Result T Failed → Type 0
IsPassed has_failed old new result =
    MatchResult result
    (λ _. calls_left old ≡ calls_left new + 1)
    (λ _. 0 < calls_left old → has_failed new.device ≡ true)
