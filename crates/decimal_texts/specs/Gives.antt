-- What the code answers, beside what is defined.
use Rattle.std.specs.Prelude.{◌≡◌, Result, Ok, Err}
use Rattle.decimal_texts.specs.declared.fault.PointFault.{PointFault}
use Rattle.decimal_texts.specs.declared.fault.PointFault.TheVariants as fault

-- The code's fault is the one defined. Allocation failure may come in the place of any answer.
abbrev pub IsPointFault : {Y : Type 0} → PointFault → Result Y PointFault → Type 0
IsPointFault (fault.NotNumber place) r = r ≡ Err (fault.NotNumber place)
IsPointFault (fault.OutOfRange place) r = r ≡ Err (fault.OutOfRange place)
IsPointFault fault.OutOfMemory r = Unit {0}

-- the code's answer, seen by the view, is the one defined, or its fault is
abbrev pub AnswersAs : {X Y : Type 0} → (X → Y) → Result X PointFault → Result Y PointFault → Type 0
AnswersAs view (Ok x) r = r ≡ Ok (view x)
AnswersAs view (Err e) r = IsPointFault e r
