-- What stood before an answer: each step of a program in do-notation.
use Rattle.kit_words.proofs.Common.{◌≡◌, refl, Bool, true, false, Result, Ok, Err}
use Rattle.topo_outline.specs.Common.{Fault, ◌>>=◌, demand}

pub step : {A B P : Type 0} (r : Result A Fault) (f : A → Result B Fault) {y : B} → r >>= f ≡ Ok y → ((x : A) → r ≡ Ok x → f x ≡ Ok y → P) → P
step (Ok x) f h k = k x refl h
step (Err e) f h k = absurd cc

pub demanded : {A : Type 0} (b : Bool) (e : Fault) (r : Result A Fault) {x : A} → demand b e r ≡ Ok x → (b ≡ true) × (r ≡ Ok x)
demanded true e r h = (refl, h)
demanded false e r h = absurd cc

pub same_ok : {A : Type 0} {x y : A} → ◌≡◌ {A = Result A Fault} (Ok x) (Ok y) → x ≡ y
same_ok h = cc
