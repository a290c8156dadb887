-- Tests, and cases of their answers.
use Rattle.std.proofs.Common.{◌≡◌, Bool, true, false, refl, ◌&&◌, ◌||◌, arith, ℕ, suc, nat_lt, Result, Ok, Err, OnErr}
use Rattle.std.proofs.Common.{ℤ, int_le}
use Rattle.std.proofs.lemmas.Bool.Decides.{nat_tests}
use Rattle.std.proofs.lemmas.Int.{ints}
use Rattle.std.specs.Ordering.{is_lt}
use Rattle.std.specs.declared.cmp.Ordering.{Ordering}
use Rattle.std.specs.declared.cmp.Ordering.TheVariants.{Less, Equal, Greater}
use Rattle.std.specs.Int.{int_min, int_max}

pub by_bool : {X : Type 0} (p : Bool) → (p ≡ true → X) → (p ≡ false → X) → X
by_bool true f g = f refl
by_bool false f g = g refl

pub and_none : (drop : Bool) → (drop && false) ≡ false
and_none true = refl
and_none false = refl

pub or_comm : (a b : Bool) → (a || b) ≡ (b || a)
or_comm a b = grind arith

pub suc_positive : (n : ℕ) → nat_lt 0 (suc n) ≡ true
suc_positive n = grind (arith, nat_tests)

pub less_is : (o : Ordering) → is_lt o ≡ true → o ≡ Less
less_is Less h = refl
less_is Equal h = cc
less_is Greater h = cc

-- what holds anyway holds where there was no room
pub on_err : {T E : Type 0} {P : Type 0} (r : Result T E) → P → OnErr r P
on_err (Ok x) h = tt
on_err (Err e) h = h

pub le_itself : (a : ℤ) → int_le a a ≡ true
le_itself a = grind (arith, ints)

pub min_left : (a b c : ℤ) → int_le a c ≡ true → int_le (int_min a b) c ≡ true
min_left a b c h = grind (arith, ints)

pub max_left : (a b c : ℤ) → int_le c a ≡ true → int_le c (int_max a b) ≡ true
max_left a b c h = grind (arith, ints)
