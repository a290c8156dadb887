-- Which allocation an allocator refuses.
use Rattle.std.specs.Prelude.{ℕ}
use Rattle.test_aids.specs.declared.refusing.Refusing.{Refusing}

-- the number of the allocation that is refused, counted from 1; 0 where none is
abbrev pub nth_refused : {B : Type 0} → Refusing B → ℕ
nth_refused allocator = allocator.nth
