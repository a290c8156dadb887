-- For callers: what follows from a count of uses, and a removal in other words.
use Rattle.kit_words.proofs.Common.{◌≡◌, ◌≢◌, ℕ, ◌≤◌, Bool, true, cond, sym, ap, ◌∙◌, List, [], ◌∷◌, map, Some}
use Rattle.kit_words.proofs.Common.{is_some, arith, nat_cmp, false≢true}
use Rattle.kit_words.proofs.Common.{sum_by-cons}
use Rattle.std.specs.Prelude.{count_by}
use Rattle.std.specs.FinMap as rings
use Rattle.arc_tables.specs.Common.{Edge, Rings, has_segment, users_of}
use Rattle.ring_store.specs.Common.{Joined}
use Rattle.arc_tables.proofs.Common.{times_segment}

-- ---- a segment that no ring uses joins no two vertices

counted_one : (p : List Edge → Bool) (entries : List (ℕ × List Edge)) (q : ℕ) (v : List Edge) → rings.find nat_cmp q entries ≡ Some v → p v ≡ true → 1 ≤ count_by p (map (λ e. e.1) entries)
counted_one p [] q v h e = absurd (false≢true (ap (λ o. is_some o) h))
counted_one p (f ∷ entries) q v h e = grind (arith, sum_by-cons (λ (x : List Edge). cond (p x) 1 0) f.1 (map (λ (x : ℕ × List Edge). x.1) entries), counted_one p entries q v)

pub unused_apart : (m : Rings) (a b : ℕ) → users_of m a b ≡ 0 → ¬ (Joined m a b)
unused_apart m a b none j = absurd (omega (arith, counted_one (has_segment a b) (rings.entries m) j.ring j.edges (sym (rings.get-entries m j.ring) ∙ j.held) (times_segment a b j.edges j.has)))

-- ---- where no edge stays at its vertex, p moves onto b and the edges that then do go
