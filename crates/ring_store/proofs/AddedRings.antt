-- One ring more among those that are laid.
use Rattle.kit_words.proofs.Common.{◌≡◌, ◌≢◌, ℕ, Bool, true, false, refl, sym, ap, ap₂, ◌∙◌, cond, List, [], ◌∷◌, ◌++◌}
use Rattle.kit_words.proofs.Common.{◌&&◌, ◌||◌, Some, inl, inr, arith, ◌==◌, not, nat_cmp, eq_by_cmp, nat_cmp_total}
use Rattle.kit_words.proofs.Common.{Decides-eqb, nat_tests, and_parts, or_parts, not-true}
use Rattle.std.specs.FinMap as table
use Rattle.ring_machine.specs.Common.{are_distinct}
use Rattle.ring_machine.proofs.Common.{In}
use Rattle.arc_tables.specs.Common.{Edge, Rings}
use Rattle.ring_store.proofs.KeyRings.{has_key}

-- ---- a number more

not_same : (m n : ℕ) → m ≢ n → (m == n) ≡ false
not_same m n h = by (m == n) refl
  where
    by : (t : Bool) → (m == n) ≡ t → (m == n) ≡ false
    by true e = absurd (h ((Decides-eqb m n).0 e))
    by false e = e

-- a number that was not there comes last
pub distinct_more : (ns : List ℕ) (r : ℕ) → ((n : ℕ) → In n ns → n ≢ r) → are_distinct ns ≡ true
    → are_distinct (ns ++ r ∷ []) ≡ true
distinct_more [] r h d = refl
distinct_more (n ∷ ns) r h d =
    let d' = and_parts (not (has_key n ns)) (are_distinct ns) d in
    ap₂ (λ a b. not a && b) (absent ns (not-true _ d'.0)) (distinct_more ns r (λ m i. h m (inr i)) d'.1)
  where
    absent : (ms : List ℕ) → has_key n ms ≡ false → has_key n (ms ++ r ∷ []) ≡ false
    absent [] e = ap (λ t. t || false) (not_same r n (λ i. h n (inl refl) (sym i)))
    absent (m ∷ ms) e =
        let e' = or_parts (m == n) (has_key n ms) e in
        ap₂ (λ a b. a || b) e'.0 (absent ms e'.1)

-- ---- a ring more

pub ring_other : (rings : Rings) (r : ℕ) (es : List Edge) (q : ℕ) → q ≢ r
    → table.get (table.insert rings r es) q ≡ table.get rings q
ring_other rings r es q f =
    let e : eq_by_cmp nat_cmp q r ≡ false = grind (arith, nat_tests) in
    table.get-insert nat_cmp_total rings r es q ∙ ap (λ b. cond b (Some es) (table.get rings q)) e

pub ring_here : (rings : Rings) (r : ℕ) (es : List Edge)
    → table.get (table.insert rings r es) r ≡ Some es
ring_here rings r es =
    let e : eq_by_cmp nat_cmp r r ≡ true = grind (arith, nat_tests) in
    table.get-insert nat_cmp_total rings r es r ∙ ap (λ b. cond b (Some es) (table.get rings r)) e
