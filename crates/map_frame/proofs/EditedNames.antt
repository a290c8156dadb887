-- The table of names after an edit.
use Rattle.kit_words.proofs.Common.{◌≡◌, ◌≢◌, ℕ, true, sym, ap, ◌∙◌, subst, List, ◌⊎◌, inl, inr, Option, Some, None}
use Rattle.kit_words.proofs.Common.{ℕ_discrete}
use Rattle.ring_machine.specs.Common.{DocumentOf, feature, rings, are_distinct}
use Rattle.map_frame.specs.Common.{RingName, IsNamed, number_at, AreNamed, Gain, Loss}
use Rattle.map_frame.proofs.NamedOnce.{ring_of, ring_in, one_owner}

-- names are kept for the same rings
pub named_alike : (names : List (Option RingName)) (d e : DocumentOf ℕ)
    → ((o : RingName) → number_at e o ≡ number_at d o) → AreNamed names d → AreNamed names e
named_alike names d e same named = record {
  each = λ r o i. named.each r o (sym (same o) ∙ i);
  right = λ r o i. same o ∙ named.right r o i;
}

-- some rings lost their names, and then some got names
pub named_edited : (d e : DocumentOf ℕ) (old now new : List (Option RingName)) (Gone : ℕ → Type 0)
    (Is : RingName → ℕ → Type 0) → AreNamed old d → Loss old now Gone → Gain now new Is
    → ((o : RingName) (k : ℕ) → number_at d o ≡ Some k → (Gone k → ⊥) → number_at e o ≡ Some k)
    → ((o : RingName) (k : ℕ) → Is o k → number_at e o ≡ Some k)
    → ((o : RingName) (k : ℕ) → number_at e o ≡ Some k → Is o k ⊎ ((number_at d o ≡ Some k) × (Gone k → ⊥)))
    → AreNamed new e
named_edited d e old now new Gone Is named loss gain stay is each = record {
  right = λ r o i. elim (gain.right r o i) [
    | inl m ↦ let l = loss.right r o m in stay o r (named.right r o l.0) l.1
    | inr m ↦ is o r m
  ];
  each = λ r o i. elim (each o r i) [
    | inl m ↦ gain.each r o m
    | inr m ↦ let k = named.each r o m.0 in gain.kept r k.0 (loss.kept r k.0 k.1 m.1)
  ];
}

-- the names after features were changed: those of some features, which lost theirs, were given anew
pub named_anew : (d e : DocumentOf ℕ) (old now new : List (Option RingName)) (Touched : ℕ → Type 0)
    → ((m : ℕ) → Dec (Touched m)) → are_distinct (rings d) ≡ true → AreNamed old d
    → Loss old now (λ k. (o : RingName) × Touched o.feature × (number_at d o ≡ Some k))
    → Gain now new (λ o k. Touched o.feature × (number_at e o ≡ Some k))
    → ((m : ℕ) → (Touched m → ⊥) → feature e m ≡ feature d m)
    → AreNamed new e
named_anew d e old now new Touched decided once named loss gain same =
    named_edited d e old now new (λ k. (o : RingName) × Touched o.feature × (number_at d o ≡ Some k))
    (λ o k. Touched o.feature × (number_at e o ≡ Some k)) named loss gain
    (λ o k i not. stay o k i not (decided o.feature))
    (λ o k i. i.1)
    (λ o k i. each o k i (decided o.feature))
  where
    other : (o : RingName) → (Touched o.feature → ⊥) → number_at e o ≡ number_at d o
    other o f = ap (λ z. ring_of z o) (same o.feature f)

    stay : (o : RingName) (k : ℕ) → number_at d o ≡ Some k
        → (((p : RingName) × Touched p.feature × (number_at d p ≡ Some k)) → ⊥)
        → Dec (Touched o.feature) → number_at e o ≡ Some k
    stay o k i not (yes t) = absurd (not (o, t, i))
    stay o k i not (no f) = other o f ∙ i

    each : (o : RingName) (k : ℕ) → number_at e o ≡ Some k → Dec (Touched o.feature)
        → (Touched o.feature × (number_at e o ≡ Some k))
        ⊎ ((number_at d o ≡ Some k) × (((p : RingName) × Touched p.feature × (number_at d p ≡ Some k)) → ⊥))
    each o k i (yes t) = inl (t, i)
    each o k i (no f) =
        let was = sym (other o f) ∙ i in
        inr (
          was,
          λ q. let a = ring_in (feature d o.feature) o k was in
              let b = ring_in (feature d q.0.feature) q.0 k q.2 in
              f (subst Touched (one_owner d once q.0.feature o.feature b.0 a.0 k b.1 a.1 b.2 a.2) q.1),
        )

-- the names after a feature was put into its place: its rings got names
pub named_put : (d e : DocumentOf ℕ) (old new : List (Option RingName)) (n : ℕ) → AreNamed old d → feature d n ≡ None
    → Gain old new (λ o k. (o.feature ≡ n) × (number_at e o ≡ Some k))
    → ((m : ℕ) → m ≢ n → feature e m ≡ feature d m)
    → AreNamed new e
named_put d e old new n named free gain same = record {
  right = λ r o i. elim (gain.right r o i) [
    | inl m ↦ let at = named.right r o m in other o (away o r at) ∙ at
    | inr m ↦ m.1
  ];
  each = λ r o i. each r o i (ℕ_discrete o.feature n);
}
  where
    away : (o : RingName) (k : ℕ) → number_at d o ≡ Some k → o.feature ≢ n
    away o k i s = let h : None ≡ Some k = sym (ap (λ z. ring_of z o) (ap (feature d) s ∙ free)) ∙ i in absurd cc

    other : (o : RingName) → o.feature ≢ n → number_at e o ≡ number_at d o
    other o f = ap (λ z. ring_of z o) (same o.feature f)

    each : (r : ℕ) (o : RingName) → number_at e o ≡ Some r → Dec (o.feature ≡ n)
        → (p : RingName) × IsNamed new r p
    each r o i (yes s) = gain.each r o (s, i)
    each r o i (no f) = let m = named.each r o (sym (other o f) ∙ i) in gain.kept r m.0 m.1
