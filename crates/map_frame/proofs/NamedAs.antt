-- Losses and gains of names that are said in other words.
use Rattle.kit_words.proofs.Common.{◌≡◌, ℕ, refl, sym, ap, ◌∙◌, List, inl, inr, Option, Some, slice_get}
use Rattle.ring_machine.specs.Common.{FeatureOf, DocumentOf, feature}
use Rattle.map_frame.specs.Common.{RingName, number_at, Gain, Loss, element}
use Rattle.map_frame.proofs.NamedOnce.{ring_of}

pub loss_as : (P Q : ℕ → Type 0) (a b : List (Option RingName)) → ((k : ℕ) → P k → Q k) → ((k : ℕ) → Q k → P k)
    → Loss a b P → Loss a b Q
loss_as P Q a b to from l = record {
  right = λ r o e. let m = l.right r o e in (m.0, λ q. m.1 (from r q));
  kept = λ r o e not. l.kept r o e (λ p. not (to r p));
}

pub gain_as : (P Q : RingName → ℕ → Type 0) (a b : List (Option RingName)) → ((o : RingName) (k : ℕ) → P o k → Q o k)
    → ((o : RingName) (k : ℕ) → Q o k → P o k) → Gain a b P → Gain a b Q
gain_as P Q a b to from g = record {
  right = λ r o e. elim (g.right r o e) [ inl m ↦ inl m | inr m ↦ inr (to o r m) ];
  kept = g.kept;
  each = λ r o i. g.each r o (from o r i);
}

-- the rings of a feature that is there
module _ (d : DocumentOf ℕ) (n : ℕ) (f : FeatureOf ℕ) (is : feature d n ≡ Some f) where
  pub rings_to : (k : ℕ) → ((p i : ℕ) × (element (slice_get f.polygons p) i ≡ Some k))
      → (o : RingName) × (o.feature ≡ n) × (number_at d o ≡ Some k)
  rings_to k q =
      let o : RingName = record { feature = n; polygon = q.0; ring = q.1 } in
      (o, refl, ap (λ z. ring_of z o) is ∙ q.2)

  pub ring_from : (k : ℕ) (o : RingName) → o.feature ≡ n → number_at d o ≡ Some k
      → element (slice_get f.polygons o.polygon) o.ring ≡ Some k
  ring_from k o s e = sym (ap (λ z. ring_of z o) (ap (feature d) s ∙ is)) ∙ e

  pub rings_from : (k : ℕ) → ((o : RingName) × (o.feature ≡ n) × (number_at d o ≡ Some k))
      → (p i : ℕ) × (element (slice_get f.polygons p) i ≡ Some k)
  rings_from k q = (q.0.polygon, q.0.ring, ring_from k q.0 q.1 q.2)
