-- The table of rings' names: how it grows, and how rings get names.
use Rattle.kit_words.proofs.Common.{◌≡◌, ℕ, ◌+◌, ◌<◌, ◌≤◌, sym, ap, ◌∙◌, List, length, slice_set, ◌⊎◌, inl, inr, arith}
use Rattle.kit_words.proofs.Common.{Option, Some, slice_get, slice_get_within, ℕ_discrete}
use Rattle.map_frame.specs.Common.{RingName, IsNamed, Gain}
use Rattle.map_frame.proofs.NamedOnce.{same_some}
use Rattle.map_frame.proofs.SlotsSet.{set_here, set_other}

-- one name is put over what stood at a ring's number
pub put_name : (names : List (Option RingName)) (r : ℕ) (name : RingName) → r < length names
    → Gain names (slice_set names r (Some name)) (λ o k. (o ≡ name) × (k ≡ r))
put_name names r name l = record {
  right = λ k o e. right k o (ℕ_discrete k r) e;
  kept = λ k o e. kept k o (ℕ_discrete k r) e;
  each = λ k o i. (name, put k i.1);
}
  where
    put : (k : ℕ) → k ≡ r → IsNamed (slice_set names r (Some name)) k name
    put k s = ap (slice_get (slice_set names r (Some name))) s ∙ set_here names r (Some name) l

    right : (k : ℕ) (o : RingName) → Dec (k ≡ r) → IsNamed (slice_set names r (Some name)) k o
        → IsNamed names k o ⊎ ((o ≡ name) × (k ≡ r))
    right k o (yes s) e = inr (same_some o name (same_some (Some o) (Some name) (sym e ∙ put k s)), s)
    right k o (no f) e = inl (sym (set_other names r k (Some name) f) ∙ e)

    kept : (k : ℕ) (o : RingName) → Dec (k ≡ r) → IsNamed names k o
        → (p : RingName) × IsNamed (slice_set names r (Some name)) k p
    kept k o (yes s) e = (name, put k s)
    kept k o (no f) e = (o, set_other names r k (Some name) f ∙ e)

pub gain_none : (names : List (Option RingName)) (Is : RingName → ℕ → Type 0)
    → ((o : RingName) (k : ℕ) → Is o k → ⊥) → Gain names names Is
gain_none names Is none = record {
  right = λ r o e. inl e;
  kept = λ r o e. (o, e);
  each = λ r o i. absurd (none o r i);
}

-- one gain after another
pub gain_both : (P Q R : RingName → ℕ → Type 0) → ((o : RingName) (k : ℕ) → R o k → P o k ⊎ Q o k)
    → ((o : RingName) (k : ℕ) → P o k → R o k) → ((o : RingName) (k : ℕ) → Q o k → R o k)
    → (a b c : List (Option RingName)) → Gain a b P → Gain b c Q → Gain a c R
gain_both P Q R parts left right a b c g h = record {
  right = λ r o e. elim (h.right r o e) [
    | inl now ↦ elim (g.right r o now) [ inl old ↦ inl old | inr p ↦ inr (left o r p) ]
    | inr q ↦ inr (right o r q)
  ];
  kept = λ r o e. let m = g.kept r o e in h.kept r m.0 m.1;
  each = λ r o i. elim (parts o r i) [
    | inl p ↦ let m = g.each r o p in h.kept r m.0 m.1
    | inr q ↦ h.each r o q
  ];
}

-- a gain goes on from the rings before place n to those before the next place
pub gain_step : (at : RingName → ℕ) (Is Q : RingName → ℕ → Type 0) (n : ℕ)
    → ((o : RingName) (k : ℕ) → Q o k → (at o ≡ n) × Is o k)
    → ((o : RingName) (k : ℕ) → Is o k → at o ≡ n → Q o k)
    → (a b c : List (Option RingName)) → Gain a b (λ o k. Is o k × (at o < n)) → Gain b c Q
    → Gain a c (λ o k. Is o k × (at o < n + 1))
gain_step at Is Q n from to a b c g h =
    gain_both (λ o k. Is o k × (at o < n)) Q (λ o k. Is o k × (at o < n + 1))
    (λ o k i. by o k i (ℕ_discrete (at o) n))
    (λ o k i. (i.0, omega (arith, i.1)))
    (λ o k q. let f = from o k q in (f.1, omega (arith, f.0)))
    a b c g h
  where
    by : (o : RingName) (k : ℕ) → Is o k × (at o < n + 1) → Dec (at o ≡ n)
        → (Is o k × (at o < n)) ⊎ Q o k
    by o k i (yes e) = inr (to o k i.0 e)
    by o k i (no f) = inl (i.0, let l : at o < n + 1 = i.1 in grind (arith))

-- the places are at their end
pub gain_end : (at : RingName → ℕ) (Is : RingName → ℕ → Type 0) (n : ℕ)
    → ((o : RingName) (k : ℕ) → Is o k → at o < n) → (a b : List (Option RingName))
    → Gain a b (λ o k. Is o k × (at o < n)) → Gain a b Is
gain_end at Is n within a b g = record {
  right = λ r o e. elim (g.right r o e) [ inl old ↦ inl old | inr i ↦ inr i.0 ];
  kept = g.kept;
  each = λ r o i. g.each r o (i, within o r i);
}

pub name_same : (a b : RingName) → a.feature ≡ b.feature → a.polygon ≡ b.polygon → a.ring ≡ b.ring → a ≡ b
name_same a b e f h =
    ap (λ x. at x a.polygon a.ring) e ∙ ap (λ x. at b.feature x a.ring) f ∙ ap (λ x. at b.feature b.polygon x) h
  where
    at : ℕ → ℕ → ℕ → RingName
    at x y z = record { feature = x; polygon = y; ring = z }

module _ (f p : ℕ) (rings : List ℕ) where
  abbrev pub OfPolygon : RingName → ℕ → Type 0
  OfPolygon o k = (o.feature ≡ f) × (o.polygon ≡ p) × (slice_get rings o.ring ≡ Some k)

  module _ (n : ℕ) (a b : List (Option RingName)) (g : Gain a b (λ o k. OfPolygon o k × (o.ring < n))) where
    pub ring_named : (c : List (Option RingName)) (r : ℕ) → slice_get rings n ≡ Some r
        → Gain b c (λ o k. (o ≡ record { feature = f; polygon = p; ring = n }) × (k ≡ r))
        → Gain a c (λ o k. OfPolygon o k × (o.ring < n + 1))
    ring_named c r here h =
        gain_step (λ o. o.ring) OfPolygon (λ o k. (o ≡ name) × (k ≡ r)) n
        (λ o k q. (
          ap (λ (z : RingName). z.ring) q.0,
          (
            ap (λ (z : RingName). z.feature) q.0,
            ap (λ (z : RingName). z.polygon) q.0,
            ap (slice_get rings) (ap (λ (z : RingName). z.ring) q.0) ∙ here ∙ ap Some (sym q.1),
          ),
        ))
        (λ o k i e. (
          name_same o name i.0 i.1 e,
          same_some k r (sym i.2 ∙ ap (slice_get rings) e ∙ here),
        ))
        a b c g h
      where
        name : RingName
        name = record { feature = f; polygon = p; ring = n }

    pub rings_named : length rings ≤ n → Gain a b OfPolygon
    rings_named l =
        gain_end (λ o. o.ring) OfPolygon n (λ o k i. let w = slice_get_within rings o.ring k i.2 in omega (arith, w, l)) a b g
