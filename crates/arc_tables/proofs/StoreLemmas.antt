-- What the steps of the loops over slabs need.
use Rattle.kit_words.proofs.Common.{◌≡◌, ◌≢◌, ℕ, ◌<◌, ◌+◌, refl, sym, ap, ◌∙◌, subst, List, [], ◌∷◌, ◌++◌, ◌⊎◌, inl}
use Rattle.kit_words.proofs.Common.{inr, Contains, take, get_or, length, arith, Some, None, IsSome, is_some, false≢true}
use Rattle.kit_words.proofs.Common.{cases_eq, take_more, get_or_default, Contains-append_left, Contains-push}
use Rattle.kit_words.proofs.Common.{Contains-push_cases, flat_map}
use Rattle.slab.specs.Slab.{Slab, get, ContainsKey, Updates}
use Rattle.slab.proofs.SlabLemmas.{Contains-cons, Contains-cons_cases}
use Rattle.arc_tables.specs.Common.{Use, Ring, NewUses, both_parts, uses_in, HasRing, IsPut, Doubles}

module _ {A : Type 0} where
  -- one more list of uses is put
  pub put_more : (e : NewUses A) (done : List (NewUses A)) (r : ℕ) (old now after : List Use) → IsPut done r old now → (r ≡ e.ring → after ≡ e.uses.items) → (r ≢ e.ring → after ≡ now) → IsPut (e ∷ done) r old after
  put_more e done r old now after h here else' = elim (cases_eq r e.ring) [
    | inl f ↦ inr (e, (0, omega arith, refl), sym f, here f)
    | inr f ↦ elim h [
      | inl k ↦ inl ((λ m. elim (Contains-cons_cases e m.0 done m.1) [ inl z ↦ f (sym m.2 ∙ sym (ap (λ (x : NewUses A). x.ring) z)) | inr z ↦ k.0 (m.0, z, m.2) ]), else' f ∙ k.1)
      | inr k ↦ inr (k.0, Contains-cons e k.0 done k.1, k.2, else' f ∙ k.3)
    ]
  ]

pub none_put : {A : Type 0} (r : ℕ) (old : List Use) → IsPut {A = A} [] r old old
none_put r old = inl ((λ m. absurd (omega (arith, m.1.1))), refl)

module _ {A : Type 0} where
  -- a changed ring is still there, and so are the others
  pub still_there : (old new : Slab (Ring A)) (k : ℕ) (v : Ring A) → Updates old new k (Some v) → (r : ℕ) → ContainsKey old r → ContainsKey new r
  still_there old new k v u r h = grind (arith, cases_eq r k, u.changed, u.others r)

  pub still_held : (old new : Slab (Ring A)) (k : ℕ) (v : Ring A) → ContainsKey old k → Updates old new k (Some v) → (r : ℕ) → is_some (get new r) ≡ is_some (get old r)
  still_held old new k v h u r = grind (arith, cases_eq r k, u.changed, u.others r)

  pub uses_changed : (old new : Slab (Ring A)) (k : ℕ) (v : Ring A) → Updates old new k (Some v) → (r : ℕ) → r ≡ k → uses_in (get new r) ≡ v.uses.items
  uses_changed old new k v u r e = ap uses_in (ap (get new) e ∙ u.changed)

  pub uses_other : (old new : Slab (Ring A)) (k : ℕ) (v : Ring A) → Updates old new k (Some v) → (r : ℕ) → r ≢ k → uses_in (get new r) ≡ uses_in (get old r)
  uses_other old new k v u r f = ap uses_in (u.others r f)

-- ---- the plan of new uses

-- an element of one more place is an earlier one or that place's
pub taken_cases : (users : List ℕ) (i r : ℕ) → i < length users → Contains (take (i + 1) users) r → Contains (take i users) r ⊎ (get_or users i 0 ≡ r)
taken_cases users i r l m = Contains-push_cases (take i users) (get_or users i 0) r (subst (λ z. Contains z r) (take_more users i 0 l) m)

-- the same, where the place's element is named
pub taken_item : (keys : List ℕ) (i k x : ℕ) → i < length keys → x ≡ get_or keys i x → Contains (take (i + 1) keys) k → Contains (take i keys) k ⊎ (x ≡ k)
taken_item keys i k x l e m = elim (taken_cases keys i k l m) [ inl y ↦ inl y | inr y ↦ inr (e ∙ get_or_default keys i x 0 l ∙ y) ]

module _ {A : Type 0} where
  -- one more ring's new uses are planned
  pub has_more : (news : List (NewUses A)) (e : NewUses A) (users : List ℕ) (i r : ℕ) → i < length users → e.ring ≡ get_or users i 0 →
      Contains (take (i + 1) users) r → (Contains (take i users) r → HasRing news r) → HasRing (news ++ e ∷ []) r
  has_more news e users i r l e-is m earlier = elim (taken_cases users i r l m) [
    | inl k ↦ let h = earlier k in (h.0, Contains-append_left news (e ∷ []) h.0 h.1, h.2)
    | inr k ↦ (e, Contains-push news e, e-is ∙ k)
  ]

  pub pushed_each : (P : NewUses A → Type 0) (news : List (NewUses A)) (e : NewUses A) → ((d : NewUses A) → Contains news d → P d) → P e → (d : NewUses A) → Contains (news ++ e ∷ []) d → P d
  pushed_each P news e h k d m = elim (Contains-push_cases news e d m) [ inl z ↦ h d z | inr z ↦ subst P z k ]

  pub doubles_there : (rings : Slab (Ring A)) (i n : ℕ) (e : NewUses A) (v : Ring A) → Some v ≡ get rings e.ring → e.uses.items ≡ flat_map (both_parts i n) v.uses.items → Doubles rings i n e
  doubles_there rings i n e v h k = record { there = subst (λ o. IsSome o) h refl; uses = k ∙ ap (λ o. flat_map (both_parts i n) (uses_in o)) h }

  pub not_there : (rings : Slab (Ring A)) (r : ℕ) → None ≡ get rings r → ContainsKey rings r → ⊥
  not_there rings r h k = false≢true (subst (λ o. IsSome o) (sym h) k)
