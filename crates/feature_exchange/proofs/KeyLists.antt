-- The keys along the rings of features, one list after the other.
use Rattle.kit_words.proofs.Common.{◌≡◌, ◌+◌, ◌<◌, ℕ, true, sym, ap, ap₂, ◌∙◌, subst, List, [], ◌∷◌, ◌++◌, length, take}
use Rattle.kit_words.proofs.Common.{get_or, append_assoc, Contains, IfSome, unwrap_or, flat_map, append-nil, take_more}
use Rattle.kit_words.proofs.Common.{flat_map-append}
use Rattle.std.specs.FinMap as table
use Rattle.ring_machine.proofs.Common.{In, in-flat_map, contains_in, in_contains, there, in_at}
use Rattle.arc_tables.specs.Common.{Rings, begins}
use Rattle.feature_exchange.specs.Common.{edges_under}

-- the lists of one element more
pub flat_more : {A B : Type 0} (f : A → List B) (xs : List A) (i : ℕ) (d : A) → i < length xs
    → flat_map f (take (i + 1) xs) ≡ flat_map f (take i xs) ++ f (get_or xs i d)
flat_more f xs i d h =
    ap (flat_map f) (take_more xs i d h) ∙ flat_map-append f (take i xs) (get_or xs i d ∷ [])
    ∙ ap (λ z. flat_map f (take i xs) ++ z) (append-nil (f (get_or xs i d)))

module _ (m : Rings) where
  -- the keys of a ring
  abbrev pub keys_of : ℕ → List ℕ
  keys_of r = begins (edges_under m r)

  -- these rings are held
  abbrev pub AreHeld : List ℕ → Type 0
  AreHeld rs = (r : ℕ) → Contains rs r → table.contains_key m r ≡ true

  -- the keys of one ring more
  pub keys_more : (rs : List ℕ) (i : ℕ) (old before after : List ℕ) → i < length rs → AreHeld rs
      → before ≡ old ++ flat_map keys_of (take i rs)
      → IfSome (table.get m (get_or rs i 0)) (λ es. after ≡ before ++ begins es)
      → after ≡ old ++ flat_map keys_of (take (i + 1) rs)
  keys_more rs i old before after h held e f =
      let r = get_or rs i 0 in
      let es = there (table.get m r) (held r (in_contains rs r (in_at rs i 0 h))) in
      let added : after ≡ before ++ begins es.0 = subst (λ o. IfSome o (λ es. after ≡ before ++ begins es)) es.1 f in
      added
      ∙ ap₂ (λ y z. y ++ begins z) e (sym (ap (λ o. unwrap_or o []) es.1))
      ∙ append_assoc old (flat_map keys_of (take i rs)) (keys_of r)
      ∙ ap (λ z. old ++ z) (sym (flat_more keys_of rs i 0 h))

  module _ {P : Type 0} (f : P → List ℕ) (xs : List P) (i : ℕ) (x : P) (part : List ℕ) (h : i < length xs) (is : x ≡ get_or xs i x) (e : part ≡ f x) where
    -- the rings of one list are held where all are
    pub part_held : AreHeld (flat_map f xs) → AreHeld part
    part_held held r k =
        held r (in_contains (flat_map f xs) r (in-flat_map f x r xs (subst (λ z. In z xs) (sym is) (in_at xs i x h)) (subst (In r) e (contains_in part r k))))

    -- the keys of one list of rings more
    pub part_more : (old before after : List ℕ)
        → before ≡ old ++ flat_map keys_of (flat_map f (take i xs))
        → after ≡ before ++ flat_map keys_of part
        → after ≡ old ++ flat_map keys_of (flat_map f (take (i + 1) xs))
    part_more old before after u v =
        v
        ∙ ap₂ (λ y z. y ++ flat_map keys_of z) u (e ∙ ap f is)
        ∙ append_assoc old (flat_map keys_of (flat_map f (take i xs))) (flat_map keys_of (f (get_or xs i x)))
        ∙ ap (λ z. old ++ z) (sym (flat_map-append keys_of (flat_map f (take i xs)) (f (get_or xs i x))) ∙ ap (flat_map keys_of) (sym (flat_more f xs i x h)))
