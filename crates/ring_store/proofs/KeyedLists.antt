-- What was put under keys part by part was put under the keys of all parts.
use Rattle.kit_words.proofs.Common.{◌≡◌, ◌⊎◌, ◌<◌, ℕ, zero, suc, refl, sym, subst, ap, ap₂, ◌∙◌, List, [], ◌∷◌, ◌++◌}
use Rattle.kit_words.proofs.Common.{map, inl, inr, Some, arith, Contains, is_some, slice_index_or, ℕ_discrete}
use Rattle.kit_words.proofs.Common.{flat_map, append-nil, map-append, map-id, flat_map-append, flat_map_single}
use Rattle.kit_words.proofs.Common.{Contains-append_left, Contains-append_right, Contains-append_cases}
use Rattle.std.specs.FinMap as table
use Rattle.grid_geometry.specs.Common.{Position}
use Rattle.vertex_index.specs.Common.{Placement, place}
use Rattle.vertex_index.proofs.Common.{get-inserted}
use Rattle.ring_store.specs.Common.{ArePut}
use Rattle.ring_store.proofs.Places.{IsKept, place_is, kept_place, place_kept, insert_other}

abbrev Keeps : Placement → Placement → Type 0
Keeps old new = (k : ℕ) (p : Position) → table.get old k ≡ Some p → table.get new k ≡ Some p

-- ---- one key

keeps_has : (b c : Placement) → Keeps b c → (k : ℕ) → IsKept b k → IsKept c k
keeps_has b c h k t = place_kept c k (place b k) (h k (place b k) (kept_place b k t))

-- the one element of a list
of_one : (k j : ℕ) → Contains (k ∷ []) j → k ≡ j
of_one k j h = by h.0 h.1 h.2
  where
    by : (i : ℕ) → i < 1 → slice_index_or (k ∷ []) i j ≡ j → k ≡ j
    by zero l t = t
    by (suc i) l t = absurd (omega arith)

one : (k : ℕ) → Contains (k ∷ []) k
one k = (0, omega arith, refl)

-- a position put under a key that no other position had
pub put_at : (places places' : Placement) (k : ℕ) (p : Position)
    → ((q : Position) → table.get places k ≡ Some q → q ≡ p)
    → places' ≡ table.insert places k p → ArePut places places' (k ∷ [])
put_at places places' k p only e = subst (λ z. ArePut places z (k ∷ [])) (sym e) (record {
  kept = λ j q h. kept j q h (ℕ_discrete j k);
  placed = λ j h. subst (IsKept (table.insert places k p)) (of_one k j h) (place_kept (table.insert places k p) k p (get-inserted places k p));
  passed = λ j h. passed j h (ℕ_discrete j k);
})
  where
    kept : (j : ℕ) (q : Position) → table.get places j ≡ Some q → Dec (j ≡ k)
        → table.get (table.insert places k p) j ≡ Some q
    kept j q h (yes s) =
        ap (table.get (table.insert places k p)) s ∙ get-inserted places k p
        ∙ ap Some (sym (only q (ap (table.get places) (sym s) ∙ h)))
    kept j q h (no f) = insert_other places k p j f ∙ h

    passed : (j : ℕ) → IsKept (table.insert places k p) j → Dec (j ≡ k)
        → IsKept places j ⊎ Contains (k ∷ []) j
    passed j h (yes s) = inr (subst (Contains (k ∷ [])) (sym s) (one k))
    passed j h (no f) = inl (ap is_some (sym (insert_other places k p j f)) ∙ h)

-- ---- keys after keys

put_more : (a b c : Placement) (ks ls : List ℕ) → ArePut a b ks → ArePut b c ls
    → ArePut a c (ks ++ ls)
put_more a b c ks ls h g = record {
  kept = λ k p e. g.kept k p (h.kept k p e);
  placed = λ k t. elim (Contains-append_cases ks ls k t) [
    | inl i ↦ keeps_has b c g.kept k (h.placed k i)
    | inr i ↦ g.placed k i
  ];
  passed = λ k t. elim (g.passed k t) [
    | inl i ↦ elim (h.passed k i) [
      | inl j ↦ inl j
      | inr j ↦ inr (Contains-append_left ks ls k j)
    ]
    | inr i ↦ inr (Contains-append_right ks ls k i)
  ];
}

-- ---- what is read of the positions under some keys stays as long as they stay

module _ {X Y : Type 0} where
  abbrev pub Stays : (Placement → X → Y) → (X → List ℕ) → Type 0
  Stays at keys = (b c : Placement) → Keeps b c → (x : X)
      → ((k : ℕ) → Contains (keys x) k → IsKept b k) → at c x ≡ at b x

  stays_lists : (at : Placement → X → Y) (keys : X → List ℕ) → Stays at keys
      → (b c : Placement) → Keeps b c → (xs : List X)
      → ((k : ℕ) → Contains (flat_map keys xs) k → IsKept b k) → map (at c) xs ≡ map (at b) xs
  stays_lists at keys h b c s [] t = refl
  stays_lists at keys h b c s (x ∷ xs) t =
      ap₂ ◌∷◌ (h b c s x (λ k i. t k (Contains-append_left (keys x) (flat_map keys xs) k i)))
      (stays_lists at keys h b c s xs (λ k i. t k (Contains-append_right (keys x) (flat_map keys xs) k i)))

  -- these were put, and are read as those
  pub record AreRead (at : Placement → X → Y) (keys : X → List ℕ) (old new : Placement) (xs : List X)
      (ys : List Y) : Type 0 where
    pub read : map (at new) xs ≡ ys
    pub put : ArePut old new (flat_map keys xs)

  read_more : (at : Placement → X → Y) (keys : X → List ℕ) → Stays at keys
      → (a b c : Placement) (xs : List X) (ys : List Y) (x : X) (y : Y) → AreRead at keys a b xs ys
      → at c x ≡ y → ArePut b c (keys x) → AreRead at keys a c (xs ++ x ∷ []) (ys ++ y ∷ [])
  read_more at keys stays a b c xs ys x y h e g = record {
    read =
        map-append (at c) xs (x ∷ [])
        ∙ ap₂ (λ z w. z ++ w ∷ []) (stays_lists at keys stays b c g.kept xs h.put.placed ∙ h.read) e;
    put =
        subst (ArePut a c) (sym (flat_map-append keys xs (x ∷ []) ∙ ap (λ z. flat_map keys xs ++ z) (append-nil (keys x)))) (put_more a b c (flat_map keys xs) (keys x) h.put g);
  }

  pub read_next : (at : Placement → X → Y) (keys : X → List ℕ) → Stays at keys
      → (a b c : Placement) (xs xs' : List X) (ys ys' : List Y) (x : X) (y : Y)
      → xs' ≡ xs ++ x ∷ [] → ys' ≡ ys ++ y ∷ [] → AreRead at keys a b xs ys
      → at c x ≡ y → ArePut b c (keys x) → AreRead at keys a c xs' ys'
  read_next at keys stays a b c xs xs' ys ys' x y d e h f g =
      subst (λ z. AreRead at keys a c z ys') (sym d) (subst (λ z. AreRead at keys a c (xs ++ x ∷ []) z) (sym e) (read_more at keys stays a b c xs ys x y h f g))

-- ---- the keys of a ring

pub singles : (ks : List ℕ) → flat_map (λ k. k ∷ []) ks ≡ ks
singles ks = flat_map_single (λ k. k) ks ∙ map-id ks

pub place_stays : Stays place (λ k. k ∷ [])
place_stays b c s k t =
    place_is c k (place b k) (s k (place b k) (kept_place b k (t k (one k))))

-- the positions under keys
abbrev pub keyed_at : Placement → List ℕ → List Position
keyed_at places keys = map (place places) keys

pub ring_stays : Stays keyed_at (λ keys. keys)
ring_stays b c s ks t = stays_lists place (λ k. k ∷ []) place_stays b c s ks (λ k i. t k (subst (λ z. Contains z k) (singles ks) i))
