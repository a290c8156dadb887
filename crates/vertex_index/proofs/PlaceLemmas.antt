-- Slots that name the places of their positions, and what keeps them so.
use Rattle.kit_words.proofs.Common.{◌≡◌, ◌≢◌, ◌<◌, ◌≤◌, ◌+◌, ◌-◌, cond, ℕ, zero, suc, List, [], ◌∷◌, ◌++◌, length, set}
use Rattle.kit_words.proofs.Common.{get_or, Option, Some, None, IfSome, slice_get, sym, ap, ◌∙◌, subst, arith}
use Rattle.kit_words.proofs.Common.{swap_remove, get_or-append_seam, get_or-set_same, get_or-set_other, get_or-take}
use Rattle.kit_words.proofs.Common.{get_or_append_left, length-take-le, length-set, length-append, slice_get_within}
use Rattle.kit_words.proofs.Common.{get_or_from_slice_get, slice_get-get_or, ℕ_discrete}
use Rattle.indexmap.specs.IndexMap.{IndexMap, Updates}
use Rattle.grid_geometry.specs.Common.{Position, position_eq}
use Rattle.vertex_index.specs.Common.{Slot, key_in, slot_at, AreInPlace}
use Rattle.vertex_index.proofs.SlotLemmas.{set_slot, other_slots}

-- what is said of one that is there holds of the one that it is
pub of_some : {X : Type 0} (P : X → Type 0) (o : Option X) (x : X) → o ≡ Some x → IfSome o P → P x
of_some P o x is h = subst (λ r. IfSome r P) is h

-- and so the keys have it no more
pub gone_from : {S : Type 0} (m n : IndexMap Position ℕ S) (o : Option (Position × ℕ)) (p : Position) (k : ℕ)
    → o ≡ Some (p, k) → IfSome o (λ e. Updates position_eq m n e.0 None) → (r : Position)
    → key_in n.entries r ≡ cond (position_eq p r) None (key_in m.entries r)
gone_from m n o p k is h = (of_some (λ e. Updates position_eq m n e.0 None) o (p, k) is h).0

-- ---- lists

pub past_end : {X : Type 0} (xs : List X) (i : ℕ) → None ≡ slice_get xs i → length xs ≤ i
past_end [] i e = omega arith
past_end (x ∷ xs) zero e = cc
past_end (x ∷ xs) (suc i) e = omega (arith, past_end xs i e)

module _ {X : Type 0} where
  stands : (xs : List X) (i : ℕ) (x : X) → i < length xs → get_or xs i x ≡ x → slice_get xs i ≡ Some x
  stands xs i x l e = slice_get-get_or xs i x l ∙ ap (λ y. Some y) e

  pub stands_last : (xs : List X) (x : X) → slice_get (xs ++ x ∷ []) (length xs) ≡ Some x
  stands_last xs x =
      stands (xs ++ x ∷ []) (length xs) x (omega (arith, length-append xs (x ∷ []))) (get_or-append_seam xs x [] x)

  pub stands_before : (xs ys : List X) (i : ℕ) (x : X) → slice_get xs i ≡ Some x → slice_get (xs ++ ys) i ≡ Some x
  stands_before xs ys i x e =
      let l = slice_get_within xs i x e in
      stands (xs ++ ys) i x (omega (arith, l, length-append xs ys))
      (get_or_append_left xs ys x i l ∙ get_or_from_slice_get xs i x x e)

  module _ (xs : List X) (i : ℕ) (d : X) where
    pub one_less : length (swap_remove xs i d) ≡ length xs - 1
    one_less =
        length-take-le (length xs - 1) (set xs i (get_or xs (length xs - 1) d))
        (omega (arith, length-set xs i (get_or xs (length xs - 1) d)))

    -- an entry at another place stays, if it is not the last
    pub keeps_others : (j : ℕ) (x : X) → j ≢ i → j < length xs - 1 → slice_get xs j ≡ Some x
        → slice_get (swap_remove xs i d) j ≡ Some x
    keeps_others j x ne l e =
        stands (swap_remove xs i d) j x (omega (arith, l, one_less))
        (get_or-take (length xs - 1) (set xs i (get_or xs (length xs - 1) d)) j x l
        ∙ get_or-set_other xs i j (get_or xs (length xs - 1) d) x ne ∙ get_or_from_slice_get xs j x x e)

    -- and the last comes to the place
    pub brings_last : (x : X) → i < length xs - 1 → slice_get xs (length xs - 1) ≡ Some x
        → slice_get (swap_remove xs i d) i ≡ Some x
    brings_last x l e =
        stands (swap_remove xs i d) i x (omega (arith, l, one_less))
        (get_or-take (length xs - 1) (set xs i (get_or xs (length xs - 1) d)) i x l
        ∙ get_or-set_same xs i (get_or xs (length xs - 1) d) x (omega (arith, l))
        ∙ get_or_from_slice_get xs (length xs - 1) x d e)

-- ---- the places after a change

abbrev number : Option (Position × ℕ) → ℕ
number None = 0
number (Some e) = e.1

module _ (s t : List (Option Slot)) (es : List (Position × ℕ)) (right : AreInPlace s es) (k : ℕ)
    (others : (j : ℕ) → j ≢ k → slot_at t j ≡ slot_at s j) where
  was : (j : ℕ) (z : Slot) → slot_at t j ≡ Some z → j ≢ k → slice_get es z.place ≡ Some (z.pos, j)
  was j z e ne = right j z (sym (others j ne) ∙ e)

  -- what is in the slot that has changed
  the_new : (y : Slot) → slot_at t k ≡ Some y → (j : ℕ) (z : Slot) → slot_at t j ≡ Some z → j ≡ k → y ≡ z
  the_new y here j z e at = let one : Some y ≡ Some z = sym here ∙ ap (slot_at t) (sym at) ∙ e in cc

  -- a new slot, whose position was put last
  pub placed : (y : Slot) → slot_at t k ≡ Some y → y.place ≡ length es → (gs : List (Position × ℕ))
      → gs ≡ es ++ (y.pos, k) ∷ [] → AreInPlace t gs
  placed y here last gs are j z e =
      subst (λ l. slice_get l z.place ≡ Some (z.pos, j)) (sym are) (by (ℕ_discrete j k))
    where
      by : Dec (j ≡ k) → slice_get (es ++ (y.pos, k) ∷ []) z.place ≡ Some (z.pos, j)
      by (no ne) = stands_before es ((y.pos, k) ∷ []) z.place (z.pos, j) (was j z e ne)
      by (yes at) =
          subst (λ (w : Slot). slice_get (es ++ (y.pos, k) ∷ []) w.place ≡ Some (w.pos, j)) (the_new y here j z e at)
          (ap (slice_get (es ++ (y.pos, k) ∷ [])) last ∙ stands_last es (y.pos, k) ∙ ap (λ n. Some (y.pos, n)) (sym at))

  module _ (x : Slot) (stood : slot_at s k ≡ Some x) where
    -- no other slot has the place of this one
    elsewhere : (j : ℕ) (z : Slot) → slot_at t j ≡ Some z → j ≢ k → z.place ≢ x.place
    elsewhere j z e ne at =
        ne (ap number (sym (was j z e ne) ∙ ap (slice_get es) at ∙ right k x stood))

    -- a position put last, and then moved to the place of the one before
    pub exchanged : (y : Slot) → slot_at t k ≡ Some y → y.place ≡ x.place → (d : Position × ℕ)
        → (gs : List (Position × ℕ)) → gs ≡ swap_remove (es ++ (y.pos, k) ∷ []) x.place d → AreInPlace t gs
    exchanged y here same d gs are j z e =
        subst (λ l. slice_get l z.place ≡ Some (z.pos, j)) (sym are) (by (ℕ_discrete j k))
      where
        long : length (es ++ (y.pos, k) ∷ []) ≡ length es + 1
        long = length-append es ((y.pos, k) ∷ [])

        brought : slice_get (swap_remove (es ++ (y.pos, k) ∷ []) x.place d) x.place ≡ Some (y.pos, k)
        brought =
            brings_last (es ++ (y.pos, k) ∷ []) x.place d (y.pos, k)
            (omega (arith, long, slice_get_within es x.place (x.pos, k) (right k x stood)))
            (ap (slice_get (es ++ (y.pos, k) ∷ [])) (omega (arith, long)) ∙ stands_last es (y.pos, k))

        by : Dec (j ≡ k) → slice_get (swap_remove (es ++ (y.pos, k) ∷ []) x.place d) z.place ≡ Some (z.pos, j)
        by (no ne) =
            let at = was j z e ne in
            keeps_others (es ++ (y.pos, k) ∷ []) x.place d z.place (z.pos, j) (elsewhere j z e ne)
            (omega (arith, long, slice_get_within es z.place (z.pos, j) at))
            (stands_before es ((y.pos, k) ∷ []) z.place (z.pos, j) at)
        by (yes at) =
            subst (λ (w : Slot). slice_get (swap_remove (es ++ (y.pos, k) ∷ []) x.place d) w.place ≡ Some (w.pos, j)) (the_new y here j z e at)
            (ap (slice_get (swap_remove (es ++ (y.pos, k) ∷ []) x.place d)) same ∙ brought ∙ ap (λ n. Some (y.pos, n)) (sym at))

    -- the slot is empty, and its position was taken out
    module _ (empty : slot_at t k ≡ None) (d : Position × ℕ) (gs : List (Position × ℕ))
        (are : gs ≡ swap_remove es x.place d) where
      fewer : length gs ≡ length es - 1
      fewer = ap length are ∙ one_less es x.place d

      not_it : (j : ℕ) (z : Slot) → slot_at t j ≡ Some z → j ≢ k
      not_it j z e at =
          let bad : None ≡ Some z = sym empty ∙ ap (slot_at t) (sym at) ∙ e in absurd (let b : ⊥ = cc in b)

      stays : (j : ℕ) (z : Slot) → slot_at t j ≡ Some z → z.place ≢ length es - 1
          → slice_get gs z.place ≡ Some (z.pos, j)
      stays j z e ne =
          let at = was j z e (not_it j z e) in
          subst (λ l. slice_get l z.place ≡ Some (z.pos, j)) (sym are)
          (keeps_others es x.place d z.place (z.pos, j) (elsewhere j z e (not_it j z e))
          (omega (arith, ne, slice_get_within es z.place (z.pos, j) at)) at)

      -- it was the last
      pub taken_last : length gs ≤ x.place → AreInPlace t gs
      taken_last past j z e =
          let there = slice_get_within es x.place (x.pos, k) (right k x stood) in
          let last : x.place ≡ length es - 1 = omega (arith, past, there, fewer) in
          stays j z e (λ at. elsewhere j z e (not_it j z e) (at ∙ sym last))

      -- or the last came to its place, and the slot of that was told
      pub taken : (p : Position) (m : ℕ) → slice_get gs x.place ≡ Some (p, m) → (w y : Slot)
          → slot_at t m ≡ Some w → y.pos ≡ p → y.place ≡ x.place → AreInPlace (set t m (Some y)) gs
      taken p m came w y there its told j z e = by (ℕ_discrete j m)
        where
          before : x.place < length es - 1
          before = omega (arith, fewer, slice_get_within gs x.place (p, m) came)

          -- the last was that of slot m
          its_number : z.place ≡ length es - 1 → slice_get es z.place ≡ Some (z.pos, j) → j ≡ m
          its_number last at =
              let brought =
              brings_last es x.place d (z.pos, j) before (ap (slice_get es) (sym last) ∙ at) in
              ap number (sym brought ∙ ap (λ l. slice_get l x.place) (sym are) ∙ came)

          by : Dec (j ≡ m) → slice_get gs z.place ≡ Some (z.pos, j)
          by (no ne) =
              let f = sym (other_slots t m y j ne) ∙ e in
              stays j z f (λ last. ne (its_number last (was j z f (not_it j z f))))
          by (yes at) =
              let one : Some y ≡ Some z = sym (set_slot t m w y there) ∙ ap (slot_at (set t m (Some y))) (sym at) ∙ e in
              let same : y ≡ z = cc in
              subst (λ (v : Slot). slice_get gs v.place ≡ Some (v.pos, j)) same
              (ap (slice_get gs) told ∙ came ∙ ap (λ q. Some (q, m)) (sym its) ∙ ap (λ n. Some (y.pos, n)) (sym at))
