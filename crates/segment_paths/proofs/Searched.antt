-- A path found by a search among ascending ones.
use Rattle.kit_words.proofs.Common.{◌≡◌, ◌<◌, ◌+◌, ℕ, zero, suc, true, false, refl, sym, ap, ap₂, ◌∙◌, subst, cond}
use Rattle.kit_words.proofs.Common.{List, [], ◌∷◌, map, length, get_or, inl, inr, arith}
use Rattle.kit_words.proofs.Common.{IsSortedBy, IsStrictlySortedBy, IsPartitionPoint, is_lt}
use Rattle.kit_words.proofs.Common.{is_eq, ordering_index, IsNonDecreasingBy, Ordering, Less, Equal, Greater}
use Rattle.kit_words.proofs.Common.{tied_itself, cases_lt, searchable_from_sorted}
use Rattle.grid_geometry.specs.Common.{Position, Segment, segment_cmp, segment_eq}
use Rattle.ring_machine.proofs.Common.{In, in_recursion}
use Rattle.segment_index.proofs.Common.{segment_total, segment_exact, segment_eq-is}
use Rattle.segment_paths.specs.Common.{PathOfSegment, inner_of}

-- of two segments one at most is less
not_both : (s t : Segment) → segment_cmp s t ≡ Less → segment_cmp t s ≡ Less → ⊥
not_both s t h k = differ (sym (segment_total.trans s t s h k) ∙ tied_itself segment_total s)
  where
    differ : Less ≡ Equal → ⊥
    differ e = cc

-- segments that compare as equal are so by the test
equal_is : (s t : Segment) → segment_cmp t s ≡ Equal → segment_eq s t ≡ true
equal_is s t h = segment_eq-is t s ∙ ap is_eq h

less_differs : (s t : Segment) → segment_cmp t s ≡ Less → segment_eq s t ≡ false
less_differs s t h = segment_eq-is t s ∙ ap is_eq h

greater_differs : (s t : Segment) → segment_cmp t s ≡ Greater → segment_eq s t ≡ false
greater_differs s t h = segment_eq-is t s ∙ ap is_eq h

module _ {X : Type 0} (key : X → Segment) (inner : X → List Position) where
  abbrev seen : X → PathOfSegment
  seen x = (key x, inner x)

  abbrev keys : List X → List Segment
  keys xs = map (λ p. p.0) (map seen xs)

  key_in : (xs : List X) (i : ℕ) (x : X) → i < length xs → x ≡ get_or xs i x → In (key x) (keys xs)
  key_in [] i x l e = absurd (omega arith)
  key_in (y ∷ ys) zero x l e = inl (ap key (sym e))
  key_in (y ∷ ys) (suc i) x l e = inr (key_in ys i x (omega arith) e)

  -- what is found is the path
  found : (xs : List X) (i : ℕ) (x : X) (s : Segment) → IsStrictlySortedBy segment_cmp (keys xs) → i < length xs
      → x ≡ get_or xs i x → segment_cmp (key x) s ≡ Equal → inner_of (map seen xs) s ≡ inner x
  unfolding IsStrictlySortedBy
  found [] i x s h l e k = absurd (omega arith)
  found (y ∷ ys) zero x s h l e k =
      ap (λ b. cond b (inner y) (inner_of (map seen ys) s)) (ap (λ z. segment_eq s (key z)) (sym e) ∙ equal_is s (key x) k) ∙ ap inner (sym e)
  found (y ∷ ys) (suc i) x s h l e k =
      let later : segment_cmp (key y) (key x) ≡ Less = in_recursion (λ t. segment_cmp (key y) t ≡ Less) (keys ys) (key x) h.0 (key_in ys i x (omega arith) e) in
      let before : segment_cmp (key y) s ≡ Less = subst (λ t. segment_cmp (key y) t ≡ Less) (segment_exact (key x) s k) later in
      ap (λ b. cond b (inner y) (inner_of (map seen ys) s)) (less_differs s (key y) before)
      ∙ found ys i x s h.1 (omega arith) e k

  pub found_at : (xs : List X) (i : ℕ) (x : X) (s : Segment) → IsStrictlySortedBy segment_cmp (keys xs) → i < length xs
      → x ≡ get_or xs i x → ((d : X) → segment_cmp (key (get_or xs i d)) s ≡ Equal) → inner_of (map seen xs) s ≡ inner x
  found_at xs i x s h l e k = found xs i x s h l e (ap (λ z. segment_cmp (key z) s) e ∙ k x)

  none : (xs : List X) (s : Segment) → ((k : ℕ) (d : X) → k < length xs → segment_eq s (key (get_or xs k d)) ≡ false) → inner_of (map seen xs) s ≡ []
  none [] s h = refl
  none (y ∷ ys) s h =
      ap₂ (λ b z. cond b (inner y) z) (h 0 y (omega arith)) (none ys s (λ k d l. h (suc k) d (omega arith)))

  -- ascending by their segments
  pub ascends : (xs : List X) → IsStrictlySortedBy segment_cmp (keys xs) → IsSortedBy (λ a b. is_lt (segment_cmp (key a) (key b))) xs
  unfolding IsStrictlySortedBy
  ascends [] h k d z l = absurd (omega arith)
  ascends (x ∷ []) h k d z l = absurd (omega arith)
  ascends (x ∷ y ∷ ys) h zero d z l = not_after (segment_cmp (key y) (key x)) refl
    where
      not_after : (o : Ordering) → segment_cmp (key y) (key x) ≡ o → is_lt o ≡ false
      not_after Less e = absurd (not_both (key x) (key y) h.0.0 e)
      not_after Equal e = refl
      not_after Greater e = refl
  ascends (x ∷ y ∷ ys) h (suc k) d z l =
      let e : suc (k + 1) ≡ suc k + 1 = omega arith in
      subst (λ n. is_lt (segment_cmp (key (get_or (x ∷ y ∷ ys) n d)) (key (get_or (y ∷ ys) k d))) ≡ false) e
      (ascends (y ∷ ys) h.1 k d (omega arith) (omega arith))

  -- where the search ends between two paths there is none
  pub not_found : (xs : List X) (i : ℕ) (s : Segment) → IsStrictlySortedBy segment_cmp (keys xs)
      → (IsNonDecreasingBy (λ x. ordering_index (segment_cmp (key x) s)) xs → IsPartitionPoint (λ x. segment_cmp (key x) s ≡ Less) (λ x. segment_cmp (key x) s ≡ Greater) xs i)
      → inner_of (map seen xs) s ≡ []
  not_found xs i s h found_none =
      let point = found_none (searchable_from_sorted segment_total key xs s (ascends xs h)) in
      none xs s (λ k d l. elim (cases_lt k i) [
        | inl b ↦ less_differs s (key (get_or xs k d)) (point.0 k d (omega arith) b)
        | inr b ↦ greater_differs s (key (get_or xs k d)) (point.1 k d b l)
      ])

  -- one path alone
  pub one_ascends : (xs : List X) (x : X) → xs ≡ x ∷ [] → IsStrictlySortedBy segment_cmp (keys xs)
  unfolding IsStrictlySortedBy
  one_ascends xs x e = subst (λ z. IsStrictlySortedBy segment_cmp (keys z)) (sym e) (tt, tt)
