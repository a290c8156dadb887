-- A border that is written, with those behind it in the list.
use Rattle.kit_words.proofs.Common.{◌≡◌, ℕ, ◌+◌, ◌<◌, refl, sym, ap, ap₂, ◌∙◌, subst, arith, List}
use Rattle.kit_words.proofs.Common.{◌∷◌, ◌++◌, map, take, drop, length, get_or, set, inl, inr, take-append-drop, drop_more}
use Rattle.kit_words.proofs.Common.{map-set, set-get_or, get_or-map, get_or_default, get_or-set_same, get_or-set_other, IsStrictlySortedBy}
use Rattle.std.specs.Ordering.{nat_cmp}
use Rattle.grid_geometry.specs.Common.{xor}
use Rattle.ring_machine.proofs.Common.{In, in-append, in_contains, in_at}
use Rattle.layer_sides.specs.Borders.{Bordering}
use Rattle.layer_sides.specs.Sweep.{has_number}
use Rattle.layer_sides.specs.Under.{AreApartFrom, AreNumbered, AreOddOf, Rewrites, border_at, borders_at}
use Rattle.layer_sides.specs.Under.{times, with_right}
use Rattle.layer_sides.proofs.Numbering.{same_borders}
use Rattle.layer_sides.proofs.Places.{in_times, times-append, times_itself}

-- ---- with other numbers for the right side

set_same : {A : Type 0} (f : Bordering → A) (bs : List Bordering) (i : ℕ) (numbers : List ℕ) → i < length bs
    → f (with_right (border_at bs i) numbers) ≡ f (border_at bs i)
    → map f (set bs i (with_right (border_at bs i) numbers)) ≡ map f bs
set_same f bs i numbers l e =
    map-set f bs i (with_right (border_at bs i) numbers)
    ∙ ap (λ y. set (map f bs) i y) (e ∙ sym (get_or-map f bs i _ (f (border_at bs i)) l))
    ∙ set-get_or (map f bs) i (f (border_at bs i))

module _ (first : List Bordering) (begun behind : List ℕ) (apart : AreApartFrom behind begun) (bs : List Bordering) (k : ℕ)
    (within : k < length begun) (known : Rewrites begun first bs) (numbers : List ℕ)
    (below : get_or begun k 0 < length bs)
    (numbered : AreNumbered (borders_at bs (drop (k + 1) begun ++ behind)))
    (odd : AreOddOf (borders_at bs (drop (k + 1) begun ++ behind)) numbers) where
  abbrev i : ℕ
  i = get_or begun k 0

  abbrev after : List Bordering
  after = set bs i (with_right (border_at bs i) numbers)

  begun_is : begun ≡ take k begun ++ i ∷ drop (k + 1) begun
  begun_is = sym (take-append-drop k begun) ∙ ap (λ ks. take k begun ++ ks) (drop_more begun k 0 within)

  among : In i begun
  among = subst (λ z. In z begun) (get_or_default begun k i 0 within) (in_at begun k i within)

  at_new : border_at after i ≡ with_right (border_at bs i) numbers
  at_new = get_or-set_same bs i (with_right (border_at bs i) numbers) _ below

  at_other : (j : ℕ) → (j ≡ i → ⊥) → border_at after j ≡ border_at bs j
  at_other j h = get_or-set_other bs i j (with_right (border_at bs i) numbers) _ h

  -- the place stands among those behind it no more
  not_later : In i (drop (k + 1) begun) → ⊥
  not_later h =
      let once = (apart i (in_contains begun i among)).0 in
      let parts = ap (times i) begun_is ∙ times-append i (take k begun) (i ∷ drop (k + 1) begun) in
      let itself = times_itself i (drop (k + 1) begun) in
      let some = in_times i (drop (k + 1) begun) h in
      omega (arith, once, parts, itself, some)

  not_behind : In i behind → ⊥
  not_behind h =
      let none = (apart i (in_contains begun i among)).1 in
      let some = in_times i behind h in
      omega (arith, none, some)

  others_same : borders_at after (drop (k + 1) begun ++ behind) ≡ borders_at bs (drop (k + 1) begun ++ behind)
  others_same =
      same_borders bs after (drop (k + 1) begun ++ behind)
      (λ j h. at_other j (λ e. elim (in-append j (drop (k + 1) begun) behind h) [
        | inl m ↦ not_later (subst (λ z. In z (drop (k + 1) begun)) e m)
        | inr m ↦ not_behind (subst (λ z. In z behind) e m)
      ]))

  from_k : borders_at after (drop k begun ++ behind) ≡ with_right (border_at bs i) numbers ∷ borders_at bs (drop (k + 1) begun ++ behind)
  from_k = ap (λ ks. borders_at after (ks ++ behind)) (drop_more begun k 0 within) ∙ ap₂ (λ b cs. b ∷ cs) at_new others_same

  pub numbered_more : AreNumbered (borders_at after (drop k begun ++ behind))
  numbered_more = subst AreNumbered (sym from_k) (odd, numbered)

  pub odd_more : (found : List ℕ) → ((n : ℕ) → has_number n found ≡ xor (has_number n (border_at bs i).bounds) (has_number n numbers))
      → IsStrictlySortedBy nat_cmp found → AreOddOf (borders_at after (drop k begun ++ behind)) found
  odd_more found either sorted =
      subst (λ cs. AreOddOf cs found) (sym from_k) (record {
        odd = λ n. either n ∙ ap (xor (has_number n (border_at bs i).bounds)) (odd.odd n);
        sorted = sorted;
      })

  pub rewrites_more : Rewrites begun first after
  rewrites_more = record {
    segments = set_same (λ b. b.segment) bs i numbers below refl ∙ known.segments;
    bounds = set_same (λ b. b.bounds) bs i numbers below refl ∙ known.bounds;
    others = λ j h. at_other j (λ e. absurd (not_among j e h)) ∙ known.others j h;
  }
    where
      not_among : (j : ℕ) → j ≡ i → times j begun ≡ 0 → ⊥
      not_among j e h =
          let some = in_times j begun (subst (λ z. In z begun) (sym e) among) in
          omega (arith, some, h)
