-- Lists with some elements left out.
use Rattle.kit_words.proofs.Common.{◌≡◌, ℕ, Bool, true, false, refl, sym, ap, ap₂, ◌∙◌, subst, cond, List, [], ◌∷◌}
use Rattle.kit_words.proofs.Common.{◌++◌, map, ◌&&◌, inl, inr, None, ◌==◌, not, list_any, list_all, filter, flat_map}
use Rattle.kit_words.proofs.Common.{reduce, false≢true, and_parts, not-true}
use Rattle.grid_geometry.specs.Common.{Segment, segment_lt, conflict}
use Rattle.ring_machine.specs.Common.{pair_lt, conflicts, least_conflict, are_distinct}
use Rattle.ring_machine.proofs.First.{In}
use Rattle.ring_machine.proofs.Members.{any_in, in_any}

-- the first list is the second with some elements left out
pub data IsPart {A : Type 0} : List A → List A → Type 0 where
  none : IsPart [] []
  skip : {x : A} {xs ys : List A} → IsPart xs ys → IsPart xs (x ∷ ys)
  keep : {x : A} {xs ys : List A} → IsPart xs ys → IsPart (x ∷ xs) (x ∷ ys)

module _ {A : Type 0} where
  pub part_whole : (xs : List A) → IsPart xs xs
  part_whole [] = none
  part_whole (x ∷ xs) = keep (part_whole xs)

  pub part_behind : (us : List A) {xs ys : List A} → IsPart xs ys → IsPart xs (us ++ ys)
  part_behind [] p = p
  part_behind (u ∷ us) p = skip (part_behind us p)

  pub part_append : {xs ys us vs : List A} → IsPart xs ys → IsPart us vs → IsPart (xs ++ us) (ys ++ vs)
  part_append none q = q
  part_append (skip p) q = skip (part_append p q)
  part_append (keep p) q = keep (part_append p q)

  pub part_empty : {xs : List A} → IsPart xs [] → xs ≡ []
  part_empty none = refl

  pub part_filter : (test : A → Bool) (xs : List A) → IsPart (filter test xs) xs
  part_filter test [] = none
  part_filter test (x ∷ xs) = by (test x) (part_filter test xs)
    where
      by : (b : Bool) → IsPart (filter test xs) xs
          → IsPart (cond b (x ∷ filter test xs) (filter test xs)) (x ∷ xs)
      by true p = keep p
      by false p = skip p

  pub part_filtered : (test : A → Bool) {xs ys : List A} → IsPart xs ys
      → IsPart (filter test xs) (filter test ys)
  part_filtered test none = none
  part_filtered test (skip {x} {xs} {ys} p) = by (test x) (part_filtered test p)
    where
      by : (b : Bool) → IsPart (filter test xs) (filter test ys)
          → IsPart (filter test xs) (cond b (x ∷ filter test ys) (filter test ys))
      by true q = skip q
      by false q = q
  part_filtered test (keep {x} {xs} {ys} p) = by (test x) (part_filtered test p)
    where
      by : (b : Bool) → IsPart (filter test xs) (filter test ys)
          → IsPart (cond b (x ∷ filter test xs) (filter test xs)) (cond b (x ∷ filter test ys) (filter test ys))
      by true q = keep q
      by false q = q

  -- ---- what holds of the whole

  pub part_in : (a : A) {xs ys : List A} → IsPart xs ys → In a xs → In a ys
  part_in a none i = i
  part_in a (skip p) i = inr (part_in a p i)
  part_in a (keep p) (inl e) = inl e
  part_in a (keep p) (inr i) = inr (part_in a p i)

  pub part_all : (test : A → Bool) {xs ys : List A} → IsPart xs ys → list_all test ys ≡ true
      → list_all test xs ≡ true
  part_all test none h = h
  part_all test (skip {x} {xs} {ys} p) h = part_all test p (and_parts (test x) (list_all test ys) h).1
  part_all test (keep {x} {xs} {ys} p) h =
      let h' = and_parts (test x) (list_all test ys) h in
      ap₂ (λ y z. y && z) h'.0 (part_all test p h'.1)

  pub part_any : (test : A → Bool) (xs ys : List A) → IsPart xs ys → list_any test xs ≡ true
      → list_any test ys ≡ true
  part_any test xs ys p h =
      let k = any_in test xs h in in_any test k.0 ys (part_in k.0 p k.1) k.2

module _ {A B : Type 0} where
  pub part_map : (f : A → B) {xs ys : List A} → IsPart xs ys → IsPart (map f xs) (map f ys)
  part_map f none = none
  part_map f (skip p) = skip (part_map f p)
  part_map f (keep p) = keep (part_map f p)

  pub part_flat_maps : (f g : A → List B) → ((x : A) → IsPart (f x) (g x)) → {xs ys : List A}
      → IsPart xs ys → IsPart (flat_map f xs) (flat_map g ys)
  part_flat_maps f g h none = none
  part_flat_maps f g h (skip {x} p) = part_behind (g x) (part_flat_maps f g h p)
  part_flat_maps f g h (keep {x} p) = part_append (h x) (part_flat_maps f g h p)

  pub part_flat_map : (f : A → List B) {xs ys : List A} → IsPart xs ys
      → IsPart (flat_map f xs) (flat_map f ys)
  part_flat_map f p = part_flat_maps f f (λ x. part_whole (f x)) p

pub part_distinct : {xs ys : List ℕ} → IsPart xs ys → are_distinct ys ≡ true → are_distinct xs ≡ true
part_distinct none h = h
part_distinct (skip {x} {xs} {ys} p) h =
    part_distinct p (and_parts (not (list_any (λ m. m == x) ys)) (are_distinct ys) h).1
part_distinct (keep {x} {xs} {ys} p) h =
    let h' = and_parts (not (list_any (λ m. m == x) ys)) (are_distinct ys) h in
    ap₂ (λ y z. not y && z) (none_of (list_any (λ m. m == x) xs) refl (not-true _ h'.0)) (part_distinct p h'.1)
  where
    none_of : (b : Bool) → list_any (λ m. m == x) xs ≡ b → list_any (λ m. m == x) ys ≡ false
        → list_any (λ m. m == x) xs ≡ false
    none_of true e k = absurd (false≢true (sym k ∙ part_any (λ m. m == x) xs ys p e))
    none_of false e k = e

-- ---- segments

reduce_none : {A : Type 0} (f : A → A → A) (xs : List A) → reduce f xs ≡ None → xs ≡ []
reduce_none f [] e = refl
reduce_none f (x ∷ xs) e = absurd cc

part_conflicts : {ss ts : List Segment} → IsPart ss ts → IsPart (conflicts ss) (conflicts ts)
part_conflicts {ss} {ts} p =
    part_flat_maps (λ s. map (λ t. (s, t)) (filter (λ t. segment_lt s t && conflict s t) ss))
    (λ s. map (λ t. (s, t)) (filter (λ t. segment_lt s t && conflict s t) ts))
    (λ s. part_map (λ t. (s, t)) (part_filtered (λ t. segment_lt s t && conflict s t) p)) p

-- where no two segments conflict, no two of some of them do
pub part_apart : (ss ts : List Segment) → IsPart ss ts → least_conflict ts ≡ None
    → least_conflict ss ≡ None
part_apart ss ts p h =
    let all : conflicts ts ≡ [] = reduce_none (λ u v. cond (pair_lt v u) v u) (conflicts ts) h in
    let some : conflicts ss ≡ [] = part_empty (subst (IsPart (conflicts ss)) all (part_conflicts p)) in
    ap (reduce (λ u v. cond (pair_lt v u) v u)) some
