-- The segments that two rings have in common: what they tell of each ring.
use Rattle.kit_words.proofs.Common.{◌≡◌, ◌+◌, Bool, true, false, refl, sym, ap, ap₂, ◌∙◌, subst, cond, List, [], ◌∷◌}
use Rattle.kit_words.proofs.Common.{length, ◌&&◌, ◌||◌, inl, inr, list_any, list_all, filter, map, reverse}
use Rattle.kit_words.proofs.Common.{reverse-reverse, not, ◌==◌, cases_Bool, arith, nat_tests}
use Rattle.grid_geometry.specs.Common.{Position, Edge, edges}
use Rattle.ring_machine.specs.Common.{edge_eq, is_common, passed_alike}
use Rattle.ring_machine.proofs.Common.{In, flip, edge_eq-true, map_there, any_there, any_mapped}
use Rattle.std.proofs.Math.Bool.{and-true, and-false, and-or_distrib_right}
use Rattle.ring_machine.proofs.JoinedRuns.{in_reverse}
use Rattle.ring_machine.proofs.Passed.{in_common, common-flip}
use Rattle.ring_parts.specs.Borders.{ends_of, is_shared, run_ends, both_ends, IsEitherWay}
use Rattle.ring_parts.proofs.Ways.{common_by_ends}
use Rattle.ring_parts.proofs.Counted.{all_mapped}

-- ---- tests of those that are kept

any_kept : {A : Type 0} (t c : A → Bool) (xs : List A) → list_any t (filter c xs) ≡ list_any (λ x. c x && t x) xs
any_kept t c [] = refl
any_kept {A} t c (x ∷ xs) = by (c x) (any_kept t c xs)
  where
    by : (b : Bool) → list_any t (filter c xs) ≡ list_any (λ y. c y && t y) xs
        → list_any t (cond b (x ∷ filter c xs) (filter c xs)) ≡ ((b && t x) || list_any (λ y. c y && t y) xs)
    by true h = ap (λ z. t x || z) h
    by false h = h

filter_there : {A : Type 0} (f g : A → Bool) (xs : List A) → ((x : A) → In x xs → f x ≡ g x) → filter f xs ≡ filter g xs
filter_there f g [] h = refl
filter_there f g (x ∷ xs) h = ap₂ (λ b ys. cond b (x ∷ ys) ys) (h x (inl refl)) (filter_there f g xs (λ y i. h y (inr i)))

-- ---- what both rings have, by the ends of segments

any_and : {A : Type 0} (t : A → Bool) (b : Bool) (xs : List A) → list_any (λ x. t x && b) xs ≡ (list_any t xs && b)
any_and t b [] = refl
any_and t b (x ∷ xs) = ap (λ c. (t x && b) || c) (any_and t b xs) ∙ sym (and-or_distrib_right (t x) (list_any t xs) b)

-- segments with the same ends are the same
same_common : (s : List Position) (e f : Edge) → edge_eq (ends_of e) (ends_of f) ≡ true → is_common s f ≡ is_common s e
same_common s e f h =
    sym (common_by_ends s f) ∙ ap (λ x. list_any (edge_eq x) (map ends_of (edges s))) (sym (edge_eq-true (ends_of e) (ends_of f) h)) ∙ common_by_ends s e

module _ (r s : List Position) where
  pub kept_by_ends : (e : Edge) → list_any (edge_eq (ends_of e)) (map ends_of (filter (is_common s) (edges r))) ≡ is_shared r s e
  unfolding is_shared
  kept_by_ends e =
      any_mapped (edge_eq (ends_of e)) ends_of (filter (is_common s) (edges r))
      ∙ any_kept (λ f. edge_eq (ends_of e) (ends_of f)) (is_common s) (edges r)
      ∙ any_there (λ f. is_common s f && edge_eq (ends_of e) (ends_of f)) (λ f. edge_eq (ends_of e) (ends_of f) && is_common s e) (edges r) (λ f i. turned f (edge_eq (ends_of e) (ends_of f)) (same_common s e f))
      ∙ any_and (λ f. edge_eq (ends_of e) (ends_of f)) (is_common s e) (edges r)
      ∙ ap (λ b. b && is_common s e) (sym (any_mapped (edge_eq (ends_of e)) ends_of (edges r)) ∙ common_by_ends r e)
    where
      turned : (f : Edge) (b : Bool) → (b ≡ true → is_common s f ≡ is_common s e) → (is_common s f && b) ≡ (b && is_common s e)
      turned f true h = and-true (is_common s f) ∙ h refl
      turned f false h = and-false (is_common s f)

  pub some_kept : list_any (λ (side : Edge). true) (map ends_of (filter (is_common s) (edges r))) ≡ list_any (is_common s) (edges r)
  some_kept =
      any_mapped (λ (side : Edge). true) ends_of (filter (is_common s) (edges r))
      ∙ any_kept (λ (f : Edge). true) (is_common s) (edges r)
      ∙ any_there (λ f. is_common s f && true) (is_common s) (edges r) (λ f i. and-true (is_common s f))

  -- ---- what they tell of the edges of each ring

  turned_in : (ring : List Position) (e : Edge) → In e (edges (reverse ring)) → is_common ring e ≡ true
  turned_in ring e i = sym (common-flip ring e) ∙ in_common ring (flip e) (subst (λ ps. In (flip e) (edges ps)) (reverse-reverse ring) (in_reverse (reverse ring) e i))

  own : (ring ps : List Position) → IsEitherWay ring ps → (e : Edge) → In e (edges ps) → is_common ring e ≡ true
  own ring ps (inl h) e i = in_common ring e (subst (λ qs. In e (edges qs)) h i)
  own ring ps (inr h) e i = turned_in ring e (subst (λ qs. In e (edges qs)) h i)

  of_first : (ps : List Position) → IsEitherWay r ps → (e : Edge) → In e (edges ps) → is_shared r s e ≡ is_common s e
  unfolding is_shared
  of_first ps w e i = ap (λ b. b && is_common s e) (own r ps w e i)

  of_second : (ps : List Position) → IsEitherWay s ps → (e : Edge) → In e (edges ps) → is_shared r s e ≡ is_common r e
  unfolding is_shared
  of_second ps w e i = ap (λ b. is_common r e && b) (own s ps w e i) ∙ and-true (is_common r e)

  pub first_tests : map (is_shared r s) (edges r) ≡ map (is_common s) (edges r)
  first_tests = map_there (is_shared r s) (is_common s) (edges r) (of_first r (inl refl))

  pub second_tests : (ps : List Position) → IsEitherWay s ps → map (is_shared r s) (edges ps) ≡ map (is_common r) (edges ps)
  second_tests ps w = map_there (is_shared r s) (is_common r) (edges ps) (of_second ps w)

  pub first_ends : run_ends (is_shared r s) (edges r) ≡ run_ends (is_common s) (edges r)
  first_ends = ap both_ends (filter_there (is_shared r s) (is_common s) (edges r) (of_first r (inl refl)))

  -- an edge of both is among those of the one whose segments both have
  pub alike_kept : (ps qs : List Position) → IsEitherWay r ps → IsEitherWay s qs
      → list_any (λ e. list_any (edge_eq e) (filter (is_shared r s) (edges qs))) (edges ps) ≡ passed_alike ps qs
  alike_kept ps qs v w = any_there (λ e. list_any (edge_eq e) (filter (is_shared r s) (edges qs))) (λ e. list_any (edge_eq e) (edges qs)) (edges ps)
      (λ e i. any_kept (edge_eq e) (is_shared r s) (edges qs) ∙ any_there (λ f. is_shared r s f && edge_eq e f) (edge_eq e) (edges qs) (λ f j. both e f i j (edge_eq e f) refl))
    where
      both : (e f : Edge) → In e (edges ps) → In f (edges qs) → (b : Bool) → edge_eq e f ≡ b → (is_shared r s f && b) ≡ b
      both e f i j false h = and-false (is_shared r s f)
      both e f i j true h = and-true (is_shared r s f) ∙ of_second qs w f j ∙ ap (is_common r) (sym (edge_eq-true e f h)) ∙ own r ps v e i

  pub first_all : (bs : List Bool) → bs ≡ map (is_shared r s) (edges r) → list_all (λ b. b) bs ≡ list_all (is_common s) (edges r)
  first_all bs h = ap (list_all (λ b. b)) (h ∙ first_tests) ∙ all_mapped (is_common s) (edges r)

  pub second_all : (bs : List Bool) → bs ≡ map (is_shared r s) (edges s) → list_all (λ b. b) bs ≡ list_all (is_common r) (edges s)
  second_all bs h = ap (list_all (λ b. b)) (h ∙ second_tests s (inl refl)) ∙ all_mapped (is_common r) (edges s)

pub some_here : {A : Type 0} (xs : List A) → not (length xs == 0) ≡ list_any (λ (x : A). true) xs
some_here [] = refl
some_here (x ∷ xs) = elim (cases_Bool (length (x ∷ xs) == 0)) [
  | inl t ↦ let k : length xs + 1 ≡ 0 = grind (arith, nat_tests) in absurd (omega arith)
  | inr f ↦ ap not f
]

pub turned_way : (ring : List Position) (b : Bool) → IsEitherWay ring (cond b (reverse ring) ring)
turned_way ring true = inr refl
turned_way ring false = inl refl
