-- How often common edges begin, a step at a time.
use Rattle.kit_words.proofs.Common.{◌≡◌, ℕ, ◌+◌, ◌<◌, ◌≤◌, Bool, true, false, refl, sym, ap, ◌∙◌, cond, List, [], ◌∷◌}
use Rattle.kit_words.proofs.Common.{◌++◌, map, length, drop, get_or, drop_of_length-le, ◌&&◌, arith, not, zip, count_by}
use Rattle.kit_words.proofs.Common.{list_all, at_drop_more, map-append, sum_by-cons}
use Rattle.grid_geometry.specs.Common.{Edge}
use Rattle.ring_machine.specs.Common.{neighbour_edges, runs}
use Rattle.ring_parts.specs.Common.{begins}

-- how often one begins, from a test over those that are left to the first
abbrev pub left_begins : Bool → List Bool → Bool → ℕ
left_begins b bs z = count_by (λ u. not u.0 && u.1) (zip (b ∷ bs) (bs ++ z ∷ []))

count_cons : {A : Type 0} (p : A → Bool) (x : A) (xs : List A) → count_by p (x ∷ xs) ≡ cond (p x) 1 0 + count_by p xs
count_cons p x xs = simp sum_by-cons

pub begins_here : (b : Bool) (rest : List Bool) (i : ℕ) (z c : Bool) → i < length rest → c ≡ get_or rest i c → left_begins b (drop i rest) z ≡ cond (not b && c) 1 0 + left_begins c (drop (i + 1) rest) z
begins_here b rest i z c l e = at_drop_more (λ bs. left_begins b bs z) rest i c l ∙ ap (λ d. left_begins b (d ∷ drop (i + 1) rest) z) (sym e)
    ∙ count_cons (λ u. not u.0 && u.1) (b, c) (zip (c ∷ drop (i + 1) rest) (drop (i + 1) rest ++ z ∷ []))

pub begins_last : (b : Bool) (rest : List Bool) (i : ℕ) (z : Bool) → length rest ≤ i → left_begins b (drop i rest) z ≡ cond (not b && z) 1 0
begins_last b rest i z l = ap (λ bs. left_begins b bs z) (drop_of_length-le rest l) ∙ nothing_more (not b && z)
  where
    nothing_more : (t : Bool) → 0 + cond t 1 0 ≡ cond t 1 0
    nothing_more t = omega arith

pub ruleset steps = (begins_here, begins_last)

-- ---- runs by tests

module _ (test : Edge → Bool) where
  zipped : (es fs : List Edge) → count_by (λ u. not (test u.0) && test u.1) (zip es fs) ≡ count_by (λ u. not u.0 && u.1) (zip (map test es) (map test fs))
  zipped [] fs = refl
  zipped (e ∷ es) [] = refl
  zipped (e ∷ es) (f ∷ fs) =
      count_cons (λ u. not (test u.0) && test u.1) (e, f) (zip es fs)
      ∙ ap (λ n. cond (not (test e) && test f) 1 0 + n) (zipped es fs)
      ∙ sym (count_cons (λ u. not u.0 && u.1) (test e, test f) (zip (map test es) (map test fs)))

  pub begins_are : (es : List Edge) → count_by (λ u. not (test u.0) && test u.1) (neighbour_edges es) ≡ begins (map test es)
  begins_are [] = refl
  begins_are (e ∷ es) = zipped (e ∷ es) (es ++ e ∷ []) ∙ ap (λ bs. count_by (λ u. not u.0 && u.1) (zip (map test (e ∷ es)) bs)) (map-append test es (e ∷ []))

pub all_mapped : {A : Type 0} (test : A → Bool) (xs : List A) → list_all (λ (b : Bool). b) (map test xs) ≡ list_all test xs
all_mapped test [] = refl
all_mapped test (x ∷ xs) = ap (λ b. test x && b) (all_mapped test xs)

-- all edges are one run
pub one_run : (test : Edge → Bool) (es : List Edge) → list_all (λ (b : Bool). b) (map test es) ≡ true → 1 ≡ runs test es
one_run test es h = sym (ap (λ b. cond b 1 (count_by (λ u. not (test u.0) && test u.1) (neighbour_edges es))) (sym (all_mapped test es) ∙ h))

-- else there is one for each that begins
pub some_runs : (test : Edge → Bool) (es : List Edge) → list_all (λ (b : Bool). b) (map test es) ≡ false → begins (map test es) ≡ runs test es
some_runs test es h = sym (ap (λ b. cond b 1 (count_by (λ u. not (test u.0) && test u.1) (neighbour_edges es))) (sym (all_mapped test es) ∙ h) ∙ begins_are test es)
