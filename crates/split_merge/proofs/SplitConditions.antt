-- A split that passes the conditions before any test of two segments.
use Rattle.kit_words.proofs.Common.{◌≡◌, ℕ, ◌<◌, ◌≤◌, true, false, refl, sym, ap, ap₂, ◌∙◌, List, [], ◌∷◌, ◌++◌, Option}
use Rattle.kit_words.proofs.Common.{None, ◌⊎◌, inl, inr, arith, not, ◌&&◌, ◌==◌, nat_lt, is_some, Result, Ok, Err, OnOk}
use Rattle.kit_words.proofs.Common.{IfOk, ◌+ℤ◌, list_any, cases_lt, false≢true, Decides-eqb, nat_tests, not-true}
use Rattle.ring_machine.specs.Common.{is_distinct, Document, Feature, Text, features, feature, has_feature, is_vertex}
use Rattle.ring_machine.specs.Common.{WellFormed, Proper, Path, cut, is_cut_by, is_wrong_side, first_that, Refusal}
use Rattle.ring_machine.specs.Common.{WrongSide, TooLarge, area_of, ◌unless◌, first_of, planar, is_small, feature_at}
use Rattle.ring_machine.specs.Common.{is_layer, positions_of, is_path_segment, split_refusals}
use Rattle.ring_machine.proofs.Common.{In, has_feature-found, in_any, passes}
use Rattle.ring_machine.proofs.SplitLaws.{are_below, split_areas}
use Rattle.split_merge.specs.Common.{early_refusals}

-- what is asked of a split after that
abbrev pub late_refusals : Document → ℕ → ℕ → Text → Path → List (Option Refusal)
late_refusals d next n id path =
    planar (cut d n id path next)
    ∷ WrongSide unless not (list_any (is_wrong_side path) (first_that (is_cut_by path) (feature_at d n).polygons))
    ∷ TooLarge unless (nat_lt next 200000 && is_small (cut d n id path next))
    ∷ []

pub split_groups : (d : Document) (next n : ℕ) (id : Text) (path : Path)
    → split_refusals d next n id path ≡ early_refusals d n path ++ late_refusals d next n id path
unfolding split_refusals
split_groups d next n id path = refl

-- the conditions hold
pub record Passes (d : Document) (n : ℕ) (path : Path) : Type 0 where
  pub there : has_feature d n ≡ true
  pub collected : is_layer d n ≡ false
  pub cuts : list_any (is_cut_by path) (feature_at d n).polygons ≡ true
  pub distinct : is_distinct (positions_of path) ≡ true
  pub free : list_any (is_vertex d) path.inner ≡ false
  pub new : is_path_segment d path ≡ false

pub passed : (d : Document) (n : ℕ) (path : Path) → first_of (early_refusals d n path) ≡ None
    → Passes d n path
passed d n path h =
    let a = passes _ (has_feature d n) _ h in
    let b = passes _ (not (is_layer d n)) _ a.1 in
    let c = passes _ (list_any (is_cut_by path) (feature_at d n).polygons) _ b.1 in
    let e = passes _ (is_distinct (positions_of path)) _ c.1 in
    let f = passes _ (not (list_any (is_vertex d) path.inner)) _ e.1 in
    let g = passes _ (not (is_path_segment d path)) _ f.1 in
    record {
      there = a.0;
      collected = not-true (is_layer d n) b.0;
      cuts = c.0;
      distinct = e.0;
      free = not-true (list_any (is_vertex d) path.inner) f.0;
      new = not-true (is_path_segment d path) g.0;
    }

-- ---- areas

-- each feature's number is below one from which on no number is a feature's
numbers_below : (next : ℕ) (fs : List Feature) → ((f : Feature) → In f fs → f.number < next)
    → are_below next fs ≡ true
numbers_below next [] h = refl
numbers_below next (f ∷ fs) h =
    ap₂ (λ a b. a && b) (lt_true f.number next (h f (inl refl))) (numbers_below next fs (λ k i. h k (inr i)))
  where
    lt_true : (m n : ℕ) → m < n → nat_lt m n ≡ true
    lt_true m n h = grind (arith, nat_tests)

all_below : (d : Document) (next : ℕ) → ((m : ℕ) → next ≤ m → feature d m ≡ None)
    → are_below next (features d) ≡ true
all_below d next h = numbers_below next (features d) (λ f i. by f i (cases_lt f.number next))
  where
    by : (f : Feature) → In f (features d) → (f.number < next) ⊎ (next ≤ f.number) → f.number < next
    by f i (inl l) = l
    by f i (inr l) =
        let there = in_any (λ k. k.number == f.number) f (features d) i ((Decides-eqb f.number f.number).1 refl) in
        absurd (false≢true (sym (has_feature-found d f.number ∙ ap is_some (h f.number l)) ∙ there))

-- the areas of both features add up to that of the one that was cut
pub areas_add_up : {E : Type 0} (r : Result ℕ E) (d after : Document) (next n : ℕ) (id : Text) (path : Path)
    → WellFormed d → Proper d → ((m : ℕ) → next ≤ m → feature d m ≡ None)
    → OnOk r (first_of (split_refusals d next n id path) ≡ None) → IfOk r (λ made. made ≡ next)
    → OnOk r (after ≡ cut d n id path next)
    → IfOk r (λ made. area_of (feature_at after n) +ℤ area_of (feature_at after made) ≡ area_of (feature_at d n))
areas_add_up (Err e) d after next n id path formed proper below accepted made is = tt
areas_add_up (Ok m) d after next n id path formed proper below accepted made is =
    ap₂ (λ e k. area_of (feature_at e n) +ℤ area_of (feature_at e k)) is made
    ∙ split_areas d next n id path formed proper (all_below d next below) accepted
