-- A document whose feature n is cut: its features, and the accepted conditions.
use Rattle.kit_words.proofs.Common.{◌≡◌, ℕ, Bool, true, false, refl, sym, ap, ◌∙◌, List, [], ◌∷◌, ◌++◌, Option, None}
use Rattle.kit_words.proofs.Common.{Some, not, ◌==◌, nat_lt, list_any, AllByRecursion, and_parts, not-true}
use Rattle.ring_machine.specs.Common.{is_distinct, Document, Feature, Text, features, feature, has_feature, is_vertex}
use Rattle.ring_machine.specs.Common.{WellFormed, first_pair, Path, cut, stays, parted, is_cut_by, is_wrong_side}
use Rattle.ring_machine.specs.Common.{first_that, Refusal, ◌unless◌, first_of, planar, conflict_of, is_small, is_layer}
use Rattle.ring_machine.specs.Common.{feature_at, or_else, no_feature, positions_of, is_path_segment, split_refusals}
use Rattle.ring_machine.proofs.Members.{there}
use Rattle.ring_machine.proofs.Found.{has_feature-found, feature_stands}
use Rattle.ring_machine.proofs.Instead.{features-instead_at}
use Rattle.ring_machine.proofs.Steps.{cut-is}
use Rattle.ring_machine.proofs.SplitFeatures.{SplitFeature, split_feature, new_feature}

-- ---- what no refusal says

none_first : (rs : List (Option Refusal)) → first_of rs ≡ None → AllByRecursion (λ r. r ≡ None) rs
none_first [] h = tt
none_first (None ∷ rs) h = (refl, none_first rs h)
none_first (Some r ∷ rs) h = absurd cc

holds : (r : Refusal) (b : Bool) → r unless b ≡ None → b ≡ true
holds r true h = refl
holds r false h = absurd cc

no_conflict : (d : Document) → planar d ≡ None → first_pair d ≡ None
no_conflict d h = by (first_pair d) h
  where
    by : (o : _) → conflict_of o ≡ None → o ≡ None
    by None k = refl
    by (Some pair) k = absurd cc

-- the conditions of a split
pub record SplitAccepted (d : Document) (next n : ℕ) (id : Text) (path : Path) : Type 0 where
  pub there : has_feature d n ≡ true
  pub collected : is_layer d n ≡ false
  pub cuts : list_any (is_cut_by path) (feature_at d n).polygons ≡ true
  pub distinct : is_distinct (positions_of path) ≡ true
  pub free : list_any (is_vertex d) path.inner ≡ false
  pub new : is_path_segment d path ≡ false
  pub apart : first_pair (cut d n id path next) ≡ None
  pub sides : list_any (is_wrong_side path) (first_that (is_cut_by path) (feature_at d n).polygons) ≡ false
  pub numbers_left : nat_lt next 200000 ≡ true
  pub small : is_small (cut d n id path next) ≡ true

pub split-accepted : (d : Document) (next n : ℕ) (id : Text) (path : Path)
    → first_of (split_refusals d next n id path) ≡ None → SplitAccepted d next n id path
unfolding split_refusals
split-accepted d next n id path h =
    let all = none_first (split_refusals d next n id path) h in
    let polygons = (feature_at d n).polygons in
    let limits = and_parts (nat_lt next 200000) (is_small (cut d n id path next)) (holds _ _ all.1.1.1.1.1.1.1.1.0) in
    record {
      there = holds _ (has_feature d n) all.0;
      collected = not-true _ (holds _ (not (is_layer d n)) all.1.0);
      cuts = holds _ (list_any (is_cut_by path) polygons) all.1.1.0;
      distinct = holds _ (is_distinct (positions_of path)) all.1.1.1.0;
      free = not-true _ (holds _ (not (list_any (is_vertex d) path.inner)) all.1.1.1.1.0);
      new = not-true _ (holds _ (not (is_path_segment d path)) all.1.1.1.1.1.0);
      apart = no_conflict (cut d n id path next) all.1.1.1.1.1.1.0;
      sides = not-true _ (holds _ (not (list_any (is_wrong_side path) (first_that (is_cut_by path) polygons))) all.1.1.1.1.1.1.1.0);
      numbers_left = limits.0;
      small = limits.1;
    }

-- ---- the document

-- the feature that is cut, and the features after the cut
pub record SplitDocument (d : Document) (next n : ℕ) (id : Text) (path : Path) : Type 0 where
  pub before : List Feature
  pub old : Feature
  pub after : List Feature
  pub is : features d ≡ before ++ old ∷ after
  pub others : list_any (λ f. f.number == n) before ≡ false
  pub number : old.number ≡ n
  pub found : feature_at d n ≡ old
  pub split : SplitFeature path next id old
  pub result : features (cut d n id path next)
      ≡ before ++ stays path old ∷ new_feature path next id old (split.outer ∷ split.holes) ∷ after

pub split_document : (d : Document) (next n : ℕ) (id : Text) (path : Path) → WellFormed d
    → has_feature d n ≡ true → list_any (is_cut_by path) (feature_at d n).polygons ≡ true
    → SplitDocument d next n id path
split_document d next n id path formed has cuts =
    let f = there (feature d n) (sym (has_feature-found d n) ∙ has) in
    let place = feature_stands d formed n f.0 f.1 in
    let found : feature_at d n ≡ f.0 = ap (or_else no_feature) f.1 in
    let split = split_feature path next id f.0 (ap (λ z. list_any (is_cut_by path) z.polygons) (sym found) ∙ cuts) in
    record {
      before = place.us;
      old = f.0;
      after = place.vs;
      is = place.is;
      others = place.none_before;
      number = place.number;
      found = found;
      split = split;
      result = ap features (cut-is d n id path next)
          ∙ features-instead_at d n (λ f. stays path f ∷ parted path next id f) f.0 place
          ∙ ap (λ z. place.us ++ (stays path f.0 ∷ (z ++ place.vs))) split.parted_is;
    }

-- an accepted split cuts a feature
pub accepted_split : (d : Document) (next n : ℕ) (id : Text) (path : Path) → WellFormed d
    → first_of (split_refusals d next n id path) ≡ None → SplitDocument d next n id path
accepted_split d next n id path formed h =
    let a = split-accepted d next n id path h in
    split_document d next n id path formed a.there a.cuts

-- the new feature
abbrev pub new_one : (d : Document) (next n : ℕ) (id : Text) (path : Path)
    → SplitDocument d next n id path → Feature
new_one d next n id path s = new_feature path next id s.old (s.split.outer ∷ s.split.holes)
