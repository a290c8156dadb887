-- What a merge without a refusal gives: two features of one polygon each, whose outer rings can be joined.
use Rattle.kit_words.proofs.Common.{◌≡◌, ◌≤◌, ℕ, Bool, true, false, refl, sym, ap₂, ◌∙◌, List, [], ◌∷◌, ◌&&◌, Option}
use Rattle.kit_words.proofs.Common.{None, Some, eqb-true, arith, ◌==◌, not, nat_le, list_any, find, and_parts, not-true}
use Rattle.grid_geometry.specs.Common.{Position, edges}
use Rattle.ring_machine.specs.Common.{Document, Feature, features, feature, has_feature, is_common, runs, common_else}
use Rattle.ring_machine.specs.Common.{same_side, Refusal, CommonElse, ◌unless◌, first_of, outer_of, ring_refusals}
use Rattle.ring_machine.specs.Common.{merge_refusals, or_else, no_feature}
use Rattle.ring_machine.proofs.First.{In}
use Rattle.ring_machine.proofs.Members.{there}
use Rattle.ring_machine.proofs.Found.{any_found, found_in}

-- a common segment, one run of them, no other common position, and areas on both sides of the run
pub record Joinable (r s : List Position) : Type 0 where
  pub some : list_any (is_common s) (edges r) ≡ true
  pub one : runs (is_common s) (edges r) ≤ 1
  pub none_else : common_else r s ≡ None
  pub sides : same_side r s ≡ false

-- ---- no refusal: each condition holds

pub passes : (r : Refusal) (b : Bool) (rest : List (Option Refusal))
    → first_of (r unless b ∷ rest) ≡ None → (b ≡ true) × (first_of rest ≡ None)
passes r true rest h = (refl, h)
passes r false rest h = absurd cc

abbrev pub elsewhere : Option Position → Option Refusal
elsewhere None = None
elsewhere (Some p) = Some (CommonElse p)

nothing_else : (o : Option Position) (rest : List (Option Refusal))
    → first_of (elsewhere o ∷ rest) ≡ None → (o ≡ None) × (first_of rest ≡ None)
nothing_else None rest h = (refl, h)
nothing_else (Some p) rest h = absurd cc

pub joinable : (r s : List Position) → first_of (ring_refusals (Some r) (Some s)) ≡ None
    → Joinable r s
joinable r s h =
    let a = passes _ (list_any (is_common s) (edges r)) _ h in
    let b = passes _ (nat_le (runs (is_common s) (edges r)) 1) _ a.1 in
    let c = nothing_else (common_else r s) _ b.1 in
    let d = passes _ (not (same_side r s)) _ c.1 in
    record { some = a.0; one = at_most (runs (is_common s) (edges r)) b.0; none_else = c.0; sides = not-true (same_side r s) d.0 }
  where
    at_most : (n : ℕ) → nat_le n 1 ≡ true → n ≤ 1
    at_most n h = grind arith

-- ---- features of one polygon

-- the outer ring of the only polygon
abbrev only : List (List (List Position)) → Option (List Position)
only ((outer ∷ holes) ∷ []) = Some outer
only _ = None

alone : (ps : List (List (List Position))) (r : List Position) → only ps ≡ Some r
    → (holes : List (List Position)) × (ps ≡ (r ∷ holes) ∷ [])
alone [] r h = absurd cc
alone ([] ∷ ps) r h = absurd cc
alone ((outer ∷ holes) ∷ []) r h = (holes, cc)
alone ((outer ∷ holes) ∷ p ∷ ps) r h = absurd cc

-- two features of one polygon each
pub record Pair (f g : Feature) : Type 0 where
  pub r : List Position
  pub holes : List (List Position)
  pub s : List Position
  pub more : List (List Position)
  pub first : f.polygons ≡ (r ∷ holes) ∷ []
  pub second : g.polygons ≡ (s ∷ more) ∷ []
  pub joins : Joinable r s

pub pair : (f g : Feature) → first_of (ring_refusals (outer_of f) (outer_of g)) ≡ None → Pair f g
pair f g h = by (outer_of f) (outer_of g) refl refl h
  where
    by : (o p : Option (List Position)) → only f.polygons ≡ o → only g.polygons ≡ p
        → first_of (ring_refusals o p) ≡ None → Pair f g
    by None p a b k = absurd cc
    by (Some r) None a b k = absurd cc
    by (Some r) (Some s) a b k =
        let x = alone f.polygons r a in
        let y = alone g.polygons s b in
        record { r = r; holes = x.0; s = s; more = y.0; first = x.1; second = y.1; joins = joinable r s k }

-- ---- the features of a merge

-- the first feature with this number
pub found : (n : ℕ) (fs : List Feature) → list_any (λ f. f.number == n) fs ≡ true
    → (f : Feature) × (find (λ f. f.number == n) fs ≡ Some f) × In f fs × (f.number ≡ n)
found n fs h =
    let k = there (find (λ f. f.number == n) fs) (sym (any_found (λ f. f.number == n) fs) ∙ h) in
    let i = found_in (λ f. f.number == n) fs k.0 k.1 in
    (k.0, k.1, i.0, eqb-true k.0.number n i.1)

pub record MergeAccepted (d : Document) (n m : ℕ) : Type 0 where
  pub first : Feature
  pub second : Feature
  pub first_is : feature d n ≡ Some first
  pub second_is : feature d m ≡ Some second
  pub first_in : In first (features d)
  pub second_in : In second (features d)
  pub first_number : first.number ≡ n
  pub second_number : second.number ≡ m
  pub differ : (n == m) ≡ false
  pub pair_is : Pair first second

pub merge-accepted : (d : Document) (n m : ℕ) → first_of (merge_refusals d n m) ≡ None
    → MergeAccepted d n m
unfolding merge_refusals
merge-accepted d n m h =
    let a = passes _ (has_feature d n && has_feature d m) _ h in
    let b = passes _ (not (n == m)) _ a.1 in
    let both = and_parts (has_feature d n) (has_feature d m) a.0 in
    let f = found n (features d) both.0 in
    let g = found m (features d) both.1 in
    record {
      first = f.0;
      second = g.0;
      first_is = f.1;
      second_is = g.1;
      first_in = f.2;
      second_in = g.2;
      first_number = f.3;
      second_number = g.3;
      differ = not-true (n == m) b.0;
      pair_is = pair f.0 g.0 (ap₂ (λ x y. first_of (ring_refusals (outer_of (or_else no_feature x)) (outer_of (or_else no_feature y)))) (sym f.1) (sym g.1) ∙ b.1);
    }
