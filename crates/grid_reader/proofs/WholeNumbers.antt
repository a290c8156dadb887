-- Whole numbers as the editor reads them, and in units of 10^-24 as they are read and put on a grid.
use Rattle.kit_words.proofs.Common.{◌≡◌, ℕ, suc, ◌+◌, ◌-◌, ◌*◌, ◌<◌, ◌≤◌, ◌^◌, ◌%◌, ◌/◌, arith, Bool, true, false, ◌&&◌}
use Rattle.kit_words.proofs.Common.{List, [], ◌∷◌, length, map, take, refl, sym, ap, ap₂, ◌∙◌, ℤ, pos, negsuc, ◌+ℤ◌}
use Rattle.kit_words.proofs.Common.{◌*ℤ◌, unsigned_abs, Option, Some, None, Result, Ok, Err, is_ok, nat_le}
use Rattle.kit_words.proofs.Common.{int_div_euclid, list_all, fold, flat_map, nat_tests, ints, unsigned_abs-mul}
use Rattle.kit_words.proofs.Common.{map-append, fold-append, and_parts, le-leb, lt-leb, leb-true, and_none}
use Rattle.kit_words.proofs.Common.{◌++◌, ◌==◌, not, filter, filter-append}
use Rattle.json_spans.specs.Common.{is_digit, digits, IsValue, IsNumber, kind_from, kind_of, Node, items, IsWhole}
use Rattle.json_spans.specs.Common.{plain, negative, whole_of}
use Rattle.json_spans.specs.declared.kinds.Kind.TheVariants as kind
use Rattle.json_spans.specs.declared.number.NotWhole.{NotWhole}
use Rattle.json_spans.proofs.Common.{number_kind, whole_read, items_told, item_values, number_told}
use Rattle.grid_geometry.specs.Position.{Position, position as placed, InRange}
use Rattle.topo_outline.specs.Common.{not_whole, out_of_range, bad_position, ◌>>=◌, is_list, is_number}
use Rattle.topo_outline.proofs.Common.{is_a_list}
use Rattle.topo_reader.specs.Common.{Arc, IsSum}
use Rattle.topo_reader.specs.Positions as editor
use Rattle.topo_reader.proofs.Common.{bind_ok, demand_ok, ok_same}
use Rattle.topo_reader.proofs.MeaningOfArcs.{small_step}
use Rattle.decimal_texts.specs.Common.{Parts, parts_of, fine, decimals, rounded, is_rounded}
use Rattle.decimal_texts.proofs.Wholes.{whole_has_parts, whole_is_fine}
use Rattle.decimal_texts.proofs.Zeros.{zeros_all}
use Rattle.grid_reader.specs.Common.{Wants, FinePosition, fits_finer_grid, fine_sum, fine_coordinate, first_two_of, fine_pair_of, fine_pair}
use Rattle.grid_reader.specs.Common.{fine_position, xy, coordinates, greater, greatest_from, most_decimals, smaller}
use Rattle.grid_reader.specs.Common.{fitting, furthest, furthest_of_all, decimals_kept, position_on_grid, arcs_on, finer_by, has_further, is_whole_number}
use Rattle.grid_reader.specs.Common.{has_wholes, is_moved}

-- ---- whole numbers in units

abbrev pub in_units : ℤ → ℤ
in_units z = z *ℤ pos (10 ^ 24)

abbrev pub scaled : Position → FinePosition
scaled p = record { x = in_units p.x; y = in_units p.y }

abbrev pub arcs_scaled : List Arc → List (List FinePosition)
arcs_scaled found = map (map scaled) found

units_sum : (y z : ℤ) → in_units y +ℤ in_units z ≡ in_units (y +ℤ z)
units_sum (pos m) (pos n) = omega (arith, ints)
units_sum (pos m) (negsuc n) = omega (arith, ints)
units_sum (negsuc m) (pos n) = omega (arith, ints)
units_sum (negsuc m) (negsuc n) = omega (arith, ints)

same_bound : (n : ℕ) → nat_le (n * 10 ^ 24) (10 ^ 36) ≡ nat_le n 1000000000000
same_bound n = by (nat_le n 1000000000000) refl
  where
    above : nat_le n 1000000000000 ≡ false → 1000000000000 < n
    above f = grind arith

    by : (b : Bool) → nat_le n 1000000000000 ≡ b → nat_le (n * 10 ^ 24) (10 ^ 36) ≡ b
    by true e = le-leb (n * 10 ^ 24) (10 ^ 36) (omega (arith, leb-true n 1000000000000 e))
    by false e = lt-leb (n * 10 ^ 24) (10 ^ 36) (omega (arith, above e))

units_within : (z : ℤ) → fits_finer_grid 0 (in_units z) ≡ editor.is_within z
units_within z = ap (λ (n : ℕ). nat_le n (10 ^ 36)) (unsigned_abs-mul z (pos (10 ^ 24))) ∙ same_bound (unsigned_abs z)

-- ---- what the editor reads

digit_kind : (x : ℕ) → is_digit x ≡ true → kind_from x ≡ kind.Number
digit_kind x e = grind (arith, nat_tests)

whole_kind : {bytes : List ℕ} {z : ℤ} → IsWhole bytes z → kind_of bytes ≡ kind.Number
whole_kind (plain (digits {x = x} t d) n) = digit_kind x t
whole_kind (negative d n) = refl

-- a whole number is added to a coordinate, and gives the next
pub record IsStep (before : ℤ) (n : Node) (sum : ℤ) : Type 0 where
  pub added : ℤ
  pub number : IsNumber n.bytes
  pub whole : whole_of n.bytes ≡ Ok added
  pub is : sum ≡ before +ℤ added
  pub near : unsigned_abs sum ≤ 1000000000000

step_of : (k : ℕ) (before z sum : ℤ) (n : Node) → unsigned_abs before ≤ 1000000000000 → IsValue k n.bytes → IsWhole n.bytes z →
    sum ≡ before +ℤ z → unsigned_abs sum ≤ 1000000000000 → IsStep before n sum
step_of k before z sum n low value whole is near = record {
  added = z;
  number = number_told value (whole_kind whole);
  whole = whole_read n.bytes z whole (small_step before z sum low is near);
  is = is;
  near = near;
}

-- the two numbers of a position give it
pub record AreSteps (before : Position) (n : Node) (p : Position) : Type 0 where
  pub first : Node
  pub second : Node
  pub list : is_list n ≡ true
  pub two : items n ≡ first ∷ second ∷ []
  pub across : IsStep before.x first p.x
  pub upward : IsStep before.y second p.y

pub steps_of : (before p : Position) (n : Node) → InRange before → IsSum before n p → AreSteps before n p
steps_of before p n low s =
    let values = item_values s.two in
    let x : p.x ≡ before.x +ℤ s.x = ap (λ (q : Position). q.x) s.sum in
    let y : p.y ≡ before.y +ℤ s.y = ap (λ (q : Position). q.y) s.sum in
    record {
      first = s.first;
      second = s.second;
      list = is_a_list s.two;
      two = sym (items_told s.two);
      across = step_of values.0 before.x s.x p.x s.first low.across values.1.0 s.x_is x s.in_range.across;
      upward = step_of values.0 before.y s.y p.y s.second low.upward values.1.1.0 s.y_is y s.in_range.upward;
    }

-- the first two numbers are whole, and where further ones are left out there are none
abbrev pub IsPlain : Bool → Node → Type 0
IsPlain drop n = (has_wholes n ≡ true) × ((drop && has_further n) ≡ false)

pub steps_plain : (drop : Bool) (before p : Position) (n : Node) → AreSteps before n p → IsPlain drop n
steps_plain drop before p n s = (rw (s.two, s.across.whole, s.upward.whole) refl, rw s.two (and_none drop))

-- ---- what the editor reads is read in units

units_added : (before z : ℤ) (bytes : List ℕ) (p : Parts) → parts_of bytes ≡ Some p → whole_of bytes ≡ Ok z →
    in_units before +ℤ fine p ≡ in_units (before +ℤ z)
units_added before z bytes p e w = ap (λ (y : ℤ). in_units before +ℤ y) (whole_is_fine bytes p z e w) ∙ units_sum before z

step_in_units : (before sum : ℤ) (n : Node) → IsStep before n sum → fine_coordinate 0 (in_units before) n ≡ Ok (in_units sum)
step_in_units before sum n s =
    let found = whole_has_parts n.bytes s.added s.number s.whole in
    let same : in_units before +ℤ fine found.0 ≡ in_units sum =
    units_added before s.added n.bytes found.0 found.1 s.whole ∙ ap in_units (sym s.is) in
    let near : fits_finer_grid 0 (in_units sum) ≡ true = units_within sum ∙ le-leb (unsigned_abs sum) 1000000000000 s.near in
    rw (number_kind s.number, found.1, same, near) refl

pub position_in_units : (wants : Wants) → wants.finer ≡ 0 → (before p : Position) (n : Node) → AreSteps before n p →
    fine_position wants (scaled before) n ≡ Ok (scaled p)
unfolding fine_position
position_in_units wants e before p n s =
    rw (s.list, s.two, e, step_in_units before.x p.x s.first s.across, step_in_units before.y p.y s.second s.upward) refl

-- ---- whole numbers that are read in units are read by the editor

-- the units are those of a coordinate
abbrev IsBack : ℤ → Node → ℤ → Type 0
IsBack before n units = (z : ℤ) × (units ≡ in_units z) × (editor.coordinate before n ≡ Ok z)

added_back : (before units : ℤ) (n : Node) (o : Option Parts) (r : Result ℤ NotWhole) → parts_of n.bytes ≡ o → whole_of n.bytes ≡ r →
    is_ok r ≡ true → fine_sum 0 (in_units before) n.at_byte o ≡ Ok units → IsBack before n units
added_back before units n None r e f w h = absurd cc
added_back before units n (Some p) (Err fault) e f w h = absurd cc
added_back before units n (Some p) (Ok z) e f w h =
    let sum = in_units before +ℤ fine p in
    let is = demand_ok (fits_finer_grid 0 sum) (out_of_range n.at_byte) (Ok sum) units h in
    let same : sum ≡ in_units (before +ℤ z) = units_added before z n.bytes p e f in
    let near : editor.is_within (before +ℤ z) ≡ true = sym (units_within (before +ℤ z)) ∙ ap (fits_finer_grid 0) (sym same) ∙ is.0 in
    (before +ℤ z, sym (ok_same sum units is.1) ∙ same, rw (f, near) refl)

coordinate_back : (before units : ℤ) (n : Node) → is_whole_number n ≡ true → fine_coordinate 0 (in_units before) n ≡ Ok units → IsBack before n units
coordinate_back before units n w h =
    let sum = fine_sum 0 (in_units before) n.at_byte (parts_of n.bytes) in
    let number = demand_ok (is_number (kind_of n.bytes)) (not_whole n.at_byte) sum units h in
    added_back before units n (parts_of n.bytes) (whole_of n.bytes) refl refl w number.1

at : ℤ → ℤ → FinePosition
at x y = record { x = x; y = y }

pair_of_back : (before : Position) (a b : Node) (q : FinePosition) → is_whole_number a ≡ true → is_whole_number b ≡ true →
    fine_pair_of 0 (scaled before) a b ≡ Ok q → (p : Position) × (q ≡ scaled p) × (editor.pair_of before a b ≡ Ok p)
unfolding at
pair_of_back before a b q v w h =
    let first = bind_ok (fine_coordinate 0 (in_units before.x) a) (λ (x : ℤ). fine_coordinate 0 (in_units before.y) b >>= λ y. Ok (at x y)) q h in
    let second = bind_ok (fine_coordinate 0 (in_units before.y) b) (λ (y : ℤ). Ok (at first.0 y)) q first.2 in
    let x = coordinate_back before.x first.0 a v first.1 in
    let y = coordinate_back before.y second.0 b w second.1 in
    (placed x.0 y.0, sym (ok_same (at first.0 second.0) q second.2) ∙ ap₂ at x.1 y.1, rw (x.2, y.2) refl)

no_third : (n : ℕ) → nat_le 3 (suc (suc (suc n))) ≡ false → ⊥
no_third n f = grind arith

pair_back : (drop : Bool) (before : Position) (place : ℕ) (ns : List Node) (q : FinePosition) → list_all is_whole_number (take 2 ns) ≡ true →
    (drop && nat_le 3 (length ns)) ≡ false → fine_pair 0 (scaled before) place (first_two_of drop ns) ≡ Ok q →
    (p : Position) × (q ≡ scaled p) × (editor.pair before place (editor.two_of ns) ≡ Ok p)
pair_back true before place [] q w l h = absurd cc
pair_back false before place [] q w l h = absurd cc
pair_back true before place (a ∷ []) q w l h = absurd cc
pair_back false before place (a ∷ []) q w l h = absurd cc
pair_back drop before place (a ∷ b ∷ []) q w l h =
    let (first, rest) = and_parts (is_whole_number a) (is_whole_number b && true) w in
    pair_of_back before a b q first (and_parts (is_whole_number b) true rest).0 h
pair_back true before place (a ∷ b ∷ c ∷ ns) q w l h = absurd (no_third (length ns) l)
pair_back false before place (a ∷ b ∷ c ∷ ns) q w l h = absurd cc

position_read : (before p : Position) (n : Node) → is_list n ≡ true → editor.pair before n.at_byte (editor.two_of (items n)) ≡ Ok p →
    editor.position before n ≡ Ok p
unfolding editor.position
position_read before p n list h = rw list h

pub position_back : (wants : Wants) → wants.finer ≡ 0 → (before : Position) (n : Node) (q : FinePosition) → IsPlain wants.drop_heights n →
    fine_position wants (scaled before) n ≡ Ok q → (p : Position) × (q ≡ scaled p) × (editor.position before n ≡ Ok p)
unfolding fine_position
position_back wants e before n q right h =
    let two = fine_pair wants.finer (scaled before) n.at_byte (first_two_of wants.drop_heights (items n)) in
    let is = demand_ok (is_list n) (bad_position n.at_byte) two q h in
    let back = pair_back wants.drop_heights before n.at_byte (items n) q right.0 right.1 (rw e at is.1) in
    (back.0, back.1, position_read before back.0 n is.0 back.2)

-- ---- they have no decimals, and stand on the grid as they are

no_decimals : (z : ℤ) → decimals (in_units z) ≡ 0
no_decimals z =
    let whole : unsigned_abs (in_units z) % 10 ^ 24 ≡ 0 = omega (arith, unsigned_abs-mul z (pos (10 ^ 24))) in
    ap (λ k. 24 - k) (zeros_all 24 (unsigned_abs (in_units z)) whole)

none_in_arc : (a : Arc) → greatest_from decimals 0 (map scaled a) ≡ 0
none_in_arc [] = refl
none_in_arc (p ∷ ps) = rw (no_decimals p.x, no_decimals p.y) (none_in_arc ps)

pub none_in_arcs : (found : List Arc) → most_decimals (arcs_scaled found) ≡ 0
none_in_arcs [] = refl
none_in_arcs (a ∷ found) =
    let rest = coordinates (arcs_scaled found) in
    ap (λ (ns : List ℕ). fold greater 0 ns) (map-append decimals (flat_map xy (map scaled a)) rest)
    ∙ (fold-append greater 0 (map decimals (flat_map xy (map scaled a))) (map decimals rest)
    ∙ (ap (λ (n : ℕ). fold greater n (map decimals rest)) (none_in_arc a)
    ∙ none_in_arcs found))

none_fit : (finer far most : ℕ) → fitting finer far (smaller most 0) ≡ 0
unfolding fitting
none_fit finer far most = let none : smaller most 0 ≡ 0 = grind arith in rw none refl

pub no_digits : (wants : Wants) (found : List Arc) → decimals_kept wants (arcs_scaled found) ≡ 0
no_digits wants found =
    rw (none_in_arcs found, none_fit wants.finer (furthest (arcs_scaled found)) wants.digits, none_fit wants.finer (furthest_of_all wants (arcs_scaled found)) wants.digits) refl

not_rounded : (z : ℤ) → is_rounded 0 (in_units z) ≡ false
not_rounded z =
    let whole : unsigned_abs (in_units z) % 10 ^ 24 ≡ 0 = omega (arith, unsigned_abs-mul z (pos (10 ^ 24))) in
    ap (λ (n : ℕ). not (n == 0)) whole

none_moved : (a : Arc) → filter (is_moved 0) (map scaled a) ≡ []
none_moved [] = refl
none_moved (p ∷ ps) = rw (not_rounded p.x, not_rounded p.y) (none_moved ps)

pub all_stay : (found : List Arc) → filter (is_moved 0) (flat_map (λ a. a) (arcs_scaled found)) ≡ []
all_stay [] = refl
all_stay (a ∷ found) =
    filter-append (is_moved 0) (map scaled a) (flat_map (λ b. b) (arcs_scaled found))
    ∙ ap₂ (λ qs rs. qs ++ rs) (none_moved a) (all_stay found)

unrounded : (z : ℤ) → rounded 0 (in_units z) ≡ z
unrounded (pos n) = omega (arith, ints)
unrounded (negsuc n) =
    let is : pos 2 *ℤ in_units (negsuc n) +ℤ pos (10 ^ 24) ≡ negsuc (n * (2 * 10 ^ 24) + (10 ^ 24 - 1)) = omega (arith, ints) in
    let half : (n * (2 * 10 ^ 24) + (10 ^ 24 - 1)) / (2 * 10 ^ 24) ≡ n = omega arith in
    ap (λ y. int_div_euclid y (pos (2 * 10 ^ 24))) is ∙ ap negsuc half

unmoved : (z : ℤ) → rounded 0 (in_units z) *ℤ pos (10 ^ 0) ≡ z
unmoved z = once (rounded 0 (in_units z)) z (unrounded z)
  where
    once : (y : ℤ) (z : ℤ) → y ≡ z → y *ℤ pos 1 ≡ z
    once y z e = omega (arith, ints, e)

arc_unmoved : (a : Arc) → map (position_on_grid 0 0) (map scaled a) ≡ a
arc_unmoved [] = refl
arc_unmoved (p ∷ ps) = rw (unmoved p.x, unmoved p.y, arc_unmoved ps) refl

pub arcs_unmoved : (found : List Arc) → map (map (position_on_grid 0 0)) (arcs_scaled found) ≡ found
arcs_unmoved [] = refl
arcs_unmoved (a ∷ found) = rw (arc_unmoved a, arcs_unmoved found) refl

pub same_arcs : (wants : Wants) (found : List Arc) → wants.finer ≡ 0 → arcs_on wants (arcs_scaled found) ≡ found
same_arcs wants found e = rw (no_digits wants found, e) (arcs_unmoved found)

pub same_grid : (wants : Wants) (found : List Arc) → wants.finer ≡ 0 → finer_by wants (arcs_scaled found) ≡ 0
same_grid wants found e = rw (no_digits wants found, e) refl
