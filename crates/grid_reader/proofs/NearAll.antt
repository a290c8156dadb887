-- The positions that were read are in range on the grid that they are put on.
use Rattle.kit_words.proofs.Common.{◌≡◌, ℕ, zero, suc, ◌-◌, ◌*◌, ◌≤◌, ◌^◌, Bool, true, false, cond, List, [], ◌∷◌, ◌++◌}
use Rattle.kit_words.proofs.Common.{map, refl, sym, ap, ◌∙◌, subst, inl, inr, ◌⊎◌, arith, mul-le-mul_right, ◌&&◌, ◌+ℤ◌}
use Rattle.kit_words.proofs.Common.{ℤ, Option, Some, None, Ok, unsigned_abs, nat_le, AllByRecursion, fold, flat_map}
use Rattle.kit_words.proofs.Common.{map-append, fold-append, leb-true}
use Rattle.json_spans.specs.Common.{Node, items, kind_of}
use Rattle.topo_outline.specs.Common.{is_list, is_number, not_whole, out_of_range, bad_position, ◌>>=◌, each}
use Rattle.topo_reader.specs.Common.{has_two}
use Rattle.topo_reader.proofs.Common.{bind_ok, demand_ok, ok_same}
use Rattle.decimal_texts.specs.Common.{Parts, parts_of, fine}
use Rattle.grid_reader.specs.Common.{Wants, FinePosition, fine_origin, fits_finer_grid, fine_sum, fine_coordinate, first_two_of, fine_pair_of, fine_pair}
use Rattle.grid_reader.specs.Common.{fine_position, before_next_fine, fine_positions, fine_arc, fine_arcs, xy, coordinates}
use Rattle.grid_reader.specs.Common.{greater, greatest_from, furthest, furthest_of_all, most_decimals, decimals_of_all, smaller, fitting}
use Rattle.grid_reader.specs.Common.{digits_fitting, decimals_kept}
use Rattle.grid_reader.specs.Common.{IsNear}

-- both coordinates are at most so far from 0
pub record IsUpTo (far : ℕ) (p : FinePosition) : Type 0 where
  pub across : unsigned_abs p.x ≤ far
  pub upward : unsigned_abs p.y ≤ far

-- ---- what is read is within the range

summed_within : (finer : ℕ) (before : ℤ) (place : ℕ) (o : Option Parts) (z : ℤ) → fine_sum finer before place o ≡ Ok z → unsigned_abs z ≤ 10 ^ (36 - finer)
summed_within finer before place None z h = absurd cc
summed_within finer before place (Some p) z h =
    let is = demand_ok (fits_finer_grid finer (before +ℤ fine p)) (out_of_range place) (Ok (before +ℤ fine p)) z h in
    subst (λ (y : ℤ). unsigned_abs y ≤ 10 ^ (36 - finer)) (ok_same (before +ℤ fine p) z is.1) (leb-true (unsigned_abs (before +ℤ fine p)) (10 ^ (36 - finer)) is.0)

coordinate_within : (finer : ℕ) (before : ℤ) (n : Node) (z : ℤ) → fine_coordinate finer before n ≡ Ok z → unsigned_abs z ≤ 10 ^ (36 - finer)
coordinate_within finer before n z h =
    summed_within finer before n.at_byte (parts_of n.bytes) z
    (demand_ok (is_number (kind_of n.bytes)) (not_whole n.at_byte) (fine_sum finer before n.at_byte (parts_of n.bytes)) z h).1

at : ℤ → ℤ → FinePosition
at x y = record { x = x; y = y }

pair_of_within : (finer : ℕ) (before : FinePosition) (a b : Node) (p : FinePosition) → fine_pair_of finer before a b ≡ Ok p → IsUpTo (10 ^ (36 - finer)) p
unfolding at
pair_of_within finer before a b p h =
    let first = bind_ok (fine_coordinate finer before.x a) (λ (x : ℤ). fine_coordinate finer before.y b >>= λ y. Ok (at x y)) p h in
    let second = bind_ok (fine_coordinate finer before.y b) (λ (y : ℤ). Ok (at first.0 y)) p first.2 in
    subst (IsUpTo (10 ^ (36 - finer))) (ok_same (at first.0 second.0) p second.2)
    (record { across = coordinate_within finer before.x a first.0 first.1; upward = coordinate_within finer before.y b second.0 second.1 })

pair_within : (finer : ℕ) (before : FinePosition) (place : ℕ) (o : Option (Node × Node)) (p : FinePosition) → fine_pair finer before place o ≡ Ok p → IsUpTo (10 ^ (36 - finer)) p
pair_within finer before place None p h = absurd cc
pair_within finer before place (Some q) p h = pair_of_within finer before q.0 q.1 p h

position_within : (wants : Wants) (before : FinePosition) (n : Node) (p : FinePosition) → fine_position wants before n ≡ Ok p → IsUpTo (10 ^ (36 - wants.finer)) p
unfolding fine_position
position_within wants before n p h =
    pair_within wants.finer before n.at_byte (first_two_of wants.drop_heights (items n)) p
    (demand_ok (is_list n) (bad_position n.at_byte) (fine_pair wants.finer before n.at_byte (first_two_of wants.drop_heights (items n))) p h).1

positions_within : (wants : Wants) (delta : Bool) (before : FinePosition) (ns : List Node) (ps : List FinePosition) → fine_positions wants delta before ns ≡ Ok ps → AllByRecursion (IsUpTo (10 ^ (36 - wants.finer))) ps
unfolding fine_positions
positions_within wants delta before [] ps h = subst (λ qs. AllByRecursion (IsUpTo (10 ^ (36 - wants.finer))) qs) (ok_same [] ps h) tt
positions_within wants delta before (n ∷ ns) ps h =
    let first = bind_ok (fine_position wants before n) (λ (p : FinePosition). fine_positions wants delta (before_next_fine delta p) ns >>= λ qs. Ok (p ∷ qs)) ps h in
    let rest = bind_ok (fine_positions wants delta (before_next_fine delta first.0) ns) (λ (qs : List FinePosition). Ok (first.0 ∷ qs)) ps first.2 in
    subst (λ qs. AllByRecursion (IsUpTo (10 ^ (36 - wants.finer))) qs) (ok_same (first.0 ∷ rest.0) ps rest.2)
    (position_within wants before n first.0 first.1, positions_within wants delta (before_next_fine delta first.0) ns rest.0 rest.1)

arc_within : (wants : Wants) (delta : Bool) (n : Node) (ps : List FinePosition) → fine_arc wants delta n ≡ Ok ps → AllByRecursion (IsUpTo (10 ^ (36 - wants.finer))) ps
unfolding fine_arc
arc_within wants delta n ps h =
    positions_within wants delta fine_origin (items n) ps
    (demand_ok (is_list n && has_two (items n)) (bad_position n.at_byte) (fine_positions wants delta fine_origin (items n)) ps h).1

each_within : (wants : Wants) (delta : Bool) (ns : List Node) (arcs : List (List FinePosition)) → each (fine_arc wants delta) ns ≡ Ok arcs → AllByRecursion (AllByRecursion (IsUpTo (10 ^ (36 - wants.finer)))) arcs
each_within wants delta [] arcs h = subst (λ bs. AllByRecursion (AllByRecursion (IsUpTo (10 ^ (36 - wants.finer)))) bs) (ok_same [] arcs h) tt
each_within wants delta (n ∷ ns) arcs h =
    let first = bind_ok (fine_arc wants delta n) (λ (a : List FinePosition). each (fine_arc wants delta) ns >>= λ bs. Ok (a ∷ bs)) arcs h in
    let rest = bind_ok (each (fine_arc wants delta) ns) (λ (bs : List (List FinePosition)). Ok (first.0 ∷ bs)) arcs first.2 in
    subst (λ bs. AllByRecursion (AllByRecursion (IsUpTo (10 ^ (36 - wants.finer)))) bs) (ok_same (first.0 ∷ rest.0) arcs rest.2)
    (arc_within wants delta n first.0 first.1, each_within wants delta ns rest.0 rest.1)

-- ---- and no further than the furthest

both_below : (a b far : ℕ) → greater a b ≤ far → (a ≤ far) × (b ≤ far)
both_below a b far h = by (nat_le a b) refl h
  where
    by : (t : Bool) → nat_le a b ≡ t → cond t b a ≤ far → (a ≤ far) × (b ≤ far)
    by true e k = (omega (arith, leb-true a b e), k)
    by false e k = (k, omega (arith, below e))
      where
        below : nat_le a b ≡ false → b ≤ a
        below f = grind arith

arc_up_to : (far n : ℕ) (ps : List FinePosition) → greatest_from unsigned_abs n ps ≤ far → (n ≤ far) × AllByRecursion (IsUpTo far) ps
arc_up_to far n [] h = (h, tt)
arc_up_to far n (p ∷ ps) h =
    let rest = arc_up_to far (greater (greater n (unsigned_abs p.x)) (unsigned_abs p.y)) ps h in
    let last = both_below (greater n (unsigned_abs p.x)) (unsigned_abs p.y) far rest.0 in
    let first = both_below n (unsigned_abs p.x) far last.0 in
    (first.0, (record { across = first.1; upward = last.1 }, rest.1))

all_up_to : (far n : ℕ) (arcs : List (List FinePosition)) → fold greater n (map unsigned_abs (coordinates arcs)) ≤ far → (n ≤ far) × AllByRecursion (AllByRecursion (IsUpTo far)) arcs
all_up_to far n [] h = (h, tt)
all_up_to far n (a ∷ arcs) h =
    let parted : fold greater n (map unsigned_abs (flat_map xy a ++ coordinates arcs)) ≡ fold greater (greatest_from unsigned_abs n a) (map unsigned_abs (coordinates arcs)) =
    ap (λ (ns : List ℕ). fold greater n ns) (map-append unsigned_abs (flat_map xy a) (coordinates arcs))
    ∙ fold-append greater n (map unsigned_abs (flat_map xy a)) (map unsigned_abs (coordinates arcs)) in
    let rest = all_up_to far (greatest_from unsigned_abs n a) arcs (subst (λ (m : ℕ). m ≤ far) parted h) in
    let here = arc_up_to far n a rest.0 in
    (here.0, (here.1, rest.1))

-- ---- so they are near with the digits that fit

-- either nothing is kept, or so far a coordinate is within the range
abbrev Fits : ℕ → ℕ → ℕ → Type 0
Fits finer far d = (d ≡ 0) ⊎ (far * 10 ^ d ≤ 10 ^ (36 - finer))

fitting_fits : (finer far k : ℕ) → Fits finer far (fitting finer far k)
unfolding fitting
fitting_fits finer far zero = inl refl
fitting_fits finer far (suc k) = by (nat_le (far * 10 ^ (suc k)) (10 ^ (36 - finer))) refl (fitting_fits finer far k)
  where
    by : (t : Bool) → nat_le (far * 10 ^ (suc k)) (10 ^ (36 - finer)) ≡ t → Fits finer far (fitting finer far k) → Fits finer far (cond t (suc k) (fitting finer far k))
    by true e h = inr (leb-true (far * 10 ^ (suc k)) (10 ^ (36 - finer)) e)
    by false e h = h

near_one : (finer far d n : ℕ) → Fits finer far d → n ≤ 10 ^ (36 - finer) → n ≤ far → n * 10 ^ d ≤ 10 ^ (36 - finer)
near_one finer far d n (inl e) low le = subst (λ j. n * 10 ^ j ≤ 10 ^ (36 - finer)) (sym e) (omega arith)
near_one finer far d n (inr h) low le = omega (arith, h, mul-le-mul_right (10 ^ d) le)

arc_near : (finer far d : ℕ) → Fits finer far d → (ps : List FinePosition) → AllByRecursion (IsUpTo (10 ^ (36 - finer))) ps → AllByRecursion (IsUpTo far) ps → AllByRecursion (IsNear d finer) ps
arc_near finer far d f [] low le = tt
arc_near finer far d f (p ∷ ps) low le = (
  record {
    across = near_one finer far d (unsigned_abs p.x) f low.0.across le.0.across;
    upward = near_one finer far d (unsigned_abs p.y) f low.0.upward le.0.upward;
  },
  arc_near finer far d f ps low.1 le.1,
)

arcs_near : (finer far d : ℕ) → Fits finer far d → (arcs : List (List FinePosition)) → AllByRecursion (AllByRecursion (IsUpTo (10 ^ (36 - finer)))) arcs → AllByRecursion (AllByRecursion (IsUpTo far)) arcs → AllByRecursion (AllByRecursion (IsNear d finer)) arcs
arcs_near finer far d f [] low le = tt
arcs_near finer far d f (a ∷ arcs) low le = (arc_near finer far d f a low.0 le.0, arcs_near finer far d f arcs low.1 le.1)

module _ (wants : Wants) (delta : Bool) (n : Node) (arcs : List (List FinePosition)) (are : fine_arcs wants delta n ≡ Ok arcs) where
  -- with so many decimals as fit where no coordinate is further from 0
  near_with : (far most : ℕ) → furthest arcs ≤ far → AllByRecursion (AllByRecursion (IsNear (digits_fitting wants far most) wants.finer)) arcs
  near_with far most le =
      arcs_near wants.finer far (digits_fitting wants far most) (fitting_fits wants.finer far (smaller wants.digits most)) arcs
      (each_within wants delta (items n) arcs are)
      (all_up_to far 0 arcs le).1

  near_on : (b : Bool) → AllByRecursion (AllByRecursion (IsNear (cond b (digits_fitting wants (furthest_of_all wants arcs) (decimals_of_all wants arcs)) (digits_fitting wants (furthest arcs) (most_decimals arcs))) wants.finer)) arcs
  near_on true = near_with (furthest_of_all wants arcs) (decimals_of_all wants arcs) (both_below wants.points.furthest (furthest arcs) (furthest_of_all wants arcs) (omega arith)).1
  near_on false = near_with (furthest arcs) (most_decimals arcs) (omega arith)

  -- the positions that were read are near on their grid
  pub all_near : AllByRecursion (AllByRecursion (IsNear (decimals_kept wants arcs) wants.finer)) arcs
  all_near = near_on (nat_le (digits_fitting wants (furthest arcs) (most_decimals arcs)) (digits_fitting wants (furthest_of_all wants arcs) (decimals_of_all wants arcs)))
