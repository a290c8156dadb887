use Rattle.kit_words.proofs.Common.{◌≡◌, ℕ, List, ◌*◌, ◌<◌, sym, subst, arith, length, map, get_or, All, All-permutation, IsPermutation, length-map, length_permutation, rules}
use Rattle.std.specs.List.{range_with_len}
use Rattle.std.proofs.lemmas.List.FromFn.{length-range_with_len}
use Rattle.std.proofs.lemmas.List.Sorted.{IsNonDecreasingBy-from_sort_by_key}
use Rattle.layer_sides.specs.Seen.{border_seen, borders_seen}
use Rattle.layer_faces.specs.declared.face.Face.{Face}
use Rattle.layer_faces.specs.declared.order.Labelled.{Labelled}
use Rattle.layer_faces.specs.Kept.{IsFound}
use Rattle.layer_faces.specs.Order.{side_of}
use Rattle.layer_faces.proofs.Exchanged.{numbers_below, still_all}
use Rattle.layer_faces.proofs.Facing.{first_within}
use Rattle.layer_faces.proofs.faces.faces_of.Goals as goal

-- the sides in their order are those of the borders
sides : (n k : ℕ) (seen order : List Labelled) → k ≡ n → seen ≡ order → IsPermutation (range_with_len 0 k) (map side_of order)
    → IsPermutation (range_with_len 0 n) (map side_of seen)
sides n k seen order e f p =
    subst (λ xs. IsPermutation (range_with_len 0 n) (map side_of xs)) (sym f) (subst (λ m. IsPermutation (range_with_len 0 m) (map side_of order)) e p)

pub faces_in-requires-clause-few_sides : goal.faces_in-requires-clause-few_sides
faces_in-requires-clause-few_sides g c =
    let n = 2 * length c.args.borders.now in
    let count : length c.in-Some.of_sides.now ≡ n = omega (arith, c.in-Some.ensures.cases.1, c.requires.labels) in
    let all = sides n (length c.in-Some.of_sides.now) c.as_slice.result.now c.in_ok-order.order.items count c.as_slice.ensures.value c.in_ok-order.ensures.all in
    let long = length_permutation (range_with_len 0 n) (map side_of c.as_slice.result.now) all in
    let many = length-range_with_len 0 n in
    omega (arith, long, many, length-map c.as_slice.result.now side_of, c.requires.few)

pub faces_in-requires-clause-within : goal.faces_in-requires-clause-within
faces_in-requires-clause-within g c =
    let n = 2 * length c.args.borders.now in
    let count : length c.in-Some.of_sides.now ≡ n = omega (arith, c.in-Some.ensures.cases.1, c.requires.labels) in
    let all = sides n (length c.in-Some.of_sides.now) c.as_slice.result.now c.in_ok-order.order.items count c.as_slice.ensures.value c.in_ok-order.ensures.all in
    numbers_below n (map side_of c.as_slice.result.now) all

pub test_outside-requires : goal.test_outside-requires
test_outside-requires g c =
    let borders = borders_seen c.args.borders.now in
    let owners = c.args.owners.now in
    let long = length-map c.args.borders.now border_seen in
    let found = All-permutation (IsFound borders owners) c.in_ok-faces.faces.items c.sort_unstable_by_key.new.self.items c.sort_unstable_by_key.ensures.permutation c.in_ok-faces.ensures.found in
    subst (λ fs. All (λ (f : Face _). f.first < 2 * length c.args.borders.now) fs) (sym c.as_slice-2.ensures.value)
    (λ k d l. let h = first_within borders owners (get_or c.sort_unstable_by_key.new.self.items k d) (found k d l) in omega (arith, h, long))

pub returns-clause-found : goal.returns-clause-found
returns-clause-found g c =
    All-permutation (IsFound (borders_seen c.args.borders.now) c.args.owners.now) c.in_ok-faces.faces.items c.sort_unstable_by_key.new.self.items
    c.sort_unstable_by_key.ensures.permutation c.in_ok-faces.ensures.found

pub returns-clause-all : goal.returns-clause-all
returns-clause-all g c =
    let n = 2 * length c.args.borders.now in
    let count : length c.in-Some.of_sides.now ≡ n = omega (arith, c.in-Some.ensures.cases.1, c.requires.labels) in
    let all = sides n (length c.in-Some.of_sides.now) c.as_slice.result.now c.in_ok-order.order.items count c.as_slice.ensures.value c.in_ok-order.ensures.all in
    still_all (λ (f : Face _). f.sides.items) (range_with_len 0 n) (map side_of c.as_slice.result.now)
    c.in_ok-faces.faces.items c.sort_unstable_by_key.new.self.items all c.in_ok-faces.ensures.all c.sort_unstable_by_key.ensures.permutation

pub returns-clause-in_order : goal.returns-clause-in_order
returns-clause-in_order g c =
    IsNonDecreasingBy-from_sort_by_key (λ (f : Face _). f.first) c.sort_unstable_by_key.new.self.items c.sort_unstable_by_key.ensures.sorted (λ a r q k. search rules)
