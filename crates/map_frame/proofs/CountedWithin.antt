-- There are at most as many features as places in the table.
use Rattle.kit_words.proofs.Common.{◌≡◌, ◌<◌, ◌≤◌, ℕ, suc, true, false, eqb, sym, ap, ◌∙◌, subst, List, [], ◌∷◌, length}
use Rattle.kit_words.proofs.Common.{inl, inr, Option, Some, None, arith, filter_map, cons_option, AllByRecursion}
use Rattle.kit_words.proofs.Common.{IsDistinct, Decides-eqb}
use Rattle.std.proofs.Common.{ne_eqb}
use Rattle.std.proofs.lemmas.Map.Steps.{length-le_from_distinct_below}
use Rattle.ring_machine.specs.Common.{are_distinct}
use Rattle.ring_machine.proofs.Common.{In, any_in, in_recursion}
use Rattle.edit_records.proofs.Common.{head_apart}
use Rattle.map_frame.specs.Common.{Tables, IsFramed, all_numbers}
use Rattle.map_frame.proofs.EditedFeatures.{tail_distinct}
use Rattle.map_frame.proofs.PlacesSeen.{entry, features_of}

distinct_is : (ns : List ℕ) → are_distinct ns ≡ true → IsDistinct eqb ns
unfolding IsDistinct
distinct_is [] d = tt
distinct_is (n ∷ ns) d = (apart ns (head_apart n ns d), distinct_is ns (tail_distinct n ns d))
  where
    apart : (ms : List ℕ) → (In n ms → ⊥) → AllByRecursion (λ m. eqb n m ≡ false) ms
    apart [] off = tt
    apart (m ∷ ms) off = (ne_eqb n m (λ e. off (inl (sym e))), apart ms (λ i. off (inr i)))

some_among : {X Y : Type 0} (h : X → Option Y) (xs : List X) → length (filter_map h xs) ≤ length xs
some_among h [] = omega arith
some_among {X} {Y} h (x ∷ xs) = by (h x) (some_among h xs)
  where
    by : (o : Option Y) → length (filter_map h xs) ≤ length xs → length (cons_option o (filter_map h xs)) ≤ suc (length xs)
    by None l = omega (arith, l)
    by (Some y) l = let s : suc (length (filter_map h xs)) ≤ suc (length xs) = omega (arith, l) in s

-- there are at most as many features as places in the table
pub counted_within : {A : Type 0} (t : Tables A) → IsFramed t → t.count ≤ length t.features.items
counted_within t k =
    let ns = all_numbers t.layers.items in
    let is : t.count ≡ length (filter_map (entry t.features.items) ns) = k.counted ∙ ap length (features_of t) in
    let among : length (filter_map (entry t.features.items) ns) ≤ length ns = some_among (entry t.features.items) ns in
    let within : length ns ≤ length t.features.items =
    length-le_from_distinct_below ns (length t.features.items) (distinct_is ns k.once)
    (λ q h. let a = any_in (eqb q) ns h in
    subst (λ z. z < length t.features.items) (sym ((Decides-eqb q a.0).0 a.2))
    (in_recursion (λ m. m < length t.features.items) ns a.0 k.below a.1)) in
    omega (arith, is, among, within)
