-- The slots as a map: what stands under a key, how many there are, what a change of a slot does.
use Rattle.kit_words.proofs.Common.{◌≡◌, ◌≢◌, ℕ, zero, suc, ◌+◌, ◌<◌, Bool, true, false, cond, List, [], ◌∷◌, Option}
use Rattle.kit_words.proofs.Common.{Some, None, is_some, refl, sym, ap, ◌∙◌, arith, nat_cmp, eq_by_cmp, nat_cmp_total}
use Rattle.kit_words.proofs.Common.{nat_tests, sum_by-cons, same_map, nat_cmp-IsAntisymmetric}
use Rattle.std.proofs.Common.{count_by}
use Rattle.std.specs.FinMap as map
use Rattle.slab.specs.Slab as slab
use Rattle.grid_geometry.specs.Common.{Position}
use Rattle.vertex_index.specs.Common.{Placement, placement_of, in_slot}

-- the entries of the slots, where the first slot has the number i
abbrev entries : ℕ → List (Option Position) → List (ℕ × Position)
entries i slots = slab.entries_from i slots

-- no key stands below the first
find_below : (slots : List (Option Position)) (q i : ℕ) → q < i
    → map.find nat_cmp q (entries i slots) ≡ None
find_below [] q i h = refl
find_below (None ∷ rest) q i h = find_below rest q (i + 1) (omega arith)
find_below (Some p ∷ rest) q i h =
    let e : eq_by_cmp nat_cmp q i ≡ false = grind (arith, nat_tests) in
    ap (λ b. cond b (Some p) (map.find nat_cmp q (entries (i + 1) rest))) e
    ∙ find_below rest q (i + 1) (omega arith)

find_slot : (slots : List (Option Position)) (q i j : ℕ) → q ≡ i + j
    → map.find nat_cmp q (entries i slots) ≡ in_slot slots j
find_slot [] q i j h = refl
find_slot (None ∷ rest) q i zero h = find_below rest q (i + 1) (omega arith)
find_slot (None ∷ rest) q i (suc j) h = find_slot rest q (i + 1) j (omega arith)
find_slot (Some p ∷ rest) q i zero h =
    let e : eq_by_cmp nat_cmp q i ≡ true = grind (arith, nat_tests) in
    ap (λ b. cond b (Some p) (map.find nat_cmp q (entries (i + 1) rest))) e
find_slot (Some p ∷ rest) q i (suc j) h =
    let e : eq_by_cmp nat_cmp q i ≡ false = grind (arith, nat_tests) in
    ap (λ b. cond b (Some p) (map.find nat_cmp q (entries (i + 1) rest))) e
    ∙ find_slot rest q (i + 1) j (omega arith)

-- the position under a key is that in its slot
pub get-placement_of : (slots : List (Option Position)) (k : ℕ)
    → map.get (placement_of slots) k ≡ in_slot slots k
get-placement_of slots k =
    map.get-from_entries nat_cmp_total (entries 0 slots) k ∙ find_slot slots k 0 k (omega arith)

-- there are as many vertices as slots with a position
pub len-placement_of : (slots : List (Option Position))
    → map.len (placement_of slots) ≡ count_by is_some slots
len-placement_of slots = from slots 0
  where
    from : (slots : List (Option Position)) (i : ℕ)
        → map.len (map.from_entries {R = nat_cmp} (entries i slots)) ≡ count_by is_some slots
    from [] i = map.len-empty nat_cmp Position
    from (None ∷ rest) i = from rest (i + 1)
    from (Some p ∷ rest) i =
        let others = map.from_entries {R = nat_cmp} (entries (i + 1) rest) in
        let new : map.get others i ≡ None =
        map.get-from_entries nat_cmp_total (entries (i + 1) rest) i
        ∙ find_below rest i (i + 1) (omega arith) in
        map.len-insert nat_cmp_total others i p
        ∙ ap (λ (o : Option Position). cond (is_some o) (map.len others) (map.len others + 1)) new
        ∙ omega (arith, from rest (i + 1), sum_by-cons (λ o. cond (is_some o) 1 0) (Some p) rest)

-- two maps are equal where they answer alike
same : (m n : Placement) → ((j : ℕ) → map.get m j ≡ map.get n j) → m ≡ n
same m n alike = same_map nat_cmp_total nat_cmp-IsAntisymmetric m n alike

-- slots that differ at one place make maps that differ there
pub placement-changed : (s t : List (Option Position)) (k : ℕ) (p : Position) → in_slot t k ≡ Some p
    → ((j : ℕ) → j ≢ k → in_slot t j ≡ in_slot s j)
    → placement_of t ≡ map.insert (placement_of s) k p
placement-changed s t k p here others = same _ _ (λ j.
    get-placement_of t j ∙ by j (eq_by_cmp nat_cmp j k) refl
    ∙ sym (map.get-insert nat_cmp_total (placement_of s) k p j
    ∙ ap (cond (eq_by_cmp nat_cmp j k) (Some p)) (get-placement_of s j)))
  where
    by : (j : ℕ) (b : Bool) → eq_by_cmp nat_cmp j k ≡ b
        → in_slot t j ≡ cond b (Some p) (in_slot s j)
    by j true e = let at_k : j ≡ k = grind (arith, nat_tests) in ap (in_slot t) at_k ∙ here
    by j false e = others j (grind (arith, nat_tests))

-- and so where a slot was emptied
pub placement-removed : (s t : List (Option Position)) (k : ℕ) → in_slot t k ≡ None
    → ((j : ℕ) → j ≢ k → in_slot t j ≡ in_slot s j)
    → placement_of t ≡ map.remove (placement_of s) k
placement-removed s t k here others = same _ _ (λ j.
    get-placement_of t j ∙ by j (eq_by_cmp nat_cmp j k) refl
    ∙ sym (map.get-remove nat_cmp_total (placement_of s) k j
    ∙ ap (cond (eq_by_cmp nat_cmp j k) None) (get-placement_of s j)))
  where
    by : (j : ℕ) (b : Bool) → eq_by_cmp nat_cmp j k ≡ b
        → in_slot t j ≡ cond b None (in_slot s j)
    by j true e = let at_k : j ≡ k = grind (arith, nat_tests) in ap (in_slot t) at_k ∙ here
    by j false e = others j (grind (arith, nat_tests))

-- what a key has that was just put
pub get-inserted : (m : Placement) (k : ℕ) (p : Position) → map.get (map.insert m k p) k ≡ Some p
get-inserted m k p =
    let e : eq_by_cmp nat_cmp k k ≡ true = grind (arith, nat_tests) in
    map.get-insert nat_cmp_total m k p k ∙ ap (λ b. cond b (Some p) (map.get m k)) e

-- and what was there already changes nothing
pub insert-same : (m : Placement) (k : ℕ) (p : Position) → map.get m k ≡ Some p → map.insert m k p ≡ m
insert-same m k p here = same _ _ (λ j. map.get-insert nat_cmp_total m k p j ∙ by j (eq_by_cmp nat_cmp j k) refl)
  where
    by : (j : ℕ) (b : Bool) → eq_by_cmp nat_cmp j k ≡ b → cond b (Some p) (map.get m j) ≡ map.get m j
    by j true e = let at_k : j ≡ k = grind (arith, nat_tests) in sym here ∙ ap (map.get m) (sym at_k)
    by j false e = refl
