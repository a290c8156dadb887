-- How many positions rings gain while vertices come in one after the other.
use Rattle.kit_words.proofs.Common.{◌≡◌, ℕ, ◌+◌, ◌<◌, ◌≤◌, ◌&&◌, refl, sym, ap, ap₂, ◌∙◌, subst, arith, List, [], ◌∷◌}
use Rattle.kit_words.proofs.Common.{map, length, drop, get_or, option_map, T, nat_cmp, is_lt, nat_cmp_total}
use Rattle.kit_words.proofs.Common.{at_drop_more, at_drop_all, map-map, same_map, nat_cmp-IsAntisymmetric, below_all}
use Rattle.std.specs.FinMap as rings
use Rattle.arc_tables.specs.Common.{Put, Tables, links, Rings, users_of, through, gained, path_of, rings_of}
use Rattle.arc_tables.proofs.Putting.{put_everywhere}

-- ---- a map whose values are edited

module _ {X Y : Type 0} (f : X → Y) where
  -- each entry's value edited
  abbrev each : List (ℕ × X) → List (ℕ × Y)
  each es = map (λ e. (e.0, f e.1)) es

  below_each : (k : ℕ) (es : List (ℕ × X)) → below_all nat_cmp k (each es) ≡ below_all nat_cmp k es
  below_each k [] = refl
  below_each k (e ∷ es) = ap (λ b. is_lt (nat_cmp k e.0) && b) (below_each k es)

  sorted_each : (es : List (ℕ × X)) → rings.is_sorted nat_cmp (each es) ≡ rings.is_sorted nat_cmp es
  sorted_each [] = refl
  sorted_each (e ∷ es) = ap₂ (λ a b. a && b) (below_each e.0 es) (sorted_each es)

  find_each : (k : ℕ) (es : List (ℕ × X)) → rings.find nat_cmp k (each es) ≡ option_map f (rings.find nat_cmp k es)
  find_each k [] = refl
  find_each k (e ∷ es) = grind (arith, find_each k es)

  -- a map that has the edited value under every key has the edited values in order
  pub values_each : (m : rings.FinMap nat_cmp X) (n : rings.FinMap nat_cmp Y)
      → ((k : ℕ) → rings.get n k ≡ option_map f (rings.get m k)) → rings.values n ≡ map f (rings.values m)
  values_each m n h =
      let es = each (rings.entries m) in
      let sorted : T (rings.is_sorted nat_cmp es) = subst T (sym (sorted_each (rings.entries m))) (rings.entries_sorted m) in
      let is : n ≡ rings.from_sorted {R = nat_cmp} es =
      same_map nat_cmp_total nat_cmp-IsAntisymmetric n (rings.from_sorted {R = nat_cmp} es)
      (λ k. h k ∙ ap (option_map f) (rings.get-entries m k) ∙ sym (find_each k (rings.entries m)) ∙ sym (rings.get-from_sorted nat_cmp es k sorted)) in
      ap (λ z. rings.values z) is
      ∙ ap (map (λ e. e.1)) (rings.entries-from_sorted nat_cmp es sorted)
      ∙ map-map (λ e. e.1) (λ e. (e.0, f e.1)) (rings.entries m)
      ∙ sym (map-map f (λ e. e.1) (rings.entries m))

-- ---- the puts that are left

-- what is gained so far and by the puts that are left is the whole
abbrev pub GainsSoFar : ℕ → List Put → ℕ → Rings → Rings → Type 0
GainsSoFar count puts at old now = count + gained (drop at puts) (rings.values now) ≡ gained puts (rings.values old)

module _ (puts : List Put) (at : ℕ) (p : Put) (old now : Rings) (count : ℕ) (within : at < length puts) (is : p ≡ get_or puts at p) (so_far : GainsSoFar count puts at old now) where
  -- the next put, and those after it
  next_gained : gained (drop at puts) (rings.values now) ≡ users_of now p.a p.b + gained (drop (at + 1) puts) (map (through p.a p.b p.q) (rings.values now))
  next_gained =
      at_drop_more (λ ps. gained ps (rings.values now)) puts at p within
      ∙ ap (λ r. gained (r ∷ drop (at + 1) puts) (rings.values now)) (sym is)

  -- the count does not grow past the whole
  pub within_gained : count + users_of now p.a p.b ≤ gained puts (rings.values old)
  within_gained = omega (arith, next_gained, so_far)

  pub one_more_gained : (next : Rings) → ((r : ℕ) → rings.get next r ≡ option_map (through p.a p.b p.q) (rings.get now r))
      → GainsSoFar (count + users_of now p.a p.b) puts (at + 1) old next
  one_more_gained next edited =
      omega (arith, next_gained, so_far, ap (gained (drop (at + 1) puts)) (values_each (through p.a p.b p.q) now next edited))

pub all_gained : (puts : List Put) (at : ℕ) (old now : Rings) (count : ℕ) → length puts ≤ at
    → GainsSoFar count puts at old now → count ≡ gained puts (rings.values old)
all_gained puts at old now count over so_far =
    omega (arith, so_far, at_drop_all (λ ps. gained ps (rings.values now)) puts at over)

module _ {A : Type 0} where
  -- every ring that the map has leads over the vertex
  pub through_everywhere : (p : Put) (s t : Tables A) → ((i : ℕ) → links (path_of t i) ≡ through p.a p.b p.q (links (path_of s i)))
      → t.rings ≡ s.rings → (r : ℕ) → rings.get (rings_of t) r ≡ option_map (through p.a p.b p.q) (rings.get (rings_of s) r)
  through_everywhere p s t put same = put_everywhere (p ∷ []) s t put same
