-- How many positions there are after an exchange.
use Rattle.kit_words.proofs.Common.{◌≡◌, ◌≤◌, ◌+◌, ℕ, Bool, true, false, refl, sym, ap, ap₂, ◌∙◌, subst, cond, List, []}
use Rattle.kit_words.proofs.Common.{◌∷◌, ◌++◌, map, length, inl, inr, Option, Some, None, arith, eqb-true, ◌==◌}
use Rattle.kit_words.proofs.Common.{flat_map, filter_map, sum_by, AllByRecursion, false≢true, Decides-eqb}
use Rattle.kit_words.proofs.Common.{flat_map-append, filter_map-append, sum_by-append, sum_by-cons, and_parts, not-true}
use Rattle.std.proofs.Common.{append-nil}
use Rattle.ring_machine.specs.Common.{Feature, Document, feature_of, feature, rings_of, size, are_distinct}
use Rattle.ring_machine.proofs.Common.{In, of_layers, any_in, in_any}
use Rattle.edit_records.specs.Common.{Place, Begins, Ends, Text_of, Number, Tree, Alone, Places, LayerTree, number_of}
use Rattle.edit_records.specs.Common.{numbers_of, numbers_placed, has_place, leaf, or_empty, item_at, items_of, weight}
use Rattle.edit_records.specs.Common.{weights, filled, Fills, exchanged_features, exchanged, had_before}

abbrev total : List Feature → ℕ
total fs = sum_by length (flat_map rings_of fs)

total-append : (fs gs : List Feature) → total (fs ++ gs) ≡ total fs + total gs
total-append fs gs =
    ap (sum_by length) (flat_map-append rings_of fs gs)
    ∙ sum_by-append length (flat_map rings_of fs) (flat_map rings_of gs)

-- ---- the features that stand at places

module _ (k : ℕ → Option Feature) where
  abbrev all_of : List ℕ → ℕ
  all_of ns = sum_by (λ m. weight (k m)) ns

  total_leaf : (o : Option Feature) → total (filter_map feature_of (leaf o)) ≡ weight o
  total_leaf None = refl
  total_leaf (Some f) = ap (sum_by length) (append-nil (rings_of f))

  total_alone : (o : Option Feature) → total (filter_map feature_of (or_empty (leaf o))) ≡ weight o
  total_alone None = refl
  total_alone (Some f) = total_leaf (Some f)

  one_of : (m : ℕ) → all_of (m ∷ []) ≡ weight (k m)
  one_of m = let e = sum_by-cons (λ m. weight (k m)) m [] in omega (arith, e)

  total_items : (ps : List Place) → total (filter_map feature_of (flat_map (item_at k) ps))
      ≡ all_of (flat_map number_of ps)
  total_items [] = refl
  total_items (Begins h ∷ ps) = total_items ps
  total_items (Ends ∷ ps) = total_items ps
  total_items (Text_of t ∷ ps) = total_items ps
  total_items (Number m ∷ ps) =
      ap total (filter_map-append feature_of (leaf (k m)) (flat_map (item_at k) ps))
      ∙ total-append (filter_map feature_of (leaf (k m))) (filter_map feature_of (flat_map (item_at k) ps))
      ∙ ap₂ (λ (a b : ℕ). a + b) (total_leaf (k m)) (total_items ps)
      ∙ sym (sum_by-cons (λ m. weight (k m)) m (flat_map number_of ps))

  total_tree : (t : Tree) → total (filter_map feature_of (items_of k t)) ≡ all_of (numbers_of t)
  total_tree (Alone m) = total_alone (k m) ∙ sym (one_of m)
  total_tree (Places ps) = total_items ps

  total_filled : (trees : List LayerTree) → total (of_layers (filled k trees)) ≡ all_of (numbers_placed trees)
  total_filled [] = refl
  total_filled (l ∷ ls) =
      total-append (filter_map feature_of (items_of k l.tree)) (of_layers (filled k ls))
      ∙ ap₂ (λ (a b : ℕ). a + b) (total_tree l.tree) (total_filled ls)
      ∙ sym (sum_by-append (λ m. weight (k m)) (numbers_of l.tree) (numbers_placed ls))

-- ---- the features of some numbers are others

pub head_apart : (k : ℕ) (ks : List ℕ) → are_distinct (k ∷ ks) ≡ true → In k ks → ⊥
head_apart k ks d i =
    false≢true (sym (not-true _ (and_parts _ (are_distinct ks) d).0)
    ∙ in_any (λ m. m == k) k ks i ((Decides-eqb k k).1 refl))

module _ (n : ℕ) (o : Option Feature) (j : ℕ → Option Feature) where
  abbrev with_one : ℕ → Option Feature
  with_one m = cond (m == n) o (j m)

  apart_one : (ns : List ℕ) → (In n ns → ⊥) → all_of with_one ns ≡ all_of j ns
  apart_one [] off = refl
  apart_one (m ∷ ns) off =
      sum_by-cons (λ m. weight (with_one m)) m ns
      ∙ ap₂ (λ (a b : ℕ). a + b) (by (m == n) refl) (apart_one ns (λ i. off (inr i)))
      ∙ sym (sum_by-cons (λ m. weight (j m)) m ns)
    where
      by : (b : Bool) → (m == n) ≡ b → weight (cond b o (j m)) ≡ weight (j m)
      by true t = absurd (off (inl (eqb-true m n t)))
      by false t = refl

  all_one : (ns : List ℕ) → are_distinct ns ≡ true → In n ns
      → all_of with_one ns + weight (j n) ≡ all_of j ns + weight o
  all_one [] d i = absurd i
  all_one (m ∷ ns) d (inl e) =
      let a = sum_by-cons (λ m. weight (with_one m)) m ns in
      let b = sum_by-cons (λ m. weight (j m)) m ns in
      let here : weight (with_one m) ≡ weight o = ap (λ c. weight (cond c o (j m))) ((Decides-eqb m n).1 e) in
      let was : weight (j m) ≡ weight (j n) = ap (λ z. weight (j z)) e in
      let rest = apart_one ns (λ i. head_apart m ns d (subst (λ z. In z ns) (sym e) i)) in
      omega (arith, a, b, here, was, rest)
  all_one (m ∷ ns) d (inr i) =
      let a = sum_by-cons (λ m. weight (with_one m)) m ns in
      let b = sum_by-cons (λ m. weight (j m)) m ns in
      let rest = all_one ns (and_parts _ (are_distinct ns) d).1 i in
      let same : weight (with_one m) ≡ weight (j m) = by (m == n) refl in
      omega (arith, a, b, rest, same)
    where
      by : (b : Bool) → (m == n) ≡ b → weight (cond b o (j m)) ≡ weight (j m)
      by true t = absurd (head_apart m ns d (subst (λ z. In z ns) (sym (eqb-true m n t)) i))
      by false t = refl

module _ (k : ℕ → Option Feature) where
  -- a number that is none of these keeps its feature
  kept : (cs : List (ℕ × Option Feature)) (m : ℕ) → (In m (map (λ c. c.0) cs) → ⊥) → exchanged_features cs k m ≡ k m
  kept [] m off = refl
  kept (c ∷ cs) m off = by (m == c.0) refl (kept cs m (λ i. off (inr i)))
    where
      by : (b : Bool) → (m == c.0) ≡ b → exchanged_features cs k m ≡ k m
          → cond b c.1 (exchanged_features cs k m) ≡ k m
      by true t rest = absurd (off (inl (sym (eqb-true m c.0 t))))
      by false t rest = rest

  all_exchanged : (cs : List (ℕ × Option Feature)) (ns : List ℕ) → are_distinct ns ≡ true
      → are_distinct (map (λ c. c.0) cs) ≡ true → AllByRecursion (λ c. In c.0 ns) cs
      → all_of (exchanged_features cs k) ns + sum_by (λ c. weight (k c.0)) cs ≡ all_of k ns + weights cs
  all_exchanged [] ns d e h = refl
  all_exchanged (c ∷ cs) ns d e h =
      let one = all_one c.0 c.1 (exchanged_features cs k) ns d h.0 in
      let rest = all_exchanged cs ns d (and_parts _ (are_distinct (map (λ c. c.0) cs)) e).1 h.1 in
      let same : weight (exchanged_features cs k c.0) ≡ weight (k c.0) =
      ap weight (kept cs c.0 (head_apart c.0 (map (λ c. c.0) cs) e)) in
      let a = sum_by-cons (λ (c : ℕ × Option Feature). weight (k c.0)) c cs in
      let b = sum_by-cons (λ (c : ℕ × Option Feature). weight c.1) c cs in
      omega (arith, one, rest, same, a, b)

  -- the features of some numbers have no more positions than all
  some_within : (ms ns : List ℕ) → are_distinct ns ≡ true → are_distinct ms ≡ true → AllByRecursion (λ m. In m ns) ms
      → all_of k ms ≤ all_of k ns
  some_within ms ns d e h = within ms k e h
    where
      same : (n : ℕ) (j : ℕ → Option Feature) (ms : List ℕ) → (In n ms → ⊥) → all_of (with_one n None j) ms ≡ all_of j ms
      same n j ms off = apart_one n None j ms off

      within : (ms : List ℕ) (j : ℕ → Option Feature) → are_distinct ms ≡ true → AllByRecursion (λ m. In m ns) ms
          → all_of j ms ≤ all_of j ns
      within [] j e h = omega arith
      within (m ∷ ms) j e h =
          let one = all_one m None j ns d h.0 in
          let rest = within ms (with_one m None j) (and_parts _ (are_distinct ms) e).1 h.1 in
          let others = same m j ms (head_apart m ms e) in
          let first = sum_by-cons (λ m. weight (j m)) m ms in
          omega (arith, one, rest, others, first)

had_weights : (d : Document) (cs : List (ℕ × Option Feature))
    → sum_by (λ c. weight (feature d c.0)) cs ≡ weights (had_before d cs)
had_weights d [] = refl
had_weights d (c ∷ cs) =
    sum_by-cons (λ (c : ℕ × Option Feature). weight (feature d c.0)) c cs
    ∙ ap (λ z. weight (feature d c.0) + z) (had_weights d cs)
    ∙ sym (sum_by-cons (λ (c : ℕ × Option Feature). weight c.1) (c.0, feature d c.0) (had_before d cs))

pub place_in : (trees : List LayerTree) (m : ℕ) → has_place trees m ≡ true → In m (numbers_placed trees)
place_in trees m h =
    let a = any_in (λ n. n == m) (numbers_placed trees) h in
    subst (λ z. In z (numbers_placed trees)) (eqb-true a.0 m a.2) a.1

all_placed : (trees : List LayerTree) (cs : List (ℕ × Option Feature)) → AllByRecursion (λ c. has_place trees c.0 ≡ true) cs
    → AllByRecursion (λ c. In c.0 (numbers_placed trees)) cs
all_placed trees [] h = tt
all_placed trees (c ∷ cs) h = (place_in trees c.0 h.0, all_placed trees cs h.1)

numbers_in : (trees : List LayerTree) (cs : List (ℕ × Option Feature)) → AllByRecursion (λ c. has_place trees c.0 ≡ true) cs
    → AllByRecursion (λ m. In m (numbers_placed trees)) (map (λ c. c.0) cs)
numbers_in trees [] h = tt
numbers_in trees (c ∷ cs) h = (place_in trees c.0 h.0, numbers_in trees cs h.1)

over_numbers : (k : ℕ → Option Feature) (cs : List (ℕ × Option Feature))
    → all_of k (map (λ c. c.0) cs) ≡ sum_by (λ c. weight (k c.0)) cs
over_numbers k [] = refl
over_numbers k (c ∷ cs) =
    sum_by-cons (λ m. weight (k m)) c.0 (map (λ c. c.0) cs)
    ∙ ap (λ z. weight (k c.0) + z) (over_numbers k cs)
    ∙ sym (sum_by-cons (λ (c : ℕ × Option Feature). weight (k c.0)) c cs)

-- the positions before and those that come are the positions after and those that went
pub exchanged-size : (trees : List LayerTree) (cs : List (ℕ × Option Feature)) (d : Document) → Fills trees d
    → are_distinct (numbers_placed trees) ≡ true → are_distinct (map (λ c. c.0) cs) ≡ true
    → AllByRecursion (λ c. has_place trees c.0 ≡ true) cs
    → size (exchanged trees cs d) + weights (had_before d cs) ≡ size d + weights cs
exchanged-size trees cs d fills alone apart placed =
    let after = total_filled (exchanged_features cs (feature d)) trees in
    let before = ap (λ ls. total (of_layers ls)) fills ∙ total_filled (feature d) trees in
    let all = all_exchanged (feature d) cs (numbers_placed trees) alone apart (all_placed trees cs placed) in
    let had = had_weights d cs in
    omega (arith, after, before, all, had)

-- what these numbers had has no more positions than the document
pub had-within : (trees : List LayerTree) (cs : List (ℕ × Option Feature)) (d : Document) → Fills trees d
    → are_distinct (numbers_placed trees) ≡ true → are_distinct (map (λ c. c.0) cs) ≡ true
    → AllByRecursion (λ c. has_place trees c.0 ≡ true) cs
    → weights (had_before d cs) ≤ size d
had-within trees cs d fills alone apart placed =
    let before = ap (λ ls. total (of_layers ls)) fills ∙ total_filled (feature d) trees in
    let some = some_within (feature d) (map (λ c. c.0) cs) (numbers_placed trees) alone apart
    (numbers_in trees cs placed) in
    let had = had_weights d cs in
    let all = over_numbers (feature d) cs in
    omega (arith, before, some, had, all)
