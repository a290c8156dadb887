-- Values that stand in a file: what is cut out of such a value stands in it too.
use Rattle.kit_words.proofs.Common.{◌≡◌, ℕ, zero, suc, ◌+◌, ◌-◌, ◌≤◌, List, [], ◌∷◌, length, take, drop, map, Bool, true, false}
use Rattle.kit_words.proofs.Common.{refl, sym, ap, ◌∙◌, min, arith, length-take, length-drop, take-take, take_min, drop-drop}
use Rattle.kit_words.proofs.Common.{Option, Some, None, ◌==◌, AllByRecursion, prefix_len-le-length, cond, subst}
use Rattle.std.proofs.lemmas.List.{drop-take}
use Rattle.json_spans.specs.Common.{Node, is_space, spaces_before, trimmed, after_comma, if_more, parts_left, has_first}
use Rattle.json_spans.specs.Common.{raw_parts, items, members, member_of}
use Rattle.json_spans.specs.Parts.{parts_from, comma_at, colon_at}
use Rattle.json_spans.specs.Walk.{behind_colon}
use Rattle.geo_topology.specs.Copies.{Lies}

abbrev at : ℕ → List ℕ → Node
at place bytes = record { at_byte = place; bytes = bytes }

pub all_mapped : {X Y : Type 0} (P : X → Type 0) (Q : Y → Type 0) (f : X → Y) → ((x : X) → P x → Q (f x)) → (xs : List X) → AllByRecursion P xs → AllByRecursion Q (map f xs)
all_mapped P Q f k [] h = tt
all_mapped P Q f k (x ∷ xs) h = (k x h.0, all_mapped P Q f k xs h.1)

module _ (file : List ℕ) where
  lies_front : (place : ℕ) (bytes : List ℕ) (k : ℕ) → Lies file (at place bytes) → Lies file (at place (take k bytes))
  lies_front place bytes k h =
      let m : ℕ = min k (length bytes) in
      let short : m ≤ length bytes = omega arith in
      ap (λ j. take j (drop place file)) (length-take k bytes)
      ∙ sym (take-take m (length bytes) (drop place file) short)
      ∙ ap (take m) h ∙ take_min k bytes

  lies_behind : (place : ℕ) (bytes : List ℕ) (k : ℕ) → k ≤ length bytes → Lies file (at place bytes) → Lies file (at (place + k) (drop k bytes))
  lies_behind place bytes k le h =
      let rest : ℕ = length bytes - k in
      let sum : k + rest ≡ length bytes = omega arith in
      ap (λ j. take j (drop (place + k) file)) (length-drop k bytes)
      ∙ ap (take rest) (sym (drop-drop k place file))
      ∙ sym (drop-take k rest (drop place file))
      ∙ ap (λ j. drop k (take j (drop place file))) sum
      ∙ ap (drop k) h

  -- what follows a byte
  lies_after : (place : ℕ) (bytes : List ℕ) (k : ℕ) (x : ℕ) (xs : List ℕ) → drop k bytes ≡ x ∷ xs → Lies file (at place bytes) → Lies file (at (place + k + 1) xs)
  lies_after place bytes k x xs e h =
      let some : k ≤ length bytes = omega (arith, sym (length-drop k bytes) ∙ ap length e) in
      lies_behind (place + k) (x ∷ xs) 1 (omega arith) (subst (λ ys. Lies file (at (place + k) ys)) e (lies_behind place bytes k some h))

  pub lies_trimmed : (n : Node) → Lies file n → Lies file (trimmed n)
  lies_trimmed n h = lies_front _ _ _ (lies_behind n.at_byte n.bytes (spaces_before n.bytes) (prefix_len-le-length is_space n.bytes) h)

  -- ---- parts

  by_more : (o : Option (List ℕ)) (go : List ℕ → List Node) → ((xs : List ℕ) → o ≡ Some xs → AllByRecursion (Lies file) (go xs)) → AllByRecursion (Lies file) (if_more o go)
  by_more None go k = tt
  by_more (Some xs) go k = k xs refl

  comma_is : (ys xs : List ℕ) → after_comma ys ≡ Some xs → (x : ℕ) × (ys ≡ x ∷ xs)
  comma_is [] xs h = absurd cc
  comma_is (y ∷ ys) xs h = by_test (y == 44) h
    where
      by_test : (b : Bool) → cond b (Some ys) None ≡ Some xs → (x : ℕ) × (y ∷ ys ≡ x ∷ xs)
      by_test true e = (y, cc)
      by_test false e = absurd cc

  lies_parts : (n place : ℕ) (xs : List ℕ) → Lies file (at place xs) → AllByRecursion (Lies file) (parts_from n place xs)
  unfolding parts_from
  lies_parts zero place xs h = tt
  lies_parts (suc n) place xs h = (
    lies_front place xs (comma_at xs) h,
    by_more (after_comma (drop (comma_at xs) xs)) (parts_from n (place + comma_at xs + 1)) (λ ys e.
        let w : (x : ℕ) × (drop (comma_at xs) xs ≡ x ∷ ys) = comma_is (drop (comma_at xs) xs) ys e in
        lies_parts n (place + comma_at xs + 1) ys (lies_after place xs (comma_at xs) w.0 ys w.1 h)),
  )

  lies_left : (more : Bool) (place : ℕ) (xs : List ℕ) → Lies file (at place xs) → AllByRecursion (Lies file) (parts_left more place xs)
  lies_left true place xs h = lies_parts (length xs + 1) place xs h
  lies_left false place xs h = tt

  lies_raw : (place : ℕ) (bytes : List ℕ) → Lies file (at place bytes) → AllByRecursion (Lies file) (raw_parts place bytes)
  lies_raw place [] h = tt
  lies_raw place (x ∷ xs) h = lies_left (has_first (drop (spaces_before xs) xs)) (place + 1) xs (lies_behind place (x ∷ xs) 1 (omega arith) h)

  pub lies_items : (n : Node) → Lies file n → AllByRecursion (Lies file) (items n)
  lies_items n h = all_mapped (Lies file) (Lies file) trimmed lies_trimmed (raw_parts n.at_byte n.bytes) (lies_raw n.at_byte n.bytes h)

  -- ---- members

  lies_colon : (place : ℕ) (bytes : List ℕ) (k : ℕ) (ys : List ℕ) → drop k bytes ≡ ys → Lies file (at place bytes) → Lies file (behind_colon (place + k) ys)
  lies_colon place bytes k [] e h = refl
  lies_colon place bytes k (x ∷ xs) e h = lies_after place bytes k x xs e h

  abbrev pub BothLie : Node × Node → Type 0
  BothLie m = Lies file m.0 × Lies file m.1

  lies_member : (n : Node) → Lies file n → BothLie (member_of n)
  lies_member n h = (
    lies_trimmed _ (lies_front n.at_byte n.bytes (colon_at n.bytes) h),
    lies_trimmed _ (lies_colon n.at_byte n.bytes (colon_at n.bytes) (drop (colon_at n.bytes) n.bytes) refl h),
  )

  pub lies_members : (n : Node) → Lies file n → AllByRecursion BothLie (members n)
  lies_members n h = all_mapped (Lies file) BothLie member_of lies_member (raw_parts n.at_byte n.bytes) (lies_raw n.at_byte n.bytes h)
