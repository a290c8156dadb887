-- What stands inside a value ends within it.
use Rattle.kit_words.proofs.Common.{◌≡◌, ℕ, zero, suc, ◌+◌, ◌-◌, ◌≤◌, ◌==◌, ◌∷◌, [], Bool, true, false, cond, List, length, take, drop, map, Option, Some, None, arith}
use Rattle.kit_words.proofs.Common.{AllByRecursion, length-drop, prefix_len-le-length, subst, sym}
use Rattle.std.proofs.lemmas.List.{length-take}
use Rattle.json_spans.specs.Common.{IsListOf, IsObjectOf, Node, after_comma, has_first, if_more, is_space, items, member_of, members, one_longer}
use Rattle.json_spans.specs.Common.{part_len, parts_from, parts_left, raw_parts, skip_step, spaces_before, spaces_behind, trimmed}
use Rattle.json_spans.specs.Parts.{colon_at, comma_at}
use Rattle.json_spans.specs.Walk.{behind_colon}
use Rattle.json_spans.specs.declared.parts.Skip.{Skip}
use Rattle.json_spans.specs.declared.parts.Skip.TheVariants.{Plain}
use Rattle.json_spans.proofs.Itemized.{only_items, only_members}

-- its last byte stands before this place
abbrev pub EndsBy : ℕ → Node → Type 0
EndsBy most n = n.at_byte + length n.bytes ≤ most

all_mapped : {A B : Type 0} (P : A → Type 0) (Q : B → Type 0) (f : A → B) (xs : List A) → ((x : A) → P x → Q (f x)) → AllByRecursion P xs → AllByRecursion Q (map f xs)
all_mapped P Q f [] h all = tt
all_mapped P Q f (x ∷ xs) h all = (h x all.0, all_mapped P Q f xs h all.1)

-- ---- the parts between commas

short_take : (n : ℕ) (xs : List ℕ) → length (take n xs) ≤ length xs
short_take n xs = omega (arith, length-take n xs)

pub trimmed_ends : (most : ℕ) (n : Node) → EndsBy most n → EndsBy most (trimmed n)
trimmed_ends most n le =
    let left = drop (spaces_before n.bytes) n.bytes in
    omega (arith, prefix_len-le-length is_space n.bytes, length-drop (spaces_before n.bytes) n.bytes, short_take (length left - spaces_behind left) left)

part_short : (sep : ℕ) (s : Skip) (level : ℕ) (xs : List ℕ) → part_len sep s level xs ≤ length xs
unfolding part_len
part_short sep s level [] = omega arith
part_short sep s level (x ∷ xs) = by (skip_step sep s level x) (λ t l. part_short sep t l xs)
  where
    by : (o : Option (Skip × ℕ)) → ((t : Skip) (l : ℕ) → part_len sep t l xs ≤ length xs) → one_longer o (λ t l. part_len sep t l xs) ≤ suc (length xs)
    by None h = omega arith
    by (Some p) h = omega (arith, h p.0 p.1)

after_short : (xs ys : List ℕ) → after_comma xs ≡ Some ys → length ys + 1 ≤ length xs
after_short [] ys e = absurd cc
after_short (x ∷ xs) ys e = by (x == 44) e
  where
    by : (b : Bool) → cond b (Some xs) None ≡ Some ys → length ys + 1 ≤ suc (length xs)
    by true e' = let same : xs ≡ ys = cc in subst (λ (zs : List ℕ). length zs + 1 ≤ suc (length xs)) same (omega arith)
    by false e' = absurd cc

parts_end : (most k place : ℕ) (xs : List ℕ) → place + length xs ≤ most → AllByRecursion (EndsBy most) (parts_from k place xs)
unfolding parts_from
parts_end most zero place xs le = tt
parts_end most (suc k) place xs le =
    (omega (arith, short_take (comma_at xs) xs), more (after_comma (drop (comma_at xs) xs)) (λ ys e. parts_end most k (place + comma_at xs + 1) ys (omega (arith, after_short (drop (comma_at xs) xs) ys e, length-drop (comma_at xs) xs))))
  where
    more : (o : Option (List ℕ)) → ((ys : List ℕ) → o ≡ Some ys → AllByRecursion (EndsBy most) (parts_from k (place + comma_at xs + 1) ys))
        → AllByRecursion (EndsBy most) (if_more o (parts_from k (place + comma_at xs + 1)))
    more None h = tt
    more (Some ys) h = h ys refl'
      where
        refl' : Some ys ≡ Some ys
        refl' = cc

raw_end : (most place : ℕ) (bytes : List ℕ) → place + length bytes ≤ most → AllByRecursion (EndsBy most) (raw_parts place bytes)
raw_end most place [] le = tt
raw_end most place (x ∷ xs) le = by (has_first (drop (spaces_before xs) xs))
  where
    by : (more : Bool) → AllByRecursion (EndsBy most) (parts_left more (place + 1) xs)
    by true = parts_end most (length xs + 1) (place + 1) xs (omega arith)
    by false = tt

-- ---- items and members

pub items_end : (most : ℕ) (n : Node) → EndsBy most n → AllByRecursion (EndsBy most) (items n)
items_end most n le = all_mapped (EndsBy most) (EndsBy most) trimmed (raw_parts n.at_byte n.bytes) (trimmed_ends most) (raw_end most n.at_byte n.bytes le)

behind_ends : (most place : ℕ) (xs : List ℕ) → place + length xs ≤ most → EndsBy most (behind_colon place xs)
behind_ends most place [] le = le
behind_ends most place (x ∷ xs) le = omega arith

value_ends : (most : ℕ) (n : Node) → EndsBy most n → EndsBy most (member_of n).1
value_ends most n le =
    let colon = colon_at n.bytes in
    trimmed_ends most (behind_colon (n.at_byte + colon) (drop colon n.bytes))
    (behind_ends most (n.at_byte + colon) (drop colon n.bytes) (omega (arith, length-drop colon n.bytes, part_short 58 Plain 0 n.bytes)))

pub values_end : (most : ℕ) (n : Node) → EndsBy most n → AllByRecursion (λ m. EndsBy most m.1) (members n)
values_end most n le = all_mapped (EndsBy most) (λ m. EndsBy most m.1) member_of (raw_parts n.at_byte n.bytes) (value_ends most) (raw_end most n.at_byte n.bytes le)

-- the same, by the grammar
pub list_ends : (most : ℕ) (n : Node) (is : List Node) → IsListOf n is → EndsBy most n → AllByRecursion (EndsBy most) is
list_ends most n is h le = subst (AllByRecursion (EndsBy most)) (sym (only_items n h.0 is h.1)) (items_end most n le)

pub object_ends : (most : ℕ) (n : Node) (ms : List (Node × Node)) → IsObjectOf n ms → EndsBy most n → AllByRecursion (λ m. EndsBy most m.1) ms
object_ends most n ms h le = subst (AllByRecursion (λ m. EndsBy most m.1)) (sym (only_members n h.0 ms h.1)) (values_end most n le)
