-- The elements of a list so far, and all of them.
use Rattle.kit_words.proofs.Common.{◌≡◌, ◌<◌, ◌≤◌, ◌+◌, ℕ, true, refl, sym, ap, ◌∙◌, List, [], ◌∷◌, ◌++◌, map, length}
use Rattle.kit_words.proofs.Common.{take, get_or, inl, inr, ◌||◌, arith, flat_map, false≢true, take_more}
use Rattle.kit_words.proofs.Common.{length-flat_map-take, or_cases, or_right}
use Rattle.std.proofs.lemmas.List.{flat_map_more}
use Rattle.grid_geometry.specs.Common.{Segment}
use Rattle.ring_machine.proofs.Common.{In}
use Rattle.segment_index.specs.Common.{has, segment_is}
use Rattle.segment_index.proofs.Common.{same_segment, is-itself}

-- ---- the segments of a list

pub in-has : (ss : List Segment) (t : Segment) → has ss t ≡ true → In t ss
in-has [] t h = absurd (false≢true h)
in-has (s ∷ ss) t h = elim (or_cases (segment_is t s) (has ss t) h) [
  | inl e ↦ inl (sym (same_segment t s e))
  | inr k ↦ inr (in-has ss t k)
]

pub has-in : (ss : List Segment) (t : Segment) → In t ss → has ss t ≡ true
has-in [] t i = absurd i
has-in (s ∷ ss) t (inl e) = ap (λ b. b || has ss t) (ap (segment_is t) e ∙ is-itself t)
has-in (s ∷ ss) t (inr i) = or_right (segment_is t s) (has ss t) (has-in ss t i)

-- ---- one element more

-- what each element gives as it is seen
pub flat_seen : {X Y Z : Type 0} (f : Y → List Z) (seen : X → Y) (xs : List X) → flat_map f (map seen xs) ≡ flat_map (λ x. f (seen x)) xs
flat_seen f seen [] = refl
flat_seen f seen (x ∷ xs) = ap (λ z. f (seen x) ++ z) (flat_seen f seen xs)

-- so many of all
pub seen_among : {X Y Z : Type 0} (f : Y → List Z) (seen : X → Y) (xs : List X) (i : ℕ) (x : X) → i < length xs → x ≡ get_or xs i x
    → length (flat_map f (map seen (take i xs))) + length (f (seen x)) ≤ length (flat_map f (map seen xs))
seen_among f seen xs i x l e = omega (
  arith,
  length-flat_map-take (λ y. f (seen y)) xs i x l,
  ap length (flat_seen f seen (take i xs)),
  ap length (flat_seen f seen xs),
  ap (λ y. length (f (seen y))) e,
)

-- with those of the next one there are more than so many
pub flat_past : {X Y : Type 0} (f : X → List Y) (xs : List X) (i : ℕ) (x : X) (found : List Y) (n most : ℕ) → i < length xs → x ≡ get_or xs i x
    → found ≡ flat_map f (take i xs) → n ≡ length (f x) → most < length found + n → most < length (flat_map f xs)
flat_past f xs i x found n most l e is count more =
    omega (arith, length-flat_map-take f xs i x l, ap length is, ap (λ y. length (f y)) e, count, more)

-- what the next one gives comes after what those before it gave
pub flat_next : {X Y : Type 0} (f : X → List Y) (xs : List X) (i : ℕ) (x : X) (before after : List Y) → i < length xs → x ≡ get_or xs i x
    → before ≡ flat_map f (take i xs) → after ≡ before ++ f x → after ≡ flat_map f (take (i + 1) xs)
flat_next f xs i x before after l e so_far is =
    is ∙ ap (λ z. z ++ f x) so_far ∙ flat_map_more f [] (take i xs) x
    ∙ ap (flat_map f) (sym (take_more xs i x l ∙ ap (λ z. take i xs ++ z ∷ []) (sym e)))
