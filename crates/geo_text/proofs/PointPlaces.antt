-- Where the points of a map stand in its text.
use Rattle.kit_words.proofs.Common.{◌≡◌, ◌∙◌, ap, sym, ℕ, zero, suc, ◌≤◌, ◌<◌, ◌∷◌, [], Bool, true, false, if◌then◌else◌, List, length, map, flat_map, get_or, arith, codes, AllByRecursion, all_joined}
use Rattle.kit_words.proofs.Common.{length-map, get_or-map}
use Rattle.json_spans.specs.Common.{Node, items, members, node}
use Rattle.json_spans.specs.declared.span.Span.{Span}
use Rattle.topo_reader.specs.Common.{root_of}
use Rattle.decimal_texts.specs.Common.{all_geometries, collected, geometries_in, has_type, is_of, says, value_in}
use Rattle.decimal_texts.specs.Geometries.{value_named}
use Rattle.decimal_texts.specs.declared.geometries.Shape.{Shape}
use Rattle.decimal_texts.specs.declared.geometries.Shape.TheVariants as shape
use Rattle.geo_text.specs.Places.{point_place}
use Rattle.geo_text.proofs.Inside.{EndsBy, items_end, values_end}
use Rattle.geo_text.proofs.ShortTexts.{root_ends}

all_flat : {A B : Type 0} (P : A → Type 0) (Q : B → Type 0) (f : A → List B) (xs : List A) → ((x : A) → P x → AllByRecursion Q (f x)) → AllByRecursion P xs → AllByRecursion Q (flat_map f xs)
all_flat P Q f [] h all = tt
all_flat P Q f (x ∷ xs) h all = all_joined Q (f x) (flat_map f xs) (h x all.0) (all_flat P Q f xs h all.1)

named_ends : (most : ℕ) (name : List ℕ) (ms : List (Node × Node)) → AllByRecursion (λ m. EndsBy most m.1) ms → AllByRecursion (EndsBy most) (value_named name ms)
unfolding value_named
named_ends most name [] all = tt
named_ends most name (m ∷ ms) all = by (says name m.0) (named_ends most name ms all.1)
  where
    by : (b : Bool) → AllByRecursion (EndsBy most) (value_named name ms) → AllByRecursion (EndsBy most) (if b then (m.1 ∷ []) else value_named name ms)
    by true rest = (all.0, tt)
    by false rest = rest

in_ends : (most : ℕ) (name : List ℕ) (n : Node) → EndsBy most n → AllByRecursion (EndsBy most) (value_in name n)
in_ends most name n le = named_ends most name (members n) (values_end most n le)

collected_ends : (most : ℕ) (n : Node) → EndsBy most n → AllByRecursion (EndsBy most) (collected n)
collected_ends most n le = by (has_type (codes "GeometryCollection") n)
  where
    by : (b : Bool) → AllByRecursion (EndsBy most) (if b then value_in (codes "geometries") n else [])
    by true = in_ends most (codes "geometries") n le
    by false = tt

geometries_end : (most : ℕ) (s : Shape) (d : ℕ) (n : Node) → EndsBy most n → AllByRecursion (EndsBy most) (geometries_in s d n)
unfolding geometries_in
geometries_end most s zero n le = tt
geometries_end most s (suc d) n le = by (is_of s n) (all_flat (EndsBy most) (EndsBy most) (geometries_in s d) (flat_map items (collected n)) (geometries_end most s d) (all_flat (EndsBy most) (EndsBy most) items (collected n) (items_end most) (collected_ends most n le)))
  where
    by : (b : Bool) → AllByRecursion (EndsBy most) (flat_map (geometries_in s d) (flat_map items (collected n)))
        → AllByRecursion (EndsBy most) (if b then (n ∷ []) else flat_map (geometries_in s d) (flat_map items (collected n)))
    by true rest = (le, tt)
    by false rest = rest

all_end : (most : ℕ) (s : Shape) (root : Node) → EndsBy most root → AllByRecursion (EndsBy most) (all_geometries s root)
all_end most s root le =
    all_flat (λ m. EndsBy most m.1) (EndsBy most) (λ m. geometries_in s 100 m.1) (flat_map members (value_in (codes "objects") root)) (λ m h. geometries_end most s 100 m.1 h)
    (all_flat (EndsBy most) (λ m. EndsBy most m.1) members (value_in (codes "objects") root) (values_end most) (in_ends most (codes "objects") root le))

place_within : (most : ℕ) (ns : List Node) (i : ℕ) → AllByRecursion (EndsBy most) ns → get_or (map (λ p. p.at_byte) ns) i 0 ≤ most
place_within most [] zero all = omega arith
place_within most [] (suc i) all = omega arith
place_within most (n ∷ ns) zero all = omega (arith, all.0)
place_within most (n ∷ ns) (suc i) all = place_within most ns i all.1

-- a point stands within the text of the map
pub point_place_within : (bytes : List ℕ) (n : ℕ) → point_place bytes n ≤ length bytes
point_place_within bytes n = place_within (length bytes) (all_geometries shape.Points (root_of bytes)) n (all_end (length bytes) shape.Points (root_of bytes) (root_ends bytes))

-- ---- as the code finds them

place_at : List Node → ℕ → ℕ
place_at ns n = get_or (map (λ p. p.at_byte) ns) n 0

module _ (bytes : List ℕ) (spans : List Span) (all : map node spans ≡ all_geometries shape.Points (root_of bytes)) (n : ℕ) where
  -- the point with this number
  pub place_there : (s : Span) → n < length spans → s ≡ get_or spans n s → s.at ≡ point_place bytes n
  unfolding place_at
  place_there s lt is =
      sym (ap (λ (ns : List Node). place_at ns n) (sym all)
      ∙ get_or-map (λ (p : Node). p.at_byte) (map node spans) n (node s) 0 (omega (arith, length-map spans node))
      ∙ ap (λ (p : Node). p.at_byte) (get_or-map node spans n s (node s) lt)
      ∙ ap (λ (t : Span). t.at) (sym is))
