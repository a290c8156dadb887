-- A border that is read, and the ends of its sides.
use Rattle.kit_words.proofs.Common.{◌≡◌, ℕ, ◌+◌, ◌/◌, ◌%◌, ◌<◌, ℤ, ◌+ℤ◌, true, false, refl, sym, ap, ap₂, ◌∙◌, arith, eqb}
use Rattle.kit_words.proofs.Common.{List, map, length, get_or, take, length-map, mapped_more, eq-eqb, ne_eqb}
use Rattle.std.proofs.lemmas.List.{get_or-map}
use Rattle.std.proofs.lemmas.List.Sums.{sum_by_push}
use Rattle.grid_geometry.specs.Common.{Edge, Position, Segment, area_term}
use Rattle.layer_sides.specs.Common.{Bordering, Side, bottom, top}
use Rattle.layer_sides.specs.Seen.{border_seen, borders_seen}
use Rattle.layer_sides.specs.declared.border.Border.{Border}
use Rattle.layer_faces.specs.Areas.{side_ends, side_term, total}
use Rattle.layer_faces.specs.Lengths.{border_length, length_of}
use Rattle.layer_faces.specs.Kept.{apart, border_at, held_at, no_border}
use Rattle.layer_faces.specs.Seen.{nowhere, segments_seen, side_at}
use Rattle.layer_faces.proofs.Totals.{total_push}

long : {A : Type 0} (borders : List (Border A)) → length (borders_seen borders) ≡ length borders
long borders = length-map borders border_seen

pub segment_read : {A : Type 0} (borders : List (Border A)) (i : ℕ) (b : Border A) → i < length borders → b ≡ get_or borders i b
    → get_or (segments_seen borders) i nowhere ≡ b.segment
segment_read borders i b l e =
    get_or-map (λ (x : Bordering). x.segment) (borders_seen borders) i (border_seen b) nowhere (omega (arith, l, long borders))
    ∙ ap (λ (x : Bordering). x.segment) (get_or-map border_seen borders i b (border_seen b) l ∙ ap border_seen (sym e))

pub segment_at : {A : Type 0} (borders : List (Border A)) (i : ℕ) (b : Border A) → i < length borders
    → get_or (segments_seen borders) i nowhere ≡ (get_or borders i b).segment
segment_at borders i b l =
    get_or-map (λ (x : Bordering). x.segment) (borders_seen borders) i (border_seen b) nowhere (omega (arith, l, long borders))
    ∙ ap (λ (x : Bordering). x.segment) (get_or-map border_seen borders i b (border_seen b) l)

pub border_read : {A : Type 0} (borders : List (Border A)) (a : ℕ) (b : Border A) → a / 2 < length borders → b ≡ get_or borders (a / 2) b
    → border_at (borders_seen borders) a ≡ border_seen b
border_read borders a b l e = get_or-map border_seen borders (a / 2) b no_border l ∙ ap border_seen (sym e)

-- ---- the ends of a side

pub left_ends : (ss : List Segment) (a : ℕ) (s : Segment) (p q : Position) → get_or ss (a / 2) nowhere ≡ s → a % 2 ≡ 0
    → p ≡ bottom s → q ≡ top s → side_ends (side_at ss a) ≡ (p, q)
left_ends ss a s p q e even f g =
    let t : eqb (a % 2) 0 ≡ true = eq-eqb (a % 2) 0 even in
    rw (e, t) (ap₂ (λ (x y : Position). (x, y)) (sym f) (sym g))

pub right_ends : (ss : List Segment) (a : ℕ) (s : Segment) (p q : Position) → get_or ss (a / 2) nowhere ≡ s → (a % 2 ≡ 0 → ⊥)
    → p ≡ bottom s → q ≡ top s → side_ends (side_at ss a) ≡ (q, p)
right_ends ss a s p q e odd f g =
    let t : eqb (a % 2) 0 ≡ false = ne_eqb (a % 2) 0 odd in
    rw (e, t) (ap₂ (λ (x y : Position). (x, y)) (sym g) (sym f))

-- ---- who holds a side

pub left_held : (bs : List Bordering) (a : ℕ) (b : Bordering) → border_at bs a ≡ b → a % 2 ≡ 0 → held_at bs a ≡ apart b.bounds b.right
left_held bs a b e even = let t : eqb (a % 2) 0 ≡ true = eq-eqb (a % 2) 0 even in rw (e, t) refl

pub right_held : (bs : List Bordering) (a : ℕ) (b : Bordering) → border_at bs a ≡ b → (a % 2 ≡ 0 → ⊥) → held_at bs a ≡ b.right
right_held bs a b e odd = let t : eqb (a % 2) 0 ≡ false = ne_eqb (a % 2) 0 odd in rw (e, t) refl

-- ---- sums over sides, one more

pub area_more : (ss : List Segment) (ns : List ℕ) (i n : ℕ) (z t : ℤ) (p q : Position) → i < length ns → n ≡ get_or ns i n
    → side_ends (side_at ss n) ≡ (p, q) → t ≡ area_term p q → z ≡ total side_term (map (side_at ss) (take i ns))
    → z +ℤ t ≡ total side_term (map (side_at ss) (take (i + 1) ns))
area_more ss ns i n z t p q l e ends is h =
    let term : t ≡ side_term (side_at ss n) = is ∙ ap (λ (x : Edge). area_term x.0 x.1) (sym ends) in
    ap₂ ◌+ℤ◌ h term ∙ sym (total_push side_term (map (side_at ss) (take i ns)) (side_at ss n))
    ∙ sym (ap (total side_term) (mapped_more (side_at ss) ns i n l e))

pub length_more : (ss : List Segment) (ns : List ℕ) (i n m k : ℕ) (s : Segment) → i < length ns → n ≡ get_or ns i n
    → get_or ss (n / 2) nowhere ≡ s → k ≡ length_of s → m ≡ border_length (map (side_at ss) (take i ns))
    → m + k ≡ border_length (map (side_at ss) (take (i + 1) ns))
length_more ss ns i n m k s l e there is h =
    let term : k ≡ length_of (side_at ss n).0 = is ∙ ap length_of (sym there) in
    ap₂ ◌+◌ h term ∙ sym (sum_by_push (λ (a : Side). length_of a.0) (map (side_at ss) (take i ns)) (side_at ss n))
    ∙ sym (ap border_length (mapped_more (side_at ss) ns i n l e))
