-- What the code holds, seen as borders: at a place, and with one border changed.
use Rattle.kit_words.proofs.Common.{◌≡◌, ℕ, ◌<◌, sym, ap, ◌∙◌, List, length, get_or, set, get_or-map, map-set, Vec}
use Rattle.kit_words.proofs.Common.{length-map, get_or_default, ap₂, [], ◌∷◌, ◌++◌, subst, IsStrictlySortedBy}
use Rattle.std.specs.Ordering.{nat_cmp}
use Rattle.grid_geometry.specs.Common.{Position}
use Rattle.layer_sides.specs.Borders.{Bordering}
use Rattle.layer_sides.specs.declared.border.Border.{Border}
use Rattle.layer_sides.specs.declared.vertices.Vertex.{Vertex}
use Rattle.layer_sides.specs.Seen.{border_seen, borders_seen, segments_seen, vertex_seen, vertices_seen}
use Rattle.layer_sides.specs.Under.{AreAscending, Notes, VertexOf, border_at, bounds_of, segment_at, segments_of, with_right}

pub border_at_seen : {A : Type 0} (xs : List (Border A)) (i : ℕ) (x : Border A) → i < length xs → border_at (borders_seen xs) i ≡ border_seen (get_or xs i x)
border_at_seen xs i x l = get_or-map border_seen xs i x _ l

pub segment_of_border : (bs : List Bordering) (i : ℕ) → i < length bs → segment_at (segments_of bs) i ≡ (border_at bs i).segment
segment_of_border bs i l = get_or-map (λ (b : Bordering). b.segment) bs i _ _ l

pub segment_seen : {A : Type 0} (xs : List (Border A)) (i : ℕ) (x : Border A) → i < length xs
    → (get_or xs i x).segment ≡ segment_at (segments_seen xs) i
segment_seen xs i x l =
    sym (segment_of_border (borders_seen xs) i (rw length-map l) ∙ ap (λ (b : Bordering). b.segment) (border_at_seen xs i x l))

-- a border with other numbers for its right side
pub right_set : {A : Type 0} (xs : List (Border A)) (i : ℕ) (x : Border A) (numbers : Vec ℕ A) → i < length xs → x ≡ get_or xs i x
    → borders_seen (set xs i (record { segment = x.segment; bounds = x.bounds; right = numbers }))
    ≡ set (borders_seen xs) i (with_right (border_at (borders_seen xs) i) numbers.items)
right_set xs i x numbers l e =
    map-set border_seen xs i (record { segment = x.segment; bounds = x.bounds; right = numbers })
    ∙ ap (λ (b : Bordering). set (borders_seen xs) i (with_right b numbers.items)) (ap border_seen e ∙ sym (border_at_seen xs i x l))

pub length_seen : {A : Type 0} (xs : List (Border A)) → length (segments_seen xs) ≡ length xs
length_seen xs = length-map (borders_seen xs) (λ (b : Bordering). b.segment) ∙ length-map xs border_seen

-- ---- what is noted

pub noted : {A : Type 0} (xs : List (Vertex A)) (k : ℕ) (x : Vertex A) (place : ℕ) (at : Position) (pushed : Vec ℕ A)
    → k < length xs → x ≡ get_or xs k x → x.at ≡ at → pushed.items ≡ x.begun.items ++ place ∷ []
    → Notes place at (vertices_seen xs) (vertices_seen (set xs k (record { at = x.at; begun = pushed })))
noted xs k x place at pushed l e h f = record {
  k = k;
  bound = rw length-map l;
  there = ap (λ (v : VertexOf). v.0) here ∙ h;
  noted = map-set vertex_seen xs k (record { at = x.at; begun = pushed })
      ∙ ap₂ (λ p ns. set (vertices_seen xs) k (p, ns)) h (f ∙ ap (λ (v : VertexOf). v.1 ++ place ∷ []) (sym here));
}
  where
    here : get_or (vertices_seen xs) k (at, []) ≡ vertex_seen x
    here = get_or-map vertex_seen xs k x _ l ∙ ap vertex_seen (sym e)

-- the numbers of a border's polygons ascend, where those of all do
pub bounds_sorted : {A : Type 0} (xs : List (Border A)) (i : ℕ) (x : Border A) → i < length xs → x ≡ get_or xs i x
    → AreAscending (bounds_of (borders_seen xs)) → IsStrictlySortedBy nat_cmp x.bounds.items
bounds_sorted xs i x l e h =
    subst (IsStrictlySortedBy nat_cmp)
    (get_or-map (λ (b : Bordering). b.bounds) (borders_seen xs) i (border_seen x) [] (rw length-map l)
    ∙ ap (λ (b : Bordering). b.bounds) (get_or-map border_seen xs i x (border_seen x) l ∙ ap border_seen (sym e)))
    (h i [] (rw (length-map, length-map) l))

-- the segment of an element
pub segment_item : {A : Type 0} (xs : List (Border A)) (i : ℕ) (x : Border A) → i < length xs → x ≡ get_or xs i x
    → x.segment ≡ segment_at (segments_seen xs) i
segment_item xs i x l e = ap (λ (b : Border _). b.segment) e ∙ segment_seen xs i x l

pub same_length : {A : Type 0} (xs ys : List (Border A)) → segments_seen ys ≡ segments_seen xs → length ys ≡ length xs
same_length xs ys e = sym (length_seen ys) ∙ ap length e ∙ length_seen xs

-- what is noted where the code has found the vertex
pub noted_there : {A : Type 0} (xs : List (Vertex A)) (k : ℕ) (seen x : Vertex A) (place : ℕ) (at : Position) (pushed : Vec ℕ A)
    → k < length xs → seen ≡ get_or xs k seen → x ≡ get_or xs k x → seen.at ≡ at → pushed.items ≡ x.begun.items ++ place ∷ []
    → Notes place at (vertices_seen xs) (vertices_seen (set xs k (record { at = x.at; begun = pushed })))
noted_there xs k seen x place at pushed l d e h f =
    noted xs k x place at pushed l e (ap (λ (v : Vertex _). v.at) (e ∙ get_or_default xs k x seen l ∙ sym d) ∙ h) f
