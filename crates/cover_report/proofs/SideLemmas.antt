-- The sides of borders, by their numbers.
use Rattle.kit_words.proofs.Common.{◌≡◌, ◌∙◌, ℕ, ◌<◌, ◌/◌, ◌%◌, ◌==◌, List, ap, sym, arith, length, length-map, get_or, get_or-map, if◌then◌else◌}
use Rattle.grid_geometry.specs.Common.{Segment}
use Rattle.layer_sides.specs.Common.{Bordering, Left, Right, border_seen, borders_seen}
use Rattle.layer_sides.specs.declared.border.Border.{Border}
use Rattle.layer_faces.specs.Common.{segments_seen, side_at, side_ends}
use Rattle.layer_faces.specs.Seen.{nowhere}

segment_read : {A : Type 0} (borders : List (Border A)) (i : ℕ) (b : Border A) → i < length borders
    → get_or (segments_seen borders) i nowhere ≡ (get_or borders i b).segment
segment_read borders i b l =
    let within : i < length (borders_seen borders) = omega (arith, l, length-map borders border_seen) in
    get_or-map (λ (x : Bordering). x.segment) (borders_seen borders) i (border_seen b) nowhere within
    ∙ ap (λ (x : Bordering). x.segment) (get_or-map border_seen borders i b (border_seen b) l)

-- the ends of a side are those of its border's segment
pub side_read : {A : Type 0} (borders : List (Border A)) (a : ℕ) (b : Border A) → a / 2 < length borders → b ≡ get_or borders (a / 2) b
    → side_ends (b.segment, if a % 2 == 0 then Left else Right) ≡ side_ends (side_at (segments_seen borders) a)
side_read {A = A} borders a b l e =
    ap (λ (s : Segment). side_ends (s, if a % 2 == 0 then Left else Right)) (ap (λ (x : Border A). x.segment) e ∙ sym (segment_read borders (a / 2) b l))
