-- The edges round a ring, and how they are compared.
use Rattle.kit_words.proofs.Common.{◌≡◌, ℕ, ◌+◌, ◌<◌, ◌≤◌, sym, ap, ◌∙◌, List, [], ◌∷◌, ◌++◌, length, drop, get_or}
use Rattle.kit_words.proofs.Common.{append_assoc, drop_of_length-le, map, ◌&&◌, list_any, at_drop_more}
use Rattle.grid_geometry.specs.Common.{Position, position_eq, Edge, links, edges}
use Rattle.ring_machine.specs.Common.{edge_eq, segment_of, is_common}
use Rattle.ring_machine.proofs.Common.{position_eq-sym, any_mapped}
use Rattle.ring_parts.specs.Common.{ends_of}

-- the edges of the way from a over the positions to z
abbrev pub walk : Position → List Position → Position → List Edge
walk a ps z = links (a ∷ ps ++ z ∷ [])

pub edge_step : (so_far more : List Edge) (from : Position) (rest : List Position) (i : ℕ) (z to : Position) → i < length rest → to ≡ get_or rest i to → more ≡ so_far ++ (from, to) ∷ [] →
    more ++ walk to (drop (i + 1) rest) z ≡ so_far ++ walk from (drop i rest) z
edge_step so_far more from rest i z to l e m =
    let left = walk to (drop (i + 1) rest) z in
    ap (λ es. es ++ left) m
    ∙ append_assoc so_far ((from, to) ∷ []) left
    ∙ sym (ap (λ es. so_far ++ es) (at_drop_more (λ ps. walk from ps z) rest i to l ∙ ap (λ t. walk from (t ∷ drop (i + 1) rest) z) (sym e)))

pub last_step : (so_far : List Edge) (from : Position) (rest : List Position) (i : ℕ) (z : Position) → length rest ≤ i → so_far ++ (from, z) ∷ [] ≡ so_far ++ walk from (drop i rest) z
last_step so_far from rest i z l = sym (ap (λ ps. so_far ++ walk from ps z) (drop_of_length-le rest l))

pub ruleset edge_steps = (edge_step, last_step)

-- edges are compared either way
pub edge_turned : (es : List Edge) (e : Edge) → list_any (λ f. edge_eq f e) es ≡ list_any (edge_eq e) es
edge_turned es e = λ i. list_any (λ f. position_eq-sym f.0 e.0 i && position_eq-sym f.1 e.1 i) es

-- a common segment by its ends
pub common_by_ends : (ring : List Position) (e : Edge) → list_any (edge_eq (ends_of e)) (map ends_of (edges ring)) ≡ is_common ring e
common_by_ends ring e = any_mapped (edge_eq (ends_of e)) ends_of (edges ring) ∙ sym (any_mapped (λ s. position_eq (segment_of e).lo s.lo && position_eq (segment_of e).hi s.hi) segment_of (edges ring))
