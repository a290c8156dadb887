-- Walks led along paths, one edge after another.
use Rattle.kit_words.proofs.Common.{◌≡◌, length, arith, true, false, refl, sym, subst, cond, List, [], ◌∷◌, ◌++◌}
use Rattle.kit_words.proofs.Common.{reverse, flat_map, is_lt, is_gt, Ordering, Less, Equal, Greater, false≢true}
use Rattle.grid_geometry.specs.Common.{Position, position_cmp, position_lt, Segment, segment, Edge}
use Rattle.grid_geometry.proofs.Common.{position_cmp-exact}
use Rattle.ring_machine.proofs.Common.{edges_to, edges_is}
use Rattle.segment_paths.specs.Common.{PathOfSegment, inner_of}
use Rattle.walk_mending.specs.Common.{edge_along, laid, KeepsInOrder, ends, kept, between}

abbrev pub from_to : Position → Position → Segment
from_to a b = record { lo = a; hi = b }

-- the segment of an edge that goes up, and of one that does not
pub up : (a b : Position) → position_lt a b ≡ true → segment a b ≡ from_to a b
up a b h = by (position_cmp a b) h
  where
    by : (o : Ordering) → is_lt o ≡ true → cond (is_gt o) (from_to b a) (from_to a b) ≡ from_to a b
    by Less k = refl
    by Equal k = refl
    by Greater k = absurd (false≢true k)

pub down : (a b : Position) → position_lt a b ≡ false → segment a b ≡ from_to b a
down a b h = by (position_cmp a b) refl h
  where
    by : (o : Ordering) → position_cmp a b ≡ o → is_lt o ≡ false → cond (is_gt o) (from_to b a) (from_to a b) ≡ from_to b a
    by Less e k = absurd (false≢true (sym k))
    by Equal e k = let same = position_cmp-exact a b e in λ i. record { lo = same i; hi = sym same i }
    by Greater e k = refl

-- ---- nothing is left out, and the order stays

behind : (qs ps rs : List Position) → KeepsInOrder ps rs → KeepsInOrder ps (qs ++ rs)
behind [] ps rs h = h
behind (q ∷ qs) ps rs h = between (behind qs ps rs h)

edges_keep : (f : Edge → List Position) (q : Position) (ps : List Position) → KeepsInOrder ps (flat_map (λ e. e.0 ∷ f e) (edges_to q ps))
edges_keep f q [] = ends
edges_keep f q (p ∷ []) = kept (behind (f (p, q)) [] [] ends)
edges_keep f q (p ∷ r ∷ ps) = kept (behind (f (p, r)) (r ∷ ps) (flat_map (λ e. e.0 ∷ f e) (edges_to q (r ∷ ps))) (edges_keep f q (r ∷ ps)))

-- the walk stands in the laid one
pub laid_keeps : (paths : List PathOfSegment) (walk : List Position) → KeepsInOrder walk (laid paths walk)
laid_keeps paths [] = ends
laid_keeps paths (p ∷ ps) =
    subst (λ es. KeepsInOrder (p ∷ ps) (flat_map (edge_along paths) es)) (sym (edges_is p ps))
    (edges_keep (λ e. cond (position_lt e.0 e.1) (inner_of paths (segment e.0 e.1)) (reverse (inner_of paths (segment e.0 e.1)))) p (p ∷ ps))

pub none_keeps : (walk found : List Position) → length walk ≡ 0 → found ≡ [] → KeepsInOrder walk found
none_keeps [] found l e = subst (KeepsInOrder []) (sym e) ends
none_keeps (p ∷ ps) found l e = absurd (omega arith)

pub keeps_if : (paths : List PathOfSegment) (walk found : List Position) → found ≡ laid paths walk → KeepsInOrder walk found
keeps_if paths walk found e = subst (KeepsInOrder walk) (sym e) (laid_keeps paths walk)
