-- The indexes of a ring name its pieces among the arcs.
use Rattle.kit_words.proofs.Common.{◌≡◌, ◌+◌, Bool, true, false, refl, sym, ap, ap₂, ◌∙◌, cond, List, [], ◌∷◌, ◌++◌}
use Rattle.kit_words.proofs.Common.{◌||◌, length, map, append_assoc, reverse, ℤ, pos, negsuc, subst, Option, Some, None}
use Rattle.kit_words.proofs.Common.{slice_get, option_map, unwrap_or, flat_map, AllByRecursion, AllZip, false≢true}
use Rattle.kit_words.proofs.Common.{or_left, length-append, list_any-append, or_right}
use Rattle.json_spans.specs.Common.{Node, IsWhole}
use Rattle.grid_geometry.specs.Common.{Position}
use Rattle.ring_machine.specs.Common.{Document, rings, is_junction}
use Rattle.ring_machine.proofs.Common.{In, all_of, in-flat_map, in_recursion}
use Rattle.topo_reader.specs.Common.{Arc, arc_named, IsUse, forward, backward}
use Rattle.map_text.specs.Common.{pieces, are_equal, index_from, index_of, indexes, is_arc, with_piece, with_pieces}
use Rattle.map_text.specs.Common.{arcs_of}
use Rattle.map_text.proofs.OnceEach.{are_equal-true, are_equal-refl, is_same}

-- ---- an index names its piece

get_at : (front : List Arc) (a : Arc) (arcs : List Arc) → slice_get (front ++ a ∷ arcs) (length front) ≡ Some a
get_at [] a arcs = refl
get_at (x ∷ front) a arcs = get_at front a arcs

named_at : (front arcs : List Arc) (piece : List Position) → is_arc arcs piece ≡ true
    → arc_named (front ++ arcs) (unwrap_or (index_from (length front) arcs piece) (pos 0)) ≡ Some piece
named_at front [] piece h = absurd (false≢true h)
named_at front (a ∷ arcs) piece h =
    by (are_equal a piece) (are_equal (reverse a) piece) refl refl h (λ k. step (named_at (front ++ a ∷ []) arcs piece k))
  where
    step : arc_named ((front ++ a ∷ []) ++ arcs) (unwrap_or (index_from (length (front ++ a ∷ [])) arcs piece) (pos 0)) ≡ Some piece
        → arc_named (front ++ a ∷ arcs) (unwrap_or (index_from (length front + 1) arcs piece) (pos 0)) ≡ Some piece
    step e =
        sym (ap₂ (λ y n. arc_named y (unwrap_or (index_from n arcs piece) (pos 0))) (append_assoc front (a ∷ []) arcs) (length-append front (a ∷ [])))
        ∙ e

    by : (b c : Bool) → are_equal a piece ≡ b → are_equal (reverse a) piece ≡ c → ((b || c) || is_arc arcs piece) ≡ true
        → (is_arc arcs piece ≡ true → arc_named (front ++ a ∷ arcs) (unwrap_or (index_from (length front + 1) arcs piece) (pos 0)) ≡ Some piece)
        → arc_named (front ++ a ∷ arcs) (unwrap_or (cond b (Some (pos (length front))) (cond c (Some (negsuc (length front))) (index_from (length front + 1) arcs piece))) (pos 0)) ≡ Some piece
    by true c e f t r = get_at front a arcs ∙ ap (λ z. Some z) (are_equal-true a piece e)
    by false true e f t r = ap (option_map reverse) (get_at front a arcs) ∙ ap (λ z. Some z) (are_equal-true (reverse a) piece f)
    by false false e f t r = r t

pub index_names : (arcs : List Arc) (piece : List Position) → is_arc arcs piece ≡ true
    → arc_named arcs (index_of arcs piece) ≡ Some piece
index_names arcs piece h = named_at [] arcs piece h

-- ---- every piece is one of the arcs

stays_arc : (arcs : List Arc) (qs ps : List Position) → is_arc arcs ps ≡ true → is_arc (with_piece arcs qs) ps ≡ true
stays_arc arcs qs ps h = by (is_arc arcs qs)
  where
    by : (b : Bool) → is_arc (cond b arcs (arcs ++ qs ∷ [])) ps ≡ true
    by true = h
    by false = list_any-append (λ a. is_same a ps) arcs (qs ∷ []) ∙ or_left (is_arc arcs ps) (is_arc (qs ∷ []) ps) h

pub becomes_arc : (arcs : List Arc) (ps : List Position) → is_arc (with_piece arcs ps) ps ≡ true
becomes_arc arcs ps = by (is_arc arcs ps) refl
  where
    by : (b : Bool) → is_arc arcs ps ≡ b → is_arc (cond b arcs (arcs ++ ps ∷ [])) ps ≡ true
    by true e = e
    by false e =
        list_any-append (λ a. is_same a ps) arcs (ps ∷ [])
        ∙ or_right (is_arc arcs ps) (is_arc (ps ∷ []) ps) (ap (λ b. (b || are_equal (reverse ps) ps) || false) (are_equal-refl ps))

kept_arc : (arcs pss : List Arc) (ps : List Position) → is_arc arcs ps ≡ true → is_arc (with_pieces arcs pss) ps ≡ true
kept_arc arcs [] ps h = h
kept_arc arcs (qs ∷ pss) ps h = kept_arc (with_piece arcs qs) pss ps (stays_arc arcs qs ps h)

pub all_arcs : (arcs pss : List Arc) → AllByRecursion (λ ps. is_arc (with_pieces arcs pss) ps ≡ true) pss
all_arcs arcs [] = tt
all_arcs arcs (ps ∷ pss) = (kept_arc (with_piece arcs ps) pss ps (becomes_arc arcs ps), all_arcs (with_piece arcs ps) pss)

-- ---- the indexes of a ring

-- the index names this arc, in its direction
abbrev pub Names : List Arc → ℤ → Arc → Type 0
Names arcs z a = arc_named arcs z ≡ Some a

each_named : (arcs pss : List Arc) → AllByRecursion (λ ps. is_arc arcs ps ≡ true) pss → AllZip (Names arcs) (map (index_of arcs) pss) pss
each_named arcs [] h = tt
each_named arcs (ps ∷ pss) h = (index_names arcs ps h.0, each_named arcs pss h.1)

-- the indexes of a ring of the document name its pieces
pub indexes_name : (d : Document) (ring : List Position) → In ring (rings d)
    → AllZip (Names (arcs_of d)) (indexes (is_junction d) (arcs_of d) ring) (pieces (is_junction d) ring)
indexes_name d ring i =
    each_named (arcs_of d) (pieces (is_junction d) ring)
    (all_of (λ ps. is_arc (arcs_of d) ps ≡ true) (pieces (is_junction d) ring) (λ ps k. in_recursion (λ qs. is_arc (arcs_of d) qs ≡ true) all ps (all_arcs [] all)
    (in-flat_map (pieces (is_junction d)) ring ps (rings d) i k)))
  where
    all : List Arc
    all = flat_map (pieces (is_junction d)) (rings d)

-- a node that is an index of an arc is a use of it
pub is_use : (arcs : List Arc) (n : Node) (z : ℤ) (a : Arc) → IsWhole n.bytes z → Names arcs z a → IsUse arcs n a
is_use arcs n (pos i) a e h = forward e h
is_use arcs n (negsuc i) a e h = by (slice_get arcs i) refl h
  where
    by : (o : Option Arc) → slice_get arcs i ≡ o → option_map reverse o ≡ Some a → IsUse arcs n a
    by None f k = absurd cc
    by (Some b) f k = let same : reverse b ≡ a = cc in subst (IsUse arcs n) same (backward e f)
