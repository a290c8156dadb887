-- What is cut of a ring of a proper document, beside arcs that are pieces of it.
use Rattle.kit_words.proofs.Common.{◌≡◌, ◌≤◌, Bool, true, false, List, [], ◌∷◌, length, arith, Contains, AllByRecursion}
use Rattle.grid_geometry.specs.Common.{Position, position_eq}
use Rattle.ring_machine.specs.Common.{is_ring, Document, rings, Proper, is_junction}
use Rattle.ring_machine.proofs.Common.{In, position_eq-true, all_of, all_in, in-flat_map, contains_in, in_recursion}
use Rattle.map_text.specs.Common.{pieces, with_pieces, indexes, IsCut}
use Rattle.map_text.proofs.Common.{each-flat_map, Simple, ring_cut, long_cut}
use Rattle.map_text.proofs.Borders.{ends, goes, simple}
use Rattle.map_text.proofs.RingsBack.{Apart, pieces_apart}
use Rattle.topo_writer.specs.Common.{all_found, indexes_found, FitAll, all_pieces, ArePieces}
use Rattle.topo_writer.proofs.Ways.{Whole, Border, all_borders, fit_all, streamed}
use Rattle.topo_writer.proofs.OneWay.{one_way}

apart_eq : (p q : Position) → (p ≡ q → ⊥) → position_eq p q ≡ false
apart_eq p q n = grind (arith, position_eq-true p q)

-- a piece of a ring has two positions or more
pub ring_long : (j : Position → Bool) (ring : List Position) → AllByRecursion (λ piece. 2 ≤ length piece) (pieces j ring)
ring_long j ring =
    all_of (λ piece. 2 ≤ length piece) (pieces j ring)
    (λ piece i. long_cut j piece (in_recursion (IsCut j) (pieces j ring) piece (ring_cut j ring) i))

module _ (d : Document) (proper : Proper d) where
  are : (ring : List Position) → In ring (rings d) → is_ring ring ≡ true
  are ring i = all_in is_ring (rings d) ring proper.are_rings i

  abbrev IsWhole : List Position → Type 0
  IsWhole = Whole (ends d are) (goes d are)

  abbrev IsBorder : List Position → Type 0
  IsBorder = Border (ends d are) (goes d are)

  whole : (piece : List Position) → Simple (ends d are) (goes d are) piece → 2 ≤ length piece → Apart piece → IsWhole piece
  whole [] s l a = absurd (omega (arith, l))
  whole (p ∷ []) s l a = absurd (omega (arith, l))
  whole (p ∷ q ∷ ps) s l a = record { long = l; piece = s.piece; one_way = one_way p q ps (apart_eq p q a.0) s.once }

  long : AllByRecursion (λ piece. 2 ≤ length piece) (all_pieces d)
  long = each-flat_map (λ piece. 2 ≤ length piece) (pieces (is_junction d)) (rings d) (λ ring i. ring_long (is_junction d) ring)

  apart : AllByRecursion Apart (all_pieces d)
  apart = each-flat_map Apart (pieces (is_junction d)) (rings d) (λ ring i. pieces_apart (is_junction d) ring (are ring i))

  whole_piece : (piece : List Position) → In piece (all_pieces d) → IsWhole piece
  whole_piece piece i =
      whole piece (in_recursion (Simple (ends d are) (goes d are)) (all_pieces d) piece (simple d are) i)
      (in_recursion (λ ps. 2 ≤ length ps) (all_pieces d) piece long i) (in_recursion Apart (all_pieces d) piece apart i)

  borders : (arcs : List (List Position)) → ArePieces d arcs → AllByRecursion IsBorder arcs
  borders arcs h = all_borders (ends d are) (goes d are) arcs (all_of IsWhole arcs (λ a i. whole_piece a (contains_in (all_pieces d) a (in_recursion (Contains (all_pieces d)) arcs a h i))))

  module _ (ring : List Position) (there : Contains (rings d) ring) where
    in_all : (piece : List Position) → In piece (pieces (is_junction d) ring) → In piece (all_pieces d)
    in_all piece i = in-flat_map (pieces (is_junction d)) ring piece (rings d) (contains_in (rings d) ring there) i

    ring_whole : AllByRecursion IsWhole (pieces (is_junction d) ring)
    ring_whole = all_of IsWhole (pieces (is_junction d) ring) (λ piece i. whole_piece piece (in_all piece i))

    pub ring_fits : (arcs : List (List Position)) → ArePieces d arcs → FitAll arcs (pieces (is_junction d) ring)
    ring_fits arcs h = fit_all (ends d are) (goes d are) arcs (pieces (is_junction d) ring) (borders arcs h) ring_whole

    both : (arcs : List (List Position)) → ArePieces d arcs
        → (all_found arcs (pieces (is_junction d) ring) ≡ with_pieces arcs (pieces (is_junction d) ring))
        × (indexes_found arcs (pieces (is_junction d) ring) ≡ indexes (is_junction d) (with_pieces arcs (pieces (is_junction d) ring)) ring)
    both arcs h =
        streamed (ends d are) (goes d are) arcs (pieces (is_junction d) ring) (borders arcs h)
        (all_borders (ends d are) (goes d are) (pieces (is_junction d) ring) ring_whole)

    pub ring_arcs : (arcs : List (List Position)) → ArePieces d arcs
        → all_found arcs (pieces (is_junction d) ring) ≡ with_pieces arcs (pieces (is_junction d) ring)
    ring_arcs arcs h = (both arcs h).0

    pub ring_indexes : (arcs : List (List Position)) → ArePieces d arcs
        → indexes_found arcs (pieces (is_junction d) ring) ≡ indexes (is_junction d) (with_pieces arcs (pieces (is_junction d) ring)) ring
    ring_indexes arcs h = (both arcs h).1
