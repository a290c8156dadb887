-- The rings that are named, and the arcs along them.
use Rattle.kit_words.proofs.Common.{◌≡◌, ℕ, zero, suc, ◌≤◌, sym, ap, ◌∙◌, subst, List, [], ◌∷◌, ◌++◌, map, length}
use Rattle.kit_words.proofs.Common.{get_or, Contains, flat_map, AllByRecursion, append-nil, map-append, flat_map-append}
use Rattle.kit_words.proofs.Common.{all_front, all_back, all_joined}
use Rattle.grid_geometry.specs.Common.{Position}
use Rattle.ring_machine.specs.Common.{Document, rings, Proper, is_junction}
use Rattle.ring_machine.proofs.Common.{all_of, in-flat_map, contains_in, in_contains, in_recursion}
use Rattle.map_text.specs.Common.{indexes, pieces, with_pieces}
use Rattle.map_text.proofs.Common.{with_pieces-each}
use Rattle.topo_writer.specs.Common.{arcs_along, named_ring, all_rings_at, polygons_at, rings_at, all_found, all_pieces}
use Rattle.topo_writer.specs.Common.{indexes_found, ArePieces, FitAll}
use Rattle.topo_writer.specs.declared.arcs.RingName.{RingName}
use Rattle.topo_writer.proofs.InDocument.{rings_there}
use Rattle.topo_writer.proofs.Later.{with_pieces-append}
use Rattle.topo_writer.proofs.ReadRings.{ring_is}
use Rattle.topo_writer.proofs.RingPieces.{ring_arcs, ring_fits, ring_indexes, ring_long}
use Rattle.topo_writer.proofs.SeenParts.{polygon_is_at}

-- ---- what holds of the rings that are named

each_or : {A : Type 0} (P : A → Type 0) (xs : List A) (i : ℕ) (d : A) → AllByRecursion P xs → P d → P (get_or xs i d)
each_or P [] i d h p = p
each_or P (x ∷ xs) zero d h p = h.0
each_or P (x ∷ xs) (suc i) d h p = each_or P xs i d h.1 p

parts_each : {A : Type 0} (P : A → Type 0) (xss : List (List A)) → AllByRecursion P (flat_map (λ xs. xs) xss) → AllByRecursion (AllByRecursion P) xss
parts_each P [] h = tt
parts_each P (xs ∷ xss) h =
    (all_front P xs (flat_map (λ ys. ys) xss) h, parts_each P xss (all_back P xs (flat_map (λ ys. ys) xss) h))

-- what holds of no position, and of each ring of the document, holds of a ring that is named
pub each_named : (d : Document) (P : List Position → Type 0) → P [] → ((ring : List Position) → Contains (rings d) ring → P ring)
    → (name : RingName) → P (named_ring d name)
each_named d P none each name =
    let n = name.feature in
    let all : AllByRecursion P (all_rings_at d n) =
    all_of P (all_rings_at d n) (λ ring i. each ring (in_recursion (Contains (rings d)) (all_rings_at d n) ring (rings_there d n) i)) in
    let mine : AllByRecursion P (rings_at d n name.polygon) =
    subst (AllByRecursion P) (sym (polygon_is_at d n name.polygon))
    (each_or (AllByRecursion P) (polygons_at d n) name.polygon [] (parts_each P (polygons_at d n) all) tt) in
    subst P (sym (ring_is d n name.polygon name.ring)) (each_or P (rings_at d n name.polygon) name.ring [] mine none)

-- ---- the arcs along them

module _ (d : Document) where
  ring_pieces : (ring : List Position) → Contains (rings d) ring → AllByRecursion (Contains (all_pieces d)) (pieces (is_junction d) ring)
  ring_pieces ring c =
      all_of (Contains (all_pieces d)) (pieces (is_junction d) ring)
      (λ piece i. in_contains (all_pieces d) piece (in-flat_map (pieces (is_junction d)) ring piece (rings d) (contains_in (rings d) ring c) i))

  pieces_there : (names : List RingName) → AllByRecursion (Contains (all_pieces d)) (flat_map (pieces (is_junction d)) (map (named_ring d) names))
  pieces_there [] = tt
  pieces_there (name ∷ names) =
      all_joined (Contains (all_pieces d)) (pieces (is_junction d) (named_ring d name)) (flat_map (pieces (is_junction d)) (map (named_ring d) names))
      (each_named d (λ ring. AllByRecursion (Contains (all_pieces d)) (pieces (is_junction d) ring)) tt ring_pieces name) (pieces_there names)

  -- they are pieces of the document
  pub along_pieces : (names : List RingName) → ArePieces d (arcs_along d names)
  along_pieces names =
      with_pieces-each (Contains (all_pieces d)) [] (flat_map (pieces (is_junction d)) (map (named_ring d) names)) tt (pieces_there names)

  along_both : (xs ys : List RingName)
      → arcs_along d (xs ++ ys) ≡ with_pieces (arcs_along d xs) (flat_map (pieces (is_junction d)) (map (named_ring d) ys))
  along_both xs ys =
      let j = is_junction d in
      let front = map (named_ring d) xs in
      let rest = map (named_ring d) ys in
      ap (λ z. with_pieces [] (flat_map (pieces j) z)) (map-append (named_ring d) xs ys)
      ∙ ap (with_pieces []) (flat_map-append (pieces j) front rest)
      ∙ with_pieces-append j [] [] (flat_map (pieces j) front) (flat_map (pieces j) rest)

  -- one ring more
  pub along_more : (names : List RingName) (name : RingName)
      → arcs_along d (names ++ name ∷ []) ≡ with_pieces (arcs_along d names) (pieces (is_junction d) (named_ring d name))
  along_more names name =
      along_both names (name ∷ []) ∙ ap (with_pieces (arcs_along d names)) (append-nil (pieces (is_junction d) (named_ring d name)))

-- ---- one ring more, which was cut into pieces

module _ (d : Document) (proper : Proper d) (old : List RingName) (name : RingName) (there : Contains (rings d) (named_ring d name))
    (cut : List (List Position)) (is : cut ≡ pieces (is_junction d) (named_ring d name)) where
  pub named_long : AllByRecursion (λ piece. 2 ≤ length piece) cut
  named_long = subst (AllByRecursion (λ piece. 2 ≤ length piece)) (sym is) (ring_long (is_junction d) (named_ring d name))

  pub named_fits : FitAll (arcs_along d old) cut
  named_fits =
      subst (FitAll (arcs_along d old)) (sym is)
      (ring_fits d proper (named_ring d name) there (arcs_along d old) (along_pieces d old))

  module _ (new : List RingName) (more : new ≡ old ++ name ∷ []) where
    pub named_arcs : arcs_along d new ≡ with_pieces (arcs_along d old) (pieces (is_junction d) (named_ring d name))
    named_arcs = ap (arcs_along d) more ∙ along_more d old name

    pub named_found : all_found (arcs_along d old) cut ≡ arcs_along d new
    named_found =
        ap (all_found (arcs_along d old)) is
        ∙ ring_arcs d proper (named_ring d name) there (arcs_along d old) (along_pieces d old) ∙ sym named_arcs

    pub named_indexes : indexes_found (arcs_along d old) cut ≡ indexes (is_junction d) (arcs_along d new) (named_ring d name)
    named_indexes =
        ap (indexes_found (arcs_along d old)) is
        ∙ ring_indexes d proper (named_ring d name) there (arcs_along d old) (along_pieces d old)
        ∙ ap (λ z. indexes (is_junction d) z (named_ring d name)) (sym named_arcs)
