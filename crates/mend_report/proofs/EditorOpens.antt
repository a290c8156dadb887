-- The editor opens a map exactly where its walks are linear rings and no two of its segments conflict.
use Rattle.kit_words.proofs.Common.{◌≡◌, ℕ, List, map, length, sym, ap, ◌∙◌, subst, arith, Ok, flat_map, list_all}
use Rattle.kit_words.proofs.Common.{take_all, flat_map-map}
use Rattle.grid_geometry.specs.Common.{conflict, Position, Edge, edges, Segment, segment_lt}
use Rattle.grid_geometry.proofs.Common.{conflict-comm}
use Rattle.ring_machine.specs.Common.{Document, rings, in_rings, pair_lt, least_conflict, first_pair, canonical}
use Rattle.ring_machine.specs.Common.{segment_of, segments}
use Rattle.ring_machine.proofs.Common.{in_rotated, rotated-sym, edges_canonical, In, least_conflict_is}
use Rattle.ring_machine.proofs.Common.{least_conflict_unique, Bad, same_least, in_mapped, in_flat, in-map, in-flat_map}
use Rattle.ring_machine.proofs.Common.{rings-in_rings, Rotated}
use Rattle.topo_outline.specs.Common.{leaves}
use Rattle.topo_reader.specs.Common.{Polygons, Opened, document_of, is_simple, IsOfWalks, OpensWalks}
use Rattle.topo_reader.specs.Opening as reader
use Rattle.topo_reader.proofs.Common.{opens, is_read, is_read_by, rings_within, rings_document, answers_of_walks}
use Rattle.topo_reader.proofs.WalksAndRings.{rings_are_walks, walks_are_rings}
use Rattle.walk_faults.specs.Common.{all_walks, Opens}
use Rattle.mend_report.specs.Common.{EditorOpens}

-- ---- rings begun elsewhere

-- the least pair in conflict depends on which segments there are, and not on their order
same_pair : (ss ts : List Segment) → ((s : Segment) → In s ss → In s ts) → ((s : Segment) → In s ts → In s ss)
    → least_conflict ss ≡ least_conflict ts
same_pair ss ts there back = least_conflict_unique ts (least_conflict ss)
    (same_least pair_lt (BadIn ss) (BadIn ts)
    (λ u b. record { order = b.order; left = there u.0 b.left; right = there u.1 b.right; meet = b.meet })
    (λ u b. record { order = b.order; left = back u.0 b.left; right = back u.1 b.right; meet = b.meet })
    (least_conflict ss) (least_conflict_is ss))
  where
    BadIn : List Segment → Segment × Segment → Type 0
    BadIn rs u = Bad segment_lt conflict conflict-comm (λ s. In s rs) u

-- the same edges in turn are the same segments
segments_turned : (es fs : List Edge) (s : Segment) → Rotated es fs → In s (map segment_of es) → In s (map segment_of fs)
segments_turned es fs s r i =
    let e = in_mapped segment_of s es i in
    subst (λ t. In t (map segment_of fs)) e.2 (in-map segment_of e.0 fs (in_rotated es fs e.0 r e.1))

-- where the segments of each ring are among those of its other form, so are the segments of all rings
segments_of_all : (f g : List Position → List Segment) → ((ring : List Position) (s : Segment) → In s (f ring) → In s (g ring))
    → (rs : List (List Position)) (s : Segment) → In s (flat_map f rs) → In s (flat_map g rs)
segments_of_all f g each rs s i = let ring = in_flat f s rs i in in-flat_map g ring.0 s rs ring.1 (each ring.0 s ring.2)

-- where rings begin changes no pair in conflict
turned_pair : (rs : List (List Position)) → least_conflict (flat_map segments (map canonical rs)) ≡ least_conflict (flat_map segments rs)
turned_pair rs =
    ap least_conflict (flat_map-map segments canonical rs)
    ∙ same_pair (flat_map turned rs) (flat_map segments rs)
    (segments_of_all turned segments back rs) (segments_of_all segments turned there rs)
  where
    turned : List Position → List Segment
    turned ring = segments (canonical ring)

    there : (ring : List Position) (s : Segment) → In s (segments ring) → In s (turned ring)
    there ring s i = segments_turned (edges ring) (edges (canonical ring)) s (edges_canonical ring) i

    back : (ring : List Position) (s : Segment) → In s (turned ring) → In s (segments ring)
    back ring s i =
        segments_turned (edges (canonical ring)) (edges ring) s
        (rotated-sym (edges ring) (edges (canonical ring)) (edges_canonical ring)) i

-- ---- a map of walks

-- the rings of its document are its walks
pub rings_of_walks : (bytes : List ℕ) (o : Opened) → OpensWalks bytes o → rings (document_of o) ≡ all_walks o.polygons
rings_of_walks bytes o h =
    let is : IsOfWalks o = answers_of_walks (λ (p : Opened). p) bytes (Ok o) h in
    rings_document o.polygons o.layers
    ∙ ap (λ (ps : List Polygons). flat_map rings_within ps) (take_all (length (leaves o.layers)) o.polygons (omega (arith, is.counted)))

-- its rings, begun at their least positions, conflict where its walks do
pair_of_walks : (bytes : List ℕ) (o : Opened) → OpensWalks bytes o
    → first_pair (in_rings canonical (document_of o)) ≡ least_conflict (flat_map segments (all_walks o.polygons))
unfolding first_pair
pair_of_walks bytes o h =
    ap (λ rs. least_conflict (flat_map segments rs)) (rings-in_rings canonical (document_of o))
    ∙ turned_pair (rings (document_of o))
    ∙ ap (λ rs. least_conflict (flat_map segments rs)) (rings_of_walks bytes o h)

-- ---- the law

-- what nothing is found in opens in the editor
pub walks_open : (bytes : List ℕ) (o : Opened) → OpensWalks bytes o → Opens o.polygons → EditorOpens bytes
walks_open bytes o h clear =
    let read = is_read_by _ bytes o h in
    let simple = ap (list_all is_simple) (rings_of_walks bytes o h) ∙ clear.are_rings in
    let turned = walks_are_rings bytes (document_of o) read.0 simple in
    let opened : (p : Opened) × reader.Opens bytes p × (document_of p ≡ in_rings canonical (document_of o)) =
    opens _ bytes (in_rings canonical (document_of o)) turned.0 (turned.1 read.1) in
    (opened.0, opened.1, ap first_pair opened.2 ∙ pair_of_walks bytes o h ∙ clear.apart)

-- and nothing is found in what the editor opens: its rings are walks, begun at their least positions
pub rings_open : (bytes : List ℕ) (e : EditorOpens bytes)
    → (o : Opened) × OpensWalks bytes o × Opens o.polygons × (document_of e.0 ≡ in_rings canonical (document_of o))
rings_open bytes e =
    let read = is_read bytes e.0 e.1 in
    let walks = rings_are_walks bytes (document_of e.0) read.0 in
    let opened : (o : Opened) × OpensWalks bytes o × (document_of o ≡ walks.0) = opens _ bytes walks.0 walks.1 (walks.4 read.1) in (
      opened.0,
      opened.1,
      record {
        are_rings = ap (list_all is_simple) (sym (rings_of_walks bytes opened.0 opened.1))
            ∙ ap (λ (d : Document). list_all is_simple (rings d)) opened.2 ∙ walks.2;
        apart = sym (pair_of_walks bytes opened.0 opened.1) ∙ ap (λ (d : Document). first_pair (in_rings canonical d)) opened.2
            ∙ ap first_pair (sym walks.3) ∙ e.2;
      },
      walks.3 ∙ ap (in_rings canonical) (sym opened.2),
    )
