-- Bytes mean a document of rings exactly where they mean one of walks that are all simple: the rings are the
-- walks, begun at their least positions.
use Rattle.kit_words.proofs.Common.{◌≡◌, ℕ, Bool, true, List, [], ◌∷◌, length, map, refl, sym, ap, ap₂, ◌∙◌, arith}
use Rattle.kit_words.proofs.Common.{◌&&◌, nat_le, AllZip, list_all, flat_map, take_all, AllZip-long, and_parts, le-leb}
use Rattle.kit_words.proofs.Common.{leb-true}
use Rattle.grid_geometry.specs.Common.{Position}
use Rattle.ring_machine.specs.Common.{is_distinct, canonical, Document, rings, in_rings}
use Rattle.topo_outline.specs.Common.{OutlineText, leaves}
use Rattle.topo_reader.specs.Common.{Arc, Polygons, Opened, document_of, is_simple, GeometryUses, IsWalk, around}
use Rattle.topo_reader.specs.Common.{IsRing, AreClosed, ReadsBy, Reads, ReadsWalks, Fits}
use Rattle.topo_reader.proofs.MeaningOfRings.{long_ring}
use Rattle.topo_reader.proofs.Numbering.{rings_within, rings_document, all_within}
use Rattle.topo_reader.proofs.Repeats.{differ, distinct_of}
use Rattle.topo_reader.proofs.RingsChanged.{rings_changed}

-- ---- one ring

abbrev pub RingWalk : List Arc → List Position → Type 0
RingWalk uses ring = (walk : List Position) × IsWalk uses walk × (is_simple walk ≡ true) × (ring ≡ canonical walk)

pub ring_walk : (uses : List Arc) (ring : List Position) → IsRing uses ring → RingWalk uses ring
ring_walk uses ring r = (
  r.corners,
  around r.closed r.once,
  ap₂ (λ a b. a && b) (le-leb 3 (length r.corners) r.long) (distinct_of r.corners r.different),
  r.turned,
)

pub walk_ring : (uses : List Arc) (walk : List Position) → IsWalk uses walk → is_simple walk ≡ true → IsRing uses (canonical walk)
walk_ring uses walk w h =
    let two = and_parts (nat_le 3 (length walk)) (is_distinct walk) h in
    long_ring w (leb-true 3 (length walk) two.0) (differ walk two.1) refl

-- ---- place by place

module _ {A B C : Type 0} (R : A → B → Type 0) (S : A → C → Type 0) (h : C → B) (t : C → Bool) where
  zip_splits : ((a : A) (b : B) → R a b → (c : C) × S a c × (t c ≡ true) × (b ≡ h c)) → (xs : List A) (ys : List B)
      → AllZip R xs ys → (zs : List C) × AllZip S xs zs × (list_all t zs ≡ true) × (ys ≡ map h zs)
  zip_splits one [] [] k = ([], tt, refl, refl)
  zip_splits one [] (y ∷ ys) k = absurd k
  zip_splits one (x ∷ xs) [] k = absurd k
  zip_splits one (x ∷ xs) (y ∷ ys) k =
      let first = one x y k.0 in
      let rest = zip_splits one xs ys k.1 in (
        first.0 ∷ rest.0,
        (first.1, rest.1),
        ap₂ (λ a b. a && b) first.2 rest.2,
        ap₂ (λ (b : B) (bs : List B). b ∷ bs) first.3 rest.3,
      )

  zip_joins : ((a : A) (c : C) → S a c → t c ≡ true → R a (h c)) → (xs : List A) (zs : List C)
      → AllZip S xs zs → list_all t zs ≡ true → AllZip R xs (map h zs)
  zip_joins one [] [] k e = tt
  zip_joins one [] (z ∷ zs) k e = absurd k
  zip_joins one (x ∷ xs) [] k e = absurd k
  zip_joins one (x ∷ xs) (z ∷ zs) k e =
      let two = and_parts (t z) (list_all t zs) e in
      (one x z k.0 two.0, zip_joins one xs zs k.1 two.1)

abbrev turned : Polygons → Polygons
turned ps = map (map canonical) ps

abbrev are_simple : List Polygons → Bool
are_simple all = list_all (list_all (list_all is_simple)) all

rings_split : (uses : List (List (List (List Arc)))) (all : List Polygons) → AllZip (AreClosed IsRing) uses all
    → (walks : List Polygons) × AllZip (AreClosed IsWalk) uses walks × (are_simple walks ≡ true) × (all ≡ map turned walks)
rings_split uses all h =
    zip_splits (AreClosed IsRing) (AreClosed IsWalk) turned (list_all (list_all is_simple))
    (λ us ps. zip_splits (AllZip IsRing) (AllZip IsWalk) (map canonical) (list_all is_simple) (λ vs rs. zip_splits IsRing IsWalk canonical is_simple ring_walk vs rs) us ps)
    uses all h

walks_join : (uses : List (List (List (List Arc)))) (walks : List Polygons) → AllZip (AreClosed IsWalk) uses walks
    → are_simple walks ≡ true → AllZip (AreClosed IsRing) uses (map turned walks)
walks_join uses walks h e =
    zip_joins (AreClosed IsRing) (AreClosed IsWalk) turned (list_all (list_all is_simple))
    (λ us ps. zip_joins (AllZip IsRing) (AllZip IsWalk) (map canonical) (list_all is_simple) (λ vs rs. zip_joins IsRing IsWalk canonical is_simple walk_ring vs rs) us ps)
    uses walks h e

-- ---- all of a document

abbrev made : OutlineText → List Polygons → Opened
made shape ps = record { transform = shape.transform; layers = shape.layers; members = shape.members; polygons = ps }

-- the rings of what is read
pub read_rings : (IsOne : List Arc → List Position → Type 0) (bytes : List ℕ) (d : Document) (r : ReadsBy IsOne bytes d)
    → rings d ≡ flat_map rings_within r.polygons
read_rings IsOne bytes d r =
    let few : length r.polygons ≡ length (leaves r.shape.layers) =
    AllZip-long (AreClosed IsOne) r.uses r.polygons r.rings_are ∙ AllZip-long (GeometryUses r.arcs) (leaves r.shape.layers) r.uses r.uses_are in
    ap rings r.document ∙ rings_document r.polygons r.shape.layers
    ∙ ap (λ (qs : List Polygons). flat_map rings_within qs) (take_all (length (leaves r.shape.layers)) r.polygons (omega (arith, few)))

-- what means rings means simple walks, within the same limits
pub rings_are_walks : (bytes : List ℕ) (d : Document) (r : Reads bytes d)
    → (w : Document) × (walks : ReadsWalks bytes w) × (list_all is_simple (rings w) ≡ true) × (d ≡ in_rings canonical w)
    × (Fits r → Fits walks)
rings_are_walks bytes d r =
    let split = rings_split r.uses r.polygons r.rings_are in
    let walks : ReadsWalks bytes (document_of (made r.shape split.0)) = record {
      levels = r.levels;
      root = r.root;
      json = r.json;
      shape = r.shape;
      arcs = r.arcs;
      uses = r.uses;
      polygons = split.0;
      topology = r.topology;
      arcs_are = r.arcs_are;
      uses_are = r.uses_are;
      rings_are = split.1;
      document = refl;
    } in (
      document_of (made r.shape split.0),
      walks,
      ap (list_all is_simple) (read_rings IsWalk bytes (document_of (made r.shape split.0)) walks) ∙ all_within is_simple split.0 ∙ split.2,
      r.document ∙ ap (λ (ps : List Polygons). document_of (made r.shape ps)) split.3 ∙ sym (rings_changed canonical (made r.shape split.0)),
      λ f. record { short = f.short; flat = f.flat; few = f.few; small = f.small },
    )

-- and what means simple walks means rings
pub walks_are_rings : (bytes : List ℕ) (w : Document) (r : ReadsWalks bytes w) → list_all is_simple (rings w) ≡ true
    → (read : Reads bytes (in_rings canonical w)) × (Fits r → Fits read)
walks_are_rings bytes w r h = (
  record {
    levels = r.levels;
    root = r.root;
    json = r.json;
    shape = r.shape;
    arcs = r.arcs;
    uses = r.uses;
    polygons = map turned r.polygons;
    topology = r.topology;
    arcs_are = r.arcs_are;
    uses_are = r.uses_are;
    rings_are = walks_join r.uses r.polygons r.rings_are (sym (ap (list_all is_simple) (read_rings IsWalk bytes w r) ∙ all_within is_simple r.polygons) ∙ h);
    document = ap (in_rings canonical) r.document ∙ rings_changed canonical (made r.shape r.polygons);
  },
  λ f. record { short = f.short; flat = f.flat; few = f.few; small = f.small },
)
