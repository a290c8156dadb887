-- What a text means is what opening it gives, in both directions.
use Rattle.kit_words.proofs.Common.{◌≡◌, ◌≢◌, ℕ, ◌≤◌, List, length, refl, sym, ap, ◌∙◌, subst, arith, Bool, Result, Ok}
use Rattle.kit_words.proofs.Common.{Err, IfOk, IfErr, nat_le, is_some, AllZip, AllZip-long, le-leb, leb-true}
use Rattle.json_spans.specs.Common.{Json, Node}
use Rattle.ring_machine.specs.Common.{Document}
use Rattle.topo_outline.specs.declared.fault.Limit.TheVariants as limit
use Rattle.topo_outline.specs.declared.fault.OpenFault.{OpenFault}
use Rattle.topo_outline.specs.declared.fault.OpenFault.TheVariants as open_fault
use Rattle.topo_outline.specs.Common.{Fault, too_large, ◌>>=◌, each, demand, Fails, Gives, OutlineText, leaves, outline}
use Rattle.topo_outline.specs.Common.{IsOutline}
use Rattle.topo_outline.specs.declared.words.Word.TheVariants as word
use Rattle.topo_reader.specs.Common.{Closed, Rings, arcs, Arc, uses_of, size, all_rings, Polygons, Opened, document_of}
use Rattle.topo_reader.specs.Common.{polygons_along, polygons_read, opening, root_of, OpensBy, Opens, IsArc, AreArcs}
use Rattle.topo_reader.specs.Common.{GeometryUses, IsClosed, AreClosed, ReadsWith, ReadsBy, Reads, Fits}
use Rattle.json_spans.proofs.Common.{root_value, root_padded, padded_root, padded_short, list_count}
use Rattle.topo_outline.proofs.Values.{value_short}
use Rattle.topo_outline.proofs.Common.{HasArcs, leaves_have_arcs, outline_means, outline_few, outline_gives}
use Rattle.topo_reader.proofs.MeaningOfArcs.{arcs_of, are_arcs}
use Rattle.topo_reader.proofs.MeaningOfUses.{AreFew, uses_are, are_uses}
use Rattle.topo_reader.proofs.MeaningOfRings.{rings_of, are_rings}
use Rattle.topo_reader.proofs.Steps.{bind_ok, demand_ok, ok_same, each_of, of_each}

abbrev pub made : OutlineText → List Polygons → Opened
made shape ps = record { transform = shape.transform; layers = shape.layers; members = shape.members; polygons = ps }

-- ---- what is meant is read

-- a text has fewer arcs than bytes
few_arcs : (root : Node) (shape : OutlineText) (delta : Bool) (found : List Arc) → IsOutline root shape → AreArcs delta shape.arcs found → length found ≤ length root.bytes
few_arcs root shape delta found o a =
    omega (arith, AllZip-long (IsArc delta) a.0 found a.2, list_count a.1, value_short word.Arcs shape.arcs o.of_root o.has_arcs)

polygons_of : (closed : Closed) (shape : OutlineText) (found : List Arc) (uses : List (List (List (List Arc)))) (polygons : List Polygons) →
    AreFew found → AreArcs (is_some shape.transform) shape.arcs found → AllZip (GeometryUses found) (leaves shape.layers) uses → AllZip (AreClosed (IsClosed closed)) uses polygons → size uses ≤ 4000000 →
    polygons_read closed shape ≡ Ok polygons
polygons_of closed shape found uses polygons few a u r small = rw (
  arcs_of (is_some shape.transform) shape.arcs found a,
  each_of (GeometryUses found) (uses_of found) (uses_are found few) (leaves shape.layers) uses u,
  le-leb (size uses) 4000000 small,
  rings_of closed uses polygons r,
) refl

-- a reading within the limits is what opening gives
pub opens : (closed : Closed) (bytes : List ℕ) (d : Document) (r : ReadsBy (IsClosed closed) bytes d) → Fits r → (o : Opened) × OpensBy closed bytes o × (document_of o ≡ d)
opens closed bytes d r f =
    let few : AreFew r.arcs = omega (arith, few_arcs r.root r.shape (is_some r.shape.transform) r.arcs r.topology r.arcs_are, padded_short r.json, f.short) in
    let topology : IsOutline (root_of bytes) r.shape = subst (λ n. IsOutline n r.shape) (padded_root r.json) r.topology in (
      made r.shape r.polygons,
      record {
        short = f.short;
        json = f.flat;
        opens = rw (outline_gives (root_of bytes) r.shape (root_value 100 bytes f.flat) topology (le-leb (length (leaves r.shape.layers)) 200000 f.few), polygons_of closed r.shape r.arcs r.uses r.polygons few r.arcs_are r.uses_are r.rings_are f.small) refl;
      },
      sym r.document,
    )

-- ---- what is read is meant

-- a reading and its limits
abbrev pub IsReadBy : Closed → List ℕ → Document → Type 0
IsReadBy closed bytes d = (reading : ReadsBy (IsClosed closed) bytes d) × Fits reading

abbrev pub IsRead : List ℕ → Document → Type 0
IsRead bytes d = (reading : Reads bytes d) × Fits reading

-- what stands along arcs that were read is meant, whatever the arcs are
pub made_along : (AreThese : Bool → Node → List Arc → Type 0) (closed : Closed) (bytes : List ℕ) (shape : OutlineText) (found : List Arc) (ps : List Polygons) →
    length bytes ≤ 67108864 → Json 100 bytes → outline (root_of bytes) ≡ Ok shape → AreThese (is_some shape.transform) shape.arcs found → polygons_along closed found shape.layers ≡ Ok ps →
    (reading : ReadsWith AreThese (IsClosed closed) bytes (document_of (made shape ps))) × Fits reading
made_along AreThese closed bytes shape found ps short text e are h =
    let topology = outline_means 100 (root_of bytes) shape (root_value 100 bytes text) e in
    let uses = bind_ok (each (uses_of found) (leaves shape.layers)) (λ (uses : List (List (List (List Arc)))). demand (nat_le (size uses) 4000000) (too_large limit.Positions) (all_rings closed uses)) ps h in
    let fits = demand_ok (nat_le (size uses.0) 4000000) (too_large limit.Positions) (all_rings closed uses.0) ps uses.2 in (
      record {
        levels = 100;
        root = root_of bytes;
        json = root_padded 100 bytes text;
        shape = shape;
        arcs = found;
        uses = uses.0;
        polygons = ps;
        topology = topology;
        arcs_are = are;
        uses_are = of_each HasArcs (GeometryUses found) (uses_of found) (λ g us right is. are_uses found g us right is) (leaves shape.layers) uses.0 (leaves_have_arcs (root_of bytes) shape topology) uses.1;
        rings_are = are_rings closed uses.0 ps fits.1;
        document = refl;
      },
      record { short = short; flat = text; few = leb-true (length (leaves shape.layers)) 200000 (outline_few (root_of bytes) shape e); small = leb-true (size uses.0) 4000000 fits.0 },
    )

-- the polygons that were read are meant
made_read : (closed : Closed) (bytes : List ℕ) (shape : OutlineText) (ps : List Polygons) → length bytes ≤ 67108864 → Json 100 bytes → outline (root_of bytes) ≡ Ok shape → polygons_read closed shape ≡ Ok ps → IsReadBy closed bytes (document_of (made shape ps))
made_read closed bytes shape ps short text e h =
    let topology = outline_means 100 (root_of bytes) shape (root_value 100 bytes text) e in
    let found = bind_ok (arcs (is_some shape.transform) shape.arcs) (λ (found : List Arc). polygons_along closed found shape.layers) ps h in
    made_along AreArcs closed bytes shape found.0 ps short text e (are_arcs (is_some shape.transform) shape.arcs found.0 topology.are_arcs found.1) found.2

-- what opens is a reading within the limits
pub is_read_by : (closed : Closed) (bytes : List ℕ) (o : Opened) → OpensBy closed bytes o → IsReadBy closed bytes (document_of o)
is_read_by closed bytes o h =
    let shape = bind_ok (outline (root_of bytes)) (λ (shape : OutlineText). polygons_read closed shape >>= λ ps. Ok (made shape ps)) o h.opens in
    let ps = bind_ok (polygons_read closed shape.0) (λ (ps : List Polygons). Ok (made shape.0 ps)) o shape.2 in
    subst (λ (p : Opened). IsReadBy closed bytes (document_of p)) (ok_same (made shape.0 ps.0) o ps.2) (made_read closed bytes shape.0 ps.0 h.short h.json shape.1 ps.1)

pub is_read : (bytes : List ℕ) (o : Opened) → Opens bytes o → IsRead bytes (document_of o)
is_read bytes o h = is_read_by Rings bytes o h

-- ---- as the code answers it

none_fails : {Y : Type 0} (o : OpenFault) (y : Y) → o ≢ open_fault.OutOfMemory → Fails o (Ok y) → ⊥
none_fails open_fault.OutOfMemory y ne h = ne refl
none_fails (open_fault.NotJson place) y ne h = h
none_fails (open_fault.Conflict s t) y ne h = h
none_fails (open_fault.TooLarge limit.Bytes) y ne h = h
none_fails (open_fault.TooLarge limit.Features) y ne h = absurd cc
none_fails (open_fault.TooLarge limit.Positions) y ne h = absurd cc
none_fails _ y ne h = absurd cc

module _ {X : Type 0} (closed : Closed) (view : X → Opened) (bytes : List ℕ) where
  pub gives_opened : (r : Result X OpenFault) (n : Node) → n ≡ root_of bytes → length bytes ≤ 67108864 → Json 100 bytes → Gives view r (opening closed n) → IfOk r (λ x. OpensBy closed bytes (view x))
  gives_opened (Err o) n e short text h = tt
  gives_opened (Ok x) n e short text h = record { short = short; json = text; opens = ap (opening closed) (sym e) ∙ h }

  pub gives_read : (r : Result X OpenFault) → IfOk r (λ x. OpensBy closed bytes (view x)) → IfOk r (λ x. IsReadBy closed bytes (document_of (view x)))
  gives_read (Err o) h = tt
  gives_read (Ok x) h = is_read_by closed bytes (view x) h

  pub gives_unread : (r : Result X OpenFault) (n : Node) → n ≡ root_of bytes → Gives view r (opening closed n) → IfErr r (λ o. o ≢ open_fault.OutOfMemory → ¬ ((d : Document) × (reading : ReadsBy (IsClosed closed) bytes d) × Fits reading))
  gives_unread (Ok x) n e h = tt
  gives_unread (Err o) n e h = λ ne read.
      let found = opens closed bytes read.0 read.1 read.2 in
      none_fails o found.0 ne (subst (λ (r : Result Opened Fault). Fails o r) (ap (opening closed) e ∙ found.1.opens) h)
