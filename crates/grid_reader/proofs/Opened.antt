-- What opening on a grid is made of, and what it means.
use Rattle.kit_words.proofs.Common.{◌≡◌, ℕ, ◌+◌, ◌≤◌, map, not, ◌||◌, List, length, refl, sym, ap, ◌∙◌, subst, ◌==◌}
use Rattle.kit_words.proofs.Common.{Option, Result, Ok, Err, IfOk, is_some, codes}
use Rattle.json_spans.specs.Common.{Json, Node}
use Rattle.ring_machine.specs.Common.{Text}
use Rattle.topo_outline.specs.declared.fault.OpenFault.{OpenFault}
use Rattle.topo_outline.specs.Common.{Fault, unsupported, ◌>>=◌, Fails, Gives, OutlineText, outline}
use Rattle.topo_outline.proofs.Common.{carry}
use Rattle.topo_reader.specs.Common.{Polygons, Opened, document_of, IsOfWalks, walks_read, root_of}
use Rattle.topo_reader.proofs.Common.{made, along_of_walks, walks_along_meant, bind_ok, demand_ok, ok_same}
use Rattle.grid_reader.specs.Common.{Wants, FinePosition, fine_arcs, arcs_on, finer_by, decimals_kept, position_on_grid, has_points}
use Rattle.grid_reader.specs.Common.{demand_points_lie, opened_on, grid_opening, AreOnGrid, ReadsOnGrid, transform_on}
use Rattle.grid_reader.proofs.NewTransform.{transform_kept}

abbrev pub put : OutlineText → Option Text → List Polygons → Opened
put shape t ps = record { transform = t; layers = shape.layers; members = shape.members; polygons = ps }

-- ---- step after step

module _ (wants : Wants) (shape : OutlineText) (fine : List (List FinePosition)) (digits : ℕ) (e : digits ≡ decimals_kept wants fine) (t : Option Text) (divides : transform_on (digits + wants.finer) shape.transform ≡ Ok t) where
  abbrev along : ℕ → Result (List Polygons) Fault
  along d = demand_points_lie wants.points_lie (d + wants.finer) shape.layers (walks_read (map (map (position_on_grid d wants.finer)) fine) shape.layers)

  pub goes_well : (ps : List Polygons) → along digits ≡ Ok ps → opened_on wants shape fine ≡ Ok (put shape t ps)
  goes_well ps h = rw (rw e at divides, rw e at h) refl

  pub fails_late : (o : OpenFault) → Fails o (along digits) → Fails o (opened_on wants shape fine)
  fails_late o h = carry o (along digits) (opened_on wants shape fine) (λ f is. rw (rw e at divides, rw e at is) refl) h

-- ---- what was read on the way

pub record IsOpenedOn (wants : Wants) (root : Node) (o : Opened) : Type 0 where
  pub shape : OutlineText
  pub fine : List (List FinePosition)
  pub transform : Option Text
  pub polygons : List Polygons
  pub outlined : outline root ≡ Ok shape
  pub are : fine_arcs wants (is_some shape.transform) shape.arcs ≡ Ok fine
  pub divides : transform_on (finer_by wants fine) shape.transform ≡ Ok transform
  pub along : walks_read (arcs_on wants fine) shape.layers ≡ Ok polygons
  pub is : put shape transform polygons ≡ o

pub opened_parts : (wants : Wants) (root : Node) (o : Opened) → grid_opening wants root ≡ Ok o → IsOpenedOn wants root o
opened_parts wants root o h =
    let shape = bind_ok (outline root) (λ (shape : OutlineText). fine_arcs wants (is_some shape.transform) shape.arcs >>= λ fine. opened_on wants shape fine) o h in
    let fine = bind_ok (fine_arcs wants (is_some shape.0.transform) shape.0.arcs) (λ (fine : List (List FinePosition)). opened_on wants shape.0 fine) o shape.2 in
    let walks = walks_read (arcs_on wants fine.0) shape.0.layers in
    let transform = bind_ok (transform_on (finer_by wants fine.0) shape.0.transform) (λ (t : Option Text). demand_points_lie wants.points_lie (finer_by wants fine.0) shape.0.layers walks >>= λ ps. Ok (put shape.0 t ps)) o fine.2 in
    let ps = bind_ok (demand_points_lie wants.points_lie (finer_by wants fine.0) shape.0.layers walks) (λ (ps : List Polygons). Ok (put shape.0 transform.0 ps)) o transform.2 in
    let along = demand_ok ((finer_by wants fine.0 == 0) || wants.points_lie || not (has_points shape.0.layers)) (unsupported (codes "Point")) walks ps.0 ps.1 in
    record {
      shape = shape.0;
      fine = fine.0;
      transform = transform.0;
      polygons = ps.0;
      outlined = shape.1;
      are = fine.1;
      divides = transform.1;
      along = along.1;
      is = ok_same (put shape.0 transform.0 ps.0) o ps.2;
    }

pub reads_on_grid : (wants : Wants) (bytes : List ℕ) (o : Opened) → length bytes ≤ 67108864 → Json 100 bytes → IsOpenedOn wants (root_of bytes) o → ReadsOnGrid wants bytes (document_of o)
reads_on_grid wants bytes o short text h =
    subst (λ (p : Opened). ReadsOnGrid wants bytes (document_of p)) h.is (record {
      fine = h.fine;
      before = document_of (made h.shape h.polygons);
      reads = walks_along_meant (AreOnGrid wants h.fine) bytes h.shape (arcs_on wants h.fine) h.polygons short text h.outlined (record { are = h.are; on_grid = refl }) h.along;
      transform = h.divides;
      same = refl;
    })

pub on_grid_of_walks : (wants : Wants) (bytes : List ℕ) (o : Opened) → length bytes ≤ 67108864 → Json 100 bytes → IsOpenedOn wants (root_of bytes) o → IsOfWalks o
on_grid_of_walks wants bytes o short text h =
    let reads = walks_along_meant (AreOnGrid wants h.fine) bytes h.shape (arcs_on wants h.fine) h.polygons short text h.outlined (record { are = h.are; on_grid = refl }) h.along in
    let before = along_of_walks (AreOnGrid wants h.fine) bytes h.shape (arcs_on wants h.fine) h.polygons reads h.outlined h.along in
    subst IsOfWalks h.is (record {
      counted = before.counted;
      formed = record { geometries = before.formed.geometries; forms = before.formed.forms; numbers = before.formed.numbers };
      keeps = record {
        transform = transform_kept (finer_by wants h.fine) h.shape.transform h.transform before.keeps.transform h.divides;
        layer_names = before.keeps.layer_names;
        layers_named = before.keeps.layers_named;
        layers_differ = before.keeps.layers_differ;
        items = before.keeps.items;
        members = before.keeps.members;
      };
      few = before.few;
      are_rings = before.are_rings;
      small = before.small;
    })

-- ---- as the code answers it

module _ {X : Type 0} (wants : Wants) (view : X → Opened) (bytes : List ℕ) where
  pub gives_reading : (r : Result X OpenFault) (n : Node) → n ≡ root_of bytes → length bytes ≤ 67108864 → Json 100 bytes → Gives view r (grid_opening wants n) → IfOk r (λ x. ReadsOnGrid wants bytes (document_of (view x)))
  gives_reading (Err o) n e short text h = tt
  gives_reading (Ok x) n e short text h = reads_on_grid wants bytes (view x) short text (opened_parts wants (root_of bytes) (view x) (ap (grid_opening wants) (sym e) ∙ h))

  pub gives_walks : (r : Result X OpenFault) (n : Node) → n ≡ root_of bytes → length bytes ≤ 67108864 → Json 100 bytes → Gives view r (grid_opening wants n) → IfOk r (λ x. IsOfWalks (view x))
  gives_walks (Err o) n e short text h = tt
  gives_walks (Ok x) n e short text h = on_grid_of_walks wants bytes (view x) short text (opened_parts wants (root_of bytes) (view x) (ap (grid_opening wants) (sym e) ∙ h))
