-- A topology of whole numbers is read on its grid as the editor reads it.
use Rattle.kit_words.proofs.Common.{◌≡◌, ℕ, ◌+◌, ◌≤◌, arith, Bool, true, false, cond, ◌&&◌, List, [], ◌∷◌, ◌++◌, length}
use Rattle.kit_words.proofs.Common.{map, refl, sym, ap, ap₂, subst, ◌∙◌, Option, Result, Ok, is_some, AllByRecursion}
use Rattle.kit_words.proofs.Common.{AllZip, list_all, filter, flat_map, and_parts, all_joined}
use Rattle.json_spans.specs.Common.{Node, items}
use Rattle.json_spans.proofs.Common.{root_value, items_told}
use Rattle.grid_geometry.specs.Common.{Position, InRange}
use Rattle.ring_machine.specs.Common.{Text}
use Rattle.topo_outline.specs.Common.{Fault, bad_position, ◌>>=◌, each, OutlineText, outline, is_list}
use Rattle.topo_outline.proofs.Common.{is_a_list, outline_means}
use Rattle.topo_reader.specs.Common.{Arc, Polygons, Opened, walks_read, root_of, OpensIn, OpensWalks, IsSum, Sums}
use Rattle.topo_reader.specs.Common.{ArePositions, IsArc, AreArcs}
use Rattle.topo_reader.specs.Positions as editor
use Rattle.topo_reader.specs.Reads as reads
use Rattle.topo_reader.proofs.MeaningOfArcs.{are_arcs}
use Rattle.topo_reader.proofs.Common.{made, bind_ok, demand_ok, ok_same}
use Rattle.grid_reader.specs.declared.told.Told.{Told}
use Rattle.grid_reader.specs.Common.{Wants, FinePosition, fine_origin, fine_position, before_next_fine, fine_positions, fine_arc}
use Rattle.grid_reader.specs.Common.{fine_arcs, arcs_on, finer_by, has_further, opened_on, grid_opening, IsTold}
use Rattle.grid_reader.specs.Common.{transform_on, has_wholes, positions_moved}
use Rattle.grid_reader.proofs.Opened.{put, goes_well, opened_parts}
use Rattle.grid_reader.proofs.WholeNumbers.{scaled, arcs_scaled, steps_of, IsPlain, steps_plain, position_in_units, position_back, none_in_arcs, no_digits, all_stay, arcs_unmoved, same_arcs, same_grid}

-- ---- what the editor reads has whole numbers, and two of them in each position

origin_in_range : InRange editor.origin
origin_in_range = record { across = omega arith; upward = omega arith }

abbrev ArePlain : Bool → List Node → Type 0
ArePlain drop ns = AllByRecursion (IsPlain drop) ns

sums_plain : (drop : Bool) {before : Position} {ns : List Node} {ps : List Position} → InRange before → Sums before ns ps → ArePlain drop ns
sums_plain drop low reads.no_pair = tt
sums_plain drop low (reads.pair {before = before} {p = p} {n = n} s t) =
    (steps_plain drop before p n (steps_of before p n low s), sums_plain drop s.in_range t)

pairs_plain : (drop : Bool) (ns : List Node) (ps : List Position) → AllZip (IsSum editor.origin) ns ps → ArePlain drop ns
pairs_plain drop [] [] h = tt
pairs_plain drop [] (p ∷ ps) h = absurd h
pairs_plain drop (n ∷ ns) [] h = absurd h
pairs_plain drop (n ∷ ns) (p ∷ ps) h =
    (steps_plain drop editor.origin p n (steps_of editor.origin p n origin_in_range h.0), pairs_plain drop ns ps h.1)

positions_plain : (drop delta : Bool) (ns : List Node) (ps : List Position) → ArePositions delta ns ps → ArePlain drop ns
positions_plain drop true ns ps h = sums_plain drop origin_in_range h
positions_plain drop false ns ps h = pairs_plain drop ns ps h

arcs_plain : (drop delta : Bool) (ns : List Node) (found : List Arc) → AllZip (IsArc delta) ns found → ArePlain drop (flat_map items ns)
arcs_plain drop delta [] [] h = tt
arcs_plain drop delta [] (a ∷ found) h = absurd h
arcs_plain drop delta (n ∷ ns) [] h = absurd h
arcs_plain drop delta (n ∷ ns) (a ∷ found) h =
    let here = subst (ArePlain drop) (items_told h.0.list) (positions_plain drop delta h.0.items a h.0.positions) in
    all_joined (IsPlain drop) (items n) (flat_map items ns) here (arcs_plain drop delta ns found h.1)

-- ---- what is told of such positions, and of no others

abbrev dropped : Bool → List Node → ℕ
dropped drop ns = cond drop (length (filter has_further ns)) 0

all_whole_of : (drop : Bool) (ns : List Node) → ArePlain drop ns → list_all has_wholes ns ≡ true
all_whole_of drop [] h = refl
all_whole_of drop (n ∷ ns) h = rw h.0.0 (all_whole_of drop ns h.1)

none_dropped : (drop : Bool) (ns : List Node) → ArePlain drop ns → dropped drop ns ≡ 0
none_dropped false ns h = refl
none_dropped true [] h = refl
none_dropped true (n ∷ ns) h = rw h.0.1 (none_dropped true ns h.1)

plain_first : (n : Node) (ns : List Node) → has_wholes n ≡ true → dropped true (n ∷ ns) ≡ 0 → (dropped true ns ≡ 0 → ArePlain true ns) →
    ArePlain true (n ∷ ns)
plain_first n ns w h rest = by (has_further n) refl h
  where
    by : (b : Bool) → has_further n ≡ b → length (cond b (n ∷ filter has_further ns) (filter has_further ns)) ≡ 0 → ArePlain true (n ∷ ns)
    by true e k = absurd (omega (arith, k))
    by false e k = ((w, e), rest k)

plain_told : (drop : Bool) (ns : List Node) → list_all has_wholes ns ≡ true → dropped drop ns ≡ 0 → ArePlain drop ns
plain_told drop [] w h = tt
plain_told false (n ∷ ns) w h =
    let both = and_parts (has_wholes n) (list_all has_wholes ns) w in
    ((both.0, refl), plain_told false ns both.1 refl)
plain_told true (n ∷ ns) w h =
    let both = and_parts (has_wholes n) (list_all has_wholes ns) w in
    plain_first n ns both.0 h (plain_told true ns both.1)

parted : (drop : Bool) (ns ms : List Node) → ArePlain drop (ns ++ ms) → ArePlain drop ns × ArePlain drop ms
parted drop [] ms h = (tt, h)
parted drop (n ∷ ns) ms h = let rest = parted drop ns ms h.1 in ((h.0, rest.0), rest.1)

front_and_rest : {A B : Type 0} (f : A → B) (b : B) (bs cs : List B) (a : A) (as' : List A) → b ∷ bs ≡ cs → b ≡ f a → bs ≡ map f as' →
    cs ≡ map f (a ∷ as')
front_and_rest f b bs cs a as' e h k = sym e ∙ ap₂ (λ x xs. x ∷ xs) h k

module _ (wants : Wants) (e : wants.finer ≡ 0) where
  -- ---- the arcs that the editor reads are read in units

  sums_in_units : {before : Position} {ns : List Node} {ps : List Position} → InRange before → Sums before ns ps →
      fine_positions wants true (scaled before) ns ≡ Ok (map scaled ps)
  unfolding fine_positions
  sums_in_units low reads.no_pair = refl
  sums_in_units low (reads.pair {before = before} {p = p} {n = n} s t) =
      rw (position_in_units wants e before p n (steps_of before p n low s), sums_in_units s.in_range t) refl

  pairs_in_units : (ns : List Node) (ps : List Position) → AllZip (IsSum editor.origin) ns ps →
      fine_positions wants false fine_origin ns ≡ Ok (map scaled ps)
  unfolding fine_positions
  pairs_in_units [] [] h = refl
  pairs_in_units [] (p ∷ ps) h = absurd h
  pairs_in_units (n ∷ ns) [] h = absurd h
  pairs_in_units (n ∷ ns) (p ∷ ps) h =
      rw (position_in_units wants e editor.origin p n (steps_of editor.origin p n origin_in_range h.0), pairs_in_units ns ps h.1) refl

  positions_in_units : (delta : Bool) (ns : List Node) (ps : List Position) → ArePositions delta ns ps →
      fine_positions wants delta fine_origin ns ≡ Ok (map scaled ps)
  positions_in_units true ns ps h = sums_in_units origin_in_range h
  positions_in_units false ns ps h = pairs_in_units ns ps h

  two_items : (delta : Bool) (ns : List Node) (ps : List Position) → ArePositions delta ns ps → 2 ≤ length ps → editor.has_two ns ≡ true
  two_items true _ _ reads.no_pair long = absurd (omega (arith, long))
  two_items true _ _ (reads.pair s reads.no_pair) long = absurd (omega (arith, long))
  two_items true _ _ (reads.pair s (reads.pair t u)) long = refl
  two_items false [] [] h long = absurd (omega (arith, long))
  two_items false [] (p ∷ ps) h long = absurd h
  two_items false (n ∷ ns) [] h long = absurd h
  two_items false (n ∷ []) (p ∷ []) h long = absurd (omega (arith, long))
  two_items false (n ∷ []) (p ∷ q ∷ ps) h long = absurd h.1
  two_items false (n ∷ m ∷ ns) (p ∷ ps) h long = refl

  arc_in_units : (delta : Bool) (n : Node) (ps : List Position) → IsArc delta n ps → fine_arc wants delta n ≡ Ok (map scaled ps)
  unfolding fine_arc
  arc_in_units delta n ps a =
      let list : is_list n ≡ true = is_a_list a.list in
      let nodes : items n ≡ a.items = sym (items_told a.list) in
      rw (list, nodes, two_items delta a.items ps a.positions a.long) (positions_in_units delta a.items ps a.positions)

  each_in_units : (delta : Bool) (ns : List Node) (found : List Arc) → AllZip (IsArc delta) ns found →
      each (fine_arc wants delta) ns ≡ Ok (arcs_scaled found)
  each_in_units delta [] [] h = refl
  each_in_units delta [] (a ∷ found) h = absurd h
  each_in_units delta (n ∷ ns) [] h = absurd h
  each_in_units delta (n ∷ ns) (a ∷ found) h = rw (arc_in_units delta n a h.0, each_in_units delta ns found h.1) refl

  arcs_in_units : (delta : Bool) (n : Node) (found : List Arc) → AreArcs delta n found → fine_arcs wants delta n ≡ Ok (arcs_scaled found)
  arcs_in_units delta n found h =
      subst (λ ns. each (fine_arc wants delta) ns ≡ Ok (arcs_scaled found)) (items_told h.1) (each_in_units delta h.0 found h.2)

  -- ---- whole arcs that are read in units are read by the editor

  next_scaled : (delta : Bool) (p : Position) → before_next_fine delta (scaled p) ≡ scaled (editor.before_next delta p)
  next_scaled true p = refl
  next_scaled false p = refl

  positions_read : (delta : Bool) (before p : Position) (n : Node) (ns : List Node) (ps : List Position) → editor.position before n ≡ Ok p →
      editor.positions delta (editor.before_next delta p) ns ≡ Ok ps → editor.positions delta before (n ∷ ns) ≡ Ok (p ∷ ps)
  unfolding editor.positions
  positions_read delta before p n ns ps h k = rw (h, k) refl

  positions_back : (delta : Bool) (before : Position) (ns : List Node) (qs : List FinePosition) → ArePlain wants.drop_heights ns →
      fine_positions wants delta (scaled before) ns ≡ Ok qs →
      (ps : List Position) × (qs ≡ map scaled ps) × (editor.positions delta before ns ≡ Ok ps)
  unfolding fine_positions editor.positions
  positions_back delta before [] qs all h = ([], sym (ok_same [] qs h), refl)
  positions_back delta before (n ∷ ns) qs all h =
      let after = λ (p : FinePosition). fine_positions wants delta (before_next_fine delta p) ns in
      let first = bind_ok (fine_position wants (scaled before) n) (λ (p : FinePosition). after p >>= λ rs. Ok (p ∷ rs)) qs h in
      let rest = bind_ok (after first.0) (λ (rs : List FinePosition). Ok (first.0 ∷ rs)) qs first.2 in
      let p = position_back wants e before n first.0 all.0 first.1 in
      let next : before_next_fine delta first.0 ≡ scaled (editor.before_next delta p.0) = ap (before_next_fine delta) p.1 ∙ next_scaled delta p.0 in
      let there = subst (λ (b : FinePosition). fine_positions wants delta b ns ≡ Ok rest.0) next rest.1 in
      let ps = positions_back delta (editor.before_next delta p.0) ns rest.0 all.1 there in
      let same = front_and_rest scaled first.0 rest.0 qs p.0 ps.0 (ok_same (first.0 ∷ rest.0) qs rest.2) p.1 ps.1 in
      (p.0 ∷ ps.0, same, positions_read delta before p.0 n ns ps.0 p.2 ps.2)

  arc_read : (delta : Bool) (n : Node) (ps : Arc) → (is_list n && editor.has_two (items n)) ≡ true →
      editor.positions delta editor.origin (items n) ≡ Ok ps → editor.arc delta n ≡ Ok ps
  unfolding editor.arc
  arc_read delta n ps list h = rw list h

  arc_back : (delta : Bool) (n : Node) (qs : List FinePosition) → ArePlain wants.drop_heights (items n) → fine_arc wants delta n ≡ Ok qs →
      (ps : Arc) × (qs ≡ map scaled ps) × (editor.arc delta n ≡ Ok ps)
  unfolding fine_arc
  arc_back delta n qs all h =
      let found = fine_positions wants delta fine_origin (items n) in
      let is = demand_ok (is_list n && editor.has_two (items n)) (bad_position n.at_byte) found qs h in
      let back = positions_back delta editor.origin (items n) qs all is.1 in
      (back.0, back.1, arc_read delta n back.0 is.0 back.2)

  each_read : (delta : Bool) (n : Node) (ns : List Node) (a : Arc) (found : List Arc) → editor.arc delta n ≡ Ok a →
      each (editor.arc delta) ns ≡ Ok found → each (editor.arc delta) (n ∷ ns) ≡ Ok (a ∷ found)
  each_read delta n ns a found h k = rw (h, k) refl

  arcs_back : (delta : Bool) (ns : List Node) (fine : List (List FinePosition)) → ArePlain wants.drop_heights (flat_map items ns) →
      each (fine_arc wants delta) ns ≡ Ok fine → (found : List Arc) × (fine ≡ arcs_scaled found) × (each (editor.arc delta) ns ≡ Ok found)
  arcs_back delta [] fine all h = ([], sym (ok_same [] fine h), refl)
  arcs_back delta (n ∷ ns) fine all h =
      let after = each (fine_arc wants delta) ns in
      let first = bind_ok (fine_arc wants delta n) (λ (a : List FinePosition). after >>= λ bs. Ok (a ∷ bs)) fine h in
      let rest = bind_ok after (λ (bs : List (List FinePosition)). Ok (first.0 ∷ bs)) fine first.2 in
      let parts = parted wants.drop_heights (items n) (flat_map items ns) all in
      let a = arc_back delta n first.0 parts.0 first.1 in
      let found = arcs_back delta ns rest.0 parts.1 rest.1 in
      let same = front_and_rest (map scaled) first.0 rest.0 fine a.0 found.0 (ok_same (first.0 ∷ rest.0) fine rest.2) a.1 found.1 in
      (a.0 ∷ found.0, same, each_read delta n ns a.0 found.0 a.2 found.2)

  opened_whole : (shape : OutlineText) (found : List Arc) (ps : List Polygons) → walks_read found shape.layers ≡ Ok ps →
      opened_on wants shape (arcs_scaled found) ≡ Ok (made shape ps)
  opened_whole shape found ps h =
      let divides : transform_on (0 + wants.finer) shape.transform ≡ Ok shape.transform = rw e refl in
      goes_well wants shape (arcs_scaled found) 0 (sym (no_digits wants found)) shape.transform divides ps (rw (e, arcs_unmoved found) h)

-- ---- what the editor opens

record IsOpenedWhole (root : Node) (o : Opened) : Type 0 where
  shape : OutlineText
  found : List Arc
  polygons : List Polygons
  outlined : outline root ≡ Ok shape
  are : AreArcs (is_some shape.transform) shape.arcs found
  along : walks_read found shape.layers ≡ Ok polygons
  is : made shape polygons ≡ o

abbrev walks_of : OutlineText → Result (List Polygons) Fault
walks_of shape = editor.arcs (is_some shape.transform) shape.arcs >>= λ found. walks_read found shape.layers

whole_parts : (bytes : List ℕ) (o : Opened) → OpensWalks bytes o → IsOpenedWhole (root_of bytes) o
whole_parts bytes o h =
    let shape = bind_ok (outline (root_of bytes)) (λ (shape : OutlineText). walks_of shape >>= λ ps. Ok (made shape ps)) o h.opens in
    let ps = bind_ok (walks_of shape.0) (λ (ps : List Polygons). Ok (made shape.0 ps)) o shape.2 in
    let read = editor.arcs (is_some shape.0.transform) shape.0.arcs in
    let found = bind_ok read (λ (found : List Arc). walks_read found shape.0.layers) ps.0 ps.1 in
    let list = (outline_means 100 (root_of bytes) shape.0 (root_value 100 bytes h.json) shape.1).are_arcs in
    record {
      shape = shape.0;
      found = found.0;
      polygons = ps.0;
      outlined = shape.1;
      are = are_arcs (is_some shape.0.transform) shape.0.arcs found.0 list found.1;
      along = found.2;
      is = ok_same (made shape.0 ps.0) o ps.2;
    }

abbrev nodes_of : OutlineText → List Node
nodes_of shape = flat_map items (items shape.arcs)

abbrev opened : Opened → Result Opened Fault
opened o = Ok o

-- ---- the laws: on a grid that is no finer it is read as the editor reads it

pub whole_on_grid : (wants : Wants) (bytes : List ℕ) (o : Opened) → wants.finer ≡ 0 → OpensWalks bytes o →
    OpensIn (grid_opening wants) bytes o
whole_on_grid wants bytes o e h =
    let w = whole_parts bytes o h in
    let fine = arcs_in_units wants e (is_some w.shape.transform) w.shape.arcs w.found w.are in
    let made_same = opened_whole wants e w.shape w.found w.polygons w.along in
    record { short = h.short; json = h.json; opens = rw (w.outlined, fine) (made_same ∙ ap opened w.is) }

-- whether it has whole numbers alone, and no heights that are left out, is reported
pub whole_told : (wants : Wants) (bytes : List ℕ) (o : Opened) (told : Told) → OpensWalks bytes o → IsTold wants bytes told →
    (told.whole ≡ true) × (told.heights ≡ 0)
whole_told wants bytes o told h t =
    let w = whole_parts bytes o h in
    let same : w.shape ≡ t.shape = ok_same w.shape t.shape (sym w.outlined ∙ t.outlined) in
    let nodes : flat_map items w.are.0 ≡ nodes_of t.shape = ap (flat_map items) (items_told w.are.1) ∙ ap nodes_of same in
    let plain = subst (ArePlain wants.drop_heights) nodes
    (arcs_plain wants.drop_heights (is_some w.shape.transform) w.are.0 w.found w.are.2) in (
      t.is.whole ∙ all_whole_of wants.drop_heights (nodes_of t.shape) plain,
      t.is.heights ∙ none_dropped wants.drop_heights (nodes_of t.shape) plain,
    )

-- and where that is reported, the editor reads it
pub grid_is_whole : (wants : Wants) (bytes : List ℕ) (o : Opened) (told : Told) → wants.finer ≡ 0 → OpensIn (grid_opening wants) bytes o →
    IsTold wants bytes told → told.whole ≡ true → told.heights ≡ 0 → OpensWalks bytes o
grid_is_whole wants bytes o told e h t whole low =
    let g = opened_parts wants (root_of bytes) o h.opens in
    let same : t.shape ≡ g.shape = ok_same t.shape g.shape (sym t.outlined ∙ g.outlined) in
    let plain = subst (ArePlain wants.drop_heights) (ap nodes_of same)
    (plain_told wants.drop_heights (nodes_of t.shape) (sym t.is.whole ∙ whole) (sym t.is.heights ∙ low)) in
    let back = arcs_back wants e (is_some g.shape.transform) (items g.shape.arcs) g.fine plain g.are in
    let arcs : arcs_on wants g.fine ≡ back.0 = ap (arcs_on wants) back.1 ∙ same_arcs wants back.0 e in
    let grid : finer_by wants g.fine ≡ 0 = ap (finer_by wants) back.1 ∙ same_grid wants back.0 e in
    let along : walks_read back.0 g.shape.layers ≡ Ok g.polygons = rw arcs at g.along in
    let kept : g.shape.transform ≡ g.transform = ok_same g.shape.transform g.transform (rw grid at g.divides) in
    let is : made g.shape g.polygons ≡ o = ap (λ (x : Option Text). put g.shape x g.polygons) kept ∙ g.is in
    record { short = h.short; json = h.json; opens = rw (g.outlined, back.2, along) (ap opened is) }

-- and this is told of it
pub whole_is_told : (wants : Wants) (bytes : List ℕ) (o : Opened) → wants.finer ≡ 0 → OpensWalks bytes o →
    IsTold wants bytes (record { decimals = 0; digits = 0; rounded = 0; heights = 0; whole = true })
whole_is_told wants bytes o e h =
    let w = whole_parts bytes o h in
    let none = no_digits wants w.found in
    let plain = subst (ArePlain wants.drop_heights) (ap (flat_map items) (items_told w.are.1))
    (arcs_plain wants.drop_heights (is_some w.shape.transform) w.are.0 w.found w.are.2) in
    record {
      shape = w.shape;
      fine = arcs_scaled w.found;
      outlined = w.outlined;
      are = arcs_in_units wants e (is_some w.shape.transform) w.shape.arcs w.found w.are;
      is = record {
        decimals = rw (none_in_arcs w.found) refl;
        digits = sym none;
        rounded = sym (ap (λ (n : ℕ). positions_moved n (arcs_scaled w.found)) none ∙ ap length (all_stay w.found));
        heights = sym (none_dropped wants.drop_heights (nodes_of w.shape) plain);
        whole = sym (all_whole_of wants.drop_heights (nodes_of w.shape) plain);
      };
    }
