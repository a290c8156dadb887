-- What tables tell is what the map tells, wherever the text asks.
use Rattle.kit_words.proofs.Common.{◌≡◌, ◌<◌, ◌+◌, ℕ, suc, refl, sym, ap, ap₂, ◌∙◌, List, [], ◌∷◌, ◌++◌, length, map}
use Rattle.kit_words.proofs.Common.{take, get_or, arith, Option, Some, None, codes, is_some, map-append}
use Rattle.std.proofs.Common.{All}
use Rattle.grid_geometry.specs.Common.{Position}
use Rattle.ring_machine.specs.Common.{Text}
use Rattle.map_text.specs.Common.{arcs_text}
use Rattle.segment_paths.specs.Common.{PathOfSegment}
use Rattle.topo_outline.specs.declared.fault.RingAt.{RingAt}
use Rattle.walk_faults.specs.declared.findings.Findings.{Findings}
use Rattle.walk_faults.specs.declared.findings.Touch.{Touch}
use Rattle.walk_faults.specs.Common.{flat_map_at}
use Rattle.place_text.specs.declared.owners.Owners.{Owners}
use Rattle.place_text.specs.Common.{Short, On, Cross, Place, Side, Telling, telling, pair_features, list_at, place_at}
use Rattle.place_text.specs.Common.{short_place, repeat_place, touch_place, crossing_place, places_of, ArePlaces}
use Rattle.place_text.specs.Common.{walk_at, sides_of, side_ends, numbers_held, told_by, told_paths, Answers, point_of_place}
use Rattle.place_text.specs.Common.{side_text, sides_text, path_text, path_layer, collection_text, transform_member, ways}
use Rattle.place_text.specs.Common.{topology_text, IsPlaceText}

-- ---- elements that give the same

each_agree : {X Y : Type 0} (f g : ℕ → X → List Y) (k : ℕ) (xs : List X) → ((n i : ℕ) (d : X) → i < length xs → f n (get_or xs i d) ≡ g n (get_or xs i d))
    → flat_map_at f k xs ≡ flat_map_at g k xs
each_agree f g k [] same = refl
each_agree f g k (x ∷ xs) same =
    ap₂ (λ ys zs. ys ++ zs) (same k 0 x (omega arith)) (each_agree f g (suc k) xs (λ n i d l. same n (suc i) d (omega (arith, l))))

map_each : {X Y Z : Type 0} (f : Y → Z) (h : ℕ → X → List Y) (k : ℕ) (xs : List X) → map f (flat_map_at h k xs) ≡ flat_map_at (λ n x. map f (h n x)) k xs
map_each f h k [] = refl
map_each f h k (x ∷ xs) = map-append f (h k x) (flat_map_at h (suc k) xs) ∙ ap (λ z. map f (h k x) ++ z) (map_each f h (suc k) xs)

mapped_agree : {X Y Z : Type 0} (f g : Y → Z) (h : ℕ → X → List Y) (k : ℕ) (xs : List X)
    → ((n i : ℕ) (d : X) → i < length xs → map f (h n (get_or xs i d)) ≡ map g (h n (get_or xs i d))) → map f (flat_map_at h k xs) ≡ map g (flat_map_at h k xs)
mapped_agree f g h k xs same =
    map_each f h k xs ∙ each_agree (λ n x. map f (h n x)) (λ n x. map g (h n x)) k xs same ∙ sym (map_each g h k xs)

module _ (t u : Telling) where
  -- ---- places

  -- a short walk is told by its place alone
  short_same : (n : ℕ) (r : RingAt) (ps : List Position) → map (point_of_place t) (map (place_at Short n (Some r)) ps) ≡ map (point_of_place u) (map (place_at Short n (Some r)) ps)
  short_same n r [] = refl
  short_same n r (p ∷ ps) = ap (λ z. point_of_place t (place_at Short n (Some r) p) ∷ z) (short_same n r ps)

  touch_same : (n : ℕ) (p : Position) → t.vertex p ≡ u.vertex p → point_of_place t (place_at On n None p) ∷ [] ≡ point_of_place u (place_at On n None p) ∷ []
  touch_same n p e = ap (λ ns. point_of_place (record { vertex = λ _. ns; segment = t.segment; pair = t.pair }) (place_at On n None p) ∷ []) e

  crossing_same : (n : ℕ) (p : Position) → t.pair n ≡ u.pair n → point_of_place t (place_at Cross n None p) ∷ [] ≡ point_of_place u (place_at Cross n None p) ∷ []
  crossing_same n p e = ap (λ ns. point_of_place (record { vertex = t.vertex; segment = t.segment; pair = λ _. ns }) (place_at Cross n None p) ∷ []) e

  places_same : {A : Type 0} (features : List (List (List (List Position)))) (found : Findings A) (crossings : List Position)
      → All (λ (c : Touch). t.vertex c.pos ≡ u.vertex c.pos) found.touches.items → ((n : ℕ) → t.pair n ≡ u.pair n)
      → map (point_of_place t) (places_of features found crossings) ≡ map (point_of_place u) (places_of features found crossings)
  places_same features found crossings vertices pairs =
      let ss = flat_map_at (short_place features) 0 found.short.items in
      let rs = flat_map_at repeat_place 0 found.repeats.items in
      let ts = flat_map_at touch_place 0 found.touches.items in
      let cs = flat_map_at crossing_place 0 crossings in
      let s : map (point_of_place t) ss ≡ map (point_of_place u) ss =
      mapped_agree (point_of_place t) (point_of_place u) (short_place features) 0 found.short.items
      (λ n i d l. short_same n (get_or found.short.items i d) (take 1 (walk_at features (get_or found.short.items i d)))) in
      let r : map (point_of_place t) rs ≡ map (point_of_place u) rs = mapped_agree (point_of_place t) (point_of_place u) repeat_place 0 found.repeats.items (λ n i d l. refl) in
      let h : map (point_of_place t) ts ≡ map (point_of_place u) ts =
      mapped_agree (point_of_place t) (point_of_place u) touch_place 0 found.touches.items (λ n i d l. touch_same n (get_or found.touches.items i d).pos (vertices i d l)) in
      let c : map (point_of_place t) cs ≡ map (point_of_place u) cs =
      mapped_agree (point_of_place t) (point_of_place u) crossing_place 0 crossings (λ n i d l. crossing_same n (get_or crossings i d) (pairs n)) in
      parts (point_of_place t) ss rs ts cs ∙ ap₂ (λ a b. a ++ b) s (ap₂ (λ a b. a ++ b) r (ap₂ (λ a b. a ++ b) h c)) ∙ sym (parts (point_of_place u) ss rs ts cs)
    where
      parts : (f : Place → Text) (ss rs ts cs : List Place) → map f (ss ++ (rs ++ (ts ++ cs))) ≡ map f ss ++ (map f rs ++ (map f ts ++ map f cs))
      parts f ss rs ts cs =
          map-append f ss (rs ++ (ts ++ cs)) ∙ ap (λ z. map f ss ++ z) (map-append f rs (ts ++ cs) ∙ ap (λ z. map f rs ++ z) (map-append f ts cs))

  -- ---- segments and paths

  side_same : (n : ℕ) (s : Side) → t.segment s.segment ≡ u.segment s.segment → side_text t n s ∷ [] ≡ side_text u n s ∷ []
  side_same n s e = ap (λ ns. side_text (record { vertex = t.vertex; segment = λ _. ns; pair = t.pair }) n s ∷ []) e

  sides_same : (sides : List Side) → All (λ (s : Side). t.segment s.segment ≡ u.segment s.segment) sides → sides_text t sides ≡ sides_text u sides
  sides_same sides same =
      each_agree (λ n s. side_text t n s ∷ []) (λ n s. side_text u n s ∷ []) 0 sides (λ n i d l. side_same n (get_or sides i d) (same i d l))

  path_same : (n index : ℕ) (p : PathOfSegment) → t.segment p.0 ≡ u.segment p.0 → path_text t n index p ∷ [] ≡ path_text u n index p ∷ []
  path_same n index p e = ap (λ ns. path_text (record { vertex = t.vertex; segment = λ _. ns; pair = t.pair }) n index p ∷ []) e

  layer_same : (others : ℕ) (paths : Option (List PathOfSegment)) → All (λ (p : PathOfSegment). t.segment p.0 ≡ u.segment p.0) (told_paths paths) → path_layer t others paths ≡ path_layer u others paths
  layer_same others None same = refl
  layer_same others (Some paths) same =
      ap (λ z. codes ",\"paths\":" ++ collection_text z) (each_agree (λ n p. path_text t n (others + n) p ∷ []) (λ n p. path_text u n (others + n) p ∷ []) 0 paths
      (λ n i d l. path_same n (others + n) (get_or paths i d) (same i d l)))

-- ---- the whole text

pub text_is : {A : Type 0} (transform : Option Text) (features : List (List (List (List Position)))) (found : Findings A) (paths : Option (List PathOfSegment))
    (places : List Place) (sides : List Side) (owners : Owners A) (text : List ℕ) → ArePlaces features found places → sides ≡ sides_of found
    → Answers features found.touches.items sides (told_paths paths) owners.tables → map numbers_held owners.pairs.items ≡ map (pair_features features) found.crossings.items
    → text ≡ topology_text (told_by owners) transform places sides paths → IsPlaceText transform features found paths text
text_is transform features found paths places sides owners text are same told pairs is =
    let t = told_by owners in
    let u = telling features found in
    let p : map (point_of_place t) places ≡ map (point_of_place u) places =
    ap (map (point_of_place t)) are.all ∙ places_same t u features found are.crossings told.at_touches (λ n. ap (λ ls. list_at ls n) pairs) ∙ ap (map (point_of_place u)) (sym are.all) in
    let s : sides_text t sides ≡ sides_text u sides = sides_same t u sides told.at_sides in
    let l : path_layer t (length sides) paths ≡ path_layer u (length sides) paths = layer_same t u (length sides) paths told.at_paths in
    let whole : topology_text t transform places sides paths ≡ topology_text u transform places sides paths =
    λ i. codes "{\"type\":\"Topology\"" ++ (transform_member transform ++ (codes ",\"objects\":{\"places\":" ++ (collection_text (p i)
    ++ (codes ",\"segments\":" ++ (collection_text (s i) ++ (l i ++ (codes "},\"arcs\":"
    ++ (arcs_text (is_some transform) (map side_ends sides ++ ways paths) ++ codes "}")))))))) in
    record {
      places = places;
      are_places = are;
      same = is ∙ whole ∙ ap (λ z. topology_text u transform places z paths) same;
    }
