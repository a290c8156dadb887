-- A map of rings, each begun anywhere, no two of whose segments conflict is mended by no paths: to itself, with each
-- ring begun at its least position.
use Rattle.kit_words.proofs.Common.{◌≡◌, ℕ, suc, List, [], ◌∷◌, ◌++◌, map, refl, sym, ap, ap₂, ◌∙◌, subst, cond, ℤ, pos}
use Rattle.kit_words.proofs.Common.{◌+ℤ◌, ◌-ℤ◌, ◌+◌, ◌&&◌, ◌==◌, T, true, false, Bool, AllZip, AllByRecursion, All-nil, IsTrue}
use Rattle.kit_words.proofs.Common.{IsStrictlySortedBy, IsStrictlySortedBy-filter, Ordering, Less, Equal, Greater, is_lt}
use Rattle.kit_words.proofs.Common.{below_all, is_sorted, filter, flat_map, fold, list_all, list_all-append, and_parts}
use Rattle.kit_words.proofs.Common.{sum_by-cons, Decides-int_eq, int_eq, inl, inr}
use Rattle.kit_words.proofs.Common.{false≢true, is_some, Some}
use Rattle.std.specs.FinMap.Entries.{put, find, is_some-find, is_sorted-put, find-put}
use Rattle.std.specs.Prelude.{sum_by}
use Rattle.grid_geometry.specs.Common.{Position, Segment, segment_cmp, Edge, edges}
use Rattle.ring_machine.specs.Common.{canonical, segment_of, absolute_area, polygon_area, Feature, Document, features}
use Rattle.ring_machine.specs.Common.{all_segments, in_feature, in_rings}
use Rattle.ring_machine.proofs.Common.{In, contains_in, in_contains, any_in, in-filter, filter-in, features-in_rings}
use Rattle.ring_machine.proofs.SplitAreas.{absolute_area-canonical}
use Rattle.segment_index.specs.Common.{segment_is}
use Rattle.segment_index.proofs.Common.{segment_total, same_segment, is-itself}
use Rattle.topo_reader.specs.Common.{Polygons, Opened, document_of, is_simple, IsOfWalks}
use Rattle.walk_faults.specs.Common.{all_walks}
use Rattle.walk_mending.specs.Common.{IsMended, stays}
use Rattle.map_mending.specs.Common.{MendsPolygon, Mended, polygons_of_parts, MendedBy, NeedsNoMending, bounds_in, TellsParted}
use Rattle.map_mending.specs.Common.{polygons_by_feature, changes_from, with_mended}
use Rattle.map_mending.specs.Areas.{area_in, change_of, told_if}
use Rattle.map_mending.specs.Told.{told_of, told_from, told_in}
use Rattle.map_mending.specs.Swept.{swept_by, swept_walks, swept_of}
use Rattle.map_mending.proofs.Beside.{no_triangle}
use Rattle.map_mending.proofs.Pieces.{document_mended}
use Rattle.map_mending.proofs.Stays.{bounding_in, all_plain, mended_stays}

-- ---- the segments that bound, ascending

first_of_two : (a b : Bool) → T (a && b) → T a
first_of_two true b p = tt
first_of_two false b p = absurd p

second_of_two : (a b : Bool) → T (a && b) → T b
second_of_two true b p = p
second_of_two false b p = absurd p

is_less : (o : Ordering) → T (is_lt o) → o ≡ Less
is_less Less p = refl
is_less Equal p = absurd p
is_less Greater p = absurd p

-- the keys of a set ascend
module _ {K X : Type 0} (R : K → K → Ordering) where
  rest_above : (k : K) (es : List (K × X)) → T (below_all R k es) → AllByRecursion (λ y. R k y ≡ Less) (map (λ e. e.0) es)
  rest_above k [] h = tt
  rest_above k (e ∷ es) h =
      (is_less (R k e.0) (first_of_two (is_lt (R k e.0)) (below_all R k es) h), rest_above k es (second_of_two (is_lt (R k e.0)) (below_all R k es) h))

  keys_rise : (es : List (K × X)) → T (is_sorted R es) → IsStrictlySortedBy R (map (λ e. e.0) es)
  unfolding IsStrictlySortedBy
  keys_rise [] h = tt
  keys_rise (e ∷ es) h =
      (rest_above e.0 es (first_of_two (below_all R e.0 es) (is_sorted R es) h), keys_rise es (second_of_two (below_all R e.0 es) (is_sorted R es) h))

-- the segments, ascending, each once
abbrev entries_of : List Segment → List (Segment × Unit {0})
entries_of [] = []
entries_of (s ∷ ss) = put segment_cmp s tt (entries_of ss)

abbrev in_order : List Segment → List Segment
in_order ss = map (λ e. e.0) (entries_of ss)

entries-sorted : (ss : List Segment) → T (is_sorted segment_cmp (entries_of ss))
entries-sorted [] = tt
entries-sorted (s ∷ ss) = is_sorted-put segment_cmp segment_total s tt (entries_of ss) (entries-sorted ss)

in_order-rises : (ss : List Segment) → IsStrictlySortedBy segment_cmp (in_order ss)
in_order-rises ss = keys_rise segment_cmp (entries_of ss) (entries-sorted ss)

among-entries : (ss : List Segment) (s : Segment) → In s ss → is_some (find segment_cmp s (entries_of ss)) ≡ true
among-entries [] s i = absurd i
among-entries (t ∷ ss) s i = ap is_some (find-put segment_cmp segment_total s t tt (entries_of ss)) ∙ by (segment_is s t) refl i (among-entries ss s)
  where
    by : (b : Bool) → segment_is s t ≡ b → In s (t ∷ ss) → (In s ss → is_some (find segment_cmp s (entries_of ss)) ≡ true)
        → is_some (cond b (Some tt) (find segment_cmp s (entries_of ss))) ≡ true
    by true e j rest = refl
    by false e (inl same) rest = absurd (false≢true (sym e ∙ ap (segment_is s) same ∙ is-itself s))
    by false e (inr j) rest = rest j

in-in_order : (ss : List Segment) (s : Segment) → In s ss → In s (in_order ss)
in-in_order ss s i =
    let t = any_in (segment_is s) (in_order ss) (sym (is_some-find segment_cmp s (entries_of ss)) ∙ among-entries ss s i) in
    subst (λ z. In z (in_order ss)) (sym (same_segment s t.0 t.2)) t.1

-- a document that needs no mending is mended by no paths
pub by_no_paths : (d : Document) → NeedsNoMending d → MendedBy d []
unfolding IsStrictlySortedBy
by_no_paths d n = record {
  segments = filter (bounds_in d) (in_order (all_segments d));
  bounding = record {
    ascending = IsStrictlySortedBy-filter segment_cmp (bounds_in d) (in_order (all_segments d)) (in_order-rises (all_segments d));
    all = λ s. (
      λ c. (in-filter (bounds_in d) s (in_order (all_segments d)) (contains_in (filter (bounds_in d) (in_order (all_segments d))) s c)).1,
      λ b. in_contains (filter (bounds_in d) (in_order (all_segments d))) s
          (filter-in (bounds_in d) s (in_order (all_segments d)) (in-in_order (all_segments d) s (bounding_in d n s b)) b),
    );
  };
  are_paths = record { ascending = tt; among = All-nil _; ways = All-nil _; known = All-nil _ };
  needed = λ h. refl;
}

-- ---- polygons of rings

-- the rings of all polygons, each begun at its least position
abbrev pub turned : Polygons → Polygons
turned ps = map (map canonical) ps

abbrev part_of : List (List Position) → Polygons
part_of walks = map canonical walks ∷ []

both_simple : (xs ys : List (List Position)) → list_all is_simple (xs ++ ys) ≡ true → (list_all is_simple xs ≡ true) × (list_all is_simple ys ≡ true)
both_simple xs ys h = and_parts (list_all is_simple xs) (list_all is_simple ys) (sym (list_all-append is_simple xs ys) ∙ h)

one_stays : (walks : List (List Position)) → list_all is_simple walks ≡ true → MendsPolygon [] walks (part_of walks)
one_stays walks h = subst (λ z. IsMended z (part_of walks)) (sym (all_plain walks)) (stays h)

each_stays : (ps : Polygons) → list_all is_simple (flat_map (λ r. r) ps) ≡ true → AllZip (MendsPolygon []) ps (map part_of ps)
each_stays [] h = tt
each_stays (w ∷ ps) h = let k = both_simple w (flat_map (λ r. r) ps) h in (one_stays w k.0, each_stays ps k.1)

all_stay : (all : List Polygons) → list_all is_simple (all_walks all) ≡ true → AllZip (AllZip (MendsPolygon [])) all (map (map part_of) all)
all_stay [] h = tt
all_stay (ps ∷ all) h = let k = both_simple (flat_map (λ r. r) ps) (all_walks all) h in (each_stays ps k.0, all_stay all k.1)

joins : (ps : Polygons) → turned ps ≡ polygons_of_parts (map part_of ps)
joins [] = refl
joins (w ∷ ps) = ap (λ (z : Polygons). map canonical w ∷ z) (joins ps)

all_join : (all : List Polygons) → map turned all ≡ map polygons_of_parts (map (map part_of) all)
all_join [] = refl
all_join (ps ∷ all) = ap₂ (λ (y : Polygons) (z : List Polygons). y ∷ z) (joins ps) (all_join all)

none_of : (n k : ℕ) (walks : List (List Position)) → list_all is_simple walks ≡ true → told_of [] n k walks (part_of walks) ≡ []
none_of n k walks h =
    ap (λ b. cond b [] (record { feature = n; polygon = k; parts = 1 } ∷ [])) (ap (list_all is_simple) (all_plain walks) ∙ h)

none_from : (n k : ℕ) (ps : Polygons) → list_all is_simple (flat_map (λ r. r) ps) ≡ true → told_from [] n k ps (map part_of ps) ≡ []
none_from n k [] h = refl
none_from n k (w ∷ ps) h =
    let s = both_simple w (flat_map (λ r. r) ps) h in
    ap₂ (λ y z. y ++ z) (none_of n k w s.0) (none_from n (suc k) ps s.1)

none_in : (n : ℕ) (all : List Polygons) → list_all is_simple (all_walks all) ≡ true → told_in [] n all (map (map part_of) all) ≡ []
none_in n [] h = refl
none_in n (ps ∷ all) h =
    let s = both_simple (flat_map (λ r. r) ps) (all_walks all) h in
    ap₂ (λ y z. y ++ z) (none_from n 0 ps s.0) (none_in (suc n) all s.1)

none_parted : (all : List Polygons) → list_all is_simple (all_walks all) ≡ true → TellsParted [] all (map turned all) []
none_parted all h = record {
  parts = map (map part_of) all;
  each = all_stay all h;
  joins = all_join all;
  tells = sym (none_in 0 all h);
}

-- ---- areas

holes_turned : (x : ℤ) (holes : List (List Position))
    → fold (λ so_far hole. so_far -ℤ absolute_area hole) x (map canonical holes) ≡ fold (λ so_far hole. so_far -ℤ absolute_area hole) x holes
holes_turned x [] = refl
holes_turned x (h ∷ holes) =
    ap (λ a. fold (λ so_far hole. so_far -ℤ absolute_area hole) (x -ℤ a) (map canonical holes)) (absolute_area-canonical h)
    ∙ holes_turned (x -ℤ absolute_area h) holes

area_turned : (polygon : List (List Position)) → polygon_area (map canonical polygon) ≡ polygon_area polygon
area_turned [] = refl
area_turned (outer ∷ holes) =
    ap (λ a. fold (λ so_far hole. so_far -ℤ absolute_area hole) a (map canonical holes)) (absolute_area-canonical outer)
    ∙ holes_turned (absolute_area outer) holes

areas_turned : (x : ℤ) (ps : Polygons)
    → fold (λ so_far polygon. so_far +ℤ polygon_area polygon) x (turned ps) ≡ fold (λ so_far polygon. so_far +ℤ polygon_area polygon) x ps
areas_turned x [] = refl
areas_turned x (p ∷ ps) =
    ap (λ a. fold (λ so_far polygon. so_far +ℤ polygon_area polygon) (x +ℤ a) (turned ps)) (area_turned p)
    ∙ areas_turned (x +ℤ polygon_area p) ps

all_none : {X : Type 0} (f : X → ℕ) → ((x : X) → f x ≡ 0) → (xs : List X) → sum_by f xs ≡ 0
all_none f h [] = refl
all_none f h (x ∷ xs) = sum_by-cons f x xs ∙ ap₂ (λ m n. m + n) (h x) (all_none f h xs)

nothing_by : (e : Edge) → swept_by [] e ≡ 0
nothing_by e = ap (λ n. 0 + n) (no_triangle (segment_of e).lo (segment_of e).hi)

nothing_swept : (ps : Polygons) → swept_of [] ps ≡ 0
nothing_swept ps =
    all_none (swept_walks []) (λ walks. all_none (λ walk. sum_by (swept_by []) (edges walk)) (λ walk. all_none (swept_by []) nothing_by (edges walk)) walks) ps

none_told : (n : ℕ) (ps : Polygons) → told_if (change_of [] n ps (turned ps)) ≡ []
none_told n ps =
    let same : int_eq (area_in ps) (area_in (turned ps)) ≡ true = (Decides-int_eq (area_in ps) (area_in (turned ps))).1 (sym (areas_turned (pos 0) ps)) in
    let still : (swept_of [] ps == 0) ≡ true = ap (λ m. m == 0) (nothing_swept ps) in
    ap (λ b. cond b [] (change_of [] n ps (turned ps) ∷ [])) (ap₂ (λ a b. a && b) same still)

pub no_changes : (n : ℕ) (all : List Polygons) → changes_from [] n all (map turned all) ≡ []
no_changes n [] = refl
no_changes n (ps ∷ all) = ap₂ (λ y z. y ++ z) (none_told n ps) (no_changes (suc n) all)

-- ---- the document

turned_features : (fs : List Feature) → map (λ (f : Feature). f.polygons) (map (in_feature canonical) fs) ≡ map turned (map (λ (f : Feature). f.polygons) fs)
turned_features [] = refl
turned_features (f ∷ fs) = ap (λ (z : List Polygons). turned f.polygons ∷ z) (turned_features fs)

pub polygons_turned : (d : Document) → polygons_by_feature (in_rings canonical d) ≡ map turned (polygons_by_feature d)
polygons_turned d = ap (map (λ (f : Feature). f.polygons)) (features-in_rings canonical d) ∙ turned_features (features d)

module _ (o : Opened) (w : IsOfWalks o) (n : NeedsNoMending (document_of o)) (same : polygons_by_feature (document_of o) ≡ o.polygons)
    (simple : list_all is_simple (all_walks o.polygons) ≡ true) where
  abbrev d : Document
  d = document_of o

  -- it is mended to itself
  pub mended_as_is : Mended [] d (in_rings canonical d)
  mended_as_is =
      let made = document_mended [] o (map turned o.polygons) [] (none_parted o.polygons simple) in
      subst (Mended [] d) (mended_stays d (document_of (with_mended o (map turned o.polygons))) [] n w.formed (by_no_paths d n) made) made

  pub parted_as_is : TellsParted [] (polygons_by_feature d) (polygons_by_feature (in_rings canonical d)) []
  parted_as_is =
      subst (λ (qs : List Polygons). TellsParted [] (polygons_by_feature d) qs []) (sym (polygons_turned d))
      (subst (λ (ps : List Polygons). TellsParted [] ps (map turned ps) []) (sym same) (none_parted o.polygons simple))

  pub changes_as_is : changes_from [] 0 (polygons_by_feature d) (polygons_by_feature (in_rings canonical d)) ≡ []
  changes_as_is = ap (changes_from [] 0 (polygons_by_feature d)) (polygons_turned d) ∙ no_changes 0 (polygons_by_feature d)
