-- What is copied stands in the file: so of each piece of a topology that is made.
use Rattle.kit_words.proofs.Common.{◌≡◌, ℕ, zero, suc, List, [], ◌∷◌, ◌++◌, Bool, true, false, cond, Option, Some, None, Result}
use Rattle.kit_words.proofs.Common.{Ok, subst, AllByRecursion, codes, not, ◌||◌, ◌==◌, is_some}
use Rattle.std.specs.Prelude.{find, option_and_then}
use Rattle.json_spans.specs.Common.{Node, items, members, decoded}
use Rattle.topo_outline.specs.Common.{Fault, demand, name_text, is_object, duplicate, unquoted}
use Rattle.topo_outline.proofs.Steps.{step, demanded, same_ok}
use Rattle.std.specs.List.{list_any}
use Rattle.std.specs.Str.{bytes_eq}
use Rattle.geo_topology.specs.declared.words.Word.{Word}
use Rattle.geo_topology.specs.declared.words.Word.TheVariants as word
use Rattle.geo_topology.specs.declared.words.GeoType.{GeoType}
use Rattle.geo_topology.specs.declared.words.GeoType.TheVariants as geo
use Rattle.geo_topology.specs.declared.members.Owner.{Owner}
use Rattle.geo_topology.specs.declared.members.Owner.TheVariants as owner
use Rattle.geo_topology.specs.declared.object.GeoObject.{GeoObject}
use Rattle.geo_topology.specs.declared.object.GeoObject.TheVariants as object
use Rattle.geo_topology.specs.Members.{Named, distinct_members, members_once, member_with_word, expected_member, member_expected, right_member, wrong_member, unless_member, has_own_place, word_code, barred}
use Rattle.geo_topology.specs.Pieces.{TextPiece, words, copied, rings, polygons, comma, separated, value_behind, id_and_properties, kept_one, before_inside, end_inside, foreign, inside}
use Rattle.geo_topology.specs.Geometries.{typed, typed_value, geometry_type, value_member, other_word, has_shape, value_name, value_word, is_geometry_collection, coordinates_pieces, front_pieces, tail, single_pieces, collection_pieces, by_geometry_type, geometry_pieces}
use Rattle.geo_topology.specs.Features.{geometry_member, is_feature, empty, feature_pieces, name_if, layer_name, features_of, feature_in_list, name_piece, layer_front, collection_owner, layered, collection, alone, layer_pieces}
use Rattle.geo_topology.specs.Copies.{Lies}
use Rattle.geo_topology.proofs.Lying.{BothLie, lies_items, lies_members}

pub all_append : {X : Type 0} (P : X → Type 0) (xs ys : List X) → AllByRecursion P xs → AllByRecursion P ys → AllByRecursion P (xs ++ ys)
all_append P [] ys h k = k
all_append P (x ∷ xs) ys h k = (h.0, all_append P xs ys h.1 k)

module _ (file : List ℕ) where
  -- the copies of a piece
  abbrev pub PieceLies : TextPiece → Type 0
  PieceLies (words w) = Unit {0}
  PieceLies (copied n) = Lies file n
  PieceLies (rings n) = Lies file n
  PieceLies (polygons n) = Lies file n

  abbrev pub AllLie : List TextPiece → Type 0
  AllLie ps = AllByRecursion PieceLies ps

  join : (ps qs : List TextPiece) → AllLie ps → AllLie qs → AllLie (ps ++ qs)
  join = all_append PieceLies

  -- a member_with_word
  abbrev pub MemberLies : Named → Type 0
  MemberLies m = Lies file m.name × Lies file m.value

  abbrev pub MembersLie : List Named → Type 0
  MembersLie ms = AllByRecursion MemberLies ms

  named_lie : (seen : List (List ℕ)) (ms : List (Node × Node)) (es : List Named) → AllByRecursion (BothLie file) ms → distinct_members seen ms ≡ Ok es → MembersLie es
  unfolding distinct_members
  named_lie seen [] es h e = subst MembersLie (same_ok e) tt
  named_lie seen (m ∷ ms) es h e =
      step (name_text m.0) _ e λ t is tested.
      step (demand (not (list_any (bytes_eq t) seen)) (duplicate (unquoted m.0.bytes)) (distinct_members (seen ++ t ∷ []) ms)) _ tested λ rest left last.
      let got : (not (list_any (bytes_eq t) seen) ≡ true) × (distinct_members (seen ++ t ∷ []) ms ≡ Ok rest) = demanded _ _ _ left in
      subst MembersLie (same_ok last) ((h.0.0, h.0.1), named_lie (seen ++ t ∷ []) ms rest h.1 got.1)

  members_lie : (n : Node) (ms : List Named) → Lies file n → members_once n ≡ Ok ms → MembersLie ms
  members_lie n ms h e = named_lie [] (members n) ms (lies_members file n h) e

  -- what may be missing
  abbrev IfThere : Option Named → Type 0
  IfThere None = Unit {0}
  IfThere (Some m) = MemberLies m

  found_lies : (p : Named → Bool) (ms : List Named) → MembersLie ms → IfThere (find p ms)
  found_lies p [] h = tt
  found_lies p (m ∷ ms) h = by_test (p m) (found_lies p ms h.1)
    where
      by_test : (b : Bool) → IfThere (find p ms) → IfThere (cond b (Some m) (find p ms))
      by_test true l = h.0
      by_test false l = l

  there_lies : (expected : List ℕ) (o : Option Named) (m : Named) → IfThere o → member_expected expected o ≡ Ok m → MemberLies m
  there_lies expected None m h e = absurd cc
  there_lies expected (Some k) m h e = subst MemberLies (same_ok e) h

  named_member_lies : (expected : List ℕ) (w : Word) (ms : List Named) (m : Named) → MembersLie ms → expected_member expected w ms ≡ Ok m → MemberLies m
  named_member_lies expected w ms m h e = there_lies expected (member_with_word w ms) m (found_lies (λ k. word_code k.word == word_code w) ms h) e

  member_if_lies : (b : Bool) (k m : Named) → MemberLies k → right_member b k ≡ Ok m → MemberLies m
  member_if_lies b k m h e = subst MemberLies (same_ok (demanded b (wrong_member k) (Ok k) e).1) h

  unless_is : {A : Type 0} (o : Option Named) (r : Result A Fault) (a : A) → unless_member o r ≡ Ok a → r ≡ Ok a
  unless_is None r a e = e
  unless_is (Some m) r a e = absurd cc

  -- ---- pieces

  value_lies : (before : List ℕ) (o : Option Named) → IfThere o → AllLie (value_behind before o)
  value_lies before None h = tt
  value_lies before (Some m) h = (tt, (h.1, tt))

  head_lies : (ms : List Named) → MembersLie ms → AllLie (id_and_properties ms)
  head_lies ms h =
      join (value_behind (codes ",\"id\":") (member_with_word word.Id ms)) _
      (value_lies _ (member_with_word word.Id ms) (found_lies (λ k. word_code k.word == word_code word.Id) ms h))
      (value_lies _ (member_with_word word.Properties ms) (found_lies (λ k. word_code k.word == word_code word.Properties) ms h))

  kept_lies : (b : Bool) (before : List ℕ) (m : Named) → MemberLies m → AllLie (kept_one b before m)
  kept_lies true before m h = tt
  kept_lies false before m h = (tt, (h.0, (tt, (h.1, tt))))

  foreign_lies : (o : Owner) (ms : List Named) → MembersLie ms → AllLie (foreign o ms)
  foreign_lies o [] h = tt
  foreign_lies o (m ∷ ms) h = join (kept_one (has_own_place o m.word) (codes ",") m) (foreign o ms) (kept_lies (has_own_place o m.word) (codes ",") m h.0) (foreign_lies o ms h.1)

  end_lies : (b : Bool) → AllLie (end_inside b)
  end_lies true = (tt, tt)
  end_lies false = tt

  inside_lies : (b : Bool) (ms : List Named) → MembersLie ms → AllLie (inside b ms)
  inside_lies b [] h = end_lies b
  inside_lies b (m ∷ ms) h = join (kept_one (has_own_place owner.Geometry m.word) (before_inside b) m) (inside (b || not (has_own_place owner.Geometry m.word)) ms) (kept_lies (has_own_place owner.Geometry m.word) (before_inside b) m h.0) (inside_lies (b || not (has_own_place owner.Geometry m.word)) ms h.1)

  comma_lies : (b : Bool) → AllLie (comma b)
  comma_lies true = tt
  comma_lies false = (tt, tt)

  separated_lie : {A : Type 0} (P : A → Type 0) (f : A → Result (List TextPiece) Fault) → ((a : A) (ps : List TextPiece) → P a → f a ≡ Ok ps → AllLie ps) → (first : Bool) (as' : List A) (ps : List TextPiece) → AllByRecursion P as' → separated f first as' ≡ Ok ps → AllLie ps
  unfolding separated
  separated_lie P f each first [] ps h e = subst AllLie (same_ok e) tt
  separated_lie P f each first (a ∷ as') ps h e =
      step (f a) _ e λ xs is rest.
      step (separated f false as') _ rest λ ys left last.
      subst AllLie (same_ok last) (join (comma first) (xs ++ ys) (comma_lies first) (join xs ys (each a xs h.0 is) (separated_lie P f each false as' ys h.1 left)))

  -- ---- geometries

  front_lies : (g : GeoType) (feature : List Named) → MembersLie feature → AllLie (front_pieces g feature)
  front_lies g feature h = (tt, head_lies feature h)

  tail_lies : (feature ms : List Named) → MembersLie feature → MembersLie ms → AllLie (tail feature ms)
  tail_lies feature ms h k = join (foreign owner.Feature feature) _ (foreign_lies owner.Feature feature h) (join (inside false ms) _ (inside_lies false ms k) (tt, tt))

  coordinates_lie : (g : GeoType) (n : Node) → Lies file n → AllLie (coordinates_pieces g n)
  coordinates_lie geo.Polygon n h = (tt, (h, tt))
  coordinates_lie geo.MultiPolygon n h = (tt, (h, tt))
  coordinates_lie geo.Point n h = (tt, (h, tt))
  coordinates_lie geo.MultiPoint n h = (tt, (h, tt))
  coordinates_lie _ n h = tt

  single_lies : (g : GeoType) (n : Node) (feature ms : List Named) → Lies file n → MembersLie feature → MembersLie ms → AllLie (single_pieces g n feature ms)
  single_lies g n feature ms h k l = join (front_pieces g feature) _ (front_lies g feature k) (join (coordinates_pieces g n) _ (coordinates_lie g n h) (tail_lies feature ms k l))

  grouped_lie : (feature ms : List Named) (ps : List TextPiece) → MembersLie feature → MembersLie ms → AllLie ps → AllLie (collection_pieces feature ms ps)
  grouped_lie feature ms ps h k l = join (front_pieces geo.GeometryCollection feature) _ (front_lies geo.GeometryCollection feature h) (tt, join ps _ l (tt, tail_lies feature ms h k))

  typed_value_lies : (ms : List Named) (p : GeoType × Named) → MembersLie ms → typed_value ms ≡ Ok p → MemberLies p.1
  typed_value_lies ms p h e =
      step (geometry_type ms) _ (unless_is (barred owner.Geometry ms) _ p e) λ g is rest.
      step (value_member g ms) _ rest λ v found last.
      let by_value : MemberLies v =
      step (expected_member (value_name g) (value_word g) ms) _ found λ k named_is checked.
      member_if_lies (has_shape g k.value) k v (named_member_lies (value_name g) (value_word g) ms k h named_is) (unless_is (member_with_word (other_word g) ms) _ v checked) in
      let same : (g, v) ≡ p = same_ok last in
      subst (λ (q : GeoType × Named). MemberLies q.1) same by_value

  if_case : (b : Bool) (r q : Result (List TextPiece) Fault) (ps : List TextPiece) → cond b r q ≡ Ok ps → (r ≡ Ok ps → AllLie ps) → (q ≡ Ok ps → AllLie ps) → AllLie ps
  if_case true r q ps e k l = k e
  if_case false r q ps e k l = l e

  shaped_lie : (feature : List Named) (n : Node) (group : List Named → Named → Result (List TextPiece) Fault) (ps : List TextPiece) → MembersLie feature → Lies file n → ((ms : List Named) (v : Named) (qs : List TextPiece) → MembersLie ms → MemberLies v → group ms v ≡ Ok qs → AllLie qs) → by_geometry_type feature n group ≡ Ok ps → AllLie ps
  shaped_lie feature n group ps h l each e =
      step (members_once n) _ e λ ms is rest.
      step (typed_value ms) _ rest λ p found last.
      let of_ms : MembersLie ms = members_lie n ms l is in
      let of_v : MemberLies p.1 = typed_value_lies ms p of_ms found in
      if_case (is_geometry_collection p.0) _ _ ps last (λ made. each ms p.1 ps of_ms of_v made) (λ made. subst AllLie (same_ok made) (single_lies p.0 p.1.value feature ms of_v.1 h of_ms))

  geometry_lies : (d : ℕ) (feature : List Named) (n : Node) (ps : List TextPiece) → MembersLie feature → Lies file n → geometry_pieces d feature n ≡ Ok ps → AllLie ps
  unfolding geometry_pieces
  geometry_lies zero feature n ps h l e = shaped_lie feature n _ ps h l (λ ms v qs a b made. absurd cc) e
  geometry_lies (suc d) feature n ps h l e =
      shaped_lie feature n _ ps h l (λ ms v qs a b made.
      step (separated (λ part. demand (is_object part) (wrong_member v) (geometry_pieces d [] part)) true (items v.value)) _ made λ xs is last.
      subst AllLie (same_ok last) (grouped_lie feature ms xs h a
      (separated_lie (Lies file) _ (λ part qs' of_part made'. geometry_lies d [] part qs' tt of_part (demanded _ _ _ made').1) true (items v.value) xs (lies_items file v.value b.1) is))) e

  -- ---- features

  geometry_of_lies : (ms : List Named) (v : Named) → MembersLie ms → geometry_member ms ≡ Ok v → MemberLies v
  geometry_of_lies ms v h e =
      step (typed ms) _ e λ p is rest.
      step (right_member (is_feature p.0) p.1) _ rest λ m named_is checked.
      step (expected_member (codes "geometry") word.Geometry ms) _ (unless_is (barred owner.Feature ms) _ v checked) λ k found last.
      member_if_lies _ k v (named_member_lies (codes "geometry") word.Geometry ms k h found) last

  empty_lies : (ms : List Named) → MembersLie ms → AllLie (empty ms)
  empty_lies ms h = join (front_pieces geo.Other ms) _ (front_lies geo.Other ms h) (join (foreign owner.Feature ms) _ (foreign_lies owner.Feature ms h) (tt, tt))

  feature_lies : (n : Node) (ps : List TextPiece) → Lies file n → feature_pieces n ≡ Ok ps → AllLie ps
  unfolding feature_pieces
  feature_lies n ps l e =
      step (members_once n) _ e λ ms is rest.
      step (geometry_member ms) _ rest λ v found last.
      let of_ms : MembersLie ms = members_lie n ms l is in
      let of_v : MemberLies v = geometry_of_lies ms v of_ms found in
      if_case (is_object v.value) _ _ ps last (λ made. geometry_lies 100 ms v.value ps of_ms of_v.1 made) (λ made. subst AllLie (same_ok made) (empty_lies ms of_ms))

  -- ---- the layer_pieces

  name_lies : (name : Option Named) → IfThere name → PieceLies (name_piece name)
  name_lies None h = tt
  name_lies (Some m) h = h.1

  layered_lie : (name : Option Named) (ms : List Named) (ps : List TextPiece) → IfThere name → MembersLie ms → AllLie ps → AllLie (layered name ms ps)
  layered_lie name ms ps h k l =
      join (layer_front name ms) _ (tt, (name_lies name h, (tt, join (front_pieces geo.GeometryCollection ms) _ (front_lies geo.GeometryCollection ms k) (tt, tt))))
      (join ps _ l (tt, foreign_lies (collection_owner name) ms k))

  layer_name_lies : (ms : List Named) → MembersLie ms → IfThere (layer_name ms)
  layer_name_lies ms h = by_member (member_with_word word.Name ms) (found_lies (λ k. word_code k.word == word_code word.Name) ms h)
    where
      by_test : (b : Bool) (m : Named) → MemberLies m → IfThere (name_if b m)
      by_test true m l = l
      by_test false m l = tt

      by_member : (o : Option Named) → IfThere o → IfThere (option_and_then (λ m. name_if (is_some (decoded m.value.bytes)) m) o)
      by_member None l = tt
      by_member (Some m) l = by_test (is_some (decoded m.value.bytes)) m l

  features_of_lie : (ms : List Named) (list : Named) → MembersLie ms → features_of ms ≡ Ok list → MemberLies list
  features_of_lie ms list h e =
      step (expected_member (codes "features") word.Features ms) _ (unless_is (barred owner.Collection ms) _ list e) λ k found last.
      member_if_lies _ k list (named_member_lies (codes "features") word.Features ms k h found) last

  collection_lies : (n : Node) (ps : List TextPiece) → Lies file n → collection n ≡ Ok ps → AllLie ps
  collection_lies n ps l e =
      step (members_once n) _ e λ ms is rest.
      step (features_of ms) _ rest λ list found made.
      step (separated (feature_in_list list) true (items list.value)) _ made λ xs of_list last.
      let of_ms : MembersLie ms = members_lie n ms l is in
      let of_items : AllByRecursion (Lies file) (items list.value) = lies_items file list.value (features_of_lie ms list of_ms found).1 in
      subst AllLie (same_ok last) (layered_lie (layer_name ms) ms xs (layer_name_lies ms of_ms) of_ms
      (separated_lie (Lies file) (feature_in_list list) (λ part qs of_part made'. feature_lies part qs of_part (demanded _ _ _ made').1) true (items list.value) xs of_items of_list))

  alone_lies : (r : Result (List TextPiece) Fault) (ps : List TextPiece) → ((qs : List TextPiece) → r ≡ Ok qs → AllLie qs) → alone r ≡ Ok ps → AllLie ps
  alone_lies r ps each e = step r _ e λ xs is last. subst AllLie (same_ok last) (layered_lie None [] xs tt tt (each xs is))

  pub layer_lies : (o : GeoObject) (n : Node) (ps : List TextPiece) → Lies file n → layer_pieces o n ≡ Ok ps → AllLie ps
  layer_lies object.FeatureCollection n ps l e = collection_lies n ps l e
  layer_lies object.Feature n ps l e = alone_lies (feature_pieces n) ps (λ qs. feature_lies n qs l) e
  layer_lies object.Geometry n ps l e = alone_lies (geometry_pieces 100 [] n) ps (λ qs. geometry_lies 100 [] n qs tt l) e
