-- Where a coordinate of a point is at fault, its place is within the point's text.
use Rattle.kit_words.proofs.Common.{◌≡◌, ℕ, zero, suc, ℤ, ◌+◌, ◌-◌, ◌≤◌, ◌^◌, ◌&&◌, ◌∷◌, [], Bool, true, false, not, cond, if◌then◌else◌, List, length, map, take, find, min, nat_le, unsigned_abs, arith, codes, Option, Some, None, Result, Ok, Err, refl, subst}
use Rattle.kit_words.proofs.Common.{AllByRecursion}
use Rattle.json_spans.specs.Common.{Node, items, members, whole_of}
use Rattle.json_spans.specs.declared.number.NotWhole.{NotWhole}
use Rattle.json_spans.specs.declared.number.NotWhole.TheVariants as is_not
use Rattle.ring_machine.specs.Common.{Close, Document, Feature, Form, Head, Item, Kept, Layer, Leaf, Member, MultiPolygon, Null, Open, Polygon, Text}
use Rattle.topo_outline.specs.Common.{Fault, bad_member, duplicate, kept_text, members_of, unquoted}
use Rattle.decimal_texts.specs.Common.{says}
use Rattle.map_text.specs.Common.{comma_if, further, list_text, member, member_text}
use Rattle.grid_decimals.specs.Common.{GridOf, grid_of, least_decimals, x_text, y_text}
use Rattle.geo_features.specs.declared.fault.ExportFault.{ExportFault}
use Rattle.geo_features.specs.declared.fault.ExportFault.TheVariants as fault
use Rattle.geo_features.specs.Faults.{GeoFault, demand, each, each_at, few_decimals, nested, no_layer, of_map, of_opening, point_not_whole, point_out_of_range, several_layers, ◌>>=◌}
use Rattle.geo_features.specs.Features.{collection_end, geometry_of_form, leaf_geometry, others_text, own_text, point_geometry}
use Rattle.geo_features.specs.Gives.{IsSendFault}
use Rattle.geo_text.specs.Items.{At, after_item, after_text, before_in, before_text, begin_at, close_text, item_text, items_text, items_texts, standing_text}
use Rattle.geo_text.specs.Layer.{asked_from, asked_layer, collection_members, front_of, front_text, has_name, is_asked, layer_head, layer_items, name_text}
use Rattle.geo_text.specs.Layer.{not_of_collection, points_in, the_only}
use Rattle.geo_features.specs.Names.{feature_members, first_of, geometry_members, is_bare, is_one_of, members_in, not_of_feature, tested_members, unless_wrong}
use Rattle.geo_features.specs.Points.{coordinates_from, named, number_at, number_from, placed_text, point_coordinates, point_head, point_node, point_number, point_position, positions_text}
use Rattle.geo_text.specs.Text.{decimals_for, geo_text, longest_side, style_of, there}
use Rattle.geo_features.specs.Style.{Style}
use Rattle.geo_text.specs.Wants.{Wants}
use Rattle.geo_text.proofs.Inside.{EndsBy, items_end, values_end}
use Rattle.geo_text.proofs.ShortTexts.{IsShortItem, IsShortLayer}

-- the place of a point's fault is no greater than this
abbrev pub IsBy : ℕ → GeoFault → Type 0
IsBy most (of_map f) = Unit {0}
IsBy most no_layer = Unit {0}
IsBy most several_layers = Unit {0}
IsBy most (few_decimals k least) = Unit {0}
IsBy most (nested n) = Unit {0}
IsBy most (point_not_whole n place) = place ≤ most
IsBy most (point_out_of_range n place) = place ≤ most

abbrev pub FailsBy : {A : Type 0} → ℕ → Result A GeoFault → Type 0
FailsBy most (Ok a) = Unit {0}
FailsBy most (Err e) = IsBy most e

-- ---- one after another

then_by : {A B : Type 0} (most : ℕ) (r : Result A GeoFault) (k : A → Result B GeoFault) → FailsBy most r → ((a : A) → r ≡ Ok a → FailsBy most (k a)) → FailsBy most (r >>= k)
then_by most (Ok a) k h g = g a refl
then_by most (Err e) k h g = h

demand_by : {A : Type 0} (most : ℕ) (b : Bool) (e : GeoFault) (r : Result A GeoFault) → IsBy most e → FailsBy most r → FailsBy most (demand b e r)
demand_by most true e r h g = g
demand_by most false e r h g = h

each_by : {A B : Type 0} (most : ℕ) (P : A → Type 0) (f : A → Result B GeoFault) (xs : List A) → ((x : A) → P x → FailsBy most (f x)) → AllByRecursion P xs → FailsBy most (each f xs)
each_by most P f [] h all = tt
each_by most P f (x ∷ xs) h all =
    then_by most (f x) (λ b. each f xs >>= λ bs. Ok (b ∷ bs)) (h x all.0) (λ b is. then_by most (each f xs) (λ bs. Ok (b ∷ bs)) (each_by most P f xs h all.1) (λ bs same. tt))

each_at_by : {A B : Type 0} (most : ℕ) (P : A → Type 0) (f : ℕ → A → Result B GeoFault) (i : ℕ) (xs : List A) → ((i : ℕ) (x : A) → P x → FailsBy most (f i x)) → AllByRecursion P xs → FailsBy most (each_at f i xs)
each_at_by most P f i [] h all = tt
each_at_by most P f i (x ∷ xs) h all =
    then_by most (f i x) (λ b. each_at f (i + 1) xs >>= λ bs. Ok (b ∷ bs)) (h i x all.0) (λ b is. then_by most (each_at f (i + 1) xs) (λ bs. Ok (b ∷ bs)) (each_at_by most P f (i + 1) xs h all.1) (λ bs same. tt))

if_by : {A : Type 0} (most : ℕ) (b : Bool) (r s : Result A GeoFault) → FailsBy most r → FailsBy most s → FailsBy most (if b then r else s)
if_by most true r s h g = h
if_by most false r s h g = g

-- ---- the coordinates of a point

number_by : (most n : ℕ) (c : Node) → EndsBy most c → FailsBy most (point_number n c)
number_by most n c le = by (whole_of c.bytes)
  where
    by : (r : Result ℤ NotWhole) → FailsBy most (number_from n c.at_byte r)
    by (Ok z) = demand_by most (nat_le (unsigned_abs z) (10 ^ 12)) (point_out_of_range n c.at_byte) (Ok z) (omega arith) tt
    by (Err is_not.Form) = omega arith
    by (Err is_not.Huge) = omega arith

number_at_by : (most : ℕ) (s : Style) (n i : ℕ) (c : Node) → EndsBy most c → FailsBy most (number_at s n i c)
number_at_by most s n zero c le = then_by most (point_number n c) (λ x. Ok (x_text s.grid s.decimals x)) (number_by most n c le) (λ x is. tt)
number_at_by most s n (suc zero) c le = then_by most (point_number n c) (λ y. Ok (y_text s.grid s.decimals y)) (number_by most n c le) (λ y is. tt)
number_at_by most s n (suc (suc i)) c le = tt

position_by : (most : ℕ) (s : Style) (n : ℕ) (position : Node) → EndsBy most position → FailsBy most (point_position s n position)
unfolding point_position
position_by most s n position le =
    then_by most (each_at (number_at s n) 0 (items position)) (λ numbers. Ok (list_text numbers))
    (each_at_by most (EndsBy most) (number_at s n) 0 (items position) (λ i c h. number_at_by most s n i c h) (items_end most position le)) (λ numbers is. tt)

positions_by : (most : ℕ) (s : Style) (n : ℕ) (is_one : Bool) (value : Node) → EndsBy most value → FailsBy most (positions_text s n is_one value)
positions_by most s n true value le = position_by most s n value le
positions_by most s n false value le =
    then_by most (each (point_position s n) (items value)) (λ positions. Ok (list_text positions))
    (each_by most (EndsBy most) (point_position s n) (items value) (λ p h. position_by most s n p h) (items_end most value le)) (λ positions is. tt)

placed_by : (most : ℕ) (s : Style) (n : ℕ) (is_one : Bool) (value : Node) → EndsBy most value → FailsBy most (placed_text s n is_one value)
placed_by most s n is_one value le = if_by most s.grid.is_given (positions_text s n is_one value) (Ok value.bytes) (positions_by most s n is_one value le) tt

found_ends : (most : ℕ) (p : Node × Node → Bool) (ms : List (Node × Node)) (m : Node × Node) → AllByRecursion (λ m. EndsBy most m.1) ms → find p ms ≡ Some m → EndsBy most m.1
found_ends most p [] m all e = absurd cc
found_ends most p (x ∷ ms) m all e = by (p x) e (found_ends most p ms m all.1)
  where
    by : (b : Bool) → cond b (Some x) (find p ms) ≡ Some m → (find p ms ≡ Some m → EndsBy most m.1) → EndsBy most m.1
    by true e' h = let same : x ≡ m = cc in subst (λ (y : Node × Node). EndsBy most y.1) same all.0
    by false e' h = h e'

coordinates_by : (most : ℕ) (s : Style) (n : ℕ) (is_one : Bool) (o : Option (Node × Node)) → ((m : Node × Node) → o ≡ Some m → EndsBy most m.1) → FailsBy most (coordinates_from s n is_one o)
coordinates_by most s n is_one None h = tt
coordinates_by most s n is_one (Some m) h = demand_by most _ (of_map (bad_member (unquoted m.0.bytes))) (placed_text s n is_one m.1) tt (placed_by most s n is_one m.1 (h m refl))

point_by : (most : ℕ) (s : Style) (n : ℕ) (t : Text) → length t ≤ most → FailsBy most (point_coordinates s n t)
unfolding point_coordinates
point_by most s n t le =
    coordinates_by most s n _ (named (codes "coordinates") t) (λ m e. found_ends most (λ m. says (codes "coordinates") m.0) (members (point_node t)) m (values_end most (point_node t) (omega arith)) e)

-- ---- the members

opening_by : {A : Type 0} (most : ℕ) (r : Result A Fault) → FailsBy most (of_opening r)
opening_by most (Ok a) = tt
opening_by most (Err f) = tt

wrong_by : {A : Type 0} (most : ℕ) (o : Option Member) (a : A) → FailsBy most (unless_wrong o a)
wrong_by most None a = tt
wrong_by most (Some m) a = tt

tested_by : (most : ℕ) (object : Text) → FailsBy most (tested_members object)
tested_by most object =
    then_by most (of_opening (members_of (record { at_byte = 0; bytes = object }))) (λ ms. Ok (map kept_text ms)) (opening_by most (members_of (record { at_byte = 0; bytes = object }))) (λ ms is. tt)

members_by : (most : ℕ) (o : Option Member) → FailsBy most (members_in o)
members_by most None = tt
members_by most (Some m) =
    demand_by most _ (of_map (bad_member (unquoted m.name))) _ tt (then_by most (tested_members m.value) _ (tested_by most m.value) (λ ms is. wrong_by most _ ms))

others_by : (most : ℕ) (ms : List Member) → FailsBy most (others_text ms)
others_by most ms = then_by most (geometry_members ms) _ (members_by most (first_of (codes "geometry" ∷ []) ms)) (λ others is. tt)

own_by : (most : ℕ) (words : List Text) (ms : List Member) → FailsBy most (own_text words ms)
own_by most words ms = then_by most (feature_members words ms) _ (wrong_by most (first_of words ms) _) (λ own is. tt)

-- ---- the items

before_by : (most : ℕ) (at : At) (h : Head) (n : Bool) → FailsBy most (before_text at h n)
before_by most at h n = by at.heads
  where
    by : (heads : List Head) → FailsBy most (before_in heads at h n)
    by [] = tt
    by (o ∷ heads) = demand_by most (not n && is_bare h) (nested at.feature) (Ok (comma_if at.more)) tt tt

after_by : (most : ℕ) (heads : List Head) (words : List Text) (ms : List Member) → FailsBy most (after_text heads words ms)
after_by most [] words ms = own_by most words ms
after_by most (o ∷ heads) words ms = tt

standing_by : (most : ℕ) (at : At) (words : List Text) (h : Head) (n : Bool) (geometry : Result Text GeoFault) → FailsBy most geometry → FailsBy most (standing_text at words h n geometry)
standing_by most at words h n geometry g =
    then_by most (before_text at h n) _ (before_by most at h n)
    (λ before is. then_by most geometry _ g (λ text same. then_by most (after_text at.heads words h.members) _ (after_by most at.heads words h.members) (λ after e. tt)))

leaf_by : (most : ℕ) (s : Style) (f : Feature) → FailsBy most (leaf_geometry s f)
unfolding leaf_geometry
leaf_by most s f = by f.form
  where
    by : (form : Form) → FailsBy most (geometry_of_form s form f)
    by Null = tt
    by Polygon = then_by most (others_text f.members) _ (others_by most f.members) (λ others is. tt)
    by MultiPolygon = then_by most (others_text f.members) _ (others_by most f.members) (λ others is. tt)

kept_by : (most : ℕ) (s : Style) (n : ℕ) (t : Text) → length t ≤ most → FailsBy most (point_geometry s n t)
unfolding point_geometry
kept_by most s n t le =
    then_by most (point_coordinates s n t) _ (point_by most s n t le) (λ coordinates is. then_by most (others_text (point_head t).members) _ (others_by most (point_head t).members) (λ others same. tt))

close_by : (most : ℕ) (heads : List Head) → FailsBy most (close_text heads)
close_by most [] = tt
close_by most (h ∷ heads) =
    then_by most (collection_end h.members) _ (then_by most (others_text h.members) _ (others_by most h.members) (λ others is. tt))
    (λ end is. then_by most (after_text heads not_of_feature h.members) _ (after_by most heads not_of_feature h.members) (λ after same. tt))

item_by : (most : ℕ) (flattens : Bool) (s : Style) (at : At) (i : Item) → IsShortItem most i → FailsBy most (item_text flattens s at i)
item_by most true s at (Open h) le = tt
item_by most true s at Close le = tt
item_by most false s at (Open h) le = then_by most (before_text at h false) _ (before_by most at h false) (λ before is. tt)
item_by most false s at Close le = close_by most at.heads
item_by most true s at (Leaf f) le = standing_by most at _ _ _ (leaf_geometry s f) (leaf_by most s f)
item_by most false s at (Leaf f) le = standing_by most at _ _ _ (leaf_geometry s f) (leaf_by most s f)
item_by most true s at (Kept t) le = standing_by most at _ _ _ (point_geometry s at.point t) (kept_by most s at.point t le)
item_by most false s at (Kept t) le = standing_by most at _ _ _ (point_geometry s at.point t) (kept_by most s at.point t le)

items_by : (most : ℕ) (flattens : Bool) (s : Style) (at : At) (items : List Item) → AllByRecursion (IsShortItem most) items → FailsBy most (items_texts flattens s at items)
unfolding items_texts
items_by most flattens s at [] all = tt
items_by most flattens s at (i ∷ items) all =
    then_by most (item_text flattens s at i) _ (item_by most flattens s at i all.0)
    (λ text is. then_by most (items_texts flattens s (after_item flattens at i) items) _ (items_by most flattens s (after_item flattens at i) items all.1) (λ rest same. tt))

-- ---- the layer

asked_short : (most : ℕ) (name : Option Text) (n : ℕ) (ls : List Layer) → AllByRecursion (IsShortLayer most) ls → AllByRecursion (λ f. IsShortLayer most f.1) (asked_from name n ls)
unfolding asked_from
asked_short most name n [] h = tt
asked_short most name n (l ∷ ls) h = by (is_asked name l.name) (asked_short most name (n + points_in l.items) ls h.1)
  where
    by : (b : Bool) → AllByRecursion (λ f. IsShortLayer most f.1) (asked_from name (n + points_in l.items) ls)
        → AllByRecursion (λ f. IsShortLayer most f.1) (if b then ((n, l) ∷ asked_from name (n + points_in l.items) ls) else asked_from name (n + points_in l.items) ls)
    by true rest = (h.0, rest)
    by false rest = rest

only_of : {A : Type 0} (P : A → Type 0) (xs : List A) (x : A) → AllByRecursion P xs → the_only xs ≡ Ok x → P x
only_of P [] x all e = absurd cc
only_of P (y ∷ []) x all e = let same : y ≡ x = cc in subst P same all.0
only_of P (y ∷ z ∷ xs) x all e = absurd cc

only_by : {A : Type 0} (most : ℕ) (xs : List A) → FailsBy most (the_only xs)
only_by most [] = tt
only_by most (x ∷ []) = tt
only_by most (x ∷ y ∷ xs) = tt

taken_short : (most n : ℕ) (items : List Item) → AllByRecursion (IsShortItem most) items → AllByRecursion (IsShortItem most) (take n items)
taken_short most zero items h = tt
taken_short most (suc n) [] h = tt
taken_short most (suc n) (i ∷ items) h = (h.0, taken_short most n items h.1)

inside_short : (most : ℕ) (items : List Item) → AllByRecursion (IsShortItem most) items → AllByRecursion (IsShortItem most) (layer_items items)
inside_short most [] h = tt
inside_short most (Open head ∷ items) h = taken_short most (length items - 1) items h.1
inside_short most (Close ∷ items) h = h
inside_short most (Leaf f ∷ items) h = h
inside_short most (Kept t ∷ items) h = h

-- ---- the text

there_by : (most : ℕ) (o : Option GridOf) → FailsBy most (there o)
there_by most None = tt
there_by most (Some g) = tt

decimals_by : (most : ℕ) (asked : Option ℕ) (longest : ℕ) (g : GridOf) → FailsBy most (decimals_for asked longest g)
decimals_by most None longest g = tt
decimals_by most (Some k) longest g = demand_by most (nat_le (least_decimals g) k) (few_decimals k (least_decimals g)) (Ok (min k g.decimals)) tt tt

style_by : (most : ℕ) (wants : Wants) (d : Document) → FailsBy most (style_of wants d)
style_by most wants d =
    then_by most (there (grid_of d.transform)) _ (there_by most (grid_of d.transform))
    (λ g is. then_by most (decimals_for wants.decimals (longest_side d) g) _ (decimals_by most wants.decimals (longest_side d) g) (λ k same. tt))

name_by : (most : ℕ) (token : Text) (ms : List Member) → FailsBy most (name_text token ms)
name_by most token ms =
    if_by most (has_name ms) (demand (is_one_of (codes "features" ∷ []) token) (of_map (duplicate (codes "name"))) (Ok []))
    (Ok (further (map member_text (member (codes "\"name\"") token ∷ [])))) (demand_by {A = Text} most (is_one_of (codes "features" ∷ []) token) (of_map (duplicate (codes "name"))) (Ok []) tt tt) tt

front_by : (most : ℕ) (token : Text) (h : Head) (ms : List Member) → FailsBy most (front_text token h ms)
front_by most token h ms =
    then_by most (name_text token ms) _ (name_by most token ms) (λ name is. then_by most (unless_wrong (first_of not_of_collection ms) ms) _ (wrong_by most (first_of not_of_collection ms) ms) (λ rest same. tt))

-- where a coordinate of a point is at fault, its place is within the longest text of a point
pub text_by : (most : ℕ) (wants : Wants) (d : Document) → AllByRecursion (IsShortLayer most) d.layers → FailsBy most (geo_text wants d)
text_by most wants d short =
    then_by most (asked_layer wants.layer d) _ (only_by most (asked_from wants.layer 0 d.layers))
    (λ found is.
    let items : AllByRecursion (IsShortItem most) (layer_items found.1.items) =
    inside_short most found.1.items (only_of (λ f. IsShortLayer most f.1) (asked_from wants.layer 0 d.layers) found (asked_short most wants.layer 0 d.layers short) is) in
    then_by most (style_of wants d) _ (style_by most wants d)
    (λ s same. then_by most (front_of found.1.name (layer_head found.1.items) d.members) _ (front_by most found.1.name (layer_head found.1.items) (collection_members (layer_head found.1.items) d.members))
    (λ front e. then_by most (items_text wants.flattens s (begin_at found.0) (layer_items found.1.items)) _
    (then_by most (items_texts wants.flattens s (begin_at found.0) (layer_items found.1.items)) _ (items_by most wants.flattens s (begin_at found.0) (layer_items found.1.items) items) (λ text f. tt))
    (λ rest f. tt))))

-- so is that of the code's fault
pub near_not_whole : (most : ℕ) (r : Result Text GeoFault) (e : ExportFault) (n place : ℕ) → e ≡ fault.PointNotWhole n place → IsSendFault e r → FailsBy most r → place ≤ most
near_not_whole most r e n place is sent h = subst (FailsBy most) (subst (λ (f : ExportFault). IsSendFault f r) is sent) h

pub near_out_of_range : (most : ℕ) (r : Result Text GeoFault) (e : ExportFault) (n place : ℕ) → e ≡ fault.PointOutOfRange n place → IsSendFault e r → FailsBy most r → place ≤ most
near_out_of_range most r e n place is sent h = subst (FailsBy most) (subst (λ (f : ExportFault). IsSendFault f r) is sent) h
