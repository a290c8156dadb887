-- The texts of Features, piece by piece (RFC 7946, 3.1 and 3.2).
use Rattle.kit_words.proofs.Common.{◌≡◌, ◌++◌, ◌∙◌, ◌∷◌, [], ap, sym, refl, codes, map, ℕ, List, Option, Some, None, option_map, unwrap_or, append_assoc, appended_four, appended_three, Bor, true, false, Result, Ok, Err, is_ok, if◌then◌else◌, OnOk}
use Rattle.ring_machine.specs.Common.{Feature, Form, Head, Member, MultiPolygon, Null, Polygon, Text}
use Rattle.map_text.specs.Common.{further, member, member_if, member_text, type_text}
use Rattle.map_text.proofs.Common.{further_joined}
use Rattle.geo_features.specs.declared.fault.ExportFault.{ExportFault}
use Rattle.geo_features.specs.Faults.{GeoFault, ◌>>=◌}
use Rattle.geo_features.specs.Gives.{Appends}
use Rattle.geo_features.specs.Features.{feature_begin, geometry_begin, geometry_of_form, is_null, leaf_geometry, others_text, point_geometry}
use Rattle.geo_features.specs.Points.{point_coordinates, point_head, point_type}
use Rattle.geo_features.specs.Rings.{shape_text}
use Rattle.geo_features.specs.Style.{Style}
use Rattle.geo_features.proofs.Carrying.{Put, carry, put_back, put_of}

feature_begin_put : (h : Head) (old a b c new : Text) → a ≡ old ++ codes "{\"type\":\"Feature\""
    → b ≡ a ++ further (map member_text (member_if (codes "\"id\"") h.id))
    → c ≡ b ++ further (map member_text (member (codes "\"properties\"") (unwrap_or h.properties (codes "null")) ∷ []))
    → new ≡ c ++ codes ",\"geometry\":" → new ≡ old ++ feature_begin h
feature_begin_put h old a b c new e f g k =
    let ids = member_if (codes "\"id\"") h.id in
    let properties : List Member = member (codes "\"properties\"") (unwrap_or h.properties (codes "null")) ∷ [] in
    appended_four old (codes "{\"type\":\"Feature\"") (further (map member_text ids)) (further (map member_text properties)) (codes ",\"geometry\":") a b c new e f g k
    ∙ ap (λ z. old ++ (codes "{\"type\":\"Feature\"" ++ z))
    (sym (append_assoc (further (map member_text ids)) (further (map member_text properties)) (codes ",\"geometry\":"))
    ∙ ap (λ z. z ++ codes ",\"geometry\":") (sym (further_joined ids properties)))

-- where the last piece has room
pub begin_last : {A E : Type 0} (r : Result A E) (h : Head) (old a b c new : Text) → a ≡ old ++ codes "{\"type\":\"Feature\""
    → b ≡ a ++ further (map member_text (member_if (codes "\"id\"") h.id))
    → c ≡ b ++ further (map member_text (member (codes "\"properties\"") (unwrap_or h.properties (codes "null")) ∷ []))
    → new ≡ (if is_ok r then c ++ codes ",\"geometry\":" else c) → OnOk r (new ≡ old ++ feature_begin h)
begin_last (Ok x) h old a b c new e f g k = feature_begin_put h old a b c new e f g k
begin_last (Err x) h old a b c new e f g k = tt

pub text_or_null : (o : Option (Bor (List ℕ))) (d : Bor (List ℕ)) → (unwrap_or o d).now ≡ unwrap_or (option_map (λ t. t.now) o) d.now
text_or_null None d = refl
text_or_null (Some t) d = refl

-- the geometry of a feature that has one
pub leaf_shape : (s : Style) (f : Feature) → is_null f.form ≡ false
    → leaf_geometry s f ≡ (others_text f.members >>= λ others. Ok (geometry_begin (type_text f.form) ++ (shape_text s f.form f.polygons ++ others)))
unfolding leaf_geometry
leaf_shape s f n = by f.form n
  where
    by : (form : Form) → is_null form ≡ false
        → geometry_of_form s form f ≡ (others_text f.members >>= λ others. Ok (geometry_begin (type_text form) ++ (shape_text s form f.polygons ++ others)))
    by Polygon e = refl
    by MultiPolygon e = refl
    by Null e = absurd cc

pub leaf_null : (s : Style) (f : Feature) → is_null f.form ≡ true → leaf_geometry s f ≡ Ok (codes "null")
unfolding leaf_geometry
leaf_null s f n = by f.form n
  where
    by : (form : Form) → is_null form ≡ true → geometry_of_form s form f ≡ Ok (codes "null")
    by Polygon e = absurd cc
    by MultiPolygon e = absurd cc
    by Null e = refl

pub point_whole : (s : Style) (n : ℕ) (t : Text) → point_geometry s n t
    ≡ (point_coordinates s n t >>= λ coordinates. others_text (point_head t).members >>= λ others. Ok (geometry_begin (point_type t) ++ (coordinates ++ others)))
unfolding point_geometry
point_whole s n t = refl

-- ---- the end of an object

-- the last members, once they are found
pub end_put : (old new : Text) (r : Result (List Member) GeoFault) (found put : List Member) → r ≡ Ok found → put ≡ found
    → new ≡ old ++ (further (map member_text put) ++ codes "}")
    → ((r >>= λ ms. Ok (further (map member_text ms) ++ codes "}")) >>= λ xs. Ok (old ++ xs)) ≡ Ok new
end_put old new r found put is same e =
    rw is (ap (λ (z : Text). Ok z) (sym (e ∙ ap (λ ms. old ++ (further (map member_text ms) ++ codes "}")) same)))

-- ---- a geometry, from its begin to its end

before_put : (old m1 m2 new a b : Text) (r : Result Text GeoFault) → m1 ≡ old ++ a → m2 ≡ m1 ++ b → Put m2 new r
    → Put old new (r >>= λ o. Ok (a ++ (b ++ o)))
before_put old m1 m2 new a b r e f p = record {
  text = a ++ (b ++ p.text);
  is = rw p.is refl;
  put = appended_three old a b p.text m1 m2 new e f p.put;
}

-- two pieces, and then what is handed on
pub two_before : {X : Type 0} (old m1 m2 new a b : Text) (r : Result X ExportFault) (s : Result Text GeoFault)
    → m1 ≡ old ++ a → m2 ≡ m1 ++ b → Appends m2 new r s → Appends old new r (s >>= λ o. Ok (a ++ (b ++ o)))
two_before old m1 m2 new a b (Ok x) s e f h = put_back old new (s >>= λ o. Ok (a ++ (b ++ o))) (before_put old m1 m2 new a b s e f (put_of m2 new s h))
two_before old m1 m2 new a b (Err o) s e f h = carry o s (s >>= λ o. Ok (a ++ (b ++ o))) (λ x fx. rw fx refl) h

-- a piece, a text that may fail, and then what is handed on
pub one_between : {X : Type 0} (old m1 m2 new a : Text) (r : Result X ExportFault) (p s : Result Text GeoFault)
    → m1 ≡ old ++ a → Put m1 m2 p → Appends m2 new r s → Appends old new r (p >>= λ c. s >>= λ o. Ok (a ++ (c ++ o)))
one_between old m1 m2 new a r p s e put h = rw put.is (two_before old m1 m2 new a put.text r s e put.put h)
