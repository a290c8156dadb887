-- The text of a feature, part after part.
use Rattle.kit_words.proofs.Common.{◌≡◌, sym, ap, ◌∙◌, List, [], ◌∷◌, ◌++◌, map, append_assoc, codes, append-nil}
use Rattle.kit_words.proofs.Common.{map-map, Bool}
use Rattle.grid_geometry.specs.Common.{Position}
use Rattle.ring_machine.specs.Common.{Feature, Member, Polygon, MultiPolygon, Text}
use Rattle.map_text.specs.Common.{indexes, commas, further, member_if, member_text, polygon_text, shape_text, type_text}
use Rattle.map_text.proofs.Common.{further_joined}
use Rattle.topo_writer.specs.Common.{written_feature, written_polygon, written_polygons, written_shape}

-- two texts appended, one after the other
pub then : (o x y a b : Text) → a ≡ o ++ x → b ≡ a ++ y → b ≡ o ++ (x ++ y)
then o x y a b p q = q ∙ ap (λ z. z ++ y) p ∙ append_assoc o x y

polygons_are : (j : Position → Bool) (arcs : List (List Position)) (ps : List (List (List Position)))
    → map (written_polygon j arcs) ps ≡ map polygon_text (map (map (indexes j arcs)) ps)
polygons_are j arcs ps = sym (map-map polygon_text (map (indexes j arcs)) ps)

pub shape_many : (j : Position → Bool) (arcs : List (List Position)) (ps : List (List (List Position))) (o a b c : Text)
    → a ≡ o ++ codes ",\"arcs\":[" → b ≡ a ++ written_polygons j arcs ps → c ≡ b ++ codes "]"
    → c ≡ o ++ written_shape j arcs MultiPolygon ps
shape_many j arcs ps o a b c p q r =
    let w = written_polygons j arcs ps in
    then o (codes ",\"arcs\":[") (w ++ codes "]") a c p (then a w (codes "]") b c q r)
    ∙ ap (λ z. o ++ (codes ",\"arcs\":[" ++ (commas z ++ codes "]"))) (polygons_are j arcs ps)
    ∙ ap (λ z. o ++ z) (sym (append-nil (codes ",\"arcs\":[" ++ (commas (map polygon_text (map (map (indexes j arcs)) ps)) ++ codes "]"))))

pub shape_one : (j : Position → Bool) (arcs polygon : List (List Position)) (o a b : Text)
    → a ≡ o ++ codes ",\"arcs\":" → b ≡ a ++ written_polygon j arcs polygon
    → b ≡ o ++ written_shape j arcs Polygon (polygon ∷ [])
shape_one j arcs polygon o a b p q =
    let w = written_polygon j arcs polygon in
    then o (codes ",\"arcs\":") w a b p q ∙ ap (λ z. o ++ z) (sym (append-nil (codes ",\"arcs\":" ++ w)))

joined : (t i p s k y f : Text) → f ≡ i ++ (p ++ (s ++ k)) → t ++ (i ++ (p ++ (s ++ (k ++ y)))) ≡ (t ++ f) ++ y
joined t i p s k y f e = simp (e, append_assoc)

further_four : (i p s k : List Member)
    → further (map member_text (i ++ (p ++ (s ++ k)))) ≡ further (map member_text i) ++ (further (map member_text p) ++ (further (map member_text s) ++ further (map member_text k)))
further_four i p s k =
    further_joined i (p ++ (s ++ k))
    ∙ ap (λ z. further (map member_text i) ++ z) (further_joined p (s ++ k) ∙ ap (λ z. further (map member_text p) ++ z) (further_joined s k))

-- the text of a feature from the texts of its members
pub feature_texts : (j : Position → Bool) (arcs : List (List Position)) (f : Feature) (o a b i p s k e : Text)
    → a ≡ o ++ codes "{\"type\":" → b ≡ a ++ type_text f.form
    → i ≡ b ++ further (map member_text (member_if (codes "\"id\"") f.id))
    → p ≡ i ++ further (map member_text (member_if (codes "\"properties\"") f.properties))
    → s ≡ p ++ written_shape j arcs f.form f.polygons
    → k ≡ s ++ further (map member_text f.members) → e ≡ k ++ codes "}"
    → e ≡ o ++ written_feature j arcs f
feature_texts j arcs f o a b i p s k e ha hb hi hp hs hk he =
    let ids = member_if (codes "\"id\"") f.id in
    let properties = member_if (codes "\"properties\"") f.properties in
    let shape = member_if (codes "\"arcs\"") (shape_text f.form (map (map (indexes j arcs)) f.polygons)) in
    let t = type_text f.form in
    let ti = further (map member_text ids) in
    let tp = further (map member_text properties) in
    let ts = further (map member_text shape) in
    let tk = further (map member_text f.members) in
    let y = codes "}" in
    let all : e ≡ o ++ (codes "{\"type\":" ++ (t ++ (ti ++ (tp ++ (ts ++ (tk ++ y)))))) =
    then o (codes "{\"type\":") (t ++ (ti ++ (tp ++ (ts ++ (tk ++ y))))) a e ha
    (then a t (ti ++ (tp ++ (ts ++ (tk ++ y)))) b e hb
    (then b ti (tp ++ (ts ++ (tk ++ y))) i e hi
    (then i tp (ts ++ (tk ++ y)) p e hp
    (then p ts (tk ++ y) s e hs
    (then s tk y k e hk he))))) in
    all ∙ ap (λ z. o ++ (codes "{\"type\":" ++ z))
    (joined t ti tp ts tk y (further (map member_text (ids ++ (properties ++ (shape ++ f.members))))) (further_four ids properties shape f.members))
