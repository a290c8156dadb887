-- The rings of a document, by the indexes of their arcs: what is written for each feature.
use Rattle.kit_words.proofs.Common.{◌≡◌, ℕ, suc, ◌+◌, ◌<◌, ◌≤◌, ◌^◌, List, [], ◌∷◌, ◌++◌, map, length, Bool, true}
use Rattle.kit_words.proofs.Common.{false, refl, ap, arith, cond, ℤ, pos, negsuc, unsigned_abs, Option, Some, None}
use Rattle.kit_words.proofs.Common.{option_map, reverse, slice_get, IsTrue, AllByRecursion, AllZip, list_all, flat_map}
use Rattle.kit_words.proofs.Common.{filter_map, length-append, sum_by-cons, slice_get_within, all_front, all_back}
use Rattle.std.specs.Prelude.{sum_by}
use Rattle.std.proofs.lemmas.Bool.{eqb-true}
use Rattle.grid_geometry.specs.Common.{Position}
use Rattle.ring_machine.specs.Common.{is_ring, Form, Document, Feature, Item, Layer, Open, Close, Leaf, Kept}
use Rattle.ring_machine.specs.Common.{feature_of, features, rings_of, rings, size, in_feature, in_item, fits_form}
use Rattle.ring_machine.specs.Common.{is_junction}
use Rattle.ring_machine.specs.Document as form
use Rattle.ring_machine.proofs.Common.{In, all_of, all_in}
use Rattle.topo_outline.specs.Common.{IsKeptHead, KeepsItem, owner_of, head_of}
use Rattle.topo_reader.specs.Common.{Arc, IsRing}
use Rattle.map_text.specs.Common.{led_from, cut_way, cut_round, begun, pieces, is_arc, with_piece, with_pieces, arcs_of}
use Rattle.map_text.specs.Common.{indexes}
use Rattle.map_text.proofs.Junctions.{begun_rotated}
use Rattle.map_text.proofs.Indexed.{Names, indexes_name}
use Rattle.map_text.proofs.RingsBack.{pieces_lead}
use Rattle.map_text.proofs.ReadingLists.{all_made}
use Rattle.map_text.proofs.ReadingUses.{RingIndexes, PolygonIndexes, ShapeIndexes, Fits, one, several, nothing}
use Rattle.map_text.proofs.ReadingGeometries.{IsWritten, IsWrittenFeature}

-- ---- a document has no more arcs than positions

one_more : (arcs : List Arc) (piece : Arc) → length (with_piece arcs piece) ≤ length arcs + 1
one_more arcs piece = by (is_arc arcs piece)
  where
    by : (b : Bool) → length (cond b arcs (arcs ++ piece ∷ [])) ≤ length arcs + 1
    by true = omega arith
    by false = omega (arith, length-append arcs (piece ∷ []))

all_more : (arcs all : List Arc) → length (with_pieces arcs all) ≤ length arcs + length all
all_more arcs [] = omega arith
all_more arcs (piece ∷ all) = omega (arith, all_more (with_piece arcs piece) all, one_more arcs piece)

led_length : (p : Position) (all : List Arc) → length (led_from p all) ≡ length all
led_length p [] = refl
led_length p (piece ∷ all) = refl

pub cut_length : (j : Position → Bool) (p : Position) (ps : List Position) → length (cut_way j p ps) ≤ length ps
cut_length j p [] = omega arith
cut_length j p (q ∷ []) = omega arith
cut_length j p (q ∷ r ∷ rs) = by (j q) (cut_length j q (r ∷ rs))
  where
    by : (b : Bool) → length (cut_way j q (r ∷ rs)) ≤ suc (length rs) → length (cond b ((p ∷ q ∷ []) ∷ cut_way j q (r ∷ rs)) (led_from p (cut_way j q (r ∷ rs)))) ≤ suc (suc (length rs))
    by true h = omega (arith, h)
    by false h = omega (arith, h, led_length p (cut_way j q (r ∷ rs)))

round_length : (j : Position → Bool) (ps : List Position) → length (cut_round j ps) ≤ length ps
round_length j [] = omega arith
round_length j (p ∷ ps) = omega (arith, cut_length j p (ps ++ p ∷ []), length-append ps (p ∷ []))

pub pieces_length : (j : Position → Bool) (ring : List Position) → length (pieces j ring) ≤ length ring
pieces_length j ring =
    let t = begun_rotated j ring in
    omega (arith, round_length j (begun j ring), ap length t.from, ap length t.to, length-append t.us t.vs, length-append t.vs t.us)

all_pieces_length : (j : Position → Bool) (rs : List (List Position)) → length (flat_map (pieces j) rs) ≤ sum_by length rs
all_pieces_length j [] = omega arith
all_pieces_length j (r ∷ rs) = omega (arith, length-append (pieces j r) (flat_map (pieces j) rs), pieces_length j r, all_pieces_length j rs, sum_by-cons length r rs)

pub arcs_length : (d : Document) → length (arcs_of d) ≤ size d
arcs_length d = omega (arith, all_more [] (flat_map (pieces (is_junction d)) (rings d)), all_pieces_length (is_junction d) (rings d))

-- ---- indexes are small

by_name : (arcs : List Arc) (o : Option Arc) (i : ℕ) (a : Arc) → slice_get arcs i ≡ o → option_map reverse o ≡ Some a → i < length arcs
by_name arcs None i a e h = absurd cc
by_name arcs (Some b) i a e h = slice_get_within arcs i b e

bounded : (arcs : List Arc) (z : ℤ) (a : Arc) → length arcs < 2 ^ 63 → Names arcs z a → unsigned_abs z < 2 ^ 63
bounded arcs (pos i) a small h = omega (arith, slice_get_within arcs i a h, small)
bounded arcs (negsuc i) a small h = omega (arith, by_name arcs (slice_get arcs i) i a refl h, small)

are_indexes : (arcs : List Arc) (zs : List ℤ) (as' : List Arc) → length arcs < 2 ^ 63 → AllZip (Names arcs) zs as' → RingIndexes arcs zs as'
are_indexes arcs [] [] small h = tt
are_indexes arcs [] (a ∷ as') small h = absurd h
are_indexes arcs (z ∷ zs) [] small h = absurd h
are_indexes arcs (z ∷ zs) (a ∷ as') small h = ((bounded arcs z a small h.0, h.0), are_indexes arcs zs as' small h.1)

-- ---- rings

-- the indexes of a ring name arcs that join to the ring
pub record IsDrawn (arcs : List Arc) (g : List Position → List ℤ) (cut : List Position → List Arc) (ring : List Position) : Type 0 where
  pub named : RingIndexes arcs (g ring) (cut ring)
  pub leads : IsRing (cut ring) ring

abbrev pub Drawn : Document → List Position → Type 0
Drawn d = IsDrawn (arcs_of d) (indexes (is_junction d) (arcs_of d)) (pieces (is_junction d))

pub all_drawn : (d : Document) → IsTrue (list_all is_ring (rings d)) → size d < 2 ^ 63 → AllByRecursion (Drawn d) (rings d)
all_drawn d are small = all_of (Drawn d) (rings d) (λ ring i. drawn ring i)
  where
    drawn : (ring : List Position) → In ring (rings d) → Drawn d ring
    drawn ring i = record {
      named = are_indexes (arcs_of d) (indexes (is_junction d) (arcs_of d) ring) (pieces (is_junction d) ring) (omega (arith, arcs_length d, small)) (indexes_name d ring i);
      leads = pieces_lead (is_junction d) ring (all_in is_ring (rings d) ring are i);
    }

-- ---- features

pub all_inside : {A B : Type 0} (P : B → Type 0) (f : A → List B) (xs : List A) → AllByRecursion P (flat_map f xs) → AllByRecursion (λ x. AllByRecursion P (f x)) xs
all_inside P f [] h = tt
all_inside P f (x ∷ xs) h = (all_front P (f x) (flat_map f xs) h, all_inside P f xs (all_back P (f x) (flat_map f xs) h))

pub all_both : {A : Type 0} (P Q : A → Type 0) (xs : List A) → AllByRecursion P xs → AllByRecursion Q xs → AllByRecursion (λ x. P x × Q x) xs
all_both P Q [] h k = tt
all_both P Q (x ∷ xs) h k = ((h.0, k.0), all_both P Q xs h.1 k.1)

pub all_passed : {A : Type 0} (test : A → Bool) (xs : List A) → list_all test xs ≡ true → AllByRecursion (λ x. test x ≡ true) xs
all_passed test xs h = all_of (λ x. test x ≡ true) xs (λ x i. all_in test xs x h i)

-- a feature of the document that is written
pub record IsPlain (drawn : List Position → Type 0) (f : Feature) : Type 0 where
  pub fits : fits_form f ≡ true
  pub rings : AllByRecursion (λ polygon. AllByRecursion drawn polygon) f.polygons

pub all_plain : (drawn : List Position → Type 0) (d : Document) → list_all fits_form (features d) ≡ true → AllByRecursion drawn (rings d) → AllByRecursion (λ (l : Layer). AllByRecursion (IsPlain drawn) (filter_map feature_of l.items)) d.layers
all_plain drawn d fits h =
    all_inside (IsPlain drawn) (λ l. filter_map feature_of l.items) d.layers
    (all_made (λ f. (fits_form f ≡ true) × AllByRecursion drawn (rings_of f)) (IsPlain drawn) (features d) (λ f k. record { fits = k.0; rings = all_inside drawn (λ polygon. polygon) f.polygons k.1 })
    (all_both (λ f. fits_form f ≡ true) (λ f. AllByRecursion drawn (rings_of f)) (features d) (all_passed fits_form (features d) fits) (all_inside drawn rings_of (features d) h)))

fits_as : (f : Feature) (g : List Position → List ℤ) (shape : Form) (ps : List (List (List Position))) → fits_form (record f { form = shape; polygons = ps }) ≡ true → Fits shape (map (map g) ps)
fits_as f g form.Polygon [] e = absurd cc
fits_as f g form.Polygon (p ∷ []) e = one
fits_as f g form.Polygon (p ∷ q ∷ ps) e = let no : suc (suc (length ps)) ≡ 1 = eqb-true _ _ e in absurd (omega (arith, no))
fits_as f g form.MultiPolygon ps e = several
fits_as f g form.Null [] e = nothing
fits_as f g form.Null (p ∷ ps) e = let no : suc (length ps) ≡ 0 = eqb-true _ _ e in absurd (omega (arith, no))

module _ (arcs : List Arc) (g : List Position → List ℤ) (cut : List Position → List Arc) where
  named_rings : (rs : List (List Position)) → AllByRecursion (IsDrawn arcs g cut) rs → PolygonIndexes arcs (map g rs) (map cut rs)
  named_rings [] h = tt
  named_rings (r ∷ rs) h = (h.0.named, named_rings rs h.1)

  pub named_polygons : (ps : List (List (List Position))) → AllByRecursion (λ polygon. AllByRecursion (IsDrawn arcs g cut) polygon) ps → ShapeIndexes arcs (map (map g) ps) (map (map cut) ps)
  named_polygons [] h = tt
  named_polygons (p ∷ ps) h = (named_rings p h.0, named_polygons ps h.1)

  pub plain_fits : (f : Feature) → IsPlain (IsDrawn arcs g cut) f → Fits f.form (map (map g) f.polygons)
  plain_fits f h = fits_as f g f.form f.polygons h.fits

  feature_written : (f : Feature) → IsPlain (IsDrawn arcs g cut) f → IsKeptHead (owner_of f.form) (head_of f) → IsWrittenFeature arcs (in_feature g f)
  feature_written f h k = record { head = k; fits = plain_fits f h; uses = map (map cut) f.polygons; indexes = named_polygons f.polygons h.rings }

  -- the items of a layer are such as are written
  pub items_written : (items : List Item) → AllByRecursion (IsPlain (IsDrawn arcs g cut)) (filter_map feature_of items) → AllByRecursion KeepsItem items → AllByRecursion (IsWritten arcs) (map (in_item (in_feature g)) items)
  items_written [] h k = tt
  items_written (Open head ∷ items) h k = (k.0, items_written items h k.1)
  items_written (Close ∷ items) h k = (tt, items_written items h k.1)
  items_written (Leaf f ∷ items) h k = (feature_written f h.0 k.0, items_written items h.1 k.1)
  items_written (Kept t ∷ items) h k = (k.0, items_written items h k.1)
