-- Each feature that was read has polygons that fit its form.
use Rattle.kit_words.proofs.Common.{◌≡◌, ℕ, zero, suc, ◌+◌, true, arith, add-one, refl, sym, ap, ap₂, ◌∙◌, ◌&&◌, subst}
use Rattle.kit_words.proofs.Common.{List, [], ◌∷◌, ◌++◌, length, drop, get_or, ◌==◌, list_all, AllZip, flat_map}
use Rattle.kit_words.proofs.Common.{filter_map, list_all-append, unwrap_or-slice_get, AllZip-long}
use Rattle.json_spans.specs.Common.{Node}
use Rattle.grid_geometry.specs.Common.{Position}
use Rattle.ring_machine.specs.Common.{Form, Polygon, MultiPolygon, Null, Head, feature_of, fits_form}
use Rattle.topo_outline.specs.Common.{LayerText, Piece, leaf, leaves_in, leaves}
use Rattle.topo_reader.specs.Common.{Arc, Polygons, GeometryUses}
use Rattle.topo_outline.specs.Common.{polygons_at, numbered, items_from, layers_from}
use Rattle.topo_reader.specs.Common.{AreClosed}

-- ---- one feature

-- as many polygons as the form asks for
abbrev pub Suits : Form → Polygons → Type 0
Suits Polygon ps = length ps ≡ 1
Suits MultiPolygon ps = Unit {0}
Suits Null ps = length ps ≡ 0

fits : (n : ℕ) (form : Form) (head : Head) (ps : Polygons) → Suits form ps
    → fits_form (numbered n form head ps) ≡ true
fits n Polygon head ps h = ap (λ k. k == 1) h
fits n MultiPolygon head ps h = refl
fits n Null head ps h = ap (λ k. k == 0) h

abbrev SuitsLeaf : Form × Node → Polygons → Type 0
SuitsLeaf g ps = Suits g.0 ps

-- whatever its rings mean
module _ (IsOne : List Arc → List Position → Type 0) where
  -- a geometry's uses are as many as its form asks for, and each is a polygon
  suits : (found : List Arc) (form : Form) (n : Node) (uses : List (List (List Arc))) (ps : Polygons)
      → GeometryUses found (form, n) uses → AreClosed IsOne uses ps → Suits form ps
  suits found Polygon n uses ps u r =
      AllZip-long (AllZip IsOne) uses ps r ∙ ap (λ (us : List (List (List Arc))). length us) u.2
  suits found MultiPolygon n uses ps u r = tt
  suits found Null n uses ps u r =
      AllZip-long (AllZip IsOne) uses ps r ∙ ap (λ (us : List (List (List Arc))). length us) u

  all_suit : (found : List Arc) (gs : List (Form × Node)) (uses : List (List (List (List Arc))))
      (all : List Polygons) → AllZip (GeometryUses found) gs uses → AllZip (AreClosed IsOne) uses all
      → AllZip SuitsLeaf gs all
  all_suit found [] [] [] u r = tt
  all_suit found [] [] (ps ∷ all) u r = absurd r
  all_suit found [] (us ∷ uses) all u r = absurd u
  all_suit found (g ∷ gs) [] all u r = absurd u
  all_suit found (g ∷ gs) (us ∷ uses) [] u r = absurd r
  all_suit found (g ∷ gs) (us ∷ uses) (ps ∷ all) u r =
      (suits found g.0 g.1 us ps u.0 r.0, all_suit found gs uses all u.1 r.1)

-- ---- by number

-- where the polygons from n on begin with these, feature n has these
first_at : (all : List Polygons) (n : ℕ) (ps : Polygons) (rest : List Polygons)
    → drop n all ≡ ps ∷ rest → (polygons_at all n ≡ ps) × (drop (n + 1) all ≡ rest)
first_at all n ps rest e =
    let b = by all n e in
    (unwrap_or-slice_get all n [] ∙ b.0, ap (λ m. drop m all) (add-one n) ∙ b.1)
  where
    by : (all : List Polygons) (n : ℕ) → drop n all ≡ ps ∷ rest
        → (get_or all n [] ≡ ps) × (drop (suc n) all ≡ rest)
    by [] zero e = absurd (omega (arith, ap (λ (qs : List Polygons). length qs) e))
    by [] (suc n) e = absurd (omega (arith, ap (λ (qs : List Polygons). length qs) e))
    by (qs ∷ all) zero e =
        (ap (λ (rs : List Polygons). get_or rs 0 []) e, ap (λ (rs : List Polygons). drop 1 rs) e)
    by (qs ∷ all) (suc n) e = by all n e

module _ (all : List Polygons) where
  -- the features from n on have polygons that suit their forms
  abbrev AllSuit : ℕ → List (Form × Node) → Type 0
  AllSuit n [] = Unit {0}
  AllSuit n (g ∷ gs) = Suits g.0 (polygons_at all n) × AllSuit (n + 1) gs

  suit_from : (n : ℕ) (gs : List (Form × Node)) (rest : List Polygons) → drop n all ≡ rest
      → AllZip SuitsLeaf gs rest → AllSuit n gs
  suit_from n [] rest e h = tt
  suit_from n (g ∷ gs) [] e h = absurd h
  suit_from n (g ∷ gs) (ps ∷ rest) e h =
      let f = first_at all n ps rest e in
      (subst (Suits g.0) (sym f.0) h.0, suit_from (n + 1) gs rest f.1 h.1)

  suit-append : (n : ℕ) (gs hs : List (Form × Node)) → AllSuit n (gs ++ hs)
      → AllSuit n gs × AllSuit (n + length gs) hs
  suit-append n [] hs h = (tt, subst (λ m. AllSuit m hs) (omega arith) h)
  suit-append n (g ∷ gs) hs h =
      let k = suit-append (n + 1) gs hs h.1 in
      ((h.0, k.0), subst (λ m. AllSuit m hs) (omega arith) k.1)

  items_fit : (n : ℕ) (ps : List Piece) → AllSuit n (leaves_in ps)
      → list_all fits_form (filter_map feature_of (items_from n all ps)) ≡ true
  unfolding leaves_in
  items_fit n [] h = refl
  items_fit n (leaf form head node ∷ ps) h =
      ap₂ (λ a b. a && b) (fits n form head (polygons_at all n) h.0) (items_fit (n + 1) ps h.1)
  items_fit n (_ ∷ ps) h = items_fit n ps h

  layers_fit : (n : ℕ) (ls : List LayerText) → AllSuit n (leaves ls)
      → list_all fits_form (flat_map (λ l. filter_map feature_of l.items) (layers_from n all ls)) ≡ true
  unfolding leaves
  layers_fit n [] h = refl
  layers_fit n (l ∷ ls) h =
      let k = suit-append n (leaves_in l.pieces) (leaves ls) h in
      list_all-append fits_form (filter_map feature_of (items_from n all l.pieces)) (flat_map (λ l'. filter_map feature_of l'.items) (layers_from (n + length (leaves_in l.pieces)) all ls))
      ∙ ap₂ (λ a b. a && b) (items_fit n l.pieces k.0) (layers_fit (n + length (leaves_in l.pieces)) ls k.1)

-- where the arcs of the leaves make these polygons, the features of all layers fit their forms
pub each_fits : (IsOne : List Arc → List Position → Type 0) (found : List Arc) (ls : List LayerText)
    (uses : List (List (List (List Arc)))) (all : List Polygons)
    → AllZip (GeometryUses found) (leaves ls) uses → AllZip (AreClosed IsOne) uses all
    → list_all fits_form (flat_map (λ l. filter_map feature_of l.items) (layers_from 0 all ls)) ≡ true
each_fits IsOne found ls uses all u r =
    layers_fit all 0 ls (suit_from all 0 (leaves ls) all refl (all_suit IsOne found (leaves ls) uses all u r))
