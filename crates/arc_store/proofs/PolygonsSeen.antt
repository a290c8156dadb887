-- A polygon of those that were read, at its place among them.
use Rattle.kit_words.proofs.Common.{◌≡◌, ◌<◌, ℕ, false, sym, ap, ◌∙◌, subst, List, [], ◌∷◌, map, length, get_or, take}
use Rattle.kit_words.proofs.Common.{arith, Vec, list_any, length-map, get_or-map}
use Rattle.grid_geometry.specs.Common.{Position}
use Rattle.ring_machine.specs.Common.{Path, is_cut_by, first_that}
use Rattle.ring_parts.specs.Common.{rings_seen, polygons_seen}
use Rattle.arc_store.specs.Common.{IsFirstCut}

-- an element, seen otherwise, stands at its place among all seen so
pub at_mapped : {A B : Type 0} (of : A → B) (xs : List A) (i : ℕ) (x : A) (d : B) → i < length xs
    → x ≡ get_or xs i x → of x ≡ get_or (map of xs) i d
at_mapped of xs i x d l e = ap of e ∙ sym (get_or-map of xs i x d l)

-- the rings of the first polygon
pub first_seen : {A : Type 0} (polygons : List (Vec (Vec Position A) A)) (x : Vec (Vec Position A) A) → x ≡ get_or polygons 0 x
    → 0 < length polygons → (q : List (Vec Position A)) → q ≡ x.items → rings_seen q ≡ get_or (polygons_seen polygons) 0 []
first_seen {A} polygons x is l q same =
    ap rings_seen same ∙ at_mapped (λ (p : Vec (Vec Position A) A). rings_seen p.items) polygons 0 x [] l is

-- the polygon at the place that was found is the first one that the path cuts
pub found_cut : {A : Type 0} (polygons : List (Vec (Vec Position A) A)) (ps : List (List (List Position)))
    → polygons_seen polygons ≡ ps → (path : Path) (place : ℕ) → place < length polygons
    → first_that (is_cut_by path) (polygons_seen polygons) ≡ get_or (polygons_seen polygons) place [] ∷ []
    → list_any (is_cut_by path) (take place (polygons_seen polygons)) ≡ false
    → (x : Vec (Vec Position A) A) → x ≡ get_or polygons place x → IsFirstCut ps path place (rings_seen x.items)
found_cut {A} polygons ps e path place l first none x is =
    let at : rings_seen x.items ≡ get_or (polygons_seen polygons) place [] =
    at_mapped (λ (p : Vec (Vec Position A) A). rings_seen p.items) polygons place x [] l is in
    subst (λ z. IsFirstCut z path place (rings_seen x.items)) e (record {
      within = omega (arith, l, length-map polygons (λ (p : Vec (Vec Position A) A). rings_seen p.items));
      at = at;
      first = first ∙ ap (λ z. z ∷ []) (sym at);
      none_before = none;
    })
