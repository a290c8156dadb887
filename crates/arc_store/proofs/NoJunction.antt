-- Where no vertex stands, no junction does, and no neighbours are joined.
use Rattle.kit_words.proofs.Common.{◌≡◌, Bool, false, refl, sym, ap, ◌∙◌, subst, cond, List, [], ◌∷◌, ◌++◌, take, inl}
use Rattle.kit_words.proofs.Common.{inr, map, not, filter, flat_map, list_any, false≢true, or_parts, false_from_ne_true}
use Rattle.grid_geometry.specs.Common.{Position, position_eq, Segment}
use Rattle.ring_machine.specs.Common.{has, between_each, spots, Document, rings, is_vertex, is_segment, all_equal, is_junction}
use Rattle.ring_machine.specs.Common.{is_bridged}
use Rattle.ring_machine.proofs.Common.{position_eq-true, In, in-append, in-has}

place_in : (ps : List Position) (p : Position) (s : Segment) → In (p, s) (between_each ps) → In p ps
place_in (a ∷ b ∷ c ∷ ps) p s (inl e) = inr (inl (ap (λ (spot : Position × Segment). spot.0) e))
place_in (a ∷ b ∷ c ∷ ps) p s (inr i) = inr (place_in (b ∷ c ∷ ps) p s i)
place_in _ p s i = absurd i

front_in : (ring : List Position) (p : Position) → In p (take 2 ring) → In p ring
front_in [] p i = absurd i
front_in (a ∷ []) p i = i
front_in (a ∷ b ∷ ps) p (inl e) = inl e
front_in (a ∷ b ∷ ps) p (inr (inl e)) = inr (inl e)
front_in (a ∷ b ∷ ps) p (inr (inr i)) = absurd i

spot_in : (ring : List Position) (p : Position) (s : Segment) → In (p, s) (spots ring) → In p ring
spot_in ring p s i = elim (in-append p ring (take 2 ring) (place_in (ring ++ take 2 ring) p s i)) [
  | inl h ↦ h
  | inr h ↦ front_in ring p h
]

-- the places of p in a list of places that has none
none_left : {A : Type 0} (test : A → Bool) (xs : List A) → ((x : A) → In x xs → test x ≡ false) → (ys : List A)
    → filter test (xs ++ ys) ≡ filter test ys
none_left test [] h ys = refl
none_left test (x ∷ xs) h ys =
    ap (λ b. cond b (x ∷ filter test (xs ++ ys)) (filter test (xs ++ ys))) (h x (inl refl)) ∙ none_left test xs (λ y i. h y (inr i)) ys

not_there : (ring : List Position) (p : Position) → has ring p ≡ false → (spot : Position × Segment) → In spot (spots ring)
    → position_eq p spot.0 ≡ false
not_there ring p h spot i =
    false_from_ne_true _ (λ e. false≢true (sym h ∙ in-has p ring (subst (λ q. In q ring) (sym (position_eq-true p spot.0 e)) (spot_in ring spot.0 spot.1 i))))

nowhere : (rs : List (List Position)) (p : Position) → list_any (λ ring. has ring p) rs ≡ false
    → filter (λ (spot : Position × Segment). position_eq p spot.0) (flat_map spots rs) ≡ []
nowhere [] p h = refl
nowhere (r ∷ rs) p h =
    let n = or_parts (has r p) (list_any (λ ring. has ring p) rs) h in
    none_left (λ (spot : Position × Segment). position_eq p spot.0) (spots r) (not_there r p n.0) (flat_map spots rs) ∙ nowhere rs p n.1

pub no_vertex : (d : Document) (p : Position) → is_vertex d p ≡ false → is_junction d p ≡ false
no_vertex d p h = ap (λ (ss : List (Position × Segment)). not (all_equal (map (λ spot. spot.1) ss))) (nowhere (rings d) p h)

-- nor are neighbours joined there
pub no_bridge : (d : Document) (p : Position) → is_vertex d p ≡ false → is_bridged d p ≡ false
no_bridge d p h = ap (λ (ss : List (Position × Segment)). list_any (is_segment d) (map (λ spot. spot.1) ss)) (nowhere (rings d) p h)
