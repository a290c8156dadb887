-- From which rings the rings of an edited document come.
use Rattle.kit_words.proofs.Common.{◌≡◌, ℕ, ℤ, Bool, true, false, refl, sym, ap, ◌∙◌, subst, cond, List, [], ◌∷◌, ◌++◌}
use Rattle.kit_words.proofs.Common.{map, ◌⊎◌, inl, inr, None, Some, Option, Contains, not, ◌&&◌, filter, flat_map, fold}
use Rattle.grid_geometry.specs.Common.{Position, position_eq, segment, Edge, edges}
use Rattle.ring_machine.specs.Common.{segment_of, canonical, Document, Feature, Text, features, rings_of, rings}
use Rattle.ring_machine.specs.Common.{in_rings, put, ins, del, put_ring, ins_ring, del_ring, is_junction, vertices}
use Rattle.ring_machine.specs.Common.{Refusal, first_of, remove_refusals, Thinning, is_flat, without, thin_at}
use Rattle.ring_machine.specs.Common.{thinned_over, thinned, Path, cut, is_cut_by, first_that, stays, parted, instead}
use Rattle.ring_machine.specs.Common.{join, joined_feature, take_out, renamed}
use Rattle.ring_machine.proofs.Common.{position_eq-true, is_of, canonical_parts, In, contains_in, in_contains, in_swap}
use Rattle.ring_machine.proofs.Common.{in_mapped, in_flat, edge_in, in-flat_map, segment_eq-true, same_ends}
use Rattle.ring_machine.proofs.Common.{rings-in_rings, part_in, in-take_out, part-rings, rings-renamed, in-instead}
use Rattle.ring_machine.proofs.Common.{new_feature, in-filter}

-- ---- what is said of a ring

-- the positions of r are positions of one ring of the document
abbrev pub IsWithin : Document → List Position → Type 0
IsWithin d r = (s : List Position) × Contains (rings d) s × ((x : Position) → Contains r x → Contains s x)

-- the positions of r are positions of one ring of the document, and q besides where that ring has a
abbrev pub IsWithinBut : Document → Position → Position → List Position → Type 0
IsWithinBut d a q r =
    (s : List Position) × Contains (rings d) s × ((x : Position) → Contains r x → Contains s x ⊎ ((x ≡ q) × Contains s a))

-- r is a ring of a feature of the document, whose number is such a one
abbrev pub IsOfFeature : Document → (ℕ → Type 0) → List Position → Type 0
IsOfFeature d IsNamed r =
    (f : Feature) × Contains (features d) f × Contains (rings_of f) r × IsNamed f.number

-- ---- one ring

-- the canonical ring is the ring turned: it has no other positions
of_turned : (x : Position) (ps : List Position) → Contains (canonical ps) x → In x ps
of_turned x ps i =
    let turn = canonical_parts ps in
    let turned : In x (turn.1 ++ turn.0) = subst (In x) turn.3 (contains_in (canonical ps) x i) in
    subst (In x) (sym turn.2) (in_swap x turn.1 turn.0 turned)

-- a ring with q in the place of p
of_put : (p q x : Position) (ring : List Position) → Contains (put_ring p q ring) x
    → Contains ring x ⊎ ((x ≡ q) × Contains ring p)
of_put p q x ring i =
    let k = in_mapped (λ r. cond (position_eq r p) q r) x ring (of_turned x (map (λ r. cond (position_eq r p) q r) ring) i) in
    by k.0 (position_eq k.0 p) refl (in_contains ring k.0 k.1) k.2
  where
    by : (r : Position) (b : Bool) → position_eq r p ≡ b → Contains ring r → cond b q r ≡ x
        → Contains ring x ⊎ ((x ≡ q) × Contains ring p)
    by r true e there same = inr (sym same, subst (Contains ring) (position_eq-true r p e) there)
    by r false e there same = inl (subst (Contains ring) same there)

-- both ends of an edge are positions of the ring
ends_in : (ring : List Position) (e : Edge) → In e (edges ring)
    → Contains ring e.0 × Contains ring e.1
ends_in [] e i = absurd i
ends_in (p ∷ ps) e i =
    let k = edge_in p ps e i in (in_contains (p ∷ ps) e.0 k.0, in_contains (p ∷ ps) e.1 k.1)

-- a ring with q between a and b
of_ins : (a b q x : Position) (ring : List Position) → Contains (ins_ring a b q ring) x
    → Contains ring x ⊎ ((x ≡ q) × Contains ring a)
of_ins a b q x ring i =
    let become : Edge → List Position = λ e. cond (is_of (segment a b) e) (e.0 ∷ q ∷ []) (e.0 ∷ []) in
    let k = in_flat become x (edges ring) (of_turned x (flat_map become (edges ring)) i) in
    by k.0 (is_of (segment a b) k.0) refl (ends_in ring k.0 k.1) k.2
  where
    -- a is an end of an edge with the segment of a and b
    has_first : (e : Edge) → is_of (segment a b) e ≡ true → Contains ring e.0 × Contains ring e.1
        → Contains ring a
    has_first e t ends = elim (same_ends e (a, b) (segment_eq-true (segment_of e) (segment a b) t)) [
      | inl same ↦ subst (Contains ring) (sym same.0) ends.0
      | inr same ↦ subst (Contains ring) (sym same.0) ends.1
    ]

    by : (e : Edge) (t : Bool) → is_of (segment a b) e ≡ t → Contains ring e.0 × Contains ring e.1
        → In x (cond t (e.0 ∷ q ∷ []) (e.0 ∷ [])) → Contains ring x ⊎ ((x ≡ q) × Contains ring a)
    by e true t ends (inl same) = inl (subst (Contains ring) same ends.0)
    by e true t ends (inr (inl same)) = inr (sym same, has_first e t ends)
    by e true t ends (inr (inr none)) = absurd none
    by e false t ends (inl same) = inl (subst (Contains ring) same ends.0)
    by e false t ends (inr none) = absurd none

-- a ring without p
of_del : (p x : Position) (ring : List Position) → Contains (del_ring p ring) x → Contains ring x
of_del p x ring i =
    in_contains ring x (in-filter (λ r. not (position_eq r p)) x ring (of_turned x (filter (λ r. not (position_eq r p)) ring) i)).0

-- ---- an edit of a vertex

-- a ring of a document with each ring changed is one of its rings, changed
changed_from : (g : List Position → List Position) (d : Document) (r : List Position)
    → Contains (rings (in_rings g d)) r → (s : List Position) × Contains (rings d) s × (g s ≡ r)
changed_from g d r i =
    let k = in_mapped g r (rings d) (subst (In r) (rings-in_rings g d) (contains_in (rings (in_rings g d)) r i)) in
    (k.0, in_contains (rings d) k.0 k.1, k.2)

pub put_from : (d : Document) (p q : Position) (r : List Position) → Contains (rings (put d p q)) r
    → IsWithinBut d p q r
put_from d p q r i =
    let k = changed_from (put_ring p q) d r i in
    (k.0, k.1, λ x j. of_put p q x k.0 (subst (λ z. Contains z x) (sym k.2) j))

pub ins_from : (d : Document) (a b q : Position) (r : List Position)
    → Contains (rings (ins d a b q)) r → IsWithinBut d a q r
ins_from d a b q r i =
    let k = changed_from (ins_ring a b q) d r i in
    (k.0, k.1, λ x j. of_ins a b q x k.0 (subst (λ z. Contains z x) (sym k.2) j))

pub del_from : (d : Document) (p : Position) (r : List Position) → Contains (rings (del d p)) r
    → IsWithin d r
del_from d p r i =
    let k = changed_from (del_ring p) d r i in
    (k.0, k.1, λ x j. of_del p x k.0 (subst (λ z. Contains z x) (sym k.2) j))

-- ---- thinning

-- each ring of the new document is within one of the old
abbrev AreWithin : Document → Document → Type 0
AreWithin d e = (r : List Position) → Contains (rings e) r → IsWithin d r

within_itself : (d : Document) → AreWithin d d
within_itself d r i = (r, i, λ x j. j)

one_less : (d e : Document) (p : Position) → AreWithin d e → AreWithin d (del e p)
one_less d e p old r i =
    let k = del_from e p r i in
    let l = old k.0 k.1 in
    (l.0, l.1, λ x j. l.2 x (k.2 x j))

at_one : (t : ℤ) (d : Document) (so_far : Thinning) (p : Position) → AreWithin d so_far.doc
    → AreWithin d (thin_at t so_far p).doc
at_one t d so_far p old =
    by (not (is_junction so_far.doc p) && is_flat t so_far.doc p) (first_of (remove_refusals so_far.doc p))
  where
    by : (flat : Bool) (refused : Option Refusal)
        → AreWithin d (cond flat (without so_far p refused) so_far).doc
    by true None = one_less d so_far.doc p old
    by true (Some r) = old
    by false refused = old

over : (t : ℤ) (d : Document) (ps : List Position) (so_far : Thinning) → AreWithin d so_far.doc
    → AreWithin d (fold (thin_at t) so_far ps).doc
over t d [] so_far old = old
over t d (p ∷ ps) so_far old = over t d ps (thin_at t so_far p) (at_one t d so_far p old)

pub thinned_over_from : (t : ℤ) (d : Document) (ps : List Position) (r : List Position)
    → Contains (rings (thinned_over t d ps).doc) r → IsWithin d r
thinned_over_from t d ps = over t d ps (record { doc = d; removed = 0 }) (within_itself d)

pub thinned_from : (t : ℤ) (d : Document) (r : List Position)
    → Contains (rings (thinned t d).doc) r → IsWithin d r
unfolding thinned
thinned_from t d = thinned_over_from t d (vertices d)

-- ---- a feature renamed or taken out

pub renamed_from : (d : Document) (n : ℕ) (id : Text) (r : List Position)
    → Contains (rings (renamed d n id)) r → Contains (rings d) r
renamed_from d n id r i = subst (λ rs. Contains rs r) (rings-renamed n id d) i

pub take_out_from : (d : Document) (n : ℕ) (r : List Position) → Contains (rings (take_out d n)) r
    → Contains (rings d) r
take_out_from d n r i =
    in_contains (rings d) r (part_in r (part-rings d n) (contains_in (rings (take_out d n)) r i))

-- ---- a feature cut, and two joined

-- where each feature was there or has one of these numbers, each ring was there or is of such a feature
module _ (d e : Document) (IsNamed : ℕ → Type 0)
    (old_or_named : (f : Feature) → In f (features e) → In f (features d) ⊎ IsNamed f.number) where
  of_features : (r : List Position) → Contains (rings e) r
      → Contains (rings d) r ⊎ IsOfFeature e IsNamed r
  of_features r i =
      let k = in_flat rings_of r (features e) (contains_in (rings e) r i) in
      elim (old_or_named k.0 k.1) [
        | inl old ↦ inl (in_contains (rings d) r (in-flat_map rings_of k.0 r (features d) old k.2))
        | inr named ↦ inr (k.0, in_contains (features e) k.0 k.1, in_contains (rings_of k.0) r k.2, named)
      ]

pub cut_from : (d : Document) (n : ℕ) (id : Text) (path : Path) (next : ℕ) (r : List Position)
    → Contains (rings (cut d n id path next)) r
    → Contains (rings d) r ⊎ IsOfFeature (cut d n id path next) (λ m. (m ≡ n) ⊎ (m ≡ next)) r
unfolding cut
cut_from d n id path next r i =
    of_features d (cut d n id path next) (λ m. (m ≡ n) ⊎ (m ≡ next)) old_or_named r i
  where
    number_of : (f k : Feature) → f.number ≡ n → In k (stays path f ∷ parted path next id f)
        → (k.number ≡ n) ⊎ (k.number ≡ next)
    number_of f k m (inl same) = inl (sym (ap (λ (z : Feature). z.number) same) ∙ m)
    number_of f k m (inr j) =
        let new = in_mapped (new_feature path next id f) k (first_that (is_cut_by path) f.polygons) j in
        inr (sym (ap (λ (z : Feature). z.number) new.2))

    old_or_named : (k : Feature)
        → In k (features (instead n (λ f. stays path f ∷ parted path next id f) d))
        → In k (features d) ⊎ ((k.number ≡ n) ⊎ (k.number ≡ next))
    old_or_named k j = elim (in-instead n (λ f. stays path f ∷ parted path next id f) d k j) [
      | inl old ↦ inl old.0
      | inr made ↦ inr (number_of made.0 k made.2 made.3)
    ]

pub join_from : (d : Document) (n : ℕ) (g : Feature) (r : List Position)
    → Contains (rings (join d n g)) r
    → Contains (rings d) r ⊎ IsOfFeature (join d n g) (λ m. m ≡ n) r
unfolding join
join_from d n g r i = of_features d (join d n g) (λ m. m ≡ n) old_or_named r i
  where
    number_of : (f k : Feature) → f.number ≡ n → In k (joined_feature g f) → k.number ≡ n
    number_of f k m (inl same) = sym (ap (λ (z : Feature). z.number) same) ∙ m
    number_of f k m (inr none) = absurd none

    old_or_named : (k : Feature) → In k (features (take_out (instead n (joined_feature g) d) g.number))
        → In k (features d) ⊎ (k.number ≡ n)
    old_or_named k j =
        elim (in-instead n (joined_feature g) d k (in-take_out (instead n (joined_feature g) d) g.number k j).0) [
          | inl old ↦ inl old.0
          | inr made ↦ inr (number_of made.0 k made.2 made.3)
        ]
