-- The neighbours of a position: by the edges of a ring, and by its places in the document.
use Rattle.kit_words.proofs.Common.{◌≡◌, Bool, true, false, refl, sym, ap, ◌∙◌, subst, List, [], arith, ◌∷◌, ◌++◌, map}
use Rattle.kit_words.proofs.Common.{append_assoc, ◌||◌, ◌⊎◌, inl, inr, list_any, list_all, flat_map, filter}
use Rattle.kit_words.proofs.Common.{AllByRecursion, false≢true, and_parts, or_cases, or_parts}
use Rattle.grid_geometry.specs.Common.{Position, position_eq, Segment, segment, Edge, links, edges}
use Rattle.ring_machine.specs.Common.{has, between_each, spots, Document, rings, positions, is_vertex, around}
use Rattle.ring_machine.proofs.Order.{position_eq-true, position_eq-refl}
use Rattle.ring_machine.proofs.Arcs.{links-append}
use Rattle.ring_machine.proofs.First.{In, in-append, in_left, in_right, filter-in}

-- ---- lists

pub all_of : {A : Type 0} (P : A → Type 0) (xs : List A) → ((x : A) → In x xs → P x)
    → AllByRecursion P xs
all_of P [] h = tt
all_of P (x ∷ xs) h = (h x (inl refl), all_of P xs (λ y i. h y (inr i)))

pub in-map : {A B : Type 0} (f : A → B) (a : A) (xs : List A) → In a xs → In (f a) (map f xs)
in-map f a [] h = absurd h
in-map f a (x ∷ xs) (inl i) = inl (ap f i)
in-map f a (x ∷ xs) (inr i) = inr (in-map f a xs i)

pub in-flat_map : {A B : Type 0} (f : A → List B) (a : A) (b : B) (xs : List A) → In a xs
    → In b (f a) → In b (flat_map f xs)
in-flat_map f a b [] h k = absurd h
in-flat_map f a b (x ∷ xs) (inl i) k = in_left b (f x) (flat_map f xs) (subst (λ z. In b (f z)) (sym i) k)
in-flat_map f a b (x ∷ xs) (inr i) k = in_right b (f x) (flat_map f xs) (in-flat_map f a b xs i k)

pub none_in : {A : Type 0} (test : A → Bool) (xs : List A) (a : A) → list_any test xs ≡ false
    → In a xs → test a ≡ false
none_in test [] a h i = absurd i
none_in test (x ∷ xs) a h (inl i) = ap test (sym i) ∙ (or_parts (test x) (list_any test xs) h).0
none_in test (x ∷ xs) a h (inr i) = none_in test xs a (or_parts (test x) (list_any test xs) h).1 i

pub all_in : {A : Type 0} (test : A → Bool) (xs : List A) (a : A) → list_all test xs ≡ true
    → In a xs → test a ≡ true
all_in test [] a h i = absurd i
all_in test (x ∷ xs) a h (inl i) = ap test (sym i) ∙ (and_parts (test x) (list_all test xs) h).0
all_in test (x ∷ xs) a h (inr i) = all_in test xs a (and_parts (test x) (list_all test xs) h).1 i

-- a position that a ring has
pub has-in : (p : Position) (ps : List Position) → has ps p ≡ true → In p ps
has-in p [] h = absurd (false≢true h)
has-in p (q ∷ ps) h = elim (or_cases (position_eq p q) (has ps p) h) [ inl i ↦ inl (sym (position_eq-true p q i)) | inr i ↦ inr (has-in p ps i) ]

pub in-has : (p : Position) (ps : List Position) → In p ps → has ps p ≡ true
in-has p [] h = absurd h
in-has p (q ∷ ps) (inl i) = ap (λ t. t || has ps p) (ap (position_eq p) i ∙ position_eq-refl p)
in-has p (q ∷ ps) (inr i) = grind (arith, in-has p ps i)

pub vertex_in : (d : Document) (w : Position) → is_vertex d w ≡ true → In w (positions d)
vertex_in d w h = over (rings d) h
  where
    over : (rs : List (List Position)) → list_any (λ ring. has ring w) rs ≡ true
        → In w (flat_map (λ ring. ring) rs)
    over [] k = absurd (false≢true k)
    over (r ∷ rs) k = elim (or_cases (has r w) (list_any (λ ring. has ring w) rs) k) [
      | inl i ↦ in_left w r (flat_map (λ ring. ring) rs) (has-in w r i)
      | inr i ↦ in_right w r (flat_map (λ ring. ring) rs) (over rs i)
    ]

-- ---- the edges of a ring and its places

after_pair : (a : Position) (rest : List Position) (y : Position) (e : Edge)
    → In e (links (a ∷ rest))
    → (c : Position) × In (e.1, segment e.0 c) (between_each (a ∷ rest ++ y ∷ []))
after_pair a [] y e h = absurd h
after_pair a (b ∷ []) y e (inl i) = (y, inl (ap (λ (f : Edge). (f.1, segment f.0 y)) i))
after_pair a (b ∷ []) y e (inr h) = absurd h
after_pair a (b ∷ c ∷ rest) y e (inl i) = (c, inl (ap (λ (f : Edge). (f.1, segment f.0 c)) i))
after_pair a (b ∷ c ∷ rest) y e (inr h) = let k = after_pair b (c ∷ rest) y e h in (k.0, inr k.1)

before_pair : (c a : Position) (rest : List Position) (e : Edge) → In e (links (a ∷ rest))
    → (b : Position) × In (e.0, segment b e.1) (between_each (c ∷ a ∷ rest))
before_pair c a [] e h = absurd h
before_pair c a (b ∷ rest) e (inl i) = (c, inl (ap (λ (f : Edge). (f.0, segment c f.1)) i))
before_pair c a (b ∷ rest) e (inr h) = let k = before_pair a b rest e h in (k.0, inr k.1)

-- the end of an edge is a place beside its begin
pub end_place : (x y : Position) (zs : List Position) (e : Edge) → In e (edges (x ∷ y ∷ zs))
    → (c : Position) × In (e.1, segment e.0 c) (spots (x ∷ y ∷ zs))
end_place x y zs e h =
    let k = after_pair x ((y ∷ zs) ++ x ∷ []) y e h in
    (k.0, subst (λ l. In (e.1, segment e.0 k.0) (between_each (x ∷ l))) (append_assoc (y ∷ zs) (x ∷ []) (y ∷ [])) k.1)

-- the begin of an edge is a place beside its end
pub begin_place : (x y : Position) (zs : List Position) (e : Edge) → In e (edges (x ∷ y ∷ zs))
    → (c : Position) × In (e.0, segment c e.1) (spots (x ∷ y ∷ zs))
begin_place x y zs e h =
    let e' : In e ((x, y) ∷ links ((y ∷ zs) ++ x ∷ [])) = h in
    before_pair x y (zs ++ x ∷ y ∷ []) e (subst (In e) (sym (links-append (y ∷ zs) x (y ∷ []))) (moved e'))
  where
    moved : In e ((x, y) ∷ links ((y ∷ zs) ++ x ∷ []))
        → In e (links ((y ∷ zs) ++ x ∷ []) ++ (x, y) ∷ [])
    moved (inl i) = in_right e (links ((y ∷ zs) ++ x ∷ [])) ((x, y) ∷ []) (inl i)
    moved (inr i) = in_left e (links ((y ∷ zs) ++ x ∷ [])) ((x, y) ∷ []) i

-- a place in a ring of the document is one of the document
pub place_around : (d : Document) (ring : List Position) (p : Position) (s : Segment)
    → In ring (rings d) → In (p, s) (spots ring) → In s (around d p)
place_around d ring p s h k =
    in-map (λ (spot : Position × Segment). spot.1) (p, s) (filter (λ spot. position_eq p spot.0) (flat_map spots (rings d)))
    (filter-in (λ (spot : Position × Segment). position_eq p spot.0) (p, s) (flat_map spots (rings d)) (in-flat_map spots ring (p, s) (rings d) h k) (position_eq-refl p))

-- a is an end of each segment that it is given to
pub first_end : (a c : Position) → ((segment a c).lo ≡ a) ⊎ ((segment a c).hi ≡ a)
first_end a c = grind arith

pub second_end : (c a : Position) → ((segment c a).lo ≡ a) ⊎ ((segment c a).hi ≡ a)
second_end c a = grind arith

-- both ends of an edge are positions of the ring
pub links_in : (as' : List Position) (e : Edge) → In e (links as') → In e.0 as' × In e.1 as'
links_in [] e h = absurd h
links_in (a ∷ []) e h = absurd h
links_in (a ∷ b ∷ as') e (inl i) = (inl (ap (λ (f : Edge). f.0) i), inr (inl (ap (λ (f : Edge). f.1) i)))
links_in (a ∷ b ∷ as') e (inr h) = let k = links_in (b ∷ as') e h in (inr k.0, inr k.1)

pub edge_in : (x : Position) (rest : List Position) (e : Edge) → In e (edges (x ∷ rest))
    → In e.0 (x ∷ rest) × In e.1 (x ∷ rest)
edge_in x rest e h =
    let k = links_in ((x ∷ rest) ++ x ∷ []) e h in
    (back e.0 k.0, back e.1 k.1)
  where
    back : (p : Position) → In p ((x ∷ rest) ++ x ∷ []) → In p (x ∷ rest)
    back p h = elim (in-append p (x ∷ rest) (x ∷ []) h) [ inl i ↦ i | inr i ↦ elim i [ inl j ↦ inl j | inr j ↦ absurd j ] ]

pub edge_ends : (ring : List Position) (e : Edge) → In e (edges ring) → In e.0 ring × In e.1 ring
edge_ends [] e i = absurd i
edge_ends (a ∷ rest) e i = edge_in a rest e i
