-- The longest side of the edges of rings, one after another.
use Rattle.kit_words.proofs.Common.{◌≡◌, ℕ, ◌+◌, ◌<◌, ◌≤◌, ◌++◌, ◌∙◌, ◌∷◌, [], List, Vec, length, map, take, drop, get_or, max, ap, sym, refl, fold, flat_map}
use Rattle.kit_words.proofs.Common.{fold-append, flat_map-append, flat_mapped_more, next_drop, take_more, append-nil, drop_all}
use Rattle.grid_geometry.specs.Common.{Position, edges, links}
use Rattle.topo_reader.specs.Common.{positions_of}
use Rattle.geo_text.specs.Text.{side}

abbrev pub longest_of : ℕ → List (Position × Position) → ℕ
longest_of before es = fold (λ most e. max most (side e)) before es

pub ring_turn : (a : ℕ) (from to z : Position) (others : List Position) (i : ℕ) → i < length others → to ≡ get_or others i to
    → longest_of a (links (from ∷ drop i others ++ z ∷ [])) ≡ longest_of (max a (side (from, to))) (links (to ∷ drop (i + 1) others ++ z ∷ []))
ring_turn a from to z others i lt is = ap (λ ps. longest_of a (links (from ∷ ps ++ z ∷ []))) (next_drop others i to lt is)

pub ring_last : (a : ℕ) (from z : Position) (others : List Position) (i : ℕ) → length others ≤ i
    → longest_of a (links (from ∷ drop i others ++ z ∷ [])) ≡ max a (side (from, z))
ring_last a from z others i le = ap (λ ps. longest_of a (links (from ∷ ps ++ z ∷ []))) (drop_all i others le)

pub rings_turn : {A : Type 0} (a now next : ℕ) (rings : List (Vec Position A)) (i : ℕ) (ring : Vec Position A) → i < length rings → ring ≡ get_or rings i ring
    → now ≡ longest_of a (flat_map edges (map positions_of (take i rings))) → next ≡ longest_of now (edges ring.items)
    → next ≡ longest_of a (flat_map edges (map positions_of (take (i + 1) rings)))
rings_turn a now next rings i ring lt is p q =
    q ∙ ap (λ n. longest_of n (edges ring.items)) p
    ∙ sym (fold-append (λ most e. max most (side e)) a (flat_map edges (map positions_of (take i rings))) (edges ring.items))
    ∙ ap (longest_of a) (sym (flat_mapped_more edges positions_of rings i ring lt is))

flat_more : {X Y : Type 0} (f : X → List Y) (xs : List X) (i : ℕ) (x : X) → i < length xs → x ≡ get_or xs i x → flat_map f (take (i + 1) xs) ≡ flat_map f (take i xs) ++ f x
flat_more f xs i x lt is =
    ap (flat_map f) (take_more xs i x lt ∙ ap (λ z. take i xs ++ z ∷ []) (sym is)) ∙ flat_map-append f (take i xs) (x ∷ [])
    ∙ ap (λ z. flat_map f (take i xs) ++ z) (append-nil (f x))

-- one more of what has rings
pub parts_turn : {X : Type 0} (of : X → List (List Position)) (a now next : ℕ) (xs : List X) (i : ℕ) (x : X) → i < length xs → x ≡ get_or xs i x
    → now ≡ longest_of a (flat_map edges (flat_map of (take i xs))) → next ≡ longest_of now (flat_map edges (of x))
    → next ≡ longest_of a (flat_map edges (flat_map of (take (i + 1) xs)))
parts_turn of a now next xs i x lt is p q =
    q ∙ ap (λ n. longest_of n (flat_map edges (of x))) p
    ∙ sym (fold-append (λ most e. max most (side e)) a (flat_map edges (flat_map of (take i xs))) (flat_map edges (of x)))
    ∙ ap (longest_of a) (sym (flat_map-append edges (flat_map of (take i xs)) (of x)) ∙ ap (flat_map edges) (sym (flat_more of xs i x lt is)))

pub features_turn : {X Y : Type 0} (of : Y → List (List Position)) (inside : X → List Y) (a now next : ℕ) (xs : List X) (i : ℕ) (x : X) → i < length xs → x ≡ get_or xs i x
    → now ≡ longest_of a (flat_map edges (flat_map of (flat_map inside (take i xs)))) → next ≡ longest_of now (flat_map edges (flat_map of (inside x)))
    → next ≡ longest_of a (flat_map edges (flat_map of (flat_map inside (take (i + 1) xs))))
features_turn of inside a now next xs i x lt is p q =
    q ∙ ap (λ n. longest_of n (flat_map edges (flat_map of (inside x)))) p
    ∙ sym (fold-append (λ most e. max most (side e)) a (flat_map edges (flat_map of (flat_map inside (take i xs)))) (flat_map edges (flat_map of (inside x))))
    ∙ ap (longest_of a) (sym (flat_map-append edges (flat_map of (flat_map inside (take i xs))) (flat_map of (inside x)))
    ∙ ap (flat_map edges) (sym (flat_map-append of (flat_map inside (take i xs)) (inside x)) ∙ ap (flat_map of) (sym (flat_more inside xs i x lt is))))
