-- The texts of rings and of polygons, piece by piece.
use Rattle.kit_words.proofs.Common.{◌≡◌, ℕ, zero, suc, ◌+◌, ◌<◌, ◌++◌, ◌∙◌, ◌∷◌, [], ◌==◌, Bool, true, false, if◌then◌else◌, List, Vec, length, map, take, get_or}
use Rattle.kit_words.proofs.Common.{ap, sym, refl, arith, codes, nat_lt, append_assoc, append-nil, appended_five, appended_six, map-append, flat_map-append}
use Rattle.kit_words.proofs.Common.{mapped_more, length-map, length-take-le, list_all, reverse, and_parts}
use Rattle.grid_geometry.specs.Common.{Position}
use Rattle.ring_machine.specs.Common.{Text}
use Rattle.topo_reader.specs.Common.{positions_of}
use Rattle.map_text.specs.Common.{comma_if, commas, further, list_text}
use Rattle.geo_features.specs.Rings.{closed, directed, is_turned, polygon_text, ring_text}
use Rattle.geo_features.specs.Style.{Style}
use Rattle.geo_features.proofs.Listed.{list_next, not_zero}

-- ---- a position

pub position_put : (x y old a b c d new : Text) → a ≡ old ++ codes "[" → b ≡ a ++ x → c ≡ b ++ codes "," → d ≡ c ++ y → new ≡ d ++ codes "]"
    → new ≡ old ++ list_text (x ∷ y ∷ [])
position_put x y old a b c d new e f g h i =
    appended_five old (codes "[") x (codes ",") y (codes "]") a b c d new e f g h i
    ∙ ap (λ z. old ++ (codes "[" ++ z)) (sym (append_assoc x (codes "," ++ y) (codes "]"))
    ∙ ap (λ z. (x ++ z) ++ codes "]") (sym (append-nil (codes "," ++ y))))

-- ---- a ring

further_last : (f : Position → Text) (p : Position) (qs : List Position) → further (map f (qs ++ p ∷ [])) ≡ further (map f qs) ++ (codes "," ++ f p)
further_last f p qs =
    ap further (map-append f qs (p ∷ [])) ∙ flat_map-append (λ t. codes "," ++ t) (map f qs) (f p ∷ [])
    ∙ ap (λ z. further (map f qs) ++ z) (append-nil (codes "," ++ f p))

pub ring_put : (f : Position → Text) (p : Position) (qs : List Position) (old a b c d e new : Text)
    → a ≡ old ++ codes "[" → b ≡ a ++ f p → c ≡ b ++ further (map f qs) → d ≡ c ++ codes "," → e ≡ d ++ f p → new ≡ e ++ codes "]"
    → new ≡ old ++ list_text (map f (p ∷ qs ++ p ∷ []))
ring_put f p qs old a b c d e new r s t u v w =
    appended_six old (codes "[") (f p) (further (map f qs)) (codes ",") (f p) (codes "]") a b c d e new r s t u v w
    ∙ ap (λ z. old ++ (codes "[" ++ z))
    (ap (λ z. f p ++ z) (sym (append_assoc (further (map f qs)) (codes "," ++ f p) (codes "]")))
    ∙ sym (append_assoc (f p) (further (map f qs) ++ (codes "," ++ f p)) (codes "]"))
    ∙ ap (λ z. (f p ++ z) ++ codes "]") (sym (further_last f p qs)))

closed_by : (t : Bool) (p : Position) (ps : List Position) → closed (if t then (p ∷ reverse ps) else (p ∷ ps)) ≡ p ∷ (if t then reverse ps else ps) ++ p ∷ []
closed_by true p ps = refl
closed_by false p ps = refl

-- a ring as it is written
pub ring_is_closed : (s : Style) (is_outer : Bool) (p : Position) (ps ring : List Position) (t : Bool) → p ∷ ps ≡ ring → t ≡ is_turned s is_outer ring
    → p ∷ (if t then reverse ps else ps) ++ p ∷ [] ≡ closed (directed s is_outer ring)
ring_is_closed s is_outer p ps ring t e is = sym (closed_by t p ps) ∙ rw (← e, is, ← e) refl

-- ---- a polygon

abbrev pub ring_parts : Style → List (List Position) → List Text
ring_parts s [] = []
ring_parts s (outer ∷ holes) = ring_text s true outer ∷ map (ring_text s false) holes

pub polygon_is : (s : Style) (rings : List (List Position)) → list_text (ring_parts s rings) ≡ polygon_text s rings
polygon_is s [] = refl
polygon_is s (outer ∷ holes) = refl

parts_push : (s : Style) (rings : List (List Position)) (ring : List Position) → ring_parts s (rings ++ ring ∷ []) ≡ ring_parts s rings ++ ring_text s (length rings == 0) ring ∷ []
parts_push s [] ring = refl
parts_push s (outer ∷ holes) ring =
    ap (λ z. ring_text s true outer ∷ z) (map-append (ring_text s false) holes (ring ∷ []))
    ∙ ap (λ b. (ring_text s true outer ∷ map (ring_text s false) holes) ++ ring_text s b ring ∷ []) (sym (not_zero (length holes)))

so_many : {A B : Type 0} (v : A → B) (xs : List A) (i : ℕ) → i < length xs → length (map v (take i xs)) ≡ i
so_many v xs i lt = length-map (take i xs) v ∙ length-take-le i xs (omega arith)

parts_long : (s : Style) (rings : List (List Position)) → length (ring_parts s rings) ≡ length rings
parts_long s [] = refl
parts_long s (outer ∷ holes) = ap suc (length-map holes (ring_text s false))

pub rings_next : {A : Type 0} (s : Style) (rings : List (Vec Position A)) (i : ℕ) (ring : Vec Position A) (b is_outer : Bool) (o now mid end : Text)
    → i < length rings → ring ≡ get_or rings i ring → b ≡ nat_lt 0 i → is_outer ≡ (i == 0)
    → now ≡ o ++ commas (ring_parts s (map positions_of (take i rings))) → mid ≡ now ++ comma_if b → end ≡ mid ++ ring_text s is_outer ring.items
    → end ≡ o ++ commas (ring_parts s (map positions_of (take (i + 1) rings)))
rings_next s rings i ring b is_outer o now mid end lt is more outer p q r =
    let before = map positions_of (take i rings) in
    let count : length before ≡ i = so_many positions_of rings i lt in
    list_next (ring_parts s before) (ring_text s is_outer ring.items) b o now mid end (more ∙ ap (nat_lt 0) (sym (parts_long s before ∙ count))) p q r
    ∙ ap (λ z. o ++ commas (ring_parts s before ++ ring_text s z ring.items ∷ [])) (outer ∙ ap (λ k. k == 0) (sym count))
    ∙ ap (λ z. o ++ commas z) (sym (parts_push s before ring.items) ∙ ap (ring_parts s) (sym (mapped_more positions_of rings i ring lt is)))

-- ---- what holds of each of a list

pub all_there : {A : Type 0} (test : A → Bool) (xs : List A) (i : ℕ) (x : A) → list_all test xs ≡ true → i < length xs → x ≡ get_or xs i x → test x ≡ true
all_there test [] i x h lt is = absurd (omega arith)
all_there test (y ∷ ys) zero x h lt is = ap test is ∙ (and_parts (test y) (list_all test ys) h).0
all_there test (y ∷ ys) (suc i) x h lt is = all_there test ys i x (and_parts (test y) (list_all test ys) h).1 (omega arith) is
