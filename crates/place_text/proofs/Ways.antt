-- The positions of a path, one after another, and lists of arcs in two parts.
use Rattle.kit_words.proofs.Common.{◌≡◌, ◌<◌, ◌+◌, ℕ, suc, Bool, true, false, ◌||◌, ◌==◌, not, refl, sym, ap, ap₂, ◌∙◌}
use Rattle.kit_words.proofs.Common.{List, [], ◌∷◌, ◌++◌, map, length, take, drop, get_or, drop-cons, arith, pos}
use Rattle.kit_words.proofs.Common.{append_assoc, ◌-ℤ◌, codes, nat_lt, nat_tests, ints, map-append, length-map}
use Rattle.kit_words.proofs.Common.{take_more, flat_map-append, Bor, Option, None, Some, option_map, unwrap_or}
use Rattle.kit_words.proofs.Common.{appended_four}
use Rattle.std.proofs.Common.{append-nil}
use Rattle.ring_machine.specs.Common.{Text}
use Rattle.grid_geometry.specs.Common.{Position, position}
use Rattle.map_text.specs.Common.{further, commas, comma_if, pair_text, pairs, differences, arc_text, list_text}
use Rattle.map_text.proofs.Common.{further_push}
use Rattle.segment_paths.specs.Common.{path_of_segment, paths_seen}
use Rattle.segment_paths.specs.declared.path.SegmentPath.{SegmentPath}
use Rattle.place_text.specs.Common.{pair_behind, path_positions, ways, behind_if}
use Rattle.place_text.proofs.Listed.{commas_next}
use Rattle.place_text.proofs.Numbered.{so_many}

-- the pairs of an arc after its first position
abbrev pub behind : Bool → Position → List Position → List Position
behind delta before [] = []
behind delta before (p ∷ ps) = pair_behind delta before p ∷ behind delta p ps

behind_true : (before : Position) (ps : List Position) → differences before ps ≡ behind true before ps
behind_true before [] = refl
behind_true before (p ∷ ps) = ap (λ z. position (p.x -ℤ before.x) (p.y -ℤ before.y) ∷ z) (behind_true p ps)

behind_false : (before : Position) (ps : List Position) → ps ≡ behind false before ps
behind_false before [] = refl
behind_false before (p ∷ ps) = ap (λ z. p ∷ z) (behind_false p ps)

-- the difference to the position 0 0 is the position itself
from_nothing : (p : Position) → position (p.x -ℤ pos 0) (p.y -ℤ pos 0) ≡ p
from_nothing p =
    let x : p.x -ℤ pos 0 ≡ p.x = omega (arith, ints) in
    let y : p.y -ℤ pos 0 ≡ p.y = omega (arith, ints) in
    ap₂ position x y

pairs_are : (delta : Bool) (p : Position) (ps : List Position) → pairs delta (p ∷ ps) ≡ p ∷ behind delta p ps
pairs_are true p ps = ap₂ (λ (q : Position) (qs : List Position). q ∷ qs) (from_nothing p) (behind_true p ps)
pairs_are false p ps = ap (λ z. p ∷ z) (behind_false p ps)

-- what comes after a position of an arc: the others, and the end of the list
abbrev pub rest_text : Bool → Position → List Position → Text
rest_text delta from ps = further (map pair_text (behind delta from ps)) ++ codes "]"

-- an arc begins with its first position
pub arc_begins : (delta : Bool) (p : Position) (ps : List Position) → arc_text delta (p ∷ ps) ≡ codes "[" ++ (pair_text p ++ rest_text delta p ps)
arc_begins delta p ps =
    ap (λ qs. list_text (map pair_text qs)) (pairs_are delta p ps)
    ∙ ap (λ z. codes "[" ++ z) (append_assoc (pair_text p) (further (map pair_text (behind delta p ps))) (codes "]"))

-- and goes on with the next one
pub rest_next : (delta : Bool) (from to : Position) (ps : List Position)
    → rest_text delta from (to ∷ ps) ≡ codes "," ++ (pair_text (pair_behind delta from to) ++ rest_text delta to ps)
rest_next delta from to ps =
    let one = pair_text (pair_behind delta from to) in
    let others = further (map pair_text (behind delta to ps)) in
    append_assoc (codes "," ++ one) others (codes "]") ∙ append_assoc (codes ",") one (others ++ codes "]")

-- ---- arcs of two kinds, one after another

-- one more
pub behind_next : (more : Bool) (ts : List Text) (t : Text) → behind_if more (ts ++ t ∷ []) ≡ behind_if more ts ++ (comma_if (more || nat_lt 0 (length ts)) ++ t)
behind_next true ts t = further_push ts t
behind_next false ts t = commas_next ts t

-- all of them
some : (n : ℕ) → not (suc n == 0) ≡ true
some n = grind (arith, nat_tests)

pub commas_both : (ts us : List Text) → commas (ts ++ us) ≡ commas ts ++ behind_if (not (length ts == 0)) us
commas_both [] us = refl
commas_both (t ∷ ts) us =
    ap (λ z. t ++ z) (flat_map-append (λ v. codes "," ++ v) ts us) ∙ sym (append_assoc t (further ts) (further us))
    ∙ ap (λ b. (t ++ further ts) ++ behind_if b us) (sym (some (length ts)))

-- ---- an arc that is appended, a position at a time

-- a comma and one position more
pub step_is : (delta : Bool) (from to : Position) (xs : List Position) (end : Position) (i : ℕ) (whole before t1 t2 : Text) → i < length xs → to ≡ get_or xs i to
    → before ++ rest_text delta from (drop i xs ++ end ∷ []) ≡ whole
    → t1 ≡ before ++ codes "," → t2 ≡ t1 ++ pair_text (pair_behind delta from to)
    → t2 ++ rest_text delta to (drop (i + 1) xs ++ end ∷ []) ≡ whole
step_is delta from to xs end i whole before t1 t2 l e h p q =
    let one = pair_text (pair_behind delta from to) in
    let rest = rest_text delta to (drop (i + 1) xs ++ end ∷ []) in
    let next : suc i ≡ i + 1 = omega arith in
    let there : drop i xs ≡ to ∷ drop (i + 1) xs = drop-cons xs i to l ∙ ap₂ (λ (z : Position) (n : ℕ). z ∷ drop n xs) (sym e) next in
    ap (λ z. z ++ rest) (q ∙ ap (λ z. z ++ one) p) ∙ append_assoc (before ++ codes ",") one rest ∙ append_assoc before (codes ",") (one ++ rest)
    ∙ ap (λ z. before ++ z) (sym (rest_next delta from to (drop (i + 1) xs ++ end ∷ [])) ∙ ap (λ ys. rest_text delta from (ys ++ end ∷ [])) (sym there)) ∙ h

-- the first position
pub begin_is : (delta : Bool) (from : Position) (ps : List Position) (old t1 t2 : Text) → t1 ≡ old ++ codes "[" → t2 ≡ t1 ++ pair_text from
    → t2 ++ rest_text delta from ps ≡ old ++ arc_text delta (from ∷ ps)
begin_is delta from ps old t1 t2 p q =
    let rest = rest_text delta from ps in
    ap (λ z. z ++ rest) (q ∙ ap (λ z. z ++ pair_text from) p) ∙ append_assoc (old ++ codes "[") (pair_text from) rest ∙ append_assoc old (codes "[") (pair_text from ++ rest)
    ∙ ap (λ z. old ++ z) (sym (arc_begins delta from ps))

-- the last position
pub end_is : (delta : Bool) (from end : Position) (before t1 t2 t3 : Text) → t1 ≡ before ++ codes "," → t2 ≡ t1 ++ pair_text (pair_behind delta from end)
    → t3 ≡ t2 ++ codes "]" → t3 ≡ before ++ rest_text delta from (end ∷ [])
end_is delta from end before t1 t2 t3 p q r =
    let one = pair_text (pair_behind delta from end) in
    r ∙ ap (λ z. z ++ codes "]") (q ∙ ap (λ z. z ++ one) p) ∙ append_assoc (before ++ codes ",") one (codes "]") ∙ append_assoc before (codes ",") (one ++ codes "]")
    ∙ ap (λ z. before ++ z) (sym (rest_next delta from end []))

-- ---- arcs that are appended behind others

pub nothing_behind : (more : Bool) (old : Text) → old ++ behind_if more [] ≡ old
nothing_behind true old = append-nil old
nothing_behind false old = append-nil old

-- one arc more, of what is seen as a path
pub way_step : {A B C : Type 0} (more : Bool) (h : C → Text) (f : B → C) (g : A → B) (xs : List A) (i : ℕ) (x : A) → i < length xs → x ≡ get_or xs i x
    → (old before mid end : Text) → before ≡ old ++ behind_if more (map h (map f (map g (take i xs)))) → mid ≡ before ++ comma_if (more || nat_lt 0 i)
    → end ≡ mid ++ h (f (g x)) → end ≡ old ++ behind_if more (map h (map f (map g (take (i + 1) xs))))
way_step more h f g xs i x l e old before mid end p q r =
    let so_far = map h (map f (map g (take i xs))) in
    let one = h (f (g x)) in
    let many : length so_far ≡ i = length-map (map f (map g (take i xs))) h ∙ length-map (map g (take i xs)) f ∙ length-map (take i xs) g ∙ so_many xs i l in
    let next : map h (map f (map g (take (i + 1) xs))) ≡ so_far ++ one ∷ [] =
    ap (λ z. map h (map f (map g z))) (take_more xs i x l ∙ ap (λ z. take i xs ++ z ∷ []) (sym e))
    ∙ ap (λ z. map h (map f z)) (map-append g (take i xs) (x ∷ [])) ∙ ap (map h) (map-append f (map g (take i xs)) (g x ∷ []))
    ∙ map-append h (map f (map g (take i xs))) (f (g x) ∷ []) in
    r ∙ ap (λ z. z ++ one) (q ∙ ap (λ z. z ++ comma_if (more || nat_lt 0 i)) p)
    ∙ append_assoc (old ++ behind_if more so_far) (comma_if (more || nat_lt 0 i)) one ∙ append_assoc old (behind_if more so_far) (comma_if (more || nat_lt 0 i) ++ one)
    ∙ ap (λ n. old ++ (behind_if more so_far ++ (comma_if (more || nat_lt 0 n) ++ one))) (sym many)
    ∙ ap (λ z. old ++ z) (sym (behind_next more so_far one) ∙ ap (behind_if more) (sym next))

-- the arc of a path, as it is seen inside
pub whole_way : {A : Type 0} (delta : Bool) (inside path : SegmentPath A) (inner : List Position) (old : Text) → inside ≡ path → inner ≡ inside.inner.items
    → old ++ arc_text delta (inside.segment.lo ∷ inner ++ inside.segment.hi ∷ []) ≡ old ++ arc_text delta (path_positions (path_of_segment path))
whole_way {A = A} delta inside path inner old same is_inner =
    ap (λ (z : List Position). old ++ arc_text delta (inside.segment.lo ∷ z ++ inside.segment.hi ∷ [])) is_inner
    ∙ ap (λ (p : SegmentPath A). old ++ arc_text delta (path_positions (path_of_segment p))) same

-- ---- the list of all arcs

-- the paths that are reported, and none where they are not
pub told_is : {A : Type 0} (paths : Option (Bor (List (SegmentPath A)))) (none : Bor (List (SegmentPath A))) → none.now ≡ []
    → map path_positions (paths_seen (unwrap_or paths none).now) ≡ ways (option_map (λ ps. paths_seen ps.now) paths)
told_is None none e = ap (λ ps. map path_positions (paths_seen ps)) e
told_is (Some paths) none e = refl

-- the arcs of both kinds between brackets
pub arcs_both : {A : Type 0} (arc : A → Text) (xs ys zs : List A) (more : Bool) (old t1 t2 t3 new : Text)
    → more ≡ not (length xs == 0) → zs ≡ ys
    → t1 ≡ old ++ codes "[" → t2 ≡ t1 ++ commas (map arc xs) → t3 ≡ t2 ++ behind_if more (map arc zs) → new ≡ t3 ++ codes "]"
    → new ≡ old ++ list_text (map arc (xs ++ ys))
arcs_both arc xs ys zs more old t1 t2 t3 new is_more same p q r s =
    let first = commas (map arc xs) in
    let second = behind_if (not (length (map arc xs) == 0)) (map arc ys) in
    let r' : t3 ≡ t2 ++ second =
    r ∙ ap₂ (λ (b : Bool) (z : List _). t2 ++ behind_if b (map arc z)) (is_more ∙ ap (λ n. not (n == 0)) (sym (length-map xs arc))) same in
    appended_four old (codes "[") first second (codes "]") t1 t2 t3 new p q r' s
    ∙ ap (λ z. old ++ (codes "[" ++ z)) (sym (append_assoc first second (codes "]")))
    ∙ ap (λ z. old ++ (codes "[" ++ (z ++ codes "]"))) (sym (commas_both (map arc xs) (map arc ys)) ∙ ap commas (sym (map-append arc xs ys)))
