-- Pieces of a topology of places, put together.
use Rattle.kit_words.proofs.Common.{◌≡◌, ℕ, Bool, true, false, refl, sym, ap, ap₂, ◌∙◌, List, ◌++◌, ◌∷◌, []}
use Rattle.kit_words.proofs.Common.{append_assoc, arith, pos, Bor, ◌-ℤ◌, Option, None, Some, codes, is_some, option_map}
use Rattle.kit_words.proofs.Common.{ints, appended_five, appended_six}
use Rattle.std.proofs.Common.{append-nil}
use Rattle.ring_machine.specs.Common.{Text}
use Rattle.grid_geometry.specs.Common.{Position, position, Segment}
use Rattle.map_text.specs.Common.{arc_text, list_text, pair_text}
use Rattle.place_text.specs.Common.{segment_ends, pair_behind}

list_two : (a b : Text) → codes "[" ++ (a ++ (codes "," ++ (b ++ codes "]"))) ≡ list_text (a ∷ b ∷ [])
list_two a b =
    ap (λ z. codes "[" ++ z) (ap (λ z. a ++ (codes "," ++ (z ++ codes "]"))) (sym (append-nil b))
    ∙ sym (append_assoc a ((codes "," ++ b) ++ []) (codes "]")))

-- the difference to the position 0 0 is the position itself
from_nothing : (p : Position) → p ≡ position (p.x -ℤ pos 0) (p.y -ℤ pos 0)
from_nothing p =
    let x : p.x ≡ p.x -ℤ pos 0 = omega (arith, ints) in
    let y : p.y ≡ p.y -ℤ pos 0 = omega (arith, ints) in
    ap₂ position x y

-- the pairs of an arc of two positions
pub arc_is : (delta : Bool) (s : Segment)
    → codes "[" ++ (pair_text s.lo ++ (codes "," ++ (pair_text (pair_behind delta s.lo s.hi) ++ codes "]"))) ≡ arc_text delta (segment_ends s)
arc_is true s =
    list_two (pair_text s.lo) (pair_text (pair_behind true s.lo s.hi))
    ∙ ap (λ p. list_text (pair_text p ∷ pair_text (pair_behind true s.lo s.hi) ∷ [])) (from_nothing s.lo)
arc_is false s = list_two (pair_text s.lo) (pair_text s.hi)

pub some_there : (o : Option (Bor (List ℕ))) → is_some o ≡ is_some (option_map (λ t. t.now) o)
some_there None = refl
some_there (Some t) = refl

-- ten pieces, one after another
pub ten : (old a b c d e f g h k m t1 t2 t3 t4 t5 t6 t7 t8 t9 new : Text)
    → t1 ≡ old ++ a → t2 ≡ t1 ++ b → t3 ≡ t2 ++ c → t4 ≡ t3 ++ d → t5 ≡ t4 ++ e → t6 ≡ t5 ++ f → t7 ≡ t6 ++ g → t8 ≡ t7 ++ h → t9 ≡ t8 ++ k → new ≡ t9 ++ m
    → new ≡ old ++ (a ++ (b ++ (c ++ (d ++ (e ++ (f ++ (g ++ (h ++ (k ++ m)))))))))
ten old a b c d e f g h k m t1 t2 t3 t4 t5 t6 t7 t8 t9 new p1 p2 p3 p4 p5 p6 p7 p8 p9 p10 =
    appended_five old a b c d (e ++ (f ++ (g ++ (h ++ (k ++ m))))) t1 t2 t3 t4 new p1 p2 p3 p4
    (appended_six t4 e f g h k m t5 t6 t7 t8 t9 new p5 p6 p7 p8 p9 p10)
