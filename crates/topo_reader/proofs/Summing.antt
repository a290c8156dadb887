-- Reading the positions of an arc one after another, as the loop does.
use Rattle.kit_words.proofs.Common.{◌≡◌, List, [], ◌∷◌, ◌++◌, refl, sym, ◌∙◌, ℤ, Bool, Result, Ok, append-nil}
use Rattle.json_spans.specs.Common.{Node}
use Rattle.grid_geometry.specs.Common.{Position}
use Rattle.topo_outline.specs.Common.{Fails, Fault}
use Rattle.topo_outline.specs.declared.fault.OpenFault.{OpenFault}
use Rattle.topo_outline.proofs.Common.{with_front, carry, regroup}
use Rattle.topo_reader.specs.Common.{coordinate, pair_of, position, positions, before_next}

pub turn : (delta : Bool) (before : Position) (front : List Position) (p : Position) (n : Node) (ns left : List Node) (whole : Result (List Position) Fault) → left ≡ n ∷ ns → position before n ≡ Ok p → with_front front (positions delta before left) ≡ whole →
    with_front (front ++ p ∷ []) (positions delta (before_next delta p) ns) ≡ whole
unfolding positions
turn delta before front p n ns left whole e is h = sym (regroup front p (positions delta (before_next delta p) ns)) ∙ rw (e, is) at h

pub end : (delta : Bool) (before : Position) (front : List Position) (left : List Node) (whole : Result (List Position) Fault) → left ≡ [] → with_front front (positions delta before left) ≡ whole → whole ≡ Ok front
unfolding positions
end delta before front left whole e h = sym (rw (e, append-nil front) at h)

pub fails_stop : (o : OpenFault) (delta : Bool) (before : Position) (front : List Position) (n : Node) (ns left : List Node) (whole : Result (List Position) Fault) → left ≡ n ∷ ns → Fails o (position before n) → with_front front (positions delta before left) ≡ whole → Fails o whole
unfolding positions
fails_stop o delta before front n ns left whole e is h = carry o (position before n) whole (λ x fx. sym (rw (e, fx) at h)) is

-- where y has a fault, and x none, the position has that of y
pub pair_fails : (o : OpenFault) (before : Position) (x y sum : ℤ) (a b : Node) → x ≡ before.x → y ≡ before.y →
    coordinate x a ≡ Ok sum → Fails o (coordinate y b) → Fails o (pair_of before a b)
pair_fails o before x y sum a b ex ey ok h = carry o (coordinate y b) (pair_of before a b) (λ f fy. rw (rw ex at ok, rw ey at fy) refl) h
