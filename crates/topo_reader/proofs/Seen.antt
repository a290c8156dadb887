-- The positions that were seen, as a set in order has them.
use Rattle.kit_words.proofs.Common.{◌≡◌, ℕ, ◌+◌, ◌<◌, length, drop, get_or, Bool, true, false, cond, List, [], ◌∷◌}
use Rattle.kit_words.proofs.Common.{◌++◌, refl, sym, ap, ap₂, ◌∙◌, not, ◌||◌, arith, Some}
use Rattle.kit_words.proofs.Common.{list_any, int_cmp, tied_then, BTreeSet, contains, Updates, list_any-append}
use Rattle.grid_geometry.specs.Common.{Position, position_cmp, position_eq}
use Rattle.ring_machine.specs.Common.{has}
use Rattle.ring_machine.proofs.Common.{position_eq-sym}
use Rattle.topo_outline.proofs.Common.{tail_at}
use Rattle.topo_reader.specs.Common.{first_repeat}

-- the order finds a position where the test of equality does
pub has_by_order : (s : BTreeSet Position) (q : Position) → contains position_cmp s q ≡ has s.keys q
has_by_order s q = sym (λ i. list_any (λ k. tied_then (int_cmp q.x k.x) (int_cmp q.y k.y) i) s.keys)

has_last : (ps : List Position) (p q : Position) → has (ps ++ p ∷ []) q ≡ (has ps q || (position_eq q p || false))
has_last ps p q = list_any-append (position_eq q) ps (p ∷ [])

either : (a b : Bool) → cond a true b ≡ (b || (a || false))
either a b = grind arith

pub noted : (s n : BTreeSet Position) (p : Position) → Updates position_cmp s n p true → (q : Position) → has n.keys q ≡ has (s.keys ++ p ∷ []) q
noted s n p u = λ q.
    sym (has_by_order n q) ∙ u.0 q
    ∙ ap₂ (λ a b. cond a true b) (sym (tied_then (int_cmp p.x q.x) (int_cmp p.y q.y)) ∙ position_eq-sym p q) (has_by_order s q)
    ∙ either (position_eq q p) (has s.keys q) ∙ sym (has_last s.keys p q)

pub is_new : (b : Bool) (s : BTreeSet Position) (p : Position) → b ≡ not (contains position_cmp s p) → b ≡ not (has s.keys p)
is_new b s p added = added ∙ ap not (has_by_order s p)

-- lists of the same positions lead to the same repeat
pub same_repeat : (a b ps : List Position) → ((q : Position) → has a q ≡ has b q) → first_repeat a ps ≡ first_repeat b ps
unfolding first_repeat
same_repeat a b [] same = refl
same_repeat a b (p ∷ ps) same = ap₂ (λ y z. cond y (Some p) z) (same p) (same_repeat (a ++ p ∷ []) (b ++ p ∷ []) ps (λ q. has_last a p q ∙ ap (λ y. y || (position_eq q p || false)) (same q) ∙ sym (has_last b p q)))

was_false : (b h : Bool) → b ≡ true → b ≡ not h → h ≡ false
was_false b h is new = grind arith

-- a position that is new is passed, and is among those that were seen
pub repeat_turn : (seen more ps : List Position) (i : ℕ) (p : Position) (b : Bool) → i < length ps → p ≡ get_or ps i p → b ≡ true → b ≡ not (has seen p) → ((q : Position) → has more q ≡ has (seen ++ p ∷ []) q) →
    first_repeat more (drop (i + 1) ps) ≡ first_repeat seen (drop i ps)
unfolding first_repeat
repeat_turn seen more ps i p b lt at is new kept =
    same_repeat more (seen ++ p ∷ []) (drop (i + 1) ps) kept
    ∙ sym (ap (first_repeat seen) (tail_at p ps i lt at) ∙ ap (λ h. cond h (Some p) (first_repeat (seen ++ p ∷ []) (drop (i + 1) ps))) (was_false b (has seen p) is new))

was_true : (b h : Bool) → b ≡ false → b ≡ not h → h ≡ true
was_true b h is new = grind arith

-- a position that is not new is the first that stood before
pub repeat_found : (seen ps : List Position) (i : ℕ) (p : Position) (b : Bool) → i < length ps → p ≡ get_or ps i p → b ≡ false → b ≡ not (has seen p) → Some p ≡ first_repeat seen (drop i ps)
unfolding first_repeat
repeat_found seen ps i p b lt at is new =
    sym (ap (first_repeat seen) (tail_at p ps i lt at) ∙ ap (λ h. cond h (Some p) (first_repeat (seen ++ p ∷ []) (drop (i + 1) ps))) (was_true b (has seen p) is new))
