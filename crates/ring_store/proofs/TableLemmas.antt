-- Tables after what came in went again, and sets of segments after an edit.
use Rattle.kit_words.proofs.Common.{ℕ, ◌≡◌, Bool, true, false, refl, sym, ap, ◌∙◌, List, [], ◌∷◌, ◌||◌, ◌&&◌, None, not}
use Rattle.kit_words.proofs.Common.{◌≢◌, Option, Some, IfNone, IsSome, IsNone, ◌↔◌, same_map, nat_cmp-IsAntisymmetric, nat_cmp_total, ℕ_discrete}
use Rattle.std.specs.FinMap as table
use Rattle.std.specs.FinSet as set
use Rattle.grid_geometry.specs.Common.{Position, Segment}
use Rattle.vertex_index.specs.Common.{Placement, IsOccupied}
use Rattle.segment_index.specs.Common.{SegmentSet, AreAmong, segment_is, has}
use Rattle.segment_index.proofs.Common.{segment_total, remove_inserted}
use Rattle.ring_store.specs.Common.{Exchanges, GainsSegments, Drops}
use Rattle.ring_store.proofs.Places.{insert_other, remove_here, remove_other}

-- where a vertex stands a look finds one
pub found_there : (places : Placement) (p : Position) (o : Option ℕ) → IsOccupied places p
    → IfNone o ((k : ℕ) → table.get places k ≢ Some p) → IsSome o
found_there places p None here none = absurd (none here.0 here.1)
found_there places p (Some k) here none = refl

-- of two positions that differ there is a segment
pub made_there : (a b : Position) (o : Option Segment) → a ≢ b → (IsNone o ↔ (a ≡ b)) → IsSome o
made_there a b None apart none = absurd (apart (none.0 refl))
made_there a b (Some s) apart none = refl

-- a vertex that came in and went again
pub place_back : (places : Placement) (k : ℕ) (q : Position) → table.get places k ≡ None
    → table.remove (table.insert places k q) k ≡ places
place_back places k q new =
    same_map nat_cmp_total nat_cmp-IsAntisymmetric (table.remove (table.insert places k q) k) places (λ x. by x (ℕ_discrete x k))
  where
    by : (x : ℕ) → Dec (x ≡ k) → table.get (table.remove (table.insert places k q) k) x ≡ table.get places x
    by x (yes e) =
        ap (table.get (table.remove (table.insert places k q) k)) e ∙ remove_here (table.insert places k q) k
        ∙ sym new ∙ ap (table.get places) (sym e)
    by x (no f) = remove_other (table.insert places k q) k x f ∙ insert_other places k q x f

-- some came, and one of the others went
pub one_went : (old mid new : SegmentSet) (came : List Segment) (s : Segment)
    → GainsSegments old came mid → new ≡ set.remove mid s → Exchanges old came (s ∷ []) new
one_went old mid new came s h e t =
    ap (λ z. set.contains z t) e
    ∙ set.contains-remove segment_total mid s t
    ∙ ap (λ y. not (segment_is t s) && y) (h t)
    ∙ by (segment_is t s) (set.contains old t || has came t)
  where
    by : (x y : Bool) → (not x && y) ≡ (y && not (x || false))
    by true true = refl
    by true false = refl
    by false true = refl
    by false false = refl

-- one came, and some went
pub one_came : (old mid new : SegmentSet) (s : Segment) (went : List Segment)
    → mid ≡ set.insert old s
    → Drops mid went new → Exchanges old (s ∷ []) went new
one_came old mid new s went e h t =
    h t
    ∙ ap (λ y. y && not (has went t)) (ap (λ z. set.contains z t) e ∙ set.contains-insert segment_total old s t ∙ by (segment_is t s) (set.contains old t))
  where
    by : (x y : Bool) → (x || y) ≡ (y || (x || false))
    by true true = refl
    by true false = refl
    by false true = refl
    by false false = refl

-- what was held still is, where one came
pub still_among : (old mid : SegmentSet) (s : Segment) (there : List Segment) → mid ≡ set.insert old s
    → AreAmong old there → AreAmong mid there
still_among old mid s there e h t i =
    ap (λ z. set.contains z t) e ∙ set.contains-insert segment_total old s t ∙ by (segment_is t s) (h t i)
  where
    by : (x : Bool) → set.contains old t ≡ true → (x || set.contains old t) ≡ true
    by true f = refl
    by false f = f

-- one that came and went
pub one_back : (old mid new : SegmentSet) (s : Segment) → set.contains old s ≡ false
    → mid ≡ set.insert old s → new ≡ set.remove mid s → new ≡ old
one_back old mid new s fresh e f = f ∙ ap (λ z. set.remove z s) e ∙ remove_inserted old s fresh
