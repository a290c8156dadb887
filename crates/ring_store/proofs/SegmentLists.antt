-- Which segments a list has, and a list that has each once.
use Rattle.kit_words.proofs.Common.{◌≡◌, ◌≤◌, ◌+◌, Bool, true, false, refl, sym, ap, ap₂, ◌∙◌, cond, List, [], ◌∷◌}
use Rattle.kit_words.proofs.Common.{◌||◌, ◌&&◌, arith, list_any, fold}
use Rattle.grid_geometry.specs.Common.{Segment, segment_eq}
use Rattle.ring_machine.specs.Common.{add_segment}
use Rattle.ring_machine.proofs.Common.{position_eq-sym, any_alike}
use Rattle.segment_index.specs.Common.{AreSingle, segment_is, has, times_in}
use Rattle.segment_index.proofs.Common.{segment_eq-is, same_segment, times-none}

-- ---- the two tests of equality

pub segment_is-eq : (s t : Segment) → segment_is s t ≡ segment_eq s t
segment_is-eq s t =
    sym (segment_eq-is s t) ∙ ap₂ (λ a b. a && b) (position_eq-sym t.lo s.lo) (position_eq-sym t.hi s.hi)

pub has-eq : (ss : List Segment) (t : Segment) → has ss t ≡ list_any (segment_eq t) ss
has-eq ss t = any_alike (segment_is t) (segment_eq t) (segment_is-eq t) ss

-- ---- each segment once

pub or_nothing : (b : Bool) → b ≡ (b || false)
or_nothing true = refl
or_nothing false = refl

has_added : (ss : List Segment) (s t : Segment)
    → has (add_segment ss s) t ≡ (segment_is t s || has ss t)
has_added ss s t = by (list_any (segment_eq s) ss) refl
  where
    known : has ss s ≡ true → (b : Bool) → segment_is t s ≡ b → has ss t ≡ (b || has ss t)
    known h true e = ap (has ss) (same_segment t s e) ∙ h
    known h false e = refl

    by : (b : Bool) → list_any (segment_eq s) ss ≡ b
        → has (cond b ss (s ∷ ss)) t ≡ (segment_is t s || has ss t)
    by true e = known (has-eq ss s ∙ e) (segment_is t s) refl
    by false e = refl

single_added : (ss : List Segment) (s : Segment) → AreSingle ss → AreSingle (add_segment ss s)
single_added ss s h = by (list_any (segment_eq s) ss) refl
  where
    one : (t : Segment) → has ss s ≡ false → (b : Bool) → segment_is t s ≡ b
        → cond b 1 0 + times_in ss t ≤ 1
    one t e true f = omega (arith, times-none ss t (ap (has ss) (same_segment t s f) ∙ e))
    one t e false f = omega (arith, h t)

    by : (b : Bool) → list_any (segment_eq s) ss ≡ b → AreSingle (cond b ss (s ∷ ss))
    by true e = h
    by false e = λ t. one t (has-eq ss s ∙ e) (segment_is t s) refl

pub has_all : (ss xs : List Segment) (t : Segment)
    → has (fold add_segment ss xs) t ≡ (has ss t || has xs t)
has_all ss [] t = or_nothing (has ss t)
has_all ss (x ∷ xs) t =
    has_all (add_segment ss x) xs t ∙ ap (λ b. b || has xs t) (has_added ss x t)
    ∙ turned (segment_is t x) (has ss t) (has xs t)
  where
    turned : (a b c : Bool) → ((a || b) || c) ≡ (b || (a || c))
    turned true true c = refl
    turned true false c = refl
    turned false b c = refl

pub single_all : (ss xs : List Segment) → AreSingle ss → AreSingle (fold add_segment ss xs)
single_all ss [] h = h
single_all ss (x ∷ xs) h = single_all (add_segment ss x) xs (single_added ss x h)
