-- What was laid and made room for is ready to be put into the frame.
use Rattle.kit_words.proofs.Common.{◌≡◌, ◌<◌, ℕ, true, sym, ap, ◌∙◌, subst, List, map, Option, Some, is_some, Contains}
use Rattle.kit_words.proofs.Common.{Vec, slice_get, flat_map, AllByRecursion, false≢true}
use Rattle.grid_geometry.specs.Common.{Position}
use Rattle.ring_machine.specs.Common.{Feature, rings, are_distinct}
use Rattle.ring_machine.proofs.Common.{In, contains_in, in_contains, slice-in}
use Rattle.arc_tables.specs.Common.{Rings}
use Rattle.map_frame.specs.Common.{IsNumberOf, feature_numbers, Framed, ArePlaced}
use Rattle.segment_index.specs.Common.{SegmentSet}
use Rattle.feature_exchange.specs.Common.{AreAdded, seen, Holds, coming, IsReady, FitsForm, all_numbered, Stored}
use Rattle.feature_exchange.specs.Common.{Change}
use Rattle.feature_exchange.proofs.Asked.{AreFor, for_coming, for_numbers, for_own, for_below, for_fits}
use Rattle.map_frame.proofs.Common.{of_in}

pub in_of : (xs : List ℕ) (r i : ℕ) → slice_get xs i ≡ Some r → In r xs
in_of xs r i e = slice-in xs i r e

module _ {A : Type 0} (s : Stored) (held : SegmentSet) (h : Holds s held) (frame : Framed) (same : frame.doc ≡ s.frame)
    (placed : ArePlaced frame.places frame.next frame.doc) (cs : List (Change A)) (ls : List (Vec (Vec ℕ A) A))
    (below : AllByRecursion (λ c. c.number < frame.next) cs) (apart : are_distinct (map (λ c. c.number) cs) ≡ true)
    (m : Rings) (numbers : List ℕ) (added : AreAdded s.rings m numbers)
    (listed : numbers ≡ flat_map (λ l. flat_map (λ p. p) (feature_numbers l)) ls)
    (g : ℕ → List Position) (at : AreFor g cs ls) (fits : (c : ℕ × Option Feature) → In c (seen cs) → FitsForm c.1)
    (room : (r : ℕ) → IsNumberOf numbers r → r < frame.room) where
  pub came_is : coming (all_numbered cs ls) ≡ numbers
  came_is = for_coming g cs ls at ∙ sym listed

  in_numbers : (r : ℕ) → Contains (coming (all_numbered cs ls)) r → In r numbers
  in_numbers r c = subst (In r) came_is (contains_in (coming (all_numbered cs ls)) r c)

  pub ready_of : IsReady frame (all_numbered cs ls)
  ready_of = record {
    placed = placed;
    below = for_below frame.next cs ls below;
    apart = ap are_distinct (for_numbers g cs ls at) ∙ apart;
    own = for_own cs ls;
    fits = for_fits g cs ls at fits;
    once = ap are_distinct (ap rings same) ∙ h.whole.once;
    different = ap are_distinct came_is ∙ added.different;
    new = λ r c o.
        false≢true (sym (ap is_some (added.free r (in_contains numbers r (in_numbers r c))))
        ∙ (h.whole.named r).0 (subst (λ z. Contains (rings z) r) same o));
    room = λ r c. room r (of_in numbers r (in_numbers r c));
  }
