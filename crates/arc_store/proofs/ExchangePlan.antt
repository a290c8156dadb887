-- The plan of an exchange: what is asked of the tables, and how many positions there are then.
use Rattle.kit_words.proofs.Common.{◌≡◌, ◌≤◌, ◌<◌, ◌+◌, ◌-◌, ℕ, true, sym, ap, ap₂, ◌∙◌, subst, arith, List, map}
use Rattle.kit_words.proofs.Common.{Option, IfSome, AllByRecursion}
use Rattle.ring_machine.specs.Common.{Document, size, are_distinct}
use Rattle.edit_records.specs.Common.{Fills, had_before, has_place, numbers_placed, IsMap, Record, weights}
use Rattle.vertex_index.specs.Common.{Placement}
use Rattle.segment_index.specs.Common.{SegmentSet}
use Rattle.segment_index.specs.Frames.{Frame as GridFrame}
use Rattle.arc_tables.specs.Common.{Rings}
use Rattle.topo_outline.specs.Common.{KeepsTexts}
use Rattle.map_frame.specs.Common.{Framed, ArePlaced}
use Rattle.feature_exchange.specs.Common.{seen, places_after, next_after, number_after, MayGrow, changed_as, stored}
use Rattle.feature_exchange.specs.Common.{ring_under, stored_document}
use Rattle.feature_exchange.specs.declared.change.Change.{Change}
use Rattle.feature_exchange.proofs.ExchangedWhole.{whole_size}
use Rattle.arc_store.specs.Common.{asked_document, exchanged_state, MayExchange, IsKept, state_of, State}
use Rattle.arc_store.proofs.ChangesCounted.{weights_asked, sizes_after, had_few, below_seen, apart_numbers}
use Rattle.arc_store.proofs.PlacedMap.{placed-in_rings, fills_after}

module _ {A : Type 0} {frame : Framed} {rings : Rings} {places : Placement} {held : SegmentSet} {positions : ℕ}
    (kept : IsKept frame rings places held positions) {l : ℕ} {cells : Option GridFrame} {o : Option Record} {now : State}
    (is : state_of frame rings places l cells o ≡ now) (placed : ArePlaced frame.places frame.next frame.doc)
    {after : Option ℕ} (cs : List (Change A)) (may : MayExchange after (seen cs) now) where
  abbrev d : Document
  d = stored_document (stored frame rings places)

  pub apart_tables : are_distinct (map (λ c. c.number) cs) ≡ true
  apart_tables = apart_numbers cs may.apart

  pub below_tables : AllByRecursion (λ c. c.number < next_after after frame) cs
  below_tables =
      subst (λ k. AllByRecursion (λ c. c.number < k) cs) (sym (ap (λ (s : State). number_after after s.next) is))
      (below_seen (number_after after now.next) cs may.below)

  pub grows_tables : IfSome after (MayGrow d frame.next)
  grows_tables = subst (λ (s : State). IfSome after (MayGrow s.doc s.next)) (sym is) may.grows

  pub map_tables : IsMap (changed_as after frame cs d)
  map_tables = subst (λ (s : State). IsMap (asked_document after (seen cs) s)) (sym is) may.is_map

  pub texts_tables : KeepsTexts (changed_as after frame cs d)
  texts_tables = subst (λ (s : State). KeepsTexts (asked_document after (seen cs) s)) (sym is) may.texts

  pub came_few : weights (seen cs) ≤ 4000000
  came_few =
      let few = whole_size frame rings places placed after grows_tables cs below_tables apart_tables map_tables in
      omega (arith, weights_asked cs, few)

  -- ---- when they are exchanged

  module _ (frame' : Framed) (placed' : ArePlaced frame'.places frame'.next frame'.doc)
      (next' : frame'.next ≡ next_after after frame) (places' : frame'.places ≡ places_after after frame) where
    alone : are_distinct (numbers_placed (places_after after frame)) ≡ true
    alone = ap (λ t. are_distinct (numbers_placed t)) (sym places') ∙ placed'.alone

    come : (n : ℕ) → n < next_after after frame → has_place (places_after after frame) n ≡ true
    come n l = ap (λ t. has_place t n) (sym places') ∙ placed'.placed n (subst (λ k. n < k) (sym next') l)

    fills : Fills (places_after after frame) d
    fills = fills_after after frame.places frame.next d (placed-in_rings (ring_under (stored frame rings places)) frame.places frame.next frame.doc placed)

    sizes : size (changed_as after frame cs d) + weights (had_before d (seen cs)) ≡ size d + weights (seen cs)
    sizes = sizes_after (places_after after frame) (next_after after frame) cs d fills alone come apart_tables below_tables

    pub gone_few : weights (had_before d (seen cs)) ≤ positions
    gone_few =
        let h = had_few (places_after after frame) (next_after after frame) cs d fills alone come apart_tables below_tables in
        omega (arith, h, kept.sized)

    pub gone_bounded : weights (had_before d (seen cs)) ≤ 4000000
    gone_bounded = omega (arith, gone_few, kept.sized, kept.holds.small)

    pub positions_after : (came gone : ℕ) → came ≡ weights (seen cs) → gone ≡ weights (had_before d (seen cs))
        → positions + came - gone ≡ size (changed_as after frame cs d)
    positions_after came gone e f = omega (arith, e, f, sizes, kept.sized, gone_few)

    pub state_after : (doc' : Document) (l' : ℕ) (cells' : Option GridFrame) → doc' ≡ changed_as after frame cs d → l' ≡ l → cells' ≡ cells
        → record { doc = doc'; next = frame'.next; places = frame'.places; tests = l'; cells = cells'; last = o } ≡ exchanged_state after (seen cs) now
    state_after doc' l' cells' e f h =
        ap₂ (λ x y. record { doc = x; next = y; places = frame'.places; tests = l'; cells = cells'; last = o }) e next'
        ∙ ap₂ (λ x y. record { doc = changed_as after frame cs d; next = next_after after frame; places = x; tests = y; cells = cells'; last = o }) places' f
        ∙ ap (λ x. record { doc = changed_as after frame cs d; next = next_after after frame; places = places_after after frame; tests = l; cells = x; last = o }) h
        ∙ ap (λ (s : State). exchanged_state after (seen cs) s) is
