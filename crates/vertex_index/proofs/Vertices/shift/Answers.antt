use Rattle.kit_words.proofs.Common.{◌≡◌, ◌∙◌, ℕ, List, Some, None, cond, sym, ap, refl, is_some, rules, [], ◌∷◌, ◌++◌}
use Rattle.kit_words.proofs.Common.{set, slice_get, IfSome, subst, swap_remove, option_copied_mut}
use Rattle.std.specs.FinMap as map
use Rattle.indexmap.specs.Entry.{map_with_value}
use Rattle.indexmap.specs.IndexMap.{with_entries}
use Rattle.grid_geometry.specs.Common.{Position, position_eq}
use Rattle.indexmap.proofs.CallerLemmas.{insert_entry-new}
use Rattle.vertex_index.specs.Common.{Slot, Mirrors, placement_of, positions, in_slot, key_in, slot_at, AreInPlace}
use Rattle.vertex_index.proofs.SlotLemmas.{pos_here, is_held, set_slot, other_slots, set_positions}
use Rattle.vertex_index.proofs.PlaceLemmas.{of_some, gone_from, stands_before, exchanged}
use Rattle.vertex_index.proofs.PlacementLemmas.{placement-changed, get-inserted}
use Rattle.vertex_index.proofs.EntryLemmas.{no_entry, of_entry}
use Rattle.vertex_index.proofs.MirrorLemmas.{slot_has, Mirrors-shift, set_here, set_others}
use Rattle.vertex_index.proofs.MirrorLemmas.{refuses, accepts, free, IsSome-copied_mut}
use Rattle.vertex_index.proofs.Vertices.shift.Given.{Over}
use Rattle.vertex_index.proofs.Vertices.shift.Goals as goal

-- ---- where a vertex stands at the position, and where none does

pub returns-in-Ok-Occupied-clause-occupied : goal.returns-in-Ok-Occupied-clause-occupied
returns-in-Ok-Occupied-clause-occupied g c =
    refuses _ _ c.self.invariant.0 _ c.self.view_is c.args.q
    (of_entry _ _ c.in-Ok-Occupied.field-0 c.in-Ok-Occupied._held c.in-Ok-Occupied.field-0-is c.in-Ok-Occupied.ensures.found).0 refl

pub returns-in-Err-clause-occupied : goal.returns-in-Err-clause-occupied
returns-in-Err-clause-occupied g c =
    accepts _ _ c.self.invariant.0 _ c.self.view_is c.args.q c.in-Err.ensures.absent (λ is. cc)

no_key_here : (g : Over) (c : goal.After-swap_remove_index g) → key_in c.self.inside.keys.entries c.args.q ≡ None
no_key_here g c = no_entry _ _ c.in-Ok-Vacant.field-0 c.in-Ok-Vacant.room c.in-Ok-Vacant.field-0-is c.in-Ok-Vacant.ensures.found

pub returns-clause-occupied : goal.returns-clause-occupied
returns-clause-occupied g c =
    accepts _ _ c.self.invariant.0 _ c.self.view_is c.args.q (no_key_here g c) (λ is. cc)

pub returns-clause-new : goal.returns-clause-new
returns-clause-new g c = free _ _ c.self.invariant.0 _ c.self.view_is c.args.q (no_key_here g c)

-- ---- the position in the place of the other

pub unwrap-slot-requires : goal.unwrap-slot-requires
unwrap-slot-requires g c =
    let there = slot_has _ _ c.self.invariant.0 _ c.self.view_is c.args.k _ c.index-at.ensures in
    IsSome-copied_mut _ (ap is_some c.get_mut.ensures.value ∙ is_held _ c.index-at.result ∙ ap is_some there ∙ c.requires)

was : (g : Over) (c : goal.After-swap_remove_index g)
    → slot_at c.self.inside.slots.slots c.index-at.result ≡ Some c.unwrap-slot.result.now
was g c = sym c.get_mut.ensures.value ∙ ap option_copied_mut c.unwrap-slot.ensures

stood : (g : Over) (c : goal.After-swap_remove_index g)
    → in_slot (positions c.self.inside.slots.slots) c.index-at.result ≡ Some c.unwrap-slot.result.now.pos
stood g c = pos_here c.self.inside.slots.slots c.index-at.result c.unwrap-slot.result.now (was g c)

-- the keys took the position in
abbrev AreWritten : (g : Over) (c : goal.After-swap_remove_index g) → List (Position × ℕ) → Type 0
AreWritten g c es = es ≡ (map_with_value c.in-Ok-Vacant.field-0 c.args.k).entries

found_here : (g : Over) (c : goal.After-swap_remove_index g) (es : List (Position × ℕ)) → AreWritten g c es → (r : Position)
    → key_in es r ≡ cond (position_eq c.args.q r) (Some c.index-at.result) (key_in c.self.inside.keys.entries r)
found_here g c es are r =
    ap (λ l. key_in l r) are
    ∙ (c.in-Ok-Vacant.ensures.update.0 c.args.k).0 r
    ∙ ap (λ k. cond (position_eq c.args.q r) (Some k) (key_in c.self.inside.keys.entries r)) (sym c.index-at.ensures)

appended : (g : Over) (c : goal.After-swap_remove_index g) (es : List (Position × ℕ)) → AreWritten g c es
    → es ≡ c.self.inside.keys.entries ++ (c.args.q, c.index-at.result) ∷ []
appended g c es are =
    are ∙ c.in-Ok-Vacant.ensures.update.1 c.args.k
    ∙ insert_entry-new position_eq c.self.inside.keys c.args.q c.args.k (no_key_here g c)
    ∙ ap (λ k. c.self.inside.keys.entries ++ (c.args.q, k) ∷ []) (sym c.index-at.ensures)

-- and the other was taken out of them
taken_out : (g : Over) (c : goal.After-swap_remove_index g) (es : List (Position × ℕ)) → AreWritten g c es
    → c.swap_remove_index.result ≡ slice_get es c.unwrap-slot.result.now.place
    → c.swap_remove_index.result ≡ Some (c.unwrap-slot.result.now.pos, c.index-at.result)
taken_out g c es are result =
    let x = c.unwrap-slot.result.now in
    result ∙ ap (λ l. slice_get l x.place) (appended g c es are)
    ∙ stands_before _ ((c.args.q, c.index-at.result) ∷ []) x.place (x.pos, c.index-at.result) (c.self.invariant.1 c.index-at.result x (was g c))

abbrev written : (g : Over) → goal.After-swap_remove_index g → Slot
written g c = record c.unwrap-slot.result.now { pos = c.args.q }

mirrored : (g : Over) (c : goal.After-swap_remove_index g) (es gs : List (Position × ℕ)) → AreWritten g c es
    → c.swap_remove_index.result ≡ slice_get es c.unwrap-slot.result.now.place
    → IfSome c.swap_remove_index.result (λ p. gs ≡ swap_remove es c.unwrap-slot.result.now.place p)
    → ((r : Position) → key_in gs r ≡ cond (position_eq c.unwrap-slot.result.now.pos r) None (key_in es r))
    → Mirrors (positions (set c.self.inside.slots.slots c.index-at.result (Some (written g c)))) gs
    × AreInPlace (set c.self.inside.slots.slots c.index-at.result (Some (written g c))) gs
mirrored g c es gs are result entries gone =
    let slots = c.self.inside.slots.slots in
    let x = c.unwrap-slot.result.now in
    let it = taken_out g c es are result in (
      subst (λ s. Mirrors s gs) (sym (set_positions slots c.index-at.result (written g c)))
          (Mirrors-shift _ _ c.self.invariant.0 es gs c.index-at.result x.pos c.args.q (stood g c)
          (no_key_here g c) gone
          (found_here g c es are) c.x.ensures.range),
      exchanged slots _ _ c.self.invariant.1 c.index-at.result (other_slots slots c.index-at.result (written g c)) x (was g c)
          (written g c) (set_slot slots c.index-at.result x (written g c) (was g c)) refl (x.pos, c.index-at.result) gs
          (of_some (λ p. gs ≡ swap_remove es x.place p) _ _ it entries ∙ ap (λ l. swap_remove l x.place (x.pos, c.index-at.result)) (appended g c es are)),
    )

pub invariant_of-self-2 : goal.invariant_of-self-2
invariant_of-self-2 g c =
    let it = taken_out g c _ (search rules) c.swap_remove_index.ensures.entry in
    mirrored g c _ _ (search rules) c.swap_remove_index.ensures.entry c.swap_remove_index.ensures.entries
    (gone_from (with_entries c.self.inside.keys _) c.swap_remove_index.new.self _ c.unwrap-slot.result.now.pos c.index-at.result it c.swap_remove_index.ensures.updates)

pub returns-clause-ok : goal.returns-clause-ok
returns-clause-ok g c =
    let slots = c.self.inside.slots.slots in
    ap placement_of (set_positions slots c.index-at.result (written g c))
    ∙ placement-changed (positions slots) _ c.index-at.result c.args.q
    (set_here (positions slots) c.index-at.result _ c.args.q (stood g c)) (set_others (positions slots) c.index-at.result c.args.q)
    ∙ ap (λ m. map.insert m c.index-at.result c.args.q) c.self.view_is
    ∙ ap (λ k. map.insert c.args.self.now k c.args.q) c.index-at.ensures

pub returns-clause-held : goal.returns-clause-held
returns-clause-held g c = ap (λ m. map.get m c.args.k) (returns-clause-ok g c) ∙ get-inserted _ _ _
