use Rattle.kit_words.proofs.Common.{◌≡◌, ◌≢◌, ◌∙◌, ℕ, Some, None, cond, sym, ap, refl, subst, is_some, slice_get}
use Rattle.kit_words.proofs.Common.{swap_remove, option_copied_mut}
use Rattle.std.specs.FinMap as map
use Rattle.grid_geometry.specs.Common.{Position, position_eq}
use Rattle.vertex_index.specs.Common.{Mirrors, placement_of, positions, in_slot, key_in, slot_at}
use Rattle.vertex_index.proofs.PlacementLemmas.{placement-removed}
use Rattle.vertex_index.proofs.MirrorLemmas.{slot_has, Mirrors-remove, IsSome-copied_mut}
use Rattle.vertex_index.proofs.SlotLemmas.{pos_here, none_here, pos_kept, is_held, same_positions}
use Rattle.vertex_index.proofs.PlaceLemmas.{of_some, gone_from, past_end, taken_last, taken}
use Rattle.vertex_index.proofs.Vertices.remove.Given.{Over}
use Rattle.vertex_index.proofs.Vertices.remove.Goals as goal
use Rattle.vertex_index.proofs.Vertices.remove.Goals.{After-swap_remove_index, In-Some}

pub unwrap-gap-requires : goal.unwrap-gap-requires
unwrap-gap-requires g c =
    let there = slot_has _ _ c.self.invariant.0 _ c.self.view_is c.args.k _ c.index.ensures in
    ap is_some c.try_remove.ensures.value ∙ is_held _ c.index.result ∙ ap is_some there ∙ c.requires

-- ---- the slot is empty, and its position taken out of the keys

was : (g : Over) (c : After-swap_remove_index g)
    → slot_at c.self.inside.slots.slots c.index.result ≡ Some c.unwrap-gap.result
was g c = sym c.try_remove.ensures.value ∙ c.unwrap-gap.ensures

taken_out : (g : Over) (c : After-swap_remove_index g)
    → c.swap_remove_index.result ≡ Some (c.unwrap-gap.result.pos, c.index.result)
taken_out g c =
    c.swap_remove_index.ensures.entry ∙ c.self.invariant.1 c.index.result c.unwrap-gap.result (was g c)

left : (g : Over) (c : After-swap_remove_index g)
    → c.swap_remove_index.new.self.entries
    ≡ swap_remove c.self.inside.keys.entries c.unwrap-gap.result.place (c.unwrap-gap.result.pos, c.index.result)
left g c =
    of_some (λ p. c.swap_remove_index.new.self.entries ≡ swap_remove c.self.inside.keys.entries c.unwrap-gap.result.place p)
    _ _ (taken_out g c) c.swap_remove_index.ensures.entries

gone : (g : Over) (c : After-swap_remove_index g) (r : Position)
    → key_in c.swap_remove_index.new.self.entries r
    ≡ cond (position_eq c.unwrap-gap.result.pos r) None (key_in c.self.inside.keys.entries r)
gone g c =
    gone_from c.self.inside.keys c.swap_remove_index.new.self _ c.unwrap-gap.result.pos c.index.result (taken_out g c) c.swap_remove_index.ensures.updates

empty : (g : Over) (c : After-swap_remove_index g)
    → in_slot (positions c.try_remove.new.self.slots) c.index.result ≡ None
empty g c = none_here c.try_remove.new.self.slots c.index.result c.try_remove.ensures.updates.changed

others : (g : Over) (c : After-swap_remove_index g) (j : ℕ) → j ≢ c.index.result
    → in_slot (positions c.try_remove.new.self.slots) j ≡ in_slot (positions c.self.inside.slots.slots) j
others g c j ne =
    pos_kept c.self.inside.slots.slots c.try_remove.new.self.slots j (c.try_remove.ensures.updates.others j ne)

mirrored : (g : Over) (c : After-swap_remove_index g)
    → Mirrors (positions c.try_remove.new.self.slots) c.swap_remove_index.new.self.entries
mirrored g c =
    Mirrors-remove _ _ c.self.invariant.0 _ _ c.index.result c.unwrap-gap.result.pos
    (pos_here c.self.inside.slots.slots c.index.result c.unwrap-gap.result (was g c)) (empty g c) (others g c) (gone g c)

removed : (g : Over) (c : After-swap_remove_index g)
    → placement_of (positions c.try_remove.new.self.slots) ≡ map.remove c.args.self.now c.args.k
removed g c =
    placement-removed (positions c.self.inside.slots.slots) (positions c.try_remove.new.self.slots) c.index.result
    (empty g c) (others g c)
    ∙ ap (λ m. map.remove m c.index.result) c.self.view_is
    ∙ ap (map.remove c.args.self.now) c.index.ensures

-- ---- it was the last

pub invariant_of-self : goal.invariant_of-self
invariant_of-self g c =
    let i = (goal.at.invariant_of-self g c).After-swap_remove_index in (
      mirrored g i,
      taken_last c.self.inside.slots.slots c.try_remove.new.self.slots c.self.inside.keys.entries c.self.invariant.1 c.index.result
          c.try_remove.ensures.updates.others c.unwrap-gap.result (was g i) c.try_remove.ensures.updates.changed
          (c.unwrap-gap.result.pos, c.index.result) c.swap_remove_index.new.self.entries (left g i)
          (past_end c.swap_remove_index.new.self.entries c.unwrap-gap.result.place c.in_default.ensures.entry),
    )

pub returns-in_default : goal.returns-in_default
returns-in_default g c = removed g (goal.at.returns-in_default g c).After-swap_remove_index

-- ---- the last came to its place

came : (g : Over) (c : In-Some g) → slice_get c.swap_remove_index.new.self.entries c.unwrap-gap.result.place
    ≡ Some (c.in-Some.field-0-0.now, c.in-Some.moved.now)
came g c = sym c.in-Some.ensures.entry

stands : (g : Over) (c : In-Some g)
    → in_slot (positions c.try_remove.new.self.slots) c.in-Some.moved.now ≡ Some c.in-Some.field-0-0.now
stands g c =
    (mirrored g (goal.at.In-Some g c).After-swap_remove_index).back c.in-Some.field-0-0.now c.in-Some.moved.now
    c.in-Some.ensures.value

pub unwrap-requires : goal.unwrap-requires
unwrap-requires g c =
    IsSome-copied_mut _ (ap is_some c.get_mut.ensures.value ∙ is_held _ c.index-2.result
    ∙ ap (λ k. is_some (in_slot (positions c.try_remove.new.self.slots) k)) c.index-2.ensures
    ∙ ap is_some (stands g (goal.at.unwrap-requires g c).In-Some))

moved_slot : (g : Over) (c : goal.After-self-1 g)
    → slot_at c.try_remove.new.self.slots c.index-2.result ≡ Some c.unwrap.result.now
moved_slot g c = sym c.get_mut.ensures.value ∙ ap option_copied_mut c.unwrap.ensures

pub invariant_of-self-2 : goal.invariant_of-self-2
invariant_of-self-2 g c =
    let at = goal.at.invariant_of-self-2 g c in
    let i = at.After-swap_remove_index in
    let slots = c.try_remove.new.self.slots in
    let w = c.unwrap.result.now in
    let y = record w { place = c.unwrap-gap.result.place } in
    let one : Some w.pos ≡ Some c.in-Some.field-0-0.now =
    sym (pos_here slots c.index-2.result w (moved_slot g c)) ∙ ap (in_slot (positions slots)) c.index-2.ensures ∙ stands g at.In-Some in
    let same : w.pos ≡ c.in-Some.field-0-0.now = cc in (
      subst (λ s. Mirrors s c.swap_remove_index.new.self.entries) (sym (same_positions slots c.index-2.result w y (moved_slot g c) refl)) (mirrored g i),
      taken c.self.inside.slots.slots slots c.self.inside.keys.entries c.self.invariant.1 c.index.result
          c.try_remove.ensures.updates.others c.unwrap-gap.result (was g i) c.try_remove.ensures.updates.changed
          (c.unwrap-gap.result.pos, c.index.result) c.swap_remove_index.new.self.entries (left g i)
          c.in-Some.field-0-0.now c.index-2.result (came g at.In-Some ∙ ap (λ n. Some (c.in-Some.field-0-0.now, n)) (sym c.index-2.ensures))
          w y (moved_slot g c) same refl,
    )

pub returns : goal.returns
returns g c =
    ap placement_of (same_positions c.try_remove.new.self.slots c.index-2.result c.unwrap.result.now
    (record c.unwrap.result.now { place = c.unwrap-gap.result.place }) (moved_slot g c) refl)
    ∙ removed g (goal.at.returns g c).After-swap_remove_index
