use Rattle.kit_words.proofs.Common.{◌≡◌, ◌≢◌, ◌∙◌, ℕ, List, [], ◌∷◌, ◌++◌, Some, None, cond, sym, ap, refl, rules}
use Rattle.kit_words.proofs.Common.{on_err}
use Rattle.std.specs.FinMap as map
use Rattle.indexmap.specs.Entry.{entry_value, map_with_value}
use Rattle.grid_geometry.specs.Common.{Position, position_eq}
use Rattle.vertex_index.specs.Common.{Mirrors, placement_of, positions, in_slot, key_in, slot_at, AreInPlace}
use Rattle.indexmap.proofs.CallerLemmas.{insert_entry-new}
use Rattle.vertex_index.proofs.SlotLemmas.{pos_here, none_here, pos_kept}
use Rattle.vertex_index.proofs.PlaceLemmas.{placed}
use Rattle.vertex_index.proofs.PlacementLemmas.{placement-changed}
use Rattle.vertex_index.proofs.EntryLemmas.{no_entry}
use Rattle.vertex_index.proofs.MirrorLemmas.{slot_has, Mirrors-add, free, found_key, distinct}
use Rattle.vertex_index.proofs.Vertices.put.Given.{Over}
use Rattle.vertex_index.proofs.Vertices.put.Goals as goal
use Rattle.vertex_index.proofs.Vertices.put.Goals.{After-insert}

-- ---- where there was no room

pub returns-in_err-held-clause-distinct : goal.returns-in_err-held-clause-distinct
returns-in_err-held-clause-distinct g c = distinct _ _ c.self.invariant.0 _ refl

pub returns-in_err-held-clause-absent : goal.returns-in_err-held-clause-absent
returns-in_err-held-clause-absent g c =
    on_err c.from_residual.result (free _ _ c.self.invariant.0 _ c.self.view_is c.args.p c.in_err-held.ensures.absent)

pub returns-in_err-reserve-in-Vacant-clause-distinct :
    goal.returns-in_err-reserve-in-Vacant-clause-distinct
returns-in_err-reserve-in-Vacant-clause-distinct g c =
    distinct _ _ c.self.invariant.0 _ (ap (λ s. placement_of (positions s.slots)) (sym c.in_err-reserve-in-Vacant.ensures.rest_kept))

pub returns-in_err-reserve-in-Vacant-clause-absent :
    goal.returns-in_err-reserve-in-Vacant-clause-absent
returns-in_err-reserve-in-Vacant-clause-absent g c =
    on_err c.from_residual-in_err-reserve-in-Vacant.result
    (free _ _ c.self.invariant.0 _ c.self.view_is c.args.p (no_entry _ _ c.in_ok-held.field-0 c.in-Vacant.room c.in-Vacant.is c.in_ok-held.ensures.found))

-- ---- where a vertex stands

pub returns-in-Occupied-clause-there : goal.returns-in-Occupied-clause-there
returns-in-Occupied-clause-there g c = λ _. record {
  here = found_key _ _ c.self.invariant.0 _ c.self.view_is c.args.p (Some c.get.result.now)
      (sym c.get.ensures ∙ ap entry_value (sym c.in-Occupied.is) ∙ c.in_ok-held.ensures.value);
  same = c.self.view_is;
}

pub returns-in-Occupied-clause-distinct : goal.returns-in-Occupied-clause-distinct
returns-in-Occupied-clause-distinct g c = distinct _ _ c.self.invariant.0 _ refl

-- ---- the new vertex

no_key_here : (g : Over) (c : After-insert g) → key_in c.self.inside.keys.entries c.args.p ≡ None
no_key_here g c = no_entry _ _ c.in_ok-held.field-0 c.in-Vacant.room c.in-Vacant.is c.in_ok-held.ensures.found

slots_kept : (g : Over) (c : After-insert g)
    → c.reserve.new.self.slots ≡ c.self.inside.slots.slots
slots_kept g c = ap (λ s. s.slots) c.in_ok-reserve-in-Vacant.ensures.rest_kept

vacant_here : (g : Over) (c : After-insert g)
    → in_slot (positions c.self.inside.slots.slots) c.insert_reserved.result ≡ None
vacant_here g c =
    none_here c.self.inside.slots.slots c.insert_reserved.result
    (ap (λ s. slot_at s c.insert_reserved.result) (sym (slots_kept g c)) ∙ c.insert_reserved.ensures.was_vacant)

others_slots : (g : Over) (c : After-insert g) → (j : ℕ) → j ≢ c.insert_reserved.result
    → slot_at c.insert_reserved.new.self.slots j ≡ slot_at c.self.inside.slots.slots j
others_slots g c j ne =
    c.insert_reserved.ensures.updates.others j ne ∙ ap (λ s. slot_at s j) (slots_kept g c)

others_kept : (g : Over) (c : After-insert g) → (j : ℕ) → j ≢ c.insert_reserved.result
    → in_slot (positions c.insert_reserved.new.self.slots) j ≡ in_slot (positions c.self.inside.slots.slots) j
others_kept g c j ne = pos_kept c.self.inside.slots.slots c.insert_reserved.new.self.slots j (others_slots g c j ne)

here : (g : Over) (c : After-insert g)
    → in_slot (positions c.insert_reserved.new.self.slots) c.insert_reserved.result ≡ Some c.args.p
here g c = pos_here c.insert_reserved.new.self.slots c.insert_reserved.result _ c.insert_reserved.ensures.updates.changed

-- the entries are those with the new key
abbrev AreWritten : (g : Over) (c : After-insert g) → List (Position × ℕ) → Type 0
AreWritten g c es = es ≡ (map_with_value c.in_ok-held.field-0 c.new-key.result).entries

found_here : (g : Over) (c : After-insert g) (es : List (Position × ℕ)) → AreWritten g c es → (q : Position)
    → key_in es q ≡ cond (position_eq c.args.p q) (Some c.insert_reserved.result) (key_in c.self.inside.keys.entries q)
found_here g c es are q =
    ap (λ l. key_in l q) are
    ∙ (c.in_ok-held.ensures.update.0 c.new-key.result).0 q
    ∙ ap (λ k. cond (position_eq c.args.p q) (Some k) (key_in c.self.inside.keys.entries q)) c.new-key.ensures

-- the new one is the last of them
appended : (g : Over) (c : After-insert g) (es : List (Position × ℕ)) → AreWritten g c es
    → es ≡ c.self.inside.keys.entries ++ (c.args.p, c.insert_reserved.result) ∷ []
appended g c es are =
    are ∙ c.in_ok-held.ensures.update.1 c.new-key.result
    ∙ insert_entry-new position_eq c.self.inside.keys c.args.p c.new-key.result (no_key_here g c)
    ∙ ap (λ k. c.self.inside.keys.entries ++ (c.args.p, k) ∷ []) c.new-key.ensures

mirrored : (g : Over) (c : After-insert g) (es : List (Position × ℕ)) → AreWritten g c es
    → Mirrors (positions c.insert_reserved.new.self.slots) es × AreInPlace c.insert_reserved.new.self.slots es
mirrored g c es are = (
  Mirrors-add _ _ c.self.invariant.0 _ _ c.insert_reserved.result c.args.p c.x.ensures.range (vacant_here g c)
      (no_key_here g c) (here g c) (others_kept g c) (found_here g c es are),
  placed _ _ _ c.self.invariant.1 c.insert_reserved.result (others_slots g c) _
      c.insert_reserved.ensures.updates.changed c.len-place.ensures.len es (appended g c es are),
)

pub invariant_of-self-in-Vacant : goal.invariant_of-self-in-Vacant
invariant_of-self-in-Vacant g c =
    mirrored g (goal.at.invariant_of-self-in-Vacant g c).After-insert _ (search rules)

pub returns-in_ok-reserve-in-Vacant-clause-new : goal.returns-in_ok-reserve-in-Vacant-clause-new
returns-in_ok-reserve-in-Vacant-clause-new g c = let i = (goal.at.returns-in_ok-reserve-in-Vacant-clause-new g c).After-insert in λ _. record {
  key = sym (slot_has _ _ c.self.invariant.0 _ c.self.view_is c.new-key.result _ (sym c.new-key.ensures)) ∙ vacant_here g i;
  none = free _ _ c.self.invariant.0 _ c.self.view_is c.args.p (no_key_here g i);
  put = placement-changed (positions c.self.inside.slots.slots) (positions c.insert_reserved.new.self.slots) c.insert_reserved.result c.args.p
      (here g i) (others_kept g i)
      ∙ ap (λ m. map.insert m c.insert_reserved.result c.args.p) c.self.view_is
      ∙ ap (λ k. map.insert c.args.self.now k c.args.p) (sym c.new-key.ensures);
}

pub returns-in_ok-reserve-in-Vacant-clause-distinct :
    goal.returns-in_ok-reserve-in-Vacant-clause-distinct
returns-in_ok-reserve-in-Vacant-clause-distinct g c =
    distinct _ _ (invariant_of-self-in-Vacant g c).0 _ refl
