use Rattle.kit_words.proofs.Common.{ℕ, ◌∙◌, sym, subst}
use Rattle.arc_tables.specs.Common.{ArePuts}
use Rattle.ring_store.specs.Common.{Joined, AreKeyed, AreNew}
use Rattle.ring_store.proofs.CountLemmas.{same_index}
use Rattle.ring_store.proofs.Planned.{came_and_went}
use Rattle.ring_store.proofs.PuttingBack.{puts_fit}
use Rattle.ring_store.proofs.changes.put_all.Goals as goal

pub insert_all-requires-clause-fits : goal.insert_all-requires-clause-fits
insert_all-requires-clause-fits g c =
    subst (ArePuts (λ q. (x : ℕ) → ¬ (Joined c.args.tables.now.borders q x))) (sym c.as_slice-placed.ensures.value)
    (puts_fit (λ q. (x : ℕ) → ¬ (Joined c.args.tables.now.borders q x)) c.args.tables.now.vertices c.args.removals.now c.in_ok-puts.puts.items c.place_all.new.vertices
    (λ k e x. c.requires.unjoined k x e) c.requires.placeable c.in_ok-puts.ensures.keyed)

pub forget_all-requires : goal.forget_all-requires
forget_all-requires g c =
    (c.args.tables.now.vertices, c.args.removals.now, subst (λ z. AreKeyed c.args.tables.now.vertices c.args.removals.now z c.place_all.new.vertices) (sym c.as_slice-placed.ensures.value) c.in_ok-puts.ensures.keyed)

pub forget_all-requires-in-Err-insert_all : goal.forget_all-requires-in-Err-insert_all
forget_all-requires-in-Err-insert_all g c =
    (c.args.tables.now.vertices, c.args.removals.now, subst (λ z. AreKeyed c.args.tables.now.vertices c.args.removals.now z c.place_all.new.vertices) (sym c.as_slice-placed.ensures.value) c.in_ok-puts.ensures.keyed)

-- the index and the vertices are as they were
pub returns-clause-unchanged : goal.returns-clause-unchanged
returns-clause-unchanged g c =
    let old = c.args.tables.now in
    let new = subst (AreNew old.index.held) (sym (c.as_slice-coming.ensures.value ∙ c.in_ok-coming.ensures.coming)) c.requires.new in
    let held = came_and_went old.index.held c.add_all.new.index.held c.discard_all-in-Err-insert_all.new.index.held c.as_slice-coming.result.now new c.in_default.ensures.gained c.discard_all-in-Err-insert_all.ensures.dropped in
    let index = same_index c.discard_all-in-Err-insert_all.new.index old.index held (c.discard_all-in-Err-insert_all.ensures.cells ∙ c.add_all.ensures.cells) in
    let keyed = subst (λ z. AreKeyed old.vertices c.args.removals.now z c.place_all.new.vertices) (sym c.as_slice-placed.ensures.value) c.in_ok-puts.ensures.keyed in
    let vertices = c.forget_all-in-Err-insert_all.ensures old.vertices c.args.removals.now keyed in
    λ i. record { alloc = old.alloc; vertices = vertices i; borders = c.in-Err-insert_all.ensures.err i; index = index i }
