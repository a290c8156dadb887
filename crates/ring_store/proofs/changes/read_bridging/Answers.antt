use Rattle.kit_words.proofs.Common.{◌≡◌, ap, ap₂, sym, ◌∙◌, subst, [], ◌∷◌, Some, IfSome, inl, inr, refl}
use Rattle.std.specs.FinMap as table
use Rattle.grid_geometry.specs.Common.{segment}
use Rattle.ring_store.proofs.Common.{place_is}
use Rattle.ring_store.proofs.TableLemmas.{found_there, made_there}
use Rattle.ring_store.proofs.changes.read_bridging.Goals as goal

pub unwrap-key-requires : goal.unwrap-key-requires
unwrap-key-requires g c = found_there c.args.tables.now.vertices c.args.p c.key_of.result c.requires.here c.key_of.ensures.absent

-- two neighbours there are
pub returns-in_default : goal.returns-in_default
returns-in_default g c =
    let found = subst (λ o. IfSome o (λ k. table.get c.args.tables.now.vertices k ≡ Some c.args.p)) c.unwrap-key.ensures c.key_of.ensures.found in
    let two = c.requires.two c.unwrap-key.result found c.neighbours.result c.neighbours.ensures in
    absurd (c.in_default.not-Two two.0 two.1 two.2)

pub pos-a-requires : goal.pos-a-requires
pos-a-requires g c =
    let found = subst (λ o. IfSome o (λ k. table.get c.args.tables.now.vertices k ≡ Some c.args.p)) c.unwrap-key.ensures c.key_of.ensures.found in
    c.requires.placed c.unwrap-key.result found c.in-Two.i ((c.in-Two.ensures.1 c.in-Two.i).1 (inl refl))

pub pos-b-requires : goal.pos-b-requires
pos-b-requires g c =
    let found = subst (λ o. IfSome o (λ k. table.get c.args.tables.now.vertices k ≡ Some c.args.p)) c.unwrap-key.ensures c.key_of.ensures.found in
    c.requires.placed c.unwrap-key.result found c.in-Two.j ((c.in-Two.ensures.1 c.in-Two.j).1 (inr refl))

-- the neighbours stand elsewhere
pub unwrap-to_a-requires : goal.unwrap-to_a-requires
unwrap-to_a-requires g c =
    let found = subst (λ o. IfSome o (λ k. table.get c.args.tables.now.vertices k ≡ Some c.args.p)) c.unwrap-key.ensures c.key_of.ensures.found in
    made_there c.pos-a.result c.args.p c.new.result
    (λ e. c.requires.apart c.unwrap-key.result c.in-Two.i found ((c.in-Two.ensures.1 c.in-Two.i).1 (inl refl)) (place_is c.args.tables.now.vertices c.in-Two.i c.pos-a.result c.pos-a.ensures.value ∙ e))
    c.new.ensures.none

pub unwrap-to_b-requires : goal.unwrap-to_b-requires
unwrap-to_b-requires g c =
    let found = subst (λ o. IfSome o (λ k. table.get c.args.tables.now.vertices k ≡ Some c.args.p)) c.unwrap-key.ensures c.key_of.ensures.found in
    made_there c.pos-b.result c.args.p c.new-2.result
    (λ e. c.requires.apart c.unwrap-key.result c.in-Two.j found ((c.in-Two.ensures.1 c.in-Two.j).1 (inr refl)) (place_is c.args.tables.now.vertices c.in-Two.j c.pos-b.result c.pos-b.ensures.value ∙ e))
    c.new-2.ensures.none

-- two vertices stand at two positions
pub unwrap-after-requires : goal.unwrap-after-requires
unwrap-after-requires g c =
    made_there c.pos-a.result c.pos-b.result c.new-3.result
    (λ e. c.in-Two.ensures.0 (c.pos-a.ensures.distinct c.in-Two.i c.in-Two.j c.pos-a.result c.pos-a.ensures.value (c.pos-b.ensures.value ∙ ap (λ p. Some p) (sym e))))
    c.new-3.ensures.none

pub returns : goal.returns
returns g c = record {
  here = subst (λ o. IfSome o (λ k. table.get c.args.tables.now.vertices k ≡ Some c.args.p)) c.unwrap-key.ensures c.key_of.ensures.found;
  two = c.in-Two.ensures;
  a = c.pos-a.result;
  b = c.pos-b.result;
  first = c.pos-a.ensures.value;
  second = c.pos-b.ensures.value;
  goes = ap₂ (λ u v. u ∷ v ∷ [])
      (subst (λ o. IfSome o (λ s. s ≡ segment c.pos-a.result c.args.p)) c.unwrap-to_a.ensures c.new.ensures.some)
      (subst (λ o. IfSome o (λ s. s ≡ segment c.pos-b.result c.args.p)) c.unwrap-to_b.ensures c.new-2.ensures.some);
  comes = subst (λ o. IfSome o (λ s. s ≡ segment c.pos-a.result c.pos-b.result)) c.unwrap-after.ensures c.new-3.ensures.some;
}
