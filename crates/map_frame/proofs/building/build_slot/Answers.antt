use Rattle.kit_words.proofs.Common.{◌∙◌, refl, sym, ap, subst, arith, [], ◌∷◌, ◌++◌}
use Rattle.map_frame.specs.Common.{progress, IsSlot}
use Rattle.map_frame.specs.declared.tables.Slot.TheVariants as slot
use Rattle.map_frame.proofs.Built.{leaves_of, one_leaf}
use Rattle.map_frame.proofs.building.build_slot.Goals as goal

pub push_feature-requires-clause-few : goal.push_feature-requires-clause-few
push_feature-requires-clause-few g c =
    omega (arith, c.requires.few, ap (λ i. leaves_of (i ∷ [])) c.in-Leaf.is, one_leaf c.in-Leaf.raw)

pub push_feature-requires-clause-there : goal.push_feature-requires-clause-there
push_feature-requires-clause-there g c =
    omega (arith, c.requires.there, ap (λ i. leaves_of (i ∷ [])) c.in-Leaf.is, one_leaf c.in-Leaf.raw)

pub push_feature-requires-clause-alike : goal.push_feature-requires-clause-alike
push_feature-requires-clause-alike g c = c.requires.alike

pub returns-in_ok-push-in-Leaf : goal.returns-in_ok-push-in-Leaf
returns-in_ok-push-in-Leaf g c =
    subst (λ i. IsSlot c.args.layer c.args.slot i (slot.Leaves c.push.new.self)
    (progress c.args.gathered.now) (progress c.push_feature.new.gathered))
    (sym c.in-Leaf.is) (
      (
        c.push.new.self,
        refl,
        c.in_ok-push-in-Leaf.ensures.items ∙ ap (λ z. z ++ c.in_ok-number-in-Leaf.number ∷ []) c.new-numbers.ensures.items
            ∙ ap (λ z. z ∷ []) c.in_ok-number-in-Leaf.ensures.number,
      ),
      c.in_ok-number-in-Leaf.ensures.next,
    )
