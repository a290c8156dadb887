use Rattle.kit_words.proofs.Common.{inl, inr, refl, subst, Contains, on_ok_weaker}
use Rattle.grid_geometry.specs.Common.{Segment}
use Rattle.point_queries.specs.Common.{ListsUnseen}
use Rattle.point_queries.proofs.near.push_unseen.Goals as goal

pub returns-then-has_each : goal.returns-then-has_each
returns-then-has_each g c =
    inr (refl, λ name k. subst (λ z. Contains z name) c.as_slice.ensures.value (c.has_each.ensures c.if-has_each.true name k))

pub returns : goal.returns
returns g c = on_ok_weaker c.push_rings_of.result (λ listed. inl listed) c.push_rings_of.ensures
