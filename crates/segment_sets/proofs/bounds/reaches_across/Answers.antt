use Rattle.kit_words.proofs.Common.{rules, ◌≡◌, ◌∙◌, sym, subst, ap, ap₂, int_le, w64, to_z, of_z, true, false}
use Rattle.kit_words.proofs.Common.{to_z-of_z}
use Rattle.grid_geometry.specs.Common.{Segment, IsSegment, Box}
use Rattle.segment_sets.proofs.Reaching.{across_then, across_else}
use Rattle.segment_sets.proofs.bounds.reaches_across.Goals as goal

pub returns-then-x-rect : goal.returns-then-x-rect
returns-then-x-rect c =
    let low : to_z w64 (of_z w64 c.x.result) ≡ c.x.result = search (rules, to_z-of_z) in
    let high : to_z w64 (of_z w64 c.x-then-x-rect.result) ≡ c.x-then-x-rect.result = search (rules, to_z-of_z) in
    let x0 : to_z w64 (of_z w64 c.rect.inside.x0) ≡ c.rect.inside.x0 = search (rules, to_z-of_z) in
    let x1 : to_z w64 (of_z w64 c.rect.inside.x1) ≡ c.rect.inside.x1 = search (rules, to_z-of_z) in
    let begins : to_z w64 (of_z w64 c.x.result) ≡ c.args.s.lo.x = low ∙ c.x.ensures.value ∙ ap (λ (s : Segment). s.lo.x) c.s.view_is in
    let ends : to_z w64 (of_z w64 c.x-then-x-rect.result) ≡ c.args.s.hi.x = high ∙ c.x-then-x-rect.ensures.value ∙ ap (λ (s : Segment). s.hi.x) c.s.view_is in
    let least : to_z w64 (of_z w64 c.rect.inside.x0) ≡ c.args.rect.x0 = x0 ∙ ap (λ (b : Box). b.x0) c.rect.view_is in
    let most : to_z w64 (of_z w64 c.rect.inside.x1) ≡ c.args.rect.x1 = x1 ∙ ap (λ (b : Box). b.x1) c.rect.view_is in
    let first : int_le c.args.s.lo.x c.args.rect.x1 ≡ true = sym (ap₂ int_le begins most) ∙ c.if-x-rect.true in
    ap₂ int_le least ends ∙ across_then c.args.s c.args.rect (subst IsSegment c.s.view_is c.s.invariant) first

pub returns-else-x-rect : goal.returns-else-x-rect
returns-else-x-rect c =
    let low : to_z w64 (of_z w64 c.x.result) ≡ c.x.result = search (rules, to_z-of_z) in
    let x1 : to_z w64 (of_z w64 c.rect.inside.x1) ≡ c.rect.inside.x1 = search (rules, to_z-of_z) in
    let begins : to_z w64 (of_z w64 c.x.result) ≡ c.args.s.lo.x = low ∙ c.x.ensures.value ∙ ap (λ (s : Segment). s.lo.x) c.s.view_is in
    let most : to_z w64 (of_z w64 c.rect.inside.x1) ≡ c.args.rect.x1 = x1 ∙ ap (λ (b : Box). b.x1) c.rect.view_is in
    let first : int_le c.args.s.lo.x c.args.rect.x1 ≡ false = sym (ap₂ int_le begins most) ∙ c.if-x-rect.false in
    c.if-x-rect.false ∙ across_else c.args.s c.args.rect (subst IsSegment c.s.view_is c.s.invariant) first
