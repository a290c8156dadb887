use Rattle.kit_words.proofs.Common.{◌≡◌, ◌++◌, ◌∷◌, [], ap, sym, ◌∙◌, map}
use Rattle.ring_machine.specs.Common.{canonical}
use Rattle.walk_mending.proofs.Laws.{stays_if, odd_ends, mended_if, ends_if}
use Rattle.ring_parts.specs.Common.{rings_seen, polygons_seen}
use Rattle.walk_mending.proofs.mending.mended_polygon.Goals as goal

pub returns-then-not-branch-clause-mended : goal.returns-then-not-branch-clause-mended
returns-then-not-branch-clause-mended g c =
    mended_if (rings_seen c.args.walks.now) (λ parts. polygons_seen parts.items) c.parted.result (sym c.in_ok-all_simple.ensures ∙ c.if-not-branch.true) c.parted.ensures

pub returns-then-not-branch-clause-ends : goal.returns-then-not-branch-clause-ends
returns-then-not-branch-clause-ends g c =
    ends_if (rings_seen c.args.walks.now) (λ parts. polygons_seen parts.items) c.parted.result
    (mended_if (rings_seen c.args.walks.now) (λ parts. polygons_seen parts.items) c.parted.result (sym c.in_ok-all_simple.ensures ∙ c.if-not-branch.true) c.parted.ensures)

pub returns-clause-mended : goal.returns-clause-mended
returns-clause-mended g c =
    let is : polygons_seen c.push.new.self.items ≡ map canonical (rings_seen c.args.walks.now) ∷ [] =
    ap polygons_seen (c.in_ok-push.ensures.items ∙ ap (λ z. z ++ (c.in_ok-all_canonical.field-0 ∷ [])) c.new-whole.ensures.items)
    ∙ ap (λ rings. rings ∷ []) c.in_ok-all_canonical.ensures in
    stays_if (rings_seen c.args.walks.now) _ (sym c.in_ok-all_simple.ensures ∙ c.if-not-branch.false) is

pub returns-clause-ends : goal.returns-clause-ends
returns-clause-ends g c =
    let is : polygons_seen c.push.new.self.items ≡ map canonical (rings_seen c.args.walks.now) ∷ [] =
    ap polygons_seen (c.in_ok-push.ensures.items ∙ ap (λ z. z ++ (c.in_ok-all_canonical.field-0 ∷ [])) c.new-whole.ensures.items)
    ∙ ap (λ rings. rings ∷ []) c.in_ok-all_canonical.ensures in
    odd_ends (rings_seen c.args.walks.now) _ (stays_if (rings_seen c.args.walks.now) _ (sym c.in_ok-all_simple.ensures ∙ c.if-not-branch.false) is)
