use Rattle.kit_words.proofs.Common.{sym, subst, ◌≡◌, get_or, ◌+◌}
use Rattle.ring_store.proofs.Edges.{edge_next, edge_last}
use Rattle.ring_store.proofs.sides.edge_at.Goals as goal
use Rattle.ring_store.proofs.sides.edge_at.Goals.{then-at-keys, else-at-keys}

pub returns : goal.returns
returns c = elim c.if-at-keys.branch [
  | then-at-keys w ↦ edge_next c.args.keys.now c.args.at c.index-keys-at-2.result c.if-at-keys.next w.if-at-keys.true c.index-keys-at-2.is
      (subst (λ z. z ≡ get_or c.args.keys.now (c.args.at + 1) z) (sym w.next-is) w.index-keys-at.is)
  | else-at-keys w ↦ edge_last c.args.keys.now c.args.at c.index-keys-at-2.result c.if-at-keys.next c.requires w.if-at-keys.false c.index-keys-at-2.is
      (subst (λ z. z ≡ get_or c.args.keys.now 0 z) (sym w.next-is) w.index-keys-0.is)
]
