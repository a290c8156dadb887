use Rattle.kit_words.proofs.Common.{◌∙◌, ◌≤◌, refl, suc, subst, sym, ap, arith, false≢true}
use Rattle.undo_ring.specs.Common.{Near}
use Rattle.undo_ring.proofs.NearLemmas.{follows_same, follows_more, follows_none, was_ok}
use Rattle.undo_ring.proofs.near.Near.follow.Goals.{in-Some-boxes+then-is_ok, in-Some-boxes+else-is_ok, in-None}
use Rattle.undo_ring.proofs.near.Near.follow.Goals as goal

pub returns-in_default-clause-changed : goal.returns-in_default-clause-changed
returns-in_default-clause-changed g c =
    let s = c.args.self.now in
    λ t. follows_same s (record { boxes = s.boxes; since = c.saturating_add-self.result }) c.args.map.now.doc
    c.args.touched c.in_default.is refl (omega (arith, c.saturating_add-self.ensures))

pub returns-else-not-came-clause-changed : goal.returns-else-not-came-clause-changed
returns-else-not-came-clause-changed g c =
    let s = c.args.self.now in
    let d = c.args.map.now.doc in
    let more : c.saturating_add-self.result ≤ suc s.since = omega (arith, c.saturating_add-self.ensures) in
    λ t. elim c.match-self.branch [
      | in-Some-boxes+then-is_ok w ↦
          let first = was_ok w.add_boxes.result (sym w.is_ok.ensures.value ∙ w.if-is_ok.true) w.add_boxes.ensures.covered in
          let second = was_ok w.add_boxes-then-is_ok.result
          (sym w.is_ok-then-is_ok.ensures.value ∙ sym w.came-is ∙ c.if-not-came.false) w.add_boxes-then-is_ok.ensures.covered in
          follows_more s c.match-self.self w.in-Some-boxes.boxes w.add_boxes.new.boxes w.add_boxes-then-is_ok.new.boxes d
          c.in-Some.n c.in-Some.m c.args.touched c.in-Some.is w.in-Some-boxes.is
          (ap (λ (z : Near g.row.A.Denot). z.boxes) w.self-is)
          (subst (λ (z : Near g.row.A.Denot). z.since ≤ suc s.since) (sym w.self-is) more)
          w.add_boxes.ensures.keeps w.add_boxes-then-is_ok.ensures.keeps first second
      | in-Some-boxes+else-is_ok w ↦ absurd (false≢true (sym w.if-is_ok.false ∙ sym w.came-is ∙ c.if-not-came.false))
      | in-None w ↦
          follows_none s c.match-self.self d c.args.touched
          (ap (λ (z : Near g.row.A.Denot). z.boxes) w.self-is ∙ w.in-None.is)
          (subst (λ (z : Near g.row.A.Denot). z.since ≤ suc s.since) (sym w.self-is) more)
    ]
