use Rattle.kit_words.proofs.Common.{refl, sym, ap, ap₂, ◌∙◌, ◌+◌}
use Rattle.script_runner.specs.Common.{meaning_of_said}
use Rattle.script_runner.proofs.StepLemmas.{on_part, put_part, put_nothing, answered_line, shows}
use Rattle.script_runner.proofs.runner.Runner.answer.Goals as goal

pub returns-in_err-refuses-clause-cut : goal.returns-in_err-refuses-clause-cut
returns-in_err-refuses-clause-cut g c =
    on_part c.from_residual-in_err-refuses.result (g.W.Sink.taken c.args.out.now) (g.W.Sink.taken c.send_reply.new.out) c.args.ended c.args.self.now
    (put_part c.args.ended c.args.self.now (g.W.Sink.taken c.args.out.now) (g.W.Sink.taken c.send_reply.new.out) c.self.inside.editor c.self.inside.over c.as_slice.result.now (meaning_of_said c.in_ok-said.said)
    (ap (λ p. p.depth) (sym c.self.view_is)) (ap (λ p. p.state) (sym c.self.view_is)) (ap (λ p. p.over) (sym c.self.view_is)) (ap (λ p. p.line) (sym c.self.view_is) ∙ sym c.as_slice.ensures.value)
    c.in_ok-said.ensures.means c.in_err-refuses.ensures.sends.taken)

pub returns-in_err-said-clause-cut : goal.returns-in_err-said-clause-cut
returns-in_err-said-clause-cut g c =
    on_part c.from_residual.result (g.W.Sink.taken c.args.out.now) (g.W.Sink.taken c.args.out.now) c.args.ended c.args.self.now
    (put_nothing c.args.ended c.args.self.now (g.W.Sink.taken c.args.out.now))

pub returns-clause-ok : goal.returns-clause-ok
returns-clause-ok g c = (
  _,
  c.in_ok-refuses.ensures.sends.taken,
  answered_line c.self.inside.editor c.send_reply.new.editor c.args.ended c.args.self.now _ c.self.inside.over c.as_slice.result.now (meaning_of_said c.in_ok-said.said) c.in_ok-refuses.refuses
      (ap (λ p. p.depth) (sym c.self.view_is)) (ap (λ p. p.state) (sym c.self.view_is)) (ap (λ p. p.over) (sym c.self.view_is)) (ap (λ p. p.line) (sym c.self.view_is) ∙ sym c.as_slice.ensures.value)
      c.in_ok-said.ensures.means c.in_ok-refuses.ensures.replied (shows c.self.inside.editor c.in_ok-said.said c.in_ok-refuses.ensures.shown) refl refl c.clear.ensures.items refl
      (ap₂ (λ a b. a + b) (ap (λ p. p.answered) c.self.view_is) (c.one_if.ensures ∙ c.is_answered-counts.ensures))
      (ap₂ (λ a b. a + b) (ap (λ p. p.refused) c.self.view_is) c.one_if-2.ensures),
)
