use Rattle.kit_words.proofs.Common.{◌<◌, ◌<ℤ◌, length, sym, ap, subst, ◌∙◌, arith, All-same, All-nil, All-push}
use Rattle.segment_paths.specs.Near.{along}
use Rattle.segment_paths.specs.Common.{IsKnown, IsStop}
use Rattle.segment_paths.proofs.Led.{IsLed, led_none, led_more, led_same, led_way, at_place}
use Rattle.segment_paths.proofs.ways.inner_of.Goals as goal
use Rattle.segment_paths.proofs.ways.inner_of.Goals.{then-comes_next+in_ok-push, else-comes_next}

pub loop-stop-init : goal.loop-stop-init
loop-stop-init g c = record {
  led = subst (λ q. IsLed c.args.segment q (along c.args.segment c.segment.inside.lo)) (sym c.new-inner.ensures.items)
      (led_none c.args.segment (along c.args.segment c.segment.inside.lo) (ap (λ s. along c.args.segment s.lo) c.segment.view_is));
  known = λ ss h. All-same (IsKnown ss) _ _ c.new-inner.ensures.items (All-nil (IsKnown ss));
  short = λ some. absurd (omega (arith, some, ap length c.new-inner.ensures.items));
}

pub loop-stop-preserved : goal.loop-stop-preserved
loop-stop-preserved g c =
    let s = c.loop-stop in
    let stop = c.stop-item.result in
    elim c.if-comes_next.branch [
      | then-comes_next+in_ok-push w ↦
          let items = ap (λ v. v.items) w.inner-is ∙ w.in_ok-push.ensures.items in
          record {
            led = led_more c.args.segment s.inner.items c.if-comes_next.inner.items s.last c.if-comes_next.last stop.pos items w.last-is s.invariant.led
                (c.comes_next.ensures.after w.if-comes_next.true) (c.comes_next.ensures.near w.if-comes_next.true);
            known = λ ss h.
                All-same (IsKnown ss) _ _ items (All-push (IsKnown ss) _ _ (s.invariant.known ss h)
                (at_place (IsStop ss) c.args.stops.now s.stop-index stop h c.loop-stop-test.true c.stop-item.is).known);
            short = λ some. subst (λ z. along c.args.segment z <ℤ along c.args.segment c.segment.inside.hi) (sym w.last-is) (c.comes_next.ensures.before w.if-comes_next.true);
          }
      | else-comes_next w ↦
          let items = ap (λ v. v.items) w.inner-is in
          record {
            led = led_same c.args.segment s.inner.items c.if-comes_next.inner.items s.last c.if-comes_next.last items w.last-is s.invariant.led;
            known = λ ss h. All-same (IsKnown ss) _ _ items (s.invariant.known ss h);
            short = λ some. subst (λ z. along c.args.segment z <ℤ along c.args.segment c.segment.inside.hi) (sym w.last-is) (s.invariant.short (subst (λ q. 0 < length q) items some));
          }
    ]

pub returns-clause-way : goal.returns-clause-way
returns-clause-way g c some =
    led_way c.args.segment c.loop-stop.inner.items (along c.args.segment c.loop-stop.last) c.loop-stop.invariant.led
    (subst (λ s. along c.args.segment c.loop-stop.last <ℤ along c.args.segment s.hi) c.segment.view_is (c.loop-stop.invariant.short some))
