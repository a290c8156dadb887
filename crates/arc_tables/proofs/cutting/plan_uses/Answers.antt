use Rattle.kit_words.proofs.Common.{◌≡◌, Contains, subst, sym, ap, ◌∙◌, ◌++◌, [], ◌∷◌, inl, inr, get_or, refl, flat_map}
use Rattle.std.proofs.Common.{take_all}
use Rattle.slab.specs.Slab.{get}
use Rattle.arc_tables.specs.Common.{both_parts, NewUses, HasRing, Doubles}
use Rattle.arc_tables.proofs.StoreLemmas.{has_more, taken_cases, pushed_each, doubles_there, not_there}
use Rattle.arc_tables.proofs.cutting.plan_uses.Goals as goal
use Rattle.arc_tables.proofs.cutting.plan_uses.Goals.{in-Some+in_ok-uses+in_ok-push, in_default}

pub loop-r-preserved : goal.loop-r-preserved
loop-r-preserved g c = elim c.match-get.branch [
  | in-Some+in_ok-uses+in_ok-push w ↦
      let e : NewUses _ = record { ring = get_or c.args.users.now c.loop-r.r-index 0; uses = w.in_ok-uses.uses } in
      let items : c.match-get.news.items ≡ c.loop-r.news.items ++ e ∷ [] = ap (λ z. z.items) w.news-is ∙ w.in_ok-push.ensures.items in
      record {
        each = subst (λ z. (d : NewUses _) → Contains z d → Doubles c.args.rings.now c.args.i c.args.n d) (sym items)
            (pushed_each (Doubles c.args.rings.now c.args.i c.args.n) c.loop-r.news.items e c.loop-r.invariant.each
            (doubles_there c.args.rings.now c.args.i c.args.n e w.in-Some.ring.now w.in-Some.ensures (w.in_ok-uses.ensures ∙ ap (flat_map (both_parts c.args.i c.args.n)) w.as_slice.ensures.value)));
        all = λ r m h. subst (λ z. HasRing z r) (sym items) (has_more c.loop-r.news.items e c.args.users.now c.loop-r.r-index r c.loop-r-test.true refl m (λ k. c.loop-r.invariant.all r k h));
      }
  | in_default w ↦ record {
    each = λ d m. c.loop-r.invariant.each d (subst (λ z. Contains z d) (ap (λ z. z.items) w.news-is) m);
    all = λ r m h. elim (taken_cases c.args.users.now c.loop-r.r-index r c.loop-r-test.true m) [
      | inl k ↦ subst (λ z. HasRing z r) (sym (ap (λ z. z.items) w.news-is)) (c.loop-r.invariant.all r k h)
      | inr k ↦ absurd (not_there c.args.rings.now r (w.in_default.ensures ∙ ap (get c.args.rings.now) k) h)
    ];
  }
]

pub returns-clause-all : goal.returns-clause-all
returns-clause-all g c = λ r m h. c.loop-r.invariant.all r (subst (λ z. Contains z r) (sym (take_all c.loop-r.r-index c.args.users.now c.loop-r-test.false)) m) h
