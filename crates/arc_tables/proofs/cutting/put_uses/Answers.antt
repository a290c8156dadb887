use Rattle.kit_words.proofs.Common.{◌≡◌, List, [], ◌∷◌, ◌++◌, append_assoc, ap, ◌∙◌, sym, subst, Some, Contains, arith}
use Rattle.kit_words.proofs.Common.{refl, length, append-nil, Contains-append_left, Contains-append_right}
use Rattle.kit_words.proofs.Common.{option_copied_mut}
use Rattle.slab.specs.Slab.{get, Updates, with_value}
use Rattle.slab.proofs.SlabLemmas.{Updates-with_value}
use Rattle.arc_tables.specs.Common.{Ring, uses_in, IsPut}
use Rattle.arc_tables.proofs.StoreLemmas.{put_more, not_there, none_put, still_there, still_held, uses_changed, uses_other}
use Rattle.arc_tables.proofs.cutting.put_uses.Goals as goal

pub loop-new-preserved-in-Some-get_mut : goal.loop-new-preserved-in-Some-get_mut
loop-new-preserved-in-Some-get_mut g c =
    let e = c.in-Some.new in
    let v : Ring _ = record { uses = e.uses } in
    let present = c.loop-new.invariant.there e (subst (λ z. Contains z e) (sym c.in-Some.ensures.items) (Contains-append_right c.pop.new.self.items (e ∷ []) e (0, omega arith, refl))) in
    let u : Updates c.loop-new.rings (with_value c.loop-new.rings e.ring v) e.ring (Some v) = Updates-with_value c.loop-new.rings e.ring v present in
    record {
      there = λ d m. still_there _ _ e.ring v u d.ring (c.loop-new.invariant.there d (subst (λ z. Contains z d) (sym c.in-Some.ensures.items) (Contains-append_left c.pop.new.self.items (e ∷ []) d m)));
      done = e ∷ c.loop-new.invariant.done;
      parts = c.loop-new.invariant.parts ∙ ap (λ z. z ++ c.loop-new.invariant.done) c.in-Some.ensures.items ∙ append_assoc c.pop.new.self.items (e ∷ []) c.loop-new.invariant.done;
      held = λ r. still_held c.loop-new.rings (with_value c.loop-new.rings e.ring v) e.ring v present u r ∙ c.loop-new.invariant.held r;
      put = λ r. put_more e c.loop-new.invariant.done r _ _ _ (c.loop-new.invariant.put r) (λ f. uses_changed _ _ e.ring v u r f) (λ f. uses_other _ _ e.ring v u r f);
    }

no_length : {A : Type 0} (xs : List A) → length xs ≡ 0 → xs ≡ []
no_length [] h = refl
no_length (x ∷ xs) h = absurd (omega arith)

pub returns-clause-put : goal.returns-clause-put
returns-clause-put g c = λ r. subst (λ z. IsPut z r (uses_in (get c.args.rings.now r)) (uses_in (get c.loop-new.rings r))) (sym (c.loop-new.invariant.parts ∙ ap (λ z. z ++ c.loop-new.invariant.done) (no_length c.loop-new.news.items (omega (arith, c.in_default.ensures.cases.0, c.loop-new.news.ok))))) (c.loop-new.invariant.put r)

pub loop-new-init : goal.loop-new-init
loop-new-init g c = record {
  there = c.requires;
  done = [];
  parts = sym (append-nil _);
  held = λ k. refl;
  put = λ r. none_put r (uses_in (get c.args.rings.now r));
}

pub loop-new-preserved : goal.loop-new-preserved
loop-new-preserved g c =
    let e = c.in-Some.new in
    absurd (not_there c.loop-new.rings e.ring (sym (ap option_copied_mut c.in_default-get_mut.is) ∙ c.get_mut.ensures.value)
    (c.loop-new.invariant.there e (subst (λ z. Contains z e) (sym c.in-Some.ensures.items) (Contains-append_right c.pop.new.self.items (e ∷ []) e (0, omega arith, refl)))))
