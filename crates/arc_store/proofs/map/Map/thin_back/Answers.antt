use Rattle.kit_words.proofs.Common.{map, sym, ap, ◌∙◌, subst, fold}
use Rattle.edit_records.specs.Common.{AreRemoved, put_back}
use Rattle.arc_store.specs.Common.{removal_seen}
use Rattle.arc_store.proofs.PutBack.{seen_reversed}
use Rattle.arc_store.proofs.map.Map.thin_back.Goals as goal

pub put_back_all-requires : goal.put_back_all-requires
put_back_all-requires g c = record {
  fits = subst (AreRemoved c.args.self.now.doc)
      (sym (ap (map removal_seen) (c.as_slice.ensures.value ∙ c.reverse.ensures.items) ∙ seen_reversed c.args.removals.items)) c.requires.fits;
}

pub returns-in-Ok-clause-put : goal.returns-in-Ok-clause-put
returns-in-Ok-clause-put g c =
    c.in-Ok.ensures.put
    ∙ ap (λ rs. record c.args.self.now { doc = fold put_back c.args.self.now.doc rs })
    (ap (map removal_seen) (c.as_slice.ensures.value ∙ c.reverse.ensures.items) ∙ seen_reversed c.args.removals.items)
