use Rattle.kit_words.proofs.Common.{◌-◌, [], ◌∷◌, sym, ap, ◌∙◌, subst, take, arith}
use Rattle.arc_tables.specs.Common.{links, taken_back, WerePut, path_of}
use Rattle.arc_tables.proofs.Putting.{taken_last, last_of, taken_back-append, last_apart, last_beside, were_before, once_left}
use Rattle.arc_tables.proofs.tables.Tables.take_back_all.Goals as goal

pub take_back-requires-clause-apart : goal.take_back-requires-clause-apart
take_back-requires-clause-apart g c =
    last_apart _ _ _ (last_of c.args.puts.now c.loop-left.left c.index-puts-left.result (path_of c.loop-left.self) (omega (arith, c.loop-left-test.true)) c.loop-left.invariant.within c.index-puts-left.is c.loop-left.invariant.put)

pub take_back-requires-clause-beside : goal.take_back-requires-clause-beside
take_back-requires-clause-beside g c =
    last_beside _ _ _ (last_of c.args.puts.now c.loop-left.left c.index-puts-left.result (path_of c.loop-left.self) (omega (arith, c.loop-left-test.true)) c.loop-left.invariant.within c.index-puts-left.is c.loop-left.invariant.put)

pub loop-left-preserved : goal.loop-left-preserved
loop-left-preserved g c =
    let puts = c.args.puts.now in
    let p = c.index-puts-left.result in
    let left = c.loop-left.left in
    let path = path_of c.loop-left.self in
    let new = path_of c.take_back.new.self in
    let last = taken_last puts left p (omega (arith, c.loop-left-test.true)) c.loop-left.invariant.within c.index-puts-left.is in
    let were = subst (λ z. WerePut z path) last c.loop-left.invariant.put in
    record {
      within = omega (arith, c.loop-left.invariant.within);
      whole = c.take_back.ensures.whole;
      once = once_left (take (left - 1) puts) p path were new c.take_back.ensures.ok c.loop-left.invariant.once;
      put = were_before (take (left - 1) puts) p path were new c.take_back.ensures.ok;
      back = λ i. ap (taken_back (take (left - 1) puts)) (c.take_back.ensures.ok i) ∙ sym (taken_back-append (take (left - 1) puts) (p ∷ []) (links (path i))) ∙ ap (λ z. taken_back z (links (path i))) (sym last) ∙ c.loop-left.invariant.back i;
      rings = c.take_back.ensures.rings ∙ c.loop-left.invariant.rings;
    }
