use Rattle.kit_words.proofs.Common.{◌≡◌, ℕ, ◌+◌, ◌++◌, [], ◌∷◌, sym, ap, ◌∙◌, subst, take, arith, take_more}
use Rattle.arc_tables.specs.Common.{links, IsOff, throughs, taken_back, ArePuts, rings_of, path_of}
use Rattle.arc_tables.proofs.Gaining.{GainsSoFar, within_gained, one_more_gained, all_gained, through_everywhere}
use Rattle.arc_tables.proofs.Putting.{puts_taken, puts_map, all_undone, one_more_put, once_put}
use Rattle.arc_tables.proofs.tables.Tables.insert_all.Goals as goal

pub uses-count-requires : goal.uses-count-requires
uses-count-requires g c = record { whole = c.loop-at.invariant.whole; once = c.loop-at.invariant.once }

pub overflow_add-count : goal.overflow_add-count
overflow_add-count g c =
    omega (arith, within_gained c.args.puts.now c.loop-at.at c.index-puts-at.result (rings_of c.args.self.now) (rings_of c.loop-at.self) c.loop-at.count c.loop-at-test.true c.index-puts-at.is c.loop-at.invariant.gained, c.uses-count.ensures, c.requires.few)

pub take_back_all-requires-clause-put : goal.take_back_all-requires-clause-put
take_back_all-requires-clause-put g c =
    let path = path_of c.args.self.now in
    record {
      before = λ i. links (path i);
      fits = puts_taken (λ q. (i : ℕ) → IsOff q (links (path i))) c.args.puts.now c.loop-at.at c.requires.fits;
      put = λ i. ap links (c.in-Err.ensures.err i) ∙ c.loop-at.invariant.put i;
    }

pub returns-in-Err-clause-err : goal.returns-in-Err-clause-err
returns-in-Err-clause-err g c = λ i.
    let path = path_of c.args.self.now in
    let puts = c.args.puts.now in
    let done = take c.loop-at.at puts in
    c.take_back_all.ensures.ok i
    ∙ ap (taken_back done) (ap links (c.in-Err.ensures.err i) ∙ c.loop-at.invariant.put i)
    ∙ all_undone done (links (path i)) (puts_map (λ q. (j : ℕ) → IsOff q (links (path j))) (λ q. IsOff q (links (path i))) (λ q h. h i) done (puts_taken (λ q. (j : ℕ) → IsOff q (links (path j))) puts c.loop-at.at c.requires.fits))

pub loop-at-preserved : goal.loop-at-preserved
loop-at-preserved g c =
    let old = path_of c.args.self.now in
    let now = path_of c.loop-at.self in
    let new = path_of c.insert.new.self in
    let puts = c.args.puts.now in
    let at = c.loop-at.at in
    let p = c.index-puts-at.result in
    let next : take (at + 1) puts ≡ take at puts ++ p ∷ [] = take_more puts at p c.loop-at-test.true ∙ ap (λ z. take at puts ++ z ∷ []) (sym c.index-puts-at.is) in
    record {
      whole = c.insert.ensures.whole;
      once = once_put (take at puts) p old now new c.loop-at.invariant.put c.in_default.ensures.ok
          (subst (ArePuts (λ q. (i : ℕ) → IsOff q (links (old i)))) next (puts_taken (λ q. (i : ℕ) → IsOff q (links (old i))) puts (at + 1) c.requires.fits)) c.loop-at.invariant.once;
      put = λ i. one_more_put (take at puts) p old now new c.loop-at.invariant.put c.in_default.ensures.ok i ∙ ap (λ z. throughs z (links (old i))) (sym next);
      rings = c.insert.ensures.rings ∙ c.loop-at.invariant.rings;
      gained = subst (λ n. GainsSoFar (c.loop-at.count + n) puts (at + 1) (rings_of c.args.self.now) (rings_of c.insert.new.self)) (sym c.uses-count.ensures)
          (one_more_gained puts at p (rings_of c.args.self.now) (rings_of c.loop-at.self) c.loop-at.count c.loop-at-test.true c.index-puts-at.is c.loop-at.invariant.gained
          (rings_of c.insert.new.self) (through_everywhere p c.loop-at.self c.insert.new.self c.in_default.ensures.ok c.insert.ensures.rings));
    }

pub returns-clause-count : goal.returns-clause-count
returns-clause-count g c =
    all_gained c.args.puts.now c.loop-at.at (rings_of c.args.self.now) (rings_of c.loop-at.self) c.loop-at.count c.loop-at-test.false c.loop-at.invariant.gained
