use Rattle.kit_words.proofs.Common.{arith, sym, ◌∙◌}
use Rattle.map_features.proofs.ValueLemmas.{cut_none, cut_step, cut_stop}
use Rattle.map_features.proofs.values.cut_end.Goals as goal

pub loop-end-preserved : goal.loop-end-preserved
loop-end-preserved c = record {
  value = cut_step c.args.words.now c.loop-end.end (omega arith) (cc) ∙ c.loop-end.invariant.value;
  within = omega arith;
}

pub returns-else-is_within-clause-value : goal.returns-else-is_within-clause-value
returns-else-is_within-clause-value c = sym (cut_stop c.args.words.now c.loop-end.end (cc)) ∙ c.loop-end.invariant.value

pub returns-after-loop-end-clause-value : goal.returns-after-loop-end-clause-value
returns-after-loop-end-clause-value c = sym (cut_none c.args.words.now c.loop-end.end (omega arith)) ∙ c.loop-end.invariant.value
