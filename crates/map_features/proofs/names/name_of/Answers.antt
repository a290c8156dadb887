use Rattle.json_spans.specs.Common.{nodes}
use Rattle.map_features.proofs.NamingLemmas.{ended, found, passed}
use Rattle.map_features.proofs.names.name_of.Goals as goal

pub returns-then-names_feature : goal.returns-then-names_feature
returns-then-names_feature c = found (nodes c.in-Some.member) _ _ _ c.in-Some.ensures.steps (cc) c.loop-member.invariant

pub loop-member-preserved : goal.loop-member-preserved
loop-member-preserved c = passed (nodes c.in-Some.member) _ _ _ c.in-Some.ensures.steps (cc) c.loop-member.invariant

pub returns : goal.returns
returns c = ended _ _ c.in-None.ensures.steps.0 c.loop-member.invariant
