use Rattle.kit_words.proofs.Common.{sym, subst}
use Rattle.ring_machine.specs.Common.{path_of}
use Rattle.ring_parts.specs.Common.{path_seen}
use Rattle.arc_store.specs.Common.{IsCuttable, IsFound}
use Rattle.arc_store.proofs.SplitPlan.{cuttable}
use Rattle.arc_store.proofs.map.Map.raw_split.Goals as goal

pub test_cut-requires-clause-cuttable : goal.test_cut-requires-clause-cuttable
test_cut-requires-clause-cuttable g c =
    cuttable c.args.self.now.doc c.args.n (path_seen c.in-Some.path) (path_of c.args.positions.now) c.in-Some.ensures.value c.find_cut.ensures.formed c.find_cut.ensures.proper
    c.requires.there c.requires.inside c.requires.cut c.requires.different c.requires.free c.requires.new

-- the tests left the document as it was
pub exchange_parts-requires-clause-cuttable : goal.exchange_parts-requires-clause-cuttable
exchange_parts-requires-clause-cuttable g c =
    subst (λ s. IsCuttable s.doc c.args.n (path_seen c.in-Some.path)) (sym c.test_cut.ensures.unchanged)
    (cuttable c.args.self.now.doc c.args.n (path_seen c.in-Some.path) (path_of c.args.positions.now) c.in-Some.ensures.value c.find_cut.ensures.formed c.find_cut.ensures.proper
    c.requires.there c.requires.inside c.requires.cut c.requires.different c.requires.free c.requires.new)

pub exchange_parts-requires-clause-found : goal.exchange_parts-requires-clause-found
exchange_parts-requires-clause-found g c =
    subst (λ s. IsFound s.doc c.args.n (path_seen c.in-Some.path) c.in_ok-found.found) (sym c.test_cut.ensures.unchanged) c.in_ok-found.ensures.found
