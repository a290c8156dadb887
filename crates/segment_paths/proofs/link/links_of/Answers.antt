use Rattle.kit_words.proofs.Common.{Contains, sym, ◌∙◌, All, All-same, All-nil, All-permutation}
use Rattle.segment_paths.specs.Common.{IsKnown, path_of_segment, paths_seen, IsPiece}
use Rattle.segment_paths.proofs.Led.{at_place_seen}
use Rattle.segment_paths.proofs.Linked.{inner_at}
use Rattle.segment_paths.proofs.link.links_of.Goals as goal

pub loop-path-init : goal.loop-path-init
loop-path-init g c ss h = All-same (IsPiece ss (paths_seen c.args.paths.now)) _ _ c.new-links.ensures.items (All-nil (IsPiece ss (paths_seen c.args.paths.now)))

pub loop-path-preserved : goal.loop-path-preserved
loop-path-preserved g c ss h =
    let i = c.loop-path.path-index in
    let path = c.path-item.result in
    let there = at_place_seen (λ p. Contains ss p.0) path_of_segment c.args.paths.now i path h.among c.loop-path-test.true c.path-item.is in
    let known = at_place_seen (λ p. All (IsKnown ss) p.1) path_of_segment c.args.paths.now i path h.known c.loop-path-test.true c.path-item.is in
    c.in_ok-push_links.ensures ss (paths_seen c.args.paths.now) (c.loop-path.invariant ss h) there (All-same (IsKnown ss) _ _ c.as_slice.ensures.value known)
    (inner_at c.args.paths.now i path h.ascending c.loop-path-test.true c.path-item.is ∙ sym c.as_slice.ensures.value)

pub returns : goal.returns
returns g c ss h = All-permutation (IsPiece ss (paths_seen c.args.paths.now)) _ _ c.sort_unstable.ensures.permutation (c.loop-path.invariant ss h)
