use Rattle.kit_words.proofs.Common.{subst, sym, All, All-same, All-append}
use Rattle.segment_paths.specs.Common.{ArePaths, paths_seen, IsStop, IsPiece}
use Rattle.segment_paths.proofs.ways.Ways.with.Goals as goal

pub returns : goal.returns
returns g c ss h more =
    let before = All-same (IsStop ss) _ _ c.in_ok-stops.ensures.items (All-same (IsStop ss) _ _ c.as_slice.ensures.value h.stops) in
    let stops = c.sort_stops.ensures ss (All-same (IsStop ss) _ _ c.in_ok-extend_from_slice.ensures.items (All-append (IsStop ss) _ _ before more)) in
    let paths = c.in_ok-paths.ensures ss (All-same (IsStop ss) _ _ c.as_slice-2.ensures.value stops) in
    record {
      segments = h.segments;
      stops = stops;
      paths = paths;
      links = subst (λ p. All (IsPiece ss (paths_seen p)) c.in_ok-links.links.items) c.as_slice-3.ensures.value (c.in_ok-links.ensures ss (subst (λ p. ArePaths ss (paths_seen p)) (sym c.as_slice-3.ensures.value) paths));
    }
