use Rattle.kit_words.proofs.Common.{◌≡◌, ◌≤◌, ◌<◌, ◌+◌, ◌∙◌, ap, List, [], ◌∷◌, Bool, true, false, cond, length, get_or, take, take_while}
use Rattle.kit_words.proofs.Common.{prefix_len, one-add, false≢true, subst, sym, arith, All-same, All-take, All-drop}
use Rattle.std.proofs.Common.{length-drop}
use Rattle.grid_geometry.specs.Common.{segment_eq}
use Rattle.segment_index.proofs.Common.{segment_eq-is, is-itself}
use Rattle.segment_paths.specs.declared.stop.Stop.{Stop}
use Rattle.segment_paths.specs.Common.{ArePaths, paths_seen, IsStop}
use Rattle.segment_paths.proofs.Led.{no_paths, at_place}
use Rattle.segment_paths.proofs.ways.paths_of.Goals as goal

pub loop-rest-init : goal.loop-rest-init
loop-rest-init g c ss h = (subst (λ ps. ArePaths ss (paths_seen ps)) (sym c.new-paths.ensures.items) (no_paths ss), h)

first_counts : (rest : List Stop) (first : Stop) → 1 ≤ length rest → first ≡ get_or rest 0 first
    → 0 < length (take_while (λ s. segment_eq s.segment first.segment) rest)
first_counts [] first l e = absurd (omega arith)
first_counts (r ∷ rest) first l e =
    by (segment_eq r.segment first.segment) (ap (λ s. segment_eq s.segment first.segment) (sym e) ∙ segment_eq-is first.segment first.segment ∙ is-itself first.segment)
  where
    by : (b : Bool) → b ≡ true → 0 < length (take (cond b (1 + prefix_len (λ s. segment_eq s.segment first.segment) rest) 0) (r ∷ rest))
    by true h = subst (λ n. 0 < length (take n (r ∷ rest))) (sym (one-add (prefix_len (λ s. segment_eq s.segment first.segment) rest))) (omega arith)
    by false h = absurd (false≢true h)

pub loop-rest-smaller : goal.loop-rest-smaller
loop-rest-smaller g c =
    let rest = c.loop-rest.rest.now in
    omega (arith, c.run_of.ensures.value, first_counts rest c.first-item.result c.in-len1-up.len_at_least c.first-item.is, length-drop c.run_of.result rest, ap length c.split_at.ensures.back, c.in-len1-up.len_at_least)

pub loop-rest-preserved : goal.loop-rest-preserved
loop-rest-preserved g c ss h =
    let rest = c.loop-rest.rest.now in
    let n = c.run_of.result in
    let k = c.loop-rest.invariant ss h in (
      c.in_ok-push_path.ensures ss k.0 (at_place (IsStop ss) rest 0 c.first-item.result k.1 (omega (arith, c.in-len1-up.len_at_least)) c.first-item.is).among
          (λ some. c.in_ok-inner.ensures.way some) (c.in_ok-inner.ensures.known ss (All-same (IsStop ss) _ _ c.split_at.ensures.front (All-take (IsStop ss) n rest k.1))),
      All-same (IsStop ss) _ _ c.split_at.ensures.back (All-drop (IsStop ss) n rest k.1),
    )

pub returns : goal.returns
returns g c ss h = (c.loop-rest.invariant ss h).0
