use Rattle.kit_words.proofs.Common.{◌∙◌, ap, sym, rules, answers_always}
use Rattle.segment_paths.proofs.Searched.{found_at, not_found}
use Rattle.segment_paths.proofs.path.positions_between.Goals as goal

pub returns-in-Ok : goal.returns-in-Ok
returns-in-Ok g c sorted =
    let equal = c.in-Ok.ensures.position (λ path. (path.segment.lo, path.segment.hi)) (answers_always _ _ _ (λ f a r h called. search rules)) in
    c.as_slice.ensures.value
    ∙ ap (λ path. path.inner.items) (sym c.index-paths-place.is)
    ∙ sym (found_at (λ path. path.segment) (λ path. path.inner.items) c.args.paths.now c.in-Ok.place c.index-paths-place.result (record { lo = c.args.lo; hi = c.args.hi }) sorted c.in-Ok.ensures.bound c.index-paths-place.is equal)

pub returns-in-Err : goal.returns-in-Err
returns-in-Err g c sorted =
    let none = c.in-Err.ensures.position (λ path. (path.segment.lo, path.segment.hi)) (answers_always _ _ _ (λ f a r h called. search rules)) in
    sym (not_found (λ path. path.segment) (λ path. path.inner.items) c.args.paths.now _ (record { lo = c.args.lo; hi = c.args.hi }) sorted none)
