use Rattle.kit_words.proofs.Common.{◌≡◌, ◌==◌, List, [], ◌∷◌, Bool, true, length, ap, subst, sym, refl, ◌∙◌, arith, nat_tests, is_ok, Contains, IsStrictlySortedBy}
use Rattle.grid_geometry.specs.Common.{Segment, segment_cmp}
use Rattle.segment_paths.specs.Common.{inner_of, links_of, paths_seen, segments_with_path}
use Rattle.segment_paths.proofs.Gathering.{found_in}
use Rattle.segment_paths.proofs.Linked.{own_link}
use Rattle.segment_paths.proofs.ways.Ways.is_whole.Goals as goal

none_left : {X : Type 0} (xs : List X) (empty : Bool) → empty ≡ (length xs == 0) → empty ≡ true → xs ≡ []
none_left [] empty e h = refl
none_left (x ∷ xs) empty e h = grind (arith, nat_tests)

pub returns-in-Ok-clause-among : goal.returns-in-Ok-clause-among
returns-in-Ok-clause-among g c h = found_in c.args.self.now.segments.now c.args.link c.binary_search.result c.binary_search.ensures.bound c.binary_search.ensures.ok (ap is_ok c.in-Ok.is)

pub returns-in-Ok-clause-alone : goal.returns-in-Ok-clause-alone
returns-in-Ok-clause-alone g c h sorted =
    let s : Segment = record { lo = c.link.inside.lo; hi = c.link.inside.hi } in
    let paths = paths_seen c.args.self.now.paths.items in
    let same = c.as_slice.ensures.value in
    let found = c.positions_between.ensures (subst (λ ps. IsStrictlySortedBy segment_cmp (segments_with_path (paths_seen ps))) (sym same) sorted) in
    let none : inner_of paths s ≡ [] =
    ap (λ ps. inner_of (paths_seen ps) s) (sym same) ∙ sym found ∙ none_left c.positions_between.result.now c.is_empty.result c.is_empty.ensures h in
    subst (λ t. Contains (links_of paths t) t) c.link.view_is (own_link paths s c.link.invariant none)
