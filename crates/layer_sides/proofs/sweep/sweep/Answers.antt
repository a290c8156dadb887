use Rattle.kit_words.proofs.Common.{sym, subst}
use Rattle.layer_sides.specs.Common.{is_under_way}
use Rattle.layer_sides.specs.Seen.{borders_seen, segments_seen, vertices_seen}
use Rattle.layer_sides.specs.Under.{AreSegments, AreVertices, StandsAtEach}
use Rattle.layer_sides.proofs.Asked.{all_ascend, none_conflict, none_of}
use Rattle.layer_sides.proofs.Sweeping.{swept}
use Rattle.layer_sides.proofs.sweep.sweep.Goals as goal

pub go_over_all-requires-clause-apart : goal.go_over_all-requires-clause-apart
go_over_all-requires-clause-apart g c = none_conflict (borders_seen c.args.borders.now.items) c.requires.apart

pub go_over_all-requires-clause-sorted : goal.go_over_all-requires-clause-sorted
go_over_all-requires-clause-sorted g c = all_ascend (borders_seen c.args.borders.now.items) c.requires.sorted

pub returns-clause-swept : goal.returns-clause-swept
returns-clause-swept g c =
    let segments : AreSegments (segments_seen c.args.borders.now.items) =
    subst (λ xs. AreSegments (segments_seen xs)) c.as_slice.ensures.value (c.disordered.ensures (none_of c.disordered.result c.in_default.not-Some)) in
    let vertices : AreVertices (segments_seen c.args.borders.now.items) (vertices_seen c.in_ok-vertices.vertices.items) =
    subst (λ xs. AreVertices (segments_seen xs) (vertices_seen c.in_ok-vertices.vertices.items)) c.as_slice-2.ensures.value c.in_ok-vertices.ensures in
    let same = c.in_ok-go_over_all.ensures.segments in
    swept (borders_seen c.go_over_all.new.borders.items) (vertices_seen c.in_ok-vertices.vertices.items)
    (subst AreSegments (sym same) segments)
    (subst (λ ss. AreVertices ss (vertices_seen c.in_ok-vertices.vertices.items)) (sym same) vertices)
    (subst (λ vs. StandsAtEach (borders_seen c.go_over_all.new.borders.items) is_under_way (vertices_seen vs)) c.as_slice-3.ensures.value c.in_ok-go_over_all.ensures.stands)
