use Rattle.kit_words.proofs.Common.{◌≡◌, length, ap, ◌∙◌, arith, subst, All}
use Rattle.layer_sides.specs.Levels.{bottom}
use Rattle.layer_sides.specs.Seen.{segments_seen, vertices_seen}
use Rattle.layer_sides.specs.Under.{BegunAt, Notes}
use Rattle.layer_sides.proofs.Noting.{noted_all, noted_same, rising_same}
use Rattle.layer_sides.proofs.Seeing.{length_seen, segment_item}
use Rattle.layer_sides.proofs.vertices.note_all.Goals as goal

pub loop-place-preserved : goal.loop-place-preserved
loop-place-preserved g c =
    let xs = c.args.borders.now in
    let ss = segments_seen xs in
    let place = c.loop-place.place in
    let old = vertices_seen c.loop-place.vertices.items in
    let new = vertices_seen c.note.new.vertices.items in
    let at = c.bottom_of.ensures ∙ ap bottom (segment_item xs place c.index-borders-place.result c.loop-place-test.true c.index-borders-place.is) in
    let notes = subst (λ p. Notes place p old new) at c.in_ok-note.ensures in
    let rising = rising_same (vertices_seen c.args.vertices.now.items) old c.loop-place.invariant.0 c.requires.rising in
    (noted_same ss place old new notes ∙ c.loop-place.invariant.0, noted_all ss place old new rising notes c.loop-place.invariant.1)

pub returns-clause-begun : goal.returns-clause-begun
returns-clause-begun g c =
    let xs = c.args.borders.now in
    let all : c.loop-place.place ≡ length (segments_seen xs) =
    omega (arith, c.loop-place-test.false, c.loop-place.auto.place-end, length_seen xs) in
    subst (λ n. All (BegunAt (segments_seen xs) n) (vertices_seen c.loop-place.vertices.items)) all c.loop-place.invariant.1
