use Rattle.kit_words.proofs.Common.{sym, ◌∙◌, subst, arith, length, ◌≢◌}
use Rattle.script_lines.proofs.WordLemmas.{is_nil}
use Rattle.script_lines.proofs.CommandLemmas.{not_empty}
use Rattle.script_lines.proofs.PathLemmas.{Read, read_none, read_more, read_all, too_many, whole_path, place_shorter}
use Rattle.script_lines.proofs.paths.read_path.Goals as goal
use Rattle.script_lines.proofs.paths.read_path.Goals.{else-is_empty-via-then-is_empty+else-len-ge-MIN_PATH, else-is_empty-via-else-is_empty}

pub loop-place-init : goal.loop-place-init
loop-place-init c = subst (Read c.args.bytes.now c.args.bytes.now) (sym c.new-path.ensures.items) (read_none c.args.bytes.now)

pub loop-place-preserved : goal.loop-place-preserved
loop-place-preserved c =
    let room : length c.loop-place.path.items ≢ 256 = λ e. c.if-len-eq-MAX_PATH.false (c.len.ensures ∙ c.loop-place.path.ok.0 ∙ e) in
    subst (Read c.args.bytes.now c.in-Some.place.1.now) (sym c.in_ok-push.ensures.items)
    (read_more c.args.bytes.now c.loop-place.rest.now c.loop-place.path.items c.loop-place.invariant c.in-Some.place.1.now c.in-Some.place.0 c.in-Some.ensures room)

pub loop-place-smaller : goal.loop-place-smaller
loop-place-smaller c = place_shorter c.loop-place.rest.now c.in-Some.place.1.now c.in-Some.place.0 c.in-Some.ensures

pub returns-then-len-eq-MAX_PATH : goal.returns-then-len-eq-MAX_PATH
returns-then-len-eq-MAX_PATH c = λ path h.
    too_many c.args.bytes.now c.loop-place.rest.now c.loop-place.path.items c.loop-place.invariant c.in-Some.place.1.now c.in-Some.place.0 c.in-Some.ensures
    (sym (c.len.ensures ∙ c.loop-place.path.ok.0) ∙ c.if-len-eq-MAX_PATH.true) path h

pub returns-then-len-ge-MIN_PATH : goal.returns-then-len-ge-MIN_PATH
returns-then-len-ge-MIN_PATH c =
    read_all c.args.bytes.now c.loop-place.rest.now c.loop-place.path.items c.loop-place.invariant (is_nil c.loop-place.rest.now (sym c.is_empty.ensures ∙ c.if-is_empty.true)) (omega arith)

pub returns-else-is_empty : goal.returns-else-is_empty
returns-else-is_empty c = λ path h.
    let both = whole_path c.args.bytes.now c.loop-place.rest.now c.loop-place.path.items c.loop-place.invariant c.in_default.ensures path h in
    elim c.else-is_empty.branch [
      | else-is_empty-via-then-is_empty+else-len-ge-MIN_PATH w ↦ absurd (omega (arith, both.1, w.len-then-is_empty.ensures, c.loop-place.path.ok.0, w.if-len-ge-MIN_PATH.false))
      | else-is_empty-via-else-is_empty w ↦ not_empty c.loop-place.rest.now (sym c.is_empty.ensures ∙ w.if-is_empty.false) both.0
    ]
