use Rattle.kit_words.proofs.Common.{◌≡◌, sym, ap, ◌∙◌, subst, to_z, of_z, arith, w128, ints, false≢true}
use Rattle.ring_machine.specs.Common.{Proper}
use Rattle.ring_machine.proofs.Common.{removed}
use Rattle.segment_index.specs.Common.{times_by}
use Rattle.arc_store.specs.Common.{State}
use Rattle.edit_vertex.proofs.Passing.{is_thin, thin_vertex, thin_inner, thin_gone, thin_refused, thin_bridged, thin_passed, most_thin}
use Rattle.edit_vertex.proofs.Removing.{unbridged_long}
use Rattle.edit_vertex.proofs.ThinKept.{left_one, left_as_is}
use Rattle.edit_vertex.proofs.thinning.thin_at.Goals as goal

pub returns-then-not-is_thin-clause-thinned : goal.returns-then-not-is_thin-clause-thinned
returns-then-not-is_thin-clause-thinned g c = λ n.
    let same : to_z w128 (of_z w128 c.args.t) ≡ c.args.t = omega (arith, ints) in
    thin_passed c.args.t c.args.map.now.doc c.args.p n (ap (λ t. is_thin t c.args.map.now.doc c.args.p) (sym same) ∙ sym c.is_thin.ensures ∙ c.if-not-is_thin.true)

pub is_bridged-requires : goal.is_bridged-requires
is_bridged-requires g c =
    let same : to_z w128 (of_z w128 c.args.t) ≡ c.args.t = omega (arith, ints) in
    record { inner = thin_inner c.args.t c.args.map.now.doc c.args.p (ap (λ t. is_thin t c.args.map.now.doc c.args.p) (sym same) ∙ sym c.is_thin.ensures ∙ c.if-not-is_thin.false) }

pub returns-then-is_bridged-clause-thinned : goal.returns-then-is_bridged-clause-thinned
returns-then-is_bridged-clause-thinned g c = λ n.
    let same : to_z w128 (of_z w128 c.args.t) ≡ c.args.t = omega (arith, ints) in
    thin_bridged c.args.t c.args.map.now.doc c.args.p n (ap (λ t. is_thin t c.args.map.now.doc c.args.p) (sym same) ∙ sym c.is_thin.ensures ∙ c.if-not-is_thin.false) (sym c.is_bridged.ensures ∙ c.if-is_bridged.true)

pub raw_thin-requires : goal.raw_thin-requires
raw_thin-requires g c =
    let same : to_z w128 (of_z w128 c.args.t) ≡ c.args.t = omega (arith, ints) in
    let thin = ap (λ t. is_thin t c.args.map.now.doc c.args.p) (sym same) ∙ sym c.is_thin.ensures ∙ c.if-not-is_thin.false in
    let apart = sym c.is_bridged.ensures ∙ c.if-is_bridged.false in
    record {
      vertex = thin_vertex c.args.t c.args.map.now.doc c.args.p thin;
      inner = thin_inner c.args.t c.args.map.now.doc c.args.p thin;
      long = unbridged_long c.args.map.now.doc c.args.p c.requires.proper apart;
      unjoined = apart;
      thinning = c.requires.thinning;
    }

pub returns-in-Ok-clause-thinned : goal.returns-in-Ok-clause-thinned
returns-in-Ok-clause-thinned g c = λ n.
    let same : to_z w128 (of_z w128 c.args.t) ≡ c.args.t = omega (arith, ints) in
    let made = c.in-Ok.ensures.edits.made in
    thin_gone c.args.t c.args.map.now.doc c.args.p n (ap (λ t. is_thin t c.args.map.now.doc c.args.p) (sym same) ∙ sym c.is_thin.ensures ∙ c.if-not-is_thin.false) c.in-Ok.ensures.edits.accepted c.raw_thin.new.self.doc (ap (λ (s : State). s.doc) made)

pub returns-in-Ok-clause-proper : goal.returns-in-Ok-clause-proper
returns-in-Ok-clause-proper g c =
    subst (λ (s : State). Proper s.doc) (sym c.in-Ok.ensures.edits.made) (removed c.args.map.now.doc c.args.p c.requires.proper c.in-Ok.ensures.edits.accepted).0

pub returns-in-Ok-clause-recorded : goal.returns-in-Ok-clause-recorded
returns-in-Ok-clause-recorded g c = λ start.
    left_one start c.args.map.now c.raw_thin.new.self c.args.p c.next_number.ensures.held c.in-Ok.ensures.edits.accepted c.in-Ok.ensures.edits.made c.in-Ok.ensures.recorded

pub returns-in-Ok-clause-next : goal.returns-in-Ok-clause-next
returns-in-Ok-clause-next g c = ap (λ (s : State). s.next) c.in-Ok.ensures.edits.made

pub returns-in-Ok-clause-places : goal.returns-in-Ok-clause-places
returns-in-Ok-clause-places g c = ap (λ (s : State). s.places) c.in-Ok.ensures.edits.made

pub returns-in-Ok-clause-cells : goal.returns-in-Ok-clause-cells
returns-in-Ok-clause-cells g c = ap (λ (s : State). s.cells) c.in-Ok.ensures.edits.made

pub returns-in_default : goal.returns-in_default
returns-in_default g c =
    let same : to_z w128 (of_z w128 c.args.t) ≡ c.args.t = omega (arith, ints) in
    let still = c.in-Err.ensures.edits.unchanged in
    record {
      thinned = λ n. thin_refused c.args.t c.args.map.now.doc c.args.p n (ap (λ t. is_thin t c.args.map.now.doc c.args.p) (sym same) ∙ sym c.is_thin.ensures ∙ c.if-not-is_thin.false) c.in-Err.fault c.in-Err.ensures.edits.refused c.in_default.not-OutOfMemory c.raw_thin.new.self.doc (ap (λ (s : State). s.doc) still);
      unchanged = tt;
      proper = subst (λ (s : State). Proper s.doc) (sym still) c.requires.proper;
      recorded = λ start. left_as_is start c.args.map.now c.raw_thin.new.self still;
      gone = λ e. absurd (false≢true e);
      stays = λ _. ap (λ (s : State). s.last) still;
      still = tt;
      next = ap (λ (s : State). s.next) still;
      places = ap (λ (s : State). s.places) still;
      few = omega (arith, c.in-Err.ensures.few, most_thin (times_by c.args.map.now.cells) c.args.t c.args.map.now.doc c.args.p (ap (λ t. is_thin t c.args.map.now.doc c.args.p) (sym same) ∙ sym c.is_thin.ensures ∙ c.if-not-is_thin.false));
      cells = ap (λ (s : State). s.cells) still;
    }

pub returns-in-Ok-clause-few : goal.returns-in-Ok-clause-few
returns-in-Ok-clause-few g c =
    let same : to_z w128 (of_z w128 c.args.t) ≡ c.args.t = omega (arith, ints) in
    omega (arith, c.in-Ok.ensures.few, most_thin (times_by c.args.map.now.cells) c.args.t c.args.map.now.doc c.args.p (ap (λ t. is_thin t c.args.map.now.doc c.args.p) (sym same) ∙ sym c.is_thin.ensures ∙ c.if-not-is_thin.false))
