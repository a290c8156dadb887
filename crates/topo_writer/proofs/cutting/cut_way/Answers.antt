use Rattle.kit_words.proofs.Common.{arith, ◌≡◌, ◌+◌, ◌<◌, ◌||◌, ◌++◌, ◌∷◌, [], if◌then◌else◌, ◌∙◌, sym, ap, subst}
use Rattle.kit_words.proofs.Common.{length, drop, drop_all, length-append}
use Rattle.std.proofs.Common.{append-nil}
use Rattle.topo_writer.specs.Common.{cut_between, cut_after, is_done, Rising}
use Rattle.topo_writer.proofs.Cuts.{open_part, place_step, rising_step}
use Rattle.topo_writer.proofs.Marks.{mark_at}
use Rattle.topo_writer.proofs.cutting.cut_way.Goals as goal

pub loop-i-preserved : goal.loop-i-preserved
loop-i-preserved g c =
    let way = c.args.way.now in
    let i = c.loop-i.i in
    let l : i < length way = omega arith in
    let old = c.loop-i.cuts.items in
    let new = c.note_end.new.cuts.items in
    let ends = c.ends_at-ends.result in
    record {
      some = omega (arith, c.loop-i.invariant.some, ap length c.in_ok-note_end.ensures, length-append old (if ends then (i ∷ []) else []));
      rising = rising_step i ends old new c.in_ok-note_end.ensures c.loop-i.invariant.rising;
      pieces = λ junction h.
          place_step way i l junction ends old new c.loop-i.invariant.some c.loop-i.invariant.rising
          (c.ends_at-ends.ensures
          ∙ ap (λ b. is_done (drop (i + 1) way) || b) (mark_at junction way c.args.marks.now i h (omega (arith, c.requires.marks))))
          c.in_ok-note_end.ensures ∙ c.loop-i.invariant.pieces junction h;
    }

pub returns-clause-rising : goal.returns-clause-rising
returns-clause-rising g c =
    let all : c.loop-i.i ≡ length c.args.way.now = omega (arith, c.requires.long) in
    subst (λ n. Rising n c.loop-i.cuts.items) all c.loop-i.invariant.rising

pub returns-clause-pieces : goal.returns-clause-pieces
returns-clause-pieces g c junction h =
    let way = c.args.way.now in
    let i = c.loop-i.i in
    let cuts = c.loop-i.cuts.items in
    sym (append-nil (cut_between way cuts))
    ∙ ap (λ z. cut_between way cuts ++ cut_after junction (open_part way i cuts) z) (sym (drop_all i way (omega arith)))
    ∙ c.loop-i.invariant.pieces junction h
