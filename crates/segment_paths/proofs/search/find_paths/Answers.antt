use Rattle.kit_words.proofs.Common.{◌≡◌, ◌+◌, None, Some, Option, ap, refl, subst, arith, All-same}
use Rattle.segment_paths.specs.Common.{IsPathFault, inner_positions, paths_seen, IsStop}
use Rattle.segment_paths.proofs.Conflicting.{handed, has_more}
use Rattle.segment_paths.proofs.Led.{ways_none}
use Rattle.segment_paths.proofs.search.find_paths.Goals as goal

no_pair : {X : Type 0} (o : Option X) (x : X) → o ≡ None → o ≡ Some x → ⊥
no_pair o x h k = cc

pub loop-round-init : goal.loop-round-init
loop-round-init g c = record {
  ways = ways_none c.args.segments.now _ c.new.ensures.items c.new-2.ensures.items c.new-3.ensures.items refl;
  room = omega (arith, ap (λ ps. inner_positions (paths_seen ps)) c.new-2.ensures.items);
  stops = c.in_ok-round.ensures.round.stops c.args.segments.now (ways_none c.args.segments.now _ c.new.ensures.items c.new-2.ensures.items c.new-3.ensures.items refl);
  needed = λ least. (c.in_ok-round.ensures.round.needed c.new-3.ensures.items least, c.new-2.ensures.items);
  conflict = c.in_ok-round.ensures.round.conflict c.args.segments.now (ways_none c.args.segments.now _ c.new.ensures.items c.new-2.ensures.items c.new-3.ensures.items refl);
}

pub loop-round-preserved : goal.loop-round-preserved
loop-round-preserved g c =
    let v = c.loop-round.invariant in
    let ss = c.args.segments.now in
    let ways = c.in_ok-next.ensures ss v.ways (All-same (IsStop ss) _ _ c.as_slice.ensures.value v.stops) in
    record {
      ways = ways;
      room = subst (λ ps. c.in-Some-room_after.left + inner_positions (paths_seen ps) ≡ c.args.most) c.as_slice-in-Some.ensures.value c.in-Some-room_after.ensures;
      stops = c.in_ok-round-2.ensures.round.stops ss ways;
      needed = λ least. absurd (no_pair _ _ (v.needed least).0 c.in-Some.is);
      conflict = c.in_ok-round-2.ensures.round.conflict ss ways;
    }

pub returns-in_err-round-clause-fault : goal.returns-in_err-round-clause-fault
returns-in_err-round-clause-fault g c =
    handed (IsPathFault c.args.segments.now c.args.most) c.in_err-round.field-0.0 c.from_residual.result c.from_residual.ensures.1
    (c.in_err-round.ensures.fault c.args.segments.now (ways_none c.args.segments.now _ c.new.ensures.items c.new-2.ensures.items c.new-3.ensures.items refl))

pub returns-in_default-room_after-clause-fault : goal.returns-in_default-room_after-clause-fault
returns-in_default-room_after-clause-fault g c =
    let v = c.loop-round.invariant in
    let ss = c.args.segments.now in
    has_more ss c.args.most c.as_slice-in-Some.result.now c.in_ok-next.next.paths.items c.as_slice-in-Some.ensures.value
    (c.in_ok-next.ensures ss v.ways (All-same (IsStop ss) _ _ c.as_slice.ensures.value v.stops)).paths
    c.in_default-room_after.ensures

pub returns-in_err-round-2-clause-fault : goal.returns-in_err-round-2-clause-fault
returns-in_err-round-2-clause-fault g c =
    let v = c.loop-round.invariant in
    let ss = c.args.segments.now in
    handed (IsPathFault ss c.args.most) c.in_err-round-2.field-0.0 c.from_residual-in_err-round-2.result c.from_residual-in_err-round-2.ensures.1
    (c.in_err-round-2.ensures.fault ss (c.in_ok-next.ensures ss v.ways (All-same (IsStop ss) _ _ c.as_slice.ensures.value v.stops)))
