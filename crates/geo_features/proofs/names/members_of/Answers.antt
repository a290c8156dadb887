use Rattle.kit_words.proofs.Common.{rules, refl, ap, ◌++◌, ◌∷◌, [], map, string_bytes}
use Rattle.json_spans.specs.Common.{node}
use Rattle.topo_outline.specs.Common.{EntryNode, view_kept, word_of}
use Rattle.topo_outline.proofs.Naming.{one_more, tested, named_turn, named_again, named_end}
use Rattle.geo_features.proofs.Naming.{kept_stop, kept_wrong, kept_done, kept_more, opened}
use Rattle.geo_features.proofs.names.members_of.Goals as goal

pub loop-member-init : goal.loop-member-init
loop-member-init g c = record {
  texts = [];
  front = [];
  seen = λ t. rw c.new-seen.ensures.empty refl;
  found = ap (map view_kept) c.new-found.ensures.items;
  rest = search rules;
}

pub returns-in-Err : goal.returns-in-Err
returns-in-Err g c = kept_stop c.in-Err.fault _ _ _ _ _ _ c.in-Some.ensures.steps c.in-Err.ensures c.loop-member.invariant.rest

pub returns-then-not-new : goal.returns-then-not-new
returns-then-not-new g c = (
  _,
  refl,
  rw c.unquoted.ensures (kept_wrong _ _ (named_again _ _ _ _ _ _ _ c.in-Some.ensures.steps (opened _ _ c.in-Ok.ensures) (tested _ _ _ _ _ c.loop-member.invariant.seen c.in_ok-new.ensures.new c.if-not-new.true) c.loop-member.invariant.rest)),
)

pub returns : goal.returns
returns g c = kept_done c.loop-member.invariant.front _ _ (named_end _ _ _ _ c.in-None.ensures.steps.0 c.loop-member.invariant.rest) c.loop-member.invariant.found

pub loop-member-preserved : goal.loop-member-preserved
loop-member-preserved g c =
    let said = string_bytes c.in-Ok.value in
    let next : EntryNode = record { word = word_of said; name = node c.in-Some.member.0; value = node c.in-Some.member.1 } in
    record {
      texts = c.loop-member.invariant.texts ++ said ∷ [];
      front = c.loop-member.invariant.front ++ next ∷ [];
      seen = one_more _ _ _ _ c.loop-member.invariant.seen c.in_ok-new.ensures.names;
      found = kept_more _ _ _ c.loop-member.invariant.front next c.in_ok-push.ensures.items c.loop-member.invariant.found refl;
      rest = named_turn _ _ said _ _ _ _ c.in-Some.ensures.steps (opened _ _ c.in-Ok.ensures) (tested _ _ _ _ _ c.loop-member.invariant.seen c.in_ok-new.ensures.new c.if-not-new.false) c.loop-member.invariant.rest;
    }
