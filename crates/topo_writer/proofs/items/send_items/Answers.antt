use Rattle.kit_words.proofs.Common.{◌≡◌, sym, ap, ◌∙◌, subst, inl, refl, [], ◌∷◌, ◌++◌, map, append_assoc, true, false}
use Rattle.kit_words.proofs.Common.{flat_map, map-append}
use Rattle.device_io.specs.Common.{Took, TookFront}
use Rattle.device_io.proofs.Common.{sends_front, took_none, took_nothing}
use Rattle.ring_machine.specs.Common.{is_junction}
use Rattle.ring_machine.proofs.Common.{In, in_right}
use Rattle.map_frame.specs.Common.{view_item_view}
use Rattle.map_text.specs.Common.{pieces, with_pieces, items_text}
use Rattle.topo_writer.specs.Common.{of_device, Device, OutOfMemory, item_at, item_rings, items_at, items_written, open_heads, LeadsOn}
use Rattle.topo_writer.specs.Common.{is_begin, more_after, open_after, arcs_in}
use Rattle.topo_writer.proofs.ItemLemmas.{shown_there, written_begins}
use Rattle.topo_writer.proofs.ItemSteps.{heads_step, more_step, sent_step, sent_part, arcs_step}
use Rattle.topo_writer.proofs.Leading.{leads_first, leads_off}
use Rattle.topo_writer.proofs.Sent.{filled}
use Rattle.topo_writer.proofs.items.send_items.Goals as goal

pub loop-item-init : goal.loop-item-init
loop-item-init g c =
    let d = c.args.map.now in
    let begun = c.into_iter-item-iterator.ensures.into_iter_gives in
    record {
      all = sym begun;
      table = c.requires.table;
      leads = subst (λ z. LeadsOn d (arcs_in d c.args.arcs.now) (items_at d z)) (sym begun) c.requires.leads;
      arcs = refl;
      heads = ap open_heads c.new-heads.ensures.items;
      took = took_nothing c.requires.working;
      more = refl;
    }

pub push_item-requires-clause-there : goal.push_item-requires-clause-there
push_item-requires-clause-there g c =
    let done = map view_item_view c.loop-item.yielded in
    let s = view_item_view c.in-Some.item in
    let whole : c.args.items ≡ done ++ s ∷ c.next.new.self = c.loop-item.invariant.all ∙ ap (λ z. done ++ z) c.in-Some.ensures.steps in
    shown_there c.args.map.now c.requires.formed c.args.items c.requires.shows s
    (subst (In s) (sym whole) (in_right s done (s ∷ c.next.new.self) (inl refl)))

pub push_item-requires-clause-leads : goal.push_item-requires-clause-leads
push_item-requires-clause-leads g c =
    let d = c.args.map.now in
    let arcs = arcs_in c.args.map.now c.loop-item.arcs in
    leads_first d arcs (item_at d (view_item_view c.in-Some.item) ∷ []) (items_at d c.next.new.self)
    (subst (λ z. LeadsOn d arcs (items_at d z)) c.in-Some.ensures.steps c.loop-item.invariant.leads)

pub loop-item-preserved : goal.loop-item-preserved
loop-item-preserved g c =
    let d = c.args.map.now in
    let j = is_junction d in
    let l = c.loop-item in
    let done = map view_item_view l.yielded in
    let s = view_item_view c.in-Some.item in
    let rest = c.next.new.self in
    let start = arcs_in c.args.map.now c.args.arcs.now in
    let arcs = arcs_in d l.arcs in
    let next = arcs_in c.args.map.now c.push_item.new.arcs in
    let seen : map view_item_view (l.yielded ++ c.in-Some.item ∷ []) ≡ done ++ s ∷ [] = map-append view_item_view l.yielded (c.in-Some.item ∷ []) in
    let whole : c.args.items ≡ done ++ s ∷ rest = l.invariant.all ∙ ap (λ z. done ++ z) c.in-Some.ensures.steps in
    let begins : is_begin [] (items_written d (done ++ s ∷ rest)) ≡ true =
    ap (λ z. is_begin [] (items_written d z)) (sym whole) ∙ written_begins d c.requires.formed c.args.items c.requires.shows in
    let begin = c.as_slice.ensures.value ∙ filled _ _ _ c.clear.ensures.items c.in_ok-more.ensures.text in
    record {
      all = whole ∙ sym (append_assoc done (s ∷ []) rest) ∙ ap (λ z. z ++ rest) (sym seen);
      table = c.in_ok-more.ensures.table;
      leads = leads_off d arcs next (item_at d s ∷ []) (items_at d rest) (subst (λ z. LeadsOn d arcs (items_at d z)) c.in-Some.ensures.steps l.invariant.leads) c.in_ok-more.ensures.arcs;
      arcs =
          arcs_step d done s start arcs next l.invariant.arcs c.in_ok-more.ensures.arcs
          ∙ ap (λ z. with_pieces start (flat_map (pieces j) (item_rings (items_at d z)))) (sym seen);
      took =
          subst (λ z. Took g.W.Sink c.args.out.now c.put_all.new.sink (items_text [] false (items_written d z))) (sym seen)
          (sent_step d done s rest begins (open_heads l.heads.items) l.more l.invariant.heads l.invariant.more l.invariant.took (subst (Took g.W.Sink _ _) begin c.in_ok-put_all.ensures));
      heads =
          heads_step d done s (open_heads l.heads.items) (open_heads c.push_item.new.heads.items) l.invariant.heads c.in_ok-more.ensures.heads
          ∙ ap (λ z. open_after [] (items_written d z)) (sym seen);
      more =
          more_step d done s l.more c.in_ok-more.more l.invariant.more c.in_ok-more.ensures.more
          ∙ ap (λ z. more_after false (items_written d z)) (sym seen);
    }

pub returns-in_err-more-clause-sends : goal.returns-in_err-more-clause-sends
returns-in_err-more-clause-sends g c =
    let d = c.args.map.now in
    let l = c.loop-item in
    let done = map view_item_view l.yielded in
    let s = view_item_view c.in-Some.item in
    let rest = c.next.new.self in
    let whole : c.args.items ≡ done ++ s ∷ rest = l.invariant.all ∙ ap (λ z. done ++ z) c.in-Some.ensures.steps in
    let begins : is_begin [] (items_written d (done ++ s ∷ rest)) ≡ true =
    ap (λ z. is_begin [] (items_written d z)) (sym whole) ∙ written_begins d c.requires.formed c.args.items c.requires.shows in
    sends_front of_device OutOfMemory _ c.from_residual.ensures.1
    (subst (λ z. TookFront g.W.Sink _ c.args.out.now l.out (items_text [] false (items_written d z))) (sym whole)
    (sent_part d done s rest begins (open_heads l.heads.items) l.more l.invariant.heads l.invariant.more l.invariant.took (took_none l.invariant.took.works)))

pub returns-in_err-put_all-clause-sends : goal.returns-in_err-put_all-clause-sends
returns-in_err-put_all-clause-sends g c =
    let d = c.args.map.now in
    let l = c.loop-item in
    let done = map view_item_view l.yielded in
    let s = view_item_view c.in-Some.item in
    let rest = c.next.new.self in
    let whole : c.args.items ≡ done ++ s ∷ rest = l.invariant.all ∙ ap (λ z. done ++ z) c.in-Some.ensures.steps in
    let begins : is_begin [] (items_written d (done ++ s ∷ rest)) ≡ true =
    ap (λ z. is_begin [] (items_written d z)) (sym whole) ∙ written_begins d c.requires.formed c.args.items c.requires.shows in
    let begin = c.as_slice.ensures.value ∙ filled _ _ _ c.clear.ensures.items c.in_ok-more.ensures.text in
    sends_front of_device Device _ c.from_residual-in_err-put_all.ensures.1
    (subst (λ z. TookFront g.W.Sink _ c.args.out.now c.put_all.new.sink (items_text [] false (items_written d z))) (sym whole)
    (sent_part d done s rest begins (open_heads l.heads.items) l.more l.invariant.heads l.invariant.more l.invariant.took (subst (TookFront g.W.Sink _ _ _) begin c.in_err-put_all.ensures)))
