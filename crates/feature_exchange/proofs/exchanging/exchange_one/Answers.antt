use Rattle.kit_words.proofs.Common.{◌<◌, sym, ap, ◌∙◌, subst}
use Rattle.map_frame.specs.Common.{Framed}
use Rattle.feature_exchange.proofs.EachExchanged.{one_fits, one_room, one_put, one_taken, one_free}
use Rattle.feature_exchange.proofs.exchanging.exchange_one.Goals as goal

pub put-requires-clause-free : goal.put-requires-clause-free
put-requires-clause-free g c =
    one_free c.args.frame.now c.args.change.now c.args.numbers c.requires c.take_out.new.self c.take_out.ensures.taken

pub put-requires-clause-fits : goal.put-requires-clause-fits
put-requires-clause-fits g c =
    one_fits c.args.frame.now c.args.change.now c.args.numbers c.requires c.in-Some-replace.whole (sym c.replace.ensures.value ∙ c.in-Some-replace.is)

pub put-requires-clause-room : goal.put-requires-clause-room
put-requires-clause-room g c =
    λ r i. subst (λ z. r < z) (sym (ap (λ (f : Framed). f.room) c.take_out.ensures.taken))
    (one_room c.args.frame.now c.args.change.now c.args.numbers c.requires c.in-Some-replace.whole (sym c.replace.ensures.value ∙ c.in-Some-replace.is) r i)

pub returns-in-Some-replace-clause-exchanged : goal.returns-in-Some-replace-clause-exchanged
returns-in-Some-replace-clause-exchanged g c =
    one_put c.args.frame.now c.args.change.now c.args.numbers c.requires c.in-Some-replace.whole (sym c.replace.ensures.value ∙ c.in-Some-replace.is)
    c.take_out.new.self c.put.new.self c.take_out.ensures.taken c.put.ensures

pub returns-clause-exchanged : goal.returns-clause-exchanged
returns-clause-exchanged g c =
    one_taken c.args.frame.now c.args.change.now c.args.numbers c.requires (sym c.replace.ensures.value ∙ c.in-None-replace.is)
    c.take_out.new.self c.take_out.ensures.taken
