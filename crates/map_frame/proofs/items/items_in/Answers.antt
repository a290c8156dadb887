use Rattle.kit_words.proofs.Common.{◌≡◌, sym, ap, ap₂, ◌∙◌, [], map, is_some, true, false}
use Rattle.ring_machine.proofs.Common.{is_some-mapped}
use Rattle.map_frame.specs.Common.{live, shown_item, items_of, shown_rest}
use Rattle.map_frame.proofs.ReadItems.{alone_there, alone_gone}
use Rattle.map_frame.proofs.items.items_in.Goals as goal

pub returns-in-Items : goal.returns-in-Items
returns-in-Items g c =
    let fs = c.args.tables.now.features.items in
    c.over.ensures
    ∙ ap₂ (λ f s. shown_rest f [] s) c.as_slice-features.ensures.value c.as_slice.ensures.value
    ∙ ap (λ k. map shown_item (items_of fs k)) (sym c.in-Items.is)

pub returns-then-is_some : goal.returns-then-is_some
returns-then-is_some g c =
    let fs = c.args.tables.now.features.items in
    let n = c.in-Alone.number in
    let there : is_some (live fs n) ≡ true =
    ap is_some (sym (c.live_feature.ensures ∙ ap (λ z. live z n) c.as_slice-features.ensures.value))
    ∙ is_some-mapped (λ f. f.now) c.live_feature.result ∙ sym c.is_some.ensures ∙ c.if-is_some.true in
    c.over-then-is_some.ensures
    ∙ ap₂ (λ f ns. shown_rest f ns []) c.as_slice-features.ensures.value c.from_ref.ensures.value
    ∙ alone_there fs n there
    ∙ ap (λ k. map shown_item (items_of fs k)) (sym c.in-Alone.is)

pub returns-else-is_some : goal.returns-else-is_some
returns-else-is_some g c =
    let t = c.args.tables.now in
    let fs = t.features.items in
    let n = c.in-Alone.number in
    let gone : is_some (live fs n) ≡ false =
    ap is_some (sym (c.live_feature.ensures ∙ ap (λ z. live z n) c.as_slice-features.ensures.value))
    ∙ is_some-mapped (λ f. f.now) c.live_feature.result ∙ sym c.is_some.ensures ∙ c.if-is_some.false in
    c.over-in-Alone.ensures
    ∙ ap₂ (λ f ss. shown_rest f [] ss) c.as_slice-features.ensures.value c.as_slice-empty.ensures.value
    ∙ alone_gone fs n t.empty.items gone (c.requires.empty fs)
    ∙ ap (λ k. map shown_item (items_of fs k)) (sym c.in-Alone.is)
