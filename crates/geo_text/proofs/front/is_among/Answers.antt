use Rattle.kit_words.proofs.Common.{◌∙◌, ap, contains_text, string_bytes}
use Rattle.geo_text.proofs.FrontNames.{is_named, not_named}
use Rattle.geo_text.proofs.front.is_among.Goals as goal

pub returns-in-Ok : goal.returns-in-Ok
returns-in-Ok g c ms h =
    is_named (contains_text c.args.names.now) ms c.args.name.now (string_bytes c.in-Ok.text) c.contains.result h c.in-Ok.ensures
    (c.contains.ensures ∙ ap (contains_text c.args.names.now) c.as_str.ensures.value)

pub returns-in-Err-BadText : goal.returns-in-Err-BadText
returns-in-Err-BadText g c ms h = not_named ms c.args.name.now (rw c.in-Err-BadText.field-0-is at c.in-Err-BadText.ensures)
