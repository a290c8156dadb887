use Rattle.kit_words.proofs.Common.{rules, ◌∙◌}
use Rattle.serde_json.specs.declared.value.Value.{the_lemmas}
use Rattle.json_spans.proofs.Decoding.{decoded_as}
use Rattle.json_spans.proofs.texts.read.Goals as goal

pub returns-in-Ok-String : goal.returns-in-Ok-String
returns-in-Ok-String c =
    rw c.in-Ok-String.text-is (decoded_as c.args.bytes.now _ c.in-Ok-String.ensures.ok.0 c.in-Ok-String.ensures.ok.1 ∙ search (rules, the_lemmas, c.in-Ok-String.field-0-is))
