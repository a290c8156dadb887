use Rattle.kit_words.proofs.Common.{rules, codes, refl}
use Rattle.program_ends.proofs.Common.{copy_is, word_is}
use Rattle.border_mend.specs.Common.{mend_program}
use Rattle.border_mend.proofs.WordLemmas.{asked_is}
use Rattle.border_mend.proofs.command_line.words.Goals as goal

pub returns-in-Ok-clause-map : goal.returns-in-Ok-clause-map
returns-in-Ok-clause-map c =
    word_is mend_program refl _ c.in_ok-matches.matches _ (codes "MAP") _ c.get_str.result _ c.unwrap_or.result _
    c.in_ok-command.ensures c.in_ok-matches.ensures.ok.2 (search rules) c.get_str.ensures (search rules) c.unwrap_or.ensures c.in-Ok.ensures.map

pub returns-in-Ok-clause-asked : goal.returns-in-Ok-clause-asked
returns-in-Ok-clause-asked c =
    asked_is _ c.in_ok-matches.matches _ c.in_ok-command.ensures c.in_ok-matches.ensures.ok.2
    _ _ _ _ c.get_str-2.result c.get_str-3.result c.get_str-4.result c.get_str-5.result _ _
    (search rules) (search rules) (search rules) (search rules)
    c.get_str-2.ensures c.get_str-3.ensures c.get_str-4.ensures c.get_str-5.ensures c.in-Ok.ensures.asked

pub returns-in-Ok-clause-places : goal.returns-in-Ok-clause-places
returns-in-Ok-clause-places c =
    copy_is mend_program refl _ c.in_ok-matches.matches _ (codes "places") _ c.get_str-6.result _
    c.in_ok-command.ensures c.in_ok-matches.ensures.ok.2 (search rules) c.get_str-6.ensures c.in-Ok.ensures.places

pub returns-in-Ok-clause-out : goal.returns-in-Ok-clause-out
returns-in-Ok-clause-out c =
    copy_is mend_program refl _ c.in_ok-matches.matches _ (codes "out") _ c.get_str-7.result _
    c.in_ok-command.ensures c.in_ok-matches.ensures.ok.2 (search rules) c.get_str-7.ensures c.in-Ok.ensures.out
