use Rattle.kit_words.proofs.Common.{◌≡◌, sym, subst, ℕ, List, Vec, Result, Ok, IfOk}
use Rattle.decimal_texts.specs.declared.fault.PointFault.{PointFault}
use Rattle.mend_report.specs.Remaking.{TellsMending}
use Rattle.mend_report.specs.declared.asked.Asked.{Asked}
use Rattle.mend_report.specs.declared.remaking.Remade.{Remade}
use Rattle.mend_report.specs.declared.repair_fault.RepairFault.{RepairFault}
use Rattle.border_mend.specs.Telling.{TellsMend}
use Rattle.border_mend.proofs.looking.remade.Goals as goal

-- what is told of a text is told of what is looked at
tells_text : {A B : Type 0} (map : Result (Vec ℕ A × Asked) PointFault) (text : Vec ℕ A) (asked : Asked) (bytes : List ℕ) (r : Result (Remade B) RepairFault) (before after : List ℕ) → map ≡ Ok (text, asked) → bytes ≡ text.items
    → IfOk r (λ remade. TellsMending asked bytes remade before after) → IfOk r (λ remade. TellsMend map remade before after)
tells_text {A = A} map text asked bytes r before after is read told =
    subst (λ (m : Result (Vec ℕ A × Asked) PointFault). IfOk r (λ remade. TellsMend m remade before after)) (sym is)
    (subst (λ (bs : List ℕ). IfOk r (λ remade. TellsMending asked bs remade before after)) read told)

pub returns-in-Ok-clause-told : goal.returns-in-Ok-clause-told
returns-in-Ok-clause-told c =
    tells_text _ c.in-Ok.text c.in-Ok.asked c.as_slice.result.now c.mend_map.result c.args.texts.now.report.items c.mend_map.new.texts.report.items
    c.in-Ok.is c.as_slice.ensures.value c.mend_map.ensures.told
