use Rattle.kit_words.proofs.Common.{refl, codes, rules}
use Rattle.edit_records.specs.declared.command.Command.TheVariants as command
use Rattle.script_lines.specs.declared.lines.Line.TheVariants as said
use Rattle.script_lines.proofs.CommandLemmas.{arm, row_move, row_insert, row_remove, row_thin, row_split, row_merge, row_rename, row_delete, row_area, row_at, row_neighbours, row_rings}
use Rattle.script_lines.proofs.parsing.by_word.Goals as goal

pub returns-then-eq : goal.returns-then-eq
returns-then-eq c =
    arm c.args.line.now c.split_word.result.0.now c.split_word.result.1.now c.split_word.ensures.word c.split_word.ensures.rest (codes "move") _
    (λ pair. said.Edit (command.Move pair.0 pair.1)) (row_move c.split_word.result.1.now) (λ pair h. (refl, h)) c.pair_behind.result c.map.result (search rules) c.pair_behind.ensures (search rules)

pub returns-then-eq-2 : goal.returns-then-eq-2
returns-then-eq-2 c =
    arm c.args.line.now c.split_word.result.0.now c.split_word.result.1.now c.split_word.ensures.word c.split_word.ensures.rest (codes "insert") _
    (λ all. said.Edit (command.Insert all.0 all.1 all.2)) (row_insert c.split_word.result.1.now) (λ all h. (refl, h)) c.triple_behind.result c.map-then-eq-2.result (search rules) c.triple_behind.ensures (search rules)

pub returns-then-eq-3 : goal.returns-then-eq-3
returns-then-eq-3 c =
    arm c.args.line.now c.split_word.result.0.now c.split_word.result.1.now c.split_word.ensures.word c.split_word.ensures.rest (codes "remove") _
    (λ p. said.Edit (command.Remove p)) (row_remove c.split_word.result.1.now) (λ p h. (refl, h)) c.position_behind.result c.map-then-eq-3.result (search rules) c.position_behind.ensures (search rules)

pub returns-then-eq-4 : goal.returns-then-eq-4
returns-then-eq-4 c =
    arm c.args.line.now c.split_word.result.0.now c.split_word.result.1.now c.split_word.ensures.word c.split_word.ensures.rest (codes "thin") _
    (λ t. said.Edit (command.Thin t)) (row_thin c.split_word.result.1.now) (λ t h. (refl, h)) c.bound_behind.result c.map-then-eq-4.result (search rules) c.bound_behind.ensures (search rules)

pub returns-in_ok-cut_behind : goal.returns-in_ok-cut_behind
returns-in_ok-cut_behind c =
    arm c.args.line.now c.split_word.result.0.now c.split_word.result.1.now c.split_word.ensures.word c.split_word.ensures.rest (codes "split") _
    (λ parts. said.Edit (command.Split parts.0 parts.1 parts.2)) (row_split c.split_word.result.1.now) (λ parts h. (refl, h)) c.in_ok-cut_behind.field-0 c.map-then-eq-5.result (search rules) c.in_ok-cut_behind.ensures (search rules)

pub returns-then-eq-6 : goal.returns-then-eq-6
returns-then-eq-6 c =
    arm c.args.line.now c.split_word.result.0.now c.split_word.result.1.now c.split_word.ensures.word c.split_word.ensures.rest (codes "merge") _
    (λ both. said.Edit (command.Merge both.0 both.1)) (row_merge c.split_word.result.1.now) (λ both h. (refl, h)) c.features_behind.result c.map-then-eq-6.result (search rules) c.features_behind.ensures (search rules)

pub returns-in_ok-naming_behind : goal.returns-in_ok-naming_behind
returns-in_ok-naming_behind c =
    arm c.args.line.now c.split_word.result.0.now c.split_word.result.1.now c.split_word.ensures.word c.split_word.ensures.rest (codes "rename") _
    (λ parts. said.Edit (command.Rename parts.0 parts.1)) (row_rename c.split_word.result.1.now) (λ parts h. (refl, h)) c.in_ok-naming_behind.field-0 c.map-then-eq-7.result (search rules) c.in_ok-naming_behind.ensures (search rules)

pub returns-then-eq-8 : goal.returns-then-eq-8
returns-then-eq-8 c =
    arm c.args.line.now c.split_word.result.0.now c.split_word.result.1.now c.split_word.ensures.word c.split_word.ensures.rest (codes "delete") _
    (λ n. said.Edit (command.Delete n)) (row_delete c.split_word.result.1.now) (λ n h. (refl, h)) c.feature_behind.result c.map-then-eq-8.result (search rules) c.feature_behind.ensures (search rules)

pub returns-then-eq-10 : goal.returns-then-eq-10
returns-then-eq-10 c =
    arm c.args.line.now c.split_word.result.0.now c.split_word.result.1.now c.split_word.ensures.word c.split_word.ensures.rest (codes "area") _
    (λ n. said.Edit (command.Area n)) (row_area c.split_word.result.1.now) (λ n h. (refl, h)) c.feature_behind-then-eq-10.result c.map-then-eq-10.result (search rules) c.feature_behind-then-eq-10.ensures (search rules)

pub returns-then-eq-11 : goal.returns-then-eq-11
returns-then-eq-11 c =
    arm c.args.line.now c.split_word.result.0.now c.split_word.result.1.now c.split_word.ensures.word c.split_word.ensures.rest (codes "at") _
    (λ p. said.Edit (command.At p)) (row_at c.split_word.result.1.now) (λ p h. (refl, h)) c.position_behind-then-eq-11.result c.map-then-eq-11.result (search rules) c.position_behind-then-eq-11.ensures (search rules)

pub returns-then-eq-12 : goal.returns-then-eq-12
returns-then-eq-12 c =
    arm c.args.line.now c.split_word.result.0.now c.split_word.result.1.now c.split_word.ensures.word c.split_word.ensures.rest (codes "neighbours") _
    (λ n. said.Edit (command.Neighbours n)) (row_neighbours c.split_word.result.1.now) (λ n h. (refl, h)) c.feature_behind-then-eq-12.result c.map-then-eq-12.result (search rules) c.feature_behind-then-eq-12.ensures (search rules)

pub returns-then-eq-13 : goal.returns-then-eq-13
returns-then-eq-13 c =
    arm c.args.line.now c.split_word.result.0.now c.split_word.result.1.now c.split_word.ensures.word c.split_word.ensures.rest (codes "rings") _
    (λ n. said.Rings n) (row_rings c.split_word.result.1.now) (λ n h. (refl, h)) c.feature_behind-then-eq-13.result c.map-then-eq-13.result (search rules) c.feature_behind-then-eq-13.ensures (search rules)
