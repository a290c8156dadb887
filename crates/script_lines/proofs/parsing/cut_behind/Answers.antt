use Rattle.kit_words.proofs.Common.{rules, subst}
use Rattle.edit_records.specs.Common.{string_text}
use Rattle.script_lines.specs.Common.{Finds, spaced_path, IsPathTail}
use Rattle.script_lines.proofs.TokenLemmas.{path_unmarked}
use Rattle.script_lines.proofs.CommandLemmas.{naming_none, naming_no_token, naming_rest, naming_no_name}
use Rattle.script_lines.proofs.parsing.cut_behind.Goals as goal

pub returns-in_default : goal.returns-in_default
returns-in_default c = λ x w. naming_none c.args.tail.now x.0 (string_text x.1) (spaced_path x.2) c.in_default.ensures w.0

pub returns-in_default-spaced_token : goal.returns-in_default-spaced_token
returns-in_default-spaced_token c = λ x w.
    naming_no_token c.args.tail.now c.in-Some.words.now c.in-Some.feature c.in-Some.ensures x.0 (string_text x.1) (spaced_path x.2) (path_unmarked x.2 w.1.in_range)
    c.in_default-spaced_token.ensures w.0

pub returns-in_default-2 : goal.returns-in_default-2
returns-in_default-2 c = λ x w.
    naming_no_name c.args.tail.now c.in-Some.words.now c.in-Some.feature c.in-Some.ensures x.0 (string_text x.1) (spaced_path x.2) (path_unmarked x.2 w.1.in_range)
    c.in-Some-spaced_token.token.now c.in-Some-spaced_token.positions.now c.in-Some-spaced_token.ensures (search rules) w.0

pub returns-in-None : goal.returns-in-None
returns-in-None c = λ x w.
    subst (λ o. Finds o (IsPathTail c.in-Some-spaced_token.positions.now)) c.in-None.is c.in_ok-path.ensures x.2 (record {
      whole = naming_rest c.args.tail.now c.in-Some.words.now c.in-Some.feature c.in-Some.ensures x.0 (string_text x.1) (spaced_path x.2) (path_unmarked x.2 w.1.in_range)
          c.in-Some-spaced_token.token.now c.in-Some-spaced_token.positions.now c.in-Some-spaced_token.ensures w.0;
      along = w.1;
    })
