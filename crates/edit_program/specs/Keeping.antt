-- What is noted of a script while it is read, and of the answers while they are written.
use Rattle.std.specs.Prelude.{Bool}
use Rattle.edit_program.specs.declared.noted_script.NotedScript.{NotedScript}
use Rattle.edit_program.specs.declared.noted_answers.NotedAnswers.{NotedAnswers}

-- the source that a noted script comes from
abbrev pub source_of : {R : Type 0} → NotedScript R → R
source_of script = script.source

-- whether some piece of a script was not noted
abbrev pub is_short : {R : Type 0} → NotedScript R → Bool
is_short script = script.is_short

-- whether a script has failed where a piece of it was not noted
abbrev pub fails_noted : {R : Type 0} → NotedScript R → Bool
fails_noted script = script.failed

-- the sink that noted answers go to
abbrev pub sink_of : {W : Type 0} → NotedAnswers W → W
sink_of answers = answers.sink

-- whether some answers were not noted
abbrev pub is_cut : {W : Type 0} → NotedAnswers W → Bool
is_cut answers = answers.is_short

-- whether answers have failed where some of them were not noted
abbrev pub fails_alone : {W : Type 0} → NotedAnswers W → Bool
fails_alone answers = answers.failed
