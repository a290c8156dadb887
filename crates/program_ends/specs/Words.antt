-- What the words of each program have in common.
use Rattle.std.specs.Prelude.{true}
use Rattle.clap.specs.Words.{App}

-- a program that tells its version
abbrev pub with_version : App → App
with_version a = record a { top = record a.top { has_version = true } }
