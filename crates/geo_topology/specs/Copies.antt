-- A text that is extended, and what is copied of a file.
use Rattle.std.specs.Prelude.{◌≡◌, List, ◌++◌, length, take, drop, ℕ}
use Rattle.json_spans.specs.Common.{Node}
use Rattle.geo_topology.specs.Text.{TextSegment, MadeOf, CopiedPart, segments_text, copies_from}

-- a text and its copied parts, once these segments were put behind it
abbrev pub extended : MadeOf → List TextSegment → MadeOf
extended m ss = record {
  text = m.text ++ segments_text ss;
  parts = m.parts ++ copies_from (length m.text) ss;
}

-- the value stands in the file, at its place
abbrev pub Lies : List ℕ → Node → Type 0
Lies file n = take (length n.bytes) (drop n.at_byte file) ≡ n.bytes

-- the part of the text has the bytes of its part of the file
abbrev pub IsCopy : List ℕ → List ℕ → CopiedPart → Type 0
IsCopy file text p = take p.len (drop p.made text) ≡ take p.len (drop p.file file)
