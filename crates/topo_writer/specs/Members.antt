-- The members that a geometry has beside its type and its parts.
use Rattle.std.specs.Prelude.{List, ◌++◌, map, codes, Option}
use Rattle.ring_machine.specs.Common.{Member, Head, Text}
use Rattle.map_text.specs.Common.{further, member_if, member_text}

-- the id and the properties, where they are there
abbrev pub head_members : Head → List Member
head_members h = member_if (codes "\"id\"") h.id ++ member_if (codes "\"properties\"") h.properties

-- the member after a comma; nothing where it is not there
abbrev pub further_if : Text → Option Text → Text
further_if name value = further (map member_text (member_if name value))
