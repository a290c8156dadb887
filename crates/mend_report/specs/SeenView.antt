-- A map that was looked through, as the definitions see it.
use Rattle.grid_reader.specs.TransformView.{view_transform}
use Rattle.topo_reader.specs.Common.{Opened, view_raw}
use Rattle.mend_report.specs.Looking.{under}
use Rattle.mend_report.specs.declared.looking.Seen.{Seen}

-- its topology, with its transform
abbrev pub opened_of : {A : Type 0} → Seen A → Opened
opened_of seen = under (view_transform seen.transform) (view_raw seen.map)
