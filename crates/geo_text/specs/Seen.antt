-- What the code holds while it writes, as the definitions see it.
use Rattle.std.specs.Prelude.{◌<◌, ◌+◌, ◌^◌, List, map, reverse}
use Rattle.std.specs.Borrow.{Bor}
use Rattle.ring_machine.specs.Common.{Head}
use Rattle.topo_outline.specs.declared.document.Head.{Head as CodeHead}
use Rattle.topo_outline.specs.Common.{view_head}
use Rattle.geo_text.specs.Items.{At}
use Rattle.geo_text.specs.declared.progress.Progress.{Progress}

-- the heads of open collections, the innermost first; they are kept with the innermost last
abbrev pub open_heads : {A : Type 0} → List (Bor (CodeHead A)) → List Head
open_heads heads = reverse (map (λ h. view_head h.now) heads)

abbrev pub view_progress : {A : Type 0} → Progress A → At
view_progress p = record {
  heads = open_heads p.heads.items;
  more = p.more;
  feature = p.feature;
  point = p.point;
}

-- one more of each can be counted
abbrev pub HasRoom : {A : Type 0} → Progress A → Type 0
HasRoom p = (p.feature + 1 < 2 ^ 64) × (p.leaf + 1 < 2 ^ 128) × (p.point + 1 < 2 ^ 128)
