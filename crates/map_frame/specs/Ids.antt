-- How an id is seen.
use Rattle.std.specs.Prelude.{Option, Some, option_map}
use Rattle.ring_machine.specs.Common.{Text}
use Rattle.map_frame.specs.declared.feature.IdSource.{IdSource}
use Rattle.map_frame.specs.declared.feature.IdSource.TheVariants as source

-- the text of an id
abbrev pub view_id : {A : Type 0} → IdSource A → Option Text
view_id (source.Read text) = option_map (λ t. t.now) text
view_id (source.Given t) = Some t.items
