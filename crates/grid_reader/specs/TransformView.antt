-- The transform that the code makes, as the definitions see it.
use Rattle.std.specs.Prelude.{Option, Some, option_map}
use Rattle.ring_machine.specs.Common.{Text}
use Rattle.grid_reader.specs.declared.transform.Transform.{Transform}
use Rattle.grid_reader.specs.declared.transform.Transform.TheVariants.{Kept, Made}

abbrev pub view_transform : {A : Type 0} → Transform A → Option Text
view_transform (Kept t) = option_map (λ s. s.now) t
view_transform (Made v) = Some v.items
