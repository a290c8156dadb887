-- A view that is as it was asked for.
use Rattle.kit_words.proofs.Common.{Option}
use Rattle.std.specs.declared.alloc.Global.{Global}
use Rattle.topo_reader.specs.declared.document.RawDoc.{RawDoc}
use Rattle.map_features.specs.declared.conflicts.Conflict.{Conflict}
use Rattle.map_drawing.specs.declared.view.View.{View}
use Rattle.border_show.specs.declared.arguments.Arguments.{Arguments}
use Rattle.border_show.specs.declared.arguments.Part.{Part}
use Rattle.border_show.specs.declared.arguments.Part.TheVariants as part
use Rattle.border_show.specs.Shown.{IsPartShown, IsViewAsked}

module _ (before : Option (RawDoc Global)) (raw : RawDoc Global) where
  -- a conflict that is marked changes nothing of what is asked for
  part_kept : (asked : Part) (view : View) (conflict : Option Conflict) → IsPartShown before raw asked view → IsPartShown before raw asked (record view { conflict = conflict })
  part_kept part.Whole view conflict h = h
  part_kept (part.Square square) view conflict h = h
  part_kept (part.Feature name) view conflict h = record { shown = h.shown; named = h.named; part = h.part; outlined = h.outlined }

  pub view_kept : (asked : Arguments) (view : View) (conflict : Option Conflict) → IsViewAsked before raw asked view → IsViewAsked before raw asked (record view { conflict = conflict })
  view_kept asked view conflict h = (part_kept asked.part view conflict h.0, h.1)
