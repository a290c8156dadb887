use Rattle.kit_words.proofs.Common.{Option, option_copied, subst}
use Rattle.std.specs.declared.alloc.Global.{Global}
use Rattle.topo_reader.specs.declared.document.RawDoc.{RawDoc}
use Rattle.border_show.specs.Shown.{IsViewAsked}
use Rattle.border_show.proofs.ViewLemmas.{view_kept}
use Rattle.border_show.proofs.showing.drawing_of.Goals as goal

pub returns-in-Ok-2-clause-drawn : goal.returns-in-Ok-2-clause-drawn
returns-in-Ok-2-clause-drawn c =
    let raw = c.in-Ok-read_map.value in
    let asked = c.args.arguments.now in
    let conflict = c.in-Ok-conflict_of.value in
    record {
      earlier = c.in-Ok.ensures.before;
      map = c.in-Ok-read_map.ensures.reads;
      view = subst (λ (before : Option (RawDoc Global)). IsViewAsked before raw asked (record c.in-Ok-2.view { conflict = conflict })) c.as_ref.ensures.value
          (view_kept (option_copied c.as_ref.result) raw asked c.in-Ok-2.view conflict (rw c.in-Ok-2.is at c.in_ok-view.ensures.shown));
      conflict = c.in-Ok-conflict_of.ensures.first;
    }
