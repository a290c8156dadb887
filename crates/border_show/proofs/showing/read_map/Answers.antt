use Rattle.kit_words.proofs.Common.{◌≡◌, List, IfOk, subst, ℕ}
use Rattle.ring_machine.specs.Common.{Document}
use Rattle.std.specs.declared.alloc.Global.{Global}
use Rattle.topo_reader.specs.Common.{Reads, document_of, view_raw}
use Rattle.topo_reader.specs.declared.document.RawDoc.{RawDoc}
use Rattle.border_show.proofs.showing.read_map.Goals as goal

pub returns-clause-only : goal.returns-clause-only
returns-clause-only c =
    subst (λ (bytes : List ℕ). IfOk c.read.result (λ (map : RawDoc Global). (d : Document) → Reads bytes d → d ≡ document_of (view_raw map)))
    c.as_slice.ensures.value c.read.ensures.only
