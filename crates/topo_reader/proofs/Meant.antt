-- What bytes mean is well formed, and its texts are ones that opening would keep.
use Rattle.kit_words.proofs.Common.{ℕ, List, Bool, sym, subst}
use Rattle.json_spans.specs.Common.{Node, IsValue}
use Rattle.json_spans.proofs.Common.{padded_value}
use Rattle.ring_machine.specs.Common.{Document, WellFormed}
use Rattle.topo_outline.specs.Common.{KeepsTexts}
use Rattle.grid_geometry.specs.Common.{Position}
use Rattle.topo_reader.specs.Common.{Arc, ReadsWith}
use Rattle.topo_reader.proofs.Formed.{read_formed}
use Rattle.topo_reader.proofs.Keeping.{read_keeps}

module _ (AreThese : Bool → Node → List Arc → Type 0) (IsOne : List Arc → List Position → Type 0) (bytes : List ℕ) (d : Document) where
  pub meant_formed : ReadsWith AreThese IsOne bytes d → WellFormed d
  meant_formed r =
      subst WellFormed (sym r.document)
      (read_formed IsOne r.root r.shape r.arcs r.uses r.polygons r.topology r.uses_are r.rings_are)

  pub meant_keeps : ReadsWith AreThese IsOne bytes d → KeepsTexts d
  meant_keeps r =
      subst KeepsTexts (sym r.document)
      (read_keeps r.levels r.root r.shape r.polygons (padded_value {A = IsValue r.levels} 0 bytes r.root r.json) r.topology)
