-- Why there is no report.
use Rattle.kit_words.proofs.Common.{◌≡◌, ℕ, true, List, subst, sym}
use Rattle.ring_machine.specs.Common.{Text}
use Rattle.topo_outline.specs.Common.{LayerText}
use Rattle.topo_outline.specs.declared.fault.OpenFault.{OpenFault}
use Rattle.topo_reader.specs.Common.{IsFault, Opened}
use Rattle.cover_report.specs.Asked.{Wants}
use Rattle.cover_report.specs.Faults.{IsLookFault, IsRefused, IsUnlooked, OpensProper}
use Rattle.cover_report.specs.Names.{are_there}
use Rattle.cover_report.specs.declared.fault.CoverFault.{CoverFault}
use Rattle.cover_report.specs.declared.fault.CoverFault.TheVariants.{Open, NoLayer, TooLarge, Unswept, Unlike}

-- layers that are there could not be looked at
pub unlooked : (names : List Text) (layers : List LayerText) (e : CoverFault) → are_there names layers ≡ true → IsLookFault e → IsUnlooked names layers e
unlooked names layers (Open fault) there h = h
unlooked names layers NoLayer there h = absurd h
unlooked names layers TooLarge there h = there
unlooked names layers (Unswept at) there h = there
unlooked names layers (Unlike s) there h = there

-- a map that opens has no report, since its layers could not be looked at
pub refused : (wants : Wants) (bytes : List ℕ) (o : Opened) (e : CoverFault) → OpensProper bytes o → IsUnlooked wants.layers o.layers e → IsRefused wants bytes e
refused wants bytes o (Open fault) opens h = subst (λ (f : OpenFault). IsFault bytes f) (sym h) tt
refused wants bytes o NoLayer opens h = (o, opens, h)
refused wants bytes o TooLarge opens h = (o, opens, h)
refused wants bytes o (Unswept at) opens h = (o, opens, h)
refused wants bytes o (Unlike s) opens h = (o, opens, h)
