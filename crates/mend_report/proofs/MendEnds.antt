-- Why a map that was read is not mended, told of its bytes.
use Rattle.kit_words.proofs.Common.{ℕ, List}
use Rattle.topo_reader.specs.Common.{Opened, document_of}
use Rattle.grid_reader.specs.Common.{ReadsOnGrid}
use Rattle.grid_reader.specs.declared.wants.Wants.{Wants}
use Rattle.mend_report.specs.Looking.{OpensOn, IsEnd, EndsLook}
use Rattle.mend_report.specs.Remaking.{IsMendEnd, EndsMending}
use Rattle.mend_report.specs.declared.looking.LookFault.{LookFault}
use Rattle.mend_report.specs.declared.looking.LookFault.TheVariants.{Open, TooMany, OutOfMemory}
use Rattle.mend_report.specs.declared.repair_fault.RepairFault.{RepairFault}
use Rattle.mend_report.specs.declared.repair_fault.RepairFault.TheVariants.{Look, Mend, Save}

ends_look : (fault : LookFault) (wants : Wants) (bytes : List ℕ) (o : Opened) → OpensOn wants bytes o → EndsLook fault o.polygons
    → IsEnd fault wants bytes
ends_look (Open f) wants bytes o opens is = absurd is
ends_look TooMany wants bytes o opens is = (o, opens, is)
ends_look OutOfMemory wants bytes o opens is = tt

pub ends_mending : (fault : RepairFault) (wants : Wants) (bytes : List ℕ) (o : Opened) → OpensOn wants bytes o
    → ReadsOnGrid wants bytes (document_of o) → EndsMending fault o → IsMendEnd fault wants bytes
ends_mending (Look f) wants bytes o opens reads is = ends_look f wants bytes o opens is
ends_mending (Mend f) wants bytes o opens reads is = (document_of o, reads, is)
ends_mending (Save f) wants bytes o opens reads is = (document_of o, reads, is)
