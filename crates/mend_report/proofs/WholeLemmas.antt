-- A map of whole numbers is looked at, and mended, as the editor reads it.
use Rattle.kit_words.proofs.Common.{◌≡◌, ◌↔◌, ℕ, ◌==◌, true, sym, ap, ◌∙◌, subst, List, Result, Ok, Err, IfOk, ◌&&◌}
use Rattle.kit_words.proofs.Common.{and_parts}
use Rattle.std.proofs.lemmas.Bool.{eqb-true}
use Rattle.topo_reader.specs.Common.{Opened, document_of}
use Rattle.topo_reader.proofs.Common.{is_read_by}
use Rattle.grid_reader.specs.Common.{IsTold}
use Rattle.grid_reader.specs.declared.told.Told.{Told}
use Rattle.grid_reader.specs.declared.wants.Wants.{Wants}
use Rattle.grid_reader.proofs.AsWhole.{whole_on_grid, whole_told, grid_is_whole}
use Rattle.mend_report.specs.Common.{OpensOn, MapOpens, EditorOpens, HasWalks, IsRemade, RemakesWhole, reads_unchanged}
use Rattle.mend_report.specs.Common.{report_status, Asked, Report, LookFault, Remade}
use Rattle.mend_report.specs.declared.repair_fault.RepairFault.{RepairFault}
use Rattle.mend_report.proofs.EditorOpens.{walks_open, rings_open}
use Rattle.mend_report.proofs.OpeningLemmas.{one}

-- ---- the status

abbrev OpensAsIs : Asked → List ℕ → Type 0
OpensAsIs asked bytes = (asked.dropped ≡ 0) × EditorOpens bytes

in_editor : (asked : Asked) (bytes : List ℕ) → asked.grid.finer ≡ 0 → MapOpens asked bytes → OpensAsIs asked bytes
in_editor asked bytes same opens =
    let plain = and_parts opens.1.whole (opens.1.heights == 0) opens.4 in
    let walks = grid_is_whole asked.grid bytes opens.0 opens.1 same opens.2 opens.3 plain.0 (eqb-true opens.1.heights 0 plain.1) in
    (opens.5, walks_open bytes opens.0 walks opens.6)

on_grid : (asked : Asked) (bytes : List ℕ) (grid : Told) → asked.grid.finer ≡ 0 → IsTold asked.grid bytes grid → OpensAsIs asked bytes → MapOpens asked bytes
on_grid asked bytes grid same told opens =
    let walks = rings_open bytes opens.1 in
    let plain = whole_told asked.grid bytes walks.0 grid walks.1 told in
    let is : reads_unchanged grid ≡ true = ap (λ b. b && (grid.heights == 0)) plain.0 ∙ ap (λ (n : ℕ). n == 0) plain.1 in
    (walks.0, grid, whole_on_grid asked.grid bytes walks.0 same walks.1, told, is, opens.0, walks.2)

-- the status is 0 exactly where the editor opens the map
pub answer_editor : {A : Type 0} (asked : Asked) (bytes : List ℕ) (grid : Told) (r : Result (Report A) LookFault)
    → IsTold asked.grid bytes grid → IfOk r (λ report. report_status (Ok report) ≡ 0 ↔ MapOpens asked bytes)
    → IfOk r (λ report. asked.grid.finer ≡ 0 → report_status (Ok report) ≡ 0 ↔ OpensAsIs asked bytes)
answer_editor asked bytes grid (Err fault) told opens = tt
answer_editor asked bytes grid (Ok report) told opens =
    λ same. (λ e. in_editor asked bytes same (opens.0 e), λ is. opens.1 (on_grid asked bytes grid same told is))

-- ---- what is mended

remade_whole : {A : Type 0} (wants : Wants) (bytes : List ℕ) (o : Opened) (remade : Remade A) → wants.finer ≡ 0 → OpensOn wants bytes o
    → HasWalks bytes → IsRemade (document_of o) remade → RemakesWhole bytes remade
remade_whole wants bytes o remade same opens walks is =
    let read = is_read_by _ bytes walks.0 walks.1 in
    let alike : walks.0 ≡ o = one wants bytes walks.0 o (whole_on_grid wants bytes walks.0 same walks.1) opens in
    (document_of walks.0, read.0, subst (λ p. IsRemade (document_of p) remade) (sym alike) is)

-- it is the document of walks that the editor reads
pub answer_whole : {A : Type 0} (wants : Wants) (bytes : List ℕ) (o : Opened) (r : Result (Remade A) RepairFault) → OpensOn wants bytes o
    → IfOk r (IsRemade (document_of o)) → IfOk r (λ remade. wants.finer ≡ 0 → HasWalks bytes → RemakesWhole bytes remade)
answer_whole wants bytes o (Err fault) opens is = tt
answer_whole wants bytes o (Ok remade) opens is = λ same walks. remade_whole wants bytes o remade same opens walks is
