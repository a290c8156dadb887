-- The status is 0 exactly where the map opens.
use Rattle.kit_words.proofs.Common.{◌≡◌, ◌↔◌, ℕ, suc, ◌==◌, ◌&&◌, Bool, true, false, refl, sym, ap, ap₂, ◌∙◌, subst}
use Rattle.kit_words.proofs.Common.{List, [], ◌∷◌, length, arith, Result, Ok, Err, IfOk, if◌then◌else◌}
use Rattle.kit_words.proofs.Common.{false≢true, and_parts}
use Rattle.std.proofs.lemmas.Bool.{eqb-true}
use Rattle.topo_reader.specs.Common.{Opened}
use Rattle.topo_outline.specs.Common.{OutlineText}
use Rattle.grid_reader.specs.Common.{heights, all_whole, IsTold}
use Rattle.grid_reader.specs.declared.told.Told.{Told}
use Rattle.grid_reader.specs.declared.wants.Wants.{Wants}
use Rattle.topo_reader.proofs.Common.{ok_same}
use Rattle.topo_outline.specs.declared.fault.RingAt.{RingAt}
use Rattle.walk_faults.specs.Common.{Found, Opens, IsNothing}
use Rattle.walk_faults.specs.declared.findings.Crossing.{Crossing}
use Rattle.walk_faults.specs.declared.findings.Findings.{Findings}
use Rattle.walk_faults.specs.declared.findings.Repeat.{Repeat}
use Rattle.walk_faults.specs.declared.findings.Touch.{Touch}
use Rattle.walk_faults.proofs.Opening.{nothing_opens}
use Rattle.mend_report.specs.Common.{OpensOn, Looked, MapOpens, reads_unchanged, is_clear, Asked, Report, LookFault, report_status}

-- ---- nothing is found

none_if : {X : Type 0} (xs : List X) → (length xs == 0) ≡ true → xs ≡ []
none_if [] e = refl
none_if (x ∷ xs) e = absurd (omega (arith, eqb-true (suc (length xs)) 0 e))

all_four : (a b c d : Bool) → (a && b && c && d) ≡ true → (a ≡ true) × (b ≡ true) × (c ≡ true) × (d ≡ true)
all_four true true true true e = (refl, refl, refl, refl)
all_four false b c d e = absurd (false≢true e)
all_four true false c d e = absurd (false≢true e)
all_four true true false d e = absurd (false≢true e)
all_four true true true false e = absurd (false≢true e)

nothing_if : {A : Type 0} (f : Findings A) → is_clear f.short.items f.repeats.items f.touches.items f.crossings.items ≡ true → IsNothing f
nothing_if f e =
    let each = all_four (length f.short.items == 0) (length f.repeats.items == 0) (length f.touches.items == 0) (length f.crossings.items == 0) e in
    record {
      short = none_if f.short.items each.0;
      repeats = none_if f.repeats.items each.1;
      touches = none_if f.touches.items each.2;
      crossings = none_if f.crossings.items each.3;
    }

clear_if : (short : List RingAt) (repeats : List Repeat) (touches : List Touch) (crossings : List Crossing)
    → short ≡ [] → repeats ≡ [] → touches ≡ [] → crossings ≡ [] → is_clear short repeats touches crossings ≡ true
clear_if short repeats touches crossings e f g h =
    ap (λ z. is_clear z repeats touches crossings) e ∙ ap (λ z. is_clear [] z touches crossings) f
    ∙ ap (λ z. is_clear [] [] z crossings) g ∙ ap (is_clear [] [] []) h

-- ---- the status

zero_if : (b : Bool) → ◌≡◌ {A = ℕ} (if b then 0 else 1) 0 → b ≡ true
zero_if true e = refl
zero_if false e = absurd (omega arith)

-- the bytes are one topology on a grid
pub one : (wants : Wants) (bytes : List ℕ) (o p : Opened) → OpensOn wants bytes o → OpensOn wants bytes p → o ≡ p
one wants bytes o p reads again = ok_same o p (sym reads.opens ∙ again.opens)

-- and so is the grid
plain_same : (wants : Wants) (bytes : List ℕ) (s t : Told) → IsTold wants bytes s → IsTold wants bytes t → reads_unchanged s ≡ reads_unchanged t
plain_same wants bytes s t told again =
    let shape : told.shape ≡ again.shape = ok_same told.shape again.shape (sym told.outlined ∙ again.outlined) in
    let whole : s.whole ≡ t.whole = told.is.whole ∙ ap (λ (o : OutlineText). all_whole o.arcs) shape ∙ sym again.is.whole in
    let same : s.heights ≡ t.heights =
    told.is.heights ∙ ap (λ (o : OutlineText). if wants.drop_heights then heights o.arcs else 0) shape ∙ sym again.is.heights in
    ap (λ (b : Bool). b && (s.heights == 0)) whole ∙ ap (λ (z : ℕ). t.whole && (z == 0)) same

pub status_opens : {A : Type 0} (asked : Asked) (bytes : List ℕ) (r : Report A) → Looked asked.grid bytes r.findings → IsTold asked.grid bytes r.grid
    → r.dropped ≡ asked.dropped → report_status (Ok r) ≡ 0 ↔ MapOpens asked bytes
status_opens {A = A} asked bytes r looked told dropped = (
  λ e.
      let both = and_parts (reads_unchanged r.grid && (r.dropped == 0)) clear (zero_if ((reads_unchanged r.grid && (r.dropped == 0)) && clear) e) in
      let grid = and_parts (reads_unchanged r.grid) (r.dropped == 0) both.0 in
      (o, r.grid, looked.1, told, grid.0, sym dropped ∙ eqb-true r.dropped 0 grid.1, law.0 (nothing_if f both.1)),
  λ opens.
      let opened = subst (λ p. Opens p.polygons) (one asked.grid bytes opens.0 o opens.2 looked.1) opens.6 in
      let none = law.1 opened in
      let plain : reads_unchanged r.grid ≡ true = plain_same asked.grid bytes r.grid opens.1 told opens.3 ∙ opens.4 in
      let none_dropped : (r.dropped == 0) ≡ true = ap (λ (n : ℕ). n == 0) (dropped ∙ opens.5) in
      ap (λ b. if b then 0 else 1) (ap₂ (λ a b. a && b) (ap₂ (λ a b. a && b) plain none_dropped)
      (clear_if f.short.items f.repeats.items f.touches.items f.crossings.items none.short none.repeats none.touches none.crossings)),
)
  where
    f : Findings A
    f = r.findings

    o : Opened
    o = looked.0

    law : IsNothing f ↔ Opens o.polygons
    law = nothing_opens o.polygons f looked.2

    clear : Bool
    clear = is_clear f.short.items f.repeats.items f.touches.items f.crossings.items

-- as it is answered: what is found is found in what the bytes are, and the grid is theirs
pub answer_opens : {A : Type 0} (asked : Asked) (bytes : List ℕ) (o : Opened) (grid : Told) (r : Result (Report A) LookFault)
    → OpensOn asked.grid bytes o → IsTold asked.grid bytes grid → IfOk r (λ report. Found o.polygons report.findings) → IfOk r (λ report. report.grid ≡ grid)
    → IfOk r (λ report. report.dropped ≡ asked.dropped) → IfOk r (λ report. report_status (Ok report) ≡ 0 ↔ MapOpens asked bytes)
answer_opens asked bytes o grid (Ok report) opens told found same dropped =
    status_opens asked bytes report (o, opens, found) (subst (IsTold asked.grid bytes) (sym same) told) dropped
answer_opens asked bytes o grid (Err fault) opens told found same dropped = tt
