-- What is seen of a script and of its answers piece by piece adds up.
use Rattle.kit_words.proofs.Common.{◌≡◌, ℕ, ◌-◌, min, Bool, ◌||◌, List, [], ◌∷◌, ◌++◌, length, take, refl, sym, ◌∙◌, ap}
use Rattle.kit_words.proofs.Common.{append_assoc, arith, nat_lt, nat_tests}
use Rattle.std.proofs.Common.{append-nil}
use Rattle.std.proofs.lemmas.List.{take_min}
use Rattle.edit_program.specs.declared.refused_lines.RefusedLines.{RefusedLines}
use Rattle.edit_program.specs.declared.script_line.ScriptLine.{ScriptLine}
use Rattle.edit_program.specs.Listing.{AreRows, Awaits, EndsLine, IsRow, Lists, ListsFirst, rows_of, waiting_of}

-- ---- bytes of a line

-- so many bytes are kept as there is room for
pub kept_bytes : (old new bytes : List ℕ) (kept : ℕ) → kept ≡ min (length bytes) (8192 - length old) → new ≡ old ++ take kept bytes
    → new ≡ old ++ take (8192 - length old) bytes
kept_bytes old new bytes kept most e =
    let same : kept ≡ min (8192 - length old) (length bytes) = omega arith in
    e ∙ ap (λ (k : ℕ). old ++ take k bytes) same ∙ ap (λ (z : List ℕ). old ++ z) (take_min (8192 - length old) bytes)

pub kept_over : (over : Bool) (old n kept : ℕ) → kept ≡ min n (8192 - old)
    → (over || nat_lt kept n) ≡ (over || nat_lt (8192 - old) n)
kept_over over old n kept most =
    let same : nat_lt kept n ≡ nat_lt (8192 - old) n = grind (arith, nat_tests) in
    ap (λ (b : Bool). over || b) same

-- ---- lines that wait

-- nothing has come
pub awaits_none : (old new : RefusedLines) → waiting_of new ≡ waiting_of old → rows_of new ≡ rows_of old → Awaits old new
awaits_none old new waits rows = record { more = []; waits = waits ∙ sym (append-nil (waiting_of old)); rows = rows }

pub awaits_more : (old mid new : RefusedLines) → Awaits old mid → Awaits mid new → Awaits old new
awaits_more old mid new first then = record {
  more = first.more ++ then.more;
  waits = then.waits ∙ ap (λ (z : List ScriptLine). z ++ then.more) first.waits ∙ append_assoc (waiting_of old) first.more then.more;
  rows = then.rows ∙ first.rows;
}

-- ---- rows

-- one more line has its answer
pub rows_more : (lines : List ScriptLine) (line : ScriptLine) (text row : List ℕ) → AreRows lines text → IsRow line row
    → AreRows (lines ++ line ∷ []) (text ++ row)
rows_more [] line text row none is_row = record {
  row = row;
  others = [];
  all = ap (λ (z : List ℕ). z ++ row) none ∙ sym (append-nil row);
  is_row = is_row;
  are_others = refl;
}
rows_more (l ∷ ls) line text row found is_row = record {
  row = found.row;
  others = found.others ++ row;
  all = ap (λ (z : List ℕ). z ++ row) found.all ∙ append_assoc found.row found.others row;
  is_row = found.is_row;
  are_others = rows_more ls line found.others row found.are_others is_row;
}

-- no answer has come
pub lists_none : (old new : RefusedLines) → waiting_of new ≡ waiting_of old → rows_of new ≡ rows_of old → Lists old new
lists_none old new waits rows = record {
  answered = [];
  more = [];
  waited = sym waits;
  listed = rows ∙ sym (append-nil (rows_of old));
  rows = refl;
}

-- what came changed neither the lines that wait nor the rows
pub lists_same : (old mid new : RefusedLines) → waiting_of new ≡ waiting_of mid → rows_of new ≡ rows_of mid → Lists old mid
    → Lists old new
lists_same old mid new waits rows before = record {
  answered = before.answered;
  more = before.more;
  waited = before.waited ∙ ap (λ (z : List ScriptLine). before.answered ++ z) (sym waits);
  listed = rows ∙ before.listed;
  rows = before.rows;
}

-- one more answer has come
pub lists_more : (old mid new : RefusedLines) → Lists old mid → ListsFirst mid new → Lists old new
lists_more old mid new before then = record {
  answered = before.answered ++ then.line ∷ [];
  more = before.more ++ then.row;
  waited = before.waited ∙ ap (λ (z : List ScriptLine). before.answered ++ z) then.waited
      ∙ sym (append_assoc before.answered (then.line ∷ []) (waiting_of new));
  listed = then.listed ∙ ap (λ (z : List ℕ). z ++ then.row) before.listed ∙ append_assoc (rows_of old) before.more then.row;
  rows = rows_more before.answered then.line before.more then.row before.rows then.is_row;
}
