use Rattle.kit_words.proofs.Common.{[], refl, sym, inl, inr}
use Rattle.std.proofs.Common.{append-nil}
use Rattle.edit_program.specs.Listing.{row_text}
use Rattle.edit_program.proofs.refused_lines.RefusedLines.answer.Goals as goal

pub returns-in-Some-refusal : goal.returns-in-Some-refusal
returns-in-Some-refusal c = record {
  line = c.in-Some.line;
  row = row_text c.in-Some.line c.in-Some-refusal.answer.now c.in_ok-push_row-in-Some-refusal.ensures.0;
  waited = c.in-Some.ensures.items;
  listed = c.in_ok-push_row-in-Some-refusal.ensures.1;
  is_row = inr (c.in-Some-refusal.answer.now, (c.in_ok-push_row-in-Some-refusal.ensures.0, refl, c.in_ok-push_row-in-Some-refusal.ensures.2));
}

pub returns : goal.returns
returns c = record {
  line = c.in-Some.line;
  row = [];
  waited = c.in-Some.ensures.items;
  listed = sym (append-nil c.args.self.now.rows.items);
  is_row = inl refl;
}
