use Rattle.kit_words.proofs.Common.{length, refl, arith}
use Rattle.edit_program.proofs.ListingLemmas.{kept_bytes, kept_over}
use Rattle.edit_program.proofs.script_line.ScriptLine.gain.Goals as goal

pub returns : goal.returns
returns c = record {
  number = refl;
  bytes = kept_bytes c.args.self.now.bytes.items c.extend_from_slice.new.self.items c.args.bytes.now c.min-kept.result
      (omega (arith, c.min-kept.ensures, c.len.ensures)) c.in_ok-extend_from_slice.ensures.items;
  ended = refl;
  over = kept_over c.args.self.now.is_over (length c.args.self.now.bytes.items) (length c.args.bytes.now) c.min-kept.result
      (omega (arith, c.min-kept.ensures, c.len.ensures));
}
