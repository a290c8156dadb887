-- New texts, put in one after another.
use Rattle.kit_words.proofs.Common.{◌≡◌, ℕ, ◌+◌, ◌<◌, ◌≤◌, List, ◌++◌, length, map, drop, get_or, refl, append_assoc}
use Rattle.kit_words.proofs.Common.{signed_decimal, drop_all, next_drop}
use Rattle.json_spans.specs.Common.{node}
use Rattle.decimal_texts.specs.declared.rounding.Change.{Change}
use Rattle.decimal_texts.specs.Common.{change, bytes_between, spliced}
use Rattle.decimal_texts.specs.Dropped.{end_of}

pub spliced_turn : (bytes : List ℕ) (from to : ℕ) (changes : List Change) (i : ℕ) (a : Change) (text front one two whole : List ℕ)
    → i < length changes → a ≡ get_or changes i a → front ≡ bytes_between from a.span.at bytes → one ≡ text ++ front
    → two ≡ one ++ signed_decimal a.number → to ≡ end_of (node a.span)
    → text ++ spliced bytes from (map change (drop i changes)) ≡ whole → two ++ spliced bytes to (map change (drop (i + 1) changes)) ≡ whole
unfolding spliced
spliced_turn bytes from to changes i a text front one two whole lt is f o w t h =
    let rest = spliced bytes (end_of (node a.span)) (map change (drop (i + 1) changes)) in
    rw (
      t,
      w,
      o,
      f,
      append_assoc (text ++ bytes_between from a.span.at bytes) (signed_decimal a.number) rest,
      append_assoc text (bytes_between from a.span.at bytes) (signed_decimal a.number ++ rest),
    )
    (rw (next_drop changes i a lt is) at h)

pub spliced_end : (bytes : List ℕ) (from : ℕ) (changes : List Change) (i : ℕ) → length changes ≤ i
    → spliced bytes from (map change (drop i changes)) ≡ drop from bytes
unfolding spliced
spliced_end bytes from changes i le = rw (drop_all i changes le) refl
