-- What clap found is what the arguments ask for.
use Rattle.kit_words.proofs.Common.{◌≡◌, ◌∙◌, ap, refl, subst, Bool, true, false, ℕ, List, [], Option, Some, None}
use Rattle.kit_words.proofs.Common.{option_map, codes, Bor}
use Rattle.std.specs.Prelude.{unwrap_or}
use Rattle.clap.specs.Words.{App, HasMatchesOf, Row, Text, first_of, first_value, found_of, is_simple, matches_of, one_of, one_text, rows_of}
use Rattle.clap.specs.declared.parser.matches.ArgMatches.{ArgMatches}
use Rattle.clap.proofs.WalkLemmas.{first_value-rows, one_text-rows}
use Rattle.border_export.specs.Asked.{AreAsked, AreDecimals, IsFlag, KeepsWinding, export_program}
use Rattle.border_export.specs.declared.arguments.Arguments.{Arguments}

or_empty : (given : Option (Bor Text)) (empty : Bor Text) → empty.now ≡ [] → (unwrap_or given empty).now ≡ unwrap_or (option_map (λ s. s.now) given) []
or_empty None empty is_empty = is_empty
or_empty (Some text) empty is_empty = refl

-- a flag is on as its value is read
flag_read : (read : Option Text) (on : Bool) → (read ≡ None → on ≡ false) → (read ≡ Some (codes "true") → on ≡ true)
    → (read ≡ Some (codes "false") → on ≡ false) → IsFlag read on
flag_read None on none on_true on_false = none refl
flag_read (Some text) on none on_true on_false = (λ e. on_true (ap (λ (t : Text). Some t) e), λ e. on_false (ap (λ (t : Text). Some t) e))

module _ (m : ArgMatches) where
  -- a value that is read under a key that writes the id
  pub text_found : (id key : Text) (given : Option (Bor Text)) → key ≡ id → option_map (λ s. s.now) given ≡ first_value (found_of m) key
      → option_map (λ s. s.now) given ≡ first_of id (rows_of (found_of m))
  text_found id key given same read = read ∙ (ap (first_value (found_of m)) same ∙ first_value-rows (found_of m) id)

  pub word_found : (id key : Text) (given : Option (Bor Text)) (empty word : Bor Text) (bytes : Text) → key ≡ id
      → option_map (λ s. s.now) given ≡ first_value (found_of m) key → empty.now ≡ [] → word ≡ unwrap_or given empty → bytes ≡ word.now
      → bytes ≡ unwrap_or (first_of id (rows_of (found_of m))) []
  word_found id key given empty word bytes same read is_empty is copied =
      copied ∙ (ap (λ (s : Bor Text). s.now) is ∙ (or_empty given empty is_empty
      ∙ ap (λ (o : Option Text). unwrap_or o []) (text_found id key given same read)))

  pub flag_found : (id key : Text) (on : Bool) → key ≡ id → (one_text (found_of m) key ≡ None → on ≡ false)
      → (one_text (found_of m) key ≡ Some (codes "true") → on ≡ true) → (one_text (found_of m) key ≡ Some (codes "false") → on ≡ false)
      → IsFlag (one_of id (rows_of (found_of m))) on
  flag_found id key on same none on_true on_false =
      subst (λ (o : Option Text). IsFlag o on) (ap (one_text (found_of m)) same ∙ one_text-rows (found_of m) id)
      (flag_read (one_text (found_of m) key) on none on_true on_false)

  pub decimals_found : (id key : Text) (given : Option (Bor Text)) (decimals : Option ℕ) → key ≡ id → option_map (λ s. s.now) given ≡ first_value (found_of m) key
      → AreDecimals (option_map (λ s. s.now) given) decimals → AreDecimals (first_of id (rows_of (found_of m))) decimals
  decimals_found id key given decimals same read asked =
      subst (λ (o : Option Text). AreDecimals o decimals) (text_found id key given same read) asked

  pub winding_found : (id key : Text) (given : Option (Bor Text)) (keeps : Bool) → key ≡ id → option_map (λ s. s.now) given ≡ first_value (found_of m) key
      → KeepsWinding (option_map (λ s. s.now) given) keeps → KeepsWinding (first_of id (rows_of (found_of m))) keeps
  winding_found id key given keeps same read asked =
      subst (λ (o : Option Text). KeepsWinding o keeps) (text_found id key given same read) asked

  -- what clap finds by its rules
  pub asked_among : (a : App) (words : List Text) (asked : Arguments) → HasMatchesOf a words m → a ≡ export_program → AreAsked (rows_of (found_of m)) asked
      → AreAsked (matches_of export_program words) asked
  asked_among a words asked has is are =
      subst (λ (rows : List Row). AreAsked rows asked) ((has (ap is_simple is ∙ refl)).0 ∙ ap (λ (z : App). matches_of z words) is) are
