-- What clap found is what the arguments ask for.
use Rattle.kit_words.proofs.Common.{◌≡◌, ◌∙◌, ap, refl, subst, Bool, true, false, List, [], Option, Some, None}
use Rattle.kit_words.proofs.Common.{option_map, codes, Bor}
use Rattle.std.specs.Prelude.{unwrap_or}
use Rattle.clap.specs.Words.{App, HasMatchesOf, Text, all_of, first_of, first_value, found_of, is_simple, matched_of}
use Rattle.clap.specs.Words.{matches_of, one_of, one_text, raw_values, rows_of}
use Rattle.clap.specs.declared.parser.matches.ArgMatches.{ArgMatches}
use Rattle.clap.proofs.WalkLemmas.{first_value-rows, one_text-rows, raw_values-rows}
use Rattle.border_show.specs.Asked.{IsFlag, IsPartAsked, show_program, texts_of}
use Rattle.border_show.specs.declared.arguments.Part.{Part}

or_empty : (given : Option (Bor Text)) (empty : Bor Text) → empty.now ≡ [] → (unwrap_or given empty).now ≡ unwrap_or (option_map (λ s. s.now) given) []
or_empty None empty is_empty = is_empty
or_empty (Some text) empty is_empty = refl

-- a flag is on as its value is read
flag_read : (read : Option Text) (on : Bool) → (read ≡ None → on ≡ false) → (read ≡ Some (codes "true") → on ≡ true)
    → (read ≡ Some (codes "false") → on ≡ false) → IsFlag read on
flag_read None on none on_true on_false = none refl
flag_read (Some text) on none on_true on_false = (λ e. on_true (ap (λ (t : Text). Some t) e), λ e. on_false (ap (λ (t : Text). Some t) e))

module _ (m : ArgMatches) where
  -- a value that is read under a key that writes the id
  pub text_found : (id key : Text) (given : Option (Bor Text)) → key ≡ id → option_map (λ s. s.now) given ≡ first_value (found_of m) key
      → option_map (λ s. s.now) given ≡ first_of id (rows_of (found_of m))
  text_found id key given same read = read ∙ (ap (first_value (found_of m)) same ∙ first_value-rows (found_of m) id)

  pub word_found : (id key : Text) (given : Option (Bor Text)) (empty word : Bor Text) (bytes : Text) → key ≡ id
      → option_map (λ s. s.now) given ≡ first_value (found_of m) key → empty.now ≡ [] → word ≡ unwrap_or given empty → bytes ≡ word.now
      → bytes ≡ unwrap_or (first_of id (rows_of (found_of m))) []
  word_found id key given empty word bytes same read is_empty is copied =
      copied ∙ (ap (λ (s : Bor Text). s.now) is ∙ (or_empty given empty is_empty
      ∙ ap (λ (o : Option Text). unwrap_or o []) (text_found id key given same read)))

  pub flag_found : (id key : Text) (on : Bool) → key ≡ id → (one_text (found_of m) key ≡ None → on ≡ false)
      → (one_text (found_of m) key ≡ Some (codes "true") → on ≡ true) → (one_text (found_of m) key ≡ Some (codes "false") → on ≡ false)
      → IsFlag (one_of id (rows_of (found_of m))) on
  flag_found id key on same none on_true on_false =
      subst (λ (o : Option Text). IsFlag o on) (ap (one_text (found_of m)) same ∙ one_text-rows (found_of m) id)
      (flag_read (one_text (found_of m) key) on none on_true on_false)

  pub part_found : (at at_key feature feature_key : Text) (values : Option (Bor (List (Bor Text)))) (name : Option (Bor Text)) (part : Part)
      → at_key ≡ at → feature_key ≡ feature → texts_of values ≡ option_map raw_values (matched_of (found_of m) at_key)
      → option_map (λ s. s.now) name ≡ first_value (found_of m) feature_key → IsPartAsked (texts_of values) (option_map (λ s. s.now) name) part
      → IsPartAsked (all_of at (rows_of (found_of m))) (first_of feature (rows_of (found_of m))) part
  part_found at at_key feature feature_key values name part same_at same_feature read_at read_feature is_asked =
      subst (λ (o : Option (List Text)). IsPartAsked o (first_of feature (rows_of (found_of m))) part)
      (read_at ∙ (ap (λ (k : Text). option_map raw_values (matched_of (found_of m) k)) same_at ∙ raw_values-rows (found_of m) at))
      (subst (λ (o : Option Text). IsPartAsked (texts_of values) o part) (text_found feature feature_key name same_feature read_feature) is_asked)

  -- what clap finds where no argument may be a negative number
  pub rows_found : (a : App) (words : List Text) → HasMatchesOf a words m → a ≡ show_program false
      → rows_of (found_of m) ≡ matches_of (show_program false) words
  rows_found a words has is = (has (ap is_simple is ∙ refl)).0 ∙ ap (λ (z : App). matches_of z words) is
