-- What clap found is what the arguments ask for.
use Rattle.kit_words.proofs.Common.{◌≡◌, ◌∙◌, ap, refl, subst, ℕ, List, [], Option, Some, None, map, option_map, Bor}
use Rattle.std.specs.Prelude.{unwrap_or}
use Rattle.clap.specs.Words.{App, HasMatchesOf, Row, Text, all_of, first_of, first_value, found_of, is_simple, matched_of, matches_of, raw_values, rows_of}
use Rattle.clap.specs.declared.parser.matches.ArgMatches.{ArgMatches}
use Rattle.clap.proofs.WalkLemmas.{first_value-rows, raw_values-rows}
use Rattle.border_cover.specs.Asked.{AreAsked, IsBound, IsCount, cover_program}
use Rattle.border_cover.specs.declared.arguments.Arguments.{Arguments}

or_empty : (given : Option (Bor Text)) (empty : Bor Text) → empty.now ≡ [] → (unwrap_or given empty).now ≡ unwrap_or (option_map (λ s. s.now) given) []
or_empty None empty is_empty = is_empty
or_empty (Some text) empty is_empty = refl

abbrev texts_in : Bor (List (Bor Text)) → List Text
texts_in s = map (λ v. v.now) s.now

or_none : (given : Option (Bor (List (Bor Text)))) (empty : Bor (List (Bor Text))) → texts_in empty ≡ []
    → texts_in (unwrap_or given empty) ≡ unwrap_or (option_map texts_in given) []
or_none None empty is_empty = is_empty
or_none (Some texts) empty is_empty = refl

module _ (m : ArgMatches) where
  -- a value that is read under a key that writes the id
  pub text_found : (id key : Text) (given : Option (Bor Text)) → key ≡ id → option_map (λ s. s.now) given ≡ first_value (found_of m) key
      → option_map (λ s. s.now) given ≡ first_of id (rows_of (found_of m))
  text_found id key given same read = read ∙ (ap (first_value (found_of m)) same ∙ first_value-rows (found_of m) id)

  pub word_found : (id key : Text) (given : Option (Bor Text)) (empty word : Bor Text) (bytes : Text) → key ≡ id
      → option_map (λ s. s.now) given ≡ first_value (found_of m) key → empty.now ≡ [] → word ≡ unwrap_or given empty → bytes ≡ word.now
      → bytes ≡ unwrap_or (first_of id (rows_of (found_of m))) []
  word_found id key given empty word bytes same read is_empty is copied =
      copied ∙ (ap (λ (s : Bor Text). s.now) is ∙ (or_empty given empty is_empty
      ∙ ap (λ (o : Option Text). unwrap_or o []) (text_found id key given same read)))

  -- all values that are read under it
  pub texts_found : (id key : Text) (given : Option (Bor (List (Bor Text)))) (empty words : Bor (List (Bor Text))) (copies : List Text) → key ≡ id
      → option_map texts_in given ≡ option_map raw_values (matched_of (found_of m) key) → texts_in empty ≡ [] → words ≡ unwrap_or given empty
      → copies ≡ texts_in words → copies ≡ unwrap_or (all_of id (rows_of (found_of m))) []
  texts_found id key given empty words copies same read is_empty is copied =
      copied ∙ (ap texts_in is ∙ (or_none given empty is_empty
      ∙ ap (λ (o : Option (List Text)). unwrap_or o [])
      (read ∙ (ap (λ k. option_map raw_values (matched_of (found_of m) k)) same ∙ raw_values-rows (found_of m) id))))

  pub count_found : (id key : Text) (given : Option (Bor Text)) (n : ℕ) → key ≡ id → option_map (λ s. s.now) given ≡ first_value (found_of m) key
      → IsCount (option_map (λ s. s.now) given) n → IsCount (first_of id (rows_of (found_of m))) n
  count_found id key given n same read asked =
      subst (λ (o : Option Text). IsCount o n) (text_found id key given same read) asked

  pub bound_found : (greatest : ℕ) (id key : Text) (given : Option (Bor Text)) (bound : Option ℕ) → key ≡ id
      → option_map (λ s. s.now) given ≡ first_value (found_of m) key
      → IsBound greatest (option_map (λ s. s.now) given) bound → IsBound greatest (first_of id (rows_of (found_of m))) bound
  bound_found greatest id key given bound same read asked =
      subst (λ (o : Option Text). IsBound greatest o bound) (text_found id key given same read) asked

  -- what clap finds by its rules
  pub asked_among : (a : App) (words : List Text) (asked : Arguments) → HasMatchesOf a words m → a ≡ cover_program → AreAsked (rows_of (found_of m)) asked
      → AreAsked (matches_of cover_program words) asked
  asked_among a words asked has is are =
      subst (λ (rows : List Row). AreAsked rows asked) ((has (ap is_simple is ∙ refl)).0 ∙ ap (λ (z : App). matches_of z words) is) are
