-- What clap found among the words of a program is what its arguments were given.
use Rattle.kit_words.proofs.Common.{◌≡◌, ◌≢◌, ℕ, ap, ◌∙◌, refl, sym, subst, Bool, true, false, List, [], Option, Some}
use Rattle.kit_words.proofs.Common.{None, option_map, unwrap_or, Bor, MatchBool}
use Rattle.clap.specs.Words.{App, HasMatchesOf, first_of, first_value, found_of, is_simple, matches_of}
use Rattle.clap.specs.declared.parser.matches.ArgMatches.{ArgMatches}
use Rattle.clap.proofs.WalkLemmas.{first_value-rows}

-- what an argument was given, as the matches of the program have it
found_text : (program : App) (simple : is_simple program ≡ true) (a : App) (m : ArgMatches) (words : List (List ℕ)) (id : List ℕ) → a ≡ program → HasMatchesOf a words m → first_value (found_of m) id ≡ first_of id (matches_of program words)
found_text program simple a m words id is has =
    first_value-rows (found_of m) id ∙ ap (first_of id) ((has (ap is_simple is ∙ simple)).0 ∙ ap (λ (z : App). matches_of z words) is)

value_or_empty : (given : Option (Bor (List ℕ))) (empty : Bor (List ℕ)) → empty.now ≡ [] → (unwrap_or given empty).now ≡ unwrap_or (option_map (λ s. s.now) given) []
value_or_empty None empty is_empty = is_empty
value_or_empty (Some text) empty is_empty = refl

-- the same of what is read back under a key that writes the id
pub read_text : (program : App) (simple : is_simple program ≡ true) (a : App) (m : ArgMatches) (words : List (List ℕ)) (id key : List ℕ) (given : Option (Bor (List ℕ)))
    → a ≡ program → HasMatchesOf a words m → key ≡ id → option_map (λ s. s.now) given ≡ first_value (found_of m) key
    → option_map (λ s. s.now) given ≡ first_of id (matches_of program words)
read_text program simple a m words id key given is has same read =
    read ∙ (ap (first_value (found_of m)) same ∙ found_text program simple a m words id is has)

pub word_is : (program : App) (simple : is_simple program ≡ true) (a : App) (m : ArgMatches) (words : List (List ℕ)) (id key : List ℕ) (given : Option (Bor (List ℕ))) (empty word : Bor (List ℕ)) (bytes : List ℕ)
    → a ≡ program → HasMatchesOf a words m → key ≡ id → option_map (λ s. s.now) given ≡ first_value (found_of m) key
    → empty.now ≡ [] → word ≡ unwrap_or given empty → bytes ≡ word.now → bytes ≡ unwrap_or (first_of id (matches_of program words)) []
word_is program simple a m words id key given empty word bytes is has same read is_empty or_empty copied =
    copied ∙ (ap (λ (s : Bor (List ℕ)). s.now) or_empty ∙ (value_or_empty given empty is_empty
    ∙ ap (λ (o : Option (List ℕ)). unwrap_or o []) (read_text program simple a m words id key given is has same read)))

pub copy_is : (program : App) (simple : is_simple program ≡ true) (a : App) (m : ArgMatches) (words : List (List ℕ)) (id key : List ℕ) (given : Option (Bor (List ℕ))) (copy : Option (List ℕ))
    → a ≡ program → HasMatchesOf a words m → key ≡ id → option_map (λ s. s.now) given ≡ first_value (found_of m) key
    → copy ≡ option_map (λ s. s.now) given → copy ≡ first_of id (matches_of program words)
copy_is program simple a m words id key given copy is has same read copied =
    copied ∙ read_text program simple a m words id key given is has same read

-- paths that are not the same are not the same once they are copied
pub copies_apart : (given : Option (Bor (List ℕ))) (word : Bor (List ℕ)) (copy : Option (List ℕ)) (bytes : List ℕ) (is_same : Bool)
    → MatchBool is_same (option_map (λ s. s.now) given ≡ Some word.now) (option_map (λ s. s.now) given ≢ Some word.now) → is_same ≡ false
    → copy ≡ option_map (λ s. s.now) given → bytes ≡ word.now → copy ≢ Some bytes
copies_apart given word copy bytes is_same told apart copied same equal =
    subst (λ (b : Bool). MatchBool b (option_map (λ s. s.now) given ≡ Some word.now) (option_map (λ s. s.now) given ≢ Some word.now)) apart told
    (sym copied ∙ (equal ∙ ap (λ (b : List ℕ). Some b) same))
