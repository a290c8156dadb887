-- What clap found among the words is what the words ask for.
use Rattle.kit_words.proofs.Common.{◌≡◌, ℕ, ◌∙◌, refl, subst, sym, Bool, List, Option, Some, option_map, codes, Bor}
use Rattle.clap.specs.Words.{App, HasMatchesOf, first_value, found_of}
use Rattle.clap.specs.declared.parser.matches.ArgMatches.{ArgMatches}
use Rattle.program_ends.proofs.Common.{read_text}
use Rattle.border_mend.specs.Common.{mend_program, value_given, IsCount, dropped, IsAsked, AreDifferent}
use Rattle.mend_report.specs.declared.asked.Asked.{Asked}

-- what four values ask for is what the words ask for
module _ (a : App) (m : ArgMatches) (words : List (List ℕ)) (is : a ≡ mend_program) (has : HasMatchesOf a words m) where
  value_of : (id key : List ℕ) (given : Option (Bor (List ℕ))) → key ≡ id → option_map (λ s. s.now) given ≡ first_value (found_of m) key
      → option_map (λ s. s.now) given ≡ value_given id words
  value_of id key given same read = read_text mend_program refl a m words id key given is has same read

  pub asked_is : (k l n o : List ℕ) (most digits refine drop : Option (Bor (List ℕ))) (asked : Asked) (lines : Bool)
      → k ≡ codes "most" → l ≡ codes "digits" → n ≡ codes "refine" → o ≡ codes "drop"
      → option_map (λ s. s.now) most ≡ first_value (found_of m) k → option_map (λ s. s.now) digits ≡ first_value (found_of m) l
      → option_map (λ s. s.now) refine ≡ first_value (found_of m) n → option_map (λ s. s.now) drop ≡ first_value (found_of m) o
      → IsAsked (option_map (λ s. s.now) most) (option_map (λ s. s.now) digits) (option_map (λ s. s.now) refine) (option_map (λ s. s.now) drop) asked lines
      → IsAsked (value_given (codes "most") words) (value_given (codes "digits") words) (value_given (codes "refine") words) (value_given (codes "drop") words) asked lines
  asked_is k l n o most digits refine drop asked lines e f g h r s t u is_asked = record {
    is_most = subst (λ (v : Option (List ℕ)). IsCount 1000 4000000 v asked.most) (value_of (codes "most") k most e r) is_asked.is_most;
    are_digits = subst (λ (v : Option (List ℕ)). IsCount 24 24 v asked.grid.digits) (value_of (codes "digits") l digits f s) is_asked.are_digits;
    is_finer = subst (λ (v : Option (List ℕ)). IsCount 0 12 v asked.grid.finer) (value_of (codes "refine") n refine g t) is_asked.is_finer;
    are_dropped = subst (λ (v : Option (List ℕ)). dropped v ≡ Some (asked.grid.drop_heights, lines)) (value_of (codes "drop") o drop h u) is_asked.are_dropped;
    nothing_dropped = is_asked.nothing_dropped;
    not_lying = is_asked.not_lying;
  }

-- paths that are apart are apart once they are copied
pub files_apart : (one other : Option (Bor (List ℕ))) (copy second : Option (List ℕ)) → AreDifferent (option_map (λ s. s.now) one) (option_map (λ s. s.now) other)
    → copy ≡ option_map (λ s. s.now) one → second ≡ option_map (λ s. s.now) other → AreDifferent copy second
files_apart one other copy second apart is_one is_other path is same = apart path (sym is_one ∙ is) (sym is_other ∙ same)
