-- What clap found among the words is what the words ask for.
use Rattle.kit_words.proofs.Common.{◌≡◌, ℕ, ap, subst, ◌∙◌, refl, Bool, true, false, List, Option, Some, None}
use Rattle.kit_words.proofs.Common.{option_map, Bor, codes}
use Rattle.clap.specs.Words.{App, HasMatchesOf, first_value, found_of, is_simple, matches_of, one_of, one_text}
use Rattle.clap.specs.declared.parser.matches.ArgMatches.{ArgMatches}
use Rattle.clap.proofs.WalkLemmas.{one_text-rows}
use Rattle.program_ends.proofs.Common.{read_text}
use Rattle.edit_program.specs.Common.{program, argument_of, flag_of, IsDepth, IsFlag}

pub depth_is : (a : App) (m : ArgMatches) (words : List (List ℕ)) (id key : List ℕ) (given : Option (Bor (List ℕ))) (n : ℕ)
    → a ≡ program → HasMatchesOf a words m → key ≡ id → option_map (λ s. s.now) given ≡ first_value (found_of m) key
    → IsDepth (option_map (λ s. s.now) given) n → IsDepth (argument_of id words) n
depth_is a m words id key given n is has same read depth =
    subst (λ (o : Option (List ℕ)). IsDepth o n) (read_text program refl a m words id key given is has same read) depth

-- a flag is on as its value is read
flag_read : (read : Option (List ℕ)) (on : Bool) → (read ≡ None → on ≡ false) → (read ≡ Some (codes "true") → on ≡ true)
    → (read ≡ Some (codes "false") → on ≡ false) → IsFlag read on
flag_read None on none on_true on_false = none refl
flag_read (Some text) on none on_true on_false = (λ e. on_true (ap (λ (t : List ℕ). Some t) e), λ e. on_false (ap (λ (t : List ℕ). Some t) e))

pub flag_is : (a : App) (m : ArgMatches) (words : List (List ℕ)) (id key : List ℕ) (on : Bool)
    → a ≡ program → HasMatchesOf a words m → key ≡ id → (one_text (found_of m) key ≡ None → on ≡ false)
    → (one_text (found_of m) key ≡ Some (codes "true") → on ≡ true) → (one_text (found_of m) key ≡ Some (codes "false") → on ≡ false)
    → IsFlag (flag_of id words) on
flag_is a m words id key on is has same none on_true on_false =
    subst (λ (o : Option (List ℕ)). IsFlag o on)
    (ap (one_text (found_of m)) same ∙ (one_text-rows (found_of m) id ∙ ap (one_of id) ((has (ap is_simple is)).0 ∙ ap (λ (z : App). matches_of z words) is)))
    (flag_read (one_text (found_of m) key) on none on_true on_false)
