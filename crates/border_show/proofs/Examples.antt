-- What words ask for, worked out.
use Rattle.kit_words.proofs.Common.{◌≡◌, refl, true, false, [], ◌∷◌, List, Some, None, codes, pos, negsuc}
use Rattle.std.specs.Str.Parse.{signed_digits_value}
use Rattle.clap.specs.Words.{Text, all_of, first_of, is_simple, matches_of, one_of}
use Rattle.clap.proofs.OnLiterals.{clap_on_literals}
use Rattle.border_show.specs.Asked.{begins_short, show_program}

-- border_show one.json --at 14 3 9 two.json --ids --out p.svg
abbrev words : List Text
words = codes "border_show" ∷ codes "one.json" ∷ codes "--at" ∷ codes "14" ∷ codes "3" ∷ codes "9"
    ∷ codes "two.json" ∷ codes "--ids" ∷ codes "--out" ∷ codes "p.svg" ∷ []

simple : is_simple (show_program false) ≡ true
simple = refl

map : first_of (codes "MAP") (matches_of (show_program false) words) ≡ Some (codes "one.json")
unfolding clap_on_literals
map = refl

after : first_of (codes "AFTER") (matches_of (show_program false) words) ≡ Some (codes "two.json")
unfolding clap_on_literals
after = refl

at : all_of (codes "at") (matches_of (show_program false) words) ≡ Some (codes "14" ∷ codes "3" ∷ codes "9" ∷ [])
unfolding clap_on_literals
at = refl

feature : first_of (codes "feature") (matches_of (show_program false) words) ≡ None
unfolding clap_on_literals
feature = refl

ids : one_of (codes "ids") (matches_of (show_program false) words) ≡ Some (codes "true")
unfolding clap_on_literals
ids = refl

no_ids : one_of (codes "ids") (matches_of (show_program false) (codes "border_show" ∷ codes "one.json" ∷ codes "--out" ∷ codes "p.svg" ∷ []))
    ≡ Some (codes "false")
unfolding clap_on_literals
no_ids = refl

-- numbers with a sign, and words with dashes
below : signed_digits_value 10 (codes "-12") ≡ negsuc 11
below = refl

above : signed_digits_value 10 (codes "+07") ≡ pos 7
above = refl

negative : begins_short (codes "-5") ≡ true
negative = refl

long : begins_short (codes "--at") ≡ false
long = refl

dash : begins_short (codes "-") ≡ false
dash = refl
