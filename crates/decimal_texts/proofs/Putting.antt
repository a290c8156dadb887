-- Bytes, put one after another.
use Rattle.kit_words.proofs.Common.{◌≡◌, ℕ, suc, ◌+◌, ◌-◌, ◌<◌, ◌≤◌, List, [], ◌∷◌, length, get_or, set, drop, refl}
use Rattle.kit_words.proofs.Common.{◌∙◌, arith, add-one, drop-cons, replicate, Option, Some, None, fold, drop_all}
use Rattle.kit_words.proofs.Common.{codes}
use Rattle.std.proofs.Common.{length-set}
use Rattle.json_spans.specs.Common.{Node, members}
use Rattle.decimal_texts.specs.Common.{value_in, overwritten, range_of, blanked, nulled, without_line}

-- ---- bytes

pub put_step : (n i : ℕ) (bytes text : List ℕ) → i < length bytes → overwritten (n + i) (drop i bytes) text ≡ overwritten (n + (i + 1)) (drop (i + 1) bytes) (set text (n + i) (get_or bytes i 0))
unfolding overwritten
put_step n i bytes text lt =
    let next : n + i + 1 ≡ n + suc i = omega arith in
    rw (drop-cons bytes i 0 lt, add-one i, ← next) refl

pub put_end : (n i : ℕ) (bytes text : List ℕ) → length bytes ≤ i → overwritten (n + i) (drop i bytes) text ≡ text
unfolding overwritten
put_end n i bytes text le = rw (drop_all i bytes le) refl

-- ---- spaces

pub blank_step : (place to : ℕ) (text : List ℕ) → place < to → overwritten place (replicate (to - place) 32) text ≡ overwritten (place + 1) (replicate (to - (place + 1)) 32) (set text place 32)
unfolding overwritten
blank_step place to text lt = let more : to - place ≡ suc (to - (place + 1)) = omega arith in rw more refl

pub blank_end : (place to : ℕ) (text : List ℕ) → to ≤ place → overwritten place (replicate (to - place) 32) text ≡ text
unfolding overwritten
blank_end place to text le = let none : to - place ≡ 0 = omega arith in rw none refl

-- ---- the length stays

length-put : (n : ℕ) (bytes text : List ℕ) → length (overwritten n bytes text) ≡ length text
unfolding overwritten
length-put n [] text = refl
length-put n (x ∷ xs) text = length-put (n + 1) xs (set text n x) ∙ length-set text n x

length-blanked : (r : Option (ℕ × ℕ)) (text : List ℕ) → length (blanked r text) ≡ length text
length-blanked None text = refl
length-blanked (Some r) text = length-put r.0 (replicate (r.1 - r.0) 32) text

length-nulled : (ns : List Node) (text : List ℕ) → length (nulled ns text) ≡ length text
length-nulled [] text = refl
length-nulled (n ∷ ns) text = length-put n.at_byte _ _ ∙ length-put n.at_byte _ text

pub length_without : (ns : List Node) (text : List ℕ) → length (fold without_line text ns) ≡ length text
length_without [] text = refl
length_without (n ∷ ns) text =
    length_without ns (without_line text n)
    ∙ length-nulled (value_in (codes "type") n) (blanked (range_of (codes "arcs") None (members n)) text)
    ∙ length-blanked (range_of (codes "arcs") None (members n)) text
