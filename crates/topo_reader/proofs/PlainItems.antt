-- The parts of a list whose first one is a pair of plain numbers, and the items of that pair.
use Rattle.kit_words.proofs.Common.{◌≡◌, ℕ, suc, ◌+◌, ◌-◌, List, [], ◌∷◌, ◌++◌, length, take, drop, map, true, false}
use Rattle.kit_words.proofs.Common.{refl, sym, ap, subst, ◌∙◌, arith, ℤ, Some, None, Ok, reverse, list_all, take_while}
use Rattle.kit_words.proofs.Common.{nat_tests, reverse-append, length-append, take_all, list_all-append}
use Rattle.kit_words.proofs.Common.{take_while-cons, drop-append_seam, take-append_seam, and_parts}
use Rattle.std.proofs.lemmas.List.{append_assoc}
use Rattle.json_spans.specs.Common.{is_space, skip_step, part_len, closes, after_comma, parts_left, trimmed}
use Rattle.json_spans.specs.Common.{spaces_before, items, whole_of}
use Rattle.json_spans.specs.Parts.{Node}
use Rattle.json_spans.specs.declared.parts.Skip.TheVariants.{Plain}
use Rattle.json_spans.proofs.Parting.{parts_next, parts_last}
use Rattle.topo_reader.specs.Common.{is_plain, nodes_from}

-- ---- bytes and words

plain_passes : (l x : ℕ) → is_plain x ≡ true → skip_step 44 Plain l x ≡ Some (Plain, l)
plain_passes l x e = grind (arith, nat_tests)

no_space : (x : ℕ) → is_plain x ≡ true → is_space x ≡ false
no_space x e = grind (arith, nat_tests)

no_end : (x : ℕ) → is_plain x ≡ true → closes x ≡ false
no_end x e = grind (arith, nat_tests)

-- a part goes on past a word of minus and digits
word_len : (l : ℕ) (w rest : List ℕ) → list_all is_plain w ≡ true → part_len 44 Plain l (w ++ rest) ≡ length w + part_len 44 Plain l rest
unfolding part_len
word_len l [] rest e = omega arith
word_len l (x ∷ w) rest e =
    let both = and_parts (is_plain x) (list_all is_plain w) e in
    rw (plain_passes l x both.0) (omega (arith, word_len l w rest both.1))

-- ---- what has no space round it

record Tight (v : List ℕ) : Type 0 where
  begins : spaces_before v ≡ 0
  ends : take_while is_space (reverse v) ≡ []

tight_trimmed : (place : ℕ) (v : List ℕ) → Tight v → trimmed (record { at_byte = place; bytes = v }) ≡ record { at_byte = place; bytes = v }
tight_trimmed place v t =
    let kept : take (length v - 0) v ≡ v = take_all (length v - 0) v (omega arith) in
    let there : place + 0 ≡ place = omega arith in
    rw (t.begins, t.ends, kept, there) refl

all_reverse : (v : List ℕ) → list_all is_plain v ≡ true → list_all is_plain (reverse v) ≡ true
all_reverse [] e = refl
all_reverse (x ∷ v) e =
    let both = and_parts (is_plain x) (list_all is_plain v) e in
    rw (reverse-append (x ∷ []) v, list_all-append is_plain (reverse v) (x ∷ []), all_reverse v both.1, both.0) refl

plain_first : (v : List ℕ) → list_all is_plain v ≡ true → take_while is_space v ≡ []
plain_first [] e = refl
plain_first (x ∷ v) e =
    let both = and_parts (is_plain x) (list_all is_plain v) e in
    rw (take_while-cons is_space x v, no_space x both.0) refl

word_begins : (v : List ℕ) → list_all is_plain v ≡ true → spaces_before v ≡ 0
word_begins [] e = refl
word_begins (x ∷ v) e =
    let both = and_parts (is_plain x) (list_all is_plain v) e in
    rw (no_space x both.0) refl

word_tight : (v : List ℕ) → list_all is_plain v ≡ true → Tight v
word_tight v e = record { begins = word_begins v e; ends = plain_first (reverse v) (all_reverse v e) }

-- ---- a pair

abbrev pub pair_text : List ℕ → List ℕ → List ℕ
pair_text a b = 91 ∷ (a ++ (44 ∷ (b ++ (93 ∷ []))))

pair_tight : (a b : List ℕ) → Tight (pair_text a b)
pair_tight a b =
    let front : List ℕ = 91 ∷ (a ++ (44 ∷ b)) in
    let is : pair_text a b ≡ front ++ (93 ∷ []) = simp append_assoc in
    record { begins = refl; ends = rw (is, reverse-append front (93 ∷ [])) refl }

pair_len : (a b rest : List ℕ) → list_all is_plain a ≡ true → list_all is_plain b ≡ true → part_len 44 Plain 0 (91 ∷ (a ++ (44 ∷ (b ++ (93 ∷ rest))))) ≡ length (pair_text a b) + part_len 44 Plain 0 rest
unfolding part_len
pair_len a b rest ea eb =
    rw (word_len 1 a (44 ∷ (b ++ (93 ∷ rest))) ea, word_len 1 b (93 ∷ rest) eb)
    (omega (arith, length-append a (44 ∷ (b ++ (93 ∷ []))), length-append b (93 ∷ [])))

-- ---- parts

pub first_part : (place : ℕ) (part rest : List ℕ) → part_len 44 Plain 0 (part ++ (44 ∷ rest)) ≡ length part → parts_left true place (part ++ (44 ∷ rest)) ≡ record { at_byte = place; bytes = part } ∷ parts_left true (place + length part + 1) rest
first_part place part rest e =
    let behind : Some rest ≡ after_comma (drop (length part) (part ++ (44 ∷ rest))) = rw (drop-append_seam part (44 ∷ rest)) refl in
    let next = parts_next place (length part) (part ++ (44 ∷ rest)) rest (sym e) behind in
    rw (take-append_seam part (44 ∷ rest)) at next

pub last_part : (place : ℕ) (part : List ℕ) → part_len 44 Plain 0 (part ++ (93 ∷ [])) ≡ length part → parts_left true place (part ++ (93 ∷ [])) ≡ record { at_byte = place; bytes = part } ∷ []
last_part place part e =
    let behind : None ≡ after_comma (drop (length part) (part ++ (93 ∷ []))) = rw (drop-append_seam part (93 ∷ [])) refl in
    let last = parts_last place (length part) place (part ++ (93 ∷ [])) [] (sym e) behind in
    rw (take-append_seam part (93 ∷ [])) at last

word_ends : (w : List ℕ) (x : ℕ) (rest : List ℕ) → list_all is_plain w ≡ true → skip_step 44 Plain 0 x ≡ None → part_len 44 Plain 0 (w ++ (x ∷ rest)) ≡ length w
unfolding part_len
word_ends w x rest e stop = rw (word_len 0 w (x ∷ rest) e, stop) (omega arith)

-- the items of a pair are its two words
pub pair_items : (place : ℕ) (a b : List ℕ) (x : ℤ) → list_all is_plain a ≡ true → whole_of a ≡ Ok x → list_all is_plain b ≡ true → items (record { at_byte = place; bytes = pair_text a b }) ≡ record { at_byte = place + 1; bytes = a } ∷ record { at_byte = place + 1 + length a + 1; bytes = b } ∷ []
pair_items place [] b x ea oa eb = absurd cc
pair_items place (c ∷ a) b x ea oa eb =
    let both = and_parts (is_plain c) (list_all is_plain a) ea in
    let word : List ℕ = c ∷ a in
    rw (no_space c both.0, no_end c both.0, first_part (place + 1) word (b ++ (93 ∷ [])) (word_ends word 44 (b ++ (93 ∷ [])) ea refl), last_part (place + 1 + length word + 1) b (word_ends b 93 [] eb refl), tight_trimmed (place + 1) word (word_tight word ea), tight_trimmed (place + 1 + length word + 1) b (word_tight b eb))
    refl

pair_stops : (a b : List ℕ) (x : ℕ) (rest : List ℕ) → list_all is_plain a ≡ true → list_all is_plain b ≡ true → skip_step 44 Plain 0 x ≡ None → part_len 44 Plain 0 (91 ∷ (a ++ (44 ∷ (b ++ (93 ∷ (x ∷ rest)))))) ≡ length (pair_text a b)
unfolding part_len
pair_stops a b x rest ea eb stop =
    let stops : part_len 44 Plain 0 (x ∷ rest) ≡ 0 = rw stop refl in
    pair_len a b (x ∷ rest) ea eb ∙ omega (arith, stops)

pub regroup : (a b rest : List ℕ) → 91 ∷ (a ++ (44 ∷ (b ++ (93 ∷ rest)))) ≡ pair_text a b ++ rest
regroup a b rest = simp append_assoc

pair_deep : (a b rest : List ℕ) → list_all is_plain a ≡ true → list_all is_plain b ≡ true → part_len 44 Plain 1 (91 ∷ (a ++ (44 ∷ (b ++ (93 ∷ rest))))) ≡ length (pair_text a b) + part_len 44 Plain 1 rest
unfolding part_len
pair_deep a b rest ea eb =
    rw (word_len 2 a (44 ∷ (b ++ (93 ∷ rest))) ea, word_len 2 b (93 ∷ rest) eb)
    (omega (arith, length-append a (44 ∷ (b ++ (93 ∷ []))), length-append b (93 ∷ [])))

comma_passes : (r : List ℕ) → part_len 44 Plain 1 (44 ∷ r) ≡ suc (part_len 44 Plain 1 r)
unfolding part_len
comma_passes r = refl

bracket_passes : (r : List ℕ) → part_len 44 Plain 1 (93 ∷ r) ≡ suc (part_len 44 Plain 0 r)
unfolding part_len
bracket_passes r = refl

-- inside a list, a part goes on past the pair and what it goes on past after it
pair_long : (a b tail r : List ℕ) → list_all is_plain a ≡ true → list_all is_plain b ≡ true → part_len 44 Plain 1 (tail ++ r) ≡ length tail + part_len 44 Plain 0 r → part_len 44 Plain 1 ((pair_text a b ++ tail) ++ r) ≡ length (pair_text a b ++ tail) + part_len 44 Plain 0 r
pair_long a b tail r ea eb e =
    let pair : List ℕ = pair_text a b in
    let whole : 91 ∷ (a ++ (44 ∷ (b ++ (93 ∷ (tail ++ r))))) ≡ (pair ++ tail) ++ r = regroup a b (tail ++ r) ∙ sym (append_assoc pair tail r) in
    let deep : part_len 44 Plain 1 ((pair ++ tail) ++ r) ≡ length pair + part_len 44 Plain 1 (tail ++ r) = subst (λ (bytes : List ℕ). part_len 44 Plain 1 bytes ≡ length pair + part_len 44 Plain 1 (tail ++ r)) whole (pair_deep a b (tail ++ r) ea eb) in
    deep ∙ omega (arith, e, length-append pair tail)

pub comma_long : (a b text r : List ℕ) → list_all is_plain a ≡ true → list_all is_plain b ≡ true → part_len 44 Plain 1 (text ++ r) ≡ length text + part_len 44 Plain 0 r → part_len 44 Plain 1 ((pair_text a b ++ (44 ∷ text)) ++ r) ≡ length (pair_text a b ++ (44 ∷ text)) + part_len 44 Plain 0 r
comma_long a b text r ea eb e = pair_long a b (44 ∷ text) r ea eb (comma_passes (text ++ r) ∙ omega (arith, e))

pub bracket_long : (a b r : List ℕ) → list_all is_plain a ≡ true → list_all is_plain b ≡ true → part_len 44 Plain 1 ((pair_text a b ++ (93 ∷ [])) ++ r) ≡ length (pair_text a b ++ (93 ∷ [])) + part_len 44 Plain 0 r
bracket_long a b r ea eb = pair_long a b (93 ∷ []) r ea eb (bracket_passes r ∙ omega arith)

pair_here : (a b : List ℕ) (x : ℕ) (rest : List ℕ) → list_all is_plain a ≡ true → list_all is_plain b ≡ true → skip_step 44 Plain 0 x ≡ None → part_len 44 Plain 0 (pair_text a b ++ (x ∷ rest)) ≡ length (pair_text a b)
pair_here a b x rest ea eb stop = subst (λ (bytes : List ℕ). part_len 44 Plain 0 bytes ≡ length (pair_text a b)) (regroup a b (x ∷ rest)) (pair_stops a b x rest ea eb stop)

-- the first part is the pair, and the others follow its comma
pub pair_comma : (place : ℕ) (a b text : List ℕ) → list_all is_plain a ≡ true → list_all is_plain b ≡ true → nodes_from true place (pair_text a b ++ (44 ∷ text)) ≡ record { at_byte = place; bytes = pair_text a b } ∷ nodes_from true (place + length (pair_text a b) + 1) text
pair_comma place a b text ea eb =
    let pair : List ℕ = pair_text a b in
    ap (λ (ns : List Node). map trimmed ns) (first_part place pair text (pair_here a b 44 text ea eb refl))
    ∙ ap (λ (n : Node). n ∷ nodes_from true (place + length pair + 1) text) (tight_trimmed place pair (pair_tight a b))

-- the pair is the last part before the bracket
pub pair_last : (place : ℕ) (a b : List ℕ) → list_all is_plain a ≡ true → list_all is_plain b ≡ true → nodes_from true place (pair_text a b ++ (93 ∷ [])) ≡ record { at_byte = place; bytes = pair_text a b } ∷ []
pair_last place a b ea eb =
    let pair : List ℕ = pair_text a b in
    ap (λ (ns : List Node). map trimmed ns) (last_part place pair (pair_here a b 93 [] ea eb refl))
    ∙ ap (λ (n : Node). n ∷ []) (tight_trimmed place pair (pair_tight a b))
