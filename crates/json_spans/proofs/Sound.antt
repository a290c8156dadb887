-- What the machine accepts is in the grammar.
use Rattle.kit_words.proofs.Common.{◌≡◌, ℕ, suc, ◌+◌, ◌<◌, List, [], ◌∷◌, length, Bool, true, false, refl, sym, ap}
use Rattle.kit_words.proofs.Common.{subst, arith, cond, IsTrue, ◌==◌, ◌&&◌, nat_lt, Option, Some, None, option_map}
use Rattle.kit_words.proofs.Common.{ltb-true}
use Rattle.std.proofs.lemmas.Bool.{eqb-true}
use Rattle.json_spans.specs.Common.{is_space, is_digit, is_hex, is_escape, is_tail, is_nonzero, is_e, is_sign, is_ascii}
use Rattle.json_spans.specs.Common.{is_two, is_three, is_four, is_tail_e0, is_tail_ed, is_tail_f0, is_tail_f4, Frame}
use Rattle.json_spans.specs.Common.{Within, Escape, Hex4, Hex3, Hex2, Hex1, Tail1, Tail2, Tail3, AfterE0, AfterEd}
use Rattle.json_spans.specs.Common.{AfterF0, AfterF4, Mode, Move, Goes, Opens, Closes, Fails, begins, follows}
use Rattle.json_spans.specs.Common.{word_step, lead, string_step, closes_text, goes, only, step, run, moved, at_end}
use Rattle.json_spans.specs.Common.{may_end, top_of, rest_of, first_in, Verdict, good, too_deep, verdict, no_space}
use Rattle.json_spans.specs.Common.{space, no_digit, digit, digits, sign, unsigned, no_exponent, exponent, no_fraction}
use Rattle.json_spans.specs.Common.{fraction, zero_first, digit_first, minus, plain_number, Chars, quote, ascii, two}
use Rattle.json_spans.specs.Common.{three, three_e0, three_ed, four, four_f0, four_f4, escape, code, Value, null, yes}
use Rattle.json_spans.specs.Common.{no, number, text, list, object, no_item, some_items, item, list_end, next_item}
use Rattle.json_spans.specs.Common.{no_member, some_members, name, Named, member, object_end, next_member, Json, json}
use Rattle.json_spans.specs.declared.machine.Frame.TheVariants as frame
use Rattle.json_spans.specs.declared.machine.Within.TheVariants.{Plain}
use Rattle.json_spans.specs.declared.machine.Word as words
use Rattle.json_spans.specs.declared.machine.Word.TheVariants as word
use Rattle.json_spans.specs.declared.machine.Mode.TheVariants as mode
use Rattle.json_spans.specs.Machine.{after_comma, closes}
use Rattle.json_spans.proofs.Completes.{Part, Then, Byte, byte, CharsFrom, room, After, Ends, Completes, Leads}

-- ---- tests

-- one of two moves
either : {G : Type 0} (b : Bool) (fs : List Frame) (m n : Move) (xs : List ℕ) → Leads fs (cond b m n) xs → (b ≡ true → Leads fs m xs → G) → (b ≡ false → Leads fs n xs → G) → G
either true fs m n xs h f g = f refl h
either false fs m n xs h f g = g refl h

-- a claim at one byte
at_byte : (G : ℕ → Type 0) (x k : ℕ) → (x == k) ≡ true → G k → G x
at_byte G x k e g = subst G (sym (eqb-true x k e)) g

-- ---- what a byte adds

after_closes : (fs : List Frame) (x : ℕ) (xs : List ℕ) → Leads fs (closes (top_of fs) x) xs → After fs (x ∷ xs)
after_closes [] x xs h = absurd h
after_closes (frame.List ∷ fs) x xs h =
    either (x == 93) (frame.List ∷ fs) Closes Fails xs h
    (λ e h. at_byte (λ x. After (frame.List ∷ fs) (x ∷ xs)) x 93 e (xs, (93 ∷ xs, no_space, list_end), h))
    (λ e h. absurd h)
after_closes (frame.Object ∷ fs) x xs h =
    either (x == 125) (frame.Object ∷ fs) Closes Fails xs h
    (λ e h. at_byte (λ x. After (frame.Object ∷ fs) (x ∷ xs)) x 125 e (xs, (125 ∷ xs, no_space, object_end), h))
    (λ e h. absurd h)

after_comma_adds : (fs : List Frame) (xs : List ℕ) → Leads fs (after_comma (top_of fs)) xs → After fs (44 ∷ xs)
after_comma_adds [] xs h = absurd h
after_comma_adds (frame.List ∷ fs) xs h =
    let value = h.1 in
    let more = h.2.1 in
    (h.2.0, (44 ∷ xs, no_space, next_item value.1 (item value.2 more.1 more.2)), h.2.2)
after_comma_adds (frame.Object ∷ fs) xs h =
    (h.0, (44 ∷ xs, no_space, next_member h.1.1 h.1.2), h.2)

after_space : (fs : List Frame) (x : ℕ) (xs : List ℕ) → IsTrue (is_space x) → After fs xs → After fs (x ∷ xs)
after_space [] x xs e h = space e h
after_space (f ∷ fs) x xs e h = (h.0, (h.1.0, space e h.1.1, h.1.2), h.2)

follows_adds : (fs : List Frame) (x : ℕ) (xs : List ℕ) → Leads fs (follows (top_of fs) x) xs → After fs (x ∷ xs)
follows_adds fs x xs h =
    either (is_space x) fs (Goes mode.After) (cond (x == 44) (after_comma (top_of fs)) (closes (top_of fs) x)) xs h
    (λ e h. after_space fs x xs e h)
    (λ _ h. either (x == 44) fs (after_comma (top_of fs)) (closes (top_of fs) x) xs h
    (λ e h. at_byte (λ x. After fs (x ∷ xs)) x 44 e (after_comma_adds fs xs h))
    (λ _ h. after_closes fs x xs h))

room_is : (f : Frame) (fs : List Frame) → length fs < 100 → room fs ≡ suc (room (f ∷ fs))
room_is f fs lt = omega arith

opened : (fs : List Frame) (f : Frame) (xs r : List ℕ) → length fs < 100 → Value (suc (room (f ∷ fs))) xs r → Value (room fs) xs r
opened fs f xs r lt v = let P : ℕ → Type 0 = λ n. Value n xs r in subst P (sym (room_is f fs lt)) v

begins_adds : (fs : List Frame) (x : ℕ) (xs : List ℕ) → Leads fs (begins x) xs → Ends (Value (room fs)) fs (x ∷ xs)
begins_adds fs x xs h =
    let G : ℕ → Type 0 = λ x. Ends (Value (room fs)) fs (x ∷ xs) in
    either (x == 34) fs _ _ xs h
    (λ e h. at_byte G x 34 e (h.0, text h.1, h.2))
    (λ _ h. either (x == 91) fs _ _ xs h
    (λ e h. at_byte G x 91 e (h.1.0, opened fs frame.List (91 ∷ xs) h.1.0 h.0 (list h.1.1.1 h.1.1.2), h.1.2))
    (λ _ h. either (x == 123) fs _ _ xs h
    (λ e h. at_byte G x 123 e (h.1.0, opened fs frame.Object (123 ∷ xs) h.1.0 h.0 (object h.1.1.1 h.1.1.2), h.1.2))
    (λ _ h. either (x == 45) fs _ _ xs h
    (λ e h. at_byte G x 45 e (h.0, number (minus h.1), h.2))
    (λ _ h. either (x == 48) fs _ _ xs h
    (λ e h. at_byte G x 48 e (h.0, number (plain_number (zero_first h.1)), h.2))
    (λ _ h. either (is_nonzero x) fs _ _ xs h
    (λ e h. (h.0, number (plain_number (digit_first e h.1.1 h.1.2)), h.2))
    (λ _ h. either (x == 116) fs _ _ xs h
    (λ e h. at_byte G x 116 e (h.0, subst (λ w. Value (room fs) (116 ∷ w) h.0) (sym h.1) yes, h.2))
    (λ _ h. either (x == 102) fs _ _ xs h
    (λ e h. at_byte G x 102 e (h.0, subst (λ w. Value (room fs) (102 ∷ w) h.0) (sym h.1) no, h.2))
    (λ _ h. either (x == 110) fs _ _ xs h
    (λ e h. at_byte G x 110 e (h.0, subst (λ w. Value (room fs) (110 ∷ w) h.0) (sym h.1) null, h.2))
    (λ _ h. absurd h)))))))))

-- ---- strings and words

-- what completes a string after a step in it
abbrev CharsAfter : Option Within → Part
CharsAfter None xs r = ⊥
CharsAfter (Some w) xs r = CharsFrom w xs r

either_chars : {G : Type 0} (b : Bool) (m n : Option Within) (xs r : List ℕ) → CharsAfter (cond b m n) xs r → (b ≡ true → CharsAfter m xs r → G) → (b ≡ false → CharsAfter n xs r → G) → G
either_chars true m n xs r h f g = f refl h
either_chars false m n xs r h f g = g refl h

only_chars : {G : Type 0} (b : Bool) (w : Within) (xs r : List ℕ) → CharsAfter (only b w) xs r → (b ≡ true → CharsFrom w xs r → G) → G
only_chars true w xs r h f = f refl h
only_chars false w xs r h f = absurd h

one_tail : (a : ℕ) (xs r : List ℕ) → IsTrue (is_two a) → Byte is_tail Chars xs r → Chars (a ∷ xs) r
one_tail a xs r e (byte t h) = two e t h

two_tails : (a : ℕ) (xs r : List ℕ) → IsTrue (is_three a) → Byte is_tail (Byte is_tail Chars) xs r → Chars (a ∷ xs) r
two_tails a xs r e (byte t (byte u h)) = three e t u h

e0_tails : (xs r : List ℕ) → Byte is_tail_e0 (Byte is_tail Chars) xs r → Chars (224 ∷ xs) r
e0_tails xs r (byte t (byte u h)) = three_e0 t u h

ed_tails : (xs r : List ℕ) → Byte is_tail_ed (Byte is_tail Chars) xs r → Chars (237 ∷ xs) r
ed_tails xs r (byte t (byte u h)) = three_ed t u h

three_tails : (a : ℕ) (xs r : List ℕ) → IsTrue (is_four a) → Byte is_tail (Byte is_tail (Byte is_tail Chars)) xs r → Chars (a ∷ xs) r
three_tails a xs r e (byte t (byte u (byte v h))) = four e t u v h

f0_tails : (xs r : List ℕ) → Byte is_tail_f0 (Byte is_tail (Byte is_tail Chars)) xs r → Chars (240 ∷ xs) r
f0_tails xs r (byte t (byte u (byte v h))) = four_f0 t u v h

f4_tails : (xs r : List ℕ) → Byte is_tail_f4 (Byte is_tail (Byte is_tail Chars)) xs r → Chars (244 ∷ xs) r
f4_tails xs r (byte t (byte u (byte v h))) = four_f4 t u v h

lead_adds : (x : ℕ) (xs r : List ℕ) → CharsAfter (lead x) xs r → Chars (x ∷ xs) r
lead_adds x xs r h =
    let G : ℕ → Type 0 = λ x. Chars (x ∷ xs) r in
    either_chars (is_ascii x) _ _ xs r h (λ e h. ascii e h)
    (λ _ h. either_chars (is_two x) _ _ xs r h (λ e h. one_tail x xs r e h)
    (λ _ h. either_chars (x == 224) _ _ xs r h (λ e h. at_byte G x 224 e (e0_tails xs r h))
    (λ _ h. either_chars (is_three x) _ _ xs r h (λ e h. two_tails x xs r e h)
    (λ _ h. either_chars (x == 237) _ _ xs r h (λ e h. at_byte G x 237 e (ed_tails xs r h))
    (λ _ h. either_chars (x == 240) _ _ xs r h (λ e h. at_byte G x 240 e (f0_tails xs r h))
    (λ _ h. either_chars (is_four x) _ _ xs r h (λ e h. three_tails x xs r e h)
    (λ _ h. either_chars (x == 244) _ _ xs r h (λ e h. at_byte G x 244 e (f4_tails xs r h))
    (λ _ h. absurd h))))))))

string_adds : (w : Within) (x : ℕ) (xs r : List ℕ) → CharsAfter (string_step w x) xs r → CharsFrom w (x ∷ xs) r
string_adds Plain x xs r h = either_chars (x == 92) _ _ xs r h (λ e h. at_byte (λ x. Chars (x ∷ xs) r) x 92 e h) (λ _ h. lead_adds x xs r h)
string_adds Escape x xs r h =
    either_chars (x == 117) _ _ xs r h (λ e h. at_byte (λ x. Chars (92 ∷ x ∷ xs) r) x 117 e h)
    (λ _ h. only_chars (is_escape x) Plain xs r h (λ e h. escape e h))
string_adds Hex4 x xs r h = only_chars (is_hex x) Hex3 xs r h (λ e h. h x e)
string_adds Hex3 x xs r h = only_chars (is_hex x) Hex2 xs r h (λ e h a p. h a x p e)
string_adds Hex2 x xs r h = only_chars (is_hex x) Hex1 xs r h (λ e h a b p q. h a b x p q e)
string_adds Hex1 x xs r h = only_chars (is_hex x) Plain xs r h (λ e h a b c p q s. code p q s e h)
string_adds Tail1 x xs r h = only_chars (is_tail x) Plain xs r h (λ e h. byte e h)
string_adds Tail2 x xs r h = only_chars (is_tail x) Tail1 xs r h (λ e h. byte e h)
string_adds Tail3 x xs r h = only_chars (is_tail x) Tail2 xs r h (λ e h. byte e h)
string_adds AfterE0 x xs r h = only_chars (is_tail_e0 x) Tail1 xs r h (λ e h. byte e h)
string_adds AfterEd x xs r h = only_chars (is_tail_ed x) Tail1 xs r h (λ e h. byte e h)
string_adds AfterF0 x xs r h = only_chars (is_tail_f0 x) Tail2 xs r h (λ e h. byte e h)
string_adds AfterF4 x xs r h = only_chars (is_tail_f4 x) Tail2 xs r h (λ e h. byte e h)

closing_quote : (w : Within) (x : ℕ) (xs : List ℕ) → IsTrue (closes_text w x) → CharsFrom w (x ∷ xs) xs
closing_quote Plain x xs e = at_byte (λ x. Chars (x ∷ xs) xs) x 34 e quote
closing_quote Escape x xs e = absurd cc
closing_quote Hex4 x xs e = absurd cc
closing_quote Hex3 x xs e = absurd cc
closing_quote Hex2 x xs e = absurd cc
closing_quote Hex1 x xs e = absurd cc
closing_quote Tail1 x xs e = absurd cc
closing_quote Tail2 x xs e = absurd cc
closing_quote Tail3 x xs e = absurd cc
closing_quote AfterE0 x xs e = absurd cc
closing_quote AfterEd x xs e = absurd cc
closing_quote AfterF0 x xs e = absurd cc
closing_quote AfterF4 x xs e = absurd cc

text_goes : (fs : List Frame) (o : Option Within) (xs : List ℕ) → Leads fs (goes (option_map mode.Text o)) xs → Ends (CharsAfter o) fs xs
text_goes fs None xs h = absurd h
text_goes fs (Some w) xs h = h

name_goes : (fs : List Frame) (o : Option Within) (xs : List ℕ) → Leads fs (goes (option_map mode.NameText o)) xs → Ends (Then (CharsAfter o) (Named (room fs))) (rest_of fs) xs
name_goes fs None xs h = absurd h
name_goes fs (Some w) xs h = h

text_adds : (fs : List Frame) (w : Within) (x : ℕ) (xs : List ℕ) → Leads fs (step (mode.Text w) (top_of fs) x) xs → Completes (mode.Text w) fs (x ∷ xs)
text_adds fs w x xs h =
    either (closes_text w x) fs _ _ xs h
    (λ e h. (xs, closing_quote w x xs e, h))
    (λ _ h. let g = text_goes fs (string_step w x) xs h in (g.0, string_adds w x xs g.0 g.1, g.2))

name_text_adds : (fs : List Frame) (w : Within) (x : ℕ) (xs : List ℕ) → Leads fs (step (mode.NameText w) (top_of fs) x) xs → Completes (mode.NameText w) fs (x ∷ xs)
name_text_adds [] w x xs h = absurd h
name_text_adds (frame.List ∷ fs) w x xs h = absurd h
name_text_adds (frame.Object ∷ fs) w x xs h =
    either (closes_text w x) (frame.Object ∷ fs) _ _ xs h
    (λ e h. (h.0, (xs, closing_quote w x xs e, h.1), h.2))
    (λ _ h. let g = name_goes (frame.Object ∷ fs) (string_step w x) xs h in (g.0, (g.1.0, string_adds w x xs g.1.0 g.1.1, g.1.2), g.2))

only_goes : {G : Type 0} (fs : List Frame) (b : Bool) (m : Mode) (xs : List ℕ) → Leads fs (goes (only b m)) xs → (b ≡ true → Completes m fs xs → G) → G
only_goes fs true m xs h f = f refl h
only_goes fs false m xs h f = absurd h

-- a letter of a word that goes on as `rest`
letter : (x k : ℕ) (xs rest : List ℕ) → (x == k) ≡ true → xs ≡ rest → x ∷ xs ≡ k ∷ rest
letter x k xs rest e h = at_byte (λ x. x ∷ xs ≡ k ∷ rest) x k e (ap (λ w. k ∷ w) h)

word_adds : (fs : List Frame) (w : words.Word) (x : ℕ) (xs : List ℕ) → Leads fs (goes (word_step w x)) xs → Completes (mode.Word w) fs (x ∷ xs)
word_adds fs word.Rue x xs h = only_goes fs (x == 114) _ xs h (λ e h. (h.0, letter x 114 xs _ e h.1, h.2))
word_adds fs word.Ue x xs h = only_goes fs (x == 117) _ xs h (λ e h. (h.0, letter x 117 xs _ e h.1, h.2))
word_adds fs word.E x xs h = only_goes fs (x == 101) _ xs h (λ e h. (xs, letter x 101 xs _ e refl, h))
word_adds fs word.Alse x xs h = only_goes fs (x == 97) _ xs h (λ e h. (h.0, letter x 97 xs _ e h.1, h.2))
word_adds fs word.Lse x xs h = only_goes fs (x == 108) _ xs h (λ e h. (h.0, letter x 108 xs _ e h.1, h.2))
word_adds fs word.Se x xs h = only_goes fs (x == 115) _ xs h (λ e h. (h.0, letter x 115 xs _ e h.1, h.2))
word_adds fs word.Ull x xs h = only_goes fs (x == 117) _ xs h (λ e h. (h.0, letter x 117 xs _ e h.1, h.2))
word_adds fs word.Ll x xs h = only_goes fs (x == 108) _ xs h (λ e h. (h.0, letter x 108 xs _ e h.1, h.2))
word_adds fs word.L x xs h = only_goes fs (x == 108) _ xs h (λ e h. (xs, letter x 108 xs _ e refl, h))

-- ---- each mode

colon_space : (n x : ℕ) (xs r : List ℕ) → IsTrue (is_space x) → Named n xs r → Named n (x ∷ xs) r
colon_space n x xs r e (member a b c d f) = member (space e a) b c d f

step_adds : (m : Mode) (fs : List Frame) (x : ℕ) (xs : List ℕ) → Leads fs (step m (top_of fs) x) xs → Completes m fs (x ∷ xs)
step_adds mode.Value fs x xs h =
    either (is_space x) fs _ _ xs h
    (λ e h. (h.0, (h.1.0, space e h.1.1, h.1.2), h.2))
    (λ _ h. let g = begins_adds fs x xs h in (g.0, (x ∷ xs, no_space, g.1), g.2))
step_adds mode.FirstItem [] x xs h = absurd h
step_adds mode.FirstItem (frame.Object ∷ fs) x xs h = absurd h
step_adds mode.FirstItem (frame.List ∷ fs) x xs h =
    either (is_space x) (frame.List ∷ fs) _ _ xs h
    (λ e h. (h.0, (h.1.0, space e h.1.1, h.1.2), h.2))
    (λ _ h. either (x == 93) (frame.List ∷ fs) _ _ xs h
    (λ e h. at_byte (λ x. Completes mode.FirstItem (frame.List ∷ fs) (x ∷ xs)) x 93 e (xs, (93 ∷ xs, no_space, no_item), h))
    (λ _ h. let g = begins_adds (frame.List ∷ fs) x xs h in
    let aft = g.2 in
    (aft.0, (x ∷ xs, no_space, some_items (item g.1 aft.1.1 aft.1.2)), aft.2)))
step_adds mode.FirstName [] x xs h = absurd h
step_adds mode.FirstName (frame.List ∷ fs) x xs h = absurd h
step_adds mode.FirstName (frame.Object ∷ fs) x xs h =
    either (is_space x) (frame.Object ∷ fs) _ _ xs h
    (λ e h. (h.0, (h.1.0, space e h.1.1, h.1.2), h.2))
    (λ _ h. either (x == 125) (frame.Object ∷ fs) _ _ xs h
    (λ e h. at_byte (λ x. Completes mode.FirstName (frame.Object ∷ fs) (x ∷ xs)) x 125 e (xs, (125 ∷ xs, no_space, no_member), h))
    (λ _ h. either (x == 34) (frame.Object ∷ fs) _ _ xs h
    (λ e h. at_byte (λ x. Completes mode.FirstName (frame.Object ∷ fs) (x ∷ xs)) x 34 e (h.0, (34 ∷ xs, no_space, some_members (name h.1.1 h.1.2)), h.2))
    (λ _ h. absurd h)))
step_adds mode.Name [] x xs h = absurd h
step_adds mode.Name (frame.List ∷ fs) x xs h = absurd h
step_adds mode.Name (frame.Object ∷ fs) x xs h =
    either (is_space x) (frame.Object ∷ fs) _ _ xs h
    (λ e h. (h.0, (h.1.0, space e h.1.1, h.1.2), h.2))
    (λ _ h. either (x == 34) (frame.Object ∷ fs) _ _ xs h
    (λ e h. at_byte (λ x. Completes mode.Name (frame.Object ∷ fs) (x ∷ xs)) x 34 e (h.0, (34 ∷ xs, no_space, name h.1.1 h.1.2), h.2))
    (λ _ h. absurd h))
step_adds mode.Colon [] x xs h = absurd h
step_adds mode.Colon (frame.List ∷ fs) x xs h = absurd h
step_adds mode.Colon (frame.Object ∷ fs) x xs h =
    either (is_space x) (frame.Object ∷ fs) _ _ xs h
    (λ e h. (h.0, colon_space (room (frame.Object ∷ fs)) x xs h.0 e h.1, h.2))
    (λ _ h. either (x == 58) (frame.Object ∷ fs) _ _ xs h
    (λ e h. at_byte (λ x. Completes mode.Colon (frame.Object ∷ fs) (x ∷ xs)) x 58 e (h.2.0, member no_space h.1.1 h.1.2 h.2.1.1 h.2.1.2, h.2.2))
    (λ _ h. absurd h))
step_adds mode.After fs x xs h = follows_adds fs x xs h
step_adds (mode.NameText w) fs x xs h = name_text_adds fs w x xs h
step_adds (mode.Text w) fs x xs h = text_adds fs w x xs h
step_adds (mode.Word w) fs x xs h = word_adds fs w x xs h
step_adds mode.Minus fs x xs h =
    either (x == 48) fs _ _ xs h
    (λ e h. at_byte (λ x. Completes mode.Minus fs (x ∷ xs)) x 48 e (h.0, zero_first h.1, h.2))
    (λ _ h. either (is_nonzero x) fs _ _ xs h
    (λ e h. (h.0, digit_first e h.1.1 h.1.2, h.2))
    (λ _ h. absurd h))
step_adds mode.Zero fs x xs h =
    either (x == 46) fs _ _ xs h
    (λ e h. at_byte (λ x. Completes mode.Zero fs (x ∷ xs)) x 46 e (h.0, fraction h.1.1 h.1.2, h.2))
    (λ _ h. either (is_e x) fs _ _ xs h
    (λ e h. (h.0, no_fraction (exponent e h.1), h.2))
    (λ _ h. (x ∷ xs, no_fraction no_exponent, follows_adds fs x xs h)))
step_adds mode.Whole fs x xs h =
    either (is_digit x) fs _ _ xs h
    (λ e h. (h.0, (h.1.0, digit e h.1.1, h.1.2), h.2))
    (λ _ h. either (x == 46) fs _ _ xs h
    (λ e h. at_byte (λ x. Completes mode.Whole fs (x ∷ xs)) x 46 e (h.0, (46 ∷ xs, no_digit, fraction h.1.1 h.1.2), h.2))
    (λ _ h. either (is_e x) fs _ _ xs h
    (λ e h. (h.0, (x ∷ xs, no_digit, no_fraction (exponent e h.1)), h.2))
    (λ _ h. (x ∷ xs, (x ∷ xs, no_digit, no_fraction no_exponent), follows_adds fs x xs h))))
step_adds mode.Point fs x xs h =
    either (is_digit x) fs _ _ xs h
    (λ e h. (h.0, (h.1.0, digits e h.1.1, h.1.2), h.2))
    (λ _ h. absurd h)
step_adds mode.Fraction fs x xs h =
    either (is_digit x) fs _ _ xs h
    (λ e h. (h.0, (h.1.0, digit e h.1.1, h.1.2), h.2))
    (λ _ h. either (is_e x) fs _ _ xs h
    (λ e h. (h.0, (x ∷ xs, no_digit, exponent e h.1), h.2))
    (λ _ h. (x ∷ xs, (x ∷ xs, no_digit, no_exponent), follows_adds fs x xs h)))
step_adds mode.Exponent fs x xs h =
    either (is_digit x) fs _ _ xs h
    (λ e h. (h.0, unsigned (digits e h.1), h.2))
    (λ _ h. either (is_sign x) fs _ _ xs h
    (λ e h. (h.0, sign e h.1, h.2))
    (λ _ h. absurd h))
step_adds mode.Sign fs x xs h =
    either (is_digit x) fs _ _ xs h
    (λ e h. (h.0, digits e h.1, h.2))
    (λ _ h. absurd h)
step_adds mode.Power fs x xs h =
    either (is_digit x) fs _ _ xs h
    (λ e h. (h.0, digit e h.1, h.2))
    (λ _ h. (x ∷ xs, no_digit, follows_adds fs x xs h))

-- ---- runs

-- a good run after a move leads on
good_leads : (place : ℕ) (fs : List Frame) (move : Move) (xs : List ℕ) (go : Mode → List Frame → Verdict) → ((m : Mode) (gs : List Frame) → go m gs ≡ good → Completes m gs xs) → moved place fs move go ≡ good → Leads fs move xs
good_leads place fs (Goes m) xs go k e = k m fs e
good_leads place fs (Opens f) xs go k e = deeper (nat_lt (length fs) 100) refl e where
  deeper : (b : Bool) → nat_lt (length fs) 100 ≡ b → cond b (go (first_in f) (f ∷ fs)) (too_deep place) ≡ good → Leads fs (Opens f) xs
  deeper true lt e = (ltb-true _ _ lt, k (first_in f) (f ∷ fs) e)
  deeper false lt e = absurd cc
good_leads place fs Closes xs go k e = k mode.After (rest_of fs) e
good_leads place fs Fails xs go k e = absurd cc

both_good : (place : ℕ) (b c : Bool) → at_end (b && c) place ≡ good → (b ≡ true) × (c ≡ true)
both_good place true true e = (refl, refl)
both_good place true false e = absurd cc
both_good place false c e = absurd cc

ends_here : (m : Mode) → may_end m ≡ true → Completes m [] []
ends_here mode.After e = no_space
ends_here mode.Zero e = ([], no_fraction no_exponent, no_space)
ends_here mode.Whole e = ([], ([], no_digit, no_fraction no_exponent), no_space)
ends_here mode.Fraction e = ([], ([], no_digit, no_exponent), no_space)
ends_here mode.Power e = ([], no_digit, no_space)
ends_here _ e = absurd cc

at_end_completes : (place : ℕ) (m : Mode) (fs : List Frame) → at_end (may_end m && (length fs == 0)) place ≡ good → Completes m fs []
at_end_completes place m [] e = ends_here m (both_good place (may_end m) (length (let none : List Frame = [] in none) == 0) e).0
at_end_completes place m (f ∷ fs) e = let none : length (f ∷ fs) ≡ 0 = eqb-true _ _ (both_good place (may_end m) (length (f ∷ fs) == 0) e).1 in absurd (omega arith)

pub sound : (xs : List ℕ) (place : ℕ) (m : Mode) (fs : List Frame) → run place m fs xs ≡ good → Completes m fs xs
unfolding run
sound [] place m fs e = at_end_completes place m fs e
sound (x ∷ xs) place m fs e = step_adds m fs x xs (good_leads place fs (step m (top_of fs) x) xs (λ m gs. run (place + 1) m gs xs) (λ m gs e. sound xs (place + 1) m gs e) e)

pub verdict_json : (xs : List ℕ) → verdict xs ≡ good → Json 100 xs
verdict_json xs e = let h = sound xs 0 mode.Value [] e in json h.1.1 h.1.2 h.2
