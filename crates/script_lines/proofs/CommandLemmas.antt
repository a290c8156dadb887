-- Which command a line asks for, by its word.
use Rattle.kit_words.proofs.Common.{◌≡◌, ℕ, ℤ, pos, ◌<◌, ◌^◌, ◌++◌, refl, sym, ap, ap₂, ◌∙◌, subst, rules, ◌≤◌, List}
use Rattle.kit_words.proofs.Common.{[], ◌∷◌, length, ◌==◌, false, arith, Option, None, Some}
use Rattle.kit_words.proofs.Common.{MatchOption, MatchBool, IsSomeAnd, codes, Bool, true, bytes_eq, false≢true}
use Rattle.kit_words.proofs.Common.{bytes_eq-Decides, take_while, flat_map}
use Rattle.std.specs.Str.{IsUtf8}
use Rattle.std.specs.Fmt.{decimal}
use Rattle.grid_geometry.specs.Common.{Position}
use Rattle.ring_machine.specs.Common.{Text, Command, Move, Insert, Remove, Thin, Split, Merge, Rename, Delete, Undo}
use Rattle.ring_machine.specs.Common.{Area, At, Neighbours, Rings, Count, Show}
use Rattle.topo_outline.specs.Common.{IsName}
use Rattle.edit_records.specs.Common.{string_text}
use Rattle.script_lines.specs.Lines.{is_comment}
use Rattle.script_lines.specs.Common.{spaced, spaced_position, spaced_token, spaced_path, most_bound}
use Rattle.script_lines.specs.Common.{AreSpaced, AreFeatures, AreNaming, asking_word, AskedWith, Asks, Says, is_letter}
use Rattle.script_lines.specs.Common.{EndsWord, NoMark, IsFeature, IsPlace, IsToken, IsPathTail, says_of, IsRefused}
use Rattle.script_lines.specs.Common.{Finds, FindsCommand, AskedBy, Line}
use Rattle.script_lines.specs.declared.lines.LineFault.{LineFault}
use Rattle.script_lines.specs.declared.lines.LineFault.TheVariants as fault
use Rattle.script_lines.proofs.WordLemmas.{IsWord, rest_of, word-taken, word-rest, taken-rest, feature_once, place_once, same_behind, wide_once}
use Rattle.script_lines.proofs.TokenLemmas.{token_once}
use Rattle.script_lines.proofs.PathLemmas.{path_ends, NoPlace, first_place}
use Rattle.script_lines.proofs.IdLemmas.{gives, gives_marked}

-- what the test says of a list that is not empty
pub not_empty : (xs : List ℕ) → (length xs == 0) ≡ false → xs ≡ [] → ⊥
not_empty [] h e = false≢true (sym h)
not_empty (x ∷ xs) h e = cc

-- ---- positions

positions_first : (tail : List ℕ) (p : Position) (ps : List Position) → AreSpaced tail (p ∷ ps) → IsPlace tail p (spaced_path ps)
positions_first tail p ps h = subst (λ t. IsPlace t p (spaced_path ps)) (sym h.0) (first_place p ps h.1)

pub positions_none : (tail : List ℕ) (p : Position) (ps : List Position) → NoPlace tail → AreSpaced tail (p ∷ ps) → ⊥
positions_none tail p ps never h = never p (spaced_path ps) (positions_first tail p ps h)

-- after the first position stand the others
pub positions_rest : (tail rest : List ℕ) (q p : Position) (ps : List Position) → IsPlace tail q rest → AreSpaced tail (p ∷ ps) → AreSpaced rest ps
positions_rest tail rest q p ps s h = ((place_once tail rest (spaced_path ps) q p s (positions_first tail p ps h)).1, h.1.1)

pub positions_more : (tail rest : List ℕ) (p : Position) (ps : List Position) → IsPlace tail p rest → AreSpaced rest ps → AreSpaced tail (p ∷ ps)
positions_more tail rest p ps s h = (s.whole ∙ ap (λ r. spaced_position p ++ r) h.0, (s.range, h.1))

-- ---- features

features_end : (ns : List ℕ) → EndsWord (flat_map (λ n. spaced (pos n)) ns)
features_end [] = tt
features_end (n ∷ ns) = refl

features_first : (tail : List ℕ) (n : ℕ) (ns : List ℕ) → AreFeatures tail (n ∷ ns) → IsFeature tail n (flat_map (λ m. spaced (pos m)) ns)
features_first tail n ns h = record { whole = h.0; ends = features_end ns; range = h.1.0 }

pub features_none : (tail : List ℕ) (n : ℕ) (ns : List ℕ) → ((m : ℕ) (rest : List ℕ) → ¬ IsFeature tail m rest) → AreFeatures tail (n ∷ ns) → ⊥
features_none tail n ns never h = never n (flat_map (λ m. spaced (pos m)) ns) (features_first tail n ns h)

pub features_rest : (tail rest : List ℕ) (m n : ℕ) (ns : List ℕ) → IsFeature tail m rest → AreFeatures tail (n ∷ ns) → AreFeatures rest ns
features_rest tail rest m n ns s h = ((feature_once tail rest (flat_map (λ m. spaced (pos m)) ns) m n s (features_first tail n ns h)).1, h.1.1)

pub features_more : (tail rest : List ℕ) (n : ℕ) (ns : List ℕ) → IsFeature tail n rest → AreFeatures rest ns → AreFeatures tail (n ∷ ns)
features_more tail rest n ns s h = (s.whole ∙ ap (λ r. spaced (pos n) ++ r) h.0, (s.range, h.1))

-- ---- a feature and an id

naming_first : (tail : List ℕ) (n : ℕ) (id : Text) (rest : List ℕ) → (w : AreNaming tail n id rest) → IsFeature tail n (spaced_token w.token ++ rest)
naming_first tail n id rest w = record { whole = w.whole; ends = refl; range = w.number }

pub naming_none : (tail : List ℕ) (n : ℕ) (id : Text) (rest : List ℕ) → ((m : ℕ) (r : List ℕ) → ¬ IsFeature tail m r) → AreNaming tail n id rest → ⊥
naming_none tail n id rest never w = never n (spaced_token w.token ++ rest) (naming_first tail n id rest w)

module _ (tail words : List ℕ) (m : ℕ) (s : IsFeature tail m words) (n : ℕ) (id : Text) (rest : List ℕ) (last : NoMark rest) where
  naming_words : (w : AreNaming tail n id rest) → IsToken words w.token rest
  naming_words w = record {
    whole = (feature_once tail words (spaced_token w.token ++ rest) m n s (naming_first tail n id rest w)).1;
    marked = gives_marked w.token id w.gives;
    last = last;
  }

  pub naming_no_token : ((token end : List ℕ) → ¬ IsToken words token end) → AreNaming tail n id rest → ⊥
  naming_no_token never w = never w.token rest (naming_words w)

  pub naming_rest : (token end : List ℕ) → IsToken words token end → AreNaming tail n id rest → end ≡ rest
  naming_rest token end t w = (token_once words token w.token end rest t (naming_words w)).1

  pub naming_no_name : (token end : List ℕ) → IsToken words token end → ((name : List ℕ) → ¬ IsName token name) → AreNaming tail n id rest → ⊥
  naming_no_name token end t never w =
      never w.gives.name (subst (λ x. IsName x w.gives.name) (sym (token_once words token w.token end rest t (naming_words w)).0) w.gives.stands)

pub renamed : (tail words token end : List ℕ) (n : ℕ) (name : List ℕ) → IsFeature tail n words → IsToken words token end → end ≡ [] → IsName token name → AskedWith tail (Rename n (string_text name))
renamed tail words token end n name s t none h = record {
  token = token;
  whole = s.whole ∙ ap (λ r. spaced (pos n) ++ r) (t.whole ∙ ap (λ r. spaced_token token ++ r) none);
  number = s.range;
  gives = gives token name h;
}

pub cut : (tail words token positions : List ℕ) (n : ℕ) (name : List ℕ) (path : List Position) → IsFeature tail n words → IsToken words token positions → IsName token name → IsPathTail positions path
    → AskedWith tail (Split n (string_text name) path)
cut tail words token positions n name path s t h along = (
  record {
    token = token;
    whole = s.whole ∙ ap (λ r. spaced (pos n) ++ r) (t.whole ∙ ap (λ r. spaced_token token ++ r) along.whole);
    number = s.range;
    gives = gives token name h;
  },
  along.along,
)

-- ---- a bound

in_bound : (n : ℕ) → n ≤ most_bound → n < 2 ^ 128
in_bound n h = omega arith

pub bound_none : (tail : List ℕ) (z : ℤ) → ((rest : List ℕ) → tail ≡ codes " " ++ rest → ⊥) → AskedWith tail (Thin z) → ⊥
bound_none tail (pos t) never h = never (decimal t) h.0
bound_none tail _ never h = h

bound_word : (tail word : List ℕ) (t : ℕ) → tail ≡ codes " " ++ word → AskedWith tail (Thin (pos t)) → word ≡ decimal t
bound_word tail word t e h = same_behind (codes " ") word (decimal t) (sym e ∙ h.0)

pub bound_odd : (tail word : List ℕ) (z : ℤ) → tail ≡ codes " " ++ word → ((n : ℕ) → n < 2 ^ 128 → word ≡ decimal n → ⊥) → AskedWith tail (Thin z) → ⊥
bound_odd tail word (pos t) e never h = never t (in_bound t h.1) (bound_word tail word t e h)
bound_odd tail word _ e never h = h

pub bound_far : (tail word : List ℕ) (n : ℕ) (z : ℤ) → tail ≡ codes " " ++ word → word ≡ decimal n → n < 2 ^ 128 → (n ≤ most_bound → ⊥) → AskedWith tail (Thin z) → ⊥
bound_far tail word n (pos t) e is h over k =
    let same : n ≡ t = wide_once n t h (in_bound t k.1) (sym is ∙ bound_word tail word t e k) in
    over (subst (λ m. m ≤ most_bound) (sym same) k.1)
bound_far tail word n _ e is h over k = k

-- ---- what stands behind a word begins with a space

positions_end : (tail : List ℕ) (ps : List Position) → AreSpaced tail ps → EndsWord tail
positions_end tail ps h = subst EndsWord (sym h.0) (path_ends ps)

features_tail : (tail ns : List ℕ) → AreFeatures tail ns → EndsWord tail
features_tail tail ns h = subst EndsWord (sym h.0) (features_end ns)

naming_end : (tail : List ℕ) (n : ℕ) (id : Text) (rest : List ℕ) → AreNaming tail n id rest → EndsWord tail
naming_end tail n id rest w = subst EndsWord (sym w.whole) refl

asked_end : (tail : List ℕ) (c : Command) → AskedWith tail c → EndsWord tail
asked_end tail (Move p q) h = positions_end tail (p ∷ q ∷ []) h
asked_end tail (Insert a b q) h = positions_end tail (a ∷ b ∷ q ∷ []) h
asked_end tail (Remove p) h = positions_end tail (p ∷ []) h
asked_end tail (Thin (pos t)) h = subst EndsWord (sym h.0) refl
asked_end tail (Split n id path) h = naming_end tail n id (spaced_path path) h.0
asked_end tail (Merge n m) h = features_tail tail (n ∷ m ∷ []) h
asked_end tail (Rename n id) h = naming_end tail n id [] h
asked_end tail (Delete n) h = features_tail tail (n ∷ []) h
asked_end tail Undo h = features_tail tail [] (h, tt)
asked_end tail (Area n) h = features_tail tail (n ∷ []) h
asked_end tail (At p) h = positions_end tail (p ∷ []) h
asked_end tail (Neighbours n) h = features_tail tail (n ∷ []) h
asked_end tail (Rings n) h = features_tail tail (n ∷ []) h
asked_end tail Count h = features_tail tail [] (h, tt)
asked_end tail Show h = features_tail tail [] (h, tt)
asked_end tail _ h = absurd h

-- ---- the word in front

command_word : (c : Command) → IsWord (asking_word c)
command_word Undo = search rules
command_word _ = search rules

-- no command begins as a comment does
unmarked : (c : Command) (tail : List ℕ) → is_comment (asking_word c ++ tail) ≡ false
unmarked Undo tail = refl
unmarked _ tail = refl

-- ---- the rows of the table, by their words

-- the command has the word, and what follows it is what it is asked with
abbrev pub Row : List ℕ → List ℕ → Command → Type 0
Row front tail c = MatchBool (bytes_eq (asking_word c) front) (AskedWith tail c) ⊥

row : (front tail : List ℕ) (c : Command) → AskedBy front tail c → Row front tail c
row front tail c h = subst (λ w. Row w tail c) h.0 (by (bytes_eq (asking_word c) (asking_word c)) ((bytes_eq-Decides (asking_word c) (asking_word c)).1 refl))
  where
    by : (b : Bool) → b ≡ true → MatchBool b (AskedWith tail c) ⊥
    by true e = h.1
    by false e = absurd (false≢true e)

pub row_move : (tail : List ℕ) (c : Command) → Row (codes "move") tail c → (pair : Position × Position) × AreSpaced tail (pair.0 ∷ pair.1 ∷ [])
row_move tail (Move p q) h = ((p, q), h)
row_move tail _ h = absurd h

pub row_insert : (tail : List ℕ) (c : Command) → Row (codes "insert") tail c → (all : Position × Position × Position) × AreSpaced tail (all.0 ∷ all.1 ∷ all.2 ∷ [])
row_insert tail (Insert a b q) h = ((a, b, q), h)
row_insert tail _ h = absurd h

pub row_remove : (tail : List ℕ) (c : Command) → Row (codes "remove") tail c → (p : Position) × AreSpaced tail (p ∷ [])
row_remove tail (Remove p) h = (p, h)
row_remove tail _ h = absurd h

pub row_thin : (tail : List ℕ) (c : Command) → Row (codes "thin") tail c → (t : ℤ) × AskedWith tail (Thin t)
row_thin tail (Thin t) h = (t, h)
row_thin tail _ h = absurd h

pub row_split : (tail : List ℕ) (c : Command) → Row (codes "split") tail c → (parts : ℕ × List ℕ × List Position) × AskedWith tail (Split parts.0 (string_text parts.1) parts.2)
row_split tail (Split n id path) h = ((n, h.0.gives.name, path), subst (λ i. AskedWith tail (Split n i path)) h.0.gives.written h)
row_split tail _ h = absurd h

pub row_merge : (tail : List ℕ) (c : Command) → Row (codes "merge") tail c → (both : ℕ × ℕ) × AreFeatures tail (both.0 ∷ both.1 ∷ [])
row_merge tail (Merge n m) h = ((n, m), h)
row_merge tail _ h = absurd h

pub row_rename : (tail : List ℕ) (c : Command) → Row (codes "rename") tail c → (parts : ℕ × List ℕ) × AskedWith tail (Rename parts.0 (string_text parts.1))
row_rename tail (Rename n id) h = ((n, h.gives.name), subst (λ i. AskedWith tail (Rename n i)) h.gives.written h)
row_rename tail _ h = absurd h

pub row_delete : (tail : List ℕ) (c : Command) → Row (codes "delete") tail c → (n : ℕ) × AreFeatures tail (n ∷ [])
row_delete tail (Delete n) h = (n, h)
row_delete tail _ h = absurd h

pub row_area : (tail : List ℕ) (c : Command) → Row (codes "area") tail c → (n : ℕ) × AreFeatures tail (n ∷ [])
row_area tail (Area n) h = (n, h)
row_area tail _ h = absurd h

pub row_at : (tail : List ℕ) (c : Command) → Row (codes "at") tail c → (p : Position) × AreSpaced tail (p ∷ [])
row_at tail (At p) h = (p, h)
row_at tail _ h = absurd h

pub row_neighbours : (tail : List ℕ) (c : Command) → Row (codes "neighbours") tail c → (n : ℕ) × AreFeatures tail (n ∷ [])
row_neighbours tail (Neighbours n) h = (n, h)
row_neighbours tail _ h = absurd h

pub row_rings : (tail : List ℕ) (c : Command) → Row (codes "rings") tail c → (n : ℕ) × AreFeatures tail (n ∷ [])
row_rings tail (Rings n) h = (n, h)
row_rings tail _ h = absurd h

module _ (line word tail : List ℕ) (taken : word ≡ take_while is_letter line) (left : tail ≡ rest_of line) where
  -- what a line asks for is asked with its word and what follows it
  pub asked_by : (c : Command) → Asks line c → AskedBy word tail c
  asked_by c a =
      let ends = asked_end a.tail c a.asked in
      let front : word ≡ asking_word c = taken ∙ ap (take_while is_letter) a.whole ∙ word-taken (asking_word c) a.tail (command_word c) ends in
      let back : tail ≡ a.tail = left ∙ ap rest_of a.whole ∙ word-rest (asking_word c) a.tail (command_word c) ends in
      (sym front, subst (λ t. AskedWith t c) (sym back) a.asked)

  pub asks : (c : Command) → AskedBy word tail c → Asks line c
  asks c h = record {
    tail = tail;
    whole = sym (taken-rest is_letter line) ∙ sym (ap₂ (λ w t. w ++ t) taken left) ∙ ap (λ w. w ++ tail) (sym h.0);
    asked = h.1;
  }

  -- what is found after the first word is what the line asks for: each row of the table has that word
  -- alone, and makes its command of what follows it
  pub arm : {X : Type 0} (front : List ℕ) (Is : X → Type 0) (line_of : X → Line) → ((c : Command) → Row front tail c → (x : X) × Is x)
      → ((x : X) → Is x → IsSomeAnd (says_of (line_of x)) (AskedBy front tail)) → (found : Option X) (o : Option Line) → word ≡ front → Finds found Is
      → MatchOption found (o ≡ None) (λ x. IsSomeAnd o (λ l. l ≡ line_of x)) → FindsCommand o (Asks line)
  arm front Is line_of only made None o is never e =
      subst (λ r. FindsCommand r (Asks line)) (sym e) (λ c a.
      let h = asked_by c a in
      let k = only c (row front tail c (h.0 ∙ is, h.1)) in
      never k.0 k.1)
  arm front Is line_of only made (Some x) None is h e = absurd e
  arm front Is line_of only made (Some x) (Some l) is h e = subst (λ m. IsSomeAnd (says_of m) (Asks line)) (sym e) (by (says_of (line_of x)) (made x h))
    where
      by : (o : Option Command) → IsSomeAnd o (AskedBy front tail) → IsSomeAnd o (Asks line)
      by None k = k
      by (Some c) k = asks c (k.0 ∙ sym is, k.1)

-- a comment that is not UTF-8 says nothing
pub bad_comment : (line : List ℕ) (asked : Option Command) → is_comment line ≡ true → ¬ IsUtf8 line → Says line asked → ⊥
bad_comment line None h bad says = bad says.1.0
bad_comment line (Some c) h bad says = false≢true (sym (ap is_comment says.1.whole ∙ unmarked c says.1.tail) ∙ h)

-- what a line that is not too long asks for it says
pub said_asked : (line : List ℕ) (o : Option Command) → length line ≤ 8192 → IsSomeAnd o (Asks line) → Says line o
said_asked line None short h = absurd h
said_asked line (Some c) short h = (short, h)

-- nothing is said of a line for which there was no memory
pub no_memory : (f : LineFault) (line : List ℕ) → f ≡ fault.OutOfMemory → IsRefused f line
no_memory f line e = subst (λ z. IsRefused z line) (sym e) tt
