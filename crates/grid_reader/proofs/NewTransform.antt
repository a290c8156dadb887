-- The transform of a finer grid is one that opening would keep.
use Rattle.kit_words.proofs.Common.{◌≡◌, ◌≢◌, ℕ, zero, suc, Bool, true, false, cond, ◌&&◌, List, [], ◌∷◌, ◌++◌, map}
use Rattle.kit_words.proofs.Common.{refl, sym, ap, ◌∙◌, subst, codes, append_assoc, Option, Some, None, Result, Ok}
use Rattle.kit_words.proofs.Common.{IsTrue, nat_lt, ℤ, pos, ◌==◌, AllByRecursion, AllPairs, IsDistinct, list_all}
use Rattle.kit_words.proofs.Common.{append-nil, AllPairs-from_IsDistinct, bytes_eq-Decides, same_Some}
use Rattle.serde_json.proofs.OnLiterals.{serde_json_on_literals}
use Rattle.json_spans.specs.Common.{is_digit, IsValue, IsNumber, IsText, IsListOf, kind_of, Node, decoded, items}
use Rattle.json_spans.specs.Common.{members, digits_len}
use Rattle.json_spans.specs.Grammar.{number as a_number, plain_number, zero_first, no_fraction, no_exponent}
use Rattle.json_spans.specs.declared.kinds.Kind.TheVariants as kind
use Rattle.json_spans.proofs.Common.{number_told, object_told, object_kind, member_values}
use Rattle.ring_machine.specs.Common.{Text, Member}
use Rattle.topo_outline.specs.declared.words.Word.TheVariants as word
use Rattle.topo_outline.specs.Common.{Fault, ◌>>=◌, value_at, AreTwoNumbers, IsTransform, no_transform, null_transform}
use Rattle.topo_outline.specs.Common.{transform, NestsAtMost, IsJson, IsName, IfThere, IsKeptTransform, is_list}
use Rattle.topo_outline.specs.Common.{is_number, word_of}
use Rattle.topo_outline.proofs.Common.{list_here, list_nests}
use Rattle.topo_outline.proofs.Shaped.{number_means}
use Rattle.map_text.specs.Common.{list_text, object_text, member}
use Rattle.map_text.proofs.GrammarLists.{bytes_of, list_is_json, has_texts}
use Rattle.map_text.proofs.GrammarObjects.{IsMember, object_is_json}
use Rattle.map_text.proofs.MembersKnown.{plain_name}
use Rattle.map_text.proofs.MembersSeen.{seen_value, value_seen, all_seen, object_seen}
use Rattle.map_text.proofs.ReadingPlaces.{node_there}
use Rattle.grid_reader.specs.Common.{first_two_of, member_value, both_numbers, two_number_nodes, two_in, or_bad_transform, number}
use Rattle.topo_reader.proofs.Common.{bind_ok, ok_same}
use Rattle.decimal_texts.specs.Common.{Parts, parts_of, unsigned, behind_integer, with_exponent, exponent_of}
use Rattle.decimal_texts.specs.Common.{digits_of, behind_digits, shifted_text}
use Rattle.decimal_texts.proofs.Values.{front_passes}
use Rattle.decimal_texts.proofs.Written.{shifted_number}
use Rattle.grid_reader.specs.Common.{new_transform_text, one_shifted, divided, transform_on}
use Rattle.decimal_texts.specs.Geometries.{is_string_of}

-- ---- the text, of four numbers

scale_named : IsName (codes "\"scale\"") (codes "scale")
unfolding serde_json_on_literals
scale_named = plain_name (codes "scale") refl (codes "\"scale\"", (refl, refl)) refl

translate_named : IsName (codes "\"translate\"") (codes "translate")
unfolding serde_json_on_literals
translate_named = plain_name (codes "translate") refl (codes "\"translate\"", (refl, refl)) refl

abbrev pair_of : Text → Text → Text
pair_of a b = list_text (a ∷ b ∷ [])

abbrev members_made : Text → Text → List Member
members_made scale translate = member (codes "\"scale\"") scale ∷ member (codes "\"translate\"") translate ∷ []

-- all before the last number, and an end
abbrev with_end : Text → Text → Text → Text → Text
with_end a b c end = codes "{\"scale\":[" ++ (a ++ (codes "," ++ (b ++ (codes "],\"translate\":[" ++ (c ++ (codes "," ++ end))))))

text_is : (a b c d : Text) → new_transform_text a b c d ≡ object_text (members_made (pair_of a b) (pair_of c d))
text_is a b c d = simp (append_assoc, append-nil {A = ℕ}) (ap (with_end a b c) (sym (append_assoc d (codes "]") (codes "}"))))

number_is_json : {a : Text} → IsNumber a → IsJson a
number_is_json h = (0, a_number h)

pair_is_json : (a b : Text) → IsNumber a → IsNumber b → IsJson (pair_of a b)
pair_is_json a b x y = list_is_json (a ∷ b ∷ []) (number_is_json x, (number_is_json y, tt))

-- a node of a list of two numbers
two_nodes : (v : Node) (a b : Text) (ns : List Node) → map bytes_of ns ≡ a ∷ b ∷ [] → IsListOf v ns → IsNumber a → IsNumber b → AreTwoNumbers v
two_nodes v a b [] e list x y = absurd cc
two_nodes v a b (m ∷ []) e list x y = absurd cc
two_nodes v a b (m ∷ n ∷ []) e list x y =
    let first : a ≡ m.bytes = cc in
    let second : b ≡ n.bytes = cc in
    record { x = m; y = n; two = list; x_number = subst IsNumber first x; y_number = subst IsNumber second y }
two_nodes v a b (m ∷ n ∷ o ∷ ns) e list x y = absurd cc

pair_has : (v : Node) (a b : Text) → v.bytes ≡ pair_of a b → IsNumber a → IsNumber b → AreTwoNumbers v
pair_has v a b e x y =
    let found = has_texts v (a ∷ b ∷ []) e (number_is_json x, (number_is_json y, tt)) in
    two_nodes v a b found.nodes found.are found.list x y

abbrev names : List (List ℕ)
names = codes "scale" ∷ codes "translate" ∷ []

names_differ : AllPairs (λ t u. t ≢ u) names
unfolding IsDistinct
names_differ = AllPairs-from_IsDistinct bytes_eq-Decides names ((refl, tt), (tt, tt))

scale_seen : (s t : Text) → seen_value 8 (all_seen names (members_made s t)) ≡ Some s
unfolding word_of
scale_seen s t = refl

translate_seen : (s t : Text) → seen_value 9 (all_seen names (members_made s t)) ≡ Some t
unfolding word_of
translate_seen s t = refl

pub made_kept : (a b c d : Text) → IsNumber a → IsNumber b → IsNumber c → IsNumber d → IsKeptTransform (new_transform_text a b c d)
made_kept a b c d w x y z =
    let ms = members_made (pair_of a b) (pair_of c d) in
    let node : Node = record { at_byte = 0; bytes = new_transform_text a b c d } in
    let are : AllByRecursion IsMember ms = (record { string = scale_named.string; json = pair_is_json a b w x }, (record { string = translate_named.string; json = pair_is_json c d y z }, tt)) in
    let seen = object_seen node ms names (text_is a b c d) are (scale_named.says, (translate_named.says, tt)) names_differ in
    let scale = node_there (value_at word.Scale seen.entries) (pair_of a b) (value_seen word.Scale seen.entries ∙ ap (seen_value 8) seen.are ∙ scale_seen (pair_of a b) (pair_of c d)) in
    let translate = node_there (value_at word.Translate seen.entries) (pair_of c d) (value_seen word.Translate seen.entries ∙ ap (seen_value 9) seen.are ∙ translate_seen (pair_of a b) (pair_of c d)) in
    record {
      value = subst IsJson (sym (text_is a b c d)) (object_is_json ms are);
      place = 0;
      transform = transform seen.has scale.1 (pair_has scale.0 a b scale.2 w x) translate.1 (pair_has translate.0 c d translate.2 y z);
    }

-- ---- its numbers

digits_ok : (xs : List ℕ) → list_all is_digit (digits_of xs) ≡ true
digits_ok xs = front_passes is_digit xs

pub record HasDigits (p : Parts) : Type 0 where
  pub whole : IsTrue (list_all is_digit p.integer)
  pub part : IsTrue (list_all is_digit p.fraction)

exponent_digits : (sign : Bool) (integer fraction : List ℕ) (e : Option ℤ) (p : Parts) → list_all is_digit integer ≡ true → list_all is_digit fraction ≡ true → with_exponent sign integer fraction e ≡ Some p → HasDigits p
exponent_digits sign integer fraction None p i f h = absurd cc
exponent_digits sign integer fraction (Some e) p i f h =
    let whole : integer ≡ p.integer = cc in
    let part : fraction ≡ p.fraction = cc in
    record { whole = subst (λ ds. IsTrue (list_all is_digit ds)) whole i; part = subst (λ ds. IsTrue (list_all is_digit ds)) part f }

behind_digits_ok : (sign : Bool) (integer xs : List ℕ) (p : Parts) → list_all is_digit integer ≡ true → behind_integer sign integer xs ≡ Some p → HasDigits p
behind_digits_ok sign integer [] p i h = exponent_digits sign integer [] (exponent_of []) p i refl h
behind_digits_ok sign integer (x ∷ xs) p i h = by (x == 46) (nat_lt 0 (digits_len xs)) h
  where
    by : (b c : Bool) → cond b (cond c (with_exponent sign integer (digits_of xs) (exponent_of (behind_digits xs))) None) (with_exponent sign integer [] (exponent_of (x ∷ xs))) ≡ Some p → HasDigits p
    by true true k = exponent_digits sign integer (digits_of xs) (exponent_of (behind_digits xs)) p i (digits_ok xs) k
    by true false k = absurd cc
    by false c k = exponent_digits sign integer [] (exponent_of (x ∷ xs)) p i refl k

unsigned_digits : (sign : Bool) (xs : List ℕ) (p : Parts) → unsigned sign xs ≡ Some p → HasDigits p
unsigned_digits sign xs p h = by (nat_lt 0 (digits_len xs)) h
  where
    by : (b : Bool) → cond b (behind_integer sign (digits_of xs) (behind_digits xs)) None ≡ Some p → HasDigits p
    by true k = behind_digits_ok sign (digits_of xs) (behind_digits xs) p (digits_ok xs) k
    by false k = absurd cc

parts_digits : (t : List ℕ) (p : Parts) → parts_of t ≡ Some p → HasDigits p
parts_digits [] p h = absurd cc
parts_digits (x ∷ xs) p h = by (x == 45) h
  where
    by : (b : Bool) → cond b (unsigned true xs) (unsigned false (x ∷ xs)) ≡ Some p → HasDigits p
    by true k = unsigned_digits true xs p k
    by false k = unsigned_digits false (x ∷ xs) p k

is_there : {A : Type 0} (o : Option A) (a : A) → or_bad_transform o ≡ Ok a → o ≡ Some a
is_there None a h = absurd cc
is_there (Some b) a h = cc

shifted_is_number : (k : ℕ) (t : List ℕ) (p : Parts) → number t ≡ Ok p → IsNumber (shifted_text k p)
shifted_is_number k t p h =
    let ok = parts_digits t p (is_there (parts_of t) p h) in
    shifted_number k p ok.whole ok.part

-- ---- the translation, as it stands

value_is : (n : ℕ) (name : List ℕ) (ms : List (Node × Node)) (v : Node) → AllByRecursion (λ m. IsText m.0.bytes × IsValue n m.1.bytes) ms → member_value name ms ≡ Some v → NestsAtMost n v
unfolding member_value
value_is n name [] v all h = absurd cc
value_is n name (m ∷ ms) v all h = by (is_string_of name (decoded m.0.bytes)) h (value_is n name ms v all.1)
  where
    by : (b : Bool) → cond b (Some m.1) (member_value name ms) ≡ Some v → (member_value name ms ≡ Some v → NestsAtMost n v) → NestsAtMost n v
    by true k rest = let same : m.1 ≡ v = cc in subst (NestsAtMost n) same all.0.1
    by false k rest = rest k

record AreNumbers (p : Node × Node) : Type 0 where
  first : IsNumber p.0.bytes
  second : IsNumber p.1.bytes

pair_numbers : (n : ℕ) (o : Option (Node × Node)) (p : Node × Node) → (o ≡ Some p → NestsAtMost n p.0 × NestsAtMost n p.1) → both_numbers o ≡ Some p → AreNumbers p
pair_numbers n None p nests h = absurd cc
pair_numbers n (Some q) p nests h = by (is_number (kind_of q.0.bytes)) refl (is_number (kind_of q.1.bytes)) refl h
  where
    by : (a : Bool) → is_number (kind_of q.0.bytes) ≡ a → (b : Bool) → is_number (kind_of q.1.bytes) ≡ b → cond (a && b) (Some q) None ≡ Some p → AreNumbers p
    by true e true f k =
        let same : q ≡ p = cc in
        let inside = nests (ap (λ (r : Node × Node). Some r) same) in
        let first : kind_of p.0.bytes ≡ kind.Number = subst (λ (r : Node × Node). kind_of r.0.bytes ≡ kind.Number) same (number_means (kind_of q.0.bytes) e) in
        let second : kind_of p.1.bytes ≡ kind.Number = subst (λ (r : Node × Node). kind_of r.1.bytes ≡ kind.Number) same (number_means (kind_of q.1.bytes) f) in
        record { first = number_told inside.0 first; second = number_told inside.1 second }
    by true e false f k = absurd cc
    by false e b f k = absurd cc

two_nest : (n : ℕ) (ns : List Node) (p : Node × Node) → AllByRecursion (NestsAtMost n) ns → first_two_of false ns ≡ Some p → NestsAtMost n p.0 × NestsAtMost n p.1
two_nest n [] p all h = absurd cc
two_nest n (a ∷ []) p all h = absurd cc
two_nest n (a ∷ b ∷ []) p all h = let same : (a, b) ≡ p = cc in subst (λ (r : Node × Node). NestsAtMost n r.0 × NestsAtMost n r.1) same (all.0, all.1.0)
two_nest n (a ∷ b ∷ c ∷ ns) p all h = absurd cc

numbers_in : (n : ℕ) (v : Node) (p : Node × Node) → NestsAtMost n v → two_number_nodes v ≡ Some p → AreNumbers p
unfolding two_number_nodes
numbers_in n v p nests h = by (is_list v) refl h
  where
    by : (b : Bool) → is_list v ≡ b → cond b (both_numbers (first_two_of false (items v))) None ≡ Some p → AreNumbers p
    by true e k =
        let (j, less, all) = list_nests n v nests (list_here n v nests e) in
        pair_numbers j (first_two_of false (items v)) p (two_nest j (items v) p all) k
    by false e k = absurd cc

two_in_numbers : (n : ℕ) (name : List ℕ) (ms : List (Node × Node)) (p : Node × Node) → AllByRecursion (λ m. IsText m.0.bytes × IsValue n m.1.bytes) ms → two_in (member_value name ms) ≡ Ok p → AreNumbers p
two_in_numbers n name ms p all h = by (member_value name ms) refl h
  where
    by : (o : Option Node) → member_value name ms ≡ o → two_in o ≡ Ok p → AreNumbers p
    by None e k = absurd cc
    by (Some v) e k = numbers_in n v p (value_is n name ms v all e) (is_there (two_number_nodes v) p k)

-- ---- what was kept is an object

object_of : {v : Option Node} {o : Option Text} → IsTransform v o → (n : Node) (t : Text) → v ≡ Some n → o ≡ Some t → kind_of n.bytes ≡ kind.Object
object_of no_transform n t e f = absurd cc
object_of (null_transform is) n t e f = absurd cc
object_of (transform {n = m} has a s b r) n t e f = subst (λ (k : Node). kind_of k.bytes ≡ kind.Object) (same_Some m n e) (object_kind has.object)

abbrev object_at : Text → Node
object_at t = record { at_byte = 0; bytes = t }

kept_members : (t : Text) → IsKeptTransform t → (n : ℕ) × AllByRecursion (λ m. IsText m.0.bytes × IsValue n m.1.bytes) (members (object_at t))
kept_members t h = member_values (object_told h.value.0 (object_at t) h.value.1 (object_of h.transform (record { at_byte = h.place; bytes = t }) t refl refl))

-- ---- divided

digit_number : (k : ℕ) → IsNumber (one_shifted k)
digit_number k = shifted_number k (record { is_negative = false; integer = codes "1"; fraction = []; exponent = pos 0 }) refl refl

zero_number : IsNumber (codes "0")
zero_number = plain_number (zero_first (no_fraction no_exponent))

divided_kept : (k : ℕ) (t : Option Text) (s : Text) → IfThere IsKeptTransform t → divided k t ≡ Ok s → IsKeptTransform s
divided_kept k None s kept h = subst IsKeptTransform (ok_same (new_transform_text (one_shifted k) (one_shifted k) (codes "0") (codes "0")) s h) (made_kept (one_shifted k) (one_shifted k) (codes "0") (codes "0") (digit_number k) (digit_number k) zero_number zero_number)
divided_kept k (Some t) s kept h =
    let all = kept_members t kept in
    let ms = members (object_at t) in
    let last = λ (a b : Parts) (p : Node × Node). let r : Result Text Fault = Ok (new_transform_text (shifted_text k a) (shifted_text k b) p.0.bytes p.1.bytes) in r in
    let translated = λ (a b : Parts). two_in (member_value (codes "translate") ms) >>= last a b in
    let scale = bind_ok (two_in (member_value (codes "scale") ms)) (λ (q : Node × Node). number q.0.bytes >>= λ a. number q.1.bytes >>= λ b. translated a b) s h in
    let a = bind_ok (number scale.0.0.bytes) (λ (a : Parts). number scale.0.1.bytes >>= λ b. translated a b) s scale.2 in
    let b = bind_ok (number scale.0.1.bytes) (λ (b : Parts). translated a.0 b) s a.2 in
    let p = bind_ok (two_in (member_value (codes "translate") ms)) (last a.0 b.0) s b.2 in
    let numbers = two_in_numbers all.0 (codes "translate") ms p.0 all.1 p.1 in
    subst IsKeptTransform (ok_same (new_transform_text (shifted_text k a.0) (shifted_text k b.0) p.0.0.bytes p.0.1.bytes) s p.2)
    (made_kept (shifted_text k a.0) (shifted_text k b.0) p.0.0.bytes p.0.1.bytes (shifted_is_number k scale.0.0.bytes a.0 a.1) (shifted_is_number k scale.0.1.bytes b.0 b.1) numbers.first numbers.second)

pub transform_kept : (k : ℕ) (t u : Option Text) → IfThere IsKeptTransform t → transform_on k t ≡ Ok u → IfThere IsKeptTransform u
transform_kept zero t u kept h = subst (IfThere IsKeptTransform) (ok_same t u h) kept
transform_kept (suc k) t u kept h =
    let made = bind_ok (divided (suc k) t) (λ (s : Text). let r : Result (Option Text) Fault = Ok (Some s) in r) u h in
    subst (IfThere IsKeptTransform) (ok_same (Some made.0) u made.2) (divided_kept (suc k) t made.0 kept made.1)
