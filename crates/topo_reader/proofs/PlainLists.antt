-- What plain arcs are read as, one after another.
use Rattle.kit_words.proofs.Common.{◌≡◌, ℕ, suc, ◌+◌, ◌-◌, ◌<◌, List, [], ◌∷◌, ◌++◌, length, take, drop, get_or, map}
use Rattle.kit_words.proofs.Common.{Bool, true, false, refl, sym, ap, subst, ◌∙◌, arith, add-one, drop-cons, None, Some}
use Rattle.kit_words.proofs.Common.{Ok, nat_tests, length-append, append-nil, reverse-append, length-drop, take_all}
use Rattle.kit_words.proofs.Common.{map-append, nil_from_length}
use Rattle.std.proofs.lemmas.List.{append_assoc}
use Rattle.grid_geometry.specs.Common.{Position}
use Rattle.json_spans.specs.Common.{is_space, Space, no_space, space, Padded, padded, skip_step, part_len, has_first}
use Rattle.json_spans.specs.Common.{trimmed, spaces_before}
use Rattle.json_spans.specs.Parts.{Node}
use Rattle.json_spans.specs.declared.parts.Skip.TheVariants.{Plain}
use Rattle.json_spans.proofs.Common.{Firm, space_framed, alone, Solid, trimmed_is, first_is}
use Rattle.topo_reader.specs.Common.{arc, nodes_from, PlainItem, PlainItems, Begins}
use Rattle.topo_reader.proofs.PlainItems.{first_part, last_part}
use Rattle.topo_reader.proofs.PlainArcs.{left_len, arc_reads}

-- ---- space

-- what follows the space that is left follows the space of the whole
abbrev pub Spaced : List ℕ → ℕ → Type 0
Spaced bytes i = (rest : List ℕ) → Space (drop i bytes) rest → Space bytes rest

pub space_more : (bytes : List ℕ) (i : ℕ) → i < length bytes → is_space (get_or bytes i 0) ≡ true → Spaced bytes i → Spaced bytes (i + 1)
space_more bytes i lt e h rest s =
    let tail : Space (drop (suc i) bytes) rest = rw (← add-one i) s in
    h rest (rw (drop-cons bytes i 0 lt) (space e tail))

pub space_end : (bytes : List ℕ) (i : ℕ) → Spaced bytes i → Space bytes (take (length bytes - i) (drop i bytes))
space_end bytes i h =
    let all : take (length bytes - i) (drop i bytes) ≡ drop i bytes = take_all (length bytes - i) (drop i bytes) (omega (arith, length-drop i bytes)) in
    rw all (h (drop i bytes) no_space)

pub space_last : (bytes : List ℕ) (i : ℕ) → i ≡ length bytes → Spaced bytes i → Space bytes (take (length bytes - length bytes) (drop (length bytes) bytes))
space_last bytes i e h = subst (λ (k : ℕ). Space bytes (take (length bytes - k) (drop k bytes))) e (space_end bytes i h)

space_passes : (l x : ℕ) → is_space x ≡ true → skip_step 44 Plain l x ≡ Some (Plain, l)
space_passes l x e = grind (arith, nat_tests)

-- a part goes on past space
space_len : (l : ℕ) (w rest : List ℕ) → Space w [] → part_len 44 Plain l (w ++ rest) ≡ length w + part_len 44 Plain l rest
unfolding part_len
space_len l w rest no_space = omega arith
space_len l w rest (space {x = x} {xs = xs} e s) = rw (space_passes l x e) (omega (arith, space_len l xs rest s))

-- ---- an item

-- what is before the comma or the bracket
abbrev part_text : List ℕ → List ℕ → List ℕ → List ℕ
part_text before text after = before ++ ((91 ∷ text) ++ after)

arc_solid : (text front : List ℕ) → text ≡ front ++ 93 ∷ [] → Solid (91 ∷ text)
arc_solid text front e =
    let ends : Firm (91 ∷ (front ++ 93 ∷ [])) = rw (reverse-append (91 ∷ front) (93 ∷ [])) refl in
    record { begins = λ w. refl; first = λ w. refl; ends = subst (λ (t : List ℕ). Firm (91 ∷ t)) (sym e) ends }

part_stops : (before text after : List ℕ) (x : ℕ) (left : List ℕ) → Space before [] → Space after [] → ((r : List ℕ) → part_len 44 Plain 1 (text ++ r) ≡ length text + part_len 44 Plain 0 r) → skip_step 44 Plain 0 x ≡ None → part_len 44 Plain 0 (part_text before text after ++ (x ∷ left)) ≡ length (part_text before text after)
unfolding part_len
part_stops before text after x left sb sa spans stop =
    let regroup : part_text before text after ++ (x ∷ left) ≡ before ++ (91 ∷ (text ++ (after ++ (x ∷ left)))) = simp append_assoc in
    let stops : part_len 44 Plain 0 (x ∷ left) ≡ 0 = rw stop refl in
    rw (regroup, space_len 0 before (91 ∷ (text ++ (after ++ (x ∷ left)))) sb)
    (omega (arith, spans (after ++ (x ∷ left)), space_len 0 after (x ∷ left) sa, stops, length-append before ((91 ∷ text) ++ after), length-append (91 ∷ text) after))

-- the item's bytes: its part, the comma or the bracket, and what is left
pub record Itemed (delta : Bool) (bytes : List ℕ) (ps : List Position) (x : ℕ) (left : List ℕ) : Type 0 where
  pub before : List ℕ
  pub text : List ℕ
  pub after : List ℕ
  pub is : bytes ≡ part_text before text after ++ (x ∷ left)
  pub space_before : Space before []
  pub space_after : Space after []
  pub solid : Solid (91 ∷ text)
  pub spans : (r : List ℕ) → part_len 44 Plain 1 (text ++ r) ≡ length text + part_len 44 Plain 0 r
  pub reads : (place : ℕ) → arc delta (record { at_byte = place; bytes = 91 ∷ text }) ≡ Ok ps

itemed : (delta : Bool) (bytes : List ℕ) (ps : List Position) (more : Bool) (behind : List ℕ) (x : ℕ) (left : List ℕ) → (i : PlainItem delta bytes ps more behind) → i.end ≡ x ∷ left → Itemed delta bytes ps x left
itemed delta bytes ps more behind x left i e =
    let a = space_framed i.before in
    let b = space_framed i.after in
    let f = i.arc_is.front in
    let text : List ℕ = f.text in
    let whole : bytes ≡ a.bs ++ (91 ∷ (text ++ (b.bs ++ (x ∷ left)))) = a.is ∙ ap (λ (w : List ℕ). a.bs ++ w) (i.arc_is.is ∙ ap (λ (w : List ℕ). 91 ∷ w) (f.is ∙ ap (λ (w : List ℕ). text ++ w) (b.is ∙ ap (λ (w : List ℕ). b.bs ++ w) e))) in
    let regroup : part_text a.bs text b.bs ++ (x ∷ left) ≡ a.bs ++ (91 ∷ (text ++ (b.bs ++ (x ∷ left)))) = simp append_assoc in
    record {
      before = a.bs;
      text = text;
      after = b.bs;
      is = whole ∙ sym regroup;
      space_before = alone a;
      space_after = alone b;
      solid = arc_solid text f.ends.0 f.ends.1;
      spans = f.spans;
      reads = λ place. arc_reads delta place i.front ps i.behind i.arc_is;
    }

-- the item without the space round it, and its place
item_trimmed : (place : ℕ) (before text after : List ℕ) → Space before [] → Space after [] → Solid (91 ∷ text) → trimmed (record { at_byte = place; bytes = part_text before text after }) ≡ record { at_byte = place + length before; bytes = 91 ∷ text }
item_trimmed place before text after sb sa solid = trimmed_is {A = Solid} (λ v s. s) (padded sb solid sa)

item_first : (before text after rest : List ℕ) → Space before [] → Space after [] → Solid (91 ∷ text) → has_first (drop (spaces_before (part_text before text after ++ rest)) (part_text before text after ++ rest)) ≡ true
item_first before text after rest sb sa solid =
    let p : Padded Solid 0 (part_text before text after) (record { at_byte = 0 + length before; bytes = 91 ∷ text }) = padded sb solid sa in
    first_is {A = Solid} (λ v s. s) p rest

begins : {delta : Bool} {bytes : List ℕ} {ps : List Position} {x : ℕ} {left : List ℕ} → Itemed delta bytes ps x left → Begins true bytes
begins {x = x} {left = left} i = rw (i.is) (item_first i.before i.text i.after (x ∷ left) i.space_before i.space_after i.solid)

nodes_comma : (delta : Bool) (bytes : List ℕ) (ps : List Position) (left : List ℕ) (place : ℕ) → (i : Itemed delta bytes ps 44 left) → nodes_from true place bytes ≡ record { at_byte = place + length i.before; bytes = 91 ∷ i.text } ∷ nodes_from true (place + length (part_text i.before i.text i.after) + 1) left
nodes_comma delta bytes ps left place i =
    let part : List ℕ = part_text i.before i.text i.after in
    let stops = part_stops i.before i.text i.after 44 left i.space_before i.space_after i.spans refl in
    ap (λ (w : List ℕ). nodes_from true place w) i.is
    ∙ ap (λ (ns : List Node). map trimmed ns) (first_part place part left stops)
    ∙ ap (λ (n : Node). n ∷ nodes_from true (place + length part + 1) left) (item_trimmed place i.before i.text i.after i.space_before i.space_after i.solid)

nodes_last : (delta : Bool) (bytes : List ℕ) (ps : List Position) (place : ℕ) → (i : Itemed delta bytes ps 93 []) → nodes_from true place bytes ≡ record { at_byte = place + length i.before; bytes = 91 ∷ i.text } ∷ []
nodes_last delta bytes ps place i =
    let part : List ℕ = part_text i.before i.text i.after in
    let stops = part_stops i.before i.text i.after 93 [] i.space_before i.space_after i.spans refl in
    ap (λ (w : List ℕ). nodes_from true place w) i.is
    ∙ ap (λ (ns : List Node). map trimmed ns) (last_part place part stops)
    ∙ ap (λ (n : Node). n ∷ []) (item_trimmed place i.before i.text i.after i.space_before i.space_after i.solid)

-- ---- the list

-- what begins with an item is read as its arc and those of the others
item_reads : (delta : Bool) (bytes : List ℕ) (ps : List Position) (more : Bool) (left : List ℕ) (as' : List (List Position)) → PlainItem delta bytes ps more left → PlainItems delta more left as' → PlainItems delta true bytes (ps ∷ as')
item_reads delta bytes ps true left as' i h =
    let t : Itemed delta bytes ps 44 left = itemed delta bytes ps true left 44 left i i.follows in
    let after : ℕ = length (part_text t.before t.text t.after) in
    record {
      reads = λ place. rw (nodes_comma delta bytes ps left place t, t.reads (place + length t.before), h.reads (place + after + 1)) refl;
      begins = begins t;
    }
item_reads delta bytes ps false left as' i h =
    let t : Itemed delta bytes ps 93 [] = itemed delta bytes ps false left 93 [] i (i.follows ∙ ap (λ (w : List ℕ). 93 ∷ w) h.begins) in
    let none : Ok [] ≡ Ok as' = h.reads 0 in
    let empty : [] ≡ as' = cc in
    record {
      reads = λ place. rw (nodes_last delta bytes ps place t, t.reads (place + length t.before)) (ap (λ (qs : List (List Position)). Ok (ps ∷ qs)) empty);
      begins = begins t;
    }

-- whatever the rest is read as, the whole is read as the first arc and these
abbrev pub Continues : Bool → List ℕ → List (List Position) → Bool → List ℕ → Type 0
Continues delta inside front more left = (as' : List (List Position)) → PlainItems delta more left as' → PlainItems delta true inside (front ++ as')

pub turn : {V : Type 0} (f : V → List Position) (delta : Bool) (inside : List ℕ) (front new : List V) (v : V) (more : Bool) (bytes : List ℕ) (next : Bool) (left : List ℕ) → more ≡ true → PlainItem delta bytes (f v) next left → new ≡ front ++ v ∷ [] → Continues delta inside (map f front) more bytes → Continues delta inside (map f new) next left
turn {V = V} f delta inside front new v more bytes next left is i e h as' k =
    let one : map f new ≡ map f front ++ f v ∷ [] = ap (λ (vs : List V). map f vs) e ∙ map-append f front (v ∷ []) in
    let same : map f front ++ (f v ∷ as') ≡ map f new ++ as' = sym (append_assoc (map f front) (f v ∷ []) as') ∙ ap (λ (qs : List (List Position)). qs ++ as') (sym one) in
    let whole : PlainItems delta more bytes (f v ∷ as') = subst (λ (m : Bool). PlainItems delta m bytes (f v ∷ as')) (sym is) (item_reads delta bytes (f v) next left as' i k) in
    subst (λ (qs : List (List Position)). PlainItems delta true inside qs) same (h (f v ∷ as') whole)

pub end : (delta : Bool) (inside : List ℕ) (front : List (List Position)) (more : Bool) (left : List ℕ) → more ≡ false → length left ≡ 0 → Continues delta inside front more left → PlainItems delta true inside front
end delta inside front more left is none h =
    let last : PlainItems delta false left [] = record { reads = λ place. refl; begins = nil_from_length left none } in
    subst (λ (qs : List (List Position)). PlainItems delta true inside qs) (append-nil front) (h [] (subst (λ (m : Bool). PlainItems delta m left []) (sym is) last))

shorter : (delta : Bool) (bytes : List ℕ) (ps : List Position) (more : Bool) (left : List ℕ) → PlainItem delta bytes ps more left → left_len more left < suc (length bytes)
shorter delta bytes ps false left i = omega arith
shorter delta bytes ps true left i =
    let t : Itemed delta bytes ps 44 left = itemed delta bytes ps true left 44 left i i.follows in
    omega (arith, ap length t.is, length-append (part_text t.before t.text t.after) (44 ∷ left))

pub item_shorter : (delta : Bool) (now : Bool) (bytes : List ℕ) (ps : List Position) (more : Bool) (left : List ℕ) → now ≡ true → PlainItem delta bytes ps more left → left_len more left < left_len now bytes
item_shorter delta now bytes ps more left is i = rw is (shorter delta bytes ps more left i)
