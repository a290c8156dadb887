-- What plain pairs are read as, one after another.
use Rattle.kit_words.proofs.Common.{◌≡◌, ℕ, suc, ◌+◌, ◌<◌, List, [], ◌∷◌, ◌++◌, length, drop, Bool, true, false, refl}
use Rattle.kit_words.proofs.Common.{sym, ap, subst, ◌∙◌, arith, ℤ, ◌+ℤ◌, Ok, list_all, length-append, append-nil}
use Rattle.kit_words.proofs.Common.{nil_from_length}
use Rattle.std.proofs.lemmas.List.{append_assoc}
use Rattle.grid_geometry.specs.Position.{Position, position as placed, InRange}
use Rattle.json_spans.specs.Parts.{Node}
use Rattle.json_spans.specs.Common.{items, whole_of}
use Rattle.topo_reader.specs.Common.{origin, position, positions, before_next, arc, is_plain, PlainStep, PlainFront}
use Rattle.topo_reader.specs.Common.{PlainArc, nodes_from}
use Rattle.topo_reader.proofs.MeaningOfArcs.{within, count, two_or_more}
use Rattle.topo_reader.proofs.PlainItems.{pair_text, regroup, pair_items, comma_long, bracket_long, pair_comma, pair_last}

pair_position : (before p : Position) (place : ℕ) (a b : List ℕ) (x y : ℤ) → list_all is_plain a ≡ true → whole_of a ≡ Ok x → list_all is_plain b ≡ true → whole_of b ≡ Ok y → p ≡ placed (before.x +ℤ x) (before.y +ℤ y) → InRange p → position before (record { at_byte = place; bytes = pair_text a b }) ≡ Ok p
unfolding position
pair_position before p place a b x y ea oa eb ob sum near =
    let x_sum : p.x ≡ before.x +ℤ x = ap (λ (q : Position). q.x) sum in
    let y_sum : p.y ≡ before.y +ℤ y = ap (λ (q : Position). q.y) sum in
    rw (pair_items place a b x ea oa eb, oa, ob, within (before.x +ℤ x) p.x x_sum near.across, within (before.y +ℤ y) p.y y_sum near.upward, sum)
    refl

-- the bytes of a step, and what is left of them
step_text : {before p : Position} {bytes : List ℕ} {more : Bool} {left : List ℕ} → (s : PlainStep before p bytes more left) → bytes ≡ pair_text s.pair.x_is.word s.pair.y_is.word ++ s.rest
step_text s =
    let pair = s.pair in
    let a : List ℕ = pair.x_is.word in
    let b : List ℕ = pair.y_is.word in
    pair.is ∙ ap (λ (w : List ℕ). 91 ∷ w) (pair.x_is.is ∙ ap (λ (w : List ℕ). a ++ (44 ∷ w)) pair.y_is.is) ∙ regroup a b s.rest

abbrev pub left_len : Bool → List ℕ → ℕ
left_len true bytes = suc (length bytes)
left_len false bytes = 0

shorter : (before p : Position) (bytes : List ℕ) (more : Bool) (left : List ℕ) → PlainStep before p bytes more left → left_len more left < suc (length bytes)
shorter before p bytes false left s = omega arith
shorter before p bytes true left s = omega (arith, ap length (step_text s), ap length s.follows, length-append (pair_text s.pair.x_is.word s.pair.y_is.word) s.rest)

pub step_shorter : (before p : Position) (now : Bool) (bytes : List ℕ) (more : Bool) (left : List ℕ) → now ≡ true → PlainStep before p bytes more left → left_len more left < left_len now bytes
step_shorter before p now bytes more left is s = rw is (shorter before p bytes more left s)

step_position : {before p : Position} {bytes : List ℕ} {more : Bool} {left : List ℕ} → (place : ℕ) → (s : PlainStep before p bytes more left) → position before (record { at_byte = place; bytes = pair_text s.pair.x_is.word s.pair.y_is.word }) ≡ Ok p
step_position {before = before} {p = p} place s =
    let x = s.pair.x_is in
    let y = s.pair.y_is in
    pair_position before p place x.word y.word s.x s.y x.plain x.number y.plain y.number s.sum s.in_range

-- what begins with a pair is read as its position and those of the others
pub step_front : (delta : Bool) (before p : Position) (bytes : List ℕ) (more : Bool) (left : List ℕ) (ps : List Position) (rest : List ℕ) → PlainStep before p bytes more left → PlainFront delta (before_next delta p) more left ps rest → PlainFront delta before true bytes (p ∷ ps) rest
unfolding positions
step_front delta before p bytes true left ps rest s f =
    let a : List ℕ = s.pair.x_is.word in
    let b : List ℕ = s.pair.y_is.word in
    let ea = s.pair.x_is.plain in
    let eb = s.pair.y_is.plain in
    let pair : List ℕ = pair_text a b in
    record {
      text = pair ++ (44 ∷ f.text);
      is = step_text s ∙ ap (λ (w : List ℕ). pair ++ w) (s.follows ∙ ap (λ (w : List ℕ). 44 ∷ w) f.is) ∙ sym (append_assoc pair (44 ∷ f.text) rest);
      reads = λ place. rw (pair_comma place a b f.text ea eb, step_position place s, f.reads (place + length pair + 1)) refl;
      ends = (pair ++ (44 ∷ f.ends.0), ap (λ (w : List ℕ). pair ++ (44 ∷ w)) f.ends.1 ∙ sym (append_assoc pair (44 ∷ f.ends.0) (93 ∷ [])));
      spans = λ r. comma_long a b f.text r ea eb (f.spans r);
    }
step_front delta before p bytes false left ps rest s f =
    let a : List ℕ = s.pair.x_is.word in
    let b : List ℕ = s.pair.y_is.word in
    let ea = s.pair.x_is.plain in
    let eb = s.pair.y_is.plain in
    let pair : List ℕ = pair_text a b in
    let here : left ≡ rest = f.is ∙ ap (λ (w : List ℕ). w ++ rest) f.ends in
    let none : Ok [] ≡ Ok ps = f.reads 0 in
    let empty : [] ≡ ps = cc in
    record {
      text = pair ++ (93 ∷ []);
      is = step_text s ∙ ap (λ (w : List ℕ). pair ++ w) (s.follows ∙ ap (λ (w : List ℕ). 93 ∷ w) here) ∙ sym (append_assoc pair (93 ∷ []) rest);
      reads = λ place. rw (pair_last place a b ea eb, step_position place s) (ap (λ (qs : List Position). Ok (p ∷ qs)) empty);
      ends = (pair, refl);
      spans = λ r. bracket_long a b r ea eb;
    }

-- whatever the rest is read as, the whole is read as the first position and these
abbrev pub Continues : Bool → List ℕ → List Position → Position → Bool → List ℕ → Type 0
Continues delta inside front before more left = (ps : List Position) (rest : List ℕ) → PlainFront delta before more left ps rest → PlainFront delta origin true inside (front ++ ps) rest

pub turn : (delta : Bool) (inside : List ℕ) (front new : List Position) (before p : Position) (more : Bool) (bytes : List ℕ) (next : Bool) (left : List ℕ) → more ≡ true → PlainStep before p bytes next left → new ≡ front ++ p ∷ [] → Continues delta inside front before more bytes → Continues delta inside new (before_next delta p) next left
turn delta inside front new before p more bytes next left is s e h ps rest k =
    let same : front ++ (p ∷ ps) ≡ new ++ ps = sym (append_assoc front (p ∷ []) ps) ∙ ap (λ (qs : List Position). qs ++ ps) (sym e) in
    let whole : PlainFront delta before more bytes (p ∷ ps) rest = subst (λ (m : Bool). PlainFront delta before m bytes (p ∷ ps) rest) (sym is) (step_front delta before p bytes next left ps rest s k) in
    subst (λ (qs : List Position). PlainFront delta origin true inside qs rest) same (h (p ∷ ps) rest whole)

nothing : (delta : Bool) (before : Position) (left : List ℕ) → PlainFront delta before false left [] left
unfolding positions
nothing delta before left = record { text = []; is = refl; reads = λ place. refl; ends = refl; spans = λ r. omega arith }

pub end : (delta : Bool) (inside : List ℕ) (front : List Position) (before : Position) (more : Bool) (left : List ℕ) → more ≡ false → Continues delta inside front before more left → PlainFront delta origin true inside front left
end delta inside front before more left is h =
    let last : PlainFront delta before more left [] left = subst (λ (m : Bool). PlainFront delta before m left [] left) (sym is) (nothing delta before left) in
    subst (λ (qs : List Position). PlainFront delta origin true inside qs left) (append-nil front) (h [] left last)

-- ---- an arc

opens_text : (text rest inside front : List ℕ) → text ≡ front ++ 93 ∷ [] → inside ≡ text ++ rest → inside ≡ 91 ∷ drop 1 inside → text ≡ 91 ∷ drop 1 text
opens_text [] rest inside front e is opens = absurd (omega (arith, ap length e, length-append front (93 ∷ [])))
opens_text (x ∷ xs) rest inside front e is opens =
    let starts : x ∷ (xs ++ rest) ≡ 91 ∷ drop 1 inside = sym is ∙ opens in
    let first : x ≡ 91 = cc in
    ap (λ (y : ℕ). y ∷ xs) first

inside_items : (place : ℕ) (text : List ℕ) → text ≡ 91 ∷ drop 1 text → items (record { at_byte = place; bytes = 91 ∷ text }) ≡ nodes_from true (place + 1) text
inside_items place text e = rw e refl

-- its text is read as its positions
pub arc_reads : (delta : Bool) (place : ℕ) (bytes : List ℕ) (ps : List Position) (rest : List ℕ) → (a : PlainArc delta bytes ps rest) → arc delta (record { at_byte = place; bytes = 91 ∷ a.front.text }) ≡ Ok ps
unfolding arc
arc_reads delta place bytes ps rest a =
    let text : List ℕ = a.front.text in
    let n : Node = record { at_byte = place; bytes = 91 ∷ text } in
    let begins : text ≡ 91 ∷ drop 1 text = opens_text text rest a.inside a.front.ends.0 a.front.ends.1 a.front.is a.opens in
    let found : positions delta origin (items n) ≡ Ok ps = subst (λ (ns : List Node). positions delta origin ns ≡ Ok ps) (sym (inside_items place text begins)) (a.front.reads (place + 1)) in
    rw (two_or_more (items n) (omega (arith, a.long, count delta origin (items n) ps found))) found

-- the bytes of a value that are an arc and no more
pub whole_reads : (delta : Bool) (n : Node) (bytes : List ℕ) (ps : List Position) (rest : List ℕ) → bytes ≡ n.bytes → length rest ≡ 0 → PlainArc delta bytes ps rest → arc delta n ≡ Ok ps
whole_reads delta n bytes ps rest is zero a =
    let text : List ℕ = a.front.text in
    let same : n.bytes ≡ 91 ∷ text = sym is ∙ a.is ∙ ap (λ (w : List ℕ). 91 ∷ w) (a.front.is ∙ ap (λ (w : List ℕ). text ++ w) (nil_from_length rest zero) ∙ append-nil text) in
    subst (λ (w : List ℕ). arc delta (record { at_byte = n.at_byte; bytes = w }) ≡ Ok ps) (sym same) (arc_reads delta n.at_byte bytes ps rest a)
