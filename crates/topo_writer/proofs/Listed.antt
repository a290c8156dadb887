-- Texts with commas between them, one after another.
use Rattle.kit_words.proofs.Common.{◌≡◌, ℕ, zero, suc, ◌+◌, ◌<◌, length, take, List, [], ◌∷◌, ◌++◌, map, sym, ap, ap₂}
use Rattle.kit_words.proofs.Common.{◌∙◌, arith, append_assoc, get_or, Bool, codes, nat_lt, append-nil, map-append}
use Rattle.kit_words.proofs.Common.{take_more, map-map, suc_positive}
use Rattle.grid_geometry.specs.Common.{Position}
use Rattle.ring_machine.specs.Common.{Text}
use Rattle.map_text.specs.Common.{indexes, arc_text, further, commas, comma_if, ring_text}
use Rattle.map_text.proofs.Common.{further_push}
use Rattle.topo_writer.specs.Common.{listed_arcs, written_rings, written_polygon}

-- one more item, after a comma where something stands before
pub commas_step : {A : Type 0} (f : A → Text) (xs : List A) (i : ℕ) (x : A) → i < length xs → x ≡ get_or xs i x
    → commas (map f (take (i + 1) xs)) ≡ commas (map f (take i xs)) ++ (comma_if (nat_lt 0 i) ++ f x)
commas_step f [] i x h e = absurd (omega (arith, h))
commas_step f (y ∷ ys) zero x h e = append-nil (f y) ∙ ap f (sym e)
commas_step f (y ∷ ys) (suc i) x h e =
    ap (λ z. commas (map f z)) (take_more (y ∷ ys) (suc i) x h ∙ ap (λ z. take (suc i) (y ∷ ys) ++ z ∷ []) (sym e))
    ∙ ap (λ z. f y ++ further z) (map-append f (take i ys) (x ∷ []))
    ∙ ap (λ z. f y ++ z) (further_push (map f (take i ys)) (f x))
    ∙ sym (append_assoc (f y) (further (map f (take i ys))) (codes "," ++ f x))
    ∙ ap (λ b. (f y ++ further (map f (take i ys))) ++ (comma_if b ++ f x)) (sym (suc_positive i))

-- the text before, with one more item
pub items_step : {A : Type 0} (f : A → Text) (xs : List A) (i : ℕ) (x : A) → i < length xs → x ≡ get_or xs i x
    → (o now mid end : Text) → now ≡ o ++ commas (map f (take i xs)) → mid ≡ now ++ comma_if (nat_lt 0 i) → end ≡ mid ++ f x
    → end ≡ o ++ commas (map f (take (i + 1) xs))
items_step f xs i x h e o now mid end p q r =
    r ∙ ap (λ z. z ++ f x) (q ∙ ap (λ z. z ++ comma_if (nat_lt 0 i)) p)
    ∙ append_assoc (o ++ commas (map f (take i xs))) (comma_if (nat_lt 0 i)) (f x)
    ∙ append_assoc o (commas (map f (take i xs))) (comma_if (nat_lt 0 i) ++ f x)
    ∙ ap (λ z. o ++ z) (sym (commas_step f xs i x h e))

-- one more item after all of them
pub commas_push : {A : Type 0} (f : A → Text) (xs : List A) (x : A)
    → commas (map f (xs ++ x ∷ [])) ≡ commas (map f xs) ++ (comma_if (nat_lt 0 (length xs)) ++ f x)
commas_push f [] x = append-nil (f x)
commas_push f (y ∷ ys) x =
    ap (λ z. f y ++ further z) (map-append f ys (x ∷ []))
    ∙ ap (λ z. f y ++ z) (further_push (map f ys) (f x))
    ∙ sym (append_assoc (f y) (further (map f ys)) (codes "," ++ f x))
    ∙ ap (λ b. (f y ++ further (map f ys)) ++ (comma_if b ++ f x)) (sym (suc_positive (length ys)))

-- one more arc after all of them
pub listed_push : (delta : Bool) (arcs : List (List Position)) (piece : List Position) (count : ℕ) (old mid new : Text)
    → count ≡ length arcs → old ≡ listed_arcs delta arcs → mid ≡ old ++ comma_if (nat_lt 0 count) → new ≡ mid ++ arc_text delta piece
    → new ≡ listed_arcs delta (arcs ++ piece ∷ [])
listed_push delta arcs piece count old mid new c e p q =
    q ∙ ap (λ z. z ++ arc_text delta piece) p ∙ append_assoc old (comma_if (nat_lt 0 count)) (arc_text delta piece)
    ∙ ap₂ (λ z n. z ++ (comma_if (nat_lt 0 n) ++ arc_text delta piece)) e c ∙ sym (commas_push (arc_text delta) arcs piece)

-- a polygon is the list of its written rings
pub polygon_is : (j : Position → Bool) (arcs polygon : List (List Position))
    → codes "[" ++ (written_rings j arcs polygon ++ codes "]") ≡ written_polygon j arcs polygon
polygon_is j arcs polygon = ap (λ z. codes "[" ++ (commas z ++ codes "]")) (sym (map-map ring_text (indexes j arcs) polygon))

-- a text between brackets
pub bracketed : (o w a b c : Text) → a ≡ o ++ codes "[" → b ≡ a ++ w → c ≡ b ++ codes "]" → c ≡ o ++ (codes "[" ++ (w ++ codes "]"))
bracketed o w a b c p q r =
    r ∙ ap (λ z. z ++ codes "]") (q ∙ ap (λ z. z ++ w) p) ∙ append_assoc (o ++ codes "[") w (codes "]") ∙ append_assoc o (codes "[") (w ++ codes "]")
