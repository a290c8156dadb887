-- Texts with commas between them, one after another.
use Rattle.kit_words.proofs.Common.{◌≡◌, ℕ, suc, ◌+◌, ◌<◌, ◌≤◌, length, take, take_all, ap₂, List, [], ◌∷◌, ◌++◌, map}
use Rattle.kit_words.proofs.Common.{refl, sym, ap, ◌∙◌, arith, append_assoc, get_or, codes, nat_lt, map-append}
use Rattle.kit_words.proofs.Common.{take_more, flat_map-append, appended_three, suc_positive}
use Rattle.std.proofs.Common.{append-nil}
use Rattle.ring_machine.specs.Common.{Text}
use Rattle.map_text.specs.Common.{further, commas, comma_if}
use Rattle.walk_faults.specs.Common.{flat_map_at}
use Rattle.place_text.proofs.Numbered.{each_next, so_many}

-- one text more, after a comma where something stands before
pub commas_next : (ts : List Text) (t : Text) → commas (ts ++ t ∷ []) ≡ commas ts ++ (comma_if (nat_lt 0 (length ts)) ++ t)
commas_next [] t = append-nil t
commas_next (u ∷ us) t =
    ap (λ z. u ++ z) (flat_map-append (λ v. codes "," ++ v) us (t ∷ []) ∙ ap (λ z. further us ++ z) (append-nil (codes "," ++ t)))
    ∙ sym (append_assoc u (further us) (codes "," ++ t))
    ∙ ap (λ b. (u ++ further us) ++ (comma_if b ++ t)) (sym (suc_positive (length us)))

-- the text before, with one more after those so far
next_text : (ts next : List Text) (t : Text) (i : ℕ) → next ≡ ts ++ t ∷ [] → length ts ≡ i
    → (o now mid end : Text) → now ≡ o ++ commas ts → mid ≡ now ++ comma_if (nat_lt 0 i) → end ≡ mid ++ t → end ≡ o ++ commas next
next_text ts next t i e n o now mid end p q r =
    r ∙ ap (λ z. z ++ t) (q ∙ ap (λ z. z ++ comma_if (nat_lt 0 i)) p)
    ∙ append_assoc (o ++ commas ts) (comma_if (nat_lt 0 i)) t ∙ append_assoc o (commas ts) (comma_if (nat_lt 0 i) ++ t)
    ∙ ap (λ k. o ++ (commas ts ++ (comma_if (nat_lt 0 k) ++ t))) (sym n)
    ∙ ap (λ z. o ++ z) (sym (commas_next ts t)) ∙ ap (λ z. o ++ commas z) (sym e)

length-map' : {A B : Type 0} (f : A → B) (xs : List A) → length (map f xs) ≡ length xs
length-map' f [] = refl
length-map' f (x ∷ xs) = ap suc (length-map' f xs)

-- one element more, as f tells it
pub map_step : {A : Type 0} (f : A → Text) (xs : List A) (i : ℕ) (x : A) → i < length xs → x ≡ get_or xs i x
    → (o now mid end : Text) → now ≡ o ++ commas (map f (take i xs)) → mid ≡ now ++ comma_if (nat_lt 0 i) → end ≡ mid ++ f x
    → end ≡ o ++ commas (map f (take (i + 1) xs))
map_step f xs i x l e =
    next_text (map f (take i xs)) (map f (take (i + 1) xs)) (f x) i
    (ap (map f) (take_more xs i x l ∙ ap (λ z. take i xs ++ z ∷ []) (sym e)) ∙ map-append f (take i xs) (x ∷ []))
    (length-map' f (take i xs) ∙ so_many xs i l)

length-each : {A B : Type 0} (f : ℕ → A → B) (k : ℕ) (xs : List A) → length (flat_map_at (λ n x. f n x ∷ []) k xs) ≡ length xs
length-each f k [] = refl
length-each f k (x ∷ xs) = ap suc (length-each f (suc k) xs)

-- one element more, as f tells it with its number
pub each_step : {A : Type 0} (f : ℕ → A → Text) (xs : List A) (i : ℕ) (x : A) → i < length xs → x ≡ get_or xs i x
    → (o now mid end : Text) → now ≡ o ++ commas (flat_map_at (λ n y. f n y ∷ []) 0 (take i xs)) → mid ≡ now ++ comma_if (nat_lt 0 i) → end ≡ mid ++ f i x
    → end ≡ o ++ commas (flat_map_at (λ n y. f n y ∷ []) 0 (take (i + 1) xs))
each_step f xs i x l e =
    next_text (flat_map_at (λ n y. f n y ∷ []) 0 (take i xs)) (flat_map_at (λ n y. f n y ∷ []) 0 (take (i + 1) xs)) (f i x) i
    (each_next (λ n y. f n y ∷ []) xs i x l e) (length-each f 0 (take i xs) ∙ so_many xs i l)

pub map_twice : {A B C : Type 0} (f : B → C) (g : A → B) (xs : List A) → map f (map g xs) ≡ map (λ x. f (g x)) xs
map_twice f g [] = refl
map_twice f g (x ∷ xs) = ap (λ z. f (g x) ∷ z) (map_twice f g xs)

-- elements that are seen as others give what those give
pub each_map : {A B : Type 0} (f : ℕ → B → Text) (g : A → B) (k : ℕ) (xs : List A)
    → flat_map_at (λ n y. f n y ∷ []) k (map g xs) ≡ flat_map_at (λ n x. f n (g x) ∷ []) k xs
each_map f g k [] = refl
each_map f g k (x ∷ xs) = ap (λ z. f k (g x) ∷ z) (each_map f g (suc k) xs)

-- where the numbers do not matter, each element gives what it gives alone
pub each_is_map : {A B : Type 0} (f : A → B) (k : ℕ) (xs : List A) → flat_map_at (λ n x. f x ∷ []) k xs ≡ map f xs
each_is_map f k [] = refl
each_is_map f k (x ∷ xs) = ap (λ z. f x ∷ z) (each_is_map f (suc k) xs)

-- and where they are counted from nought, they are its own
pub each_from_nought : {A B : Type 0} (f : ℕ → A → B) (k : ℕ) (xs : List A)
    → flat_map_at (λ n x. f (0 + n) x ∷ []) k xs ≡ flat_map_at (λ n x. f n x ∷ []) k xs
each_from_nought f k [] = refl
each_from_nought {B = B} f k (x ∷ xs) =
    let e : 0 + k ≡ k = omega arith in
    ap₂ (λ (y : B) (ys : List B). y ∷ ys) (ap (λ n. f n x) e) (each_from_nought f (suc k) xs)

-- a text of all elements, and the end of a collection
pub collected : {A : Type 0} (f : ℕ → A → Text) (xs : List A) (i : ℕ) → length xs ≤ i → (old head now new : Text)
    → now ≡ (old ++ head) ++ commas (flat_map_at (λ n x. f n x ∷ []) 0 (take i xs)) → new ≡ now ++ codes "]}"
    → new ≡ old ++ (head ++ ((commas (flat_map_at (λ n x. f n x ∷ []) 0 xs) ++ codes "]") ++ codes "}"))
collected f xs i l old head now new p q =
    let texts : Text = commas (flat_map_at (λ n x. f n x ∷ []) 0 xs) in
    appended_three old head texts (codes "]}") (old ++ head) now new refl
    (p ∙ ap (λ z. (old ++ head) ++ commas (flat_map_at (λ n x. f n x ∷ []) 0 z)) (take_all i xs l)) q
    ∙ ap (λ z. old ++ (head ++ z)) (sym (append_assoc texts (codes "]") (codes "}")))
