-- Lists, and what holds of all their elements.
use Rattle.std.proofs.Common.{◌≡◌, ℕ, ◌+◌, ◌-◌, ◌<◌, sym, ap, ◌∙◌, List, [], ◌∷◌, ◌++◌, map, take, get_or, length, ◌≤◌, ap₂}
use Rattle.std.proofs.Common.{drop, arith, suc, add-one, drop-cons, Bool, true, false, refl, cond, ◌||◌, nat_lt}
use Rattle.std.proofs.lemmas.List.{take_more, map-append, append-nil, take_all}
use Rattle.std.proofs.lemmas.List.Concat.{flat_map-append}
use Rattle.std.specs.List.{flat_map, AllByRecursion, AllZip, list_any, filter}
use Rattle.kit_words.proofs.Tests.{suc_positive}

-- one more mapped element
pub mapped_more : {A B : Type 0} (of : A → B) (xs : List A) (i : ℕ) (x : A) → i < length xs → x ≡ get_or xs i x → map of (take (i + 1) xs) ≡ map of (take i xs) ++ of x ∷ []
mapped_more of xs i x l e = ap (map of) (take_more xs i x l ∙ ap (λ z. take i xs ++ z ∷ []) (sym e)) ∙ map-append of (take i xs) (x ∷ [])

pub flat_mapped_more : {A B C : Type 0} (f : B → List C) (of : A → B) (xs : List A) (i : ℕ) (x : A) → i < length xs → x ≡ get_or xs i x
    → flat_map f (map of (take (i + 1) xs)) ≡ flat_map f (map of (take i xs)) ++ f (of x)
flat_mapped_more f of xs i x l e =
    ap (flat_map f) (mapped_more of xs i x l e) ∙ flat_map-append f (map of (take i xs)) (of x ∷ [])
    ∙ ap (λ z. flat_map f (map of (take i xs)) ++ z) (append-nil (f (of x)))

pub all_front : {X : Type 0} (P : X → Type 0) (xs ys : List X) → AllByRecursion P (xs ++ ys) → AllByRecursion P xs
all_front P [] ys h = tt
all_front P (x ∷ xs) ys h = (h.0, all_front P xs ys h.1)

pub all_back : {X : Type 0} (P : X → Type 0) (xs ys : List X) → AllByRecursion P (xs ++ ys) → AllByRecursion P ys
all_back P [] ys h = h
all_back P (x ∷ xs) ys h = all_back P xs ys h.1

pub all_joined : {A : Type 0} (P : A → Type 0) (xs ys : List A) → AllByRecursion P xs → AllByRecursion P ys → AllByRecursion P (xs ++ ys)
all_joined P [] ys h k = k
all_joined P (x ∷ xs) ys h k = (h.0, all_joined P xs ys h.1 k)

-- a list is its first element and the others
pub list_is : {A : Type 0} (xs : List A) (first : A) → 1 ≤ length xs → first ≡ get_or xs 0 first → first ∷ take (length xs - 1) (drop 1 xs) ≡ xs
list_is [] first l e = absurd (omega arith)
list_is (x ∷ xs) first l e = ap₂ (λ (y : _) (ys : List _). y ∷ ys) e (take_all (length (x ∷ xs) - 1) xs (omega arith))

-- what is left begins with the one that is reached
pub next_drop : {A : Type 0} (xs : List A) (i : ℕ) (a : A) → i < length xs → a ≡ get_or xs i a → drop i xs ≡ a ∷ drop (i + 1) xs
next_drop {A = A} xs i a lt is = drop-cons xs i a lt ∙ rw (add-one i) (ap (λ (b : A). b ∷ drop (suc i) xs) (sym is))

pub zip_joined : {A B : Type 0} (R : A → B → Type 0) (xs xs' : List A) (ys ys' : List B)
    → AllZip R xs ys → AllZip R xs' ys' → AllZip R (xs ++ xs') (ys ++ ys')
zip_joined R [] xs' [] ys' h k = k
zip_joined R [] xs' (y ∷ ys) ys' h k = absurd h
zip_joined R (x ∷ xs) xs' [] ys' h k = absurd h
zip_joined R (x ∷ xs) xs' (y ∷ ys) ys' h k = (h.0, zip_joined R xs xs' ys ys' h.1 k)

-- a filter keeps none where no element passes, and else one or more
pub kept_any : {A : Type 0} (test : A → Bool) (xs : List A)
    → nat_lt 0 (length (filter test xs)) ≡ list_any test xs
kept_any test [] = refl
kept_any test (x ∷ xs) = by (test x) (kept_any test xs)
  where
    by : (t : Bool) → nat_lt 0 (length (filter test xs)) ≡ list_any test xs
        → nat_lt 0 (length (cond t (x ∷ filter test xs) (filter test xs))) ≡ (t || list_any test xs)
    by true h = suc_positive (length (filter test xs))
    by false h = h

pub nothing_left : {X : Type 0} (xs : List X) (n : ℕ) → n ≡ length xs → n ≡ 0 → xs ≡ []
nothing_left [] n e z = refl
nothing_left (x ∷ xs) n e z = absurd (omega arith)

pub all_weaker : {A : Type 0} (P Q : A → Type 0) → ((x : A) → P x → Q x) → (xs : List A) → AllByRecursion P xs → AllByRecursion Q xs
all_weaker P Q f [] h = tt
all_weaker P Q f (x ∷ xs) h = (f x h.0, all_weaker P Q f xs h.1)
