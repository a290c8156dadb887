-- Reading one after another, as a loop does.
use Rattle.kit_words.proofs.Common.{◌+◌, suc, ◌<◌, length, get_or, drop, map, drop-cons, add-one, ◌≡◌, ℕ, List, [], ◌∷◌}
use Rattle.kit_words.proofs.Common.{◌++◌, refl, sym, ap, ◌∙◌, append_assoc, Result, Ok, Err}
use Rattle.topo_outline.specs.Common.{Fails, OpenFault, Fault, ◌>>=◌, each, each_at}
use Rattle.topo_outline.specs.declared.fault.Limit.TheVariants as limit
use Rattle.topo_outline.specs.declared.fault.OpenFault.TheVariants as open_fault

abbrev pub with_front : {A : Type 0} → List A → Result (List A) Fault → Result (List A) Fault
with_front front r = r >>= λ xs. Ok (front ++ xs)

-- one fault stands for another
pub carry : {Y Z : Type 0} (e : OpenFault) (r : Result Y Fault) (s : Result Z Fault) → ((f : Fault) → r ≡ Err f → s ≡ Err f) → Fails e r → Fails e s
carry (open_fault.NotJson place) r s h is = absurd is
carry (open_fault.Conflict p q) r s h is = absurd is
carry (open_fault.TooLarge limit.Bytes) r s h is = absurd is
carry open_fault.OutOfMemory r s h is = tt
carry _ r s h is = h _ is

pub regroup : {A : Type 0} (front : List A) (p : A) (r : Result (List A) Fault) → with_front front (r >>= λ ps. Ok (p ∷ ps)) ≡ with_front (front ++ p ∷ []) r
regroup {A = A} front p (Ok ps) = ap (λ (qs : List A). Ok qs) (sym (append_assoc front (p ∷ []) ps))
regroup front p (Err e) = refl

-- ---- one by one

pub each_turn : {A B : Type 0} (f : A → Result B Fault) (front : List B) (b : B) (a : A) (as' left : List A) (whole : Result (List B) Fault) → left ≡ a ∷ as' → f a ≡ Ok b → with_front front (each f left) ≡ whole → with_front (front ++ b ∷ []) (each f as') ≡ whole
each_turn f front b a as' left whole e is h = sym (regroup front b (each f as')) ∙ rw (e, is) at h

-- ---- one by one, with numbers

pub tail_at : {A : Type 0} (a : A) (xs : List A) (i : ℕ) → i < length xs → a ≡ get_or xs i a → drop i xs ≡ a ∷ drop (i + 1) xs
tail_at {A = A} a xs i lt is = drop-cons xs i a lt ∙ rw add-one (ap (λ (b : A). b ∷ drop (suc i) xs) (sym is))

pub each_at_turn : {A B C : Type 0} (f : ℕ → B → Result C Fault) (v : A → B) (front : List C) (c : C) (xs : List A) (i : ℕ) (a : A) (whole : Result (List C) Fault) → i < length xs → a ≡ get_or xs i a → f i (v a) ≡ Ok c → with_front front (each_at f i (map v (drop i xs))) ≡ whole → with_front (front ++ c ∷ []) (each_at f (i + 1) (map v (drop (i + 1) xs))) ≡ whole
each_at_turn f v front c xs i a whole lt is fc h =
    let gone : drop i xs ≡ a ∷ drop (i + 1) xs = tail_at a xs i lt is in
    sym (regroup front c (each_at f (i + 1) (map v (drop (i + 1) xs)))) ∙ rw (gone, fc) at h

pub each_at_stop : {A B C : Type 0} (o : OpenFault) (f : ℕ → B → Result C Fault) (v : A → B) (front : List C) (xs : List A) (i : ℕ) (a : A) (whole : Result (List C) Fault) → i < length xs → a ≡ get_or xs i a → Fails o (f i (v a)) → with_front front (each_at f i (map v (drop i xs))) ≡ whole → Fails o whole
each_at_stop o f v front xs i a whole lt is fc h =
    let gone : drop i xs ≡ a ∷ drop (i + 1) xs = tail_at a xs i lt is in
    carry o (f i (v a)) whole (λ x fx. sym (rw (gone, fx) at h)) fc

pub each_drop_turn : {A B C : Type 0} (f : B → Result C Fault) (v : A → B) (front : List C) (c : C) (xs : List A) (i : ℕ) (a : A) (whole : Result (List C) Fault) → i < length xs → a ≡ get_or xs i a → f (v a) ≡ Ok c → with_front front (each f (map v (drop i xs))) ≡ whole → with_front (front ++ c ∷ []) (each f (map v (drop (i + 1) xs))) ≡ whole
each_drop_turn f v front c xs i a whole lt is fc h =
    let gone : drop i xs ≡ a ∷ drop (i + 1) xs = tail_at a xs i lt is in
    sym (regroup front c (each f (map v (drop (i + 1) xs)))) ∙ rw (gone, fc) at h
