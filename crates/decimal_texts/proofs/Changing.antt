-- Coordinates and their new texts, one after another, as a loop makes them.
use Rattle.kit_words.proofs.Common.{◌≡◌, ℕ, ◌+◌, ◌<◌, ◌≤◌, List, [], ◌∷◌, ◌++◌, length, map, drop, get_or, refl, sym}
use Rattle.kit_words.proofs.Common.{ap, ◌∙◌, subst, append_assoc, ℤ, Result, Ok, Err, IsErrAnd, signed_decimal}
use Rattle.kit_words.proofs.Common.{append-nil, drop_all, next_drop}
use Rattle.json_spans.specs.Common.{Node, node}
use Rattle.json_spans.specs.declared.span.Span.{Span}
use Rattle.decimal_texts.specs.declared.fault.PointFault.{PointFault}
use Rattle.decimal_texts.specs.declared.fault.PointFault.TheVariants as fault
use Rattle.decimal_texts.specs.Common.{IsPointFault, AnswersAs, ok_then, all_or_fault, number_on_grid, new_text}

-- one fault stands for another
carry : {Y Z : Type 0} (e : PointFault) (r : Result Y PointFault) (s : Result Z PointFault) → ((f : PointFault) → r ≡ Err f → s ≡ Err f)
    → IsPointFault e r → IsPointFault e s
carry (fault.NotNumber place) r s h is = h _ is
carry (fault.OutOfRange place) r s h is = h _ is
carry fault.OutOfMemory r s h is = tt

-- a fault that is handed on
pub gives_fault : {X Y : Type 0} (view : X → Y) (e : PointFault) (result : Result X PointFault) (r : Result Y PointFault)
    → IsErrAnd result (λ o. o ≡ e) → IsPointFault e r → AnswersAs view result r
gives_fault view e (Ok x) r is h = absurd is
gives_fault view e (Err o) r is h = subst (λ (f : PointFault). IsPointFault f r) (sym is) h

-- ---- one coordinate

pub new_is : (digits finer : ℕ) (n : Node) (z : ℤ) → number_on_grid digits finer n ≡ Ok z
    → new_text digits finer n ≡ Ok (n, signed_decimal z)
unfolding new_text
new_is digits finer n z e = rw e refl

pub new_fails : (o : PointFault) (digits finer : ℕ) (n : Node) → IsPointFault o (number_on_grid digits finer n) → IsPointFault o (new_text digits finer n)
unfolding new_text
new_fails o digits finer n h = carry o (number_on_grid digits finer n) (new_text digits finer n) (λ f fx. rw fx refl) h

-- ---- one by one

abbrev pub with_front : {A : Type 0} → List A → Result (List A) PointFault → Result (List A) PointFault
with_front front r = ok_then r (λ xs. Ok (front ++ xs))

regroup : {A : Type 0} (front : List A) (p : A) (r : Result (List A) PointFault)
    → with_front front (ok_then r (λ ps. Ok (p ∷ ps))) ≡ with_front (front ++ p ∷ []) r
regroup {A = A} front p (Ok ps) = ap (λ (qs : List A). Ok qs) (sym (append_assoc front (p ∷ []) ps))
regroup front p (Err e) = refl

pub each_turn : {B : Type 0} (f : Node → Result B PointFault) (front : List B) (b : B) (xs : List Span) (i : ℕ) (a : Span)
    (whole : Result (List B) PointFault)
    → i < length xs → a ≡ get_or xs i a → f (node a) ≡ Ok b → with_front front (all_or_fault f (map node (drop i xs))) ≡ whole
    → with_front (front ++ b ∷ []) (all_or_fault f (map node (drop (i + 1) xs))) ≡ whole
each_turn f front b xs i a whole lt is fb h = sym (regroup front b (all_or_fault f (map node (drop (i + 1) xs)))) ∙ rw (next_drop xs i a lt is, fb) at h

pub each_stop : {B : Type 0} (o : PointFault) (f : Node → Result B PointFault) (front : List B) (xs : List Span) (i : ℕ) (a : Span)
    (whole : Result (List B) PointFault)
    → i < length xs → a ≡ get_or xs i a → IsPointFault o (f (node a)) → with_front front (all_or_fault f (map node (drop i xs))) ≡ whole
    → IsPointFault o whole
each_stop o f front xs i a whole lt is fo h = carry o (f (node a)) whole (λ x fx. sym (rw (next_drop xs i a lt is, fx) at h)) fo

pub each_end : {B : Type 0} (f : Node → Result B PointFault) (front : List B) (xs : List Span) (i : ℕ) (whole : Result (List B) PointFault)
    → length xs ≤ i → with_front front (all_or_fault f (map node (drop i xs))) ≡ whole → whole ≡ Ok front
each_end f front xs i whole le h = sym (rw (drop_all i xs le, append-nil front) at h)
