-- The segments of a list.
use Rattle.kit_words.proofs.Common.{◌≡◌, Bool, true, sym, ap, ◌∙◌, List, [], ◌∷◌, ◌||◌, inl, inr, list_any, false≢true}
use Rattle.kit_words.proofs.Common.{or_cases, or_right}
use Rattle.grid_geometry.specs.Common.{Segment}
use Rattle.ring_machine.proofs.Common.{In, any_in, in_any, same_answer}
use Rattle.segment_index.specs.Common.{has, segment_is}
use Rattle.segment_index.proofs.Common.{same_segment, is-itself}

pub in-has : (ss : List Segment) (t : Segment) → has ss t ≡ true → In t ss
in-has [] t h = absurd (false≢true h)
in-has (s ∷ ss) t h = elim (or_cases (segment_is t s) (has ss t) h) [
  | inl e ↦ inl (sym (same_segment t s e))
  | inr k ↦ inr (in-has ss t k)
]

pub has-in : (ss : List Segment) (t : Segment) → In t ss → has ss t ≡ true
has-in [] t i = absurd i
has-in (s ∷ ss) t (inl e) = ap (λ b. b || has ss t) (ap (segment_is t) e ∙ is-itself t)
has-in (s ∷ ss) t (inr i) = or_right (segment_is t s) (has ss t) (has-in ss t i)

-- two tests that pass the same of two lists
pub same_any : (f g : Segment → Bool) (ss ts : List Segment)
    → ((t : Segment) → has ss t ≡ true → f t ≡ true → (has ts t ≡ true) × (g t ≡ true))
    → ((t : Segment) → has ts t ≡ true → g t ≡ true → (has ss t ≡ true) × (f t ≡ true))
    → list_any f ss ≡ list_any g ts
same_any f g ss ts to from = same_answer _ _ (goes f g ss ts to) (goes g f ts ss from)
  where
    goes : (f g : Segment → Bool) (ss ts : List Segment)
        → ((t : Segment) → has ss t ≡ true → f t ≡ true → (has ts t ≡ true) × (g t ≡ true))
        → list_any f ss ≡ true → list_any g ts ≡ true
    goes f g ss ts to h =
        let t = any_in f ss h in
        let k = to t.0 (has-in ss t.0 t.1) t.2 in
        in_any g t.0 ts (in-has ts t.0 k.0) k.1
