-- Ways and rings whose places are marked, cut at their marks.
use Rattle.kit_words.proofs.Common.{◌≡◌, ℕ, zero, suc, ◌+◌, ◌<◌, Bool, true, false, refl, sym, ap, ◌∙◌, List, [], ◌∷◌}
use Rattle.kit_words.proofs.Common.{◌++◌, ◌||◌, if◌then◌else◌, map, take, drop, length, get_or, arith, append_assoc}
use Rattle.kit_words.proofs.Common.{pos, drop_more, take_more, map-append, drop-map, take-map, get_or-map, length-map}
use Rattle.std.proofs.Common.{append-nil}
use Rattle.grid_geometry.specs.Common.{Position, position}
use Rattle.map_text.specs.Common.{begun, from_first, before_first}
use Rattle.topo_writer.specs.Common.{at_place, is_done, cut_after}

-- before the end
pub not_end : (way : List Position) (n : ℕ) → n < length way → is_done (drop n way) ≡ false
not_end [] n l = absurd (omega (arith, l))
not_end (p ∷ ps) zero l = refl
not_end (p ∷ ps) (suc n) l = not_end ps n (omega (arith, l))

-- the mark of a place
pub mark_at : (junction : Position → Bool) (ps : List Position) (marks : List Bool) (i : ℕ) → marks ≡ map junction ps
    → i < length marks → get_or marks i false ≡ junction (at_place ps i)
mark_at junction ps marks i e l =
    ap (λ z. get_or z i false) e
    ∙ get_or-map junction ps i (position (pos 0) (pos 0)) false (omega (arith, l, ap length e, length-map ps junction))

-- one place more of a way
pub cut_step : (junction : Position → Bool) (way piece piece' : List Position) (done done' : List (List Position)) (i : ℕ)
    (ends : Bool) → i < length way → ends ≡ (is_done (drop (i + 1) way) || junction (at_place way i))
    → done' ≡ done ++ (if ends then ((piece ++ at_place way i ∷ []) ∷ []) else [])
    → piece' ≡ (if ends then (at_place way i ∷ []) else (piece ++ at_place way i ∷ []))
    → done' ++ cut_after junction piece' (drop (i + 1) way) ≡ done ++ cut_after junction piece (drop i way)
cut_step junction way piece piece' done done' i ends l is d p =
    ap (λ z. z ++ cut_after junction piece' rest) d
    ∙ ap (λ z. (done ++ (if ends then ((piece ++ at_place way i ∷ []) ∷ []) else [])) ++ cut_after junction z rest) p
    ∙ by_ends ends is ∙ ap (λ z. done ++ cut_after junction piece z) (sym (drop_more way i (position (pos 0) (pos 0)) l))
  where
    rest : List Position
    rest = drop (i + 1) way

    x : Position
    x = at_place way i

    by_ends : (e : Bool) → e ≡ (is_done rest || junction x)
        → (done ++ (if e then ((piece ++ x ∷ []) ∷ []) else [])) ++ cut_after junction (if e then (x ∷ []) else (piece ++ x ∷ [])) rest
        ≡ done ++ cut_after junction piece (x ∷ rest)
    by_ends true h =
        append_assoc done ((piece ++ x ∷ []) ∷ []) (cut_after junction (x ∷ []) rest)
        ∙ ap (λ b. done ++ (if b then ((piece ++ x ∷ []) ∷ cut_after junction (x ∷ []) rest) else cut_after junction (piece ++ x ∷ []) rest)) h
    by_ends false h =
        ap (λ z. z ++ cut_after junction (piece ++ x ∷ []) rest) (append-nil done)
        ∙ ap (λ b. done ++ (if b then ((piece ++ x ∷ []) ∷ cut_after junction (x ∷ []) rest) else cut_after junction (piece ++ x ∷ []) rest)) h

-- a place without a mark is passed
pub from_more : (junction : Position → Bool) (ring : List Position) (i : ℕ) → i < length ring → junction (at_place ring i) ≡ false
    → from_first junction (drop i ring) ≡ from_first junction (drop (i + 1) ring)
from_more junction ring i l f =
    ap (from_first junction) (drop_more ring i (position (pos 0) (pos 0)) l)
    ∙ ap (λ b. if b then (at_place ring i ∷ drop (i + 1) ring) else from_first junction (drop (i + 1) ring)) f

pub before_more : (junction : Position → Bool) (ring : List Position) (i : ℕ) → i < length ring → junction (at_place ring i) ≡ false
    → take i ring ++ before_first junction (drop i ring) ≡ take (i + 1) ring ++ before_first junction (drop (i + 1) ring)
before_more junction ring i l f =
    ap (λ z. take i ring ++ before_first junction z) (drop_more ring i (position (pos 0) (pos 0)) l)
    ∙ ap (λ b. take i ring ++ (if b then [] else (at_place ring i ∷ before_first junction (drop (i + 1) ring)))) f
    ∙ sym (append_assoc (take i ring) (at_place ring i ∷ []) (before_first junction (drop (i + 1) ring)))
    ∙ ap (λ z. z ++ before_first junction (drop (i + 1) ring)) (sym (take_more ring i (position (pos 0) (pos 0)) l))

-- the first mark is found
pub begun_at : (junction : Position → Bool) (ring : List Position) (i : ℕ) → i < length ring → junction (at_place ring i) ≡ true
    → from_first junction ring ≡ from_first junction (drop i ring)
    → before_first junction ring ≡ take i ring ++ before_first junction (drop i ring)
    → begun junction ring ≡ drop i ring ++ take i ring
begun_at junction ring i l t from before =
    ap (λ z. z ++ before_first junction ring) (from ∙ first)
    ∙ ap (λ z. drop i ring ++ z) (before ∙ ap (λ z. take i ring ++ z) none ∙ append-nil (take i ring))
  where
    more : drop i ring ≡ at_place ring i ∷ drop (i + 1) ring
    more = drop_more ring i (position (pos 0) (pos 0)) l

    first : from_first junction (drop i ring) ≡ drop i ring
    first = ap (from_first junction) more
        ∙ ap (λ b. if b then (at_place ring i ∷ drop (i + 1) ring) else from_first junction (drop (i + 1) ring)) t ∙ sym more

    none : before_first junction (drop i ring) ≡ []
    none = ap (before_first junction) more
        ∙ ap (λ b. if b then [] else (at_place ring i ∷ before_first junction (drop (i + 1) ring))) t

-- the marks of the way round
pub round_marks : (junction : Position → Bool) (ring : List Position) (n : ℕ)
    → (drop n (map junction ring) ++ take n (map junction ring)) ++ take 1 (drop n (map junction ring))
    ≡ map junction ((drop n ring ++ take n ring) ++ take 1 (drop n ring))
round_marks junction ring n =
    ap (λ z. (z ++ take n (map junction ring)) ++ take 1 z) (drop-map junction n ring)
    ∙ ap (λ z. (map junction (drop n ring) ++ z) ++ take 1 (map junction (drop n ring))) (take-map junction n ring)
    ∙ ap (λ z. (map junction (drop n ring) ++ map junction (take n ring)) ++ z) (take-map junction 1 (drop n ring))
    ∙ ap (λ z. z ++ map junction (take 1 (drop n ring))) (sym (map-append junction (drop n ring) (take n ring)))
    ∙ sym (map-append junction (drop n ring ++ take n ring) (take 1 (drop n ring)))

-- the place that the way round begins at
pub round_start : (ring : List Position) (n : ℕ) → n < length ring → take 1 (drop n ring) ≡ at_place ring n ∷ []
round_start ring n l = ap (take 1) (drop_more ring n (position (pos 0) (pos 0)) l)
