-- The edges of a ring off its run, by the positions where they begin.
use Rattle.kit_words.proofs.Common.{◌≡◌, ℕ, zero, suc, ◌+◌, ◌<◌, ◌≤◌, Bool, true, false, refl, sym, ap, ap₂, ◌∙◌, cond}
use Rattle.kit_words.proofs.Common.{List, [], ◌∷◌, ◌++◌, map, length, take, drop, get_or, drop_of_length-le, not, zip}
use Rattle.kit_words.proofs.Common.{filter, prefix_len, at_drop_more, map-append, length-map}
use Rattle.grid_geometry.specs.Common.{Position, Edge, edges}
use Rattle.ring_machine.specs.Common.{off_run}
use Rattle.ring_machine.proofs.Common.{edges_to, edges_is, starts}
use Rattle.ring_parts.specs.Common.{off_ones}
use Rattle.ring_parts.proofs.Lists.{map-take}

-- ---- the first that passes

pub off_turn : (bs : List Bool) (i : ℕ) (d : Bool) → i < length bs → prefix_len not (drop i bs) ≡ cond (not (get_or bs i d)) (1 + prefix_len not (drop (i + 1) bs)) 0
off_turn bs i d l = at_drop_more (prefix_len not) bs i d l

pub off_done : (bs : List Bool) (i : ℕ) → length bs ≤ i → prefix_len not (drop i bs) ≡ 0
off_done bs i l = ap (prefix_len not) (drop_of_length-le bs l)

-- ---- the whole rest

map-drop : {A B : Type 0} (of : A → B) (k : ℕ) (xs : List A) → map of (drop k xs) ≡ drop k (map of xs)
map-drop of zero xs = refl
map-drop of (suc k) [] = refl
map-drop of (suc k) (x ∷ xs) = map-drop of k xs

turned_map : {A B : Type 0} (of : A → B) (k : ℕ) (xs : List A) → map of (drop k xs ++ take k xs) ≡ drop k (map of xs) ++ take k (map of xs)
turned_map of k xs = map-append of (drop k xs) (take k xs) ∙ ap₂ (λ ys zs. ys ++ zs) (map-drop of k xs) (map-take of k xs)

module _ (c : Edge → Bool) where
  off_starts : (es : List Edge) → off_ones (map (λ e. e.0) es) (map c es) ≡ map (λ e. e.0) (filter (λ e. not (c e)) es)
  off_starts [] = refl
  off_starts (e ∷ es) = by (c e) (off_starts es)
    where
      by : (b : Bool) → off_ones (map (λ e. e.0) es) (map c es) ≡ map (λ e. e.0) (filter (λ e. not (c e)) es)
          → map (λ u. u.0) (cond (not b) ((e.0, b) ∷ filter (λ u. not u.1) (zip (map (λ f. f.0) es) (map c es))) (filter (λ u. not u.1) (zip (map (λ f. f.0) es) (map c es))))
          ≡ map (λ f. f.0) (cond (not b) (e ∷ filter (λ f. not (c f)) es) (filter (λ f. not (c f)) es))
      by true h = h
      by false h = ap (λ ps. e.0 ∷ ps) h

  same_place : (es : List Edge) → prefix_len (λ e. not (c e)) es ≡ prefix_len not (map c es)
  same_place [] = refl
  same_place (e ∷ es) = ap (λ n. cond (not (c e)) (1 + n) 0) (same_place es)

  -- each edge begins at a position of the ring, in their order
  ring_starts : (ring : List Position) → map (λ e. e.0) (edges ring) ≡ ring
  ring_starts [] = refl
  ring_starts (p ∷ ps) = ap starts (edges_is p ps) ∙ on p (p ∷ ps)
    where
      on : (q : Position) (qs : List Position) → starts (edges_to q qs) ≡ qs
      on q [] = refl
      on q (r ∷ rs) = ap (λ z. r ∷ z) (on q rs)

  pub rest_is : (ring begun : List Position) (bs turned : List Bool) (k : ℕ) → bs ≡ map c (edges ring) → k ≡ prefix_len not bs → turned ≡ drop k bs ++ take k bs → begun ≡ drop k ring ++ take k ring
      → off_ones begun turned ≡ map (λ e. e.0) (off_run c (edges ring))
  rest_is ring begun bs turned k is at t u =
      let es = edges ring in
      let place : k ≡ prefix_len (λ e. not (c e)) es = at ∙ ap (prefix_len not) is ∙ sym (same_place es) in
      ap₂ (λ xs ys. off_ones xs ys)
      (u ∙ ap (λ r. drop k r ++ take k r) (sym (ring_starts ring)) ∙ sym (turned_map (λ e. e.0) k es))
      (t ∙ ap (λ r. drop k r ++ take k r) is ∙ sym (turned_map c k es))
      ∙ off_starts (drop k es ++ take k es)
      ∙ ap (λ n. map (λ e. e.0) (filter (λ e. not (c e)) (drop n es ++ take n es))) place

  pub as_many : (ring : List Position) (bs : List Bool) → bs ≡ map c (edges ring) → length bs ≡ length ring
  as_many ring bs is = ap length is ∙ length-map (edges ring) c ∙ sym (length-map (edges ring) (λ e. e.0)) ∙ ap length (ring_starts ring)
