-- The ends of common edges, an edge at a time, and what is among them.
use Rattle.kit_words.proofs.Common.{◌≡◌, ℕ, ◌+◌, ◌<◌, ◌≤◌, Bool, true, false, refl, sym, ap, ap₂, ◌∙◌, cond, List, []}
use Rattle.kit_words.proofs.Common.{◌∷◌, ◌++◌, length, drop, get_or, append_assoc, drop_of_length-le, ◌&&◌, ◌||◌, not}
use Rattle.kit_words.proofs.Common.{is_gt, list_any, filter, at_drop_more, append-nil, reduce, Option}
use Rattle.grid_geometry.specs.Common.{Position, position_eq, position_lt, position_cmp, is_end, Edge, edges}
use Rattle.ring_machine.specs.Common.{has, segment_of, is_common, common_else}
use Rattle.ring_parts.specs.Common.{both_ends, run_ends}

-- the least of the positions that pass the test
abbrev pub least_that : (Position → Bool) → List Position → Option Position
least_that test ps = reduce (λ q p. cond (position_lt p q) p q) (filter test ps)

-- ---- an edge at a time

module _ (common : Edge → Bool) (ends : List Position) (es : List Edge) (i : ℕ) (e : Edge) (l : i < length es) (at : e ≡ get_or es i e) where
  here : run_ends common (drop i es) ≡ run_ends common (e ∷ drop (i + 1) es)
  here = at_drop_more (run_ends common) es i e l ∙ ap (λ f. run_ends common (f ∷ drop (i + 1) es)) (sym at)

  pub both_here : (one more : List Position) → common e ≡ true → one ≡ ends ++ e.0 ∷ [] → more ≡ one ++ e.1 ∷ []
      → more ++ run_ends common (drop (i + 1) es) ≡ ends ++ run_ends common (drop i es)
  both_here one more h f g =
      let left = run_ends common (drop (i + 1) es) in
      ap (λ ps. ps ++ left) g
      ∙ append_assoc one (e.1 ∷ []) left
      ∙ ap (λ ps. ps ++ e.1 ∷ left) f
      ∙ append_assoc ends (e.0 ∷ []) (e.1 ∷ left)
      ∙ sym (ap (λ ps. ends ++ ps) (here ∙ ap (λ b. both_ends (cond b (e ∷ filter common (drop (i + 1) es)) (filter common (drop (i + 1) es)))) h))

  pub none_here : common e ≡ false → ends ++ run_ends common (drop (i + 1) es) ≡ ends ++ run_ends common (drop i es)
  none_here h = sym (ap (λ ps. ends ++ ps) (here ∙ ap (λ b. both_ends (cond b (e ∷ filter common (drop (i + 1) es)) (filter common (drop (i + 1) es)))) h))

pub all_here : (common : Edge → Bool) (ends : List Position) (es : List Edge) (i : ℕ) → length es ≤ i → ends ++ run_ends common (drop i es) ≡ ends
all_here common ends es i l = ap (λ fs. ends ++ run_ends common fs) (drop_of_length-le es l) ∙ append-nil ends

pub ruleset end_steps = (both_here, none_here, all_here)

-- ---- what is among them

-- the ends of a segment are those of its edge
either_end : (p : Position) (e : Edge) → is_end p (segment_of e) ≡ (position_eq p e.0 || position_eq p e.1)
either_end p e = by (is_gt (position_cmp e.0 e.1))
  where
    swapped : (a b : Bool) → (a || b) ≡ (b || a)
    swapped true true = refl
    swapped true false = refl
    swapped false true = refl
    swapped false false = refl

    by : (b : Bool) → is_end p (cond b (record { lo = e.1; hi = e.0 }) (record { lo = e.0; hi = e.1 })) ≡ (position_eq p e.0 || position_eq p e.1)
    by true = swapped (position_eq p e.1) (position_eq p e.0)
    by false = refl

module _ (common : Edge → Bool) (p : Position) where
  either_first : (a b rest : Bool) → (a || (b || rest)) ≡ ((a || b) || rest)
  either_first true b rest = refl
  either_first false b rest = refl

  pub among_ends : (es : List Edge) → has (run_ends common es) p ≡ list_any (λ e. common e && is_end p (segment_of e)) es
  among_ends [] = refl
  among_ends (e ∷ es) = by (common e) (among_ends es)
    where
      by : (b : Bool) → has (run_ends common es) p ≡ list_any (λ f. common f && is_end p (segment_of f)) es
          → has (both_ends (cond b (e ∷ filter common es) (filter common es))) p ≡ ((b && is_end p (segment_of e)) || list_any (λ f. common f && is_end p (segment_of f)) es)
      by true h = either_first (position_eq p e.0) (position_eq p e.1) (has (run_ends common es) p) ∙ ap₂ (λ a b. a || b) (sym (either_end p e)) h
      by false h = h

-- the least position of both rings off the run, by the ends of the run
pub common_else_is : (r s : List Position) → least_that (λ p. has s p && not (has (run_ends (is_common s) (edges r)) p)) r ≡ common_else r s
common_else_is r s = λ i. least_that (λ p. has s p && not (among_ends (is_common s) p (edges r) i)) r
