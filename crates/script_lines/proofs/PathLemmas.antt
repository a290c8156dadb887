-- A path is read position by position.
use Rattle.kit_words.proofs.Common.{◌≡◌, ◌≢◌, ℕ, ◌+◌, ◌≤◌, ◌<◌, refl, sym, ap, ◌∙◌, subst, List, [], ◌∷◌, ◌++◌, length}
use Rattle.kit_words.proofs.Common.{arith, append_assoc, AllByRecursion, all_joined}
use Rattle.std.proofs.Common.{append-nil, length-append}
use Rattle.std.proofs.lemmas.Grind.{flat_map-append}
use Rattle.grid_geometry.specs.Common.{Position, InRange}
use Rattle.script_lines.specs.Common.{spaced_position, spaced_path, EndsWord, IsPlace, IsPathTail}
use Rattle.script_lines.proofs.WordLemmas.{place_once}

-- ---- the first position of what is left

pub path_ends : (path : List Position) → EndsWord (spaced_path path)
path_ends [] = tt
path_ends (p ∷ ps) = refl

-- no position stands in front
abbrev pub NoPlace : List ℕ → Type 0
NoPlace rest = (p : Position) (tail : List ℕ) → ¬ IsPlace rest p tail

pub first_place : (p : Position) (ps : List Position) → AllByRecursion InRange (p ∷ ps) → IsPlace (spaced_path (p ∷ ps)) p (spaced_path ps)
first_place p ps h = record { whole = refl; ends = path_ends ps; range = h.0 }

-- where no position stands in front, none is left
none_left : (rest : List ℕ) (more : List Position) → NoPlace rest → rest ≡ spaced_path more → AllByRecursion InRange more → more ≡ []
none_left rest [] never e h = refl
none_left rest (p ∷ ps) never e h = absurd (never p (spaced_path ps) (subst (λ t. IsPlace t p (spaced_path ps)) (sym e) (first_place p ps h)))

-- what is left begins with the first position
record Begins (p : Position) (tail : List ℕ) (more : List Position) : Type 0 where
  others : List Position
  is : more ≡ p ∷ others
  left : tail ≡ spaced_path others

begins : (rest tail : List ℕ) (p : Position) (more : List Position) → IsPlace rest p tail → rest ≡ spaced_path more → AllByRecursion InRange more → Begins p tail more
begins rest tail p [] s e h = absurd (nothing (sym s.whole ∙ e))
  where
    nothing : spaced_position p ++ tail ≡ [] → ⊥
    nothing k = cc
begins rest tail p (q ∷ qs) s e h =
    let same = place_once rest tail (spaced_path qs) p q s (subst (λ t. IsPlace t q (spaced_path qs)) (sym e) (first_place q qs h)) in
    record { others = qs; is = ap (λ x. x ∷ qs) (sym same.0); left = same.1 }

ranges_behind : (front more : List Position) → AllByRecursion InRange (front ++ more) → AllByRecursion InRange more
ranges_behind [] more h = h
ranges_behind (p ∷ ps) more h = ranges_behind ps more h.1

-- one position more
longer : (front : List Position) (p : Position) → spaced_path (front ++ p ∷ []) ≡ spaced_path front ++ spaced_position p
longer front p = flat_map-append spaced_position front (p ∷ []) ∙ ap (λ t. spaced_path front ++ t) (append-nil (spaced_position p))

shifted : (front others more : List Position) (p : Position) → more ≡ p ∷ others → front ++ more ≡ (front ++ p ∷ []) ++ others
shifted front others more p e = ap (λ t. front ++ t) e ∙ sym (append_assoc front (p ∷ []) others)

-- ---- a path

-- the positions of a path from the rest on
record Onward (front : List Position) (rest : List ℕ) (path : List Position) : Type 0 where
  more : List Position
  is : path ≡ front ++ more
  left : rest ≡ spaced_path more

-- these positions were read, and the rest is left
pub record Read (bytes rest : List ℕ) (front : List Position) : Type 0 where
  whole : bytes ≡ spaced_path front ++ rest
  ranges : AllByRecursion InRange front
  pub below : length front ≤ 256
  only : (path : List Position) → IsPathTail bytes path → Onward front rest path

pub read_none : (bytes : List ℕ) → Read bytes bytes []
read_none bytes = record { whole = refl; ranges = tt; below = omega arith; only = λ path h. record { more = path; is = refl; left = h.whole } }

module _ (bytes rest : List ℕ) (front : List Position) (r : Read bytes rest front) where
  left_in_range : (path : List Position) → IsPathTail bytes path → (o : Onward front rest path) → AllByRecursion InRange o.more
  left_in_range path h o = ranges_behind front o.more (subst (λ t. AllByRecursion InRange t) o.is h.along.in_range)

  pub read_more : (tail : List ℕ) (p : Position) → IsPlace rest p tail → length front ≢ 256 → Read bytes tail (front ++ p ∷ [])
  read_more tail p s room = record {
    whole = r.whole ∙ ap (λ t. spaced_path front ++ t) s.whole ∙ sym (append_assoc (spaced_path front) (spaced_position p) tail) ∙ ap (λ t. t ++ tail) (sym (longer front p));
    ranges = all_joined InRange front (p ∷ []) r.ranges (s.range, tt);
    below = omega (arith, r.below, room, length-append front (p ∷ []));
    only = λ path h.
        let o = r.only path h in
        let b = begins rest tail p o.more s o.left (left_in_range path h o) in
        record { more = b.others; is = o.is ∙ shifted front b.others o.more p b.is; left = b.left };
  }

  -- after 256 positions stands one more
  pub too_many : (tail : List ℕ) (p : Position) → IsPlace rest p tail → length front ≡ 256 → (path : List Position) → ¬ IsPathTail bytes path
  too_many tail p s full path h =
      let o = r.only path h in
      let b = begins rest tail p o.more s o.left (left_in_range path h o) in
      let len : length path ≡ 256 + (1 + length b.others) = ap length (o.is ∙ ap (λ t. front ++ t) b.is) ∙ length-append front (p ∷ b.others) ∙ omega (arith, full) in
      absurd (omega (arith, len, h.along.most))

  -- the end: what was read is the path, or there is none
  pub read_all : rest ≡ [] → 2 ≤ length front → IsPathTail bytes front
  read_all none least = record {
    whole = r.whole ∙ ap (λ t. spaced_path front ++ t) none ∙ append-nil (spaced_path front);
    along = record { least = least; most = r.below; in_range = r.ranges };
  }

  pub whole_path : NoPlace rest → (path : List Position) → IsPathTail bytes path → (rest ≡ []) × (2 ≤ length front)
  whole_path never path h =
      let o = r.only path h in
      let none = none_left rest o.more never o.left (left_in_range path h o) in
      let same : path ≡ front = o.is ∙ ap (λ t. front ++ t) none ∙ append-nil front in
      (o.left ∙ ap spaced_path none, subst (λ t. 2 ≤ length t) same h.along.least)

-- what is left gets shorter
pub place_shorter : (rest tail : List ℕ) (p : Position) → IsPlace rest p tail → length tail < length rest
place_shorter rest tail p s =
    let len = ap length s.whole ∙ length-append (spaced_position p) tail in
    omega (arith, len)
