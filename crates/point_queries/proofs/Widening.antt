-- Boxes that have all that others have.
use Rattle.kit_words.proofs.Common.{◌≡◌, Bool, true, false, cond, ◌&&◌, refl, subst, ap, ◌∙◌, int_le, Option, None}
use Rattle.kit_words.proofs.Common.{Some, IsNone, IfSome, int_min, int_max, is_gt, le_itself, min_left, max_left}
use Rattle.std.proofs.Common.{unwrap_or}
use Rattle.grid_geometry.specs.Common.{Position, position, position_cmp, Segment, segment}
use Rattle.point_queries.specs.Common.{is_within_diagonal, IsWider}
use Rattle.point_queries.proofs.Coordinates.{min_right, max_right, all_one}

four : (a b c d : Bool) → ((a && b) && (c && d)) ≡ true → (a ≡ true) × (b ≡ true) × (c ≡ true) × (d ≡ true)
four true true true true h = (refl, refl, refl, refl)
four true true true false h = absurd (cc)
four true true false d h = absurd (cc)
four true false c d h = absurd (cc)
four false b c d h = absurd (cc)

-- a position from a least corner to a greatest one lies in the box of their diagonal
spanned : (lo hi q : Position) → int_le lo.x q.x ≡ true → int_le q.x hi.x ≡ true
    → int_le lo.y q.y ≡ true → int_le q.y hi.y ≡ true → is_within_diagonal (segment lo hi) q ≡ true
spanned lo hi q a b c d = step (is_gt (position_cmp lo hi))
  where
    step : (e : Bool) → is_within_diagonal (cond e (record { lo = hi; hi = lo }) (record { lo = lo; hi = hi })) q ≡ true
    step true = λ i. (min_right hi.x lo.x q.x a i && max_left hi.x lo.x q.x b i)
        && (min_right hi.y lo.y q.y c i && max_left hi.y lo.y q.y d i)
    step false = λ i. (min_left lo.x hi.x q.x a i && max_right lo.x hi.x q.x b i)
        && (min_left lo.y hi.y q.y c i && max_right lo.y hi.y q.y d i)

-- the least and the greatest corner of a box and a position
abbrev least_of : Segment → Position → Position
least_of d p = position (int_min (int_min d.lo.x d.hi.x) p.x) (int_min (int_min d.lo.y d.hi.y) p.y)

abbrev greatest_of : Segment → Position → Position
greatest_of d p = position (int_max (int_max d.lo.x d.hi.x) p.x) (int_max (int_max d.lo.y d.hi.y) p.y)

-- the diagonal between them
between : (d : Segment) (p : Position) → IsWider d p (segment (least_of d p) (greatest_of d p))
between d p = record {
  has_all = λ q h.
      let k = four (int_le (int_min d.lo.x d.hi.x) q.x) (int_le q.x (int_max d.lo.x d.hi.x))
      (int_le (int_min d.lo.y d.hi.y) q.y) (int_le q.y (int_max d.lo.y d.hi.y)) h in
      spanned (least_of d p) (greatest_of d p) q
      (min_left (int_min d.lo.x d.hi.x) p.x q.x k.0) (max_left (int_max d.lo.x d.hi.x) p.x q.x k.1)
      (min_left (int_min d.lo.y d.hi.y) p.y q.y k.2) (max_left (int_max d.lo.y d.hi.y) p.y q.y k.3);
  has_it = spanned (least_of d p) (greatest_of d p) p
      (min_right (int_min d.lo.x d.hi.x) p.x p.x (le_itself p.x)) (max_right (int_max d.lo.x d.hi.x) p.x p.x (le_itself p.x))
      (min_right (int_min d.lo.y d.hi.y) p.y p.y (le_itself p.y)) (max_right (int_max d.lo.y d.hi.y) p.y p.y (le_itself p.y));
}

-- a box has all that it has
itself : (d : Segment) (p : Position) → is_within_diagonal d p ≡ true → IsWider d p d
itself d p h = record { has_all = λ q k. k; has_it = h }

-- where there is no such diagonal, all is one position
wider_or : (o : Option Segment) (d : Segment) (p : Position) → (IsNone o → least_of d p ≡ greatest_of d p)
    → IfSome o (λ s. s ≡ segment (least_of d p) (greatest_of d p)) → IsWider d p (unwrap_or o d)
wider_or (Some s) d p none some = rw some (between d p)
wider_or None d p none some =
    let one = none refl in
    itself d p (λ i. all_one d.lo.x d.hi.x p.x (ap (λ (q : Position). q.x) one) i
    && all_one d.lo.y d.hi.y p.y (ap (λ (q : Position). q.y) one) i)

-- the corners as they are found: of the two ends, and then with the position
pub wider_is : (o : Option Segment) (d r : Segment) (p least most lo hi : Position)
    → least ≡ position (int_min d.lo.x d.hi.x) (int_min d.lo.y d.hi.y)
    → most ≡ position (int_max d.lo.x d.hi.x) (int_max d.lo.y d.hi.y)
    → lo ≡ position (int_min least.x p.x) (int_min least.y p.y) → hi ≡ position (int_max most.x p.x) (int_max most.y p.y)
    → (IsNone o → lo ≡ hi) → IfSome o (λ s. s ≡ segment lo hi) → r ≡ unwrap_or o d → IsWider d p r
wider_is o d r p least most lo hi a b l h none some is =
    let low : lo ≡ least_of d p = l ∙ ap (λ (q : Position). position (int_min q.x p.x) (int_min q.y p.y)) a in
    let high : hi ≡ greatest_of d p = h ∙ ap (λ (q : Position). position (int_max q.x p.x) (int_max q.y p.y)) b in
    let with_corners = λ (u v : Position). (IsNone o → u ≡ v) × IfSome o (λ s. s ≡ segment u v) in
    let known : with_corners (least_of d p) (greatest_of d p) =
    subst (λ u. with_corners u (greatest_of d p)) low (subst (λ v. with_corners lo v) high (none, some)) in
    rw is (wider_or o d p known.0 known.1)
