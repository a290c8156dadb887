-- Vertices by level: between which two of them a position lies.
use Rattle.kit_words.proofs.Common.{ℤ, neg_ℤ, ◌≡◌, Bool, true, false, ◌&&◌, ◌||◌, int_lt, int_eq, int_cmp, arith, ints, refl, sym}
use Rattle.kit_words.proofs.Common.{◌∙◌, subst, by_bool, false≢true, List, [], ◌∷◌, map, inl, inr, Less, ordering_then}
use Rattle.grid_geometry.specs.Common.{Position, position_cmp}
use Rattle.ring_machine.proofs.Common.{In}
use Rattle.layer_sides.specs.Common.{doubled, level_lt}
use Rattle.layer_sides.specs.Under.{AreRising, VertexOf, turned}
use Rattle.layer_sides.proofs.Ascending.{rises_first, rises_rest}
use Rattle.layer_sides.proofs.Aligned.{map_in}
use Rattle.layer_sides.proofs.Levels.{before_before, not_back, not_itself}
use Rattle.layer_sides.proofs.Doubling.{level_doubled}

-- the order of turned positions is that of levels
pub turned_level : (p q : Position) → position_cmp (turned p) (turned q) ≡ Less → level_lt p q ≡ true
turned_level p q h = by p.x p.y q.x q.y h
  where
    by : (x y x' y' : ℤ) → ordering_then (int_cmp y y') (int_cmp (neg_ℤ x) (neg_ℤ x')) ≡ Less
        → (int_lt y y' || (int_eq y y' && int_lt x' x)) ≡ true
    by x y x' y' h = grind (arith, ints)

pub first_before : (v : VertexOf) (vs : List VertexOf) → AreRising (v ∷ vs) → (w : VertexOf) → In w vs → level_lt v.0 w.0 ≡ true
first_before v vs h w i =
    turned_level v.0 w.0 (rises_first position_cmp (turned v.0) (map (λ v. turned v.0) vs) h (turned w.0) (map_in (λ (v : VertexOf). turned v.0) w vs i))

pub rest_rises : (v : VertexOf) (vs : List VertexOf) → AreRising (v ∷ vs) → AreRising vs
rest_rises v vs h = rises_rest position_cmp (turned v.0) (map (λ v. turned v.0) vs) h

-- two vertices with w between them, on the finer grid, and no vertex
pub record Gap (vs : List VertexOf) (w : Position) : Type 0 where
  pub before : VertexOf
  pub after : VertexOf
  pub in_before : In before vs
  pub in_after : In after vs
  pub since : level_lt w (doubled before.0) ≡ false
  pub until : level_lt w (doubled after.0) ≡ true
  pub none : (v : VertexOf) → In v vs → level_lt before.0 v.0 ≡ true → level_lt v.0 after.0 ≡ false

unlike : {b : Bool} → b ≡ true → b ≡ false → ⊥
unlike h k = false≢true (sym k ∙ h)

-- w comes before v, and so before what comes after v
still_before : (w : Position) (v u : Position) → level_lt w (doubled v) ≡ true → level_lt v u ≡ true → level_lt w (doubled u) ≡ true
still_before w v u h k = before_before w (doubled v) (doubled u) h (level_doubled v u ∙ k)

pub gap : (vs : List VertexOf) (w : Position) → AreRising vs → (x y : VertexOf) → In x vs → In y vs
    → level_lt w (doubled x.0) ≡ false → level_lt w (doubled y.0) ≡ true → Gap vs w
gap [] w h x y i j hx hy = absurd i
gap (v ∷ []) w h x y (inl e) (inl f) hx hy =
    absurd (unlike (subst (λ (z : VertexOf). level_lt w (doubled z.0) ≡ true) (sym f ∙ e) hy) hx)
gap (v ∷ []) w h x y (inr i) j hx hy = absurd i
gap (v ∷ []) w h x y (inl e) (inr j) hx hy = absurd j
gap (v ∷ u ∷ vs) w h x y i j hx hy =
    by_bool (level_lt w (doubled u.0)) here
    (λ e. there (gap (u ∷ vs) w (rest_rises v (u ∷ vs) h) u y (inl refl) (later e j) e hy))
  where
    since_first : level_lt w (doubled u.0) ≡ true → In x (v ∷ u ∷ vs) → level_lt w (doubled v.0) ≡ false
    since_first e (inl f) = subst (λ (z : VertexOf). level_lt w (doubled z.0) ≡ false) (sym f) hx
    since_first e (inr (inl f)) = absurd (unlike (subst (λ (z : VertexOf). level_lt w (doubled z.0) ≡ true) f e) hx)
    since_first e (inr (inr k)) =
        absurd (unlike (still_before w u.0 x.0 e (first_before u vs (rest_rises v (u ∷ vs) h) x k)) hx)

    here : level_lt w (doubled u.0) ≡ true → Gap (v ∷ u ∷ vs) w
    here e = record {
      before = v;
      after = u;
      in_before = inl refl;
      in_after = inr (inl refl);
      since = since_first e i;
      until = e;
      none = between;
    }
      where
        between : (z : VertexOf) → In z (v ∷ u ∷ vs) → level_lt v.0 z.0 ≡ true → level_lt z.0 u.0 ≡ false
        between z (inl f) k = absurd (unlike (subst (λ (z : VertexOf). level_lt v.0 z.0 ≡ true) (sym f) k) (not_itself v.0))
        between z (inr (inl f)) k = subst (λ (z : VertexOf). level_lt z.0 u.0 ≡ false) f (not_itself u.0)
        between z (inr (inr m)) k = not_back u.0 z.0 (first_before u vs (rest_rises v (u ∷ vs) h) z m)

    later : level_lt w (doubled u.0) ≡ false → In y (v ∷ u ∷ vs) → In y (u ∷ vs)
    later e (inr k) = k
    later e (inl f) =
        absurd (unlike (still_before w v.0 u.0 (subst (λ (z : VertexOf). level_lt w (doubled z.0) ≡ true) (sym f) hy) (first_before v (u ∷ vs) h u (inl refl))) e)

    there : Gap (u ∷ vs) w → Gap (v ∷ u ∷ vs) w
    there g = record {
      before = g.before;
      after = g.after;
      in_before = inr g.in_before;
      in_after = inr g.in_after;
      since = g.since;
      until = g.until;
      none = none;
    }
      where
        none : (z : VertexOf) → In z (v ∷ u ∷ vs) → level_lt g.before.0 z.0 ≡ true → level_lt z.0 g.after.0 ≡ false
        none z (inr k) l = g.none z k l
        none z (inl f) l =
            absurd (unlike (subst (λ (z : VertexOf). level_lt g.before.0 z.0 ≡ true) (sym f) l)
            (not_back v.0 g.before.0 (first_before v (u ∷ vs) h g.before g.in_before)))
