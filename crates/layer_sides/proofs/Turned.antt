-- Segments that begin at one vertex: from the turn of each to the next, the order of all.
use Rattle.kit_words.proofs.Common.{ℤ, ℕ, suc, pos, ◌≡◌, ◌+◌, ◌<◌, ◌+ℤ◌, ◌-ℤ◌, ◌*ℤ◌, ◌≤ℤ◌, ◌<ℤ◌, arith, ap}
use Rattle.kit_words.proofs.Common.{◌∙◌, sym, refl, subst, ints, by_lt_z, int_lt, int_eq, true, ◌&&◌, ◌||◌, IsTrue}
use Rattle.kit_words.proofs.Common.{List, [], ◌∷◌, map, length, get_or, inl, inr}
use Rattle.grid_geometry.specs.Common.{Position, Segment, orientation}
use Rattle.grid_geometry.proofs.Algebra.{expand, comm, assoc, weak, up_up, down_up, below_above}
use Rattle.ring_machine.proofs.Common.{In}
use Rattle.layer_sides.specs.Common.{top, level_lt}
use Rattle.layer_sides.specs.Under.{AreInOrder, AreTurned, segment_at}
use Rattle.layer_sides.proofs.InOrder.{is_right}
use Rattle.layer_sides.proofs.Levels.{rises}
use Rattle.layer_sides.proofs.Doubling.{InFineOrder, born_together_doubled}
use Rattle.layer_sides.proofs.Aligned.{Begins, from_in}

-- ---- three directions upward

swap : (a b c : ℤ) → (a *ℤ b) *ℤ c ≡ (a *ℤ c) *ℤ b
swap a b c = assoc a b c ∙ ap (λ z. a *ℤ z) (comm b c) ∙ sym (assoc a c b)

weighed : (a1 a2 b1 b2 c1 c2 : ℤ)
    → (a1 *ℤ c2 -ℤ c1 *ℤ a2) *ℤ b2 ≡ (a1 *ℤ b2 -ℤ b1 *ℤ a2) *ℤ c2 +ℤ (b1 *ℤ c2 -ℤ c1 *ℤ b2) *ℤ a2
weighed a1 a2 b1 b2 c1 c2 = simp expand (omega (arith, ints, swap a1 c2 b2, swap c1 a2 b2, swap b1 a2 c2))

through : (p q r a b c : ℤ) → r *ℤ b ≡ p *ℤ c +ℤ q *ℤ a → p <ℤ pos 0 → q <ℤ pos 0 → pos 0 ≤ℤ a → pos 0 ≤ℤ c → pos 0 <ℤ b
    → (a ≡ pos 0 → c ≡ pos 0 → ⊥) → r <ℤ pos 0
through p q r a b c e hp hq ha hc hb none =
    by_lt_z r (pos 0) (λ (k : r <ℤ pos 0). k)
    (λ (k : pos 0 ≤ℤ r).
    let up : pos 0 ≤ℤ (r *ℤ b) = up_up r b k (weak _ _ hb) in
    let first : (p *ℤ c) ≤ℤ pos 0 = down_up p c (weak _ _ hp) hc in
    let second : (q *ℤ a) ≤ℤ pos 0 = down_up q a (weak _ _ hq) ha in
    absurd (none
    (by_lt_z (pos 0) a (λ (l : pos 0 <ℤ a). absurd (omega (arith, ints, below_above q a hq l, e, up, first))) (λ (l : a ≤ℤ pos 0). omega (arith, ints)))
    (by_lt_z (pos 0) c (λ (l : pos 0 <ℤ c). absurd (omega (arith, ints, below_above p c hp l, e, up, second))) (λ (l : c ≤ℤ pos 0). omega (arith, ints)))))

-- b is above the origin, since a lies on one side of it and c on the other
above : (a1 a2 b1 b2 : ℤ) → (a1 *ℤ b2 -ℤ b1 *ℤ a2) <ℤ pos 0 → pos 0 ≤ℤ a2 → pos 0 ≤ℤ b2 → (b2 ≡ pos 0 → b1 <ℤ pos 0) → pos 0 <ℤ b2
above a1 a2 b1 b2 h ha hb left =
    by_lt_z (pos 0) b2 (λ (k : pos 0 <ℤ b2). k)
    (λ (k : b2 ≤ℤ pos 0).
    let z : b2 ≡ pos 0 = omega (arith, ints) in
    absurd (omega (arith, ints, h, ap (λ x. a1 *ℤ x) z, down_up b1 a2 (weak _ _ (left z)) ha)))

around : (a1 a2 b1 b2 c1 c2 : ℤ) → (a1 *ℤ b2 -ℤ b1 *ℤ a2) <ℤ pos 0 → (b1 *ℤ c2 -ℤ c1 *ℤ b2) <ℤ pos 0
    → pos 0 ≤ℤ a2 → pos 0 ≤ℤ b2 → pos 0 ≤ℤ c2 → (b2 ≡ pos 0 → b1 <ℤ pos 0) → (c2 ≡ pos 0 → c1 <ℤ pos 0)
    → (a1 *ℤ c2 -ℤ c1 *ℤ a2) <ℤ pos 0
around a1 a2 b1 b2 c1 c2 h k ha hb hc left_b left_c =
    let up = above a1 a2 b1 b2 h ha hb left_b in
    through (a1 *ℤ b2 -ℤ b1 *ℤ a2) (b1 *ℤ c2 -ℤ c1 *ℤ b2) (a1 *ℤ c2 -ℤ c1 *ℤ a2) a2 b2 c2 (weighed a1 a2 b1 b2 c1 c2) h k ha hc up
    (λ e f. absurd (omega (arith, ints, k, ap (λ x. b1 *ℤ x) f, below_above c1 b2 (left_c f) up)))

-- ---- positions above a vertex

up_from : (v w : Position) → level_lt v w ≡ true → pos 0 ≤ℤ (w.y -ℤ v.y)
up_from v w h = by v.x v.y w.x w.y h
  where
    by : (x y x' y' : ℤ) → (int_lt y y' || (int_eq y y' && int_lt x' x)) ≡ true → pos 0 ≤ℤ (y' -ℤ y)
    by x y x' y' h = grind (arith, ints)

left_from : (v w : Position) → level_lt v w ≡ true → w.y -ℤ v.y ≡ pos 0 → (w.x -ℤ v.x) <ℤ pos 0
left_from v w h = by v.x v.y w.x w.y h
  where
    by : (x y x' y' : ℤ) → (int_lt y y' || (int_eq y y' && int_lt x' x)) ≡ true → y' -ℤ y ≡ pos 0 → (x' -ℤ x) <ℤ pos 0
    by x y x' y' h e = grind (arith, ints)

below_is : (z : ℤ) → int_lt z (pos 0) ≡ true → z <ℤ pos 0
below_is z h = grind (arith, ints)

is_below : (z : ℤ) → z <ℤ pos 0 → int_lt z (pos 0) ≡ true
is_below z h = grind (arith, ints)

turned_through : (v a b c : Position) → level_lt v a ≡ true → level_lt v b ≡ true → level_lt v c ≡ true
    → int_lt (orientation v a b) (pos 0) ≡ true → int_lt (orientation v b c) (pos 0) ≡ true → int_lt (orientation v a c) (pos 0) ≡ true
unfolding orientation
turned_through v a b c ha hb hc h k =
    is_below _
    (around (a.x -ℤ v.x) (a.y -ℤ v.y) (b.x -ℤ v.x) (b.y -ℤ v.y) (c.x -ℤ v.x) (c.y -ℤ v.y)
    (below_is _ h) (below_is _ k) (up_from v a ha) (up_from v b hb) (up_from v c hc) (left_from v b hb) (left_from v c hc))

-- ---- segments from a vertex

module _ (v : Position) where
  above_vertex : (s : Segment) → Begins v s → level_lt v (top s) ≡ true
  above_vertex s h = subst (λ z. level_lt z (top s) ≡ true) h.at (rises s h.segment)

  right_at : (s : Segment) (w : Position) → Begins v s → IsTrue (is_right w s) → int_lt (orientation v (top s) w) (pos 0) ≡ true
  right_at s w h k = subst (λ z. int_lt (orientation z (top s) w) (pos 0) ≡ true) h.at k

  at_right : (s : Segment) (w : Position) → Begins v s → int_lt (orientation v (top s) w) (pos 0) ≡ true → IsTrue (is_right w s)
  at_right s w h k = subst (λ z. int_lt (orientation z (top s) w) (pos 0) ≡ true) (sym h.at) k

  right_of_next : (s t u : Segment) → Begins v s → Begins v t → Begins v u → IsTrue (is_right (top t) s) → IsTrue (is_right (top u) t)
      → IsTrue (is_right (top u) s)
  right_of_next s t u hs ht hu h k =
      at_right s (top u) hs
      (turned_through v (top s) (top t) (top u) (above_vertex s hs) (above_vertex t ht) (above_vertex u hu) (right_at s (top t) hs h) (right_at t (top u) ht k))

  -- each ends right of the one before it
  AreTurning : List Segment → Type 0
  AreTurning [] = Unit {0}
  AreTurning (s ∷ []) = Unit {0}
  AreTurning (s ∷ t ∷ ss) = IsTrue (is_right (top t) s) × AreTurning (t ∷ ss)

  right_of_first : (s : Segment) (ss : List Segment) → AreTurning (s ∷ ss) → ((t : Segment) → In t (s ∷ ss) → Begins v t)
      → (t : Segment) → In t ss → IsTrue (is_right (top t) s)
  unfolding AreTurning
  right_of_first s [] h b t i = absurd i
  right_of_first s (u ∷ ss) h b t (inl e) = subst (λ z. IsTrue (is_right (top z) s)) e h.0
  right_of_first s (u ∷ ss) h b t (inr i) =
      right_of_next s u t (b s (inl refl)) (b u (inr (inl refl))) (b t (inr (inr i))) h.0
      (right_of_first u ss h.1 (λ z j. b z (inr j)) t i)

  turning_rest : (s : Segment) (ss : List Segment) → AreTurning (s ∷ ss) → AreTurning ss
  unfolding AreTurning
  turning_rest s [] h = tt
  turning_rest s (t ∷ ss) h = h.1

  turning_in_order : (ss : List Segment) → AreTurning ss → ((s : Segment) → In s ss → Begins v s) → AreInOrder ss
  turning_in_order [] h b = tt
  turning_in_order (s ∷ ss) h b = (
    from_in (InFineOrder s) ss (λ t i.
        born_together_doubled s t (b s (inl refl)).segment (b t (inr i)).segment ((b s (inl refl)).at ∙ sym (b t (inr i)).at)
        (right_of_first s ss h b t i)),
    turning_in_order ss (turning_rest s ss h) (λ t i. b t (inr i)),
  )

  turning : (ss : List Segment) (places : List ℕ) → AreTurned ss places → AreTurning (map (segment_at ss) places)
  unfolding AreTurning
  turning ss [] h = tt
  turning ss (i ∷ []) h = tt
  turning ss (i ∷ j ∷ is) h = (h 0 0 (omega arith), turning ss (j ∷ is) (λ k d l. later k d l))
    where
      later : (k d : ℕ) → k + 1 < length (j ∷ is)
          → IsTrue (is_right (top (segment_at ss (get_or (j ∷ is) (k + 1) d))) (segment_at ss (get_or (j ∷ is) k d)))
      later k d l =
          let e : suc k + 1 ≡ suc (k + 1) = omega arith in
          subst (λ n. IsTrue (is_right (top (segment_at ss (get_or (i ∷ j ∷ is) n d))) (segment_at ss (get_or (j ∷ is) k d)))) e
          (h (suc k) d (omega (arith, l)))

  -- those that begin at v, each turned to the right from the one before it, are in order
  pub turned_in_order : (ss : List Segment) (places : List ℕ) → AreTurned ss places
      → ((s : Segment) → In s (map (segment_at ss) places) → Begins v s) → AreInOrder (map (segment_at ss) places)
  turned_in_order ss places h b = turning_in_order (map (segment_at ss) places) (turning ss places h) b
