-- The areas of polygons by the faces so far, once the area of one more face is added to those of its holders.
use Rattle.kit_words.proofs.Common.{◌≡◌, ℕ, ◌+◌, ◌*◌, ◌<◌, ◌≤◌, ◌^◌, ℤ, pos, ◌+ℤ◌, ◌*ℤ◌, unsigned_abs, sym, ap, ◌∙◌, subst, arith, eqb, List, length, get_or, take}
use Rattle.std.specs.List.{count_by}
use Rattle.layer_faces.specs.declared.face.Face.{Face}
use Rattle.layer_faces.specs.Weighed.{area_of_holder, area_of_holders, reach}
use Rattle.layer_faces.proofs.Weighing.{bound_more, more_reach, more_weight, reach_within, room_left}

module _ {A : Type 0} (faces : List (Face A)) (i : ℕ) (f : Face A) (l : i < length faces) (is : f ≡ get_or faces i f) (a : ℤ) (same : a ≡ f.twice_area) where
  pub spread_each : (ys zs : List ℤ)
      → ((k : ℕ) → get_or zs k (pos 0) ≡ get_or ys k (pos 0) +ℤ pos (count_by (λ m. eqb m k) f.holders.items) *ℤ a)
      → ((k : ℕ) → get_or ys k (pos 0) ≡ area_of_holder (take i faces) k) → (k : ℕ) → get_or zs k (pos 0) ≡ area_of_holder (take (i + 1) faces) k
  spread_each ys zs e h k =
      let count = count_by (λ m. eqb m k) f.holders.items in
      e k ∙ ap (λ y. y +ℤ pos count *ℤ a) (h k) ∙ ap (λ y. area_of_holder (take i faces) k +ℤ pos count *ℤ y) same
      ∙ sym (more_weight faces i f l is (λ (g : Face A). pos (count_by (λ m. eqb m k) g.holders.items) *ℤ g.twice_area))

  pub spread_sum : (y z : ℤ) → z ≡ y +ℤ pos (length f.holders.items) *ℤ a → y ≡ area_of_holders (take i faces) → z ≡ area_of_holders (take (i + 1) faces)
  spread_sum y z e h =
      e ∙ ap (λ x. x +ℤ pos (length f.holders.items) *ℤ a) h ∙ ap (λ x. area_of_holders (take i faces) +ℤ pos (length f.holders.items) *ℤ x) same
      ∙ sym (more_weight faces i f l is (λ (g : Face A). pos (length g.holders.items) *ℤ g.twice_area))

  pub spread_bound : (y z : ℤ) (c : ℕ) → c ≤ 4000000 → z ≡ y +ℤ pos c *ℤ a → unsigned_abs y ≤ 4000000 * reach (take i faces)
      → unsigned_abs z ≤ 4000000 * reach (take (i + 1) faces)
  spread_bound y z c few e h =
      subst (λ r. unsigned_abs z ≤ 4000000 * r) (sym (more_reach faces i f l is))
      (bound_more (reach (take i faces)) (unsigned_abs f.twice_area) c y a z (ap unsigned_abs (sym same)) h few e)

  pub spread_room : (z : ℤ) (c : ℕ) → c ≤ 4000000 → unsigned_abs z ≤ 4000000 * reach (take i faces) → reach faces ≤ 16000000000000000000000000000000
      → unsigned_abs z + c * unsigned_abs a < 2 ^ 127
  spread_room z c few h small =
      let within = reach_within faces i f l is in
      subst (λ x. unsigned_abs z + c * unsigned_abs x < 2 ^ 127) (sym same)
      (room_left (reach (take i faces)) (unsigned_abs f.twice_area) c z h few (omega (arith, within, small)))
