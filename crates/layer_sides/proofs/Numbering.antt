-- The numbers that are kept with the list of the borders under way: its parts, and what a vertex changes.
use Rattle.kit_words.proofs.Common.{◌≡◌, ℕ, refl, sym, ap, ap₂, ◌∙◌, List, [], ◌∷◌, ◌++◌, inl, inr}
use Rattle.grid_geometry.specs.Common.{xor}
use Rattle.layer_sides.specs.Borders.{Bordering}
use Rattle.layer_sides.specs.Sweep.{has_number}
use Rattle.layer_sides.specs.Under.{AreNumbered, border_at, borders_at, is_odd_of}
use Rattle.ring_machine.proofs.Common.{In, xor-assoc}

pub odd_of-append : (n : ℕ) (bs cs : List Bordering) → is_odd_of n (bs ++ cs) ≡ xor (is_odd_of n bs) (is_odd_of n cs)
odd_of-append n [] cs = refl
odd_of-append n (b ∷ bs) cs =
    ap (xor (has_number n b.bounds)) (odd_of-append n bs cs) ∙ sym (xor-assoc (has_number n b.bounds) (is_odd_of n bs) (is_odd_of n cs))

pub numbered_back : (bs cs : List Bordering) → AreNumbered (bs ++ cs) → AreNumbered cs
numbered_back [] cs h = h
numbered_back (b ∷ bs) cs h = numbered_back bs cs h.1

-- others come behind the first ones, which an odd number of in the same way bound each polygon
pub numbered_after : (bs cs ds : List Bordering) → AreNumbered (bs ++ cs) → AreNumbered ds
    → ((n : ℕ) → is_odd_of n ds ≡ is_odd_of n cs) → AreNumbered (bs ++ ds)
numbered_after [] cs ds h k e = k
numbered_after (b ∷ bs) cs ds h k e = (
  record {
    odd = λ n. h.0.odd n ∙ odd_of-append n bs cs ∙ ap (xor (is_odd_of n bs)) (sym (e n)) ∙ sym (odd_of-append n bs ds);
    sorted = h.0.sorted;
  },
  numbered_after bs cs ds h.1 k e,
)

-- at places where the borders are the same
pub same_borders : (bs cs : List Bordering) (places : List ℕ) → ((i : ℕ) → In i places → border_at cs i ≡ border_at bs i)
    → borders_at cs places ≡ borders_at bs places
same_borders bs cs [] h = refl
same_borders bs cs (i ∷ is) h = ap₂ (λ b ds. b ∷ ds) (h i (inl refl)) (same_borders bs cs is (λ j k. h j (inr k)))
