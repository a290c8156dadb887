-- A face that was made of sides.
use Rattle.kit_words.proofs.Common.{◌≡◌, ℕ, ◌*◌, ◌<◌, ◌≤◌, unsigned_abs, refl, sym, ap, ◌∙◌, subst, List, map, length, get_or, All}
use Rattle.std.specs.List.Sorted.{IsNonDecreasing}
use Rattle.layer_sides.specs.Common.{Bordering}
use Rattle.layer_faces.specs.declared.face.Face.{Face}
use Rattle.layer_faces.specs.Common.{IsKind, IsOnce, border_length, features_of, side_at, side_term, total}
use Rattle.layer_faces.specs.Kept.{IsFound, held_at, told_numbers}

-- what holds of the holders of all sides, holds of those of a face
pub held_all : (P : ℕ → Type 0) (borders : List Bordering) (numbers hs : List ℕ) (n : ℕ) → 0 < length numbers → All (λ a. held_at borders a ≡ hs) numbers
    → All (λ a. a < n) numbers → ((a : ℕ) → a < n → All P (held_at borders a)) → All P hs
held_all P borders numbers hs n some held within owned = subst (All P) (held 0 0 some) (owned (get_or numbers 0 0) (within 0 0 some))

pub found_is : {A : Type 0} (borders : List Bordering) (owners : List ℕ) (f : Face A) (numbers : List ℕ) → numbers ≡ f.sides.items
    → IsNonDecreasing numbers → 0 < length numbers → get_or numbers 0 0 ≡ f.first → All (λ a. a < 2 * length borders) numbers
    → All (λ a. held_at borders a ≡ f.holders.items) numbers
    → IsOnce (features_of owners (told_numbers borders f.holders.items numbers)) f.features.items
    → f.twice_area ≡ total side_term (map (side_at (map (λ b. b.segment) borders)) numbers)
    → unsigned_abs f.twice_area ≤ 2000000000000000000000000 * length numbers
    → f.border ≡ border_length (map (side_at (map (λ b. b.segment) borders)) numbers)
    → IsKind f.holders.items f.features.items f.kind
    → IsFound borders owners f
found_is borders owners f numbers e ascending some named within held told area small border kind = record {
  kept = record {
    sides = refl;
    held = subst (All (λ a. held_at borders a ≡ f.holders.items)) e held;
    told = subst (λ ns. IsOnce (features_of owners (told_numbers borders f.holders.items ns)) f.features.items) e told;
    area = area ∙ ap (λ ns. total side_term (map (side_at (map (λ (b : Bordering). b.segment) borders)) ns)) e;
    border = border ∙ ap (λ ns. border_length (map (side_at (map (λ (b : Bordering). b.segment) borders)) ns)) e;
    kind = kind;
  };
  ascending = subst IsNonDecreasing e ascending;
  some = subst (λ ns. 0 < length ns) e some;
  named = ap (λ ns. get_or ns 0 0) (sym e) ∙ named;
  within = subst (All (λ a. a < 2 * length borders)) e within;
  small = subst (λ ns. unsigned_abs f.twice_area ≤ 2000000000000000000000000 * length ns) e small;
}

-- the side that names a face is one of the borders'
pub first_within : {A : Type 0} (borders : List Bordering) (owners : List ℕ) (f : Face A) → IsFound borders owners f → f.first < 2 * length borders
first_within borders owners f is = subst (λ n. n < 2 * length borders) is.named (is.within 0 0 is.some)
