-- Lists of JSON that are appended an item at a time, and the rings of a feature that a map shows.
use Rattle.kit_words.proofs.Common.{◌≡◌, ◌≤◌, ◌<◌, ◌+◌, ℕ, ℤ, Bool, true, false, sym, ap, ap₂, ◌∙◌, List, [], ◌∷◌, ◌++◌}
use Rattle.kit_words.proofs.Common.{length, map, drop, get_or, codes, append_assoc, Some, None, arith, nat_lt}
use Rattle.kit_words.proofs.Common.{signed_decimal, drop_more, drop_all}
use Rattle.std.proofs.Common.{append-nil}
use Rattle.grid_geometry.specs.Common.{Position, position}
use Rattle.ring_machine.specs.Common.{Document, feature_at}
use Rattle.map_frame.specs.Common.{frame_ring}
use Rattle.map_text.specs.Common.{further, commas, comma_if, list_text, pair_text}
use Rattle.point_queries.proofs.Common.{ring_read, no_ring_read}
use Rattle.script_runner.specs.Common.{ring_list_text}

-- what is left to append: each with a comma before it where something stands before
abbrev pub left_text : Bool → List (List ℕ) → List ℕ
left_text false ts = commas ts
left_text true ts = further ts

-- one text is appended, after a comma where something stands before
pub left_step : (more : Bool) (t : List ℕ) (ts : List (List ℕ)) (now mid end : List ℕ) → mid ≡ now ++ comma_if more → end ≡ mid ++ t
    → end ++ left_text true ts ≡ now ++ left_text more (t ∷ ts)
left_step false t ts now mid end e f =
    ap (λ z. z ++ further ts) (f ∙ ap (λ z. z ++ t) (e ∙ append-nil now)) ∙ append_assoc now t (further ts)
left_step true t ts now mid end e f =
    ap (λ z. z ++ further ts) (f ∙ ap (λ z. z ++ t) e)
    ∙ append_assoc (now ++ codes ",") t (further ts)
    ∙ append_assoc now (codes ",") (t ++ further ts)

-- nothing is left
pub left_done : (more : Bool) (now : List ℕ) → now ++ left_text more [] ≡ now
left_done false now = append-nil now
left_done true now = append-nil now

-- a pair is appended
pub pair_step : (more : Bool) (p : Position) (x y : ℤ) (ps : List Position) (now mid end : List ℕ) → x ≡ p.x → y ≡ p.y → mid ≡ now ++ comma_if more → end ≡ mid ++ pair_text (position x y)
    → end ++ left_text true (map pair_text ps) ≡ now ++ left_text more (map pair_text (p ∷ ps))
pair_step more p x y ps now mid end ex ey e f =
    left_step more (pair_text p) (map pair_text ps) now mid end e
    (f ∙ ap (λ t. mid ++ t) (ap₂ (λ a b. list_text (signed_decimal a ∷ signed_decimal b ∷ [])) ex ey))

module _ {T : Type 0} (text : T → List ℕ) (xs : List T) (i : ℕ) where
  begun : nat_lt 0 (i + 1) ≡ true
  begun = grind arith

  -- the item with this number is appended
  pub item_step : (d : T) → i < length xs → (now mid end : List ℕ) → mid ≡ now ++ comma_if (nat_lt 0 i) → end ≡ mid ++ text (get_or xs i d)
      → end ++ left_text (nat_lt 0 (i + 1)) (map text (drop (i + 1) xs)) ≡ now ++ left_text (nat_lt 0 i) (map text (drop i xs))
  item_step d l now mid end e f =
      ap (λ b. end ++ left_text b (map text (drop (i + 1) xs))) begun
      ∙ left_step (nat_lt 0 i) (text (get_or xs i d)) (map text (drop (i + 1) xs)) now mid end e f
      ∙ ap (λ ys. now ++ left_text (nat_lt 0 i) (map text ys)) (sym (drop_more xs i d l))

  -- all items were appended after the opening bracket
  pub items_end : (old now end : List ℕ) → length xs ≤ i → now ++ left_text (nat_lt 0 i) (map text (drop i xs)) ≡ (old ++ codes "[") ++ commas (map text xs) → end ≡ now ++ codes "]"
      → end ≡ old ++ list_text (map text xs)
  items_end old now end past all e =
      let whole = sym (left_done (nat_lt 0 i) now) ∙ ap (λ ys. now ++ left_text (nat_lt 0 i) (map text ys)) (sym (drop_all i xs past)) ∙ all in
      e ∙ ap (λ z. z ++ codes "]") whole
      ∙ append_assoc (old ++ codes "[") (commas (map text xs)) (codes "]")
      ∙ append_assoc old (codes "[") (commas (map text xs) ++ codes "]")

-- the list between its brackets
pub between : (items old now mid end : List ℕ) → now ≡ old ++ codes "[" → mid ≡ now ++ items → end ≡ mid ++ codes "]"
    → end ≡ old ++ (codes "[" ++ (items ++ codes "]"))
between items old now mid end e f g =
    g ∙ ap (λ z. z ++ codes "]") (f ∙ ap (λ z. z ++ items) e)
    ∙ append_assoc (old ++ codes "[") items (codes "]")
    ∙ append_assoc old (codes "[") (items ++ codes "]")

-- a ring that is shown, and one that is not there
pub ring_shown : (d : Document) (n polygon ring : ℕ) (positions : List Position) → Some positions ≡ frame_ring d n polygon ring → (old end : List ℕ) → end ≡ old ++ ring_list_text positions
    → end ≡ old ++ ring_list_text (get_or (get_or (feature_at d n).polygons polygon []) ring [])
ring_shown d n polygon ring positions e old end f = f ∙ ap (λ ps. old ++ ring_list_text ps) (ring_read d n polygon ring positions e)

pub no_ring_shown : (d : Document) (n polygon ring : ℕ) → None ≡ frame_ring d n polygon ring → (old end : List ℕ) → end ≡ old ++ codes "[]"
    → end ≡ old ++ ring_list_text (get_or (get_or (feature_at d n).polygons polygon []) ring [])
no_ring_shown d n polygon ring e old end f = f ∙ ap (λ ps. old ++ ring_list_text ps) (no_ring_read d n polygon ring e)

-- a list of numbers after its name, and another after that
pub two_lists : (front between first second old a b c end : List ℕ) → a ≡ old ++ front → b ≡ a ++ first → c ≡ b ++ between → end ≡ c ++ second
    → end ≡ old ++ (front ++ (first ++ (between ++ second)))
two_lists front between first second old a b c end e f g h =
    h ∙ ap (λ z. z ++ second) (g ∙ ap (λ z. z ++ between) (f ∙ ap (λ z. z ++ first) e))
    ∙ append_assoc ((old ++ front) ++ first) between second
    ∙ append_assoc (old ++ front) first (between ++ second)
    ∙ append_assoc old front (first ++ (between ++ second))
