-- The texts of points, piece by piece.
use Rattle.kit_words.proofs.Common.{◌≡◌, ℕ, zero, suc, ◌+◌, ◌≤◌, ◌++◌, ◌∙◌, ◌∷◌, [], Bool, true, false, List, Some, None, Result, Ok, Err}
use Rattle.kit_words.proofs.Common.{min, refl, sym, ap, arith, codes, length, length_push, nat_lt, subst, suc_positive}
use Rattle.json_spans.specs.Common.{Node, items}
use Rattle.ring_machine.specs.Common.{Text}
use Rattle.topo_outline.specs.Common.{bad_member, unquoted}
use Rattle.geo_features.specs.declared.fault.ExportFault.{ExportFault}
use Rattle.geo_features.specs.Faults.{GeoFault, each_at, of_map, ◌>>=◌}
use Rattle.geo_features.specs.Gives.{IsGeoFault}
use Rattle.geo_features.specs.Points.{are_positions, is_one_point, named, number_at, placed_text, point_coordinates, point_position}
use Rattle.geo_features.specs.Style.{Style}
use Rattle.map_text.specs.Common.{commas}
use Rattle.geo_features.proofs.Carrying.{carry}
use Rattle.geo_features.proofs.Listed.{list_end}
use Rattle.geo_features.proofs.Walking.{each_at_end, each_at_stop, each_at_turn, with_front}

-- ---- the place of a number in a position

-- a place that is counted up to a limit is as good as the place itself
number_same : (s : Style) (n i k : ℕ) (c : Node) (most : ℕ) → i ≡ min k most → 2 ≤ most → number_at s n i c ≡ number_at s n k c
number_same s n i zero c most e big = let z : i ≡ 0 = omega arith in rw z refl
number_same s n i (suc zero) c most e big = let z : i ≡ 1 = omega arith in rw z refl
number_same s n i (suc (suc k)) c most e big = others i (omega arith)
  where
    others : (j : ℕ) → 2 ≤ j → number_at s n j c ≡ Ok c.bytes
    others zero h = absurd (omega arith)
    others (suc zero) h = absurd (omega arith)
    others (suc (suc j)) h = refl

counted_next : (i j k most : ℕ) → i ≡ min k most → j ≡ min (i + 1) most → j ≡ min (k + 1) most
counted_next i j k most e f = omega arith

pub more_same : (i k most : ℕ) → i ≡ min k most → 2 ≤ most → nat_lt 0 i ≡ nat_lt 0 k
more_same i zero most e big = let z : i ≡ 0 = omega arith in rw z refl
more_same i (suc k) most e big = positive i (omega arith) ∙ sym (suc_positive k)
  where
    positive : (j : ℕ) → 1 ≤ j → nat_lt 0 j ≡ true
    positive zero h = absurd (omega arith)
    positive (suc j) h = suc_positive j

-- ---- a position

pub position_stop : (o : ExportFault) (s : Style) (n : ℕ) (position : Node) (done : List Text) (i : ℕ) (a : Node) (as' left : List Node)
    → i ≡ min (length done) 18446744073709551615 → left ≡ a ∷ as' → IsGeoFault o (number_at s n i a)
    → with_front done (each_at (number_at s n) (length done) left) ≡ each_at (number_at s n) 0 (items position)
    → IsGeoFault o (point_position s n position)
unfolding point_position
position_stop o s n position done i a as' left place e is h =
    carry o (each_at (number_at s n) 0 (items position)) (point_position s n position) (λ x fx. rw fx refl)
    (each_at_stop o (number_at s n) done (length done) a as' left (each_at (number_at s n) 0 (items position)) e
    (subst (IsGeoFault o) (number_same s n i (length done) a 18446744073709551615 place (omega arith)) is) h)

pub position_turn : (s : Style) (n : ℕ) (done : List Text) (i : ℕ) (a : Node) (as' left : List Node) (t : Text) (whole : Result (List Text) GeoFault)
    → i ≡ min (length done) 18446744073709551615 → left ≡ a ∷ as' → number_at s n i a ≡ Ok t
    → with_front done (each_at (number_at s n) (length done) left) ≡ whole
    → with_front (done ++ t ∷ []) (each_at (number_at s n) (length (done ++ t ∷ [])) as') ≡ whole
position_turn s n done i a as' left t whole place e is h =
    ap (λ k. with_front (done ++ t ∷ []) (each_at (number_at s n) k as')) (length_push done t)
    ∙ each_at_turn (number_at s n) done t (length done) a as' left whole e
    (sym (number_same s n i (length done) a 18446744073709551615 place (omega arith)) ∙ is) h

pub place_next : (done : List Text) (t : Text) (i j : ℕ) → i ≡ min (length done) 18446744073709551615 → j ≡ min (i + 1) 18446744073709551615
    → j ≡ min (length (done ++ t ∷ [])) 18446744073709551615
place_next done t i j e f = counted_next i j (length done) 18446744073709551615 e f ∙ ap (λ k. min k 18446744073709551615) (sym (length_push done t))

pub position_end : (s : Style) (n : ℕ) (position : Node) (done : List Text) (left : List Node) (old now new : Text)
    → left ≡ [] → with_front done (each_at (number_at s n) (length done) left) ≡ each_at (number_at s n) 0 (items position)
    → now ≡ (old ++ codes "[") ++ commas done → new ≡ now ++ codes "]"
    → (point_position s n position >>= λ xs. Ok (old ++ xs)) ≡ Ok new
unfolding point_position
position_end s n position done left old now new e h p q =
    rw (each_at_end (number_at s n) done (length done) left (each_at (number_at s n) 0 (items position)) e h)
    (ap (λ (t : Text). Ok t) (sym (list_end done old now new p q)))

-- ---- several

pub one_there : (done : List Text) (t : Text) → true ≡ nat_lt 0 (length (done ++ t ∷ []))
one_there [] t = refl
one_there (u ∷ done) t = sym (suc_positive (length (done ++ t ∷ [])))

-- ---- the coordinates

pub coordinates_there : (s : Style) (n : ℕ) (is_one : Bool) (t : Text) (name value : Node)
    → is_one ≡ is_one_point t → Some (name, value) ≡ named (codes "coordinates") t → are_positions is_one value ≡ true
    → placed_text s n is_one value ≡ point_coordinates s n t
unfolding point_coordinates
coordinates_there s n is_one t name value one e right = rw (← one, ← e, right) refl

pub coordinates_wrong : (s : Style) (n : ℕ) (is_one : Bool) (t : Text) (name value : Node)
    → is_one ≡ is_one_point t → Some (name, value) ≡ named (codes "coordinates") t → are_positions is_one value ≡ false
    → Err (of_map (bad_member (unquoted name.bytes))) ≡ point_coordinates s n t
unfolding point_coordinates
coordinates_wrong s n is_one t name value one e wrong = rw (← one, ← e, wrong) refl

pub coordinates_missing : (s : Style) (n : ℕ) (t : Text) → None ≡ named (codes "coordinates") t
    → point_coordinates s n t ≡ Err (of_map (bad_member (codes "coordinates")))
unfolding point_coordinates
coordinates_missing s n t e = rw (← e) refl
