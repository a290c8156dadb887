-- Reading the positions of an arc one after another, as the loop does.
use Rattle.kit_words.proofs.Common.{◌≡◌, ℕ, List, [], ◌∷◌, ◌++◌, map, refl, sym, ap, ◌∙◌, Bool, ℤ, Result, Ok}
use Rattle.kit_words.proofs.Common.{append-nil, map-append}
use Rattle.json_spans.specs.Common.{Node}
use Rattle.topo_outline.specs.Common.{Fails, Fault}
use Rattle.topo_outline.specs.declared.fault.OpenFault.{OpenFault}
use Rattle.topo_outline.proofs.Common.{with_front, carry, regroup}
use Rattle.grid_reader.specs.Common.{FinePos, Wants, FinePosition, fine_coordinate, fine_pair_of, fine_position, fine_positions}
use Rattle.grid_reader.specs.Common.{before_next_fine, fine_seen}

pub turn : (wants : Wants) (delta : Bool) (before : FinePosition) (front : List FinePos) (p : FinePos) (n : Node) (ns left : List Node) (whole : Result (List FinePosition) Fault) → left ≡ n ∷ ns → fine_position wants before n ≡ Ok (fine_seen p) → with_front (map fine_seen front) (fine_positions wants delta before left) ≡ whole →
    with_front (map fine_seen (front ++ p ∷ [])) (fine_positions wants delta (before_next_fine delta (fine_seen p)) ns) ≡ whole
unfolding fine_positions
turn wants delta before front p n ns left whole e is h =
    ap (λ (qs : List FinePosition). with_front qs (fine_positions wants delta (before_next_fine delta (fine_seen p)) ns)) (map-append fine_seen front (p ∷ []))
    ∙ (sym (regroup (map fine_seen front) (fine_seen p) (fine_positions wants delta (before_next_fine delta (fine_seen p)) ns)) ∙ rw (e, is) at h)

pub end : (wants : Wants) (delta : Bool) (before : FinePosition) (front : List FinePosition) (left : List Node) (whole : Result (List FinePosition) Fault) → left ≡ [] → with_front front (fine_positions wants delta before left) ≡ whole → whole ≡ Ok front
unfolding fine_positions
end wants delta before front left whole e h = sym (rw (e, append-nil front) at h)

pub fails_stop : (o : OpenFault) (wants : Wants) (delta : Bool) (before : FinePosition) (front : List FinePosition) (n : Node) (ns left : List Node) (whole : Result (List FinePosition) Fault) → left ≡ n ∷ ns → Fails o (fine_position wants before n) → with_front front (fine_positions wants delta before left) ≡ whole → Fails o whole
unfolding fine_positions
fails_stop o wants delta before front n ns left whole e is h = carry o (fine_position wants before n) whole (λ x fx. sym (rw (e, fx) at h)) is

-- where y has a fault, and x none, the position has that of y
pub pair_fails : (o : OpenFault) (finer : ℕ) (before : FinePosition) (sum : ℤ) (a b : Node) →
    fine_coordinate finer before.x a ≡ Ok sum → Fails o (fine_coordinate finer before.y b) → Fails o (fine_pair_of finer before a b)
pair_fails o finer before sum a b ok h = carry o (fine_coordinate finer before.y b) (fine_pair_of finer before a b) (λ f fy. rw (ok, fy) refl) h
