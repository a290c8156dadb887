-- Cutting a list of sides into faces.
use Rattle.kit_words.proofs.Common.{◌≡◌, ℕ, ◌+◌, sym, ap, ap₂, ◌∙◌, subst, arith, List, [], ◌∷◌, ◌++◌, map, take, drop, append_assoc, append-nil, map-append, length, get_or, All}
use Rattle.kit_words.proofs.Common.{◌<◌, take_more, mapped_more}
use Rattle.kit_words.proofs.Common.{IsPermutation}
use Rattle.std.proofs.lemmas.List.Sorted.{IsPermutation-map}
use Rattle.std.specs.Prelude.{slice_index}
use Rattle.std.specs.List.{flat_map, range_with_len}
use Rattle.layer_sides.specs.Common.{Bordering}
use Rattle.layer_faces.specs.Holders.{features_of}
use Rattle.layer_faces.specs.Kept.{beside_numbers, held_at, opposite_number}
use Rattle.std.proofs.lemmas.List.Concat.{flat_map-append}
use Rattle.std.proofs.lemmas.List.FromFn.{map-range_with_len_more}
use Rattle.std.proofs.lemmas.List.{drop-map, map-id, take-map}
use Rattle.std.proofs.lemmas.List.Elements.{All-drop, All-take}

-- one more face, of the sides that come next
pub cut_more : {X L : Type 0} (F : X → List ℕ) (side : L → ℕ) (faces more_faces : List X) (f : X) (rest run more : List L) (sides all : List ℕ)
    → more_faces ≡ faces ++ f ∷ [] → F f ≡ sides → sides ≡ map side run → run ++ more ≡ rest
    → flat_map F faces ++ map side rest ≡ all → flat_map F more_faces ++ map side more ≡ all
cut_more F side faces more_faces f rest run more sides all pushed is made split h =
    ap (λ fs. flat_map F fs ++ map side more) pushed
    ∙ ap (λ xs. xs ++ map side more) (flat_map-append F faces (f ∷ []) ∙ ap (λ xs. flat_map F faces ++ xs) (append-nil (F f) ∙ is ∙ made))
    ∙ append_assoc (flat_map F faces) (map side run) (map side more)
    ∙ ap (λ xs. flat_map F faces ++ xs) (sym (map-append side run more) ∙ ap (map side) split)
    ∙ h

-- the numbers from 0 on, one more
pub numbers_more : (n : ℕ) → range_with_len 0 (n + 1) ≡ range_with_len 0 n ++ n ∷ []
numbers_more n =
    sym (map-id (range_with_len 0 (n + 1))) ∙ map-range_with_len_more (λ k. k) 0 n n (omega arith) ∙ ap (λ ks. ks ++ n ∷ []) (map-id (range_with_len 0 n))

-- one more side, in a list of all that stand beside
pub beside_more : (borders : List Bordering) (owners sides : List ℕ) (i n : ℕ) → i < length sides → n ≡ get_or sides i n
    → features_of owners (beside_numbers borders (take (i + 1) sides))
    ≡ features_of owners (beside_numbers borders (take i sides)) ++ features_of owners (held_at borders (opposite_number n))
beside_more borders owners sides i n l e =
    let h : ℕ → List ℕ = λ a. held_at borders (opposite_number a) in
    ap (λ ns. features_of owners (flat_map h ns)) (take_more sides i n l ∙ ap (λ m. take i sides ++ m ∷ []) (sym e))
    ∙ ap (features_of owners) (flat_map-append h (take i sides) (n ∷ []) ∙ ap (λ ns. flat_map h (take i sides) ++ ns) (append-nil (h n)))
    ∙ map-append (slice_index owners) (flat_map h (take i sides)) (h n)

-- what holds of all sides, holds of those of a run and of the rest
pub all_front : {L : Type 0} (P : ℕ → Type 0) (side : L → ℕ) (rest run : List L) (k : ℕ) → run ≡ take k rest → All P (map side rest) → All P (map side run)
all_front P side rest run k e h = subst (All P) (sym (ap (map side) e ∙ sym (take-map side k rest))) (All-take P k (map side rest) h)

pub all_back : {L : Type 0} (P : ℕ → Type 0) (side : L → ℕ) (rest more : List L) (k : ℕ) → more ≡ drop k rest → All P (map side rest) → All P (map side more)
all_back P side rest more k e h = subst (All P) (sym (ap (map side) e ∙ sym (drop-map side k rest))) (All-drop P k (map side rest) h)

-- numbers of elements in another order
pub sorted_numbers : {L : Type 0} (side : L → ℕ) (xs ys : List L) (ns : List ℕ) → map side xs ≡ ns → IsPermutation xs ys → IsPermutation ns (map side ys)
sorted_numbers side xs ys ns e p = subst (λ ms. IsPermutation ms (map side ys)) e (IsPermutation-map side xs ys p)

-- one more feature, in the list of those appended so far
pub features_more : (owners ns : List ℕ) (i n v : ℕ) (first fs gs : List ℕ) → i < length ns → n ≡ get_or ns i n → v ≡ slice_index owners n
    → gs ≡ fs ++ v ∷ [] → fs ≡ first ++ features_of owners (take i ns) → gs ≡ first ++ features_of owners (take (i + 1) ns)
features_more owners ns i n v first fs gs l e is pushed h =
    pushed ∙ ap₂ (λ (xs ys : List ℕ). xs ++ ys) h (ap (λ w. w ∷ []) is)
    ∙ append_assoc first (features_of owners (take i ns)) (slice_index owners n ∷ [])
    ∙ ap (λ xs. first ++ xs) (sym (mapped_more (slice_index owners) ns i n l e))
