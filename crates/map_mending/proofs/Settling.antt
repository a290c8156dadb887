-- One item more, and one layer more, has the form that its polygons ask for.
use Rattle.kit_words.proofs.Common.{◌≡◌, ℕ, ◌+◌, ◌<◌, List, [], ◌∷◌, ◌++◌, map, length, take, drop, get_or, set, sym}
use Rattle.kit_words.proofs.Common.{ap, ap₂, ◌∙◌, arith, append_assoc, drop-drop, drop-map, drop-set-lt, get_or-drop}
use Rattle.kit_words.proofs.Common.{length-append, map-append, take_more_set}
use Rattle.topo_outline.specs.Common.{Piece, leaves_in}
use Rattle.topo_outline.proofs.Common.{tail_at}
use Rattle.topo_reader.specs.Common.{Polygons}
use Rattle.map_mending.specs.Common.{features_at}

-- ---- where the list has changed before the place alone

module _ {X : Type 0} (old now : List X) (i : ℕ) (x y : X) (lt : i < length now) (same : length now ≡ length old) (is : x ≡ get_or now i x) (ahead : drop i now ≡ drop i old) where
  pub next_of : drop i old ≡ x ∷ drop (i + 1) old
  next_of = tail_at x old i (omega (arith, lt, same)) there
    where
      there : x ≡ get_or old i x
      there =
          is ∙ ap (λ (k : ℕ). get_or now k x) (omega arith) ∙ sym (get_or-drop i now 0 x)
          ∙ ap (λ (zs : List X). get_or zs 0 x) ahead ∙ get_or-drop i old 0 x ∙ ap (λ (k : ℕ). get_or old k x) (omega arith)

  pub ahead_of : drop (i + 1) (set now i y) ≡ drop (i + 1) old
  ahead_of =
      drop-set-lt (i + 1) now i y (omega arith)
      ∙ sym (drop-drop 1 i now) ∙ ap (λ (zs : List X). drop 1 zs) ahead ∙ drop-drop 1 i old

  -- ---- what is made of the list, place by place

  module _ {P F : Type 0} (v : X → P) (q : F → Polygons) (one : List Polygons → P → P) (count : P → ℕ) (made : List Polygons → List P → List P) (step : (all : List Polygons) (p : P) (ps : List P) → made all (p ∷ ps) ≡ one all p ∷ made (drop (count p) all) ps) where
    pub settled_more : (rest rest' : List F) (target : List P)
        → map v (take i now) ++ made (map q rest) (map v (drop i old)) ≡ target
        → v y ≡ one (map q rest) (v x) → rest' ≡ drop (count (v x)) rest
        → map v (take (i + 1) (set now i y)) ++ made (map q rest') (map v (drop (i + 1) old)) ≡ target
    settled_more rest rest' target h e r =
        ap (λ (zs : List X). map v zs ++ made (map q rest') (map v (drop (i + 1) old))) (take_more_set now i y lt)
        ∙ ap (λ (ps : List P). ps ++ made (map q rest') (map v (drop (i + 1) old))) (map-append v (take i now) (y ∷ []))
        ∙ append_assoc (map v (take i now)) (v y ∷ []) (made (map q rest') (map v (drop (i + 1) old)))
        ∙ ap (λ (ps : List P). map v (take i now) ++ ps) tail
        ∙ h
      where
        tail : v y ∷ made (map q rest') (map v (drop (i + 1) old)) ≡ made (map q rest) (map v (drop i old))
        tail =
            ap₂ (λ (p : P) (all : List Polygons). p ∷ made all (map v (drop (i + 1) old))) e
            (ap (λ (zs : List F). map q zs) r ∙ sym (drop-map q (count (v x)) rest))
            ∙ sym (step (map q rest) (v x) (map v (drop (i + 1) old)))
            ∙ ap (λ (zs : List X). made (map q rest) (map v zs)) (sym next_of)

  -- ---- how many features are left

  module _ {F : Type 0} (v : X → Piece) where
    pub left_more : (rest rest' last : List F) → drop (length (leaves_in (map v (drop i old)))) rest ≡ last
        → rest' ≡ drop (features_at (v x)) rest
        → drop (length (leaves_in (map v (drop (i + 1) old)))) rest' ≡ last
    unfolding leaves_in
    left_more rest rest' last h r =
        ap (λ (zs : List F). drop k zs) r
        ∙ drop-drop k (features_at (v x)) rest
        ∙ ap (λ (n : ℕ). drop n rest) (sym counted)
        ∙ h
      where
        k : ℕ
        k = length (leaves_in (map v (drop (i + 1) old)))

        counted : length (leaves_in (map v (drop i old))) ≡ features_at (v x) + k
        counted =
            ap (λ (zs : List X). length (leaves_in (map v zs))) next_of
            ∙ length-append _ (leaves_in (map v (drop (i + 1) old)))

-- where nothing is left, no feature is
pub left_none : {X F : Type 0} (v : X → Piece) (old : List X) (i : ℕ) (rest : List F) → drop i old ≡ []
    → drop (length (leaves_in (map v (drop i old)))) rest ≡ rest
unfolding leaves_in
left_none {X = X} {F = F} v old i rest e = ap (λ (zs : List X). drop (length (leaves_in (map v zs))) rest) e
