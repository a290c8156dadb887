-- A laid walk goes along each link of each of its segments.
use Rattle.kit_words.proofs.Common.{◌≡◌, Bool, true, false, refl, sym, ap, ap₂, ◌∙◌, subst, cond, List, [], ◌∷◌, ◌++◌}
use Rattle.kit_words.proofs.Common.{map, length, reverse, Contains, arith, flat_map, reverse-append, reverse-reverse}
use Rattle.kit_words.proofs.Common.{IsPermutation-reverse}
use Rattle.grid_geometry.specs.Common.{Position, position_lt, Edge, links, edges}
use Rattle.grid_geometry.proofs.Common.{segment-comm}
use Rattle.ring_machine.specs.Common.{Chain, segment_of, segments}
use Rattle.ring_machine.proofs.Common.{flip, links-reverse, starts, starts_of, closed, edited_chain, starts-flat_map}
use Rattle.ring_machine.proofs.Common.{In, contains_in, in_contains, in_mapped, in-map, in-flat_map, in_permuted}
use Rattle.segment_paths.specs.Common.{PathOfSegment, inner_of, links_of}
use Rattle.walk_mending.specs.Common.{edge_along, laid, GoesAlong}
use Rattle.walk_mending.proofs.Along.{up, down}

-- ---- from one position over others to the next

starts_links : (a b : Position) (ps : List Position) → starts (links (a ∷ ps ++ b ∷ [])) ≡ a ∷ ps
starts_links a b [] = refl
starts_links a b (p ∷ ps) = ap (λ z. a ∷ z) (starts_links p b ps)

chain_links : (a b : Position) (ps : List Position) → Chain a (links (a ∷ ps ++ b ∷ [])) b
chain_links a b [] = (refl, refl)
chain_links a b (p ∷ ps) = (refl, chain_links p b ps)

in_reversed : {A : Type 0} (a : A) (xs : List A) → In a xs → In a (reverse xs)
in_reversed a xs i = in_permuted (reverse xs) (reverse (reverse xs)) (IsPermutation-reverse (reverse xs)) a (subst (In a) (sym (reverse-reverse xs)) i)

module _ (paths : List PathOfSegment) where
  abbrev inner_along : Edge → List Position
  inner_along e = cond (position_lt e.0 e.1) (inner_of paths (segment_of e)) (reverse (inner_of paths (segment_of e)))

  -- what becomes of an edge
  abbrev links_on : Edge → List Edge
  links_on e = links (e.0 ∷ inner_along e ++ e.1 ∷ [])

  laid_is : (es : List Edge) → flat_map (edge_along paths) es ≡ flat_map (starts_of links_on) es
  laid_is [] = refl
  laid_is (e ∷ es) = ap₂ (λ y z. y ++ z) (sym (starts_links e.0 e.1 (inner_along e))) (laid_is es)

  laid_edges : (walk : List Position) → edges (laid paths walk) ≡ flat_map links_on (edges walk)
  laid_edges [] = refl
  laid_edges (p ∷ ps) =
      ap edges (laid_is (edges (p ∷ ps)) ∙ sym (starts-flat_map links_on (edges (p ∷ ps))))
      ∙ closed p (flat_map links_on (edges (p ∷ ps)))
      (edited_chain links_on (λ z. z) (λ e. chain_links e.0 e.1 (inner_along e)) p (edges (p ∷ ps)) p (chain_links p p ps))

  -- a link of the segment of an edge is one of the edge, in one direction or the other
  on_edge : (e l : Edge) → In l (links ((segment_of e).lo ∷ inner_of paths (segment_of e) ++ (segment_of e).hi ∷ []))
      → (k : Edge) × In k (links_on e) × (segment_of k ≡ segment_of l)
  on_edge e l i = by (position_lt e.0 e.1) refl
    where
      inner : List Position
      inner = inner_of paths (segment_of e)

      by : (b : Bool) → position_lt e.0 e.1 ≡ b → (k : Edge) × In k (links_on e) × (segment_of k ≡ segment_of l)
      by true h = (
        l,
        subst (λ b. In l (links (e.0 ∷ cond b inner (reverse inner) ++ e.1 ∷ []))) (sym h)
            (subst (λ t. In l (links (t.lo ∷ inner ++ t.hi ∷ []))) (up e.0 e.1 h) i),
        refl,
      )
      by false h =
          let there : In l (links (e.1 ∷ inner ++ e.0 ∷ [])) = subst (λ t. In l (links (t.lo ∷ inner ++ t.hi ∷ []))) (down e.0 e.1 h) i in
          let turned : reverse (e.1 ∷ inner ++ e.0 ∷ []) ≡ e.0 ∷ reverse inner ++ e.1 ∷ [] =
          reverse-append (e.1 ∷ []) (inner ++ e.0 ∷ []) ∙ ap (λ z. z ++ e.1 ∷ []) (reverse-append inner (e.0 ∷ [])) in
          let flipped_there : In (flip l) (links (e.0 ∷ reverse inner ++ e.1 ∷ [])) =
          subst (λ z. In (flip l) (links z)) turned
          (subst (In (flip l)) (sym (links-reverse (e.1 ∷ inner ++ e.0 ∷ [])))
          (in_reversed (flip l) (map flip (links (e.1 ∷ inner ++ e.0 ∷ []))) (in-map flip l (links (e.1 ∷ inner ++ e.0 ∷ [])) there))) in (
            flip l,
            subst (λ b. In (flip l) (links (e.0 ∷ cond b inner (reverse inner) ++ e.1 ∷ []))) (sym h) flipped_there,
            segment-comm l.1 l.0,
          )

  pub laid_goes : (walk : List Position) → GoesAlong paths walk (laid paths walk)
  laid_goes walk s link i j =
      let e = in_mapped segment_of s (edges walk) (contains_in (segments walk) s i) in
      let own = subst (λ t. Contains (links_of paths t) link) (sym e.2) j in
      let l = in_mapped segment_of link _ (contains_in _ link own) in
      let k = on_edge e.0 l.0 l.1 in
      in_contains (segments (laid paths walk)) link
      (subst (λ es. In link (map segment_of es)) (sym (laid_edges walk))
      (subst (λ t. In t (map segment_of (flat_map links_on (edges walk)))) (k.2 ∙ l.2)
      (in-map segment_of k.0 (flat_map links_on (edges walk)) (in-flat_map links_on e.0 k.0 (edges walk) e.1 k.1))))

pub goes_if : (paths : List PathOfSegment) (walk found : List Position) → found ≡ laid paths walk → GoesAlong paths walk found
goes_if paths walk found e = subst (GoesAlong paths walk) (sym e) (laid_goes paths walk)

pub none_goes : (paths : List PathOfSegment) (walk found : List Position) → length walk ≡ 0 → GoesAlong paths walk found
none_goes paths [] found l s link i j = absurd (contains_in [] s i)
none_goes paths (p ∷ ps) found l s link i j = absurd (omega arith)
