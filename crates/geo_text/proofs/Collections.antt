-- A layer that is a collection, and its geometries.
use Rattle.kit_words.proofs.Common.{◌≡◌, ◌≤◌, ◌-◌, ◌∙◌, ◌∷◌, [], Bool, true, false, List, length, map, take, drop, get_or, Option, Some, None, is_some, option_map, ap, refl, sym, subst, Bor, list_is, length-map, take-map}
use Rattle.ring_machine.specs.Common.{Head}
use Rattle.topo_outline.specs.Common.{Piece, ends, leaf, starts, text, view_head, view_item}
use Rattle.topo_outline.specs.declared.document.Head.{Head as CodeHead}
use Rattle.topo_outline.specs.declared.document.Item.{Item}
use Rattle.geo_text.specs.Found.{head_of_pieces, inside_pieces}

plain : (p : Piece) (ps : List Piece) → is_some (head_of_pieces (p ∷ [])) ≡ false → p ∷ ps ≡ inside_pieces (p ∷ ps)
plain (starts h) ps e = absurd cc
plain ends ps e = refl
plain (leaf form head arcs) ps e = refl
plain (text t) ps e = refl

collected : (p : Piece) (ps : List Piece) → is_some (head_of_pieces (p ∷ [])) ≡ true → take (length ps - 1) ps ≡ inside_pieces (p ∷ ps)
collected (starts h) ps e = refl
collected ends ps e = absurd cc
collected (leaf form head arcs) ps e = absurd cc
collected (text t) ps e = absurd cc

as_there : {A : Type 0} (o : Option (Bor (CodeHead A))) (q : Option Head) → option_map (λ h. view_head h.now) o ≡ q → is_some q ≡ is_some o
as_there None q e = ap is_some (sym e)
as_there (Some h) q e = ap is_some (sym e)

module _ {A : Type 0} (items : List (Item A)) (first : Item A) (o : Option (Bor (CodeHead A))) (long : 1 ≤ length items) (is : first ≡ get_or items 0 first)
    (head : option_map (λ h. view_head h.now) o ≡ head_of_pieces (view_item first ∷ [])) where
  -- a layer that is one geometry
  pub inside_plain : is_some o ≡ false → map view_item items ≡ inside_pieces (map view_item items)
  inside_plain none =
      subst (λ (z : List (Item A)). map view_item z ≡ inside_pieces (map view_item z)) (list_is items first long is)
      (plain (view_item first) (map view_item (take (length items - 1) (drop 1 items))) (as_there o (head_of_pieces (view_item first ∷ [])) head ∙ none))

  -- a collection
  pub inside_collection : is_some o ≡ true
      → map view_item (take (length (take (length items - 1) (drop 1 items)) - 1) (take (length items - 1) (drop 1 items))) ≡ inside_pieces (map view_item items)
  inside_collection some =
      let rest : List (Item A) = take (length items - 1) (drop 1 items) in
      sym (take-map view_item (length rest - 1) rest) ∙ ap (λ n. take (n - 1) (map view_item rest)) (sym (length-map rest view_item))
      ∙ collected (view_item first) (map view_item rest) (as_there o (head_of_pieces (view_item first ∷ [])) head ∙ some)
      ∙ ap (λ (z : List (Item A)). inside_pieces (map view_item z)) (list_is items first long is)
