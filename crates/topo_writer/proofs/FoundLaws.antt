-- What is found after one more arc.
use Rattle.kit_words.proofs.Common.{◌≡◌, ℕ, ◌+◌, Bool, true, false, refl, sym, ap, ap₂, ◌∙◌, cond, List, [], ◌∷◌, ◌++◌}
use Rattle.kit_words.proofs.Common.{arith, length, ◌<◌, get_or, Option, Some, None, ℤ, pos, negsuc, is_some}
use Rattle.kit_words.proofs.Common.{get_or_default}
use Rattle.grid_geometry.specs.Common.{Position, position, Edge}
use Rattle.ring_machine.specs.Common.{edge_eq}
use Rattle.ring_machine.proofs.Common.{edge_eq-true, edge_eq-refl}
use Rattle.topo_writer.specs.Common.{first_edge, last_edge, found_from, arc_found, with_found, at_place}

abbrev or_else : Option ℤ → Option ℤ → Option ℤ
or_else None o = o
or_else (Some i) o = Some i

abbrev named : ℕ → List Position → Edge → Option ℤ
named n ps e = cond (edge_eq (first_edge ps) e) (Some (pos n)) (cond (edge_eq (last_edge ps) e) (Some (negsuc n)) None)

found_push : (n : ℕ) (arcs : List (List Position)) (ps : List Position) (e : Edge)
    → found_from n (arcs ++ ps ∷ []) e ≡ or_else (found_from n arcs e) (named (length arcs + n) ps e)
found_push n [] ps e = let k : 0 + n ≡ n = omega arith in ap (λ m. named m ps e) (sym k)
found_push n (a ∷ arcs) ps e = by (edge_eq (first_edge a) e) (edge_eq (last_edge a) e) (found_push (n + 1) arcs ps e)
  where
    count : length arcs + (n + 1) ≡ length (a ∷ arcs) + n
    count = omega arith

    by : (b c : Bool) → found_from (n + 1) (arcs ++ ps ∷ []) e ≡ or_else (found_from (n + 1) arcs e) (named (length arcs + (n + 1)) ps e)
        → cond b (Some (pos n)) (cond c (Some (negsuc n)) (found_from (n + 1) (arcs ++ ps ∷ []) e))
        ≡ or_else (cond b (Some (pos n)) (cond c (Some (negsuc n)) (found_from (n + 1) arcs e))) (named (length (a ∷ arcs) + n) ps e)
    by true c h = refl
    by false true h = refl
    by false false h = h ∙ ap (λ m. or_else (found_from (n + 1) arcs e) (named m ps e)) count

found_new : (arcs : List (List Position)) (ps : List Position) (e : Edge)
    → arc_found (arcs ++ ps ∷ []) e ≡ or_else (arc_found arcs e) (named (length arcs) ps e)
found_new arcs ps e =
    let k : length arcs + 0 ≡ length arcs = omega arith in
    found_push 0 arcs ps e ∙ ap (λ m. or_else (arc_found arcs e) (named m ps e)) k

pub found_first : (arcs : List (List Position)) (ps : List Position) → arc_found arcs (first_edge ps) ≡ None
    → arc_found (arcs ++ ps ∷ []) (first_edge ps) ≡ Some (pos (length arcs))
found_first arcs ps h =
    found_new arcs ps (first_edge ps)
    ∙ ap (λ o. or_else o (named (length arcs) ps (first_edge ps))) h
    ∙ ap (λ b. cond b (Some (pos (length arcs))) (cond (edge_eq (last_edge ps) (first_edge ps)) (Some (negsuc (length arcs))) None)) (edge_eq-refl (first_edge ps))

-- a piece whose first edge is found is no new arc
pub found_known : (arcs : List (List Position)) (piece : List Position) (e : Edge) (i : ℤ) (kept : Edge → Option ℤ) → ((f : Edge) → kept f ≡ arc_found arcs f)
    → e ≡ first_edge piece → Some i ≡ kept e → (with_found arcs piece ≡ arcs) × (arc_found arcs (first_edge piece) ≡ Some i)
found_known arcs piece e i kept m f h =
    let known : arc_found arcs (first_edge piece) ≡ Some i = ap (arc_found arcs) (sym f) ∙ sym (m e) ∙ sym h in
    (ap (λ o. cond (is_some o) arcs (arcs ++ piece ∷ [])) known, known)

-- two entries for one more arc, under edges that are its first and its last
module _ (arcs : List (List Position)) (ps : List Position) (g0 g1 g2 : Edge → Option ℤ) (f l : Edge) (i k : ℤ)
    (fe : f ≡ first_edge ps) (le : l ≡ last_edge ps) (ie : i ≡ pos (length arcs)) (ke : k ≡ negsuc (length arcs))
    (h0 : (e : Edge) → g0 e ≡ arc_found arcs e) (nf : arc_found arcs (first_edge ps) ≡ None) (nl : arc_found arcs (last_edge ps) ≡ None)
    (a : edge_eq (first_edge ps) (last_edge ps) ≡ false)
    (h1 : (e : Edge) → g1 e ≡ cond (edge_eq f e) (Some i) (g0 e)) (h2 : (e : Edge) → g2 e ≡ cond (edge_eq l e) (Some k) (g1 e)) where
  cases : (e : Edge) (b c : Bool) → edge_eq (last_edge ps) e ≡ b → edge_eq (first_edge ps) e ≡ c
      → cond b (Some (negsuc (length arcs))) (cond c (Some (pos (length arcs))) (arc_found arcs e))
      ≡ or_else (arc_found arcs e) (cond c (Some (pos (length arcs))) (cond b (Some (negsuc (length arcs))) None))
  cases e true c p q =
      let h = edge_eq-true (last_edge ps) e p in
      sym (ap₂ (λ o t. or_else o (cond t (Some (pos (length arcs))) (Some (negsuc (length arcs))))) (ap (arc_found arcs) (sym h) ∙ nl) (sym q ∙ ap (edge_eq (first_edge ps)) (sym h) ∙ a))
  cases e false true p q = sym (ap (λ o. or_else o (Some (pos (length arcs)))) (ap (arc_found arcs) (sym (edge_eq-true (first_edge ps) e q)) ∙ nf))
  cases e false false p q = grind arith

  one : (e : Edge) → g1 e ≡ cond (edge_eq (first_edge ps) e) (Some (pos (length arcs))) (arc_found arcs e)
  one e = h1 e ∙ ap₂ (λ x y. cond (edge_eq x e) (Some y) (g0 e)) fe ie ∙ ap (λ o. cond (edge_eq (first_edge ps) e) (Some (pos (length arcs))) o) (h0 e)

  pub found_both : (e : Edge) → g2 e ≡ arc_found (arcs ++ ps ∷ []) e
  found_both e =
      h2 e ∙ ap₂ (λ x y. cond (edge_eq x e) (Some y) (g1 e)) le ke ∙ ap (λ o. cond (edge_eq (last_edge ps) e) (Some (negsuc (length arcs))) o) (one e)
      ∙ cases e (edge_eq (last_edge ps) e) (edge_eq (first_edge ps) e) refl refl ∙ sym (found_new arcs ps e)

pub at_place_is : (ps : List Position) (i : ℕ) (x : Position) → i < length ps → x ≡ get_or ps i x → x ≡ at_place ps i
at_place_is ps i x h e = e ∙ get_or_default ps i x (position (pos 0) (pos 0)) h
