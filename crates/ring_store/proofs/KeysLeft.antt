-- A ring that is gone along key by key.
use Rattle.kit_words.proofs.Common.{◌≡◌, ℕ, zero, suc, ◌+◌, ◌-◌, ◌<◌, ◌≤◌, Bool, true, false, cond, Some, IsSome}
use Rattle.kit_words.proofs.Common.{option_map, List, [], ◌∷◌, ◌++◌, drop, length, get_or, refl, sym, ap, ◌∙◌, subst}
use Rattle.kit_words.proofs.Common.{arith, drop-cons, drop_all, map-append, get_or-reverse, length-take-le}
use Rattle.std.specs.FinMap as rings
use Rattle.slab.specs.Slab.{Slab, get}
use Rattle.arc_tables.specs.declared.arc.Use.{Use}
use Rattle.arc_tables.specs.declared.arc.Arc.{Arc}
use Rattle.arc_tables.specs.declared.arc.Ring.{Ring}
use Rattle.arc_tables.specs.declared.tables.Tables.{Tables}
use Rattle.arc_tables.specs.Common.{links, walk, chain, begins, path_in, path_of, uses_in, rings_of}
use Rattle.ring_store.specs.Common.{keys_left}
use Rattle.ring_store.specs.Coming.{from_place}
use Rattle.ring_store.proofs.ReadLemmas.{begins_links, length-walk}
use Rattle.arc_tables.proofs.Common.{ring_here}

length-begins : (back : Bool) (ps : List ℕ) → length (begins (links (walk back ps))) ≡ length ps - 1
length-begins back ps =
    let w = walk back ps in
    ap length (begins_links w) ∙ length-take-le (length w - 1) w (omega arith) ∙ ap (λ n. n - 1) (length-walk back ps)

get_or-begins : (ps : List ℕ) (i d : ℕ) → i + 1 < length ps → get_or (begins (links ps)) i d ≡ get_or ps i d
get_or-begins [] i d l = absurd (omega arith)
get_or-begins (p ∷ []) i d l = absurd (omega arith)
get_or-begins (p ∷ q ∷ ps) zero d l = refl
get_or-begins (p ∷ q ∷ ps) (suc i) d l = get_or-begins (q ∷ ps) i d (omega arith)

get_or-walk : (back : Bool) (ps : List ℕ) (at place x : ℕ) → 1 ≤ at → at < length ps → place ≡ cond back (length ps - at) (at - 1) → x ≡ get_or ps place x → get_or (walk back ps) (at - 1) x ≡ x
get_or-walk true ps at place x l m n e = get_or-reverse ps (at - 1) x (omega arith) ∙ ap (λ k. get_or ps k x) (omega (arith, n)) ∙ sym e
get_or-walk false ps at place x l m n e = ap (λ k. get_or ps k x) (sym n) ∙ sym e

-- a path that was gone through
none_from : (path : List ℕ) (back : Bool) (at : ℕ) → length path ≤ at → from_place path back at ≡ []
none_from path back at l = drop_all (at - 1) (begins (links (walk back path))) (omega (arith, length-begins back path))

-- the next key of a path
next_from : (path : List ℕ) (back : Bool) (at place x : ℕ) → 1 ≤ at → at < length path → place ≡ cond back (length path - at) (at - 1) → x ≡ get_or path place x → from_place path back at ≡ x ∷ from_place path back (at + 1)
next_from path back at place x l m n e =
    let bs = begins (links (walk back path)) in
    let same : suc (at - 1) ≡ at + 1 - 1 = omega arith in
    drop-cons bs (at - 1) x (omega (arith, length-begins back path))
    ∙ ap (λ k. k ∷ drop (suc (at - 1)) bs) (get_or-begins (walk back path) (at - 1) x (omega (arith, length-walk back path)) ∙ get_or-walk back path at place x l m n e)
    ∙ ap (λ k. x ∷ drop k bs) same

module _ {A : Type 0} where
  -- on with the next use
  pub left_turned : (arcs : Slab (Arc A)) (u : Use) (us : List Use) (path : List ℕ) (back : Bool) (at : ℕ) → length path ≤ at →
      keys_left arcs us (path_in (get arcs u.arc)) u.back 1 ≡ keys_left arcs (u ∷ us) path back at
  left_turned arcs u us path back at l =
      let paths : ℕ → List ℕ = λ i. path_in (get arcs i) in
      sym (map-append _ (links (walk u.back (paths u.arc))) (chain paths us))
      ∙ ap (λ z. z ++ begins (chain paths (u ∷ us))) (sym (none_from path back at l))

  -- no use is left
  pub left_none : (arcs : Slab (Arc A)) (us : List Use) (path : List ℕ) (back : Bool) (at : ℕ) → length us ≡ 0 → length path ≤ at → keys_left arcs us path back at ≡ []
  left_none arcs [] path back at z l = ap (λ k. k ++ []) (none_from path back at l)
  left_none arcs (u ∷ us) path back at z l = absurd (omega (arith, z))

  -- a key is given
  pub left_next : (arcs : Slab (Arc A)) (us : List Use) (path : List ℕ) (back : Bool) (at place x : ℕ) → 1 ≤ at → at < length path → place ≡ cond back (length path - at) (at - 1) → x ≡ get_or path place x →
      keys_left arcs us path back at ≡ x ∷ keys_left arcs us path back (at + 1)
  left_next arcs us path back at place x l m n e = ap (λ z. z ++ begins (chain (λ i. path_in (get arcs i)) us)) (next_from path back at place x l m n e)

  -- the keys along the uses of a ring are its keys
  pub keys_here : (t : Tables A) (r : ℕ) (g : Ring A) → Some g ≡ get t.rings r → Some (begins (chain (path_of t) g.uses.items)) ≡ option_map begins (rings.get (rings_of t) r)
  keys_here t r g e =
      ap (λ o. Some (begins (chain (path_of t) (uses_in o)))) e
      ∙ ap (option_map begins) (sym (ring_here t r (subst (λ o. IsSome o) e refl)))
