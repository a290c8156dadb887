-- An edit of each arc edge by edge is the edit of each ring.
use Rattle.kit_words.proofs.Common.{◌≡◌, refl, sym, ap, ap₂, ◌∙◌, ℕ, Bool, true, false, List, [], ◌∷◌, ◌++◌, Option}
use Rattle.kit_words.proofs.Common.{Some, None, option_map, is_some, subst, Contains, arith, ◌≢◌, ◌⊎◌, inl, inr}
use Rattle.kit_words.proofs.Common.{flat_map, append-nil, flat_map-append}
use Rattle.std.specs.FinMap as rings
use Rattle.slab.specs.Slab.{Slab, get}
use Rattle.arc_tables.specs.Common.{Use, Arc, Ring, Stand, Tables, Edge, links, walk, chain, times, Once, path_of}
use Rattle.arc_tables.specs.Common.{path_in, uses_in, stand_at, store, SamePaths, Listed, ListsMore, edges_in, rings_of}
use Rattle.arc_tables.proofs.Moves.{flip, flipped, flipped-append, links-reverse, keeps_same}
use Rattle.arc_tables.proofs.RingLemmas.{get_rings, rings_kept}
use Rattle.arc_tables.proofs.Segments.{once_for}
use Rattle.arc_tables.proofs.WholeLemmas.{listed_but}

-- the edit of an edge in reverse is the reverse of its edit
abbrev pub Turns : (Edge → List Edge) → Type 0
Turns g = (e : Edge) → g (flip e) ≡ flipped (g e)

-- each path of t is that of s, edited
abbrev pub EditsArcs : (Edge → List Edge) → (ℕ → List ℕ) → (ℕ → List ℕ) → Type 0
EditsArcs g s t = (i : ℕ) → links (t i) ≡ flat_map g (links (s i))

pub edit-flipped : (g : Edge → List Edge) → Turns g → (es : List Edge) → flat_map g (flipped es) ≡ flipped (flat_map g es)
edit-flipped g t [] = refl
edit-flipped g t (e ∷ es) =
    ap (flat_map g) (flipped-append (e ∷ []) es)
    ∙ flat_map-append g (flipped es) (flip e ∷ [])
    ∙ ap₂ (λ y z. y ++ z) (edit-flipped g t es) (append-nil (g (flip e)) ∙ t e)
    ∙ sym (flipped-append (g e) (flat_map g es))

edited_walk : (g : Edge → List Edge) (ps qs : List ℕ) → Turns g → links qs ≡ flat_map g (links ps) → (back : Bool) → links (walk back qs) ≡ flat_map g (links (walk back ps))
edited_walk g ps qs t k false = k
edited_walk g ps qs t k true = links-reverse qs ∙ ap flipped k ∙ sym (edit-flipped g t (links ps)) ∙ ap (flat_map g) (sym (links-reverse ps))

pub edited_chain : (g : Edge → List Edge) (s t : ℕ → List ℕ) → Turns g → EditsArcs g s t → (us : List Use) → chain t us ≡ flat_map g (chain s us)
edited_chain g s t turns k [] = refl
edited_chain g s t turns k (u ∷ us) =
    ap₂ (λ y z. y ++ z) (edited_walk g (s u.arc) (t u.arc) turns (k u.arc) u.back) (edited_chain g s t turns k us)
    ∙ sym (flat_map-append g (links (walk u.back (s u.arc))) (chain s us))

module _ {A : Type 0} where
  -- every ring that the map has is edited
  pub edited_everywhere : (g : Edge → List Edge) (s t : Tables A) → Turns g → EditsArcs g (path_of s) (path_of t) → t.rings ≡ s.rings → (r : ℕ) → rings.get (rings_of t) r ≡ option_map (flat_map g) (rings.get (rings_of s) r)
  edited_everywhere g s t turns k same r =
      get_rings t r ∙ ap (λ z. edges_in (path_of t) (get z r)) same ∙ by (get s.rings r) ∙ ap (option_map (flat_map g)) (sym (get_rings s r))
    where
      by : (o : Option (Ring A)) → edges_in (path_of t) o ≡ option_map (flat_map g) (edges_in (path_of s) o)
      by None = refl
      by (Some v) = ap (λ z. Some z) (edited_chain g (path_of s) (path_of t) turns k v.uses.items)

  -- no path and no use changed
  pub rings_unedited : (s t : Tables A) → SamePaths s.arcs t.arcs → t.rings ≡ s.rings → rings_of t ≡ rings_of s
  rings_unedited s t paths same = rings_kept s t (λ k. ap (λ z. is_some (get z k)) same) (keeps_same (store s) (store t) paths (λ k. ap (λ z. uses_in (get z k)) same))

  -- one arc has other keys, the vertices of which list it
  pub listed_edited : (arcs arcs' : Slab (Arc A)) (ss ss' : List Stand) (i q : ℕ) → ((k : ℕ) → Contains (path_in (get arcs' i)) k → Contains (path_in (get arcs i)) k ⊎ (k ≡ q)) → ((j : ℕ) → j ≢ i → get arcs' j ≡ get arcs j) →
      ListsMore ss ss' → Contains (stand_at ss' q) i → Listed arcs ss → Listed arcs' ss'
  listed_edited arcs arcs' ss ss' i q keys others more noted h = listed_but arcs arcs' ss ss' i (λ k m. elim (keys k m) [ inl y ↦ more k i (h i k y) | inr f ↦ subst (λ n. Contains (stand_at ss' n) i) (sym f) noted ]) others more h

-- the same paths
pub once_alike : (s t : ℕ → List ℕ) → ((i : ℕ) → t i ≡ s i) → Once s → Once t
once_alike s t same h = once_for s t (λ c d. (c, d, λ i. omega (arith, ap (λ z. times c d (links z)) (same i)))) h
