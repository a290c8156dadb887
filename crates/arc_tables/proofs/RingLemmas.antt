-- The tables as a map of rings: what a ring has, and what a change of the tables does to the map.
use Rattle.kit_words.proofs.Common.{◌≡◌, ◌≢◌, ℕ, zero, suc, ◌+◌, ◌<◌, ◌≤◌, Bool, true, false, cond, List, [], ◌∷◌, ◌++◌}
use Rattle.kit_words.proofs.Common.{map, length, get_or, Option, Some, None, is_some, refl, sym, ap, ◌∙◌, arith}
use Rattle.kit_words.proofs.Common.{slice_index_or, nat_cmp, eq_by_cmp, nat_cmp_total, nat_tests, same_map}
use Rattle.kit_words.proofs.Common.{nat_cmp-IsAntisymmetric}
use Rattle.std.specs.FinMap as rings
use Rattle.slab.specs.Slab as slab
use Rattle.slab.specs.Slab.{Slab, get}
use Rattle.arc_tables.specs.Common.{Ring, Tables, Edge, chain, edges_of, links, Grows, Keeps, TakesOut, Rings, edges}
use Rattle.arc_tables.specs.Common.{path_of, uses_in, store, SameKeys, edges_in, rings_of, HoldsOneMore}
use Rattle.arc_tables.proofs.Moves.{takes_out_leaves}

-- ---- a map from slots

module _ {X : Type 0} where
  -- no key stands below the first
  find_below : (slots : List (Option X)) (q i : ℕ) → q < i → rings.find nat_cmp q (slab.entries_from i slots) ≡ None
  find_below [] q i h = refl
  find_below (None ∷ rest) q i h = find_below rest q (i + 1) (omega arith)
  find_below (Some p ∷ rest) q i h = grind (arith, nat_tests, find_below rest q (i + 1))

  find_slot : (slots : List (Option X)) (q i j : ℕ) → q ≡ i + j → rings.find nat_cmp q (slab.entries_from i slots) ≡ slice_index_or slots j None
  find_slot [] q i j h = refl
  find_slot (None ∷ rest) q i zero h = find_below rest q (i + 1) (omega arith)
  find_slot (None ∷ rest) q i (suc j) h = find_slot rest q (i + 1) j (omega arith)
  find_slot (Some p ∷ rest) q i zero h = grind (arith, nat_tests)
  find_slot (Some p ∷ rest) q i (suc j) h = grind (arith, nat_tests, find_slot rest q (i + 1) j (omega arith))

pub mapped_slot : {X Y : Type 0} (f : Option X → Option Y) → f None ≡ None → (slots : List (Option X)) (k : ℕ) → slice_index_or (map f slots) k None ≡ f (slice_index_or slots k None)
mapped_slot f e [] k = sym e
mapped_slot f e (s ∷ rest) zero = refl
mapped_slot f e (s ∷ rest) (suc k) = mapped_slot f e rest k

-- ---- the rings of tables

-- two maps are equal where they answer alike
same : (m n : Rings) → ((j : ℕ) → rings.get m j ≡ rings.get n j) → m ≡ n
same m n alike = same_map nat_cmp_total nat_cmp-IsAntisymmetric m n alike

module _ {A : Type 0} where
  -- what the map has under a number
  pub get_rings : (t : Tables A) (k : ℕ) → rings.get (rings_of t) k ≡ edges_in (path_of t) (get t.rings k)
  get_rings t k =
      let slots = map (edges_in (path_of t)) t.rings.slots in
      rings.get-from_entries nat_cmp_total (slab.entries_from 0 slots) k
      ∙ find_slot slots k 0 k (omega arith)
      ∙ mapped_slot (edges_in (path_of t)) refl t.rings.slots k

  edges_here : (path : ℕ → List ℕ) (o : Option (Ring A)) → is_some o ≡ true → edges_in path o ≡ Some (chain path (uses_in o))
  edges_here path o h = grind arith

  edges_alike : (path path' : ℕ → List ℕ) (o o' : Option (Ring A)) → is_some o' ≡ is_some o → chain path' (uses_in o') ≡ chain path (uses_in o) → edges_in path' o' ≡ edges_in path o
  edges_alike path path' o o' h e = grind arith

  pub none_there : (t : Tables A) (k : ℕ) → get t.rings k ≡ None → rings.get (rings_of t) k ≡ None
  none_there t k e = get_rings t k ∙ ap (edges_in (path_of t)) e

  ring_alike : (s t : Tables A) (k : ℕ) → is_some (get t.rings k) ≡ is_some (get s.rings k) → edges_of (store t) k ≡ edges_of (store s) k → rings.get (rings_of t) k ≡ rings.get (rings_of s) k
  ring_alike s t k h e = get_rings t k ∙ edges_alike (path_of s) (path_of t) (get s.rings k) (get t.rings k) h e ∙ sym (get_rings s k)

  kept_some : (path : ℕ → List ℕ) (o : Option (Ring A)) → is_some (edges_in path o) ≡ is_some o
  kept_some path o = grind arith

  pub holds_ring : (t : Tables A) (k : ℕ) (m : Rings) → rings_of t ≡ m → rings.contains_key m k ≡ is_some (get t.rings k)
  holds_ring t k m e = ap (λ z. is_some (rings.get z k)) (sym e) ∙ ap is_some (get_rings t k) ∙ kept_some (path_of t) (get t.rings k)

  -- a ring that is held, and its edges
  pub held_ring : (t : Tables A) (k : ℕ) → rings.contains_key (rings_of t) k ≡ true → is_some (get t.rings k) ≡ true
  held_ring t k h = sym (holds_ring t k (rings_of t) refl) ∙ h

  pub ring_here : (t : Tables A) (k : ℕ) → is_some (get t.rings k) ≡ true → rings.get (rings_of t) k ≡ Some (edges_of (store t) k)
  ring_here t k h = get_rings t k ∙ edges_here (path_of t) (get t.rings k) h

  -- no ring changed
  pub rings_kept : (s t : Tables A) → SameKeys s.rings t.rings → Keeps (store s) (store t) → rings_of t ≡ rings_of s
  rings_kept s t h k = same (rings_of t) (rings_of s) (λ j. ring_alike s t j (h j) (k.same j))

  -- a ring came in
  pub rings_grown : (s t : Tables A) (r : ℕ) (es : List Edge) → get s.rings r ≡ None → HoldsOneMore s.rings t.rings r → Grows r es (store s) (store t) → rings_of t ≡ rings.insert (rings_of s) r es
  rings_grown s t r es vacant held g = same (rings_of t) (rings.insert (rings_of s) r es) (λ j. by j (eq_by_cmp nat_cmp j r) refl ∙ sym (rings.get-insert nat_cmp_total (rings_of s) r es j))
    where
      here : rings.get (rings_of t) r ≡ Some es
      here = get_rings t r ∙ edges_here (path_of t) (get t.rings r) held.here ∙ ap (λ z. Some z) (g.grown ∙ ap (λ o. chain (path_of s) (uses_in o) ++ es) vacant)

      by : (j : ℕ) (b : Bool) → eq_by_cmp nat_cmp j r ≡ b → rings.get (rings_of t) j ≡ cond (eq_by_cmp nat_cmp j r) (Some es) (rings.get (rings_of s) j)
      by j true e = let at_r : j ≡ r = grind (arith, nat_tests) in ap (rings.get (rings_of t)) at_r ∙ here ∙ sym (ap (λ b. cond b (Some es) (rings.get (rings_of s) j)) e)
      by j false e = let f : j ≢ r = grind (arith, nat_tests) in ring_alike s t j (held.others j f) (g.others j f) ∙ sym (ap (λ b. cond b (Some es) (rings.get (rings_of s) j)) e)

  -- a ring went
  pub rings_taken : (s t : Tables A) (r : ℕ) → get t.rings r ≡ None → ((k : ℕ) → k ≢ r → get t.rings k ≡ get s.rings k) → TakesOut r (store s) (store t) → rings_of t ≡ rings.remove (rings_of s) r
  rings_taken s t r gone o c = same (rings_of t) (rings.remove (rings_of s) r) (λ j. by j (eq_by_cmp nat_cmp j r) refl ∙ sym (rings.get-remove nat_cmp_total (rings_of s) r j))
    where
      by : (j : ℕ) (b : Bool) → eq_by_cmp nat_cmp j r ≡ b → rings.get (rings_of t) j ≡ cond (eq_by_cmp nat_cmp j r) None (rings.get (rings_of s) j)
      by j true e = let at_r : j ≡ r = grind (arith, nat_tests) in ap (rings.get (rings_of t)) at_r ∙ none_there t r gone ∙ sym (ap (λ b. cond b None (rings.get (rings_of s) j)) e)
      by j false e = let f : j ≢ r = grind (arith, nat_tests) in ring_alike s t j (ap is_some (o j f)) ((takes_out_leaves r (store s) (store t) c).others j f) ∙ sym (ap (λ b. cond b None (rings.get (rings_of s) j)) e)

-- the keys of a ring, with the first again as the last
pub around : (keys all : List ℕ) (k : ℕ) → 1 ≤ length keys → k ≡ get_or keys 0 k → all ≡ keys ++ k ∷ [] → links all ≡ edges keys
around [] all k l e a = absurd (omega arith)
around (x ∷ keys) all k l e a = ap links (a ∙ ap (λ z. x ∷ keys ++ z ∷ []) e)
