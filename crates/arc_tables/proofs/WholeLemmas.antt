-- Tables that hold the same belong together still.
use Rattle.kit_words.proofs.Common.{◌≡◌, ◌≢◌, ℕ, refl, sym, subst, List, Contains, Some, None, [], ◌∷◌, ◌++◌}
use Rattle.kit_words.proofs.Common.{inl, inr, arith, Contains-push_cases, cases_eq}
use Rattle.slab.specs.Slab.{Slab, get}
use Rattle.arc_tables.specs.Common.{Arc, Ring, Stand, Edge, Grows, Tables, path_in, stand_at, Listed, ListsMore}
use Rattle.arc_tables.specs.Common.{Whole, SameRings, SamePaths, SameKeys, SameUsers, store, store_of}
use Rattle.arc_tables.proofs.Moves.{kept_grows, keeps_same}
use Rattle.arc_tables.proofs.Growing.{known_alike, same_users}

module _ {A : Type 0} where
  -- the same arcs and uses, and no vertex forgot an arc
  pub whole_alike : (s t : Tables A) → ((j : ℕ) → get t.arcs j ≡ get s.arcs j) → SameRings s.rings t.rings → ListsMore s.stands.items t.stands.items → Whole s → Whole t
  whole_alike s t arcs rings more w = record {
    known = known_alike s.arcs t.arcs s.rings t.rings (same_users s.arcs t.arcs arcs) rings w.known;
    listed = λ j k m. more k j (w.listed j k (subst (λ o. Contains (path_in o) k) (arcs j) m));
  }

  -- the same paths, and no vertex forgot an arc
  pub listed_paths : (arcs arcs' : Slab (Arc A)) (ss ss' : List Stand) → SamePaths arcs arcs' → ListsMore ss ss' → Listed arcs ss → Listed arcs' ss'
  listed_paths arcs arcs' ss ss' same more h j k m = more k j (h j k (subst (λ z. Contains z k) (same j) m))

  pub whole_same : (s t : Tables A) → SamePaths s.arcs t.arcs → SameUsers s.arcs t.arcs → SameRings s.rings t.rings → ListsMore s.stands.items t.stands.items → Whole s → Whole t
  whole_same s t paths m rings more w = record {
    known = known_alike s.arcs t.arcs s.rings t.rings m rings w.known;
    listed = listed_paths s.arcs t.arcs s.stands.items t.stands.items paths more w.listed;
  }

  -- arc n, which is new, is listed for its vertices
  -- one arc changed, and its vertices list it
  pub listed_but : (arcs arcs' : Slab (Arc A)) (ss ss' : List Stand) (n : ℕ) → ((k : ℕ) → Contains (path_in (get arcs' n)) k → Contains (stand_at ss' k) n) → ((j : ℕ) → j ≢ n → get arcs' j ≡ get arcs j) →
      ListsMore ss ss' → Listed arcs ss → Listed arcs' ss'
  listed_but arcs arcs' ss ss' n here o more h j k m = elim (cases_eq j n) [
    | inl f ↦ subst (λ z. Contains (stand_at ss' k) z) (sym f) (here k (subst (λ z. Contains (path_in (get arcs' z)) k) f m))
    | inr f ↦ more k j (h j k (subst (λ q. Contains (path_in q) k) (o j f) m))
  ]

  -- arc n, which is new, is listed for its vertices
  pub listed_new : (arcs arcs' : Slab (Arc A)) (ss ss' : List Stand) (n : ℕ) (keys : List ℕ) → path_in (get arcs' n) ≡ keys → ((j : ℕ) → j ≢ n → get arcs' j ≡ get arcs j) →
      ListsMore ss ss' → ((k : ℕ) → Contains keys k → Contains (stand_at ss' k) n) → Listed arcs ss → Listed arcs' ss'
  listed_new arcs arcs' ss ss' n keys e o more noted = listed_but arcs arcs' ss ss' n (λ k m. noted k (subst (λ z. Contains z k) e m)) o more

  -- arc n goes on to b
  pub whole_longer : (s t : Tables A) (n b : ℕ) → SameUsers s.arcs t.arcs → SameRings s.rings t.rings → path_in (get t.arcs n) ≡ path_in (get s.arcs n) ++ b ∷ [] → ((j : ℕ) → j ≢ n → get t.arcs j ≡ get s.arcs j) →
      ListsMore s.stands.items t.stands.items → Contains (stand_at t.stands.items b) n → Whole s → Whole t
  whole_longer s t n b m rings e o more noted w = record {
    known = known_alike s.arcs t.arcs s.rings t.rings m rings w.known;
    listed = listed_new s.arcs t.arcs s.stands.items t.stands.items n (path_in (get s.arcs n) ++ b ∷ []) e o more (λ k x. elim (Contains-push_cases (path_in (get s.arcs n)) b k x) [
      | inl y ↦ more k n (w.listed n k y)
      | inr y ↦ subst (λ z. Contains (stand_at t.stands.items z) n) y noted
    ]) w.listed;
  }

  -- a ring without uses comes in
  pub empty_ring : (old new : Slab (Ring A)) (r : ℕ) (v : Ring A) → get old r ≡ None → get new r ≡ Some v → v.uses.items ≡ [] → ((k : ℕ) → k ≢ r → get new k ≡ get old k) → SameRings old new
  empty_ring old new r v was is e o k = grind (arith, cases_eq k r, o k)

  -- a ring came in, was changed, and went again
  pub one_fewer : (old mid after new : Slab (Ring A)) (r : ℕ) → get old r ≡ None → ((k : ℕ) → k ≢ r → get mid k ≡ get old k) → SameKeys mid after → get new r ≡ None → ((k : ℕ) → k ≢ r → get new k ≡ get after k) → SameKeys old new
  one_fewer old mid after new r was o same gone p k = grind (arith, cases_eq k r, o k, same k, p k)

  -- a ring came in, and was laid
  pub laid_grows : (s t : Tables A) (rings : Slab (Ring A)) (r : ℕ) (es : List Edge) → SameRings s.rings rings → Grows r es (store_of s.arcs rings) (store t) → Grows r es (store s) (store t)
  laid_grows s t rings r es same g = kept_grows r es (store s) (store_of s.arcs rings) (store t) (keeps_same (store s) (store_of s.arcs rings) (λ j. refl) same) g
