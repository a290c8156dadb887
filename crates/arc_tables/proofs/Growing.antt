-- What the arcs know of their rings, after a ring goes on.
use Rattle.kit_words.proofs.Common.{◌≡◌, ℕ, ◌≤◌, ◌||◌, sym, ap, ◌∙◌, subst, arith, List, ◌≢◌, ◌++◌, ◌&&◌, [], ◌∷◌, ◌⊎◌}
use Rattle.kit_words.proofs.Common.{inl, inr, Contains, length, Some, is_some, ◌==◌, cases_eq, nat_tests}
use Rattle.kit_words.proofs.Common.{list_any-append, list_any}
use Rattle.slab.specs.Slab.{Slab, get, ContainsKey, Updates}
use Rattle.arc_tables.specs.Common.{Use, Arc, Ring, users_in, uses_in, uses_arc, including, AllDifferent, Known, GoesOn}
use Rattle.arc_tables.specs.Common.{SameRings, SameUsers, Learns}
use Rattle.arc_tables.proofs.Different.{itself_including, different_including, some_contained, any_including}
use Rattle.arc_tables.proofs.Knowing.{known_of, known_by_uses}

used_more : (s r j : ℕ) (u : Use) (old new : List Use) → (s ≡ r → new ≡ old ++ u ∷ []) → (s ≢ r → new ≡ old) → uses_arc j new ≡ (uses_arc j old || (s == r && u.arc == j))
used_more s r j u old new f g = grind (arith, nat_tests, cases_eq s r, list_any-append (λ (v : Use). v.arc == j) old (u ∷ []))

listed_more : (s r i j : ℕ) (old more new : List ℕ) → list_any (λ x. x == s) more ≡ (list_any (λ x. x == s) old || r == s) → (j ≡ i → new ≡ more) → (j ≢ i → new ≡ old) →
    list_any (λ x. x == s) new ≡ (list_any (λ x. x == s) old || (s == r && i == j))
listed_more s r i j old more new any f g = grind (arith, nat_tests, cases_eq j i)

module _ {A : Type 0} where
  -- the same arcs, rings and uses
  pub known_alike : (arcs arcs' : Slab (Arc A)) (rings rings' : Slab (Ring A)) → SameUsers arcs arcs' → SameRings rings rings' → Known arcs rings → Known arcs' rings'
  known_alike arcs arcs' rings rings' m same k = known_of arcs' rings'
      (λ r i. ap (uses_arc i) (same r) ∙ known_by_uses arcs rings k r i ∙ ap (list_any (λ j. j == r)) (sym (m.users i)))
      (λ i. subst AllDifferent (sym (m.users i)) (k.single i))
      (λ i h. subst (λ z. 1 ≤ length z) (sym (m.users i)) (k.some i (sym (m.there i) ∙ h)))

  pub same_users : (s t : Slab (Arc A)) → ((j : ℕ) → get t j ≡ get s j) → SameUsers s t
  same_users s t e = record { there = λ j. ap is_some (e j); users = λ j. ap users_in (e j) }

  -- an arc with one more ring is written at a key
  pub learns : (s t : Slab (Arc A)) (key r : ℕ) (v : Arc A) → Updates s t key (Some v) → v.rings.items ≡ including r (users_in (get s key)) → Learns s t key r
  learns s t key r v u e = record {
    there = ap is_some u.changed;
    users = ap users_in u.changed ∙ e;
    others_there = λ j f. ap is_some (u.others j f);
    others = λ j f. ap users_in (u.others j f);
  }

  -- ---- ring r goes on along an arc

  -- ring r goes on along arc i, which learns it
  pub known_goes_on : (arcs arcs' : Slab (Arc A)) (rings rings' : Slab (Ring A)) (r : ℕ) (u : Use) → Known arcs rings → Learns arcs arcs' u.arc r → GoesOn rings rings' r u → Known arcs' rings'
  known_goes_on arcs arcs' rings rings' r u k m g = known_of arcs' rings' told (λ i. differ i (cases_eq i u.arc)) (λ i. has_some i (cases_eq i u.arc))
    where
      learnt : (j : ℕ) → j ≡ u.arc → users_in (get arcs' j) ≡ including r (users_in (get arcs j))
      learnt j e = ap (λ i. users_in (get arcs' i)) e ∙ m.users ∙ ap (λ i. including r (users_in (get arcs i))) (sym e)

      told : (s j : ℕ) → uses_arc j (uses_in (get rings' s)) ≡ list_any (λ x. x == s) (users_in (get arcs' j))
      told s j =
          used_more s r j u (uses_in (get rings s)) (uses_in (get rings' s)) (λ e. ap (λ z. uses_in (get rings' z)) e ∙ g.ring ∙ ap (λ z. uses_in (get rings z) ++ u ∷ []) (sym e)) (g.others s)
          ∙ ap (λ b. b || (s == r && u.arc == j)) (known_by_uses arcs rings k s j)
          ∙ sym (listed_more s r u.arc j (users_in (get arcs j)) (including r (users_in (get arcs j))) (users_in (get arcs' j)) (any_including r s (users_in (get arcs j))) (learnt j) (m.others j))

      differ : (i : ℕ) → (i ≡ u.arc) ⊎ (i ≢ u.arc) → AllDifferent (users_in (get arcs' i))
      differ i (inl e) = subst AllDifferent (sym (learnt i e)) (different_including r (users_in (get arcs i)) (k.single i))
      differ i (inr f) = subst AllDifferent (sym (m.others i f)) (k.single i)

      has_some : (i : ℕ) → (i ≡ u.arc) ⊎ (i ≢ u.arc) → ContainsKey arcs' i → 1 ≤ length (users_in (get arcs' i))
      has_some i (inl e) h = some_contained r (users_in (get arcs' i)) (subst (λ z. Contains z r) (sym (learnt i e)) (itself_including r (users_in (get arcs i))))
      has_some i (inr f) h = subst (λ z. 1 ≤ length z) (sym (m.others i f)) (k.some i (sym (m.others_there i f) ∙ h))
