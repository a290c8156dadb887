-- A ring goes, and the arcs that no other ring uses.
use Rattle.kit_words.proofs.Common.{◌≡◌, ◌≢◌, ℕ, ◌<◌, ◌≤◌, ◌+◌, true, false, ◌||◌, refl, sym, ap, ◌∙◌, subst, arith}
use Rattle.kit_words.proofs.Common.{cond, List, [], ◌∷◌, ◌⊎◌, inl, inr, Contains, length, take, get_or, Option, Some}
use Rattle.kit_words.proofs.Common.{None, IsSome, ◌==◌, AllByRecursion, list_any, Decides-eqb, nat_tests, cases_eq}
use Rattle.kit_words.proofs.Common.{cond_both, both_ways, or_left, or_right, take_more, list_any-append}
use Rattle.slab.specs.Slab.{Slab, get, ContainsKey}
use Rattle.arc_tables.specs.Common.{Use, Arc, Ring, TakesOut, path_in, users_in, uses_in, store_of, uses_arc}
use Rattle.arc_tables.specs.Common.{AllDifferent, without, Known, StaysOrGoes}
use Rattle.arc_tables.proofs.Different.{in_without, without_absent, without_twice, different_without, any_without}
use Rattle.arc_tables.proofs.Knowing.{known_of, known_by_uses, in_use}
use Rattle.arc_tables.proofs.Moves.{all_of}

module _ {A : Type 0} where
  -- the arcs after some uses of ring r were dropped: those that it used are without r
  -- the arcs after some uses of ring r were dropped: those that it used are without r
  pub record Dropped (r : ℕ) (us : List Use) (old now : Slab (Arc A)) : Type 0 where
    pub users : (j : ℕ) → users_in (get now j) ≡ cond (uses_arc j us) (without r (users_in (get old j))) (users_in (get old j))
    pub stays : (j : ℕ) → StaysOrGoes old now j
    pub some : (j : ℕ) → ContainsKey now j → 1 ≤ length (users_in (get now j))

  pub none_dropped : (r : ℕ) (arcs : Slab (Arc A)) → ((j : ℕ) → ContainsKey arcs j → 1 ≤ length (users_in (get arcs j))) → Dropped r [] arcs arcs
  none_dropped r arcs h = record { users = λ j. refl; stays = λ j k. (k, refl); some = h }

  -- one more use, of arc i
  pub dropped_more : (r i : ℕ) (us : List Use) (at : ℕ) (d : Use) (old now after : Slab (Arc A)) → at < length us → i ≡ (get_or us at d).arc → Dropped r (take at us) old now →
      StaysOrGoes now after i → ((j : ℕ) → j ≢ i → get after j ≡ get now j) → users_in (get after i) ≡ without r (users_in (get now i)) → (ContainsKey after i → 1 ≤ length (users_in (get after i))) →
      Dropped r (take (at + 1) us) old after
  dropped_more r i us at d old now after l is h stays others users some = record { users = fewer; stays = λ j. stay j (cases_eq j i); some = λ j. has_some j (cases_eq j i) }
    where
      fewer : (j : ℕ) → users_in (get after j) ≡ cond (uses_arc j (take (at + 1) us)) (without r (users_in (get old j))) (users_in (get old j))
      fewer j =
          let more : uses_arc j (take (at + 1) us) ≡ (uses_arc j (take at us) || ((get_or us at d).arc == j || false)) = ap (uses_arc j) (take_more us at d l) ∙ list_any-append (λ (v : Use). v.arc == j) (take at us) (get_or us at d ∷ []) in
          grind (arith, nat_tests, cases_eq j i, more, others j, users, h.users j, without_twice r (users_in (get old j)))

      stay : (j : ℕ) → (j ≡ i) ⊎ (j ≢ i) → StaysOrGoes old after j
      stay j (inl e) k = let a = subst (StaysOrGoes now after) (sym e) stays k in let b = h.stays j a.0 in (b.0, a.1 ∙ b.1)
      stay j (inr ne) k = let b = h.stays j (subst (λ o. IsSome o) (others j ne) k) in (b.0, ap path_in (others j ne) ∙ b.1)

      has_some : (j : ℕ) → (j ≡ i) ⊎ (j ≢ i) → ContainsKey after j → 1 ≤ length (users_in (get after j))
      has_some j (inl e) k = subst (λ z. 1 ≤ length (users_in (get after z))) (sym e) (some (subst (λ z. ContainsKey after z) e k))
      has_some j (inr ne) k = subst (λ o. 1 ≤ length (users_in o)) (sym (others j ne)) (h.some j (subst (λ o. IsSome o) (others j ne) k))

each_used : (us vs : List Use) → ((j : ℕ) → uses_arc j vs ≡ true → uses_arc j us ≡ true) → AllByRecursion (λ u. uses_arc u.arc us ≡ true) vs
each_used us [] h = tt
each_used us (v ∷ vs) h = (h v.arc (or_left (v.arc == v.arc) (uses_arc v.arc vs) ((Decides-eqb v.arc v.arc).1 refl)), each_used us vs (λ j m. h j (or_right (v.arc == j) (uses_arc j vs) m)))

module _ {A : Type 0} (arcs arcs' : Slab (Arc A)) (rings rings' : Slab (Ring A)) (r : ℕ) (known : Known arcs rings)
    (gone : get rings' r ≡ None) (others : (k : ℕ) → k ≢ r → get rings' k ≡ get rings k) (h : Dropped r (uses_in (get rings r)) arcs arcs') where
  -- every arc is without r: those that it did not use had it not
  users_are : (j : ℕ) → users_in (get arcs' j) ≡ without r (users_in (get arcs j))
  users_are j =
      let had = users_in (get arcs j) in
      h.users j ∙ cond_both (uses_arc j (uses_in (get rings r))) (without r had) had (λ z. z ≡ without r had) (λ e. refl) (λ e. sym (without_absent r had (λ m. both_ways _ e (known.used r j m))))

  still : (k j : ℕ) → k ≢ r → Contains (users_in (get arcs j)) k → Contains (users_in (get arcs' j)) k
  still k j f m = subst (λ z. Contains z k) (sym (users_are j)) (in_without r (users_in (get arcs j)) k f m)

  pub takes_out_of : TakesOut r (store_of arcs rings) (store_of arcs' rings')
  takes_out_of = record {
    ring = ap uses_in gone;
    others = λ k f. ap uses_in (others k f);
    kept = λ k f. all_of (λ u m. (h.stays u.arc (in_use (get arcs' u.arc) k (still k u.arc f (known.users k u.arc m)))).1) (uses_in (get rings k)) (each_used (uses_in (get rings k)) (uses_in (get rings k)) (λ j m. m));
    gone = λ j. by j (get arcs' j) refl;
  }
    where
      by : (j : ℕ) (o : Option (Arc A)) → get arcs' j ≡ o → (path_in (get arcs' j) ≡ path_in (get arcs j)) ⊎ (path_in (get arcs' j) ≡ [])
      by j None e = inr (ap path_in e)
      by j (Some v) e = inl (h.stays j (subst (λ o. IsSome o) (sym e) refl)).1

  -- after the ring and its arcs are gone, the arcs know their rings still
  pub known_without : Known arcs' rings'
  known_without = known_of arcs' rings' told (λ i. subst AllDifferent (sym (users_are i)) (different_without r (users_in (get arcs i)) (known.single i))) h.some
    where
      told : (k i : ℕ) → uses_arc i (uses_in (get rings' k)) ≡ list_any (λ x. x == k) (users_in (get arcs' i))
      told k i = grind (arith, nat_tests, cases_eq k r, gone, others k, users_are i, any_without r k (users_in (get arcs i)), known_by_uses arcs rings known k i)
