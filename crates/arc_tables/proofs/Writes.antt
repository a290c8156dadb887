-- What a write at one key of a slab changes.
use Rattle.kit_words.proofs.Common.{◌≡◌, ℕ, sym, ap, ◌∙◌, List, [], ◌∷◌, ◌++◌, inl, inr, is_some, cases_eq, false}
use Rattle.kit_words.proofs.Common.{if◌then◌else◌, list_any, ◌==◌, Contains, subst}
use Rattle.slab.specs.Slab.{Slab, get, ContainsKey, with_value}
use Rattle.slab.proofs.SlabLemmas.{Updates-with_value}
use Rattle.arc_tables.specs.Common.{Use, Arc, Ring, path_in, users_in, uses_in, SamePaths, SameUsers, SameRings, SameKeys}
use Rattle.arc_tables.specs.Common.{GoesOn, Stand, including, stand_at}
use Rattle.arc_tables.proofs.Different.{itself_including}
use Rattle.arc_tables.proofs.StoreLemmas.{uses_changed, uses_other, still_held}

-- a list without a number, with it
pub including_new : (n : ℕ) (xs : List ℕ) → list_any (λ k. k == n) xs ≡ false → including n xs ≡ xs ++ n ∷ []
including_new n xs h = ap (λ b. if b then xs else xs ++ n ∷ []) h

-- a vertex that lists an arc too lists it
pub listed_now : (ss ss' : List Stand) (k n : ℕ) → stand_at ss' k ≡ including n (stand_at ss k) → Contains (stand_at ss' k) n
listed_now ss ss' k n e = subst (λ z. Contains z n) (sym e) (itself_including n (stand_at ss k))

module _ {A : Type 0} where
  -- an arc has other keys, and the rings that it had
  pub rekeyed_users : (arcs : Slab (Arc A)) (n : ℕ) (v : Arc A) → ContainsKey arcs n → v.rings.items ≡ users_in (get arcs n) → SameUsers arcs (with_value arcs n v)
  rekeyed_users arcs n v h e =
      let u = Updates-with_value arcs n v h in
      record {
        there = λ j. elim (cases_eq j n) [
          | inl f ↦ ap (λ k. is_some (get (with_value arcs n v) k)) f ∙ ap is_some u.changed ∙ sym (ap (λ k. is_some (get arcs k)) f ∙ h)
          | inr f ↦ ap is_some (u.others j f)
        ];
        users = λ j. elim (cases_eq j n) [
          | inl f ↦ ap (λ k. users_in (get (with_value arcs n v) k)) f ∙ ap users_in u.changed ∙ e ∙ sym (ap (λ k. users_in (get arcs k)) f)
          | inr f ↦ ap users_in (u.others j f)
        ];
      }

  -- an arc has the keys that it had
  pub same_paths : (arcs : Slab (Arc A)) (n : ℕ) (v : Arc A) → ContainsKey arcs n → v.keys.items ≡ path_in (get arcs n) → SamePaths arcs (with_value arcs n v)
  same_paths arcs n v h e j =
      let u = Updates-with_value arcs n v h in
      elim (cases_eq j n) [
        | inl f ↦ ap (λ k. path_in (get (with_value arcs n v) k)) f ∙ ap path_in u.changed ∙ e ∙ sym (ap (λ k. path_in (get arcs k)) f)
        | inr f ↦ ap path_in (u.others j f)
      ]

  -- a ring has one more use
  pub went_on : (rings : Slab (Ring A)) (r : ℕ) (v : Ring A) (u : Use) → ContainsKey rings r → v.uses.items ≡ uses_in (get rings r) ++ u ∷ [] → GoesOn rings (with_value rings r v) r u
  went_on rings r v u h e =
      let w = Updates-with_value rings r v h in
      record { ring = ap uses_in w.changed ∙ e; others = λ k f. ap uses_in (w.others k f) }

  -- a ring has the uses that it had
  pub same_uses : (rings : Slab (Ring A)) (r : ℕ) (v : Ring A) → ContainsKey rings r → v.uses.items ≡ uses_in (get rings r) → SameRings rings (with_value rings r v)
  same_uses rings r v h e k =
      let w = Updates-with_value rings r v h in
      elim (cases_eq k r) [
        | inl f ↦ uses_changed rings (with_value rings r v) r v w k f ∙ e ∙ sym (ap (λ j. uses_in (get rings j)) f)
        | inr f ↦ uses_other rings (with_value rings r v) r v w k f
      ]

  pub same_keys : (rings : Slab (Ring A)) (r : ℕ) (v : Ring A) → ContainsKey rings r → SameKeys rings (with_value rings r v)
  same_keys rings r v h k = still_held rings (with_value rings r v) r v h (Updates-with_value rings r v h) k
