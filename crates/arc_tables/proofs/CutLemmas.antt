-- A cut of the slabs is a cut of the store, and the arcs still know their rings.
use Rattle.kit_words.proofs.Common.{◌≡◌, ◌≢◌, ℕ, ◌<◌, ◌≤◌, ◌+◌, true, false, ◌||◌, refl, sym, ap, ◌∙◌, subst, List, []}
use Rattle.kit_words.proofs.Common.{◌∷◌, ◌++◌, inl, inr, Contains, take, drop, get_or, length, Option, Some, None}
use Rattle.kit_words.proofs.Common.{IsSome, add-one, drop-cons, arith, ◌&&◌, ◌==◌, flat_map, list_any, false≢true}
use Rattle.kit_words.proofs.Common.{or_parts, both_ways, cases_eq, false_from_ne_true, Decides-eqb, nat_tests}
use Rattle.kit_words.proofs.Common.{take_more, take-append-drop}
use Rattle.slab.specs.Slab.{Slab, get, ContainsKey}
use Rattle.arc_tables.specs.Common.{Use, Arc, Ring, NewUses, Lacks, both_parts, Cuts, path_in, users_in, uses_in}
use Rattle.arc_tables.specs.Common.{store_of, uses_arc, AllDifferent, Known, HasRing, IsPut, Doubles}
use Rattle.arc_tables.proofs.Knowing.{known_of, known_by_uses}

-- ---- which arcs a list of uses has

pub lacks_of : (n : ℕ) (us : List Use) → uses_arc n us ≡ false → Lacks n us
lacks_of n [] h = tt
lacks_of n (u ∷ us) h = let k = or_parts (u.arc == n) (uses_arc n us) h in ((λ e. both_ways _ k.0 ((Decides-eqb u.arc n).1 e)), lacks_of n us k.1)

pub untouched : (i n : ℕ) (us : List Use) → uses_arc i us ≡ false → flat_map (both_parts i n) us ≡ us
untouched i n [] h = refl
untouched i n (u ∷ us) h = grind (arith, untouched i n us)

-- an arc is used as before, and n where arc i is
pub doubled_uses : (i n j : ℕ) (us : List Use) → uses_arc j (flat_map (both_parts i n) us) ≡ (uses_arc j us || (n == j && uses_arc i us))
doubled_uses i n j [] = grind arith
doubled_uses i n j (u ∷ us) = grind (arith, nat_tests, doubled_uses i n j us)

module _ {A : Type 0} where
  pub present : (i : ℕ) (o : Option (Ring A)) → uses_arc i (uses_in o) ≡ true → IsSome o
  present i None h = absurd (false≢true h)
  present i (Some v) h = refl

-- ---- the cut

module _ {A : Type 0} where
  -- what a cut does to the arcs
  pub record Parted (arcs arcs' : Slab (Arc A)) (i n at : ℕ) (users : List ℕ) : Type 0 where
    pub vacant : get arcs n ≡ None
    pub i_there : ContainsKey arcs i
    pub apart : i ≢ n
    pub first : path_in (get arcs' i) ≡ take (at + 1) (path_in (get arcs i))
    pub second : path_in (get arcs' n) ≡ drop at (path_in (get arcs i))
    pub others : (j : ℕ) → j ≢ i → j ≢ n → get arcs' j ≡ get arcs j
    pub users-is : users ≡ users_in (get arcs i)
    pub users_i : users_in (get arcs' i) ≡ users_in (get arcs i)
    pub users_n : users_in (get arcs' n) ≡ users
    pub kept : (j : ℕ) → ContainsKey arcs j → ContainsKey arcs' j
    pub new_there : ContainsKey arcs' n

  module _ (arcs arcs' : Slab (Arc A)) (rings rings' : Slab (Ring A)) (i n at : ℕ) (users : List ℕ) (news : List (NewUses A))
      (inner : at < length (path_in (get arcs i))) (known : Known arcs rings) (p : Parted arcs arcs' i n at users)
      (put : (r : ℕ) → IsPut news r (uses_in (get rings r)) (uses_in (get rings' r)))
      (each : (e : NewUses A) → Contains news e → Doubles rings i n e) (all : (r : ℕ) → Contains users r → ContainsKey rings r → HasRing news r) where
    no_n : (r : ℕ) → uses_arc n (uses_in (get rings r)) ≡ false
    no_n r = false_from_ne_true _ (λ h. false≢true (subst (λ o. IsSome o) p.vacant (known.there r n h)))

    rings_are : (r : ℕ) → uses_in (get rings' r) ≡ flat_map (both_parts i n) (uses_in (get rings r))
    rings_are r = elim (put r) [
      | inl k ↦ k.1 ∙ sym (untouched i n _ (false_from_ne_true _ (λ h. k.0 (all r (subst (λ z. Contains z r) (sym p.users-is) (known.users r i h)) (present i (get rings r) h)))))
      | inr k ↦ k.3 ∙ (each k.0 k.1).uses ∙ ap (λ z. flat_map (both_parts i n) (uses_in (get rings z))) k.2
    ]

    pub cuts_of : Cuts i n (take at (path_in (get arcs i))) (get_or (path_in (get arcs i)) at 0) (drop (at + 1) (path_in (get arcs i))) (store_of arcs rings) (store_of arcs' rings')
    cuts_of =
        let ps = path_in (get arcs i) in
        let rest : drop at ps ≡ get_or ps at 0 ∷ drop (at + 1) ps = rw (add-one, drop-cons ps at 0) in
        record {
          was = sym (take-append-drop at ps) ∙ ap (λ z. take at ps ++ z) rest;
          apart = p.apart;
          vacant = ap path_in p.vacant;
          unused = λ r. lacks_of n _ (no_n r);
          first = p.first ∙ take_more ps at 0 inner;
          second = p.second ∙ rest;
          others = λ j f g. ap path_in (p.others j f g);
          rings = rings_are;
        }

    pub still_known : Known arcs' rings'
    still_known = known_of arcs' rings' told (λ j. let m = same j in subst AllDifferent (sym m.1) (known.single m.0)) (λ j h. let m = same j in subst (λ z. 1 ≤ length z) (sym m.1) (known.some m.0 (m.2 h)))
      where
        -- an arc has the rings of one that was there: the new one those of arc i
        same : (j : ℕ) → (m : ℕ) × (users_in (get arcs' j) ≡ users_in (get arcs m)) × (ContainsKey arcs' j → ContainsKey arcs m)
        same j = elim (cases_eq j i) [
          | inl e ↦ (i, ap (λ z. users_in (get arcs' z)) e ∙ p.users_i, λ _. p.i_there)
          | inr f ↦ elim (cases_eq j n) [
            | inl e ↦ (i, ap (λ z. users_in (get arcs' z)) e ∙ p.users_n ∙ p.users-is, λ _. p.i_there)
            | inr h ↦ (j, ap users_in (p.others j f h), subst (λ o. IsSome o) (p.others j f h))
          ]
        ]

        told : (r j : ℕ) → uses_arc j (uses_in (get rings' r)) ≡ list_any (λ k. k == r) (users_in (get arcs' j))
        told r j = grind (arith, nat_tests, cases_eq j i, cases_eq j n, rings_are r, doubled_uses i n j (uses_in (get rings r)), no_n r, known_by_uses arcs rings known r i, known_by_uses arcs rings known r j, p.users_i, p.users_n, p.users-is, p.others j, p.apart)
