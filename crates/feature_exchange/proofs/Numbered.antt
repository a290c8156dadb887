-- Lists of laid rings, and the rings that come or go with them.
use Rattle.kit_words.proofs.Common.{◌≡◌, ◌<◌, ◌+◌, ℕ, Bool, true, false, refl, sym, ap, ◌∙◌, subst, List, [], ◌∷◌}
use Rattle.kit_words.proofs.Common.{◌++◌, map, ◌⊎◌, inl, inr, Some, None, take, get_or, length, arith, Contains}
use Rattle.kit_words.proofs.Common.{◌==◌, list_any, same_map, nat_cmp-IsAntisymmetric, nat_cmp_total, length-map}
use Rattle.kit_words.proofs.Common.{get_or-map, take-map, Contains-append_left, Contains-push}
use Rattle.kit_words.proofs.Common.{Contains-push_cases, ℕ_discrete, false≢true, Decides-eqb, mapped_more}
use Rattle.std.specs.FinMap as table
use Rattle.ring_machine.proofs.Common.{In, contains_in, in_contains, any_in, in_any}
use Rattle.ring_machine.specs.Common.{are_distinct}
use Rattle.arc_tables.specs.Common.{Rings, edges}
use Rattle.feature_exchange.specs.Common.{numbers_of, AreThere, AreGone, AreAdded, LaidRing}
use Rattle.feature_exchange.proofs.Unvisited.{distinct_before}
use Rattle.feature_exchange.proofs.Visited.{ring_gone, ring_stays}

-- functions that agree on a list agree at each place
agree_at : {X Y : Type 0} (f g : X → Y) (xs : List X) → map f xs ≡ map g xs → (i : ℕ) (x : X) → i < length xs
    → x ≡ get_or xs i x → f x ≡ g x
agree_at f g xs e i x l here =
    ap f here ∙ sym (get_or-map f xs i x (f x) l) ∙ ap (λ z. get_or z i (f x)) e ∙ get_or-map g xs i x (f x) l ∙ ap g (sym here)

-- a number is in a list, or not
pub contained_or : (r : ℕ) (ns : List ℕ) → Contains ns r ⊎ ¬ (Contains ns r)
contained_or r ns = by (list_any (λ m. m == r) ns) refl
  where
    by : (b : Bool) → list_any (λ m. m == r) ns ≡ b → Contains ns r ⊎ ¬ (Contains ns r)
    by true e =
        let k = any_in (λ m. m == r) ns e in
        inl (in_contains ns r (subst (λ z. In z ns) ((Decides-eqb k.0 r).0 k.2) k.1))
    by false e = inr (λ c. false≢true (sym e ∙ in_any (λ m. m == r) r ns (contains_in ns r c) ((Decides-eqb r r).1 refl)))

-- ---- rings that came

-- those that came and went
pub came_and_went : (m now next : Rings) (numbers : List ℕ) → AreAdded m now numbers → AreGone now next numbers
    → next ≡ m
came_and_went m now next numbers a g =
    same_map nat_cmp_total nat_cmp-IsAntisymmetric next m (λ r. elim (contained_or r numbers) [
      | inl c ↦ g.gone r c ∙ sym (a.free r c)
      | inr f ↦ g.others r f ∙ a.others r f
    ])

pub gone_none : (m : Rings) → AreGone m m []
gone_none m = record { gone = λ r c. absurd (omega (arith, c.1)); others = λ r f. refl }

-- ---- rings that go, one after the other

module _ {A : Type 0} where
  -- a ring of the list stands
  pub there_at : (m : Rings) (laid : List (LaidRing A)) → AreThere m laid → (i : ℕ) (x : LaidRing A) → i < length laid
      → x ≡ get_or laid i x → table.get m x.number ≡ Some (edges x.keys.items)
  there_at m laid h i x l here =
      agree_at (λ (y : LaidRing A). table.get m y.number) (λ (y : LaidRing A). Some (edges y.keys.items)) laid h.along i x l here

  -- none before it has its number
  number_before : (laid : List (LaidRing A)) → are_distinct (numbers_of laid) ≡ true → (i : ℕ) (x : LaidRing A)
      → i < length laid → x ≡ get_or laid i x → Contains (numbers_of (take i laid)) x.number → ⊥
  number_before laid d i x l here c =
      distinct_before (numbers_of laid) i x.number d (omega (arith, l, length-map laid (λ (y : LaidRing A). y.number)))
      (ap (λ (y : LaidRing A). y.number) here ∙ sym (get_or-map (λ (y : LaidRing A). y.number) laid i x x.number l))
      (subst (λ z. Contains z x.number) (sym (take-map (λ (y : LaidRing A). y.number) i laid)) c)

  -- so it stands once those before it are gone
  pub still_there : (m now : Rings) (laid : List (LaidRing A)) → AreThere m laid → (i : ℕ) (x : LaidRing A)
      → i < length laid → x ≡ get_or laid i x → AreGone m now (numbers_of (take i laid)) → (ks : List ℕ) → ks ≡ x.keys.items
      → table.get now x.number ≡ Some (edges ks)
  still_there m now laid h i x l here g ks e =
      g.others x.number (number_before laid h.different i x l here) ∙ there_at m laid h i x l here
      ∙ ap (λ z. Some (edges z)) (sym e)

  -- one more is gone
  pub gone_more : (m now next : Rings) (laid : List (LaidRing A)) (i : ℕ) (x : LaidRing A) → i < length laid
      → x ≡ get_or laid i x → AreGone m now (numbers_of (take i laid)) → next ≡ table.remove now x.number
      → AreGone m next (numbers_of (take (i + 1) laid))
  gone_more m now next laid i x l here g e =
      subst (AreGone m next) (sym (mapped_more (λ (y : LaidRing A). y.number) laid i x l here)) (subst (λ z. AreGone m z (numbers_of (take i laid) ++ x.number ∷ [])) (sym e) (record {
        gone = λ r c. gone r (Contains-push_cases (numbers_of (take i laid)) x.number r c) (ℕ_discrete r x.number);
        others = λ r f.
            ring_stays now x.number r (λ s. f (subst (Contains (numbers_of (take i laid) ++ x.number ∷ [])) (sym s) (Contains-push (numbers_of (take i laid)) x.number)))
            ∙ g.others r (λ c. f (Contains-append_left (numbers_of (take i laid)) (x.number ∷ []) r c));
      }))
    where
      gone : (r : ℕ) → Contains (numbers_of (take i laid)) r ⊎ (x.number ≡ r) → Dec (r ≡ x.number)
          → table.get (table.remove now x.number) r ≡ None
      gone r o (yes s) = ap (table.get (table.remove now x.number)) s ∙ ring_gone now x.number
      gone r (inl c) (no f) = ring_stays now x.number r f ∙ g.gone r c
      gone r (inr s) (no f) = absurd (f (sym s))
