-- Vertices that are taken out one after the other, unless a ring visits them.
use Rattle.kit_words.proofs.Common.{◌≡◌, ◌≢◌, ◌<◌, ◌+◌, ℕ, zero, suc, true, refl, sym, ap, ◌∙◌, subst, List, [], ◌∷◌}
use Rattle.kit_words.proofs.Common.{◌++◌, ◌⊎◌, inl, inr, is_some, take, get_or, length, arith, Contains, IsTrue, not}
use Rattle.kit_words.proofs.Common.{◌==◌, false≢true, Decides-eqb, take_more, Contains-append_left, Contains-push}
use Rattle.kit_words.proofs.Common.{Contains-push_cases, and_parts, not-true}
use Rattle.std.specs.FinMap as table
use Rattle.ring_machine.specs.Common.{are_distinct}
use Rattle.ring_machine.proofs.Common.{In, contains_in, in_any}
use Rattle.vertex_index.specs.Common.{Placement}
use Rattle.arc_tables.specs.Common.{Rings}
use Rattle.ring_store.proofs.Common.{has_key, remove_here, remove_other}
use Rattle.ring_store.specs.Common.{IsVisited}
use Rattle.feature_exchange.specs.Common.{LeavesVisited}
use Rattle.feature_exchange.proofs.Visited.{none_some}

-- ---- different numbers

-- none of those before a number is that number
pub distinct_before : (ks : List ℕ) (i : ℕ) (k : ℕ) → are_distinct ks ≡ true → i < length ks → k ≡ get_or ks i k
    → Contains (take i ks) k → ⊥
distinct_before ks i k d l e c = by ks i k d l e (contains_in (take i ks) k c)
  where
    by : (ks : List ℕ) (i : ℕ) (k : ℕ) → are_distinct ks ≡ true → i < length ks → k ≡ get_or ks i k
        → In k (take i ks) → ⊥
    by [] i k d l e h = absurd (omega (arith, l))
    by (x ∷ ks) zero k d l e h = absurd h
    by (x ∷ ks) (suc i) k d l e (inl s) =
        let here : In x ks = subst (λ z. In z ks) (sym s) (contains_in ks k (i, omega (arith, l), sym e)) in
        false≢true (sym (not-true (has_key x ks) (and_parts (not (has_key x ks)) (are_distinct ks) d).0) ∙ in_any (λ m. m == x) x ks here ((Decides-eqb x x).1 refl))
    by (x ∷ ks) (suc i) k d l e (inr h) =
        by ks i k (and_parts (not (has_key x ks)) (are_distinct ks) d).1 (omega (arith, l)) e h

-- ---- the loop

module _ (m : Rings) where
  module _ (ks : List ℕ) (i k : ℕ) (l : i < length ks) (here : k ≡ get_or ks i k) (p q : Placement)
      (h : LeavesVisited m (take i ks) p q) where
    more : take (i + 1) ks ≡ take i ks ++ k ∷ []
    more = take_more ks i k l ∙ ap (λ z. take i ks ++ z ∷ []) (sym here)

    earlier : (j : ℕ) → Contains (take i ks) j → Contains (take (i + 1) ks) j
    earlier j c = subst (λ z. Contains z j) (sym more) (Contains-append_left (take i ks) (k ∷ []) j c)

    itself : Contains (take (i + 1) ks) k
    itself = subst (λ z. Contains z k) (sym more) (Contains-push (take i ks) k)

    either : (j : ℕ) → Contains (take (i + 1) ks) j → Contains (take i ks) j ⊎ (k ≡ j)
    either j c = Contains-push_cases (take i ks) k j (subst (λ z. Contains z j) more c)

    -- the next one is there still
    pub next_placed : are_distinct ks ≡ true → IsTrue (table.contains_key p k) → IsTrue (table.contains_key q k)
    next_placed d e = ap is_some (h.others k (distinct_before ks i k d l here)) ∙ e

    pub leaves_more : (r : Placement)
        → (IsVisited m k × (r ≡ q)) ⊎ (¬ (IsVisited m k) × (r ≡ table.remove q k))
        → LeavesVisited m (take (i + 1) ks) p r
    leaves_more r (inl v) = subst (LeavesVisited m (take (i + 1) ks) p) (sym v.1) (record {
      kept = h.kept;
      stays = h.stays;
      others = λ j f. h.others j (λ c. f (earlier j c));
      gone = λ j c e. elim (either j c) [ inl d ↦ h.gone j d e | inr s ↦ subst (IsVisited m) s v.0 ];
    })
    leaves_more r (inr v) = subst (LeavesVisited m (take (i + 1) ks) p) (sym v.1) (record {
      kept = λ j s e. h.kept j s (sym (remove_other q k j (λ is. none_some (table.get (table.remove q k) k) s (remove_here q k) (ap (table.get (table.remove q k)) (sym is) ∙ e))) ∙ e);
      stays = λ j w. remove_other q k j (λ is. v.0 (subst (IsVisited m) is w)) ∙ h.stays j w;
      others = λ j f. remove_other q k j (λ is. f (subst (Contains (take (i + 1) ks)) (sym is) itself)) ∙ h.others j (λ c. f (earlier j c));
      gone = λ j c e.
          let other : j ≢ k = λ is. false≢true (sym (ap is_some (remove_here q k)) ∙ ap (λ z. is_some (table.get (table.remove q k) z)) (sym is) ∙ e) in
          elim (either j c) [
            | inl d ↦ h.gone j d (ap is_some (sym (remove_other q k j other)) ∙ e)
            | inr s ↦ absurd (other (sym s))
          ];
    })
