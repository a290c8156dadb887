-- The arcs of a vertex, after a change of one vertex.
use Rattle.kit_words.proofs.Common.{◌≡◌, ◌≢◌, inl, inr, false, ℕ, zero, suc, ◌<◌, refl, sym, ap, ◌∙◌, subst, List, []}
use Rattle.kit_words.proofs.Common.{◌∷◌, Contains, length, set, get_or, arith, ◌==◌, list_any, cases_eq, both_ways}
use Rattle.arc_tables.specs.Common.{Stand, including, stand_at, ListsMore, UnlistsOnly, UnlistsOff}
use Rattle.arc_tables.proofs.Different.{contained_any, in_including}

pub stand_set : (ss : List Stand) (i : ℕ) (s : Stand) → i < length ss → stand_at (set ss i s) i ≡ s.arcs.items
stand_set [] i s l = absurd (omega arith)
stand_set (t ∷ ss) zero s l = refl
stand_set (t ∷ ss) (suc i) s l = stand_set ss i s (omega arith)

pub stand_other : (ss : List Stand) (i j : ℕ) (s : Stand) → j ≢ i → stand_at (set ss i s) j ≡ stand_at ss j
stand_other [] i j s f = refl
stand_other (t ∷ ss) zero zero s f = absurd (f refl)
stand_other (t ∷ ss) zero (suc j) s f = refl
stand_other (t ∷ ss) (suc i) zero s f = refl
stand_other (t ∷ ss) (suc i) (suc j) s f = stand_other ss i j s (λ e. f (ap (λ n. suc n) e))

pub stand_read : (ss : List Stand) (i : ℕ) (s : Stand) → i < length ss → s ≡ get_or ss i s → stand_at ss i ≡ s.arcs.items
stand_read [] i s l e = absurd (omega arith)
stand_read (t ∷ ss) zero s l e = ap (λ x. x.arcs.items) (sym e)
stand_read (t ∷ ss) (suc i) s l e = stand_read ss i s (omega arith) e

-- one vertex lists one more arc
-- one vertex lists other arcs
lists_at : (ss : List Stand) (i m : ℕ) (s : Stand) → i < length ss → (Contains (stand_at ss i) m → Contains s.arcs.items m) → (j : ℕ) → Contains (stand_at ss j) m → Contains (stand_at (set ss i s) j) m
lists_at ss i m s l h j x = elim (cases_eq j i) [
  | inl f ↦ subst (λ z. Contains z m) (sym (ap (stand_at (set ss i s)) f ∙ stand_set ss i s l)) (h (subst (λ z. Contains (stand_at ss z) m) f x))
  | inr f ↦ subst (λ z. Contains z m) (sym (stand_other ss i j s f)) x
]

-- one vertex lists one more arc
pub lists_including : (ss : List Stand) (i n : ℕ) (s : Stand) → i < length ss → s.arcs.items ≡ including n (stand_at ss i) → ListsMore ss (set ss i s)
lists_including ss i n s l e j m = lists_at ss i m s l (λ y. subst (λ z. Contains z m) (sym e) (in_including n (stand_at ss i) m y)) j

-- a vertex lists what it did
pub lists_same : (ss : List Stand) (i : ℕ) (s : Stand) → i < length ss → s.arcs.items ≡ stand_at ss i → ListsMore ss (set ss i s)
lists_same ss i s l e j m = lists_at ss i m s l (subst (λ z. Contains z m) (sym e)) j

-- a vertex forgets one arc at most
pub lists_less : (ss : List Stand) (i n : ℕ) (s : Stand) → i < length ss → ((m : ℕ) → m ≢ n → Contains (stand_at ss i) m → Contains s.arcs.items m) → (j m : ℕ) → m ≢ n → Contains (stand_at ss j) m → Contains (stand_at (set ss i s) j) m
lists_less ss i n s l h j m ne = lists_at ss i m s l (h m ne) j

-- a vertex off the path forgets one arc
pub unlists_off : (path : List ℕ) (ss ss' : List Stand) (k i : ℕ) → list_any (λ x. x == k) path ≡ false → UnlistsOnly ss ss' i → ((j : ℕ) → j ≢ k → stand_at ss' j ≡ stand_at ss j) → UnlistsOff path ss ss' i
unlists_off path ss ss' k i off less others j m (inl ne) x = less j m ne x
unlists_off path ss ss' k i off less others j m (inr c) x = subst (λ z. Contains z m) (sym (others j (λ e. both_ways _ off (contained_any k path (subst (Contains path) e c))))) x
