-- A ring taken out whose segments other rings have: its vertices and segments stay.
use Rattle.kit_words.proofs.Common.{◌≡◌, ◌≢◌, ◌<◌, ◌≤◌, ◌+◌, ℕ, refl, sym, ap, ◌∙◌, subst, List, [], ◌∷◌, ◌++◌, inl}
use Rattle.kit_words.proofs.Common.{inr, take, get_or, length, Contains, Contains-push_cases, take_more}
use Rattle.std.proofs.Common.{take_all}
use Rattle.grid_geometry.specs.Common.{segment}
use Rattle.ring_machine.proofs.Common.{In, contains_in, in_contains, in_mapped}
use Rattle.vertex_index.specs.Common.{Placement, place}
use Rattle.segment_index.specs.Common.{SegmentSet}
use Rattle.arc_tables.specs.Common.{Edge, Rings, edges, users_of}
use Rattle.ring_store.specs.Common.{HoldsWith, IsSide, IsVisited, AllRound, sides}
use Rattle.ring_store.proofs.Common.{begins_edges, used_side}
use Rattle.feature_exchange.specs.Laid.{LeavesVisited}
use Rattle.feature_exchange.proofs.Visited.{used_visited}

-- ---- edge by edge

module _ (m : Rings) (es : List Edge) where
  pub used_none : (e : Edge) → Contains (take 0 es) e → users_of m e.0 e.1 ≢ 0
  used_none e c = absurd (contains_in [] e c)

  pub used_more : (i : ℕ) (e : Edge) → i < length es → e ≡ get_or es i e
      → ((f : Edge) → Contains (take i es) f → users_of m f.0 f.1 ≢ 0) → users_of m e.0 e.1 ≢ 0
      → (f : Edge) → Contains (take (i + 1) es) f → users_of m f.0 f.1 ≢ 0
  used_more i e l here before now f c =
      elim (Contains-push_cases (take i es) e f (subst (λ z. Contains z f) (take_more es i e l ∙ ap (λ z. take i es ++ z ∷ []) (sym here)) c)) [
        | inl d ↦ before f d
        | inr s ↦ subst (λ (z : Edge). users_of m z.0 z.1 ≢ 0) s now
      ]

  pub used_whole : (i : ℕ) → length es ≤ i → ((f : Edge) → Contains (take i es) f → users_of m f.0 f.1 ≢ 0)
      → (f : Edge) → Contains es f → users_of m f.0 f.1 ≢ 0
  used_whole i l h f c = h f (subst (λ z. Contains z f) (sym (take_all i es l)) c)

-- ---- nothing goes

module _ (p : Placement) (m : Rings) (ks : List ℕ) (used : (e : Edge) → Contains (edges ks) e → users_of m e.0 e.1 ≢ 0) where
  pub sides_stay : (held : SegmentSet) → HoldsWith p m held (edges ks) → HoldsWith p m held []
  sides_stay held h t = (
    λ c. elim ((h t).0 c) [
      | inl s ↦ inl s
      | inr k ↦
          let e = in_mapped (λ (f : Edge). segment (place p f.0) (place p f.1)) t (edges ks) (contains_in (sides p (edges ks)) t k) in
          inl (subst (IsSide p m) e.2 (used_side p m (e.0).0 (e.0).1 (used e.0 (in_contains (edges ks) e.0 e.1))))
    ],
    λ d. elim d [ inl s ↦ (h t).1 (inl s) | inr k ↦ absurd (contains_in [] t k) ],
  )

  pub vertices_stay : AllRound m → LeavesVisited m ks p p
  vertices_stay round = record {
    kept = λ k q e. e;
    stays = λ k v. refl;
    others = λ k f. refl;
    gone = λ k c i.
        let e = in_mapped (λ (f : Edge). f.0) k (edges ks) (subst (In k) (sym (begins_edges ks)) (contains_in ks k c)) in
        subst (IsVisited m) e.2 (used_visited m round (e.0).0 (e.0).1 (used e.0 (in_contains (edges ks) e.0 e.1)));
  }
