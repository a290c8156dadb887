-- The vertices of segments by level, and what begins at each.
use Rattle.kit_words.proofs.Common.{◌≡◌, ℕ, ◌+◌, ◌<◌, ◌≤◌, ◌==◌, ◌&&◌, Bool, true, false, refl, sym, ap, ap₂, ◌∙◌}
use Rattle.kit_words.proofs.Common.{subst, arith, List, [], ◌∷◌, ◌++◌, map, take, length, get_or, set, inl, inr, Contains, All}
use Rattle.kit_words.proofs.Common.{flat_map, flat_map-append, take_more, append_assoc, get_or-map, length-map, map-set, cond, nat_lt}
use Rattle.kit_words.proofs.Common.{ltb-true, lt-ltb, get_or_default, get_or-set_same, get_or-set_other, length-set, eqb-true, eq-eqb}
use Rattle.kit_words.proofs.Common.{false≢true, by_bool, IsStrictlySortedBy, set-get_or, nat_tests}
use Rattle.std.proofs.Common.{le-ltb, ltb-false}
use Rattle.std.proofs.lemmas.Map.Keys.{Less-from_sorted}
use Rattle.grid_geometry.specs.Common.{Position, Segment, position_cmp, position_eq, IsSegment}
use Rattle.ring_machine.proofs.Common.{In, contains_in, in_contains, position_eq-refl}
use Rattle.layer_sides.specs.Common.{bottom, level_lt, top}
use Rattle.layer_sides.specs.Under.{AreRising, AreSegments, AreVertices, Ascends, BegunAt, Notes, VertexOf, segment_at, times, turned}
use Rattle.layer_sides.specs.Under.{turned_ends}
use Rattle.layer_sides.proofs.Gaps.{turned_level}
use Rattle.layer_sides.proofs.Levels.{before_differs, after_differs}
use Rattle.layer_sides.proofs.Places.{times-append}

-- ---- ends

pub ends_more : (ss : List Segment) (k : ℕ) (s : Segment) (p q : Position) (found one both : List Position) → k < length ss → s ≡ segment_at ss k
    → p ≡ turned (bottom s) → q ≡ turned (top s) → one ≡ found ++ p ∷ [] → both ≡ one ++ q ∷ [] → found ≡ flat_map turned_ends (take k ss)
    → both ≡ flat_map turned_ends (take (k + 1) ss)
ends_more ss k s p q found one both l e f g first second h =
    second ∙ ap₂ (λ ps r. ps ++ r ∷ []) (first ∙ ap (λ r. found ++ r ∷ []) f) g
    ∙ append_assoc found (turned (bottom s) ∷ []) (turned (top s) ∷ [])
    ∙ ap₂ (λ ps qs. ps ++ qs) h (ap turned_ends e)
    ∙ sym (ap (flat_map turned_ends) (take_more ss k _ l) ∙ flat_map-append turned_ends (take k ss) (segment_at ss k ∷ []))

pub all_segments : (ss : List Segment) → All IsSegment ss → AreSegments ss
all_segments ss h s c = subst IsSegment c.2 (h c.0 s c.1)

-- the ends of each segment are among those of all
pub end_among : (ss : List Segment) (s : Segment) → In s ss → In (turned (bottom s)) (flat_map turned_ends ss) × In (turned (top s)) (flat_map turned_ends ss)
end_among [] s h = absurd h
end_among (t ∷ ss) s (inl e) = (inl (ap (λ z. turned (bottom z)) e), inr (inl (ap (λ z. turned (top z)) e)))
end_among (t ∷ ss) s (inr h) = let k = end_among ss s h in (inr (inr k.0), inr (inr k.1))

-- ---- of rising vertices

map_twice : (vs : List VertexOf) → map (λ v. turned v.0) vs ≡ map turned (map (λ (v : VertexOf). v.0) vs)
map_twice [] = refl
map_twice (v ∷ vs) = ap (λ ps. turned v.0 ∷ ps) (map_twice vs)

pub rising_same : (vs us : List VertexOf) → map (λ (v : VertexOf). v.0) us ≡ map (λ (v : VertexOf). v.0) vs → AreRising vs → AreRising us
rising_same vs us e h = subst (IsStrictlySortedBy position_cmp) (map_twice vs ∙ ap (map turned) (sym e) ∙ sym (map_twice us)) h

-- one that stands before another comes before it by level
pub in_turn : (vs : List VertexOf) → AreRising vs → (i j : ℕ) (d : VertexOf) → i < j → j < length vs
    → level_lt (get_or vs i d).0 (get_or vs j d).0 ≡ true
in_turn vs h i j d l m =
    turned_level (get_or vs i d).0 (get_or vs j d).0
    (ap₂ position_cmp (sym (get_or-map (λ (v : VertexOf). turned v.0) vs i d (turned d.0) (omega arith))) (sym (get_or-map (λ (v : VertexOf). turned v.0) vs j d (turned d.0) m))
    ∙ Less-from_sorted position_cmp (map (λ (v : VertexOf). turned v.0) vs) i j (turned d.0) h l (rw length-map m))

pub apart_at : (vs : List VertexOf) → AreRising vs → (i j : ℕ) (d : VertexOf) → i < length vs → j < length vs → (i ≡ j → ⊥)
    → position_eq (get_or vs i d).0 (get_or vs j d).0 ≡ false
apart_at vs h i j d l m n =
    by_bool (nat_lt i j)
    (λ e. before_differs (get_or vs i d).0 (get_or vs j d).0 (in_turn vs h i j d (ltb-true i j e) m))
    (λ e. let o : j ≤ i = ltb-false i j e in after_differs (get_or vs i d).0 (get_or vs j d).0 (in_turn vs h j i d (omega (arith, n)) l))

-- ---- one place more

module _ (ss : List Segment) (place : ℕ) where
  abbrev begins_at : Position → ℕ → Bool
  begins_at p i = position_eq (bottom (segment_at ss i)) p

  -- where the place does not begin, as many as before
  other_vertex : (v : VertexOf) → begins_at v.0 place ≡ false → BegunAt ss place v → BegunAt ss (place + 1) v
  other_vertex v h b i = b i ∙ by (i == place) refl
    where
      and_none : (c : Bool) → ◌≡◌ {A = ℕ} (cond (c && false) 1 0) 0
      and_none true = refl
      and_none false = refl

      below_next : (i place : ℕ) → (i == place) ≡ false → nat_lt i place ≡ nat_lt i (place + 1)
      below_next i place e = grind (arith, nat_tests)

      by : (c : Bool) → (i == place) ≡ c → ◌≡◌ {A = ℕ} (cond (nat_lt i place && begins_at v.0 i) 1 0) (cond (nat_lt i (place + 1) && begins_at v.0 i) 1 0)
      by true e =
          let same : i ≡ place = eqb-true i place e in
          let none : begins_at v.0 i ≡ false = ap (begins_at v.0) same ∙ h in
          ap (λ c. cond {A = ℕ} (nat_lt i place && c) 1 0) none ∙ and_none (nat_lt i place) ∙ sym (ap (λ c. cond {A = ℕ} (nat_lt i (place + 1) && c) 1 0) none ∙ and_none (nat_lt i (place + 1)))
      by false e = ap (λ c. cond {A = ℕ} (c && begins_at v.0 i) 1 0) (below_next i place e)

  -- where it begins, one more
  this_vertex : (p : Position) (ns : List ℕ) → bottom (segment_at ss place) ≡ p → BegunAt ss place (p, ns) → BegunAt ss (place + 1) (p, ns ++ place ∷ [])
  this_vertex p ns h b i =
      times-append i ns (place ∷ []) ∙ ap (λ m. m + times i (place ∷ [])) (b i) ∙ by (place == i) refl
    where
      one : (a : Bool) → a ≡ false → (b : Bool) → b ≡ true → (c : Bool) → c ≡ true
          → ◌≡◌ {A = ℕ} (cond (a && c) 1 0 + 1) (cond (b && c) 1 0)
      one true h b k c l = absurd (false≢true (sym h))
      one false h false k c l = absurd (false≢true k)
      one false h true k false l = absurd (false≢true l)
      one false h true k true l = omega arith

      plus : (n : ℕ) → n + 0 ≡ n
      plus n = omega arith

      more : (a b c : Bool) → a ≡ b → ◌≡◌ {A = ℕ} (cond (a && c) 1 0 + 0) (cond (b && c) 1 0)
      more a b c h = subst (λ z. ◌≡◌ {A = ℕ} (cond (a && c) 1 0 + 0) (cond (z && c) 1 0)) h (plus (cond (a && c) 1 0))

      below_next : (i place : ℕ) → (place == i) ≡ false → nat_lt i place ≡ nat_lt i (place + 1)
      below_next i place e = grind (arith, nat_tests)

      by : (c : Bool) → (place == i) ≡ c
          → ◌≡◌ {A = ℕ} (cond (nat_lt i place && begins_at p i) 1 0 + cond c 1 0) (cond (nat_lt i (place + 1) && begins_at p i) 1 0)
      by true e =
          let same : place ≡ i = eqb-true place i e in
          let begins : begins_at p i ≡ true = ap (begins_at p) (sym same) ∙ ap (λ q. position_eq q p) h ∙ position_eq-refl p in
          one (nat_lt i place) (le-ltb i place (omega arith)) (nat_lt i (place + 1)) (lt-ltb i (place + 1) (omega arith)) (begins_at p i) begins
      by false e = more (nat_lt i place) (nat_lt i (place + 1)) (begins_at p i) (below_next i place e)

  pub noted_all : (old new : List VertexOf) → AreRising old → Notes place (bottom (segment_at ss place)) old new
      → All (BegunAt ss place) old → All (BegunAt ss (place + 1)) new
  noted_all old new h n all j d l = by (j == n.k) refl
    where
      at : Position
      at = bottom (segment_at ss place)

      there : VertexOf
      there = get_or old n.k (bottom (segment_at ss place), [])

      long : length new ≡ length old
      long = ap length n.noted ∙ length-set old n.k _

      within : j < length old
      within = subst (λ m. j < m) long l

      by : (c : Bool) → (j == n.k) ≡ c → BegunAt ss (place + 1) (get_or new j d)
      by true e =
          let same : j ≡ n.k = eqb-true j n.k e in
          subst (BegunAt ss (place + 1))
          (sym (ap₂ (λ vs m. get_or vs m d) n.noted same ∙ get_or-set_same old n.k _ d n.bound))
          (this_vertex (bottom (segment_at ss place)) (get_or old n.k (bottom (segment_at ss place), [])).1 refl
          (subst (λ p. BegunAt ss place (p, (get_or old n.k (bottom (segment_at ss place), [])).1)) n.there (all n.k (bottom (segment_at ss place), []) n.bound)))
      by false e =
          let differs : j ≡ n.k → ⊥ = λ f. false≢true (sym e ∙ eq-eqb j n.k f) in
          subst (BegunAt ss (place + 1)) (sym (ap (λ vs. get_or vs j d) n.noted ∙ get_or-set_other old n.k j _ d differs))
          (other_vertex (get_or old j d)
          (ap (λ p. position_eq p (get_or old j d).0) (sym n.there ∙ ap (λ (v : VertexOf). v.0) (get_or_default old n.k (bottom (segment_at ss place), []) d n.bound))
          ∙ apart_at old h n.k j d n.bound within (λ f. differs (sym f)))
          (all j d within))

  pub noted_same : (old new : List VertexOf) → Notes place (bottom (segment_at ss place)) old new → map (λ (v : VertexOf). v.0) new ≡ map (λ (v : VertexOf). v.0) old
  noted_same old new n =
      ap (map (λ (v : VertexOf). v.0)) n.noted
      ∙ map-set (λ (v : VertexOf). v.0) old n.k _
      ∙ ap (set (map (λ (v : VertexOf). v.0) old) n.k)
      (sym n.there ∙ sym (get_or-map (λ (v : VertexOf). v.0) old n.k (bottom (segment_at ss place), []) (bottom (segment_at ss place)) n.bound))
      ∙ set-get_or (map (λ (v : VertexOf). v.0) old) n.k (bottom (segment_at ss place))

-- at no vertex anything begins before all places
pub none_begun : (ss : List Segment) (vs : List VertexOf) → All (λ v. v.1 ≡ []) vs → All (BegunAt ss 0) vs
none_begun ss vs h k d l i =
    ap (times i) (h k d l)
    ∙ sym (ap (λ b. cond {A = ℕ} (b && position_eq (bottom (segment_at ss i)) (get_or vs k d).0) 1 0) (le-ltb i 0 (omega arith)))

-- ---- all of them

pub are_vertices : (ss : List Segment) (levels : List Position) (bare vs : List VertexOf)
    → Ascends position_cmp (Contains (flat_map turned_ends ss)) levels → map (λ v. turned v.0) bare ≡ levels
    → map (λ (v : VertexOf). v.0) vs ≡ map (λ (v : VertexOf). v.0) bare → All (BegunAt ss (length ss)) vs → AreVertices ss vs
are_vertices ss levels bare vs h e f all = record {
  rising = subst (IsStrictlySortedBy position_cmp) (sym turned_are) h.ascending;
  bottoms = λ s c. subst (λ ps. Contains ps (turned (bottom s))) (sym turned_are)
      ((h.all (turned (bottom s))).1 (in_contains (flat_map turned_ends ss) (turned (bottom s)) (end_among ss s (contains_in ss s c)).0));
  tops = λ s c. subst (λ ps. Contains ps (turned (top s))) (sym turned_are)
      ((h.all (turned (top s))).1 (in_contains (flat_map turned_ends ss) (turned (top s)) (end_among ss s (contains_in ss s c)).1));
  begun = λ v c. subst (BegunAt ss (length ss)) c.2 (all c.0 v c.1);
}
  where
    turned_are : map (λ (v : VertexOf). turned v.0) vs ≡ levels
    turned_are = map_twice vs ∙ ap (map turned) f ∙ sym (map_twice bare) ∙ e
