-- The least edge count of the rings at a vertex.
use Rattle.kit_words.proofs.Common.{◌≡◌, ℕ, ◌+◌, ◌-◌, ◌≤◌, ◌<◌, true, cond, refl, sym, ap, ◌∙◌, subst, List, [], ◌∷◌}
use Rattle.kit_words.proofs.Common.{◌++◌, map, take, length, get_or, ◌⊎◌, inl, inr, arith, Contains, Option, Some, None}
use Rattle.kit_words.proofs.Common.{IfSome, IfNone, min, min-eq_left, min-eq_right, min-le_left, false≢true, cases_lt}
use Rattle.kit_words.proofs.Common.{take_more, append-nil, length-append, map-append, flat_map, flat_map-append}
use Rattle.kit_words.proofs.Common.{flat_map_single, cases_Bool}
use Rattle.slab.specs.Slab.{get}
use Rattle.slab.proofs.SlabLemmas.{Contains-cons, Contains-cons_cases}
use Rattle.arc_tables.specs.declared.arc.Use.{Use}
use Rattle.arc_tables.specs.declared.tables.Tables.{Tables}
use Rattle.ring_store.specs.Common.{Neighbours, noted_all, other_ends, Passes, edge_count, less_of, least_number, users_at}
use Rattle.ring_store.specs.Shortest.{is_any, touches, rings_among}
use Rattle.ring_store.specs.declared.neighbours.Neighbours.TheVariants as neighbours
use Rattle.arc_tables.specs.Common.{Edge, links, walk, chain, times, edges_of, Rings, rings_of, path_of, users_in}
use Rattle.arc_tables.specs.Common.{uses_in, store, stand_at, Known, Listed, Whole}
use Rattle.arc_tables.proofs.Common.{chain_append, present, chain_has, chain_uses, none_contained, ring_here}
use Rattle.ring_store.proofs.ReadLemmas.{length-walk}
use Rattle.ring_store.proofs.NeighbourLemmas.{Sees, sees_list, in_flat_map, to_flat_map, ends_times, times_ends}
use Rattle.ring_store.proofs.JoinedLemmas.{stands_in, edges_held}

-- ---- edge counts

length-links : (ps : List ℕ) → length (links ps) ≡ length ps - 1
length-links [] = refl
length-links (p ∷ []) = refl
length-links (p ∷ q ∷ ps) = omega (arith, length-links (q ∷ ps))

-- a sum that stops at a limit
min_add : (a d limit : ℕ) → min (min a limit + d) limit ≡ min (a + d) limit
min_add a d limit = omega arith

-- one use more
pub count_more : (limit : ℕ) (path : ℕ → List ℕ) (us : List Use) (i : ℕ) (d : Use) → i < length us →
    min (edge_count limit path (take i us) + (length (path (get_or us i d).arc) - 1)) limit ≡ edge_count limit path (take (i + 1) us)
count_more limit path us i d l =
    let u = get_or us i d in
    let last : length (chain path (u ∷ [])) ≡ length (path u.arc) - 1 = ap length (append-nil (links (walk u.back (path u.arc)))) ∙ length-links (walk u.back (path u.arc)) ∙ ap (λ n. n - 1) (length-walk u.back (path u.arc)) in
    let sum : length (chain path (take (i + 1) us)) ≡ length (chain path (take i us)) + (length (path u.arc) - 1) = ap (λ z. length (chain path z)) (take_more us i d l) ∙ ap length (chain_append path (take i us) (u ∷ [])) ∙ length-append (chain path (take i us)) (chain path (u ∷ [])) ∙ ap (λ n. length (chain path (take i us)) + n) last in
    min_add (length (chain path (take i us))) (length (path u.arc) - 1) limit ∙ ap (λ n. min n limit) (sym sum)

-- ---- the least

pub least_of-append : (o : Option ℕ) (ms ns : List ℕ) → least_number o (ms ++ ns) ≡ least_number (least_number o ms) ns
least_of-append o [] ns = refl
least_of-append o (m ∷ ms) ns = least_of-append (less_of o m) ms ns

-- one ring more
pub least_more : (count : ℕ → ℕ) (o : Option ℕ) (rs : List ℕ) (i : ℕ) → i < length rs → less_of (least_number o (map count (take i rs))) (count (get_or rs i 0)) ≡ least_number o (map count (take (i + 1) rs))
least_more count o rs i l = sym (least_of-append o (map count (take i rs)) (count (get_or rs i 0) ∷ [])) ∙ ap (least_number o) (sym (ap (map count) (take_more rs i 0 l) ∙ map-append count (take i rs) (get_or rs i 0 ∷ [])))

-- and one arc more
pub among_least : (count : ℕ → ℕ) (o : Option ℕ) (path users : ℕ → List ℕ) (k : ℕ) (among : List ℕ) (i : ℕ) → i < length among →
    least_number (least_number o (map count (rings_among path users (take i among) k))) (map count (users_at path users k (get_or among i 0))) ≡ least_number o (map count (rings_among path users (take (i + 1) among) k))
among_least count o path users k among i l =
    let f : ℕ → List ℕ = users_at path users k in
    let more : rings_among path users (take (i + 1) among) k ≡ rings_among path users (take i among) k ++ f (get_or among i 0) = ap (flat_map f) (take_more among i 0 l) ∙ flat_map-append f (take i among) (get_or among i 0 ∷ []) ∙ ap (λ z. rings_among path users (take i among) k ++ z) (append-nil (f (get_or among i 0))) in
    sym (least_of-append o (map count (rings_among path users (take i among) k)) (map count (f (get_or among i 0)))) ∙ ap (least_number o) (sym (ap (map count) more ∙ map-append count (rings_among path users (take i among) k) (f (get_or among i 0))))

-- the number has the property, and no lesser one has
abbrev pub IsLeastOf : (ℕ → Type 0) → Option ℕ → Type 0
IsLeastOf P None = (n : ℕ) → ¬ (P n)
IsLeastOf P (Some n) = P n × ((m : ℕ) → P m → n ≤ m)

least_alike : (P Q : ℕ → Type 0) → ((n : ℕ) → P n → Q n) → ((n : ℕ) → Q n → P n) → (o : Option ℕ) → IsLeastOf P o → IsLeastOf Q o
least_alike P Q f g None h = λ n q. h n (g n q)
least_alike P Q f g (Some n) h = (f n h.0, λ m q. h.1 m (g m q))

one_more : (P : ℕ → Type 0) (o : Option ℕ) (n : ℕ) → IsLeastOf P o → IsLeastOf (λ m. P m ⊎ (m ≡ n)) (less_of o n)
one_more P None n h = (inr refl, λ m k. elim k [ inl p ↦ absurd (h m p) | inr e ↦ omega (arith, e) ])
one_more P (Some l) n h = by (cases_lt n l)
  where
    by : (n < l) ⊎ (l ≤ n) → IsLeastOf (λ m. P m ⊎ (m ≡ n)) (Some (min l n))
    by (inl f) = subst (λ z. IsLeastOf (λ m. P m ⊎ (m ≡ n)) (Some z)) (sym (min-eq_right {n = n} {m = l} (omega arith))) (inr refl, λ m k. elim k [ inl p ↦ omega (arith, h.1 m p) | inr e ↦ omega (arith, e) ])
    by (inr f) = subst (λ z. IsLeastOf (λ m. P m ⊎ (m ≡ n)) (Some z)) (sym (min-eq_left {n = l} {m = n} f)) (inl h.0, λ m k. elim k [ inl p ↦ h.1 m p | inr e ↦ omega (arith, e) ])

all_more : (P : ℕ → Type 0) (o : Option ℕ) (ns : List ℕ) → IsLeastOf P o → IsLeastOf (λ m. P m ⊎ Contains ns m) (least_number o ns)
all_more P o [] h = least_alike P (λ m. P m ⊎ Contains [] m) (λ m p. inl p) (λ m k. elim k [ inl p ↦ p | inr z ↦ absurd (omega (arith, z.1)) ]) o h
all_more P o (n ∷ ns) h =
    least_alike (λ m. (P m ⊎ (m ≡ n)) ⊎ Contains ns m) (λ m. P m ⊎ Contains (n ∷ ns) m)
    (λ m k. elim k [ inl j ↦ elim j [ inl p ↦ inl p | inr e ↦ inr (0, omega arith, sym e) ] | inr z ↦ inr (Contains-cons n m ns z) ])
    (λ m k. elim k [ inl p ↦ inl (inl p) | inr z ↦ elim (Contains-cons_cases n m ns z) [ inl e ↦ inl (inr (sym e)) | inr j ↦ inr j ] ])
    (least_number (less_of o n) ns) (all_more (λ m. P m ⊎ (m ≡ n)) (less_of o n) ns (one_more P o n h))

pub least_list : (ns : List ℕ) → IsLeastOf (Contains ns) (least_number None ns)
least_list ns = least_alike (λ m. ⊥ ⊎ Contains ns m) (Contains ns) (λ m k. elim k [ inl p ↦ absurd p | inr z ↦ z ]) (λ m z. inr z) (least_number None ns) (all_more (λ m. ⊥) None ns (λ m p. p))

in_map : (f : ℕ → ℕ) (xs : List ℕ) (y : ℕ) → Contains (map f xs) y → (x : ℕ) × Contains xs x × (f x ≡ y)
in_map f xs y m =
    let r = in_flat_map (λ x. f x ∷ []) xs y (subst (λ z. Contains z y) (sym (flat_map_single f xs)) m) in
    (r.0, r.1, elim (Contains-cons_cases (f r.0) y [] r.2) [ inl e ↦ e | inr z ↦ absurd (none_contained y [] refl z) ])

to_map : (f : ℕ → ℕ) (xs : List ℕ) (x : ℕ) → Contains xs x → Contains (map f xs) (f x)
to_map f xs x m = subst (λ z. Contains z (f x)) (flat_map_single f xs) (to_flat_map (λ y. f y ∷ []) xs x (f x) m (0, omega arith, refl))

-- ---- which rings these are

any_seen : (P : ℕ → Type 0) (n : Neighbours) (x : ℕ) → Sees P n → P x → is_any n ≡ true
any_seen P neighbours.None x h p = absurd (h x p)
any_seen P (neighbours.One a) x h p = refl
any_seen P (neighbours.Two a b) x h p = refl
any_seen P neighbours.More x h p = refl

some_seen : (P : ℕ → Type 0) (n : Neighbours) → Sees P n → is_any n ≡ true → (x : ℕ) × P x
some_seen P neighbours.None h e = absurd (false≢true e)
some_seen P (neighbours.One a) h e = (a, (h a).1 refl)
some_seen P (neighbours.Two a b) h e = (a, (h.1 a).1 (inl refl))
some_seen P neighbours.More h e = (h.0, h.4.0)

pub touched : (k x : ℕ) (ps : List ℕ) → 1 ≤ times k x (links ps) → touches k ps ≡ true
touched k x ps h = let ends = other_ends k (links ps) in any_seen (Contains ends) (noted_all neighbours.None ends) x (sees_list ends) (times_ends k x (links ps) h)

pub touched_by : (k : ℕ) (ps : List ℕ) → touches k ps ≡ true → (x : ℕ) × (1 ≤ times k x (links ps))
touched_by k ps e = let ends = other_ends k (links ps) in let r = some_seen (Contains ends) (noted_all neighbours.None ends) (sees_list ends) e in (r.0, ends_times k r.0 (links ps) r.1)

to_users : (path users : ℕ → List ℕ) (k i r : ℕ) → touches k (path i) ≡ true → Contains (users i) r → Contains (users_at path users k i) r
to_users path users k i r e m = subst (λ b. Contains (cond b (users i) []) r) (sym e) m

from_users : (path users : ℕ → List ℕ) (k i r : ℕ) → Contains (users_at path users k i) r → (touches k (path i) ≡ true) × Contains (users i) r
from_users path users k i r m = elim (cases_Bool (touches k (path i))) [
  | inl e ↦ (e, subst (λ b. Contains (cond b (users i) []) r) e m)
  | inr e ↦ absurd (none_contained r [] refl (subst (λ b. Contains (cond b (users i) []) r) e m))
]

-- what a call says of the shortest ring at a vertex
pub record SaysShortest (passes : List Edge → Type 0) (limit : ℕ) (o : Option ℕ) : Type 0 where
  pub none : IfNone o ((es : List Edge) → ¬ (passes es))
  pub some : IfSome o (λ n. (es : List Edge) × passes es × (n ≡ min (length es) limit))
  pub least : IfSome o (λ n. (es : List Edge) → passes es → n ≤ length es)

module _ {A : Type 0} where
  module _ (t : Tables A) (k : ℕ) (known : Known t.arcs t.rings) (listed : Listed t.arcs t.stands.items) where
    users : ℕ → List ℕ
    users i = users_in (get t.arcs i)

    -- the rings that have a segment at k
    abbrev pub rings_here : List ℕ
    rings_here = rings_among (path_of t) (λ i. users_in (get t.arcs i)) (stand_at t.stands.items k) k

    passes_ring : (es : List Edge) → Passes (rings_of t) k es → (r : ℕ) × Contains rings_here r × (edges_of (store t) r ≡ es)
    passes_ring es p =
        let e = edges_held t p.ring es p.held in
        let f = chain_uses k p.other (path_of t) (uses_in (get t.rings p.ring)) (subst (λ z. 1 ≤ times k p.other z) (sym e) p.has) in
        (p.ring, to_flat_map (users_at (path_of t) (λ i. users_in (get t.arcs i)) k) (stand_at t.stands.items k) f.0 p.ring (listed f.0 k (stands_in k p.other (path_of t f.0) f.2)) (to_users (path_of t) (λ i. users_in (get t.arcs i)) k f.0 p.ring (touched k p.other (path_of t f.0) f.2) (known.users p.ring f.0 f.1)), e)

    ring_passes : (r : ℕ) → Contains rings_here r → Passes (rings_of t) k (edges_of (store t) r)
    ring_passes r m =
        let f = in_flat_map (users_at (path_of t) (λ i. users_in (get t.arcs i)) k) (stand_at t.stands.items k) r m in
        let u = from_users (path_of t) (λ i. users_in (get t.arcs i)) k f.0 r f.2 in
        let x = touched_by k (path_of t f.0) u.0 in
        let used = known.used r f.0 u.1 in
        record {
          ring = r;
          other = x.0;
          held = ring_here t r (present f.0 (get t.rings r) used);
          has = chain_has k x.0 (path_of t) f.0 (uses_in (get t.rings r)) x.1 used;
        }

    pub shortest_seen : (limit : ℕ) → SaysShortest (Passes (rings_of t) k) limit (least_number None (map (λ r. edge_count limit (path_of t) (uses_in (get t.rings r))) rings_here))
    shortest_seen limit = by (least_number None (map count rings_here)) (least_list (map count rings_here))
      where
        count : ℕ → ℕ
        count r = edge_count limit (path_of t) (uses_in (get t.rings r))

        counted : (es : List Edge) → Passes (rings_of t) k es → Contains (map count rings_here) (min (length es) limit)
        counted es p = let f = passes_ring es p in subst (λ z. Contains (map count rings_here) (min (length z) limit)) f.2 (to_map count rings_here f.0 f.1)

        by : (o : Option ℕ) → IsLeastOf (Contains (map count rings_here)) o → SaysShortest (Passes (rings_of t) k) limit o
        by None h = record { none = λ es p. h (min (length es) limit) (counted es p); some = tt; least = tt }
        by (Some n) h = let f = in_map count rings_here n h.0 in record {
          none = tt;
          some = (edges_of (store t) f.0, ring_passes f.0 f.1, sym f.2);
          least = λ es p. omega (arith, h.1 (min (length es) limit) (counted es p), min-le_left (length es) limit);
        }

module _ {A : Type 0} where
  -- the same of the map that the tables are seen as
  pub says_shortest : (t : Tables A) (k : ℕ) → Whole t → (limit : ℕ) (m : Rings) (o : Option ℕ) → rings_of t ≡ m →
      o ≡ least_number None (map (λ r. edge_count limit (path_of t) (uses_in (get t.rings r))) (rings_among (path_of t) (λ j. users_in (get t.arcs j)) (stand_at t.stands.items k) k)) → SaysShortest (Passes m k) limit o
  says_shortest t k w limit m o e f = subst (λ z. SaysShortest (Passes z k) limit o) e (subst (SaysShortest (Passes (rings_of t) k) limit) (sym f) (shortest_seen t k w.known w.listed limit))
