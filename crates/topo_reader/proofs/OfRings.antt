-- What opens is of rings, or of walks.
use Rattle.kit_words.proofs.Common.{◌≡◌, ℕ, suc, ◌+◌, ◌-◌, ◌≤◌, Bool, true, List, [], ◌∷◌, length, refl, sym, ap, ap₂}
use Rattle.kit_words.proofs.Common.{◌∙◌, subst, arith, ◌&&◌, Option, Some, None, Result, Ok, Err, IfOk, nat_le, is_some}
use Rattle.kit_words.proofs.Common.{list_all, flat_map, length-append, length-take, take_all, sum_by-cons, leb-true}
use Rattle.std.specs.Prelude.{sum_by}
use Rattle.grid_geometry.specs.Common.{Position}
use Rattle.ring_machine.specs.Common.{is_ring, canonical, rings, size, WellFormed}
use Rattle.ring_machine.proofs.Common.{canonical_is_ring, canonical_length}
use Rattle.json_spans.specs.Common.{Json, Node}
use Rattle.topo_outline.specs.Common.{Fault, arcs_do_not_meet, ring_short, too_large, ◌>>=◌, each, each_at, demand}
use Rattle.topo_outline.specs.Common.{OutlineText, leaves, KeepsTexts, outline}
use Rattle.topo_outline.proofs.Common.{outline_few}
use Rattle.topo_outline.specs.declared.fault.RingAt.{RingAt}
use Rattle.topo_outline.specs.declared.fault.Limit.TheVariants as limit
use Rattle.topo_outline.specs.declared.fault.OpenFault.{OpenFault}
use Rattle.topo_reader.specs.Common.{Closed, Rings, Walks, arcs, Arc, uses_of, meet, squeezed, all_of}
use Rattle.topo_reader.specs.Common.{joined, first_repeat, distinct, simple, walk_of, ring_of, closed_of, polygon_of}
use Rattle.topo_reader.specs.Common.{feature_of, all_rings, Polygons, Opened, document_of, is_walk, IsOf}
use Rattle.topo_reader.specs.Common.{polygons_along, walks_read, polygons_read, root_of, OpensBy, AreArcs, IsClosed}
use Rattle.topo_reader.specs.Common.{IsWalk, ReadsWith, ReadsBy}
use Rattle.topo_reader.specs.Sizes as sizes
use Rattle.topo_reader.proofs.Meant.{meant_formed, meant_keeps}
use Rattle.topo_reader.proofs.MeaningOfText.{made, made_along, is_read_by}
use Rattle.topo_reader.proofs.MeaningOfRings.{walk_meant}
use Rattle.topo_reader.proofs.Apart.{walk_is}
use Rattle.topo_reader.proofs.Repeats.{none_again}
use Rattle.topo_reader.proofs.Steps.{bind_ok, demand_ok, ok_same}
use Rattle.topo_reader.proofs.Numbering.{rings_within, rings_document, all_within, sum_within}

each_length : {A B : Type 0} (f : A → Result B Fault) (xs : List A) (ys : List B) → each f xs ≡ Ok ys → length ys ≡ length xs
each_length {B = B} f [] ys h = ap (λ (zs : List B). length zs) (sym (ok_same [] ys h))
each_length {B = B} f (x ∷ xs) ys h =
    let first = bind_ok (f x) (λ (b : B). each f xs >>= λ bs. Ok (b ∷ bs)) ys h in
    let rest = bind_ok (each f xs) (λ (bs : List B). Ok (first.0 ∷ bs)) ys first.2 in
    ap (λ (zs : List B). length zs) (sym (ok_same (first.0 ∷ rest.0) ys rest.2)) ∙ ap suc (each_length f xs rest.0 rest.1)

-- each answer passes the test and is no larger than what it is read from, so all of them are
module _ {A B : Type 0} (f : ℕ → A → Result B Fault) (t : B → Bool) (g : A → ℕ) (h : B → ℕ) where
  abbrev pub Good : List A → List B → Type 0
  Good xs ys = (list_all t ys ≡ true) × (sum_by h ys ≤ sum_by g xs) × (length ys ≡ length xs)

  one_more : (a : A) (b : B) (xs : List A) (ys : List B) → (t b ≡ true) × (h b ≤ g a) → Good xs ys → Good (a ∷ xs) (b ∷ ys)
  one_more a b xs ys this rest = (
    ap₂ (λ u v. u && v) this.0 rest.0,
    omega (arith, this.1, rest.1, sum_by-cons h b ys, sum_by-cons g a xs),
    ap suc rest.2,
  )

  pub each_at_good : ((i : ℕ) (a : A) (b : B) → f i a ≡ Ok b → (t b ≡ true) × (h b ≤ g a)) → (i : ℕ) (xs : List A) (ys : List B) → each_at f i xs ≡ Ok ys → Good xs ys
  each_at_good one i [] ys e = subst (λ zs. Good [] zs) (ok_same [] ys e) (refl, omega arith, refl)
  each_at_good one i (x ∷ xs) ys e =
      let first = bind_ok (f i x) (λ (b : B). each_at f (i + 1) xs >>= λ bs. Ok (b ∷ bs)) ys e in
      let rest = bind_ok (each_at f (i + 1) xs) (λ (bs : List B). Ok (first.0 ∷ bs)) ys first.2 in
      subst (λ zs. Good (x ∷ xs) zs) (ok_same (first.0 ∷ rest.0) ys rest.2) (one_more x first.0 xs rest.0 (one i x first.0 first.1) (each_at_good one (i + 1) xs rest.0 rest.1))

-- ---- one ring

squeezed_length : (before : Option Position) (ps : List Position) → length (squeezed before ps) ≤ length ps
unfolding squeezed
squeezed_length before [] = omega arith
squeezed_length before (p ∷ ps) = grind (arith, squeezed_length (Some p) ps)

all_length : (uses : List Arc) → length (all_of uses) ≡ sum_by length uses
unfolding all_of
all_length [] = refl
all_length (a ∷ uses) = length-append a (all_of uses) ∙ ap (λ (n : ℕ). length a + n) (all_length uses) ∙ sym (sum_by-cons length a uses)

joined_length : (uses : List Arc) → length (joined uses) ≤ sum_by length uses
joined_length uses = omega (arith, length-take (length (squeezed None (all_of uses)) - 1) (squeezed None (all_of uses)), squeezed_length None (all_of uses), all_length uses)

-- the list passes the test, and is no longer than the arcs
abbrev IsGood : (List Position → Bool) → List Arc → List Position → Type 0
IsGood t uses r = (t r ≡ true) × (length r ≤ sizes.ring_size uses)

simple_good : (at_ring : RingAt) (uses : List Arc) (walk r : List Position) → length walk ≤ sizes.ring_size uses → simple at_ring walk ≡ Ok r → IsGood is_ring uses r
simple_good at_ring uses walk r small h =
    let long = demand_ok (nat_le 3 (length walk)) (ring_short at_ring) (distinct at_ring walk (first_repeat [] walk)) r h in
    by (first_repeat [] walk) refl (leb-true 3 (length walk) long.0) long.1
  where
    by : (o : Option Position) → first_repeat [] walk ≡ o → 3 ≤ length walk → distinct at_ring walk o ≡ Ok r → IsGood is_ring uses r
    by (Some p) e l d = absurd cc
    by None e l d = subst (IsGood is_ring uses) (ok_same (canonical walk) r d)
        (canonical_is_ring walk l (none_again [] walk e).0, omega (arith, canonical_length walk, small))

walk_good : (at_ring : RingAt) (uses : List Arc) (walk : List Position) → walk_of at_ring uses ≡ Ok walk → IsGood is_walk uses walk
unfolding walk_of
walk_good at_ring uses walk h =
    let met = demand_ok (meet uses) (arcs_do_not_meet at_ring) (Ok (joined uses)) walk h in
    (walk_is uses walk (walk_meant at_ring uses walk h), subst (λ ps. length ps ≤ sizes.ring_size uses) (ok_same (joined uses) walk met.1) (joined_length uses))

ring_good : (at_ring : RingAt) (uses : List Arc) (r : List Position) → ring_of at_ring uses ≡ Ok r → IsGood is_ring uses r
unfolding ring_of
ring_good at_ring uses r h =
    let walk = bind_ok (walk_of at_ring uses) (simple at_ring) r h in
    simple_good at_ring uses walk.0 r (walk_good at_ring uses walk.0 walk.1).1 walk.2

-- ---- all of them, where each is good

module _ (closed : Closed) (t : List Position → Bool) (one : (at_ring : RingAt) (uses : List Arc) (r : List Position) → closed_of closed at_ring uses ≡ Ok r → IsGood t uses r) where
  polygon_good : (f p : ℕ) (rings' : List (List Arc)) (rs : List (List Position)) → polygon_of closed f p rings' ≡ Ok rs → (list_all t rs ≡ true) × (sum_by length rs ≤ sizes.polygon_size rings')
  unfolding polygon_of
  polygon_good f p rings' rs h =
      let all = each_at_good (λ r. closed_of closed (record { feature = f; polygon = p; ring = r })) t sizes.ring_size length (λ i a b. one (record { feature = f; polygon = p; ring = i }) a b) 0 rings' rs h in
      (all.0, all.1)

  feature_good : (f : ℕ) (ps : List (List (List Arc))) (rs : Polygons) → feature_of closed f ps ≡ Ok rs → (list_all (list_all t) rs ≡ true) × (sum_by (sum_by length) rs ≤ sizes.feature_size ps)
  unfolding feature_of
  feature_good f ps rs h =
      let all = each_at_good (polygon_of closed f) (list_all t) sizes.polygon_size (sum_by length) (λ i a b. polygon_good f i a b) 0 ps rs h in
      (all.0, all.1)

  all_good : (fs : List (List (List (List Arc)))) (rs : List Polygons) → all_rings closed fs ≡ Ok rs →
      (list_all (list_all (list_all t)) rs ≡ true) × (sum_by (sum_by (sum_by length)) rs ≤ sizes.size fs) × (length rs ≡ length fs)
  unfolding all_rings
  all_good fs rs h = each_at_good (feature_of closed) (list_all (list_all t)) sizes.feature_size (sum_by (sum_by length)) (λ i a b. feature_good i a b) 0 fs rs h

  -- ---- what was read

  abbrev IsWhole : OutlineText → List Polygons → Type 0
  IsWhole shape ps = (length (leaves shape.layers) ≤ 200000) × (length ps ≡ length (leaves shape.layers)) × (list_all (list_all (list_all t)) ps ≡ true) × (sum_by (sum_by (sum_by length)) ps ≤ 4000000)

  whole : (n : Node) (shape : OutlineText) (found : List Arc) (ps : List Polygons) → outline n ≡ Ok shape → polygons_along closed found shape.layers ≡ Ok ps → IsWhole shape ps
  whole n shape found ps e h =
      let uses = bind_ok (each (uses_of found) (leaves shape.layers)) (λ (uses : List (List (List (List Arc)))). demand (nat_le (sizes.size uses) 4000000) (too_large limit.Positions) (all_rings closed uses)) ps h in
      let fits = demand_ok (nat_le (sizes.size uses.0) 4000000) (too_large limit.Positions) (all_rings closed uses.0) ps uses.2 in
      let good = all_good uses.0 ps fits.1 in
      (leb-true (length (leaves shape.layers)) 200000 (outline_few n shape e), good.2 ∙ each_length (uses_of found) (leaves shape.layers) uses.0 uses.1, good.0, omega (arith, good.1, leb-true (sizes.size uses.0) 4000000 fits.0))

  made_of : (shape : OutlineText) (ps : List Polygons) → IsWhole shape ps → WellFormed (document_of (made shape ps)) → KeepsTexts (document_of (made shape ps)) → IsOf t (made shape ps)
  made_of shape ps w formed keeps =
      let same : rings (document_of (made shape ps)) ≡ flat_map rings_within ps =
      rings_document ps shape.layers ∙ ap (λ (qs : List Polygons). flat_map rings_within qs) (take_all (length (leaves shape.layers)) ps (omega (arith, w.1))) in
      let total : size (document_of (made shape ps)) ≡ sum_by (sum_by (sum_by length)) ps =
      ap (λ (rs : List (List Position)). sum_by length rs) same ∙ sum_within length ps in
      record {
        counted = w.1;
        formed = formed;
        keeps = keeps;
        few = w.0;
        are_rings = ap (λ (rs : List (List Position)). list_all t rs) same ∙ all_within t ps ∙ w.2;
        small = omega (arith, total, w.3);
      }

  -- what stands along arcs is of such lists, whatever the arcs are
  along_of : (AreThese : Bool → Node → List Arc → Type 0) (bytes : List ℕ) (shape : OutlineText) (found : List Arc) (ps : List Polygons) → ReadsWith AreThese (IsClosed closed) bytes (document_of (made shape ps)) → outline (root_of bytes) ≡ Ok shape → polygons_along closed found shape.layers ≡ Ok ps → IsOf t (made shape ps)
  along_of AreThese bytes shape found ps read e h =
      made_of shape ps (whole (root_of bytes) shape found ps e h)
      (meant_formed AreThese (IsClosed closed) bytes (document_of (made shape ps)) read)
      (meant_keeps AreThese (IsClosed closed) bytes (document_of (made shape ps)) read)

  -- what opens is of such lists
  opens_of : (bytes : List ℕ) (o : Opened) → OpensBy closed bytes o → IsOf t o
  opens_of bytes o h =
      let shape = bind_ok (outline (root_of bytes)) (λ (shape : OutlineText). polygons_read closed shape >>= λ ps. Ok (made shape ps)) o h.opens in
      let ps = bind_ok (polygons_read closed shape.0) (λ (ps : List Polygons). Ok (made shape.0 ps)) o shape.2 in
      let found = bind_ok (arcs (is_some shape.0.transform) shape.0.arcs) (λ (found : List Arc). polygons_along closed found shape.0.layers) ps.0 ps.1 in
      let is = ok_same (made shape.0 ps.0) o ps.2 in
      let read = subst (λ (p : Opened). ReadsBy (IsClosed closed) bytes (document_of p)) (sym is) (is_read_by closed bytes o h).0 in
      subst (IsOf t) is (along_of AreArcs bytes shape.0 found.0 ps.0 read shape.1 found.2)

  answers_of : {X : Type 0} (view : X → Opened) (bytes : List ℕ) (r : Result X OpenFault) → IfOk r (λ x. OpensBy closed bytes (view x)) → IfOk r (λ x. IsOf t (view x))
  answers_of view bytes (Ok x) h = opens_of bytes (view x) h
  answers_of view bytes (Err e) h = tt

-- ---- rings, and walks

module _ {X : Type 0} (view : X → Opened) (bytes : List ℕ) (r : Result X OpenFault) where
  pub answers_of_rings : IfOk r (λ x. OpensBy Rings bytes (view x)) → IfOk r (λ x. IsOf is_ring (view x))
  answers_of_rings h = answers_of Rings is_ring ring_good view bytes r h

  pub answers_of_walks : IfOk r (λ x. OpensBy Walks bytes (view x)) → IfOk r (λ x. IsOf is_walk (view x))
  answers_of_walks h = answers_of Walks is_walk walk_good view bytes r h

-- walks along arcs, whatever the arcs are
pub along_of_walks : (AreThese : Bool → Node → List Arc → Type 0) (bytes : List ℕ) (shape : OutlineText) (found : List Arc) (ps : List Polygons) → ReadsWith AreThese IsWalk bytes (document_of (made shape ps)) → outline (root_of bytes) ≡ Ok shape → walks_read found shape.layers ≡ Ok ps → IsOf is_walk (made shape ps)
along_of_walks AreThese bytes shape found ps read e h = along_of Walks is_walk walk_good AreThese bytes shape found ps read e h

-- what stands along arcs with walks is meant, whatever the arcs are
pub walks_along_meant : (AreThese : Bool → Node → List Arc → Type 0) (bytes : List ℕ) (shape : OutlineText) (found : List Arc) (ps : List Polygons) → length bytes ≤ 67108864 → Json 100 bytes → outline (root_of bytes) ≡ Ok shape → AreThese (is_some shape.transform) shape.arcs found → walks_read found shape.layers ≡ Ok ps → ReadsWith AreThese IsWalk bytes (document_of (made shape ps))
walks_along_meant AreThese bytes shape found ps short text e are h = (made_along AreThese Walks bytes shape found ps short text e are h).0
