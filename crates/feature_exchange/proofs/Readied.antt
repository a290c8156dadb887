-- Features exchanged in a frame of ring numbers: which rings are named then, and what still can be
-- exchanged.
use Rattle.kit_words.proofs.Common.{◌≡◌, ◌<◌, ℕ, true, refl, sym, ap, ap₂, ◌∙◌, subst, cond, List, [], ◌∷◌, ◌++◌, inl}
use Rattle.kit_words.proofs.Common.{inr, Option, Some, None, Contains, eq-eqb, flat_map, append-nil, map-append}
use Rattle.kit_words.proofs.Common.{flat_map-append, all_front, all_back}
use Rattle.ring_machine.specs.Common.{FeatureOf, DocumentOf, feature, rings, are_distinct}
use Rattle.ring_machine.proofs.Common.{In, in_left, in_right, DistinctParts, distinct_parts, contains_in, in_contains}
use Rattle.edit_records.specs.Common.{LayerTree, Fills, numbers_placed, has_place, exchanged_features, exchanged}
use Rattle.edit_records.specs.Common.{AreNumbered}
use Rattle.edit_records.proofs.Common.{exchanged-feature, exchanged-fills, exchanged-append, place_in}
use Rattle.feature_exchange.specs.Common.{rings_in, coming, IsReady, FitsForm, put_in, rings_under}
use Rattle.map_frame.specs.Common.{Framed}
use Rattle.feature_exchange.proofs.Changes.{Changes, none_changes, changes_at, changes_as, changes_twice, changes_swap}
use Rattle.feature_exchange.proofs.Placed.{rings_at, filled_rings, rings_placed, spot, flat_same, numbers, others_same}
use Rattle.feature_exchange.proofs.Under.{under_found, under_none, under_in}

-- the rings that these numbers have now
abbrev pub going : {R : Type 0} → DocumentOf R → List (ℕ × Option (FeatureOf R)) → List R
going d cs = flat_map (λ c. rings_under d c.0) cs

under_is : {R : Type 0} (d : DocumentOf R) (n : ℕ) → rings_in (feature d n) ≡ rings_under d n
under_is {R} d n = by (feature d n) refl
  where
    by : (o : Option (FeatureOf R)) → feature d n ≡ o → rings_in (feature d n) ≡ rings_under d n
    by None e = ap rings_in e ∙ sym (under_none d n e)
    by (Some f) e = ap rings_in e ∙ sym (under_found d n f e)

-- ---- parts of a list

own_left : {R : Type 0} (xs ys : List (ℕ × Option (FeatureOf R))) → AreNumbered (xs ++ ys) → AreNumbered xs
own_left [] ys h = tt
own_left (x ∷ xs) ys h = (h.0, own_left xs ys h.1)

own_right : {R : Type 0} (xs ys : List (ℕ × Option (FeatureOf R))) → AreNumbered (xs ++ ys) → AreNumbered ys
own_right [] ys h = h
own_right (x ∷ xs) ys h = own_right xs ys h.1

module _ (frame : Framed) (xs ys : List (ℕ × Option (FeatureOf ℕ))) (r : IsReady frame (xs ++ ys)) where
  pub apart_parts : DistinctParts (numbers xs) (numbers ys)
  apart_parts = distinct_parts (numbers xs) (numbers ys) (ap are_distinct (sym (map-append (λ c. c.0) xs ys)) ∙ r.apart)

  row : coming (xs ++ ys) ≡ coming xs ++ coming ys
  row = flat_map-append (λ c. rings_in c.1) xs ys

  coming_parts : DistinctParts (coming xs) (coming ys)
  coming_parts = distinct_parts (coming xs) (coming ys) (ap are_distinct (sym row) ∙ r.different)

  from_left : (n : ℕ) → In n (coming xs) → Contains (coming (xs ++ ys)) n
  from_left n i = in_contains (coming (xs ++ ys)) n (subst (In n) (sym row) (in_left n (coming xs) (coming ys) i))

  from_right : (n : ℕ) → In n (coming ys) → Contains (coming (xs ++ ys)) n
  from_right n i = in_contains (coming (xs ++ ys)) n (subst (In n) (sym row) (in_right n (coming xs) (coming ys) i))

  pub ready_right : IsReady frame ys
  ready_right = record {
    placed = r.placed;
    below = all_back (λ c. c.0 < frame.next) xs ys r.below;
    apart = apart_parts.right;
    own = own_right xs ys r.own;
    fits = all_back (λ c. FitsForm c.1) xs ys r.fits;
    once = r.once;
    different = coming_parts.right;
    new = λ n c. r.new n (from_right n (contains_in (coming ys) n c));
    room = λ n c. r.room n (from_right n (contains_in (coming ys) n c));
  }

  -- what is still to be exchanged after the others
  pub ready_left : Changes (rings frame.doc) (rings (exchanged frame.places ys frame.doc)) (going frame.doc ys) (coming ys)
      → IsReady (put_in frame ys) xs
  ready_left changes = record {
    placed = record {
      fills = exchanged-fills frame.places ys frame.doc (own_right xs ys r.own);
      formed = r.placed.formed;
      alone = r.placed.alone;
      placed = r.placed.placed;
      known = r.placed.known;
    };
    below = all_front (λ c. c.0 < frame.next) xs ys r.below;
    apart = apart_parts.left;
    own = own_left xs ys r.own;
    fits = all_front (λ c. FitsForm c.1) xs ys r.fits;
    once = changes.once;
    different = coming_parts.left;
    new = λ n c o.
        let i = contains_in (coming xs) n c in
        elim (changes.from n (contains_in (rings (exchanged frame.places ys frame.doc)) n o)) [
          | inl k ↦ r.new n (from_left n i) (in_contains (rings frame.doc) n k.0)
          | inr k ↦ coming_parts.apart n i k
        ];
    room = λ n c. r.room n (from_left n (contains_in (coming xs) n c));
  }

-- ---- one number

module _ (frame : Framed) (c : ℕ × Option (FeatureOf ℕ)) (r : IsReady frame (c ∷ [])) where
  pub one_changes : Changes (rings frame.doc) (rings (exchanged frame.places (c ∷ []) frame.doc)) (going frame.doc (c ∷ [])) (coming (c ∷ []))
  one_changes =
      let d = frame.doc in
      let k = feature d in
      let k' = exchanged_features (c ∷ []) k in
      let s = spot c.0 (numbers_placed frame.places) r.placed.alone (place_in frame.places c.0 (r.placed.placed c.0 r.below.0)) in
      let us = rings_at k s.us in
      let vs = rings_at k s.vs in
      let was : rings d ≡ us ++ (rings_in (k c.0) ++ vs) =
      rings_placed frame.places d r.placed.fills ∙ ap (rings_at k) s.is
      ∙ flat_map-append (λ m. rings_in (k m)) s.us (c.0 ∷ s.vs) in
      let here : k' c.0 ≡ c.1 = ap (λ t. cond t c.1 (k c.0)) (eq-eqb c.0 c.0 refl) in
      let same : (m : ℕ) → (m ≡ c.0 → ⊥) → rings_in (k' m) ≡ rings_in (k m) =
      λ m f. ap rings_in (others_same (c ∷ []) k m (λ i. elim i [ inl e ↦ f (sym e) | inr j ↦ j ])) in
      let now : rings (exchanged frame.places (c ∷ []) d) ≡ us ++ (rings_in c.1 ++ vs) =
      filled_rings k' frame.places ∙ ap (rings_at k') s.is
      ∙ flat_map-append (λ m. rings_in (k' m)) s.us (c.0 ∷ s.vs)
      ∙ ap₂ (λ y z. y ++ z)
      (flat_same (λ m. rings_in (k' m)) (λ m. rings_in (k m)) s.us (λ m i. same m (λ e. s.before (subst (λ z. In z s.us) e i))))
      (ap₂ (λ y z. y ++ z) (ap rings_in here)
      (flat_same (λ m. rings_in (k' m)) (λ m. rings_in (k m)) s.vs (λ m i. same m (λ e. s.after (subst (λ z. In z s.vs) e i))))) in
      let one : coming (c ∷ []) ≡ rings_in c.1 = append-nil (rings_in c.1) in
      changes_as (us ++ (rings_in (k c.0) ++ vs)) (us ++ (rings_in c.1 ++ vs)) (rings_in (k c.0)) (rings_in c.1)
      (rings d) (rings (exchanged frame.places (c ∷ []) d)) (going d (c ∷ [])) (coming (c ∷ []))
      was now (append-nil (rings_under d c.0) ∙ sym (under_is d c.0)) one
      (changes_at us (rings_in (k c.0)) (rings_in c.1) vs (ap are_distinct (sym was) ∙ r.once) (ap are_distinct (sym one) ∙ r.different)
      (λ n i j. r.new n (in_contains (coming (c ∷ [])) n (subst (In n) (sym one) i)) (in_contains (rings d) n (subst (In n) (sym was) j))))

-- ---- all of them

-- what another number has stays
pub under_stays : (frame : Framed) (xs ys : List (ℕ × Option (FeatureOf ℕ))) → IsReady frame (xs ++ ys) → (n : ℕ)
    → has_place frame.places n ≡ true → (In n (numbers ys) → ⊥)
    → feature (exchanged frame.places ys frame.doc) n ≡ feature frame.doc n
under_stays frame xs ys r n place off =
    exchanged-feature frame.places ys frame.doc (own_right xs ys r.own) n place ∙ others_same ys (feature frame.doc) n off

pub none_exchanged : {R : Type 0} (trees : List LayerTree) (d : DocumentOf R) → Fills trees d → exchanged trees [] d ≡ d
none_exchanged trees d fills = ap (λ z. record { transform = d.transform; layers = z; members = d.members }) (sym fills)

pub all_changes : (frame : Framed) (cs : List (ℕ × Option (FeatureOf ℕ))) → IsReady frame cs
    → Changes (rings frame.doc) (rings (exchanged frame.places cs frame.doc)) (going frame.doc cs) (coming cs)
all_changes frame [] r =
    subst (λ z. Changes (rings frame.doc) (rings z) [] []) (sym (none_exchanged frame.places frame.doc r.placed.fills))
    (none_changes (rings frame.doc) r.once)
all_changes frame (c ∷ cs) r =
    let d = frame.doc in
    let rest = all_changes frame cs (ready_right frame (c ∷ []) cs r) in
    let last = one_changes (put_in frame cs) c (ready_left frame (c ∷ []) cs r rest) in
    let d1 = exchanged frame.places cs d in
    let place = r.placed.placed c.0 r.below.0 in
    let parts = apart_parts frame (c ∷ []) cs r in
    let same : rings_under d1 c.0 ≡ rings_under d c.0 =
    sym (under_is d1 c.0) ∙ ap rings_in (under_stays frame (c ∷ []) cs r c.0 place (λ i. parts.apart c.0 (inl refl) i)) ∙ under_is d c.0 in
    let gone : going d1 (c ∷ []) ≡ rings_under d c.0 = append-nil (rings_under d1 c.0) ∙ same in
    let both = changes_twice (rings d) (rings d1) (rings (exchanged frame.places (c ∷ []) d1)) (going d cs) (coming cs) (going d1 (c ∷ [])) (coming (c ∷ []))
    rest last (λ n i j.
    r.new n (in_contains (coming (c ∷ cs)) n (in_right n (rings_in c.1) (coming cs) j)) (in_contains (rings d) n (under_in d c.0 n (subst (In n) gone i)))) in
    changes_as (rings d) (rings (exchanged frame.places (c ∷ []) d1)) (going d1 (c ∷ []) ++ going d cs) (coming (c ∷ []) ++ coming cs)
    (rings d) (rings (exchanged frame.places (c ∷ cs) d)) (going d (c ∷ cs)) (coming (c ∷ cs))
    refl (ap rings (sym (exchanged-append frame.places cs d (own_right (c ∷ []) cs r.own) (c ∷ []))))
    (ap (λ z. z ++ going d cs) (sym gone)) (ap (λ z. z ++ coming cs) (sym (append-nil (rings_in c.1))))
    (changes_swap (rings d) (rings (exchanged frame.places (c ∷ []) d1)) (going d cs) (going d1 (c ∷ [])) (coming cs) (coming (c ∷ [])) both)
