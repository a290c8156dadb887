-- Vertices put back at once: the tables mean the document with each of them put back in turn.
use Rattle.kit_words.proofs.Common.{◌≡◌, ◌≢◌, ◌≤◌, ◌<◌, ◌^◌, ◌+◌, ◌↔◌, ℕ, true, refl, sym, ap, ap₂, ◌∙◌, subst, List}
use Rattle.kit_words.proofs.Common.{[], ◌∷◌, map, ◌||◌, ◌&&◌, inl, inr, arith, Option, Some, None, is_some, not}
use Rattle.kit_words.proofs.Common.{option_map, T, nat_cmp, is_lt, below_all, false≢true, ℕ_discrete}
use Rattle.std.specs.FinMap as table
use Rattle.std.specs.FinSet as set
use Rattle.std.specs.Cmp.{nat_cmp_total}
use Rattle.grid_geometry.specs.Common.{Position, Segment}
use Rattle.ring_machine.specs.Common.{Document, size, is_vertex, Proper}
use Rattle.vertex_index.specs.Common.{Placement, IsOccupied}
use Rattle.vertex_index.proofs.Common.{get-inserted}
use Rattle.segment_index.specs.Common.{SegmentSet, AreSingle, has}
use Rattle.arc_tables.specs.declared.batch.Put.{Put}
use Rattle.arc_tables.specs.Common.{through, throughs, gained, Rings}
use Rattle.map_frame.specs.Common.{Framed}
use Rattle.ring_store.proofs.Common.{insert_other}
use Rattle.edit_records.specs.Common.{IsRemoved, Record}
use Rattle.segment_index.specs.Frames.{Frame as GridFrame}
use Rattle.feature_exchange.specs.Common.{Stored, stored, stored_document, IsWhole, IsIndexed}
use Rattle.feature_exchange.proofs.Common.{vertex_key, key_vertex}
use Rattle.ring_store.specs.Common.{ArePlaceable, comings, goings, AreKeyed, ArePutBack, AreNew, Exchanges}
use Rattle.ring_store.specs.declared.removal.Removal.{Removal}
use Rattle.arc_store.specs.Common.{IsPlaceable, IsKept, state_of, State, removal_seen}
use Rattle.arc_store.proofs.Inserted.{Insertion, with_vertex, document_inserted, whole_inserted, size_inserted}
use Rattle.arc_store.proofs.PutBack.{with_one, with_all, AreOut, vertex_stays, vertex_new, vertex_came, border_there}
use Rattle.arc_store.proofs.PutBack.{comings_new, comings_single, goings_there, goings_single, segments_back}
use Rattle.arc_store.proofs.PutBack.{true_of_all}
use Rattle.arc_store.proofs.RingUsers.{users_same}
use Rattle.std.proofs.lemmas.Iterator.Adapters.{option_map_id}

-- ---- a map with each value changed

module _ {X Y : Type 0} (f : X → Y) where
  abbrev each : List (ℕ × X) → List (ℕ × Y)
  each es = map (λ e. (e.0, f e.1)) es

  each_below : (k : ℕ) (es : List (ℕ × X)) → below_all nat_cmp k (each es) ≡ below_all nat_cmp k es
  each_below k [] = refl
  each_below k (e ∷ es) = ap (λ b. is_lt (nat_cmp k e.0) && b) (each_below k es)

  each_sorted : (es : List (ℕ × X)) → table.is_sorted nat_cmp (each es) ≡ table.is_sorted nat_cmp es
  each_sorted [] = refl
  each_sorted (e ∷ es) = ap₂ (λ y z. y && z) (each_below e.0 es) (each_sorted es)

  each_find : (q : ℕ) (es : List (ℕ × X)) → table.find nat_cmp q (each es) ≡ option_map f (table.find nat_cmp q es)
  each_find q [] = refl
  each_find q (e ∷ es) = grind (arith, each_find q es)

  each_values : (es : List (ℕ × X)) → map (λ e. e.1) (each es) ≡ map f (map (λ e. e.1) es)
  each_values [] = refl
  each_values (e ∷ es) = ap (λ z. f e.1 ∷ z) (each_values es)

  abbrev mapped : table.FinMap nat_cmp X → table.FinMap nat_cmp Y
  mapped m = table.from_sorted (each (table.entries m))

  mapped_sorted : (m : table.FinMap nat_cmp X) → T (table.is_sorted nat_cmp (each (table.entries m)))
  mapped_sorted m = subst T (sym (each_sorted (table.entries m))) (table.entries_sorted m)

  get-mapped : (m : table.FinMap nat_cmp X) (q : ℕ) → table.get (mapped m) q ≡ option_map f (table.get m q)
  get-mapped m q =
      table.get-from_sorted nat_cmp (each (table.entries m)) q (mapped_sorted m)
      ∙ each_find q (table.entries m) ∙ ap (option_map f) (sym (table.get-entries m q))

  values-mapped : (m : table.FinMap nat_cmp X) → table.values (mapped m) ≡ map f (table.values m)
  values-mapped m =
      ap (map (λ e. e.1)) (table.entries-from_sorted nat_cmp (each (table.entries m)) (mapped_sorted m))
      ∙ each_values (table.entries m)

-- ---- the vertices

-- the vertices of the document are those that have a key
abbrev AreVertices : Document → Placement → Type 0
AreVertices d places = (p : Position) → (is_vertex d p ≡ true) ↔ IsOccupied places p

vertices_after : (d : Document) (places : Placement) (r : Removal) → IsRemoved d (removal_seen r)
    → AreVertices d places → (k : ℕ) → table.get places k ≡ None
    → AreVertices (with_one d r) (table.insert places k r.at)
vertices_after d places r h v k free p = (
  λ i. elim (vertex_came d r h p i) [
    | inl j ↦ let o = (v p).0 j in (o.0, insert_other places k r.at o.0 (other o.0 p o.1) ∙ o.1)
    | inr e ↦ (k, get-inserted places k r.at ∙ ap Some (sym e))
  ],
  λ o. by o.0 o.1 (ℕ_discrete o.0 k),
)
  where
    other : (x : ℕ) (q : Position) → table.get places x ≡ Some q → x ≢ k
    other x q e f = false≢true (sym (ap is_some free) ∙ ap (λ z. is_some (table.get places z)) (sym f) ∙ ap is_some e)

    by : (x : ℕ) → table.get (table.insert places k r.at) x ≡ Some p → Dec (x ≡ k)
        → is_vertex (with_one d r) p ≡ true
    by x e (yes f) =
        let same : Some r.at ≡ Some p = sym (get-inserted places k r.at) ∙ ap (table.get (table.insert places k r.at)) (sym f) ∙ e in
        ap (is_vertex (with_one d r)) (sym (the_same r.at p same)) ∙ vertex_new d r h
      where
        the_same : (a b : Position) → Some a ≡ Some b → a ≡ b
        the_same a b e = cc
    by x e (no f) =
        vertex_stays d r h p ((v p).1 (x, sym (insert_other places k r.at x f) ∙ e))

-- each may be placed in turn
placeable : (d : Document) (places : Placement) (rs : List Removal) → AreOut d rs → AreVertices d places
    → ArePlaceable places rs
placeable d places [] h v = tt
placeable d places (r ∷ rs) h v =
    let ends = border_there d r h.0 in (
      h.0.apart,
      (v r.a).0 ends.0,
      (v r.b).0 ends.1,
      λ o. false≢true (sym h.0.free ∙ (v r.at).1 o),
      λ k free. placeable (with_one d r) (table.insert places k r.at) rs h.1 (vertices_after d places r h.0 v k free),
    )

-- ---- the document

-- the map with these rings and vertices
abbrev with_tables : Stored → Rings → Placement → Stored
with_tables s rings places = record { frame = s.frame; rings = rings; places = places }

-- the map has the document with all, and its size grew as the puts say
record BackAgain (s : Stored) (rs : List Removal) (puts : List Put) (after : Stored) : Type 0 where
  document : stored_document after ≡ with_all (stored_document s) rs
  whole : IsWhole after
  grown : size (with_all (stored_document s) rs) ≡ size (stored_document s) + gained puts (table.values s.rings)

option_twice : {A B C : Type 0} (f : A → B) (g : B → C) (o : Option A)
    → option_map (λ x. g (f x)) o ≡ option_map g (option_map f o)
option_twice f g None = refl
option_twice f g (Some x) = refl

back_again : (s : Stored) (rs : List Removal) (puts : List Put) (rings : Rings) (places : Placement)
    → IsWhole s → Proper (stored_document s) → AreOut (stored_document s) rs → AreKeyed s.places rs puts places
    → ((r : ℕ) → table.get rings r ≡ option_map (throughs puts) (table.get s.rings r))
    → BackAgain s rs puts (with_tables s rings places)
back_again s [] [] rings places w proper h k e =
    let same : with_tables s rings places ≡ s = ap₂ (with_tables s) (table.same_map nat_cmp_total table.nat_cmp-IsAntisymmetric rings s.rings (λ r. e r ∙ option_map_id (table.get s.rings r))) k in
    record {
      document = ap stored_document same;
      whole = subst IsWhole (sym same) w;
      grown = omega arith;
    }
back_again s [] (p ∷ ps) rings places w proper h k e = absurd k
back_again s (r ∷ rs) [] rings places w proper h k e = absurd k
back_again s (r ∷ rs) (p ∷ ps) rings places w proper h k e =
    let led = mapped (through p.a p.b p.q) s.rings in
    let may : IsPlaceable (stored_document s) r.a r.b r.at = record { different = h.0.apart; border = h.0.joined; free = h.0.free; small = h.0.map.small; apart = h.0.map.proper.apart } in
    let i : Insertion s led p.a p.b p.q r.a r.b r.at = record { first = k.0; second = k.1; new = k.2; edited = get-mapped (through p.a p.b p.q) s.rings; may = may } in
    let is : stored_document (with_vertex s led p.q r.at) ≡ with_one (stored_document s) r = document_inserted s led p.a p.b p.q r.a r.b r.at w proper i in
    let rest = back_again (with_vertex s led p.q r.at) rs ps rings places (whole_inserted s led p.a p.b p.q r.a r.b r.at w proper i) (subst Proper (sym is) h.0.map.proper) (subst (λ d. AreOut d rs) (sym is) h.1) k.3 (λ n. e n ∙ option_twice (through p.a p.b p.q) (throughs ps) (table.get s.rings n) ∙ ap (option_map (throughs ps)) (sym (get-mapped (through p.a p.b p.q) s.rings n))) in
    record {
      document = rest.document ∙ ap (λ d. with_all d rs) is;
      whole = rest.whole;
      grown = omega (
        arith,
        ap (λ d. size (with_all d rs)) is,
        ap size is,
        rest.grown,
        size_inserted s led p.a p.b p.q r.a r.b r.at w proper i,
        users_same s w p.a p.b,
        ap (gained ps) (values-mapped (through p.a p.b p.q) s.rings),
      );
    }

-- ---- the map

module _ {frame : Framed} {rings : Rings} {places : Placement} {held : SegmentSet} {positions : ℕ} (m : IsKept frame rings places held positions)
    {l : ℕ} {cells : Option GridFrame} {o : Option Record} {now : State} (is : state_of frame rings places l cells o ≡ now)
    (rs : List Removal) (fits : AreOut now.doc rs) where
  abbrev was : Stored
  was = stored frame rings places

  h : AreOut (stored_document was) rs
  h = subst (λ (s : State). AreOut s.doc rs) (sym is) fits

  pub small_again : size (with_all (stored_document was) rs) ≤ 4000000
  small_again = true_of_all (λ d. size d ≤ 4000000) (λ d i. i.small) (stored_document was) rs h m.holds.small

  pub all_placeable : ArePlaceable places rs
  all_placeable =
      placeable (stored_document was) places rs h (λ p. (vertex_key was m.holds.whole p, λ o. key_vertex was m.holds.whole o.0 p o.1))

  pub all_new : AreNew held (comings rs)
  all_new t i = m.holds.indexed t ∙ comings_new (stored_document was) rs h t i

  pub all_come_once : AreSingle (comings rs)
  all_come_once = comings_single (stored_document was) rs h

  pub all_there : (t : Segment) → has (goings rs) t ≡ true → (set.contains held t || has (comings rs) t) ≡ true
  all_there t i = ap (λ b. b || has (comings rs) t) (m.holds.indexed t) ∙ goings_there (stored_document was) rs h t i

  pub all_go_once : AreSingle (goings rs)
  all_go_once = goings_single (stored_document was) rs h

  module _ (puts : List Put) (places' : Placement) (k : AreKeyed places rs puts places') where
    pub few_gained : gained puts (table.values rings) < 2 ^ 64
    few_gained =
        let again = back_again was rs puts (mapped (throughs puts) rings) places' m.holds.whole m.holds.proper h k (get-mapped (throughs puts) rings) in
        omega (arith, again.grown, small_again)

  module _ {rings' : Rings} {places' : Placement} {n : ℕ} (b : ArePutBack places places' rings rings' rs n) where
    again : BackAgain was rs b.puts (stored frame rings' places')
    again = back_again was rs b.puts rings' places' m.holds.whole m.holds.proper h b.keyed b.edited

    pub document_now : stored_document (stored frame rings' places') ≡ with_all now.doc rs
    document_now = again.document ∙ ap (λ (s : State). with_all s.doc rs) is

    pub size_again : size (with_all (stored_document was) rs) ≡ positions + n
    size_again = omega (arith, again.grown, b.many, m.sized)

    module _ (held' : SegmentSet) (x : Exchanges held (comings rs) (goings rs) held') where
      indexed_again : IsIndexed (with_all (stored_document was) rs) held'
      indexed_again t =
          x t ∙ ap (λ b. (b || has (comings rs) t) && not (has (goings rs) t)) (m.holds.indexed t)
          ∙ sym (segments_back (stored_document was) rs h t)

      pub kept_again : IsKept frame rings' places' held' (positions + n)
      kept_again = record {
        holds = record {
          whole = again.whole;
          formed = m.holds.formed;
          keeps = m.holds.keeps;
          proper = subst Proper (sym again.document) (true_of_all Proper (λ d i. i.proper) (stored_document was) rs h m.holds.proper);
          small = subst (λ d. size d ≤ 4000000) (sym again.document) small_again;
          indexed = subst (λ d. IsIndexed d held') (sym again.document) indexed_again;
        };
        sized = sym size_again ∙ sym (ap size again.document);
      }
