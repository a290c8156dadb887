-- The plan of a removal from between two vertices: what comes and goes, and what is kept.
use Rattle.kit_words.proofs.Common.{◌≡◌, ◌≢◌, ◌≤◌, ◌+◌, ◌-◌, ℕ, true, false, refl, sym, ap, ap₂, ◌∙◌, subst, List, [], ◌∷◌}
use Rattle.kit_words.proofs.Common.{inl, inr, arith, Option, Some, None, IsSome, IsSomeAnd, false≢true, false_from_ne_true}
use Rattle.std.specs.FinMap as table
use Rattle.std.specs.FinSet as set
use Rattle.grid_geometry.specs.Common.{Position, Segment, segment}
use Rattle.ring_machine.specs.Common.{Document, size, is_segment, is_vertex, are_long, is_bridged, del, is_junction}
use Rattle.ring_machine.proofs.Common.{In, segment_eq-true, any_in}
use Rattle.vertex_index.specs.Common.{Placement, place}
use Rattle.segment_index.specs.Common.{SegmentSet, AreAmong, AreSingle, segment_is}
use Rattle.segment_index.specs.Frames.{Frame as GridFrame}
use Rattle.segment_index.proofs.Common.{same_segment}
use Rattle.ring_store.specs.declared.changes.Bridging.{Bridging}
use Rattle.ring_store.specs.declared.neighbours.Neighbours.{Neighbours}
use Rattle.ring_store.specs.declared.neighbours.Neighbours.TheVariants as neighbours
use Rattle.ring_store.specs.declared.neighbours.Neighbours.TheVariants.{One, Two, More}
use Rattle.arc_tables.specs.Common.{AreApart, Rings, users_of}
use Rattle.ring_store.specs.Common.{Joined, AreNeighbours, HasBridging, IsBridging, TakenOut, Exchanges, spokes}
use Rattle.map_frame.specs.Common.{Framed}
use Rattle.edit_records.specs.Common.{Record}
use Rattle.arc_store.specs.Common.{IsLeavable, IsRemovable, IsKept, state_of, State}
use Rattle.feature_exchange.specs.Common.{IsWhole, IsIndexed, stored, Stored, stored_document}
use Rattle.arc_store.proofs.Around.{bridged_two, segments_two, sweeps_two, unbridged_two}
use Rattle.arc_store.proofs.Around.{two_apart, neighbours_none, neighbours_one, neighbours_more}
use Rattle.ring_store.proofs.Common.{place_is}
use Rattle.feature_exchange.proofs.Common.{joined_kept, joined_apart, joined_back, vertex_key, joined_segment, one_to}
use Rattle.feature_exchange.proofs.Common.{key_vertex, segment_ends}
use Rattle.arc_store.proofs.InsertPlan.{two_single}
use Rattle.arc_store.proofs.Removed.{Removing, without_vertex, document_removed, reindexed_removed}
use Rattle.arc_store.proofs.Removed.{holds_removed, size_removed}
use Rattle.arc_store.proofs.RingUsers.{users_same}

-- where a vertex is no junction, the answer on its neighbours gives two
pub two_neighbours : (s : Stored) → IsWhole s → (m : ℕ) (p : Position) → table.get s.places m ≡ Some p
    → is_junction (stored_document s) p ≡ false → (n : Neighbours) → AreNeighbours s.rings m n
    → (j : ℕ) × (k : ℕ) × (n ≡ Two j k)
two_neighbours s w m p here inner neighbours.None h = absurd (neighbours_none s w m p here h)
two_neighbours s w m p here inner (One a) h = absurd (neighbours_one s w m p here a h)
two_neighbours s w m p here inner (Two j k) h = (j, k, refl)
two_neighbours s w m p here inner More h = absurd (false≢true (sym inner ∙ neighbours_more s w m p here h))

-- p is a vertex and no junction
pub has_bridging : (s : Stored) → IsWhole s → (p : Position) → is_vertex (stored_document s) p ≡ true
    → is_junction (stored_document s) p ≡ false → HasBridging s.places s.rings p
has_bridging s w p vertex inner = record {
  here = vertex_key s w p vertex;
  two = λ k here found are. two_neighbours s w k p here inner found are;
  placed = λ k here x j. (joined_kept s w k x j).1;
  apart = λ k x here j e. joined_apart s w k x j (place_is s.places k p here ∙ sym e);
}

-- the segment that comes is new, and those that go are held and stand once; so p may go
pub record IsPlanned (d : Document) (held : SegmentSet) (p : Position) (after : Segment)
    (before : List Segment) : Type 0 where
  pub new : set.contains held after ≡ false
  pub among : AreAmong held before
  pub single : AreSingle before
  pub removable : IsRemovable d held p after

-- ---- the map

-- p is the position of m, which has two neighbours and may go, in a map that is kept; this was read
-- around it
pub record IsFound (frame : Framed) (rings : Rings) (places : Placement) (held : SegmentSet)
    (positions : ℕ) (p : Position) (m j k : ℕ) (before : List Segment) (after : Segment) : Type 0 where
  pub kept : IsKept frame rings places held positions
  pub read : IsBridging places rings p m j k before after
  pub inner : is_junction (stored_document (stored frame rings places)) p ≡ false
  pub long : are_long (stored_document (stored frame rings places)) p ≡ true
  pub unjoined : is_bridged (stored_document (stored frame rings places)) p ≡ false

-- what was read is there
pub is_read : {T : Type 0} (P : T → Type 0) (o : Option T) → IsSomeAnd o P → IsSome o
is_read P None h = absurd h
is_read P (Some r) h = refl

-- what was read around p, where it may be left out
abbrev IsRead : Placement → Rings → Position → Bridging → Type 0
IsRead places rings p r =
    IsBridging places rings p r.key r.ends.0 r.ends.1 (r.before.0 ∷ r.before.1 ∷ []) r.after

-- as the map's callers see it
pub found : {frame : Framed} {rings : Rings} {places : Placement} {held : SegmentSet} {positions l : ℕ}
    {cells : Option GridFrame} {o : Option Record} {now : State} {p : Position} {read : Option Bridging} {r : Bridging}
    → IsKept frame rings places held positions → state_of frame rings places l cells o ≡ now
    → read ≡ Some r → IsSomeAnd read (IsRead places rings p)
    → is_junction now.doc p ≡ false → are_long now.doc p ≡ true → is_bridged now.doc p ≡ false
    → IsFound frame rings places held positions p r.key r.ends.0 r.ends.1 (r.before.0 ∷ r.before.1 ∷ []) r.after
found {rings = rings} {places = places} {p = p} kept is same read inner long unjoined = record {
  kept = kept;
  read = subst (λ z. IsSomeAnd z (IsRead places rings p)) same read;
  inner = ap (λ (s : State). is_junction s.doc p) is ∙ inner;
  long = ap (λ (s : State). are_long s.doc p) is ∙ long;
  unjoined = ap (λ (s : State). is_bridged s.doc p) is ∙ unjoined;
}

module _ {frame : Framed} {rings : Rings} {places : Placement} {held : SegmentSet} {positions : ℕ} {p : Position} {m j k : ℕ}
    {before : List Segment} {after : Segment} (f : IsFound frame rings places held positions p m j k before after) where
  abbrev s : Stored
  s = stored frame rings places

  abbrev a : Position
  a = place places j

  abbrev b : Position
  b = place places k

  whole : IsWhole s
  whole = f.kept.holds.whole

  joined_j : Joined rings m j
  joined_j = (f.read.two.1 j).1 (inl refl)

  joined_k : Joined rings m k
  joined_k = (f.read.two.1 k).1 (inr refl)

  -- what was read are the segments of these three
  pub is_after : segment a b ≡ after
  is_after =
      ap₂ segment (place_is places j f.read.a f.read.first) (place_is places k f.read.b f.read.second)
      ∙ sym f.read.comes

  is_before : spokes p (a ∷ b ∷ []) ≡ before
  is_before =
      ap₂ (λ u v. spokes p (u ∷ v ∷ [])) (place_is places j f.read.a f.read.first) (place_is places k f.read.b f.read.second)
      ∙ sym f.read.goes

  -- the neighbours are not joined, and the three are different
  pub not_joined : ¬ Joined rings j k
  not_joined = unbridged_two s whole m p f.read.here j k f.read.two f.unjoined

  pub three_apart : AreApart j k m
  three_apart = two_apart s whole m p f.read.here j k f.read.two

  -- p is no end of the segment that comes
  pub away : p ≢ after.lo
  away e =
      let is : place places m ≡ (segment a b).lo = place_is places m p f.read.here ∙ e ∙ ap (λ (z : Segment). z.lo) (sym is_after) in
      elim (segment_ends a b) [
        | inl u ↦ joined_apart s whole m j joined_j (is ∙ u.0)
        | inr u ↦ joined_apart s whole m k joined_k (is ∙ u.0)
      ]

  -- the segments to p are held
  remove_held : AreAmong held (spokes p (a ∷ b ∷ []))
  remove_held t i =
      let u = any_in (segment_is t) (spokes p (a ∷ b ∷ [])) i in
      f.kept.holds.indexed t ∙ ap (is_segment (stored_document s)) (same_segment t u.0 u.2) ∙ at u.0 u.1
    where
      to : (x : ℕ) → Joined rings m x → is_segment (stored_document s) (segment (place places x) p) ≡ true
      to x g =
          ap (λ z. is_segment (stored_document s) (segment (place places x) z)) (sym (place_is places m p f.read.here))
          ∙ joined_segment s whole x m (joined_back s m x g)

      at : (z : Segment) → In z (spokes p (a ∷ b ∷ [])) → is_segment (stored_document s) z ≡ true
      at z (inl e) = ap (is_segment (stored_document s)) (sym e) ∙ to j joined_j
      at z (inr (inl e)) = ap (is_segment (stored_document s)) (sym e) ∙ to k joined_k
      at z (inr (inr e)) = absurd e

  -- and are two
  remove_single : AreSingle (spokes p (a ∷ b ∷ []))
  remove_single =
      two_single (segment a p) (segment b p) (false_from_ne_true _ (λ e.
      f.read.two.0 (one_to places p whole.distinct j k (joined_kept s whole m j joined_j).1 (joined_kept s whole m k joined_k).1 (segment_eq-true (segment a p) (segment b p) e))))

  pub planned : IsPlanned (stored_document s) held p after before
  planned =
      subst (λ z. IsPlanned (stored_document s) held p z before) is_after
      (subst (IsPlanned (stored_document s) held p (segment a b)) is_before (record {
        new = f.kept.holds.indexed (segment a b) ∙ sym (bridged_two s whole m p f.read.here j k f.read.two) ∙ f.unjoined;
        among = remove_held;
        single = remove_single;
        removable = record {
          indexed = f.kept.holds.indexed;
          vertex = key_vertex s whole m p f.read.here;
          inner = f.inner;
          long = f.long;
          unjoined = f.unjoined;
          without = segments_two s whole m p f.read.here j k f.read.two;
          sweeps = sweeps_two s whole m p f.read.here j k f.read.two;
        };
      }))

-- what a removal leaves
pub record IsTaken (frame : Framed) (rings rings' : Rings) (places places' : Placement)
    (held' : SegmentSet) (positions : ℕ) (p : Position) (m k : ℕ) : Type 0 where
  -- the document is the one without p
  pub doc : stored_document (stored frame rings' places') ≡ del (stored_document (stored frame rings places)) p
  -- there were positions to go
  pub positions_there : users_of rings m k ≤ positions
  -- what is true of the tables stayed true
  pub kept : IsKept frame rings' places' held' (positions - users_of rings m k)

module _ {frame : Framed} {rings rings' : Rings} {places places' : Placement} {held : SegmentSet} {positions : ℕ} {p : Position}
    {m j k : ℕ} {before : List Segment} {after : Segment} (f : IsFound frame rings places held positions p m j k before after)
    (may : IsLeavable (stored_document (stored frame rings places)) p) (out : TakenOut places places' rings rings' m k) where
  removing : Removing (stored frame rings places) rings' m j k p
  removing = record { here = f.read.here; two = f.read.two; edited = out.edited; may = may }

  is_removed : stored_document (without_vertex (stored frame rings places) rings' m) ≡ del (stored_document (stored frame rings places)) p
  is_removed = document_removed (stored frame rings places) rings' m j k p (whole f) f.kept.holds.proper removing

  size_shrinks : positions ≡ size (del (stored_document (stored frame rings places)) p) + users_of rings m k
  size_shrinks =
      omega (
        arith,
        f.kept.sized,
        users_same (stored frame rings places) (whole f) m k,
        size_removed (stored frame rings places) rings' m j k p (whole f) f.kept.holds.proper removing,
      )

  module _ (held' : SegmentSet) (e : Exchanges held (after ∷ []) before held') where
    exchanged : Exchanges held (segment (place places j) (place places k) ∷ []) (spokes p (place places j ∷ place places k ∷ [])) held'
    exchanged =
        subst (λ z. Exchanges held (z ∷ []) (spokes p (place places j ∷ place places k ∷ [])) held') (sym (is_after f))
        (subst (λ z. Exchanges held (after ∷ []) z held') (sym (is_before f)) e)

    remove_indexed : IsIndexed (del (stored_document (stored frame rings places)) p) held'
    remove_indexed =
        reindexed_removed (stored frame rings places) rings' m j k p (whole f) f.kept.holds.proper removing held held' f.kept.holds.indexed exchanged

    -- the tables and the index changed
    pub taken : IsTaken frame rings rings' places places' held' positions p m k
    taken =
        let shrunk : positions - users_of rings m k ≡ size (del (stored_document (stored frame rings places)) p) = omega (arith, size_shrinks) in
        record {
          doc = ap (λ z. stored_document (stored frame rings' z)) out.placed ∙ is_removed;
          positions_there = omega (arith, size_shrinks);
          kept = subst (λ z. IsKept frame rings' z held' (positions - users_of rings m k)) (sym out.placed) (record {
            holds = holds_removed (stored frame rings places) held held' rings' m j k p f.kept.holds removing remove_indexed;
            sized = shrunk ∙ sym (ap size is_removed);
          });
        }
