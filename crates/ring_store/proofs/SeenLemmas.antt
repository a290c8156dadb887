-- What stands around every vertex, by a table.
use Rattle.kit_words.proofs.Common.{◌≡◌, ℕ, ◌≤◌, refl, sym, ap, ◌∙◌, List, [], ◌++◌}
use Rattle.kit_words.proofs.Common.{get_or, arith, Contains, Some, Option}
use Rattle.std.proofs.Common.{None as Absent}
use Rattle.slab.specs.Slab.{get, entries}
use Rattle.slab.proofs.SlabLemmas.{Contains-entries}
use Rattle.arc_tables.specs.declared.arc.Arc.{Arc}
use Rattle.arc_tables.specs.declared.tables.Tables.{Tables}
use Rattle.ring_store.specs.Common.{Neighbours, None, noted_all, other_ends, ends_in, SeesMore, Joined}
use Rattle.ring_store.specs.Common.{AreAllNeighbours}
use Rattle.arc_tables.specs.Common.{links, times, path_in, rings_of}
use Rattle.ring_store.proofs.NeighbourLemmas.{noted_all-append, in_flat_map, to_flat_map, ends_times, times_ends}
use Rattle.ring_store.proofs.JoinedLemmas.{EachUsed, arc_joined, joined_arc, neighbours_of}

-- first these are seen, and then those
pub sees_then : (a b c : List Neighbours) (f g : ℕ → List ℕ) → SeesMore a b f → SeesMore b c g → SeesMore a c (λ j. f j ++ g j)
sees_then a b c f g h i j = i j ∙ ap (λ n. noted_all n (g j)) (h j) ∙ sym (noted_all-append (get_or a j None) (f j) (g j))

module _ {A : Type 0} where
  -- the other ends at k in the arcs that are there are what is joined to it
  pub all_seen : (t : Tables A) → EachUsed t → (table : List Neighbours) → SeesMore [] table (λ j. ends_in (entries t.arcs) j) → AreAllNeighbours (rings_of t) table
  all_seen t used table sees k = rw (sees k) (neighbours_of t k (ends_in (entries t.arcs) k) forth back)
    where
      f : ℕ × Arc A → List ℕ
      f e = other_ends k (links e.1.keys.items)

      forth : (x : ℕ) → Contains (ends_in (entries t.arcs) k) x → Joined (rings_of t) k x
      forth x m =
          let e = in_flat_map f (entries t.arcs) x m in
          let at = (Contains-entries t.arcs e.0.0 e.0.1).0 e.1 in
          arc_joined t used k x e.0.0 (rw at (ends_times k x (links e.0.1.keys.items) e.2))

      here : (o : Option (Arc A)) (i x : ℕ) → get t.arcs i ≡ o → 1 ≤ times k x (links (path_in o)) → Contains (ends_in (entries t.arcs) k) x
      here Absent i x e h = absurd (omega arith)
      here (Some v) i x e h = to_flat_map f (entries t.arcs) (i, v) x ((Contains-entries t.arcs i v).1 e) (times_ends k x (links v.keys.items) h)

      back : (x : ℕ) → Joined (rings_of t) k x → Contains (ends_in (entries t.arcs) k) x
      back x j = let a = joined_arc t k x j in here (get t.arcs a.0) a.0 x refl a.1
