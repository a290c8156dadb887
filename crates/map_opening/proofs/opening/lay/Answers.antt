use Rattle.kit_words.proofs.Common.{◌∙◌, refl, sym, ap, subst, [], Contains, length, arith, sum_by}
use Rattle.std.specs.FinSet as set
use Rattle.grid_geometry.specs.Common.{segment_cmp}
use Rattle.ring_machine.specs.Common.{least_conflict}
use Rattle.ring_machine.proofs.Common.{contains_in}
use Rattle.vertex_index.specs.Common.{AreDistinct}
use Rattle.ring_parts.specs.Common.{rings_seen}
use Rattle.map_opening.specs.Common.{lists_seen, IsKeyed, IsLaid, AreLaid}
use Rattle.map_opening.proofs.KeyedRings.{round_keyed, size_keyed, segments_keyed}
use Rattle.local_planarity.proofs.Common.{filled_none}
use Rattle.map_opening.proofs.LaidRings.{laid_none}
use Rattle.map_opening.proofs.OpenedTables.{rings_at, laid_stands}
use Rattle.map_opening.proofs.opening.lay.Goals as goal

pub new-index-requires : goal.new-index-requires
new-index-requires g c = sym (ap set.len c.prepare.ensures.empty ∙ set.len-empty segment_cmp)

pub lay_all-requires-clause-round : goal.lay_all-requires-clause-round
lay_all-requires-clause-round g c = λ keys i.
    round_keyed c.key_all.new.vertices (rings_seen c.args.rings.now) (lists_seen c.in_ok-keyed.keyed.items) c.in_ok-keyed.ensures.keyed c.requires.rings keys
    (contains_in (lists_seen c.in_ok-keyed.keyed.items) keys (subst (λ z. Contains (lists_seen z) keys) c.as_slice-2.ensures.value i))

pub lay_all-requires-clause-small : goal.lay_all-requires-clause-small
lay_all-requires-clause-small g c =
    omega (
      arith,
      c.requires.small,
      size_keyed c.key_all.new.vertices (rings_seen c.args.rings.now) (lists_seen c.in_ok-keyed.keyed.items) c.in_ok-keyed.ensures.keyed,
      ap (λ z. sum_by length (lists_seen z)) c.as_slice-2.ensures.value,
    )

pub lay_all-requires-clause-none : goal.lay_all-requires-clause-none
lay_all-requires-clause-none g c = record {
  round = λ ks i. absurd (contains_in [] ks i);
  laid = subst (λ z. IsLaid c.mark_junctions.new.borders z []) (sym c.new.ensures.items)
      (laid_none c.mark_junctions.new.borders (c.mark_junctions.ensures ∙ c.in_ok-borders.ensures));
  filled = filled_none c.new-index.result.held (c.new-index.ensures.held ∙ c.prepare.ensures.empty);
  size = refl;
}

pub returns-clause-opened : goal.returns-clause-opened
returns-clause-opened g c =
    let rings = rings_seen c.args.rings.now in
    let keyed = lists_seen c.in_ok-keyed.keyed.items in
    let o = c.lay_all.new.opened in
    let keys : IsKeyed o.tables.vertices rings keyed = subst (λ places. IsKeyed places rings keyed) (sym c.in_ok-lay_all.ensures.vertices) c.in_ok-keyed.ensures.keyed in
    let all : AreLaid keyed o = subst (λ z. AreLaid (lists_seen z) o) c.as_slice-2.ensures.value c.in_ok-lay_all.ensures.laid in
    record {
      stand = laid_stands o.tables.vertices rings keyed keys o.tables.borders o.numbers.items all.laid c.requires.rings o.tables.index.held all.filled.are_held
          (subst AreDistinct (sym c.in_ok-lay_all.ensures.vertices) c.key_all.ensures.distinct);
      at = rings_at o.tables.vertices rings keyed keys o.tables.borders o.numbers.items all.laid;
      only = all.laid.only;
      once = all.laid.once;
      first = ap least_conflict (segments_keyed o.tables.vertices rings keyed keys) ∙ all.filled.first;
      size = all.size ∙ sym (size_keyed o.tables.vertices rings keyed keys);
    }
