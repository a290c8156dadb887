use Rattle.kit_words.proofs.Common.{arith, ◌≡◌, ◌∷◌, [], ◌++◌, ap, ◌∙◌, length}
use Rattle.ring_machine.specs.Common.{is_junction}
use Rattle.map_text.specs.Common.{pieces, ring_text}
use Rattle.map_text.proofs.Common.{pieces_length}
use Rattle.topo_writer.specs.Common.{arc_found, arcs_along, listed_arcs, named_ring}
use Rattle.topo_writer.proofs.NamedRings.{named_fits, named_found, named_indexes, named_long}
use Rattle.topo_writer.proofs.rings.push_ring_of.Goals as goal

pub index_all-requires-clause-long : goal.index_all-requires-clause-long
index_all-requires-clause-long g c =
    named_long c.args.map.now c.requires.proper c.args.arcs.now.rings.items c.args.name c.requires.there c.in_ok-ring.ring
    c.in_ok-ring.ensures

pub index_all-requires-clause-few : goal.index_all-requires-clause-few
index_all-requires-clause-few g c =
    let d = c.args.map.now in
    let cut : c.in_ok-ring.ring ≡ pieces (is_junction d) (named_ring d c.args.name) = c.in_ok-ring.ensures in
    omega (
      arith,
      c.requires.few,
      c.requires.table.finds.has.counts,
      ap length cut,
      pieces_length (is_junction d) (named_ring d c.args.name),
    )

pub returns-clause-table : goal.returns-clause-table
returns-clause-table g c =
    let d = c.args.map.now in
    let old = c.args.arcs.now.rings.items in
    let new = c.push.new.self.items in
    let name = c.args.name in
    let cut : c.in_ok-ring.ring ≡ pieces (is_junction d) (named_ring d name) = c.in_ok-ring.ensures in
    let more : new ≡ old ++ name ∷ [] = c.in_ok-push.ensures.items ∙ ap (λ r. r.items ++ name ∷ []) c.in_ok-indexes.ensures.rings in
    let all = named_found d c.requires.proper old name c.requires.there c.in_ok-ring.ring cut new more in
    let finds =
    c.in_ok-indexes.ensures.arcs (arcs_along d old) c.requires.table.finds (named_fits d c.requires.proper old name c.requires.there c.in_ok-ring.ring cut) in
    record {
      finds = record {
        has = record {
          mirrors = λ e. finds.has.mirrors e ∙ ap (λ z. arc_found z e) all;
          counts = finds.has.counts ∙ ap length all;
        };
        listed = finds.listed ∙ ap (λ z. listed_arcs c.index_all.new.self.delta z) all;
      };
      delta = c.in_ok-indexes.ensures.delta ∙ c.requires.table.delta;
    }

pub returns-clause-text : goal.returns-clause-text
returns-clause-text g c =
    let d = c.args.map.now in
    let old = c.args.arcs.now.rings.items in
    let new = c.push.new.self.items in
    let name = c.args.name in
    let cut : c.in_ok-ring.ring ≡ pieces (is_junction d) (named_ring d name) = c.in_ok-ring.ensures in
    let more : new ≡ old ++ name ∷ [] = c.in_ok-push.ensures.items ∙ ap (λ r. r.items ++ name ∷ []) c.in_ok-indexes.ensures.rings in
    c.in_ok-push_ring.ensures
    ∙ ap (λ z. c.args.text.now.items ++ ring_text z)
    (c.as_slice.ensures.value
    ∙ c.in_ok-indexes.ensures.indexes (arcs_along d old) c.requires.table.finds (named_fits d c.requires.proper old name c.requires.there c.in_ok-ring.ring cut)
    ∙ named_indexes d c.requires.proper old name c.requires.there c.in_ok-ring.ring cut new more)
