use Rattle.kit_words.proofs.Common.{◌≡◌, [], ◌∷◌, codes, map, refl, on_ok_weaker}
use Rattle.std.specs.List.{flat_map}
use Rattle.json_spans.specs.Common.{node}
use Rattle.geo_topology.specs.Text.{made, rings_of_piece}
use Rattle.geo_topology.specs.Copies.{extended}
use Rattle.geo_topology.specs.Views.{view_chunk, view_made}
use Rattle.geo_topology.proofs.Texts.{all_put, with_words, made_put}
use Rattle.geo_topology.proofs.step.put_all.Goals as goal

pub returns : goal.returns
returns g c =
    let rings : map node c.put_chunks.new.rings.items ≡ flat_map rings_of_piece (map view_chunk c.args.chunks.now) = rw c.new-rings.ensures.items at c.in_ok-put_chunks.ensures.rings in
    let mark : view_made c.put.new.self ≡ extended (view_made c.put_chunks.new.made) (made (codes "}},\"arcs\":[") ∷ []) = with_words (view_made c.put_chunks.new.made) (view_made c.put.new.self) _ c.in_ok-put.ensures.text (rw c.in_ok-put.ensures.parts refl) in
    on_ok_weaker c.put-2.result (λ last. all_put (view_made c.args.made.now) (view_made c.put_chunks.new.made) (view_made c.put.new.self) (view_made c.put_arcs.new.made) (view_made c.put-2.new.self) (map view_chunk c.args.chunks.now)
    (rw c.new-rings.ensures.items at c.in_ok-put_chunks.ensures.made) mark
    (rw (c.as_slice.ensures.value, rings) at c.in_ok-put_arcs.ensures) last)
    (made_put c.put-2.result (view_made c.put_arcs.new.made) (view_made c.put-2.new.self) _ _ refl c.put-2.ensures.text (on_ok_weaker c.put-2.result (λ e. rw e refl) c.put-2.ensures.parts))
