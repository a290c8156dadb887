use Rattle.kit_words.proofs.Common.{refl, ap, length, on_ok_weaker}
use Rattle.geo_topology.specs.declared.chunk.Chunk.{Chunk}
use Rattle.geo_topology.specs.Text.{segment_of_piece}
use Rattle.geo_topology.specs.Views.{view_chunk, view_made}
use Rattle.geo_topology.proofs.Texts.{made_put}
use Rattle.geo_topology.proofs.arcs.put_chunk.Goals as goal

pub returns-in-Words-clause-made : goal.returns-in-Words-clause-made
returns-in-Words-clause-made g c = made_put c.put.result (view_made c.args.made.now) (view_made c.put.new.self) _ _ (ap (λ (x : Chunk). segment_of_piece (length c.args.rings.now.items) (view_chunk x)) c.in-Words.is) c.put.ensures.text (on_ok_weaker c.put.result (λ e. rw e refl) c.put.ensures.parts)

pub returns-in-Rings-clause-made : goal.returns-in-Rings-clause-made
returns-in-Rings-clause-made g c = made_put c.put_rings.result (view_made c.args.made.now) (view_made c.put_rings.new.made) _ _ (ap (λ (x : Chunk). segment_of_piece (length c.args.rings.now.items) (view_chunk x)) c.in-Rings.is) c.put_rings.ensures.text (on_ok_weaker c.put_rings.result (λ e. rw e refl) c.put_rings.ensures.parts)

pub returns-in-Polygons-clause-made : goal.returns-in-Polygons-clause-made
returns-in-Polygons-clause-made g c = made_put c.put_polygons.result (view_made c.args.made.now) (view_made c.put_polygons.new.made) _ _ (ap (λ (x : Chunk). segment_of_piece (length c.args.rings.now.items) (view_chunk x)) c.in-Polygons.is) c.put_polygons.ensures.text (on_ok_weaker c.put_polygons.result (λ e. rw e refl) c.put_polygons.ensures.parts)
