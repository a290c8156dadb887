use Rattle.kit_words.proofs.Common.{refl, on_ok_weaker}
use Rattle.json_spans.specs.Common.{node}
use Rattle.geo_topology.specs.Views.{view_made}
use Rattle.geo_topology.proofs.Texts.{copy_put}
use Rattle.geo_topology.proofs.made.MadeText.copy.Goals as goal

pub returns : goal.returns
returns g c = copy_put c.put.result (view_made c.args.self.now) (view_made c.note.new.self) (view_made c.put.new.self) (node c.args.span) (rw c.in_ok-note.ensures.text refl) c.in_ok-note.ensures.parts c.put.ensures.text (on_ok_weaker c.put.result (λ e. rw e refl) c.put.ensures.parts)
