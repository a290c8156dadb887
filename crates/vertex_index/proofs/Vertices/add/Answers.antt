use Rattle.vertex_index.proofs.PutLemmas.{put_held}
use Rattle.vertex_index.proofs.Vertices.add.Goals as goal

pub returns-clause-held : goal.returns-clause-held
returns-clause-held g c =
    put_held c.args.self.now c.put.new.self c.in_ok-key.key c.args.p (c.in_ok-key.ensures.new c.if-not-is_new.false).put
