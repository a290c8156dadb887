use Rattle.kit_words.proofs.Common.{◌∙◌, refl, sym}
use Rattle.vertex_index.proofs.MirrorLemmas.{distinct}
use Rattle.vertex_index.proofs.PlacementLemmas.{insert-same}
use Rattle.vertex_index.proofs.PutLemmas.{put_found, put_key, put_ok, put_held}
use Rattle.vertex_index.proofs.Vertices.key_or_add.Goals as goal

-- ---- it stands beside the last one

pub returns-in-Some-clause-found : goal.returns-in-Some-clause-found
returns-in-Some-clause-found g c j e =
    distinct _ _ c.self.invariant.0 _ c.self.view_is c.in-Some.key j c.args.p c.in-Some.ensures e

pub returns-in-Some-clause-ok : goal.returns-in-Some-clause-ok
returns-in-Some-clause-ok g c =
    sym (insert-same c.args.self.now c.in-Some.key c.args.p c.in-Some.ensures)

pub returns-in-Some-clause-distinct : goal.returns-in-Some-clause-distinct
returns-in-Some-clause-distinct g c = distinct _ _ c.self.invariant.0 _ c.self.view_is

-- ---- it is looked up

pub returns-clause-found : goal.returns-clause-found
returns-clause-found g c =
    put_found c.args.self.now c.put.new.self c.in_ok-key.key c.args.p _
    c.in_ok-key.ensures.there c.in_ok-key.ensures.new c.put.ensures.distinct

pub returns-clause-key : goal.returns-clause-key
returns-clause-key g c =
    put_key c.args.self.now c.put.new.self c.in_ok-key.key c.args.p _
    c.in_ok-key.ensures.there c.in_ok-key.ensures.new

pub returns-clause-ok : goal.returns-clause-ok
returns-clause-ok g c =
    put_ok c.args.self.now c.put.new.self c.in_ok-key.key c.args.p _
    c.in_ok-key.ensures.there c.in_ok-key.ensures.new

pub returns-clause-held : goal.returns-clause-held
returns-clause-held g c =
    put_held c.args.self.now _ c.in_ok-key.key c.args.p (returns-clause-ok g c)
