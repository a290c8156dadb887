use Rattle.segment_paths.proofs.Led.{paths_more, past_seen, some_left}
use Rattle.segment_paths.proofs.ways.push_path.Goals as goal

pub returns-in_ok-push : goal.returns-in_ok-push
returns-in_ok-push g c ss h there way known =
    paths_more ss c.args.paths.now.items c.push.new.self.items _ c.in_ok-push.ensures.items h
    (past_seen c.as_slice.result.now c.args.paths.now.items c.args.segment c.as_slice.ensures.value (c.is_past.ensures c.if-is_past.true) h.ascending)
    there (way (some_left c.args.inner.items c.args.inner.len c.is_empty.result c.args.inner.ok.0 c.is_empty.ensures c.if-not-is_empty.true)) known
