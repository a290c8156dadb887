use Rattle.kit_words.proofs.Common.{◌≡◌, ◌++◌, ◌∙◌, Ok, OnOk, ap, append-nil, map, subst, sym}
use Rattle.json_spans.specs.Common.{node}
use Rattle.topo_outline.specs.Common.{form_of, view_head, view_item}
use Rattle.topo_reader.specs.Common.{feature_positions}
use Rattle.geo_features.specs.Faults.{◌>>=◌}
use Rattle.geo_features.specs.Gives.{Appends, IsGeoFault}
use Rattle.geo_text.specs.Seen.{view_progress}
use Rattle.geo_features.specs.Seen.{view_style}
use Rattle.geo_text.proofs.OneItem.{after_begin, after_end, after_feature, after_flat_begin, after_flat_end, after_point, begin_text, end_text, flat_begin, flat_end, point_text}
use Rattle.geo_text.proofs.items.Writer.push_item.Goals as goal

pub returns-in-Err-push_kept-clause-text : goal.returns-in-Err-push_kept-clause-text
returns-in-Err-push_kept-clause-text g c =
    let at = view_progress c.args.at.now in
    let all = map feature_positions c.args.self.now.polygons.now in
    let flat = c.args.self.now.flattens in
    let s = view_style c.args.self.now.style in
    let n = c.args.at.now.leaf in
    let p = view_item c.args.item.now in
    let t = c.in-Kept.kept.now in
    subst (IsGeoFault c.in-Err-push_kept.fault) (sym (point_text s at n all flat p t (ap view_item c.in-Kept.is))) (c.in-Err-push_kept.ensures t c.in_ok-point-in-Kept.ensures.parts)

pub returns-then-self-clause-text : goal.returns-then-self-clause-text
returns-then-self-clause-text g c =
    let at = view_progress c.args.at.now in
    let all = map feature_positions c.args.self.now.polygons.now in
    let flat = c.args.self.now.flattens in
    let s = view_style c.args.self.now.style in
    let n = c.args.at.now.leaf in
    let p = view_item c.args.item.now in
    let nothing = flat_begin s at n all flat p (view_head c.in-Open.head) (ap view_item c.in-Open.is) c.if-self.true in
    subst (λ r. (r >>= λ xs. Ok (c.args.text.now.items ++ xs)) ≡ Ok c.args.text.now.items) (sym nothing) (ap (λ z. Ok z) (append-nil c.args.text.now.items))

pub returns-then-self-clause-after : goal.returns-then-self-clause-after
returns-then-self-clause-after g c =
    let at = view_progress c.args.at.now in
    let all = map feature_positions c.args.self.now.polygons.now in
    let flat = c.args.self.now.flattens in
    let s = view_style c.args.self.now.style in
    let n = c.args.at.now.leaf in
    let p = view_item c.args.item.now in
    after_flat_begin at n all flat p (view_head c.in-Open.head) (ap view_item c.in-Open.is) c.if-self.true

pub returns-else-self-clause-text : goal.returns-else-self-clause-text
returns-else-self-clause-text g c =
    let at = view_progress c.args.at.now in
    let all = map feature_positions c.args.self.now.polygons.now in
    let flat = c.args.self.now.flattens in
    let s = view_style c.args.self.now.style in
    let n = c.args.at.now.leaf in
    let p = view_item c.args.item.now in
    subst (Appends c.args.text.now.items c.push_open.new.text.items c.push_open.result) (sym (begin_text s at n all flat p (view_head c.in-Open.head) (ap view_item c.in-Open.is) c.if-self.false)) c.push_open.ensures.text

pub returns-else-self-clause-after : goal.returns-else-self-clause-after
returns-else-self-clause-after g c =
    let at = view_progress c.args.at.now in
    let all = map feature_positions c.args.self.now.polygons.now in
    let flat = c.args.self.now.flattens in
    let s = view_style c.args.self.now.style in
    let n = c.args.at.now.leaf in
    let p = view_item c.args.item.now in
    subst (λ z. OnOk c.push_open.result (view_progress c.push_open.new.at ≡ z)) (after_begin at n all flat p (view_head c.in-Open.head) (ap view_item c.in-Open.is) c.if-self.false) c.push_open.ensures.after

pub returns-then-self-2-clause-text : goal.returns-then-self-2-clause-text
returns-then-self-2-clause-text g c =
    let at = view_progress c.args.at.now in
    let all = map feature_positions c.args.self.now.polygons.now in
    let flat = c.args.self.now.flattens in
    let s = view_style c.args.self.now.style in
    let n = c.args.at.now.leaf in
    let p = view_item c.args.item.now in
    let nothing = flat_end s at n all flat p (ap view_item c.in-Close.is) c.if-self-2.true in
    subst (λ r. (r >>= λ xs. Ok (c.args.text.now.items ++ xs)) ≡ Ok c.args.text.now.items) (sym nothing) (ap (λ z. Ok z) (append-nil c.args.text.now.items))

pub returns-then-self-2-clause-after : goal.returns-then-self-2-clause-after
returns-then-self-2-clause-after g c =
    let at = view_progress c.args.at.now in
    let all = map feature_positions c.args.self.now.polygons.now in
    let flat = c.args.self.now.flattens in
    let s = view_style c.args.self.now.style in
    let n = c.args.at.now.leaf in
    let p = view_item c.args.item.now in
    after_flat_end at n all flat p (ap view_item c.in-Close.is) c.if-self-2.true

pub returns-else-self-2-clause-text : goal.returns-else-self-2-clause-text
returns-else-self-2-clause-text g c =
    let at = view_progress c.args.at.now in
    let all = map feature_positions c.args.self.now.polygons.now in
    let flat = c.args.self.now.flattens in
    let s = view_style c.args.self.now.style in
    let n = c.args.at.now.leaf in
    let p = view_item c.args.item.now in
    subst (Appends c.args.text.now.items c.push_close.new.text.items c.push_close.result) (sym (end_text s at n all flat p (ap view_item c.in-Close.is) c.if-self-2.false)) c.push_close.ensures.text

pub returns-else-self-2-clause-after : goal.returns-else-self-2-clause-after
returns-else-self-2-clause-after g c =
    let at = view_progress c.args.at.now in
    let all = map feature_positions c.args.self.now.polygons.now in
    let flat = c.args.self.now.flattens in
    let s = view_style c.args.self.now.style in
    let n = c.args.at.now.leaf in
    let p = view_item c.args.item.now in
    subst (λ z. OnOk c.push_close.result (view_progress c.push_close.new.at ≡ z)) (after_end at n all flat p (ap view_item c.in-Close.is) c.if-self-2.false) c.push_close.ensures.after

pub returns-in-Ok-clause-after : goal.returns-in-Ok-clause-after
returns-in-Ok-clause-after g c =
    let at = view_progress c.args.at.now in
    let all = map feature_positions c.args.self.now.polygons.now in
    let flat = c.args.self.now.flattens in
    let s = view_style c.args.self.now.style in
    let n = c.args.at.now.leaf in
    let p = view_item c.args.item.now in
    let f = c.in-Leaf.feature in
    c.pass.ensures.at ∙ after_feature at n all flat p (form_of f.form) (view_head f.head) (node f.arcs) (ap view_item c.in-Leaf.is)

pub returns-in-Ok-push_kept-clause-text : goal.returns-in-Ok-push_kept-clause-text
returns-in-Ok-push_kept-clause-text g c =
    let at = view_progress c.args.at.now in
    let all = map feature_positions c.args.self.now.polygons.now in
    let flat = c.args.self.now.flattens in
    let s = view_style c.args.self.now.style in
    let n = c.args.at.now.leaf in
    let p = view_item c.args.item.now in
    let t = c.in-Kept.kept.now in
    subst (λ r. (r >>= λ xs. Ok (c.args.text.now.items ++ xs)) ≡ Ok c.push_kept.new.text.items) (sym (point_text s at n all flat p t (ap view_item c.in-Kept.is)))
    (c.in-Ok-push_kept.ensures t c.in_ok-point-in-Kept.ensures.parts)

pub returns-in-Ok-push_kept-clause-after : goal.returns-in-Ok-push_kept-clause-after
returns-in-Ok-push_kept-clause-after g c =
    let at = view_progress c.args.at.now in
    let all = map feature_positions c.args.self.now.polygons.now in
    let flat = c.args.self.now.flattens in
    let s = view_style c.args.self.now.style in
    let n = c.args.at.now.leaf in
    let p = view_item c.args.item.now in
    let t = c.in-Kept.kept.now in
    c.pass-in-Kept.ensures.at ∙ after_point at n all flat p t (ap view_item c.in-Kept.is)
