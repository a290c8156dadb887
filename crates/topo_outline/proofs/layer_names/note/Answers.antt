use Rattle.kit_words.proofs.Common.{◌≡◌, ◌∙◌, ap, refl, Bool, true, false, cond, ◌||◌, Option, Some, None, is_some, string_bytes, bytes_eq}
use Rattle.std.proofs.lemmas.Map.Text.{hash_map_updates_text}
use Rattle.indexmap.specs.IndexMap.{get_by_text}
use Rattle.topo_outline.proofs.layer_names.note.Goals as goal

put : {X : Type 0} (b : Bool) (v : X) (o : Option X) → is_some (cond b (Some v) o) ≡ (b || is_some o)
put true v o = refl
put false v o = refl

pub returns-clause-names : goal.returns-clause-names
returns-clause-names g c = λ t.
    let name = string_bytes c.args.name in
    ap is_some (hash_map_updates_text name c.args.layers.now c.insert.new.self _ c.in_ok-old.ensures.updates t) ∙ put (bytes_eq name t) c.args.layer (get_by_text c.args.layers.now t)
