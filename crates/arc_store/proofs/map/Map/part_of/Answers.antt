use Rattle.kit_words.proofs.Common.{sym, ap, ap₂, ◌∙◌, [], ◌∷◌, Some}
use Rattle.ring_machine.specs.Common.{Polygon}
use Rattle.ring_parts.specs.Common.{polygons_seen}
use Rattle.map_frame.specs.Common.{Texts, with_texts}
use Rattle.arc_store.proofs.PlacedMap.{texts_there, texts_missing}
use Rattle.arc_store.proofs.map.Map.part_of.Goals as goal

pub unreachable-requires : goal.unreachable-requires
unreachable-requires g c =
    texts_missing c.self.invariant c.self.view_is c.args.n c.requires (sym c.in_default.is ∙ c.in_ok-texts.ensures)

pub returns : goal.returns
returns g c =
    ap₂ (λ t ps. (c.args.number, Some (with_texts c.args.number t (polygons_seen ps))) ∷ [])
    (c.part.ensures ∙ ap (λ (t : Texts). record t { id = Some c.args.id.items; form = Polygon })
    (texts_there c.self.invariant c.self.view_is c.args.n c.in-Some.texts (sym c.in-Some.is ∙ c.in_ok-texts.ensures)))
    c.in_ok-polygons.ensures
