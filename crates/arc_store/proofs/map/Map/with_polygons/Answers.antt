use Rattle.kit_words.proofs.Common.{sym, ap, ◌∙◌, [], ◌∷◌, Some}
use Rattle.ring_parts.specs.Common.{polygons_seen}
use Rattle.map_frame.specs.Common.{with_texts}
use Rattle.arc_store.proofs.PlacedMap.{texts_there, texts_missing}
use Rattle.arc_store.proofs.map.Map.with_polygons.Goals as goal

pub unreachable-requires : goal.unreachable-requires
unreachable-requires g c =
    texts_missing c.self.invariant c.self.view_is c.args.n c.requires (sym c.in_default.is ∙ c.in_ok-texts.ensures)

pub returns : goal.returns
returns g c =
    ap (λ t. (c.args.n, Some (with_texts c.args.n t (polygons_seen c.args.polygons.items))) ∷ [])
    (texts_there c.self.invariant c.self.view_is c.args.n c.in-Some.texts (sym c.in-Some.is ∙ c.in_ok-texts.ensures))
