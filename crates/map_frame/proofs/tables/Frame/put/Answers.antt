use Rattle.kit_words.proofs.Common.{◌≡◌, ◌<◌, ◌+◌, ◌∙◌, refl, sym, ap, subst, map, arith, [], ◌∷◌, Some, slice_get}
use Rattle.kit_words.proofs.Common.{length, flat_map, with_item}
use Rattle.edit_records.specs.Common.{exchanged}
use Rattle.ring_machine.specs.Common.{feature}
use Rattle.map_frame.specs.Common.{feature_numbers, polygon_numbers, Feature, Framed, HasRoom, Gain, element, with_texts}
use Rattle.map_frame.proofs.CountedWithin.{counted_within}
use Rattle.map_frame.proofs.TakenTables.{set_framed, put_kept}
use Rattle.map_frame.proofs.tables.Frame.put.Goals as goal

pub name_polygons-requires : goal.name_polygons-requires
name_polygons-requires g c =
    subst (λ z. HasRoom (flat_map polygon_numbers z) c.self.inside.tables.names.items) (sym c.as_slice.ensures.value)
    (λ r i. subst (λ (f : Framed). r < f.room) (sym c.self.view_is) (c.requires.room r i))

pub index_mut-requires : goal.index_mut-requires
index_mut-requires g c =
    let below : c.args.n < length c.self.inside.tables.features.items =
    subst (λ (f : Framed). c.args.n < f.next) (sym c.self.view_is) c.requires.below in
    omega (arith, below, c.self.inside.tables.features.ok)

pub overflow_add-self : goal.overflow_add-self
overflow_add-self g c =
    let most = counted_within c.self.inside.tables c.self.invariant in
    let few = c.self.invariant.few in
    omega (arith, most, few)

pub invariant_of-self : goal.invariant_of-self
invariant_of-self g c =
    let t = c.self.inside.tables in
    let n = c.args.n in
    let f : Feature g.row.A.Denot = record { texts = c.args.texts; polygons = c.args.polygons } in
    put_kept t c.self.invariant n f (ap (λ (z : Framed). feature z.doc n) c.self.view_is ∙ c.requires.free)
    (subst (λ (z : Framed). n < z.next) (sym c.self.view_is) c.requires.below) (with_item t.features n (Some f)) refl
    (t.count + 1) c.name_polygons.new.names c.requires.fits refl
    (subst (λ z. Gain t.names.items c.name_polygons.new.names.items (λ o r. (o.feature ≡ n)
    × (element (slice_get (map polygon_numbers z) o.polygon) o.ring ≡ Some r))) c.as_slice.ensures.value c.name_polygons.ensures.gained)

pub returns : goal.returns
returns g c =
    let t = c.self.inside.tables in
    let n = c.args.n in
    let f : Feature g.row.A.Denot = record { texts = c.args.texts; polygons = c.args.polygons } in
    set_framed t c.self.invariant n (with_item t.features n (Some f)) (Some f) refl
    (subst (λ (z : Framed). n < z.next) (sym c.self.view_is) c.requires.below)
    (t.count + 1) c.name_polygons.new.names c.name_polygons.ensures.len
    ∙ ap (λ (f : Framed). record f {
      doc = exchanged f.places
          ((c.args.n, Some (with_texts c.args.n c.args.texts (feature_numbers c.args.polygons))) ∷ []) f.doc;
    }) c.self.view_is
