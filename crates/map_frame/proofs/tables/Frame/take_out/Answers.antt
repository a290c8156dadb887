use Rattle.kit_words.proofs.Common.{◌≡◌, ◌<◌, ◌≤◌, ◌+◌, ◌-◌, refl, sym, ap, ◌∙◌, subst, length, map, slice_set, ℕ}
use Rattle.kit_words.proofs.Common.{arith, [], ◌∷◌, Some, None, IsTrue, option_map, slice_get, with_item}
use Rattle.edit_records.specs.Common.{exchanged}
use Rattle.ring_machine.specs.Common.{are_distinct, feature, rings}
use Rattle.map_frame.specs.Common.{polygon_numbers, Framed, Loss, element, texts_of}
use Rattle.map_frame.proofs.EditedStands.{entry_is}
use Rattle.map_frame.proofs.PlacedFrames.{moved_framed, moved_kept, set_same}
use Rattle.map_frame.proofs.ReadLists.{got}
use Rattle.map_frame.proofs.SlotsSet.{absent_past, absent_taken}
use Rattle.map_frame.proofs.TakenTables.{taken_none, set_framed, taken_kept, counted_there, there_seen}
use Rattle.map_frame.proofs.tables.Frame.take_out.Goals as goal

-- the frame without the feature, and the texts of the feature
abbrev without : ℕ → Framed → Framed
without n f = record f { doc = exchanged f.places ((n, None) ∷ []) f.doc }

pub returns-then-at-len : goal.returns-then-at-len
returns-then-at-len g c =
    let t = c.self.inside.tables in
    let n = c.args.n in
    let past : length t.features.items ≤ n = omega (arith, c.if-at-len.true, c.len.ensures, t.features.ok) in
    let gone = absent_past t.features.items n past in
    record {
      taken = sym c.self.view_is ∙ taken_none t c.self.invariant n gone ∙ ap (without n) c.self.view_is;
      texts = sym (ap (option_map texts_of) (entry_is t c.self.invariant n ∙ gone))
          ∙ ap (λ (f : Framed). option_map texts_of (feature f.doc n)) c.self.view_is;
    }

pub index_mut-requires : goal.index_mut-requires
index_mut-requires g c = omega (arith, c.if-at-len.false, c.len.ensures)

pub invariant_of-self : goal.invariant_of-self
invariant_of-self g c =
    let t = c.self.inside.tables in
    let fs = t.features.items in
    let n = c.args.n in
    let within : n < length fs = omega (arith, c.if-at-len.false, c.len.ensures, t.features.ok) in
    let gone : slice_get fs n ≡ Some None =
    got fs fs n refl c.index_mut.result.now within c.index_mut.ensures.value ∙ ap Some (sym c.in_err-feature.ensures.value) in
    let same = ap (slice_set fs n) c.take.ensures.after ∙ set_same fs n None gone in
    moved_kept t (with_item t.features n c.take.new.self) t.stands same refl c.self.invariant

pub returns-in_err-feature : goal.returns-in_err-feature
returns-in_err-feature g c =
    let t = c.self.inside.tables in
    let fs = t.features.items in
    let n = c.args.n in
    let within : n < length fs = omega (arith, c.if-at-len.false, c.len.ensures, t.features.ok) in
    let gone : slice_get fs n ≡ Some None =
    got fs fs n refl c.index_mut.result.now within c.index_mut.ensures.value ∙ ap Some (sym c.in_err-feature.ensures.value) in
    let same = ap (slice_set fs n) c.take.ensures.after ∙ set_same fs n None gone in
    record {
      taken = moved_framed t (with_item t.features n c.take.new.self) t.stands same refl
          ∙ taken_none t c.self.invariant n (absent_taken fs n gone) ∙ ap (without n) c.self.view_is;
      texts = c.from_residual.ensures
          ∙ sym (ap (option_map texts_of) (entry_is t c.self.invariant n ∙ absent_taken fs n gone))
          ∙ ap (λ (f : Framed). option_map texts_of (feature f.doc n)) c.self.view_is;
    }

pub overflow_sub-self : goal.overflow_sub-self
overflow_sub-self g c =
    let t = c.self.inside.tables in
    let fs = t.features.items in
    let n = c.args.n in
    let within : n < length fs = omega (arith, c.if-at-len.false, c.len.ensures, t.features.ok) in
    let there = got fs fs n refl c.index_mut.result.now within c.index_mut.ensures.value ∙ ap Some (sym c.in_ok-feature.ensures.value) in
    let more = counted_there t c.self.invariant n c.in_ok-feature.feature there in
    omega (arith, more)

pub invariant_of-self-2 : goal.invariant_of-self-2
invariant_of-self-2 g c =
    let t = c.self.inside.tables in
    let fs = t.features.items in
    let n = c.args.n in
    let k = c.self.invariant in
    let f = c.in_ok-feature.feature in
    let within : n < length fs = omega (arith, c.if-at-len.false, c.len.ensures, t.features.ok) in
    let there = got fs fs n refl c.index_mut.result.now within c.index_mut.ensures.value ∙ ap Some (sym c.in_ok-feature.ensures.value) in
    let set = ap (slice_set fs n) c.take.ensures.after in
    let more = counted_there t k n f there in
    let less : (t.count - 1) + 1 ≡ t.count = omega (arith, more) in
    taken_kept t k n f there (with_item t.features n c.take.new.self) set (t.count - 1) c.forget_feature.new.names
    (subst (λ (z : Framed). IsTrue (are_distinct (rings z.doc))) (sym c.self.view_is) c.requires.once) less
    (subst (λ polygons. Loss t.names.items c.forget_feature.new.names.items (λ r. (p i : ℕ)
    × (element (slice_get (map polygon_numbers polygons) p) i ≡ Some r))) c.as_slice.ensures.value c.forget_feature.ensures.lost)

pub returns : goal.returns
returns g c =
    let t = c.self.inside.tables in
    let fs = t.features.items in
    let n = c.args.n in
    let k = c.self.invariant in
    let f = c.in_ok-feature.feature in
    let within : n < length fs = omega (arith, c.if-at-len.false, c.len.ensures, t.features.ok) in
    let there = got fs fs n refl c.index_mut.result.now within c.index_mut.ensures.value ∙ ap Some (sym c.in_ok-feature.ensures.value) in
    let set = ap (slice_set fs n) c.take.ensures.after in
    record {
      taken = set_framed t k n (with_item t.features n c.take.new.self) None set within (t.count - 1)
          c.forget_feature.new.names c.forget_feature.ensures.len ∙ ap (without n) c.self.view_is;
      texts = sym (ap (option_map texts_of) (entry_is t k n ∙ there_seen t k n f there))
          ∙ ap (λ (z : Framed). option_map texts_of (feature z.doc n)) c.self.view_is;
    }
