use Rattle.kit_words.proofs.Common.{◌≡◌, ◌∙◌, refl, sym, ap, None, Some, Option}
use Rattle.map_opening.specs.Common.{lists_seen}
use Rattle.arc_store.proofs.Opened.{read_are_rings, read_small, opened_pair, numbers_fit}
use Rattle.arc_store.proofs.Opened.{opened_stands, map_document, map_features, map_proper, map_kept}
use Rattle.arc_store.proofs.map.Map.build.Goals as goal

pub lay-requires-clause-rings : goal.lay-requires-clause-rings
lay-requires-clause-rings g c = read_are_rings c.args.raw c.requires.rings c.as_slice.ensures.value c.in_ok-flat.ensures

pub lay-requires-clause-small : goal.lay-requires-clause-small
lay-requires-clause-small g c = read_small c.args.raw c.requires.rings c.as_slice.ensures.value c.in_ok-flat.ensures

none_is : {X : Type 0} (o : Option X) → ((x : X) → o ≡ Some x → ⊥) → o ≡ None
none_is None h = refl
none_is (Some x) h = absurd (h x refl)

pub returns-in-Some-clause-conflict : goal.returns-in-Some-clause-conflict
returns-in-Some-clause-conflict g c =
    opened_pair c.args.raw c.requires.rings c.as_slice.ensures.value c.in_ok-flat.ensures c.in_ok-opened.ensures.opened ∙ c.in-Some.is

pub regrouped-requires : goal.regrouped-requires
regrouped-requires g c =
    numbers_fit c.args.raw c.requires.rings c.as_slice.ensures.value c.in_ok-flat.ensures c.in_ok-opened.ensures.opened
    c.as_slice-2.ensures.value (ap lists_seen c.as_slice-3.ensures.value)

pub build-requires : goal.build-requires
build-requires g c = record {
  stands = opened_stands c.args.raw c.requires.rings c.as_slice.ensures.value c.in_ok-flat.ensures c.in_ok-opened.ensures.opened
      c.in_ok-numbers.numbers.items c.as_slice-2.ensures.value (ap lists_seen c.as_slice-3.ensures.value) c.in_ok-numbers.ensures;
}

pub invariant_of-result : goal.invariant_of-result
invariant_of-result g c =
    map_kept c.args.raw c.requires.rings c.as_slice.ensures.value c.in_ok-flat.ensures c.in_ok-opened.ensures.opened
    c.in_ok-numbers.numbers.items c.as_slice-2.ensures.value (ap lists_seen c.as_slice-3.ensures.value) c.in_ok-numbers.ensures
    c.in_ok-frame.frame c.in_ok-frame.ensures.doc (none_is c.in_ok-opened.opened.first c.in_default.not-Some)

pub returns-clause-built : goal.returns-clause-built
returns-clause-built g c =
    map_document c.args.raw c.requires.rings c.as_slice.ensures.value c.in_ok-flat.ensures c.in_ok-opened.ensures.opened
    c.in_ok-numbers.numbers.items c.as_slice-2.ensures.value (ap lists_seen c.as_slice-3.ensures.value) c.in_ok-numbers.ensures c.in_ok-frame.frame c.in_ok-frame.ensures.doc

pub returns-clause-proper : goal.returns-clause-proper
returns-clause-proper g c =
    map_proper c.args.raw c.requires.rings c.as_slice.ensures.value c.in_ok-flat.ensures c.in_ok-opened.ensures.opened
    c.in_ok-numbers.numbers.items c.as_slice-2.ensures.value (ap lists_seen c.as_slice-3.ensures.value) c.in_ok-numbers.ensures
    c.in_ok-frame.frame c.in_ok-frame.ensures.doc (none_is c.in_ok-opened.opened.first c.in_default.not-Some)

pub returns-clause-next : goal.returns-clause-next
returns-clause-next g c =
    c.in_ok-frame.ensures.next
    ∙ sym (map_features c.args.raw c.requires.rings c.as_slice.ensures.value c.in_ok-flat.ensures c.in_ok-opened.ensures.opened
    c.in_ok-numbers.numbers.items c.as_slice-2.ensures.value (ap lists_seen c.as_slice-3.ensures.value) c.in_ok-numbers.ensures c.in_ok-frame.frame c.in_ok-frame.ensures.doc)
