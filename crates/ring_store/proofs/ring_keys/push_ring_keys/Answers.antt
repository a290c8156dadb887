use Rattle.kit_words.proofs.Common.{◌≡◌, ap, sym, ◌∙◌, subst, IsSome, true, false, take, ◌++◌, append_assoc, get_or}
use Rattle.kit_words.proofs.Common.{◌+◌, option_copied}
use Rattle.std.proofs.Common.{take_all}
use Rattle.slab.specs.Slab.{get}
use Rattle.arc_tables.specs.Common.{links, walk, chain, begins, uses_in, uses_arc, path_in, path_of}
use Rattle.ring_store.proofs.ReadLemmas.{uses_at, copied_some, read_more}
use Rattle.ring_store.proofs.ring_keys.push_ring_keys.Goals as goal

pub unwrap-arc-requires : goal.unwrap-arc-requires
unwrap-arc-requires g c =
    let us = c.as_slice-u-items.result.now in
    let is : us ≡ uses_in (get c.args.tables.now.rings c.args.r) = c.as_slice-u-items.ensures.value ∙ ap uses_in (sym (ap option_copied c.unwrap.ensures) ∙ c.get.ensures) in
    let used = uses_at us c.loop-u.u-index (record { arc = 0; back = false }) c.loop-u-test.true in
    copied_some c.get-in-loop-u.result (subst (λ o. IsSome o) (sym c.get-in-loop-u.ensures) (c.requires.whole.known.there c.args.r (get_or us c.loop-u.u-index (record { arc = 0; back = false })).arc (subst (λ z. uses_arc (get_or us c.loop-u.u-index (record { arc = 0; back = false })).arc z ≡ true) is used)))

pub loop-u-preserved : goal.loop-u-preserved
loop-u-preserved g c =
    let us = c.as_slice-u-items.result.now in
    let i = c.loop-u.u-index in
    let path = path_of c.args.tables.now in
    let is : us ≡ uses_in (get c.args.tables.now.rings c.args.r) = c.as_slice-u-items.ensures.value ∙ ap uses_in (sym (ap option_copied c.unwrap.ensures) ∙ c.get.ensures) in
    let keys : c.as_slice.result.now ≡ path (get_or us i (record { arc = 0; back = false })).arc = c.as_slice.ensures.value ∙ ap path_in (sym (ap option_copied c.unwrap-arc.ensures) ∙ c.get-in-loop-u.ensures) in
    c.in_ok-push_begins.ensures
    ∙ ap (λ z. z ++ begins (links (walk (get_or us i (record { arc = 0; back = false })).back c.as_slice.result.now))) c.loop-u.invariant
    ∙ append_assoc c.args.out.now.items _ _
    ∙ ap (λ z. c.args.out.now.items ++ z)
    (ap (λ z. begins (chain path (take i z)) ++ begins (links (walk (get_or us i (record { arc = 0; back = false })).back c.as_slice.result.now))) (sym is)
    ∙ ap (λ z. begins (chain path (take i us)) ++ begins (links (walk (get_or us i (record { arc = 0; back = false })).back z))) keys
    ∙ sym (read_more path us i (record { arc = 0; back = false }) c.loop-u-test.true)
    ∙ ap (λ z. begins (chain path (take (i + 1) z))) is)

pub returns : goal.returns
returns g c =
    let us = c.as_slice-u-items.result.now in
    let path = path_of c.args.tables.now in
    let is : us ≡ uses_in (get c.args.tables.now.rings c.args.r) = c.as_slice-u-items.ensures.value ∙ ap uses_in (sym (ap option_copied c.unwrap.ensures) ∙ c.get.ensures) in
    c.loop-u.invariant ∙ ap (λ z. c.args.out.now.items ++ begins (chain path z)) (ap (take c.loop-u.u-index) (sym is) ∙ take_all c.loop-u.u-index us c.loop-u-test.false ∙ is)
