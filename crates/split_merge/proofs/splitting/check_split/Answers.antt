use Rattle.kit_words.proofs.Common.{◌≡◌, sym, subst, None, OnOk, IfErr}
use Rattle.ring_machine.specs.Common.{first_of}
use Rattle.ring_parts.specs.Common.{path_seen}
use Rattle.arc_store.specs.Common.{Refuses}
use Rattle.split_merge.specs.Common.{place_refusals, path_refusals, early_refusals}
use Rattle.split_merge.proofs.FirstRefusal.{second_group, refuses_first}
use Rattle.split_merge.proofs.splitting.check_split.Goals as goal

pub returns-in-Err-clause-refused : goal.returns-in-Err-clause-refused
returns-in-Err-clause-refused g c =
    let d = c.args.map.now.doc in
    let path = path_seen c.in-Some.path in
    subst (λ p. Refuses c.in-Err.fault (first_of (early_refusals d c.args.f p))) c.in-Some.ensures.value
    (refuses_first c.in-Err.fault (place_refusals d c.args.f path) (path_refusals d path) c.in-Err.ensures.refused)

pub returns-clause-accepted : goal.returns-clause-accepted
returns-clause-accepted g c =
    let d = c.args.map.now.doc in
    let path = path_seen c.in-Some.path in
    subst (λ p. OnOk c.check_path.result (first_of (early_refusals d c.args.f p) ≡ None)) c.in-Some.ensures.value
    (subst (λ o. OnOk c.check_path.result (o ≡ None)) (sym (second_group (place_refusals d c.args.f path) (path_refusals d path) c.in_default-check_place.ensures.accepted)) c.check_path.ensures.accepted)

pub returns-clause-refused : goal.returns-clause-refused
returns-clause-refused g c =
    let d = c.args.map.now.doc in
    let path = path_seen c.in-Some.path in
    subst (λ p. IfErr c.check_path.result (λ fault. Refuses fault (first_of (early_refusals d c.args.f p)))) c.in-Some.ensures.value
    (subst (λ o. IfErr c.check_path.result (λ fault. Refuses fault o)) (sym (second_group (place_refusals d c.args.f path) (path_refusals d path) c.in_default-check_place.ensures.accepted)) c.check_path.ensures.refused)
