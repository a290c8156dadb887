use Rattle.kit_words.proofs.Common.{◌≡◌, ◌-◌, ◌*◌, ◌≤◌, pos, unsigned_abs, length, arith, ap, ◌∙◌, sym, subst, to_z, of_z, w128}
use Rattle.std.proofs.lemmas.Int.{to_z_pos}
use Rattle.layer_faces.proofs.Weighing.{area_fits, often_is, often_small}
use Rattle.layer_faces.proofs.sums.over_in.Goals as goal

pub returns-clause-value : goal.returns-clause-value
returns-clause-value g c =
    let f = c.args.face.now in
    let k = length f.holders.items - 1 in
    let x = to_z w128 c.saturating_sub.result in
    let y = to_z w128 (of_z w128 f.twice_area) in
    let few : k ≤ 4000000 = omega (arith, c.requires.few) in
    let times_are : c.saturating_sub.result ≡ k = omega (arith, c.saturating_sub.ensures, c.len.ensures, f.holders.ok.0) in
    let times : x ≡ pos k = to_z_pos w128 c.saturating_sub.result (omega (arith, times_are, few)) ∙ ap pos times_are in
    let same : y ≡ f.twice_area = area_fits f.twice_area f.small in
    often_is k x y f.twice_area few f.small times same

pub returns-clause-bound : goal.returns-clause-bound
returns-clause-bound g c =
    let f = c.args.face.now in
    let k = length f.holders.items - 1 in
    let few : k ≤ 4000000 = omega (arith, c.requires.few) in
    subst (λ z. unsigned_abs z ≤ 4000000 * unsigned_abs f.twice_area) (sym (returns-clause-value g c)) (often_small k f.twice_area few)
