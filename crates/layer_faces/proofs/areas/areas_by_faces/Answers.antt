use Rattle.kit_words.proofs.Common.{◌≡◌, ℕ, pos, ◌+ℤ◌, ◌*ℤ◌, ◌+◌, ◌*◌, ◌<◌, ◌≤◌, unsigned_abs, sym, ap, ◌∙◌, subst, arith, eqb, get_or, length, take, All, replicate, with_items_is, length-replicate}
use Rattle.std.specs.List.{count_by}
use Rattle.std.proofs.lemmas.List.{get_or_default}
use Rattle.std.proofs.lemmas.List.Sums.{count_by-le-length, sum_by-take-le}
use Rattle.kit_words.proofs.Common.{to_z, of_z, w128}
use Rattle.layer_faces.specs.Areas.{total}
use Rattle.layer_faces.specs.declared.face.Face.{Face}
use Rattle.layer_faces.specs.Weighed.{reach}
use Rattle.layer_faces.proofs.Weighing.{area_fits, zeros_at, zeros_total}
use Rattle.layer_faces.proofs.Spreading.{spread_bound, spread_each, spread_room, spread_sum}
use Rattle.layer_faces.proofs.areas.areas_by_faces.Goals as goal

pub loop-face-init : goal.loop-face-init
loop-face-init g c =
    let areas = c.in_ok-areas.areas.items in
    let zeros : areas ≡ replicate c.args.count (pos 0) = c.in_ok-areas.ensures.items_if_clones_equal (λ y h. h) in
    let at : (n : ℕ) → get_or areas n (pos 0) ≡ pos 0 = λ n. ap (λ zs. get_or zs n (pos 0)) zeros ∙ zeros_at c.args.count n in
    record {
      count = ap length zeros ∙ length-replicate c.args.count (pos 0);
      each = at;
      sum = ap (total (λ z. z)) zeros ∙ zeros_total c.args.count;
      bound = λ n. subst (λ z. unsigned_abs z ≤ 0) (sym (at n)) (omega arith);
    }

pub add_to-requires : goal.add_to-requires
add_to-requires g c =
    let faces = c.args.faces.now in
    let f = c.face-item.result in
    let i = c.loop-face.face-index in
    let l = c.loop-face-test.true in
    let ys = c.as_mut_slice.result.now in
    let a = to_z w128 (of_z w128 f.twice_area) in
    let same : a ≡ f.twice_area = area_fits f.twice_area f.small in
    let few : length f.holders.items ≤ 4000000 = subst (λ (h : Face _). length h.holders.items ≤ 4000000) (sym c.face-item.is) (c.requires.few i f l) in
    let few_here : length c.as_slice.result.now ≤ 4000000 = subst (λ ns. length ns ≤ 4000000) (sym c.as_slice.ensures.value) few in
    let long : c.args.count ≡ length ys = sym (ap length c.as_mut_slice.ensures.value ∙ c.loop-face.invariant.count) in
    let held : All (λ n. n < c.args.count) f.holders.items = subst (λ (h : Face _). All (λ n. n < c.args.count) h.holders.items) (sym c.face-item.is) (c.requires.within i f l) in
    record {
      within = subst (λ ns. All (λ n. n < length ys) ns) (sym c.as_slice.ensures.value) (subst (λ m. All (λ n. n < m) f.holders.items) long held);
      room = λ k d m.
          let at = ap (λ zs. get_or zs k (pos 0)) (sym c.as_mut_slice.ensures.value) ∙ get_or_default ys k (pos 0) d m in
          spread_room faces i f l c.face-item.is a same (get_or ys k d) (length c.as_slice.result.now) few_here
          (subst (λ z. unsigned_abs z ≤ 4000000 * reach (take i faces)) at (c.loop-face.invariant.bound k)) c.requires.small;
    }

pub loop-face-preserved : goal.loop-face-preserved
loop-face-preserved g c =
    let faces = c.args.faces.now in
    let f = c.face-item.result in
    let i = c.loop-face.face-index in
    let l = c.loop-face-test.true in
    let is = c.face-item.is in
    let areas = c.loop-face.areas in
    let zs = c.add_to.new.areas in
    let a = to_z w128 (of_z w128 f.twice_area) in
    let same : a ≡ f.twice_area = area_fits f.twice_area f.small in
    let few : length f.holders.items ≤ 4000000 = subst (λ (h : Face _). length h.holders.items ≤ 4000000) (sym is) (c.requires.few i f l) in
    let value = c.as_mut_slice.ensures.value in
    let written = with_items_is areas zs (c.add_to.auto.areas ∙ c.as_mut_slice.ensures.len) in
    let each : (k : ℕ) → get_or zs k (pos 0) ≡ get_or areas.items k (pos 0) +ℤ pos (count_by (λ m. eqb m k) f.holders.items) *ℤ a =
    λ k. c.add_to.ensures.each k ∙ ap (λ ys. get_or ys k (pos 0) +ℤ pos (count_by (λ m. eqb m k) c.as_slice.result.now) *ℤ a) value
    ∙ ap (λ ns. get_or areas.items k (pos 0) +ℤ pos (count_by (λ m. eqb m k) ns) *ℤ a) c.as_slice.ensures.value in
    let sum : total (λ z. z) zs ≡ total (λ z. z) areas.items +ℤ pos (length f.holders.items) *ℤ a =
    c.add_to.ensures.sum ∙ ap (λ ys. total (λ z. z) ys +ℤ pos (length c.as_slice.result.now) *ℤ a) value
    ∙ ap (λ ns. total (λ z. z) areas.items +ℤ pos (length ns) *ℤ a) c.as_slice.ensures.value in
    let count = ap length written ∙ c.add_to.auto.areas ∙ ap length value ∙ c.loop-face.invariant.count in
    let each_more = spread_each faces i f l is a same areas.items zs each c.loop-face.invariant.each in
    let sum_more = spread_sum faces i f l is a same (total (λ z. z) areas.items) (total (λ z. z) zs) sum c.loop-face.invariant.sum in
    let bound_more : (n : ℕ) → unsigned_abs (get_or zs n (pos 0)) ≤ 4000000 * reach (take (i + 1) faces) =
    λ n. let often = count_by-le-length (λ m. eqb m n) f.holders.items in
    spread_bound faces i f l is a same (get_or areas.items n (pos 0)) (get_or zs n (pos 0)) (count_by (λ m. eqb m n) f.holders.items) (omega (arith, often, few))
    (each n) (c.loop-face.invariant.bound n) in
    record {
      count = count;
      each = λ n. ap (λ ws. get_or ws n (pos 0)) written ∙ each_more n;
      sum = ap (total (λ z. z)) written ∙ sum_more;
      bound = λ n. subst (λ ws. unsigned_abs (get_or ws n (pos 0)) ≤ 4000000 * reach (take (i + 1) faces)) (sym written) (bound_more n);
    }

pub returns-clause-small : goal.returns-clause-small
returns-clause-small g c = λ k d l.
    let front = sum_by-take-le (λ (f : Face _). unsigned_abs f.twice_area) c.args.faces.now c.loop-face.face-index in
    let near = c.loop-face.invariant.bound k in
    subst (λ z. unsigned_abs z ≤ 64000000000000000000000000000000000000) (get_or_default c.loop-face.areas.items k (pos 0) d l)
    (omega (arith, front, near, c.requires.small))
