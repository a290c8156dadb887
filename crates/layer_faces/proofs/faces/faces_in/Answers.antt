use Rattle.kit_words.proofs.Common.{◌*◌, ◌<◌, ◌++◌, sym, ap, ap₂, ◌∙◌, subst, arith, length, All, All-push, take-append-drop, length-map, is_lt}
use Rattle.layer_sides.specs.Seen.{borders_seen}
use Rattle.layer_faces.specs.Kept.{IsFound}
use Rattle.layer_faces.specs.Order.{labelled_cmp, side_of}
use Rattle.layer_faces.proofs.Ascending.{run_ascends, sorted_rest}
use Rattle.layer_faces.proofs.Cutting.{all_front, all_back, cut_more}
use Rattle.layer_faces.proofs.faces.faces_in.Goals as goal

pub face_of-requires : goal.face_of-requires
face_of-requires g c =
    let long = ap length c.in_ok-sides.ensures ∙ length-map c.split_at.result.0.now side_of in
    record {
      few = c.requires.few;
      few_sides = omega (arith, long, c.split_at.ensures.front_len, c.run_length.ensures.within, c.loop-rest.invariant.few);
      some = omega (arith, long, c.split_at.ensures.front_len, c.run_length.ensures.some);
      ascending = run_ascends c.loop-rest.rest.now c.split_at.result.0.now c.run_length.result _ c.in_ok-sides.ensures c.split_at.ensures.front
          c.loop-rest.invariant.ascending c.run_length.ensures.same;
      within = subst (All (λ a. a < 2 * length c.args.borders.now)) (sym c.in_ok-sides.ensures)
          (all_front (λ a. a < 2 * length c.args.borders.now) side_of c.loop-rest.rest.now c.split_at.result.0.now c.run_length.result c.split_at.ensures.front c.loop-rest.invariant.within);
      owned = c.requires.owned;
    }

pub loop-rest-preserved : goal.loop-rest-preserved
loop-rest-preserved g c =
    let face = c.in_ok-face_of.field-0 in
    let run = c.split_at.result.0.now in
    let more = c.split_at.result.1.now in
    let k = c.run_length.result in
    record {
      found = subst (All (IsFound (borders_seen c.args.borders.now) c.args.owners.now)) (sym c.in_ok-push.ensures.items)
          (All-push (IsFound (borders_seen c.args.borders.now) c.args.owners.now) c.loop-rest.faces.items face c.loop-rest.invariant.found c.in_ok-face_of.ensures.found);
      all = cut_more (λ f. f.sides.items) side_of c.loop-rest.faces.items c.push.new.self.items face c.loop-rest.rest.now run more _ _
          c.in_ok-push.ensures.items c.in_ok-face_of.ensures.sides c.in_ok-sides.ensures
          (ap₂ (λ xs ys. xs ++ ys) c.split_at.ensures.front c.split_at.ensures.back ∙ take-append-drop k c.loop-rest.rest.now)
          c.loop-rest.invariant.all;
      few = omega (arith, c.split_at.ensures.back_len, c.loop-rest.invariant.few);
      ascending = sorted_rest (λ x y. is_lt (labelled_cmp x y)) k c.loop-rest.rest.now more c.split_at.ensures.back c.loop-rest.invariant.ascending;
      within = all_back (λ a. a < 2 * length c.args.borders.now) side_of c.loop-rest.rest.now more k c.split_at.ensures.back c.loop-rest.invariant.within;
    }
