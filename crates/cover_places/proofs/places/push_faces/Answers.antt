use Rattle.kit_words.proofs.Common.{◌∙◌, ◌++◌, ◌∷◌, [], ap, append-nil, arith, map, map_push, sym, take_all}
use Rattle.cover_report.specs.Common.{view_told}
use Rattle.walk_faults.proofs.Walking.{one_appended}
use Rattle.cover_places.specs.Places.{numbered, place_of, place_seen}
use Rattle.cover_places.proofs.places.push_faces.Goals as goal

pub loop-number-init : goal.loop-number-init
loop-number-init g c = sym (append-nil (map place_seen c.args.places.now.items))

pub loop-number-preserved : goal.loop-number-preserved
loop-number-preserved g c =
    one_appended (λ n f. place_of n f ∷ []) (λ f. view_told f.now) c.args.faces.now c.loop-number.number c.index-faces-number.result
    (map place_seen c.args.places.now.items) (map place_seen c.loop-number.places.items) (map place_seen c.push.new.self.items)
    c.loop-number-test.true c.index-faces-number.is c.loop-number.invariant
    (ap (map place_seen) c.in_ok-push.ensures.items ∙ map_push place_seen c.loop-number.places.items _)

pub returns : goal.returns
returns g c =
    c.loop-number.invariant
    ∙ ap (λ z. map place_seen c.args.places.now.items ++ numbered (map (λ f. view_told f.now) z)) (take_all c.loop-number.number c.args.faces.now (omega arith))
