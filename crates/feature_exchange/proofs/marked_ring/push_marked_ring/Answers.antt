use Rattle.kit_words.proofs.Common.{◌≡◌, arith, sym, ap, ◌∙◌, subst, ◌++◌, map, take, drop, length, Contains}
use Rattle.ring_machine.specs.Common.{canonical}
use Rattle.vertex_index.specs.Common.{place}
use Rattle.feature_exchange.specs.Common.{meets}
use Rattle.feature_exchange.proofs.PolygonsRead.{keys_found}
use Rattle.feature_exchange.proofs.MarkedRing.{walk_found, walk_there, marked_parts}
use Rattle.feature_exchange.proofs.marked_ring.push_marked_ring.Goals as goal

pub returns-in_default-clause-positions : goal.returns-in_default-clause-positions
returns-in_default-clause-positions g c =
    absurd (walk_there c.args.tables.now.borders c.args.r c.requires.held c.in_default.ensures)

pub returns-in_default-clause-marks : goal.returns-in_default-clause-marks
returns-in_default-clause-marks g c =
    absurd (walk_there c.args.tables.now.borders c.args.r c.requires.held c.in_default.ensures)

pub least_start-start-requires-clause-placed : goal.least_start-start-requires-clause-placed
least_start-start-requires-clause-placed g c = λ k h.
    c.requires.along c.args.r k (subst (λ ks. Contains ks k) (walk_found c.args.tables.now.borders c.args.r c.in-Some.walk c.in-Some.ensures) h)

pub least_start-start-requires-clause-few : goal.least_start-start-requires-clause-few
least_start-start-requires-clause-few g c =
    let m = c.args.tables.now.borders in
    let same : c.in-Some.walk ≡ c.push_keys.new.out.items = walk_found m c.args.r c.in-Some.walk c.in-Some.ensures ∙ sym (keys_found m c.args.r c.requires.held c.in_ok-list.list.items c.push_keys.new.out.items c.in_ok-list.ensures.items c.in_ok-push_keys.ensures) in
    omega (arith, ap length same, c.push_keys.new.out.ok.0, c.push_keys.new.out.small)

pub push_turned-requires-clause-placed : goal.push_turned-requires-clause-placed
push_turned-requires-clause-placed g c = λ k h.
    let m = c.args.tables.now.borders in
    c.requires.along c.args.r k (subst (λ ks. Contains ks k) (c.as_slice.ensures.value ∙ keys_found m c.args.r c.requires.held c.in_ok-list.list.items c.push_keys.new.out.items c.in_ok-list.ensures.items c.in_ok-push_keys.ensures) h)

pub push_turned-requires-clause-within : goal.push_turned-requires-clause-within
push_turned-requires-clause-within g c =
    let m = c.args.tables.now.borders in
    let same : c.in-Some.walk ≡ c.as_slice.result.now = walk_found m c.args.r c.in-Some.walk c.in-Some.ensures ∙ sym (c.as_slice.ensures.value ∙ keys_found m c.args.r c.requires.held c.in_ok-list.list.items c.push_keys.new.out.items c.in_ok-list.ensures.items c.in_ok-push_keys.ensures) in
    omega (arith, ap length same, c.least_start-start.ensures.within)

pub returns-clause-positions : goal.returns-clause-positions
returns-clause-positions g c =
    let m = c.args.tables.now.borders in
    let at = place c.args.tables.now.vertices in
    let start = c.least_start-start.result in
    let list = c.as_slice.ensures.value ∙ keys_found m c.args.r c.requires.held c.in_ok-list.list.items c.push_keys.new.out.items c.in_ok-list.ensures.items c.in_ok-push_keys.ensures in
    let walk = walk_found m c.args.r c.in-Some.walk c.in-Some.ensures in
    c.in_ok-push_turned.ensures.positions
    ∙ ap (λ ks. c.args.positions.now.items ++ (drop start (map at ks) ++ take start (map at ks))) (list ∙ sym walk)
    ∙ ap (λ ps. c.args.positions.now.items ++ ps) (sym c.least_start-start.ensures.turned)
    ∙ ap (λ ks. c.args.positions.now.items ++ canonical (map at ks)) walk

pub returns-clause-marks : goal.returns-clause-marks
returns-clause-marks g c = λ such h.
    let m = c.args.tables.now.borders in
    let at = place c.args.tables.now.vertices in
    let mark = meets c.args.meetings.now in
    let start = c.least_start-start.result in
    let list = c.as_slice.ensures.value ∙ keys_found m c.args.r c.requires.held c.in_ok-list.list.items c.push_keys.new.out.items c.in_ok-list.ensures.items c.in_ok-push_keys.ensures in
    let walk = walk_found m c.args.r c.in-Some.walk c.in-Some.ensures in
    c.in_ok-push_turned.ensures.marks
    ∙ ap (λ ks. c.args.marks.now.items ++ (drop start (map mark ks) ++ take start (map mark ks))) (list ∙ sym walk)
    ∙ ap (λ bs. c.args.marks.now.items ++ bs) (marked_parts mark at such c.in-Some.walk start (λ k i. h k (subst (λ ks. Contains ks k) walk i)) c.least_start-start.ensures.turned)
    ∙ ap (λ ks. c.args.marks.now.items ++ map such (canonical (map at ks))) walk
