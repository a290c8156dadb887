use Rattle.kit_words.proofs.Common.{◌≡◌, ◌∙◌, ◌++◌, ◌∷◌, [], ap, sym, refl, Some, option_copied_mut, on_err}
use Rattle.slab.specs.Slab.{get, with_value}
use Rattle.arc_tables.specs.Common.{Use, uses_in}
use Rattle.arc_tables.proofs.Growing.{known_goes_on}
use Rattle.arc_tables.proofs.WholeLemmas.{listed_paths, whole_alike, whole_same}
use Rattle.arc_tables.proofs.Writes.{went_on, same_uses, same_keys}
use Rattle.arc_tables.proofs.tables.Tables.go_along.Goals as goal

pub returns-clause-ok : goal.returns-clause-ok
returns-clause-ok g c =
    let s = c.args.self.now in
    let u : Use = record { arc = c.args.i; back = c.args.back } in
    let is : Some c.unwrap-ring.result.now ≡ get s.rings c.args.r = sym (ap option_copied_mut c.unwrap-ring.ensures) ∙ c.get_mut.ensures.value in
    let more : c.push_reserved.new.self.items ≡ uses_in (get s.rings c.args.r) ++ u ∷ [] = c.push_reserved.ensures.items ∙ ap (λ z. z ++ u ∷ []) (c.reserve.ensures.items ∙ ap uses_in is) in
    let w = went_on s.rings c.args.r (record { uses = c.push_reserved.new.self }) u c.requires.ring more in
    record { paths = c.learn.ensures.paths; ring = w.ring; others = w.others }

pub returns-clause-whole : goal.returns-clause-whole
returns-clause-whole g c =
    let s = c.args.self.now in
    let u : Use = record { arc = c.args.i; back = c.args.back } in
    let is : Some c.unwrap-ring.result.now ≡ get s.rings c.args.r = sym (ap option_copied_mut c.unwrap-ring.ensures) ∙ c.get_mut.ensures.value in
    let more : c.push_reserved.new.self.items ≡ uses_in (get s.rings c.args.r) ++ u ∷ [] = c.push_reserved.ensures.items ∙ ap (λ z. z ++ u ∷ []) (c.reserve.ensures.items ∙ ap uses_in is) in
    let w = went_on s.rings c.args.r (record { uses = c.push_reserved.new.self }) u c.requires.ring more in
    record {
      known = known_goes_on s.arcs c.learn.new.arcs s.rings (with_value s.rings c.args.r (record { uses = c.push_reserved.new.self })) c.args.r u c.requires.whole.known c.in_ok-learn.ensures.ok w;
      listed = listed_paths s.arcs c.learn.new.arcs s.stands.items s.stands.items c.learn.ensures.paths (λ j m x. x) c.requires.whole.listed;
    }

pub returns-clause-held : goal.returns-clause-held
returns-clause-held g c = same_keys c.args.self.now.rings c.args.r (record { uses = c.push_reserved.new.self }) c.requires.ring

pub returns-in_err-reserve-clause-err_rings : goal.returns-in_err-reserve-clause-err_rings
returns-in_err-reserve-clause-err_rings g c =
    let is : Some c.unwrap-ring.result.now ≡ get c.args.self.now.rings c.args.r = sym (ap option_copied_mut c.unwrap-ring.ensures) ∙ c.get_mut.ensures.value in
    on_err c.from_residual.result (same_uses c.args.self.now.rings c.args.r (record { uses = c.reserve.new.self }) c.requires.ring (c.reserve.ensures.items ∙ ap uses_in is))

pub returns-in_err-reserve-clause-held : goal.returns-in_err-reserve-clause-held
returns-in_err-reserve-clause-held g c = same_keys c.args.self.now.rings c.args.r (record { uses = c.reserve.new.self }) c.requires.ring

pub returns-in_err-reserve-clause-whole : goal.returns-in_err-reserve-clause-whole
returns-in_err-reserve-clause-whole g c =
    let s = c.args.self.now in
    let is : Some c.unwrap-ring.result.now ≡ get s.rings c.args.r = sym (ap option_copied_mut c.unwrap-ring.ensures) ∙ c.get_mut.ensures.value in
    let same = same_uses s.rings c.args.r (record { uses = c.reserve.new.self }) c.requires.ring (c.reserve.ensures.items ∙ ap uses_in is) in
    whole_alike s (record s { rings = with_value s.rings c.args.r (record { uses = c.reserve.new.self }) }) (λ j. refl) same (λ j m x. x) c.requires.whole

pub returns-in_err-learn-clause-err_rings : goal.returns-in_err-learn-clause-err_rings
returns-in_err-learn-clause-err_rings g c =
    let is : Some c.unwrap-ring.result.now ≡ get c.args.self.now.rings c.args.r = sym (ap option_copied_mut c.unwrap-ring.ensures) ∙ c.get_mut.ensures.value in
    on_err c.from_residual-in_err-learn.result (same_uses c.args.self.now.rings c.args.r (record { uses = c.reserve.new.self }) c.requires.ring (c.reserve.ensures.items ∙ ap uses_in is))

pub returns-in_err-learn-clause-held : goal.returns-in_err-learn-clause-held
returns-in_err-learn-clause-held g c = same_keys c.args.self.now.rings c.args.r (record { uses = c.reserve.new.self }) c.requires.ring

pub returns-in_err-learn-clause-whole : goal.returns-in_err-learn-clause-whole
returns-in_err-learn-clause-whole g c =
    let s = c.args.self.now in
    let is : Some c.unwrap-ring.result.now ≡ get s.rings c.args.r = sym (ap option_copied_mut c.unwrap-ring.ensures) ∙ c.get_mut.ensures.value in
    let same = same_uses s.rings c.args.r (record { uses = c.reserve.new.self }) c.requires.ring (c.reserve.ensures.items ∙ ap uses_in is) in
    whole_same s (record s { arcs = c.learn.new.arcs; rings = with_value s.rings c.args.r (record { uses = c.reserve.new.self }) }) c.learn.ensures.paths c.in_err-learn.ensures.err same (λ j m x. x) c.requires.whole
