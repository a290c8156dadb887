use Rattle.kit_words.proofs.Common.{ℕ, ap, subst, Contains, ◌≡◌, sym, ◌∙◌, ◌++◌, ◌∷◌, [], Some, None, IsSome, false, refl}
use Rattle.kit_words.proofs.Common.{false≢true, false_from_ne_true, option_copied_mut, on_err}
use Rattle.slab.specs.Slab.{get, Updates, with_value}
use Rattle.arc_tables.specs.Common.{Use, Arc, Ring, path_in, users_in, uses_in, including, GoesOn}
use Rattle.arc_tables.proofs.WholeLemmas.{whole_alike, listed_new}
use Rattle.arc_tables.proofs.Writes.{went_on, same_uses, same_keys}
use Rattle.arc_tables.proofs.CutLemmas.{lacks_of}
use Rattle.arc_tables.proofs.Growing.{known_goes_on, learns}
use Rattle.arc_tables.proofs.tables.Tables.start.Given.{Over}
use Rattle.arc_tables.proofs.tables.Tables.start.Goals as goal

same : (g : Over) (c : goal.After-insert_reserved g) (j : ℕ) → get c.reserve.new.self j ≡ get c.args.self.now.arcs j
same g c j = ap (λ s. get s j) c.reserve.ensures.rest_kept

vacant : (g : Over) (c : goal.After-insert_reserved g) → get c.args.self.now.arcs c.vacant_key-n.result ≡ None
vacant g c = sym (same g c c.vacant_key-n.result) ∙ c.vacant_key-n.ensures.vacant

abbrev arc : (g : Over) (c : goal.After-insert_reserved g) → Arc g.row.A.Denot
arc g c = record { keys = c.in_ok-keys.keys; rings = c.push_reserved.new.self }

updates : (g : Over) (c : goal.After-insert_reserved g) → Updates c.args.self.now.arcs c.insert_reserved.new.self c.vacant_key-n.result (Some (arc g c))
updates g c =
    let k : c.insert_reserved.result ≡ c.vacant_key-n.result = c.insert_reserved.ensures.key ∙ sym c.vacant_key-n.ensures.value in
    record {
      changed = ap (get c.insert_reserved.new.self) (sym k) ∙ c.insert_reserved.ensures.updates.changed;
      others = λ j f. c.insert_reserved.ensures.updates.others j (λ e. f (e ∙ k)) ∙ same g c j;
    }

-- the ring with its new use
abbrev more : (g : Over) (c : goal.After-insert_reserved g) → Ring g.row.A.Denot
more g c = record { uses = c.push.new.self }

went : (g : Over) (c : goal.After-insert_reserved g) → GoesOn c.args.self.now.rings (with_value c.args.self.now.rings c.args.r (more g c)) c.args.r (record { arc = c.vacant_key-n.result; back = false })
went g c =
    let is : Some c.unwrap-ring.result.now ≡ get c.args.self.now.rings c.args.r = sym (ap option_copied_mut c.unwrap-ring.ensures) ∙ c.get_mut.ensures.value in
    let u : Use = record { arc = c.vacant_key-n.result; back = false } in
    went_on c.args.self.now.rings c.args.r (more g c) u c.requires.there (c.in_ok-push.ensures.items ∙ ap (λ z. uses_in z ++ u ∷ []) is)

pub returns-clause-held : goal.returns-clause-held
returns-clause-held g c = same_keys c.args.self.now.rings c.args.r (more g c) c.requires.there

pub returns-clause-ok : goal.returns-clause-ok
returns-clause-ok g c = record {
  vacant = ap path_in (vacant g c);
  unused = λ k. lacks_of c.vacant_key-n.result _ (false_from_ne_true _ (λ h. false≢true (subst (λ o. IsSome o) (vacant g c) (c.requires.whole.known.there k c.vacant_key-n.result h))));
  path = ap path_in (updates g c).changed ∙ c.in_ok-keys.ensures.items;
  other_paths = λ j f. ap path_in ((updates g c).others j f);
  ring = (went g c).ring;
  others = (went g c).others;
}

pub returns-clause-whole : goal.returns-clause-whole
returns-clause-whole g c =
    let n = c.vacant_key-n.result in
    record {
      known = known_goes_on c.args.self.now.arcs c.insert_reserved.new.self c.args.self.now.rings (with_value c.args.self.now.rings c.args.r (more g c)) c.args.r (record { arc = n; back = false }) c.requires.whole.known
          (learns c.args.self.now.arcs c.insert_reserved.new.self n c.args.r (arc g c) (updates g c) (c.push_reserved.ensures.items ∙ ap (λ xs. xs ++ c.args.r ∷ []) c.new-rings.ensures.items ∙ ap (λ o. including c.args.r (users_in o)) (sym (vacant g c))))
          (went g c);
      listed = listed_new c.args.self.now.arcs c.insert_reserved.new.self c.args.self.now.stands.items c.note.new.stands.items n c.in_ok-keys.keys.items (ap path_in (updates g c).changed) (updates g c).others c.note.ensures.kept
          (λ k m. c.in_ok-note.ensures.noted k (subst (λ z. Contains z k) (sym c.as_slice.ensures.value) m)) c.requires.whole.listed;
    }

pub returns-in_err-note-clause-whole : goal.returns-in_err-note-clause-whole
returns-in_err-note-clause-whole g c = whole_alike c.args.self.now (record c.args.self.now { arcs = c.reserve.new.self; stands = c.note.new.stands }) (λ j. ap (λ s. get s j) c.reserve.ensures.rest_kept) (λ k. refl) c.note.ensures.kept c.requires.whole

pub returns-in_err-push-clause-err_rings : goal.returns-in_err-push-clause-err_rings
returns-in_err-push-clause-err_rings g c =
    let is : Some c.unwrap-ring.result.now ≡ get c.args.self.now.rings c.args.r = sym (ap option_copied_mut c.unwrap-ring.ensures) ∙ c.get_mut.ensures.value in
    on_err c.from_residual-in_err-push.result (same_uses c.args.self.now.rings c.args.r (record { uses = c.push.new.self }) c.requires.there (c.in_err-push.ensures.items ∙ ap uses_in is))

pub returns-in_err-push-clause-held : goal.returns-in_err-push-clause-held
returns-in_err-push-clause-held g c = same_keys c.args.self.now.rings c.args.r (record { uses = c.push.new.self }) c.requires.there

pub returns-in_err-push-clause-whole : goal.returns-in_err-push-clause-whole
returns-in_err-push-clause-whole g c =
    let s = c.args.self.now in
    let is : Some c.unwrap-ring.result.now ≡ get s.rings c.args.r = sym (ap option_copied_mut c.unwrap-ring.ensures) ∙ c.get_mut.ensures.value in
    whole_alike s (record s { arcs = c.reserve.new.self; rings = with_value s.rings c.args.r (record { uses = c.push.new.self }); stands = c.note.new.stands }) (λ j. ap (λ z. get z j) c.reserve.ensures.rest_kept)
    (same_uses s.rings c.args.r (record { uses = c.push.new.self }) c.requires.there (c.in_err-push.ensures.items ∙ ap uses_in is)) c.note.ensures.kept c.requires.whole
