use Rattle.kit_words.proofs.Common.{◌≡◌, ap, ◌∙◌, refl, subst, Option, Some, List, [], ◌∷◌, ◌++◌, map, reverse}
use Rattle.kit_words.proofs.Common.{reverse-append, map-append}
use Rattle.edit_records.specs.Records as made
use Rattle.ring_store.specs.declared.removal.Removal.{Removal}
use Rattle.arc_store.specs.Common.{IsLeftOut, left_out, removal_seen, thinning_record, State}
use Rattle.arc_store.proofs.map.Map.raw_thin.Goals as goal

-- the record begins with the vertex that was left out last
thinned_more : (rs : List Removal) (r : Removal)
    → thinning_record (rs ++ r ∷ []) ≡ Some (made.Thinned (removal_seen r ∷ left_out (thinning_record rs)))
thinned_more [] r = refl
thinned_more (x ∷ rs) r =
    ap (λ z. Some (made.Thinned z))
    (ap reverse (map-append removal_seen (x ∷ rs) (r ∷ [])) ∙ reverse-append (map removal_seen (x ∷ rs)) (removal_seen r ∷ []))

-- as it is kept after room was made and the vertex came to the others
newest_first : {rs grown pushed : List Removal} {r : Removal} {was kept : Option made.Record}
    → thinning_record rs ≡ was → grown ≡ rs → pushed ≡ grown ++ r ∷ [] → kept ≡ thinning_record pushed
    → kept ≡ Some (made.Thinned (removal_seen r ∷ left_out was))
newest_first {rs = rs} {r = r} handed room more is =
    is ∙ ap thinning_record (more ∙ ap (λ xs. xs ++ r ∷ []) room) ∙ thinned_more rs r
    ∙ ap (λ o. Some (made.Thinned (removal_seen r ∷ left_out o))) handed

pub returns-in-Ok-clause-recorded : goal.returns-in-Ok-clause-recorded
returns-in-Ok-clause-recorded g c = (
  removal_seen c.in-Ok.removal,
  newest_first c.take_thinned-removals.ensures.handed c.reserve.ensures.items c.push_reserved.ensures.items (ap (λ z. z.last) c.keep_thinned-in-Ok.ensures),
  subst (λ (z : State). IsLeftOut z.doc c.args.p (removal_seen c.in-Ok.removal)) c.take_thinned-removals.ensures.taken c.in-Ok.ensures.left,
)
