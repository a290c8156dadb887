-- Features exchanged in a map, whose rings were laid before, and then the rings of what had the
-- numbers taken out: the document, and that the map is kept.
use Rattle.kit_words.proofs.Common.{◌≡◌, ℕ, true, false, refl, sym, ap, ◌∙◌, subst, List, [], ◌∷◌, map, Option, arith}
use Rattle.kit_words.proofs.Common.{eq-eqb, get_or, inl, inr, Vec, ◌==◌, flat_map, list_all, false≢true}
use Rattle.grid_geometry.specs.Common.{Position}
use Rattle.ring_machine.specs.Common.{FeatureOf, features, in_feature, in_rings, rings, rings_of, size, is_ring}
use Rattle.ring_machine.specs.Common.{WellFormed}
use Rattle.ring_machine.specs.Planar as proper
use Rattle.ring_machine.proofs.Common.{formed-before_rings, In, in_flat, all_in, in-flat_map, in-map, none_in}
use Rattle.ring_machine.proofs.Common.{in_feature-agrees, ring_is_canonical, map_there}
use Rattle.map_frame.specs.Common.{feature_numbers, Framed}
use Rattle.edit_records.specs.Common.{exchanged, is_exchanged, IsMap}
use Rattle.edit_records.proofs.ExchangesSeen.{exchanged-rings}
use Rattle.segment_index.specs.Common.{SegmentSet}
use Rattle.topo_outline.specs.Common.{KeepsTexts}
use Rattle.topo_outline.proofs.Common.{keeps-before_rings}
use Rattle.ring_store.specs.Common.{keyed_ring}
use Rattle.feature_exchange.specs.Common.{seen, Holds, asked_rings, coming, IsReady, all_numbered, Stored, ring_under}
use Rattle.feature_exchange.specs.Common.{stored_document, rings_under, Change}
use Rattle.feature_exchange.proofs.Asked.{AreFor, for_coming, for_rings, for_seen}
use Rattle.feature_exchange.proofs.Changes.{Changes}
use Rattle.feature_exchange.proofs.Exchanges.{Exchanged, ring_stays, rings_came, exchanged_holds}
use Rattle.feature_exchange.proofs.Readied.{going, all_changes}
use Rattle.feature_exchange.proofs.Under.{under_apart}

module _ {A : Type 0} (old mid new : Stored) (h i j : SegmentSet) (frame : Framed) (cs : List (Change A))
    (ls : List (Vec (Vec ℕ A) A)) (same_frame : frame.doc ≡ old.frame) (ready : IsReady frame (all_numbered cs ls))
    (is : new.frame ≡ exchanged frame.places (all_numbered cs ls) frame.doc)
    (e : Exchanged old mid new h i j (coming (all_numbered cs ls)) (going old.frame (all_numbered cs ls)))
    (at : AreFor (keyed_ring mid.places mid.rings) cs ls)
    (are_rings : list_all is_ring (flat_map asked_rings cs) ≡ true) where
  abbrev pairs : List (ℕ × Option (FeatureOf ℕ))
  pairs = all_numbered cs ls

  changes : Changes (rings old.frame) (rings new.frame) (going old.frame pairs) (coming pairs)
  changes =
      subst (λ z. Changes (rings old.frame) (rings z) (going old.frame pairs) (coming pairs)) (sym is)
      (subst (λ z. Changes (rings z) (rings (exchanged frame.places pairs frame.doc)) (going z pairs) (coming pairs)) same_frame
      (all_changes frame pairs ready))

  -- a ring that came is as it was laid
  ring_laid : (r : ℕ) → In r (coming pairs) → ring_under new r ≡ keyed_ring mid.places mid.rings r
  ring_laid r k =
      let listed = subst (In r) (for_coming (keyed_ring mid.places mid.rings) cs ls at) k in
      let ring : is_ring (keyed_ring mid.places mid.rings r) ≡ true =
      all_in is_ring (flat_map asked_rings cs) (keyed_ring mid.places mid.rings r) are_rings
      (subst (In (keyed_ring mid.places mid.rings r)) (for_rings (keyed_ring mid.places mid.rings) cs ls at)
      (in-map (keyed_ring mid.places mid.rings) r (flat_map (λ l. flat_map (λ p. p) (feature_numbers l)) ls) listed)) in
      ap (λ (z : List (List Position)). get_or z 0 (ring_under new r))
      (rings_came old mid new h i j (coming pairs) (going old.frame pairs) e changes.was (r ∷ [])
      (λ x l. elim l [ inl s ↦ subst (λ z. In z (coming pairs)) s k | inr m ↦ absurd m ])
      (keyed_ring mid.places mid.rings r ∷ []) refl)
      ∙ ring_is_canonical (keyed_ring mid.places mid.rings r) ring

  for_new : AreFor (ring_under new) cs ls
  for_new =
      map_there (λ l. map (map (ring_under new)) (feature_numbers l)) (λ l. map (map (keyed_ring mid.places mid.rings)) (feature_numbers l)) ls
      (λ l k. map_there (map (ring_under new)) (map (keyed_ring mid.places mid.rings)) (feature_numbers l) (λ p m.
      map_there (ring_under new) (keyed_ring mid.places mid.rings) p (λ r o.
      ring_laid r (subst (In r) (sym (for_coming (keyed_ring mid.places mid.rings) cs ls at))
      (in-flat_map (λ (l : Vec (Vec ℕ A) A). flat_map (λ p. p) (feature_numbers l)) l r ls k
      (in-flat_map (λ (p : List ℕ). p) p r (feature_numbers l) m o))))))
      ∙ at

  others_stay : (f : FeatureOf ℕ) → In f (features old.frame) → is_exchanged pairs f.number ≡ false
      → in_feature (ring_under new) f ≡ in_feature (ring_under old) f
  others_stay f k off = in_feature-agrees (ring_under old) (ring_under new) f (λ r l.
      ring_stays old mid new h i j (coming pairs) (going old.frame pairs) e r (in-flat_map rings_of f r (features old.frame) k l)
      (λ m.
      let w = in_flat (λ (c : ℕ × Option (FeatureOf ℕ)). rings_under old.frame c.0) r pairs m in
      under_apart old.frame e.holds.formed e.holds.whole.once w.0.0 f k
      (λ s. false≢true (sym (none_in (λ (c : ℕ × Option (FeatureOf ℕ)). f.number == c.0) pairs w.0 off w.1) ∙ eq-eqb f.number w.0.0 s))
      r l w.2))

  pub exchanged_document : stored_document new ≡ exchanged frame.places (seen cs) (stored_document old)
  exchanged_document =
      ap (in_rings (ring_under new)) (is ∙ ap (exchanged frame.places pairs) same_frame)
      ∙ exchanged-rings (ring_under old) (ring_under new) frame.places pairs old.frame others_stay
      ∙ ap (λ z. exchanged frame.places z (stored_document old)) (for_seen (ring_under new) cs ls for_new)

  pub exchanged_map : IsMap (exchanged frame.places (seen cs) (stored_document old))
      → KeepsTexts (exchanged frame.places (seen cs) (stored_document old)) → Holds new j
  exchanged_map map_is keeps =
      exchanged_holds old mid new h i j (coming pairs) (going old.frame pairs) e changes
      (formed-before_rings (ring_under new) new.frame (subst WellFormed (sym exchanged_document) map_is.formed))
      (keeps-before_rings (ring_under new) new.frame (subst KeepsTexts (sym exchanged_document) keeps))
      (subst (λ z. proper.Proper z) (sym exchanged_document) map_is.proper)
      (omega (arith, ap size exchanged_document, map_is.small))
