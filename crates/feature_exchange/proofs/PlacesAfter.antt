-- Where a new number is to come after a feature in a collection, it and all others have a place.
use Rattle.kit_words.proofs.Common.{◌≡◌, ◌<◌, ◌+◌, ◌||◌, ℕ, Bool, true, false, refl, sym, ap, ◌∙◌, subst, cond, List}
use Rattle.kit_words.proofs.Common.{[], ◌∷◌, ◌++◌, ◌⊎◌, inl, inr, Option, Some, None, is_some, arith, eq-eqb, eqb-true}
use Rattle.kit_words.proofs.Common.{◌==◌, IfSome, flat_map, false≢true, true_from_ne_false, flat_map-append, or_right}
use Rattle.ring_machine.specs.Common.{FeatureOf, DocumentOf, feature, is_layer}
use Rattle.ring_machine.proofs.Common.{In, in-append, in_left, in_right, among, feature_in, has_feature-found}
use Rattle.edit_records.specs.Common.{Place, Number, Tree, Alone, Places, LayerTree, filled, items_of, number_of}
use Rattle.edit_records.specs.Common.{numbers_of, numbers_placed, has_place, with_new, tree_with, grown, leaf, or_empty}
use Rattle.edit_records.proofs.Common.{fills-nowhere, place_in}
use Rattle.feature_exchange.specs.Common.{places_after, next_after, MayGrow}
use Rattle.map_frame.specs.Common.{Framed, ArePlaced}

module _ (n new : ℕ) where
  -- the number in its new list
  here_grown : (m : ℕ) → In m (flat_map number_of (with_new n new (Number m)))
  here_grown m = by (m == n) refl
    where
      by : (b : Bool) → (m == n) ≡ b
          → In m (flat_map number_of (cond b (Number n ∷ Number new ∷ []) (Number m ∷ [])))
      by true t = inl (sym (eqb-true m n t))
      by false t = inl refl

  new_grown : In new (flat_map number_of (with_new n new (Number n)))
  new_grown =
      subst (λ b. In new (flat_map number_of (cond b (Number n ∷ Number new ∷ []) (Number n ∷ [])))) (sym (eq-eqb n n refl)) (inr (inl refl))

  -- a number stays, and the new one comes where n is
  module _ (m : ℕ) where
    places_stay : (ps : List Place) → In m (flat_map number_of ps)
        → In m (flat_map number_of (flat_map (with_new n new) ps)) × (m ≡ n → In new (flat_map number_of (flat_map (with_new n new) ps)))
    places_stay [] i = absurd i
    places_stay (Number l ∷ ps) i =
        let row : flat_map number_of (flat_map (with_new n new) (Number l ∷ ps)) ≡ flat_map number_of (with_new n new (Number l)) ++ flat_map number_of (flat_map (with_new n new) ps) =
        flat_map-append number_of (with_new n new (Number l)) (flat_map (with_new n new) ps) in
        elim i [
          | inl e ↦ (
            subst (In m) (sym row) (in_left m (flat_map number_of (with_new n new (Number l))) (flat_map number_of (flat_map (with_new n new) ps))
                (subst (λ z. In m (flat_map number_of (with_new n new (Number z)))) (sym e) (here_grown m))),
            λ s. subst (In new) (sym row) (in_left new (flat_map number_of (with_new n new (Number l))) (flat_map number_of (flat_map (with_new n new) ps))
                (subst (λ z. In new (flat_map number_of (with_new n new (Number z)))) (sym (e ∙ s)) new_grown)),
          )
          | inr j ↦
              let k = places_stay ps j in (
                subst (In m) (sym row) (in_right m (flat_map number_of (with_new n new (Number l))) (flat_map number_of (flat_map (with_new n new) ps)) k.0),
                λ s. subst (In new) (sym row) (in_right new (flat_map number_of (with_new n new (Number l))) (flat_map number_of (flat_map (with_new n new) ps)) (k.1 s)),
              )
        ]
    places_stay (_ ∷ ps) i = places_stay ps i

    -- the layer is the number alone
    abbrev IsAlone : Tree → Type 0
    IsAlone (Alone l) = l ≡ m
    IsAlone (Places ps) = ⊥

    tree_stays : (t : Tree) → In m (numbers_of t)
        → In m (numbers_of (tree_with n new t)) × (IsAlone t ⊎ (m ≡ n → In new (numbers_of (tree_with n new t))))
    tree_stays (Alone l) (inl e) = (inl e, inl e)
    tree_stays (Alone l) (inr j) = absurd j
    tree_stays (Places ps) i = let k = places_stay ps i in (k.0, inr k.1)

    pub stays_grown : (trees : List LayerTree) → In m (numbers_placed trees) → In m (numbers_placed (grown n new trees))
    stays_grown [] i = absurd i
    stays_grown (l ∷ ls) i = elim (in-append m (numbers_of l.tree) (numbers_placed ls) i) [
      | inl j ↦ in_left m (numbers_of (tree_with n new l.tree)) (numbers_placed (grown n new ls)) (tree_stays l.tree j).0
      | inr j ↦ in_right m (numbers_of (tree_with n new l.tree)) (numbers_placed (grown n new ls)) (stays_grown ls j)
    ]

    -- the new number is there, or the layer is m alone
    pub comes_grown : (trees : List LayerTree) → m ≡ n → In m (numbers_placed trees)
        → In new (numbers_placed (grown n new trees)) ⊎ ((l : LayerTree) × In l trees × (l.tree ≡ Alone m))
    comes_grown [] s i = absurd i
    comes_grown (l ∷ ls) s i = elim (in-append m (numbers_of l.tree) (numbers_placed ls) i) [
      | inl j ↦ by l.tree refl (tree_stays l.tree j).1
      | inr j ↦ elim (comes_grown ls s j) [
        | inl k ↦ inl (in_right new (numbers_of (tree_with n new l.tree)) (numbers_placed (grown n new ls)) k)
        | inr w ↦ inr (w.0, inr w.1, w.2)
      ]
    ]
      where
        by : (t : Tree) → l.tree ≡ t → (IsAlone t ⊎ (m ≡ n → In new (numbers_of (tree_with n new t))))
            → In new (numbers_of (tree_with n new l.tree) ++ numbers_placed (grown n new ls)) ⊎ ((l' : LayerTree) × In l' (l ∷ ls) × (l'.tree ≡ Alone m))
        by (Alone x) e (inl a) = inr (l, inl refl, e ∙ ap Alone a)
        by (Places ps) e (inl a) = absurd a
        by t e (inr f) =
            inl (in_left new (numbers_of (tree_with n new l.tree)) (numbers_placed (grown n new ls)) (subst (λ z. In new (numbers_of (tree_with n new z))) (sym e) (f s)))

apart_below : (m k : ℕ) → m < k + 1 → (m ≡ k → ⊥) → m < k
apart_below m k l f = grind arith

-- a feature alone is a layer
alone_layer : {R : Type 0} (d : DocumentOf R) (n : ℕ) (f : FeatureOf R) → feature d n ≡ Some f → (trees : List LayerTree)
    → (l : LayerTree) → In l trees → l.tree ≡ Alone n
    → is_layer (record { transform = d.transform; layers = filled (feature d) trees; members = d.members }) n ≡ true
alone_layer d n f at [] l i e = absurd i
alone_layer {R} d n f at (k ∷ ks) l (inl s) e =
    ap (λ t. is_layer (record { transform = d.transform; layers = record { name = k.name; items = items_of (feature d) t } ∷ filled (feature d) ks; members = d.members }) n) (ap (λ (z : LayerTree). z.tree) s ∙ e)
    ∙ ap (λ o. is_layer (record { transform = d.transform; layers = record { name = k.name; items = or_empty (leaf o) } ∷ filled (feature d) ks; members = d.members }) n) at
    ∙ ap (λ b. b || is_layer (record { transform = d.transform; layers = filled (feature d) ks; members = d.members }) n)
    (eq-eqb f.number n (feature_in d n f at).1)
alone_layer d n f at (k ∷ ks) l (inr j) e =
    or_right _ _ (alone_layer d n f at ks l j e)

module _ (frame : Framed) (placed : ArePlaced frame.places frame.next frame.doc) where
  pub places_come : (after : Option ℕ) → IfSome after (MayGrow frame.doc frame.next) → (m : ℕ) → m < next_after after frame
      → has_place (places_after after frame) m ≡ true
  places_come None g m l = placed.placed m l
  places_come (Some n) g m l = by (m == frame.next) refl
    where
      grows : (o : Option (FeatureOf ℕ)) → feature frame.doc n ≡ o → In frame.next (numbers_placed (grown n frame.next frame.places))
      grows None e = absurd (false≢true (sym (has_feature-found frame.doc n ∙ ap is_some e) ∙ g.there))
      grows (Some f) e = elim (comes_grown n frame.next n frame.places refl (place_in frame.places n had)) [
        | inl i ↦ i
        | inr w ↦ absurd (false≢true (sym g.inside ∙ ap (λ z. is_layer (record { transform = frame.doc.transform; layers = z; members = frame.doc.members }) n) placed.fills ∙ alone_layer frame.doc n f e frame.places w.0 w.1 w.2))
      ]
        where
          had : has_place frame.places n ≡ true
          had = true_from_ne_false _ (λ h. let none : None ≡ Some f = sym (fills-nowhere frame.places frame.doc placed.fills n h) ∙ e in cc)

      by : (b : Bool) → (m == frame.next) ≡ b → has_place (grown n frame.next frame.places) m ≡ true
      by true t =
          among m (numbers_placed (grown n frame.next frame.places))
          (subst (λ z. In z (numbers_placed (grown n frame.next frame.places))) (sym (eqb-true m frame.next t)) (grows (feature frame.doc n) refl))
      by false t =
          among m (numbers_placed (grown n frame.next frame.places))
          (stays_grown n frame.next m frame.places
          (place_in frame.places m (placed.placed m (apart_below m frame.next l (λ e. false≢true (sym t ∙ eq-eqb m frame.next e))))))
