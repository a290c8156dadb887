-- The plan of a merge: the rings of both features, and what is asked of the exchange.
use Rattle.kit_words.proofs.Common.{◌≡◌, ◌<◌, ℕ, true, sym, ap, ap₂, ◌∙◌, subst, List, [], ◌∷◌, length, get_or, Option}
use Rattle.kit_words.proofs.Common.{Some, None, is_some, arith, Vec, length-map}
use Rattle.grid_geometry.specs.Common.{Position}
use Rattle.ring_machine.specs.Common.{Document, Feature, has_feature, join, first_of, merge_refusals, feature_at}
use Rattle.ring_machine.specs.Common.{or_else, no_feature}
use Rattle.ring_machine.proofs.Common.{formed-join, has_feature-found, MergeAccepted, merge-accepted}
use Rattle.ring_machine.proofs.MergeProper.{merge_is_proper}
use Rattle.ring_parts.specs.Common.{joined_rings, rings_seen, polygons_seen}
use Rattle.edit_records.specs.Common.{exchanged, IsMap}
use Rattle.topo_outline.specs.Common.{KeepsTexts}
use Rattle.topo_outline.proofs.Common.{keeps-join}
use Rattle.map_frame.specs.Common.{ArePlaced}
use Rattle.arc_store.specs.Common.{MayExchange, asked_document, feature_with, State}
use Rattle.arc_store.proofs.ChangesCounted.{two_apart}
use Rattle.arc_store.proofs.JoinParted.{merged, merge_made, join_size, merged_short, differ}
use Rattle.arc_store.proofs.PlacedMap.{there_below}

module _ (d : Document) (n m : ℕ) (asked : first_of (merge_refusals d n m) ≡ None) where
  a : MergeAccepted d n m
  a = merge-accepted d n m asked

  first_is : (feature_at d n).polygons ≡ (a.pair_is.r ∷ a.pair_is.holes) ∷ []
  first_is = ap (λ o. (or_else no_feature o).polygons) a.first_is ∙ a.pair_is.first

  second_is : (feature_at d m).polygons ≡ (a.pair_is.s ∷ a.pair_is.more) ∷ []
  second_is = ap (λ o. (or_else no_feature o).polygons) a.second_is ∙ a.pair_is.second

  -- both are there
  pub first_has : has_feature d n ≡ true
  first_has = has_feature-found d n ∙ ap is_some a.first_is

  second_has : has_feature d m ≡ true
  second_has = has_feature-found d m ∙ ap is_some a.second_is

  -- each has a polygon
  pub first_there : {A : Type 0} (ps : List (Vec (Vec Position A) A))
      → polygons_seen ps ≡ (feature_at d n).polygons → 0 < length ps
  first_there {A} ps e = omega (
    arith,
    ap length (e ∙ first_is),
    length-map ps (λ (p : Vec (Vec Position A) A). rings_seen p.items),
  )

  pub second_there : {A : Type 0} (ps : List (Vec (Vec Position A) A))
      → polygons_seen ps ≡ (feature_at d m).polygons → 0 < length ps
  second_there {A} ps e = omega (
    arith,
    ap length (e ∙ second_is),
    length-map ps (λ (p : Vec (Vec Position A) A). rings_seen p.items),
  )

-- ---- what is asked of the exchange

module _ (st : State) (n m : ℕ) (asked : first_of (merge_refusals st.doc n m) ≡ None) (placed : ArePlaced st.places st.next st.doc)
    (is_map : IsMap st.doc) (keeps : KeepsTexts st.doc) (made : List (List Position))
    (w : made ≡ joined_rings (get_or (feature_at st.doc n).polygons 0 []) (get_or (feature_at st.doc m).polygons 0 [])) where
  -- n with these rings, and m taken out
  abbrev asked_for : List (ℕ × Option Feature)
  asked_for = (n, Some (feature_with st.doc n (made ∷ []))) ∷ (m, None) ∷ []

  abbrev accepted : MergeAccepted st.doc n m
  accepted = a st.doc n m asked

  made_is : made ≡ merged st.doc n m is_map.formed accepted
  made_is =
      w ∙ ap₂ joined_rings (ap (λ z. get_or z 0 []) (first_is st.doc n m asked)) (ap (λ z. get_or z 0 []) (second_is st.doc n m asked))

  pub merge_is : asked_document None asked_for st ≡ join st.doc n (feature_at st.doc m)
  merge_is =
      ap (λ z. exchanged st.places ((n, Some (feature_with st.doc n (z ∷ []))) ∷ (m, None) ∷ []) st.doc) made_is
      ∙ merge_made st.doc n m is_map.formed accepted st.places placed.fills placed.formed

  join_map : IsMap (join st.doc n (feature_at st.doc m))
  join_map = record {
    proper = merge_is_proper st.doc n m is_map.formed is_map.proper asked;
    formed = formed-join st.doc n (feature_at st.doc m) is_map.formed;
    small = omega (arith, join_size st.doc n m is_map.formed accepted, merged_short st.doc n m is_map.formed accepted, is_map.small);
  }

  pub merge_may : MayExchange None asked_for st
  merge_may = record {
    apart = two_apart n m (differ n m accepted.differ);
    below = (
      there_below st.places st.next st.doc placed n (first_has st.doc n m asked),
      (there_below st.places st.next st.doc placed m (second_has st.doc n m asked), tt),
    );
    grows = tt;
    is_map = subst IsMap (sym merge_is) join_map;
    texts = subst KeepsTexts (sym merge_is) (keeps-join st.doc n (feature_at st.doc m) keeps);
  }
