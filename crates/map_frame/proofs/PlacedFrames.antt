-- What is true of the places of every frame, and of tables whose lists were only moved.
use Rattle.kit_words.proofs.Common.{◌≡◌, ◌<◌, ◌≤◌, ℕ, refl, sym, ap, ◌∙◌, subst, List, length, slice_set, Option, Some}
use Rattle.kit_words.proofs.Common.{None, option_map, slice_get, Vec, ◌==◌, list_any, AllByRecursion, Decides-eqb}
use Rattle.kit_words.proofs.Common.{set-get_or, get_or_from_slice_get}
use Rattle.ring_machine.specs.Common.{Text, FeatureOf, features, feature, WellFormed, are_distinct}
use Rattle.ring_machine.proofs.Common.{any_in, in_any, in_recursion}
use Rattle.edit_records.specs.Common.{LayerTree, numbers_placed}
use Rattle.edit_records.proofs.Common.{filled-agree}
use Rattle.map_frame.specs.Common.{Feature, Stand, Tables, IsFramed, all_numbers, live, AreNamed, ArePlaced, id_or}
use Rattle.map_frame.specs.Common.{framed, doc_of, places_of, view_feature}
use Rattle.map_frame.proofs.EditedStands.{entry_is}
use Rattle.map_frame.proofs.PlacesSeen.{entry, layers_filled, layers_formed, layers_placed}
use Rattle.map_frame.proofs.ReadFeatures.{number_stands}

pub all_placed : {A : Type 0} (t : Tables A) → IsFramed t
    → ArePlaced (places_of t.layers.items) (length t.features.items) (doc_of t)
all_placed t k = record {
  fills = layers_filled t.features.items t.layers.items
      ∙ filled-agree (entry t.features.items) (feature (doc_of t)) trees (λ m i. sym (entry_is t k m));
  formed = layers_formed t.layers.items k.enclosed;
  alone = ap are_distinct placed ∙ k.once;
  placed = λ n l.
      ap (list_any (λ m. m == n)) placed
      ∙ in_any (λ m. m == n) n (all_numbers t.layers.items) (number_stands t k n l) ((Decides-eqb n n).1 refl);
  known = λ n h.
      let a = any_in (λ m. m == n) (all_numbers t.layers.items) (sym (ap (list_any (λ m. m == n)) placed) ∙ h) in
      subst (λ z. z < length t.features.items) ((Decides-eqb a.0 n).0 a.2)
      (in_recursion (λ m. m < length t.features.items) (all_numbers t.layers.items) a.0 k.below a.1);
}
  where
    trees : List LayerTree
    trees = places_of t.layers.items

    placed : numbers_placed (places_of t.layers.items) ≡ all_numbers t.layers.items
    placed = layers_placed t.layers.items

-- ---- the same lists, in other memory

module _ {A : Type 0} (t : Tables A) (fs' : Vec (Option (Feature A)) A) (ss' : Vec Stand A)
    (features' : fs'.items ≡ t.features.items) (stands' : ss'.items ≡ t.stands.items) where
  abbrev moved : Tables A
  moved = record t { features = fs'; stands = ss' }

  pub moved_framed : framed moved ≡ framed t
  moved_framed = rw features' refl

  pub moved_kept : IsFramed t → IsFramed moved
  moved_kept k = record {
    formed = subst (λ d. WellFormed d) (sym same) k.formed;
    enclosed = k.enclosed;
    once = k.once;
    below = subst (λ z. AllByRecursion (λ n. n < z) (all_numbers t.layers.items)) (ap length (sym features')) k.below;
    alike = ap length stands' ∙ k.alike ∙ ap length (sym features');
    standing = λ n s e. k.standing n s (ap (λ z. slice_get z n) (sym stands') ∙ e);
    counted = k.counted ∙ ap (λ d. length (features d)) (sym same);
    few = subst (λ z. z ≤ 200000) (ap length (sym features')) k.few;
    named = subst (λ d. AreNamed t.names.items d) (sym same) k.named;
    empty = k.empty;
  }
    where
      same : doc_of moved ≡ doc_of t
      same = ap (λ f. f.doc) moved_framed

-- what stands there is written there
pub set_same : {X : Type 0} (xs : List X) (i : ℕ) (x : X) → slice_get xs i ≡ Some x → slice_set xs i x ≡ xs
set_same xs i x e = ap (slice_set xs i) (sym (get_or_from_slice_get xs i x x e)) ∙ set-get_or xs i x

-- ---- one feature

-- what stands in the table
pub live_is : {X : Type 0} (fs : List (Option X)) (n : ℕ) (o : Option X) → slice_get fs n ≡ Some o → live fs n ≡ o
live_is fs n o e = rw e refl

module _ {A : Type 0} (n : ℕ) where
  pub id_seen : (id : Option Text) (o : Option (Feature A)) (f : FeatureOf ℕ) → option_map (view_feature n) o ≡ Some f → id_or id o ≡ f.id
  id_seen id None f e = absurd cc
  id_seen id (Some x) f e = let same : view_feature n x ≡ f = cc in ap (λ z. z.id) same

  pub id_none : (id : Option Text) (o : Option (Feature A)) → option_map (view_feature n) o ≡ None → id_or id o ≡ id
  id_none id None e = refl
  id_none id (Some x) e = absurd cc
