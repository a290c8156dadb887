-- A feature that gets another id, or none: the tables stay, and so do the document's rings.
use Rattle.kit_words.proofs.Common.{◌≡◌, ◌≤◌, ◌↔◌, ℕ, refl, sym, ap, ap₂, ◌∙◌, cond, subst, Option, List, [], ◌∷◌, ◌++◌}
use Rattle.kit_words.proofs.Common.{map, is_some, arith, Contains, Some, ◌==◌, IsTrue, flat_map}
use Rattle.std.specs.FinMap as table
use Rattle.ring_machine.specs.Common.{FeatureOf, ItemOf, DocumentOf, Open, Close, Leaf, Kept, Text, features, rings_of}
use Rattle.ring_machine.specs.Common.{rings, size, in_item, in_feature, in_rings, Proper, WellFormed, are_distinct}
use Rattle.ring_machine.proofs.Common.{features-in_features, formed-in_rings, formed-before_rings, in_items-square}
use Rattle.ring_machine.proofs.Common.{size-renamed, proper-renamed, formed-renamed}
use Rattle.edit_records.specs.Common.{with_id, IsMap}
use Rattle.topo_outline.specs.Common.{KeepsTexts, IsJson}
use Rattle.topo_outline.proofs.Common.{keeps-in_rings, keeps-before_rings, keeps-renamed}
use Rattle.segment_index.specs.Common.{SegmentSet}
use Rattle.feature_exchange.specs.Common.{Holds, Stored, ring_under, stored_document}
use Rattle.feature_exchange.proofs.Whole.{tables_stand, map_holds}

-- the feature with this id, or none, where it has the number n
abbrev named : {R : Type 0} → ℕ → Option Text → FeatureOf R → FeatureOf R
named n id f = cond (f.number == n) (record f { id = id }) f

module _ {R : Type 0} (n : ℕ) (id : Option Text) where
  rings_same : (fs : List (FeatureOf R)) → flat_map rings_of (map (named n id) fs) ≡ flat_map rings_of fs
  rings_same [] = refl
  rings_same (f ∷ fs) = ap₂ (λ y z. y ++ z) (grind arith) (rings_same fs)

  pub rings-named : (d : DocumentOf R) → rings (with_id d n id) ≡ rings d
  rings-named d = ap (flat_map rings_of) (features-in_features (named n id) d) ∙ rings_same (features d)

-- rings changed before or after
in_rings-named : {R S : Type 0} (g : R → S) (d : DocumentOf R) (n : ℕ) (id : Option Text)
    → in_rings g (with_id d n id) ≡ with_id (in_rings g d) n id
in_rings-named {R} {S} g d n id =
    in_items-square (map (in_item (in_feature g))) (map (in_item (named n id))) (map (in_item (named n id))) (map (in_item (in_feature g))) items d
  where
    items : (is : List (ItemOf R))
        → map (in_item (in_feature g)) (map (in_item (named n id)) is)
        ≡ map (in_item (named n id)) (map (in_item (in_feature g)) is)
    items [] = refl
    items (Open h ∷ is) = ap (λ z. Open h ∷ z) (items is)
    items (Close ∷ is) = ap (λ z. Close ∷ z) (items is)
    items (Kept t ∷ is) = ap (λ z. Kept t ∷ z) (items is)
    items (Leaf f ∷ is) = ap₂ (λ y z. Leaf y ∷ z) (grind arith) (items is)

-- ---- the tables

module _ (s : Stored) (n : ℕ) (id : Option Text) where
  -- what is kept with the other id
  abbrev named_tables : Stored
  named_tables = record s { frame = with_id s.frame n id }

  pub named_document : stored_document named_tables ≡ with_id (stored_document s) n id
  named_document = in_rings-named (ring_under s) s.frame n id

  pub named_holds : (held : SegmentSet) → IsMap (with_id (stored_document s) n id) → KeepsTexts (with_id (stored_document s) n id)
      → Holds s held → Holds named_tables held
  named_holds held m keeps h =
      let same = rings-named n id s.frame in
      map_holds named_tables held (tables_stand s held h)
      (λ r. subst (λ z. Contains z r ↔ IsTrue (is_some (table.get s.rings r))) (sym same) (h.whole.named r))
      (ap are_distinct same ∙ h.whole.once)
      (formed-before_rings (ring_under s) (with_id s.frame n id) (subst WellFormed (sym named_document) m.formed))
      (keeps-before_rings (ring_under s) (with_id s.frame n id) (subst KeepsTexts (sym named_document) keeps))
      (subst Proper (sym named_document) m.proper)
      (subst (λ d. size d ≤ 4000000) (sym named_document) m.small)

-- an id that is a JSON value leaves a map one
module _ (s : Stored) (n : ℕ) (id : Text) (held : SegmentSet) (json : IsJson id) (h : Holds s held) where
  renamed_map : IsMap (with_id (stored_document s) n (Some id))
  renamed_map = record {
    proper = proper-renamed (stored_document s) n id h.proper;
    formed = formed-renamed (stored_document s) n id (formed-in_rings (ring_under s) s.frame h.formed);
    small = omega (arith, size-renamed (stored_document s) n id, h.small);
  }

  pub renamed_holds : Holds (named_tables s n (Some id)) held
  renamed_holds =
      named_holds s n (Some id) held renamed_map
      (keeps-renamed (stored_document s) n id json (keeps-in_rings (ring_under s) s.frame h.keeps)) h
