-- The end of a collection.
use Rattle.kit_words.proofs.Common.{◌≡◌, ◌++◌, ◌∙◌, ◌∷◌, [], List, ap, refl, sym, subst, Result, Ok, Err, Bor}
use Rattle.ring_machine.specs.Common.{Head, Text}
use Rattle.topo_outline.specs.Common.{view_head}
use Rattle.topo_outline.specs.declared.document.Head.{Head as CodeHead}
use Rattle.geo_features.specs.declared.fault.ExportFault.{ExportFault}
use Rattle.geo_features.specs.Faults.{GeoFault, ◌>>=◌}
use Rattle.geo_features.specs.Features.{collection_end}
use Rattle.geo_features.specs.Gives.{IsGeoFault}
use Rattle.geo_text.specs.Items.{after_text, close_text}
use Rattle.geo_features.specs.Names.{not_of_feature}
use Rattle.geo_text.specs.Seen.{open_heads}
use Rattle.geo_features.proofs.Carrying.{carry}
use Rattle.geo_text.proofs.Opened.{heads_push}

-- the second of two is at fault
pub stops_last : (e : ExportFault) (r a : Result Text GeoFault) (x : Text) → r ≡ Ok x → IsGeoFault e a → IsGeoFault e (r >>= λ x. a >>= λ y. Ok (x ++ y))
stops_last e r a x is h = carry e a (r >>= λ x. a >>= λ y. Ok (x ++ y)) (λ f fx. rw (is, fx) refl) h

module _ {A : Type 0} (heads : List (Bor (CodeHead A))) (h : Bor (CodeHead A)) (all : List (Bor (CodeHead A))) (is : all ≡ heads ++ h ∷ []) where
  heads_are : open_heads all ≡ view_head h.now ∷ open_heads heads
  heads_are = ap open_heads is ∙ heads_push heads h

  -- the text of its end
  close_is : close_text (open_heads all)
      ≡ (collection_end (view_head h.now).members >>= λ end. after_text (open_heads heads) not_of_feature (view_head h.now).members >>= λ after. Ok (end ++ after))
  close_is = ap close_text heads_are

  -- it is at fault behind its bracket
  pub close_stops : (e : ExportFault) (x : Text) → collection_end (view_head h.now).members ≡ Ok x
      → IsGeoFault e (after_text (open_heads heads) not_of_feature (view_head h.now).members) → IsGeoFault e (close_text (open_heads all))
  close_stops e x is after =
      subst (IsGeoFault e) (sym close_is)
      (stops_last e (collection_end (view_head h.now).members) (after_text (open_heads heads) not_of_feature (view_head h.now).members) x is after)
