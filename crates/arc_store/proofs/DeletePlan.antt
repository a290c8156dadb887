-- The plan of a deletion: what is asked of the exchange.
use Rattle.kit_words.proofs.Common.{◌≡◌, ℕ, true, refl, sym, subst, List, [], ◌∷◌, Option, None, arith}
use Rattle.ring_machine.specs.Common.{Feature, has_feature, take_out}
use Rattle.ring_machine.proofs.Common.{formed-take_out, proper-take_out}
use Rattle.edit_records.specs.Common.{IsMap}
use Rattle.edit_records.proofs.Common.{take_out-made}
use Rattle.topo_outline.specs.Common.{KeepsTexts}
use Rattle.topo_outline.proofs.Common.{keeps-take_out}
use Rattle.map_frame.specs.Common.{ArePlaced}
use Rattle.arc_store.specs.Common.{MayExchange, asked_document, State}
use Rattle.arc_store.proofs.FeaturesKept.{gone_size}
use Rattle.arc_store.proofs.PlacedMap.{there_below}

module _ (st : State) (n : ℕ) (placed : ArePlaced st.places st.next st.doc) where
  -- what is asked for
  abbrev asked_for : List (ℕ × Option Feature)
  asked_for = (n, None) ∷ []

  pub deleted_is : asked_document None asked_for st ≡ take_out st.doc n
  deleted_is = take_out-made st.places st.doc n placed.fills placed.formed

  pub deleted_may : IsMap st.doc → KeepsTexts st.doc → has_feature st.doc n ≡ true → MayExchange None asked_for st
  deleted_may is_map keeps there = record {
    apart = refl;
    below = (there_below st.places st.next st.doc placed n there, tt);
    grows = tt;
    is_map = subst IsMap (sym deleted_is) (record {
      proper = proper-take_out st.doc n is_map.proper;
      formed = formed-take_out st.doc n is_map.formed;
      small = omega (arith, gone_size st.doc is_map.formed n, is_map.small);
    });
    texts = subst KeepsTexts (sym deleted_is) (keeps-take_out st.doc n keeps);
  }
