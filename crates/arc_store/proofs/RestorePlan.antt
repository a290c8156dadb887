-- What a record says of the way back, as the changes of the tables ask it.
use Rattle.kit_words.proofs.Common.{◌≡◌, ◌<◌, ℕ, List, [], ◌∷◌, Option, None, sym, ap, ◌∙◌, subst, AllByRecursion}
use Rattle.grid_geometry.specs.Common.{Position}
use Rattle.ring_machine.specs.Common.{Document, Feature}
use Rattle.edit_records.specs.Common.{LayerTree, exchanged, Record, Moved, Inserted, Exchanged, back, IsMap, AreChanged}
use Rattle.edit_records.specs.Common.{Undoes}
use Rattle.topo_outline.specs.Common.{KeepsTexts}
use Rattle.arc_store.specs.Common.{IsMovable, IsLeavable, MayExchange, State}

module _ (trees : List LayerTree) (next : ℕ) (d : Document) where
  pub movable_back : (p q : Position) → Undoes trees next d (Moved p q) → IsMovable d q p
  unfolding back
  movable_back p q u = record { vertex = u.fits.vertex; free = u.fits.free; apart = u.map.proper.apart }

  pub leavable_back : (q : Position) → Undoes trees next d (Inserted q) → IsLeavable d q
  unfolding back
  leavable_back q u = record {
    vertex = u.fits.vertex;
    inner = u.fits.inner;
    long = u.fits.long;
    unjoined = u.fits.unjoined;
    apart = u.map.proper.apart;
  }

-- ---- after the edit began

module _ (old : State) {began : State} (begun : began ≡ record old { tests = 0; last = None }) {r s : Record} (same : r ≡ s) where
  pub undoes_began : Undoes old.places old.next old.doc r → Undoes began.places began.next began.doc s
  undoes_began u =
      subst (λ (m : State). Undoes m.places m.next m.doc s) (sym begun)
      (subst (Undoes old.places old.next old.doc) same u)

  pub texts_began : {d : Document} → d ≡ back began.places s began.doc → KeepsTexts (back old.places r old.doc) → KeepsTexts d
  texts_began is t =
      subst KeepsTexts (ap (λ (m : State). back m.places s m.doc) (sym begun) ∙ sym is)
      (subst (λ z. KeepsTexts (back old.places z old.doc)) same t)

  pub map_began : {d : Document} → d ≡ back began.places s began.doc → Undoes old.places old.next old.doc r → IsMap d
  map_began is u = subst IsMap (sym is) (undoes_began u).map

  -- the document before is the map's again
  pub restored : {new : State} {d : Document} → d ≡ back began.places s began.doc → new ≡ record began { doc = d }
      → new ≡ record old { doc = back old.places r old.doc; tests = 0; last = None }
  restored is now =
      now ∙ ap (λ z. record began { doc = z }) is
      ∙ ap (λ (m : State). record m { doc = back m.places s m.doc }) begun
      ∙ ap (λ z. record old { doc = back old.places z old.doc; tests = 0; last = None }) (sym same)

-- ---- features exchanged

below_each : (next : ℕ) (cs : List (ℕ × Option Feature)) → AreChanged next cs → AllByRecursion (λ c. c.0 < next) cs
below_each next [] h = tt
below_each next (c ∷ cs) h = (h.0, below_each next cs h.2)

pub may_back : (now : State) (cs : List (ℕ × Option Feature)) → Undoes now.places now.next now.doc (Exchanged cs)
    → KeepsTexts (exchanged now.places cs now.doc) → MayExchange None cs now
unfolding back
may_back now cs u keeps = record {
  apart = u.fits.0;
  below = below_each now.next cs u.fits.1;
  grows = tt;
  is_map = u.map;
  texts = keeps;
}
