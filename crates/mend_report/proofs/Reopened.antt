-- A text that was read again opens as what was saved.
use Rattle.kit_words.proofs.Common.{◌≡◌, ℕ, List, [], ◌++◌, sym, ap, ◌∙◌, subst, Some, None, Result, Ok, Err, IsErrAnd}
use Rattle.kit_words.proofs.Common.{IfErr, Appends, flat_map, flat_map-map, list_all}
use Rattle.grid_geometry.specs.Common.{Segment}
use Rattle.ring_machine.specs.Common.{Document, Feature, features, rings, rings_of, segments, is_ring, least_conflict}
use Rattle.ring_machine.specs.Common.{first_pair, Proper, Same}
use Rattle.ring_machine.specs.WellFormed.{without_numbers}
use Rattle.ring_machine.proofs.Common.{features-in_features}
use Rattle.map_text.specs.Common.{Saved, text_of}
use Rattle.topo_reader.specs.Common.{Reads, Fits}
use Rattle.topo_reader.proofs.Common.{one_reading}
use Rattle.arc_store.specs.Common.{Names}
use Rattle.arc_store.specs.declared.fault.BuildFault.{BuildFault}
use Rattle.arc_store.specs.declared.fault.BuildFault.TheVariants as build
use Rattle.mend_report.specs.declared.save_fault.SaveFault.{SaveFault}
use Rattle.mend_report.specs.declared.save_fault.SaveFault.TheVariants.{Conflict, Unopened, OutOfMemory}
use Rattle.mend_report.specs.Common.{DoesNotOpen, IsUnsaved, unbuilt, HasOpened, IsRead, OpensAgain}

-- what is read within the limits and is proper opens
pub has_opened : (bytes : List ℕ) (d e : Document) → (reading : Reads bytes d) × Fits reading → e ≡ d → Proper e → HasOpened bytes
has_opened bytes d e r same p = (d, record { reads = r.0; fits = r.1; proper = subst Proper same p })

rings_unnumbered : (d : Document) → rings (without_numbers d) ≡ rings d
rings_unnumbered d =
    ap (flat_map rings_of) (features-in_features unnumbered d) ∙ flat_map-map rings_of unnumbered (features d)
  where
    unnumbered : Feature → Feature
    unnumbered f = record f { number = 0 }

-- documents that are the same but for the numbers of their features are proper alike
same_proper : (d e : Document) → Same d e → Proper d → Proper e
unfolding first_pair
same_proper d e s p =
    let same : rings e ≡ rings d = sym (rings_unnumbered e) ∙ sym (ap rings s) ∙ rings_unnumbered d in
    record {
      are_rings = ap (list_all is_ring) same ∙ p.are_rings;
      apart = ap (λ rs. least_conflict (flat_map segments rs)) same ∙ p.apart;
    }

-- what is read within the limits is what was saved, and opens
pub opens_again : (bytes : List ℕ) (d : Document) → Saved bytes d → Proper d → IsRead bytes → OpensAgain bytes d
opens_again bytes d s p r =
    let same = subst (λ (e : Document). Same d e) (one_reading bytes s.meaning r.0 s.reads r.1) s.same in
    (r.0, record { reads = r.1; fits = r.2; proper = same_proper d r.0 same p }, same)

-- what has no reading within the limits does not open
pub never_read : (bytes : List ℕ) → ¬ ((d : Document) × (reading : Reads bytes d) × Fits reading) → ¬ HasOpened bytes
never_read bytes n h = n (h.0, (h.1).reads, (h.1).fits)

some_none : {X : Type 0} (x : X) → Some x ≡ None → ⊥
some_none x e = cc

-- what means a document with a conflict does not open
pub in_conflict : (bytes : List ℕ) (d : Document) (u : Segment × Segment) → ((e : Document) → Reads bytes e → e ≡ d)
    → first_pair d ≡ Some u → ¬ HasOpened bytes
in_conflict bytes d u only c h =
    some_none u (sym c ∙ ap first_pair (sym (only h.0 (h.1).reads)) ∙ (h.1).proper.apart)

-- what is reported of the text of a document that does not open
pub unsaved_fault : (bytes : List ℕ) (d : Document) (r : SaveFault) → bytes ≡ text_of d → DoesNotOpen bytes r → IsUnsaved d r
unsaved_fault bytes d (Conflict s t) e u = absurd u
unsaved_fault bytes d Unopened e u = subst (λ (z : List ℕ). ¬ HasOpened z) e u
unsaved_fault bytes d OutOfMemory e u = tt

-- the same, handed on
pub handed_on : {X : Type 0} (bytes : List ℕ) (d : Document) (r : SaveFault) (result : Result X SaveFault) → IsErrAnd result (λ e. e ≡ r)
    → bytes ≡ text_of d → DoesNotOpen bytes r → IfErr result (IsUnsaved d)
handed_on bytes d r (Ok x) is e u = absurd is
handed_on bytes d r (Err f) is e u = subst (IsUnsaved d) (sym is) (unsaved_fault bytes d r e u)

-- what is reported of a map that is not built
pub unbuilt_fault : (d : Document) (f : BuildFault) → Names f (first_pair d) → IsUnsaved d (unbuilt f)
unbuilt_fault d (build.Conflict s t) n = n
unbuilt_fault d build.OutOfMemory n = tt

-- what a list that was empty holds once it took the text of a document
pub taken_text : (old new : List ℕ) (d e : Document) → Appends (Some old) (Some new) (text_of d) → old ≡ [] → d ≡ e → new ≡ text_of e
taken_text old new d e h none same = h ∙ ap (λ (z : List ℕ). z ++ text_of d) none ∙ ap text_of same
