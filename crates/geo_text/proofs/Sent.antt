-- What a sink took of a text, over several calls.
use Rattle.kit_words.proofs.Common.{◌≡◌, ◌++◌, ◌∙◌, [], Bool, false, true, List, ℕ, Result, Ok, Err, take, refl, sym, Appends-nil, Appends-trans}
use Rattle.std.specs.Result.{IsErrAnd}
use Rattle.device_io.specs.Common.{Took, TookFront}
use Rattle.device_io.specs.declared.Sink as sink
use Rattle.device_io.proofs.Common.{took_both}
use Rattle.ring_machine.specs.Common.{Text}
use Rattle.geo_features.specs.declared.fault.ExportFault.{ExportFault}
use Rattle.geo_features.specs.declared.fault.ExportFault.TheVariants as fault
use Rattle.geo_text.specs.Exported.{SendsGiven, TookAll, TookSome}
use Rattle.geo_features.specs.Faults.{GeoFault, ◌>>=◌}
use Rattle.geo_features.specs.Gives.{IsGeoFault, IsSendFault, of_device}
use Rattle.geo_features.proofs.Carrying.{carry, not_device, sends_fault}

-- a fault of a call that sends stands for another
pub carry_sent : {X Y : Type 0} (e : ExportFault) (r : Result X GeoFault) (s : Result Y GeoFault)
    → ((x : GeoFault) → r ≡ Err x → s ≡ Err x) → IsSendFault e r → IsSendFault e s
carry_sent fault.Device r s h is = tt
carry_sent (fault.Open f) r s h is = carry (fault.Open f) r s h is
carry_sent fault.NoLayer r s h is = carry fault.NoLayer r s h is
carry_sent fault.SeveralLayers r s h is = carry fault.SeveralLayers r s h is
carry_sent (fault.FewDecimals asked least) r s h is = carry (fault.FewDecimals asked least) r s h is
carry_sent (fault.Nested feature) r s h is = carry (fault.Nested feature) r s h is
carry_sent (fault.PointNotWhole point place) r s h is = carry (fault.PointNotWhole point place) r s h is
carry_sent (fault.PointOutOfRange point place) r s h is = carry (fault.PointOutOfRange point place) r s h is

module _ {W : Type 0} {its : sink.Ghosts W} where
  -- before anything more was sent, a text is at fault
  pub stopped : {old now : W} {sent : Text} (e : ExportFault) (r : Result Text GeoFault) → Took its old now sent → IsGeoFault e r → TookSome its old now e r
  stopped {sent = sent} e r took is = record {
    some = sent;
    taken = took.taken;
    fault = sends_fault e r is;
    stands = took.works ∙ not_device e r is;
  }

  -- an allocation failed
  pub no_memory : {old now : W} {sent : Text} (e : ExportFault) (r : Result Text GeoFault) → Took its old now sent
      → IsSendFault e r → false ≡ of_device e → TookSome its old now e r
  no_memory {sent = sent} e r took is not = record { some = sent; taken = took.taken; fault = is; stands = took.works ∙ not }

  -- the device failed
  pub failed : {old mid new : W} {sent text : Text} (r : Result Text GeoFault) → Took its old mid sent → TookFront its true mid new text
      → TookSome its old new fault.Device r
  failed {old = old} {mid = mid} {new = new} {sent = sent} {text = text} r took front =
      let (n, within, put) = front.taken in
      record {
        some = sent ++ take n text;
        taken = Appends-trans (its.taken old) (its.taken mid) (its.taken new) sent (take n text) took.taken put;
        fault = tt;
        stands = front.stands;
      }

  -- a call after another one
  pub sends_after : {T : Type 0} (old mid new : W) {front : Text} (result : Result T ExportFault) (q r : Result Text GeoFault)
      → q ≡ Ok front → Took its old mid front → SendsGiven its mid new result r
      → SendsGiven its old new result (q >>= λ f. r >>= λ t. Ok (f ++ t))
  sends_after old mid new {front = front} (Ok x) q r is took all = record {
    text = front ++ all.text;
    is = rw (is, all.is) refl;
    took = took_both took all.took;
  }
  sends_after old mid new {front = front} (Err e) q r is took some = record {
    some = front ++ some.some;
    taken = Appends-trans (its.taken old) (its.taken mid) (its.taken new) front some.some took.taken some.taken;
    fault = carry_sent e r (q >>= λ f. r >>= λ t. Ok (f ++ t)) (λ x fx. rw (is, fx) refl) some.fault;
    stands = some.stands;
  }

  -- where a fault ends a call, as `?` hands it on
  pub sends_err : {T : Type 0} {old new : W} {r : Result Text GeoFault} (e : ExportFault) (result : Result T ExportFault)
      → IsErrAnd result (λ x. x ≡ e) → TookSome its old new e r → SendsGiven its old new result r
  sends_err e (Ok x) is p = absurd is
  sends_err e (Err y) is p = rw is p
