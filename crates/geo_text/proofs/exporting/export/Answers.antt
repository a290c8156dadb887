use Rattle.kit_words.proofs.Common.{◌≤◌, length, arith}
use Rattle.topo_reader.specs.Common.{document_of, view_raw}
use Rattle.geo_text.specs.Text.{geo_text}
use Rattle.geo_text.specs.Wants.{view_asked}
use Rattle.geo_text.proofs.NearFaults.{FailsBy, near_not_whole, near_out_of_range, text_by}
use Rattle.geo_text.proofs.Refusing.{refused}
use Rattle.geo_text.proofs.ShortTexts.{texts_short}
use Rattle.geo_text.proofs.exporting.export.Goals as goal

pub overflow_add-result : goal.overflow_add-result
overflow_add-result g c =
    let bytes = c.args.bytes.now in
    let wants = view_asked c.args.asked in
    let d = document_of (view_raw c.in-Ok.raw) in
    let opens = c.in-Ok.ensures.opened in
    let all : FailsBy (length bytes) (geo_text wants d) = text_by (length bytes) wants d (texts_short bytes d c.in-Ok.ensures.reads.0) in
    let near : c.in-PointNotWhole.place ≤ length bytes =
    near_not_whole (length bytes) (geo_text wants d) c.in-Err-send_layer.fault c.in-PointNotWhole.point c.in-PointNotWhole.place c.in-PointNotWhole.is c.in-Err-send_layer.ensures.fault all in
    omega (arith, near, c.in_ok-from-in-PointNotWhole.ensures.within, opens.short)

pub overflow_add-result-in-PointOutOfRange : goal.overflow_add-result-in-PointOutOfRange
overflow_add-result-in-PointOutOfRange g c =
    let bytes = c.args.bytes.now in
    let wants = view_asked c.args.asked in
    let d = document_of (view_raw c.in-Ok.raw) in
    let opens = c.in-Ok.ensures.opened in
    let all : FailsBy (length bytes) (geo_text wants d) = text_by (length bytes) wants d (texts_short bytes d c.in-Ok.ensures.reads.0) in
    let near : c.in-PointOutOfRange.place ≤ length bytes =
    near_out_of_range (length bytes) (geo_text wants d) c.in-Err-send_layer.fault c.in-PointOutOfRange.point c.in-PointOutOfRange.place c.in-PointOutOfRange.is c.in-Err-send_layer.ensures.fault all in
    omega (arith, near, c.in_ok-from-in-PointOutOfRange.ensures.within, opens.short)

pub returns : goal.returns
returns g c =
    let e = c.in-Err-send_layer.fault in
    record {
      written = tt;
      refused = refused (view_asked c.args.asked) c.args.bytes.now (view_raw c.in-Ok.raw) c.in-Ok.ensures.opened e
          c.in_default-fault.not-PointNotWhole c.in_default-fault.not-PointOutOfRange c.in-Err-send_layer.ensures.fault;
      stands = c.in-Err-send_layer.ensures.stands;
    }
