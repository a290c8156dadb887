use Rattle.kit_words.proofs.Common.{◌≡◌, ◌/◌, ◌∙◌, ap, arith, ints, unsigned_abs}
use Rattle.map_features.proofs.WindowLemmas.{half_off, width_kept}
use Rattle.map_features.proofs.window.Window.about.Goals as goal

pub invariant_of-result : goal.invariant_of-result
invariant_of-result c = record {
  left = omega (arith, ints, c.x.ensures.value, c.x.ensures.range.across, c.quotient.ensures.small, c.requires.least, c.requires.most);
  lower = omega (arith, ints, c.y.ensures.value, c.y.ensures.range.upward, c.quotient-2.ensures.small, c.requires.least, c.requires.most);
  across = (omega (arith, ints, c.requires.least, c.requires.most), omega (arith, ints, c.requires.least, c.requires.most));
  upward = (omega (arith, ints, c.requires.least, c.requires.most), omega (arith, ints, c.requires.least, c.requires.most));
}

pub returns : goal.returns
returns c =
    let least = c.requires.least in
    let most = c.requires.most in
    let width = width_kept c.args.width least most in
    let half : unsigned_abs c.quotient.result ≡ unsigned_abs c.args.width / 2 = c.quotient.ensures.size ∙ ap (λ w. unsigned_abs w / 2) width in
    let half-2 : unsigned_abs c.quotient-2.result ≡ unsigned_abs c.args.width / 2 = c.quotient-2.ensures.size ∙ ap (λ w. unsigned_abs w / 2) width in
    record {
      left = half_off c.x.result c.args.middle.x c.quotient.result (unsigned_abs c.args.width / 2) c.x.ensures.value c.x.ensures.range.across
          (omega (arith, ints, c.quotient.ensures.small, least, most)) half (c.quotient.ensures.sign (omega (arith, ints, least, most)));
      lower = half_off c.y.result c.args.middle.y c.quotient-2.result (unsigned_abs c.args.width / 2) c.y.ensures.value c.y.ensures.range.upward
          (omega (arith, ints, c.quotient-2.ensures.small, least, most)) half-2 (c.quotient-2.ensures.sign (omega (arith, ints, least, most)));
      across = width;
      upward = width;
    }
