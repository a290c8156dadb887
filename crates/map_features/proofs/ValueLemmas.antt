-- Where a text is cut, a byte at a time.
use Rattle.kit_words.proofs.Common.{◌≡◌, ◌<◌, ◌≤◌, ◌-◌, ℕ, zero, suc, List, true, false, arith, get_or, refl}
use Rattle.json_spans.specs.Common.{is_tail}
use Rattle.map_features.specs.Values.{cut_end}

pub cut_step : (words : List ℕ) (end : ℕ) → 0 < end → is_tail (get_or words end 0) ≡ true → cut_end words (end - 1) ≡ cut_end words end
unfolding cut_end
cut_step words zero h tail = absurd (omega arith)
cut_step words (suc n) h tail =
    let before : suc n - 1 ≡ n = omega arith in
    rw (before, tail)

pub cut_stop : (words : List ℕ) (end : ℕ) → is_tail (get_or words end 0) ≡ false → cut_end words end ≡ end
unfolding cut_end
cut_stop words zero tail = refl
cut_stop words (suc n) tail = rw tail

pub cut_none : (words : List ℕ) (end : ℕ) → end ≤ 0 → cut_end words end ≡ end
unfolding cut_end
cut_none words zero h = refl
cut_none words (suc n) h = absurd (omega arith)
