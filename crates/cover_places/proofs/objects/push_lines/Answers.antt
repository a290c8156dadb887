use Rattle.kit_words.proofs.Common.{◌≡◌, arith, refl, sym, ap, ◌∙◌, ◌+◌, ◌++◌, map, codes, appended_three}
use Rattle.std.specs.List.{range_with_len}
use Rattle.std.proofs.Common.{append-nil}
use Rattle.std.proofs.lemmas.List.FromFn.{length-map-range_with_len, map-range_with_len_more}
use Rattle.map_text.specs.Common.{commas}
use Rattle.cover_places.specs.Text.{line_text}
use Rattle.cover_places.proofs.Listed.{text_step}
use Rattle.cover_places.proofs.objects.push_lines.Goals as goal

pub loop-index-init : goal.loop-index-init
loop-index-init g c = c.in_ok-extend_from_slice.ensures.items ∙ sym (append-nil (c.args.text.now.items ++ codes "["))

pub loop-index-preserved : goal.loop-index-preserved
loop-index-preserved g c =
    let first = c.args.first in
    let i = c.loop-index.index in
    text_step (map line_text (range_with_len first i)) (map line_text (range_with_len first (i + 1))) (line_text (first + i)) i
    (map-range_with_len_more line_text first i (first + i) refl) (length-map-range_with_len line_text first i)
    (c.args.text.now.items ++ codes "[") c.loop-index.text.items c.push_comma.new.text.items c.push_line.new.text.items
    c.loop-index.invariant c.in_ok-push_comma.ensures c.in_ok-push_line.ensures

pub returns : goal.returns
returns g c =
    let begun = c.args.text.now.items ++ codes "[" in
    let all : c.loop-index.index ≡ c.args.count = omega arith in
    appended_three c.args.text.now.items (codes "[") (commas (map line_text (range_with_len c.args.first c.args.count))) (codes "]") begun c.loop-index.text.items _ refl
    (c.loop-index.invariant ∙ ap (λ n. begun ++ commas (map line_text (range_with_len c.args.first n))) all)
    c.in_ok-extend_from_slice-2.ensures.items
