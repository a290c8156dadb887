-- The words of this crate that others cite most, passed on from one place. Declares nothing.
pub use Rattle.json_spans.specs.Blocks.{is_calm, is_escaped, is_odd, is_quote, is_stop, is_unclosed, is_unquoted, turned}
pub use Rattle.json_spans.specs.Bytes.{is_ascii, is_digit, is_e, is_escape, is_four, is_hex, is_nonzero, is_sign}
pub use Rattle.json_spans.specs.Bytes.{is_space, is_tail, is_tail_e0, is_tail_ed, is_tail_f0, is_tail_f4, is_three}
pub use Rattle.json_spans.specs.Bytes.{is_two, is_unescaped}
pub use Rattle.json_spans.specs.Decoded.{decoded}
pub use Rattle.json_spans.specs.Grammar.{Chars, Digits, Exponent, Fraction, Items, Json, Members, MoreItems}
pub use Rattle.json_spans.specs.Grammar.{MoreMembers, Named, Number, Signed, SomeDigits, SomeItems, SomeMembers, Space}
pub use Rattle.json_spans.specs.Grammar.{Unsigned, Value, ascii, code, digit, digit_first, digits, escape, exponent}
pub use Rattle.json_spans.specs.Grammar.{four, four_f0, four_f4, fraction, item, json, list, list_end, member, minus}
pub use Rattle.json_spans.specs.Grammar.{name, next_item, next_member, no, no_digit, no_exponent, no_fraction, no_item}
pub use Rattle.json_spans.specs.Grammar.{no_member, no_space, null, number, object, object_end, plain_number, quote}
pub use Rattle.json_spans.specs.Grammar.{sign, some_items, some_members, space, text, three, three_e0, three_ed, two}
pub use Rattle.json_spans.specs.Grammar.{unsigned, yes, zero_first}
pub use Rattle.json_spans.specs.Inside.{Below, Bracketed, HasItems, HasMembers, IsList, IsListFor, IsListOf, IsListWith}
pub use Rattle.json_spans.specs.Inside.{IsNull, IsNumber, IsObjectOf, IsText, IsValue, ItemsAreValues, ListOf}
pub use Rattle.json_spans.specs.Inside.{MembersAreValues, ObjectOf, OnlyItems, OnlyMembers, Padded, Pair, Parted}
pub use Rattle.json_spans.specs.Inside.{last_part, next_part, no_part, padded, pair, parts, quoted}
pub use Rattle.json_spans.specs.Kinds.{IsKind, kind_by, kind_from, kind_of}
pub use Rattle.json_spans.specs.Left.{node}
pub use Rattle.json_spans.specs.Machine.{Verdict, at_end, begins, closes_text, first_in, follows, goes, good, lead}
pub use Rattle.json_spans.specs.Machine.{max_depth, may_end, moved, only, rest_of, step, string_step, too_deep, top_of}
pub use Rattle.json_spans.specs.Machine.{verdict, word_step}
unfoldable pub use Rattle.json_spans.specs.Machine.{run}
pub use Rattle.json_spans.specs.Nodes.{Node}
pub use Rattle.json_spans.specs.Pairs.{nodes}
pub use Rattle.json_spans.specs.Parts.{after_comma, closes, has_first, if_more, one_longer, opens, parts_left}
pub use Rattle.json_spans.specs.Parts.{skip_step}
unfoldable pub use Rattle.json_spans.specs.Parts.{part_len, parts_from}
pub use Rattle.json_spans.specs.Trimmed.{before_spaces, spaces_before, spaces_behind, trimmed}
pub use Rattle.json_spans.specs.Walk.{items, items_left, member_of, members, members_left, name_of, raw_parts, value_of}
pub use Rattle.json_spans.specs.Whole.{IsWhole, Means, NoFraction, digits_len, held, is_whole_rest, is_zero, negative}
pub use Rattle.json_spans.specs.Whole.{no_point, plain, point, signed, whole_digits, whole_of}
unfoldable pub use Rattle.json_spans.specs.Whole.{value_from}
pub use Rattle.json_spans.specs.declared.kinds.Kind.{Kind}
pub use Rattle.json_spans.specs.declared.machine.Frame.{Frame}
pub use Rattle.json_spans.specs.declared.machine.Mode.{Mode}
pub use Rattle.json_spans.specs.declared.machine.Move.{Move}
pub use Rattle.json_spans.specs.declared.machine.Move.TheVariants.{Closes, Fails, Goes, Opens}
pub use Rattle.json_spans.specs.declared.machine.Within.{Within}
pub use Rattle.json_spans.specs.declared.machine.Within.TheVariants.{AfterE0, AfterEd, AfterF0, AfterF4, Escape, Hex1}
pub use Rattle.json_spans.specs.declared.machine.Within.TheVariants.{Hex2, Hex3, Hex4, Tail1, Tail2, Tail3}
pub use Rattle.json_spans.specs.declared.number.NotWhole.{NotWhole}
pub use Rattle.json_spans.specs.declared.number.NotWhole.TheVariants.{Form, Huge}
pub use Rattle.json_spans.specs.declared.parts.Skip.{Skip}
pub use Rattle.json_spans.specs.declared.parts.Skip.TheVariants.{Escaped, Plain, Quoted}
pub use Rattle.json_spans.specs.declared.span.Span.{Span}
