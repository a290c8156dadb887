-- The words of the kit that proofs cite most, passed on from one place. Declares nothing.
pub use Rattle.kit_words.proofs.Appending.{appended_five, appended_four, appended_six, appended_three, appended_two}
pub use Rattle.kit_words.proofs.Lists.{all_back, all_front, all_joined, flat_mapped_more, list_is, mapped_more}
pub use Rattle.kit_words.proofs.Lists.{all_weaker, kept_any, next_drop, nothing_left, zip_joined}
pub use Rattle.kit_words.proofs.Tests.{and_none, by_bool, le_itself, less_is, min_left, on_err, or_comm, suc_positive}
pub use Rattle.kit_words.proofs.Tests.{max_left}
pub use Rattle.std.proofs.Common.{Bool, Contains, Err, Fits, FitsSigned, IfErr, IfNone, IfOk, IfSome, IsErr, IsErrAnd}
pub use Rattle.std.proofs.Common.{IsNone, IsSome, IsSomeAnd, IsTrue, IsUtf8, List, MatchBool, MatchOption, MatchResult}
pub use Rattle.std.proofs.Common.{None, Ok, OnErr, OnOk, Option, Result, Some, T, Vec, [], add-one, ap, append_assoc}
pub use Rattle.std.proofs.Common.{ap₂, arith, below_more, codes, cond, decimal, div-le_self, drop, drop-cons}
pub use Rattle.std.proofs.Common.{drop_of_length-le, eq-eqb, eqb, eqb-true, false, get_or, if◌then◌else◌, inl, inr}
pub use Rattle.std.proofs.Common.{int_div, int_le, int_lt, is_ok, is_some, le-leb, le-ltb, leb, length, lit<, ltb, map}
pub use Rattle.std.proofs.Common.{max, min, nat_eq, nat_le, nat_lt, neg_ℤ, negsuc, not, of_z, option_map}
pub use Rattle.std.proofs.Common.{option_to_list, pos, refl, replicate, reverse, rules, set, slice_get, slice_index_or}
pub use Rattle.std.proofs.Common.{slice_range, slice_set, string_bytes, sub-one, subst, suc, sym, take, to_z, true}
pub use Rattle.std.proofs.Common.{true≢false, unsigned_abs, vec_capacity, vec_len, w64, w8, zero, ℕ, ℤ, ⊎_elim, ◌%◌}
pub use Rattle.std.proofs.Common.{◌&&◌, ◌*ℤ◌, ◌*◌, ◌++◌, ◌+ℤ◌, ◌+◌, ◌-ℤ◌, ◌-◌, ◌/◌, ◌<ℤ◌, ◌<◌, ◌==◌, ◌^◌, ◌||◌, ◌↔◌}
pub use Rattle.std.proofs.Common.{◌∙◌, ◌∷◌, ◌≡◌, ◌≢◌, ◌≤ℤ◌, ◌≤◌, ◌⊎◌}
pub use Rattle.std.proofs.KnownBytes.{Appends-nil, Appends-trans, Consumes-kept, Consumes-nil, Consumes-trans}
pub use Rattle.std.proofs.KnownBytes.{Appends-kept}
pub use Rattle.std.proofs.Math.Arith.{mod-mul}
pub use Rattle.std.proofs.Math.Nat.{div-mul-le_self, le_of_mul-le-mul_left, le_of_mul-le-mul_right, min-eq_left}
pub use Rattle.std.proofs.Math.Nat.{min-eq_right, min-le_left, mul-le-mul, mul-le-mul_left, mul-le-mul_right, mul_assoc}
pub use Rattle.std.proofs.Math.Nat.{one-le-pow, pow-le-pow_right, pow-suc, pow-succ'}
pub use Rattle.std.proofs.Math.Numerals.{one-add}
pub use Rattle.std.proofs.Math.Seq.{drop-append_seam, drop-length, get_or-append_seam, map-set_same, set-append_seam}
pub use Rattle.std.proofs.Math.Seq.{take-add, take-append-add, take-append_seam, take-length, take-suc}
pub use Rattle.std.proofs.lemmas.Bool.{agree_below, agree_below_at, and_from, and_parts, both_ways, cases_Bool, lt-leb}
pub use Rattle.std.proofs.lemmas.Bool.{cases_eq, cases_lt, cond-false, cond-true, cond_both, eqb-false, not-true}
pub use Rattle.std.proofs.lemmas.Bool.{false_from_ne_true, false≢true, leb-true, lt-ltb, ltb-true, ne_eqb, not-false}
pub use Rattle.std.proofs.lemmas.Bool.{and_left, or_cases, or_from, or_left, or_parts, or_right, true_from_ne_false}
pub use Rattle.std.proofs.lemmas.Bool.{leb-false}
pub use Rattle.std.proofs.lemmas.Bool.Decides.{Decides-eqb, Decides-int_eq, eqb_tells, nat_tests, same_from_decides}
pub use Rattle.std.proofs.lemmas.Cmp.{by_ranked, int_ranked, nat_cmp_total, nat_list_eq_equiv}
pub use Rattle.std.proofs.lemmas.Fmt.{IsAscii-decimal_wide, IsAscii-signed, decimal-digits_value, decimal_by_steps}
pub use Rattle.std.proofs.lemmas.Fmt.{decimal_is_IsNumeral_wide, parse-decimal_wide, signed_decimal_injective}
pub use Rattle.std.proofs.lemmas.Fn.{filter_same}
pub use Rattle.std.proofs.lemmas.Grind.{common_steps, pow_more}
pub use Rattle.std.proofs.lemmas.Int.{by_lt_z, clamps, fits_signed_mul, ints, quot_fits, quot_is, to_z-of_z, to_z_pos}
pub use Rattle.std.proofs.lemmas.Int.{unsigned_abs-mul}
pub use Rattle.std.proofs.lemmas.Int.Digits.{digits_more, digits_value_more}
pub use Rattle.std.proofs.lemmas.Iterator.Adapters.{option_map_id}
pub use Rattle.std.proofs.lemmas.List.{append-nil, at_drop_all, at_drop_more, drop-drop, drop-map, drop-set-lt}
pub use Rattle.std.proofs.lemmas.List.{drop_all, drop_more, get_or-append-add, get_or-drop, get_or-map, get_or-reverse}
pub use Rattle.std.proofs.lemmas.List.{get_or-set_other, get_or-set_same, get_or-take, get_or_append_left, get_or_at}
pub use Rattle.std.proofs.lemmas.List.{get_or_default, get_or_past, get_or_read, length-append, length-drop, length-map}
pub use Rattle.std.proofs.lemmas.List.{length-replicate, length-reverse, length-set, length-take, length-take-le}
pub use Rattle.std.proofs.lemmas.List.{length_push, map-append, map-id, map-set, map_more, map_push, nil_from_length}
pub use Rattle.std.proofs.lemmas.List.{reverse-append, reverse-reverse, set-get_or, set-set, take-append-drop}
pub use Rattle.std.proofs.lemmas.List.{take-append-le, take-map, take-take, take_all, take_at, take_min, take_more}
pub use Rattle.std.proofs.lemmas.List.{take_more_set, take_rest, with_items_is}
pub use Rattle.std.proofs.lemmas.List.Concat.{flat_map-append, flat_map-cons, flat_map_single}
pub use Rattle.std.proofs.lemmas.List.Edits.{map_over_more}
pub use Rattle.std.proofs.lemmas.List.Elements.{All-append, All-cons, All-contains, All-drop, All-from_recursion}
pub use Rattle.std.proofs.lemmas.List.Elements.{All-more, All-nil, All-push, All-same, All-tail, All-take}
pub use Rattle.std.proofs.lemmas.List.Elements.{Contains-append_cases, Contains-append_left, Contains-append_right}
pub use Rattle.std.proofs.lemmas.List.Elements.{Contains-push, Contains-push_cases, filter-append, filter_map-append}
pub use Rattle.std.proofs.lemmas.List.Elements.{filter_more, recursion_from_All, same_from_all_zip}
pub use Rattle.std.proofs.lemmas.List.Filters.{All-dedup, dedup_is, sum_by-filter_both}
pub use Rattle.std.proofs.lemmas.List.Folds.{drop_split, find-append, flat_map-map, length-flat_map-take}
pub use Rattle.std.proofs.lemmas.List.Folds.{length-prefix_len, list_all-append, list_all-map, list_all_at}
pub use Rattle.std.proofs.lemmas.List.Folds.{list_any-append, list_any_at, list_any_kept, list_any_more, list_any_none}
pub use Rattle.std.proofs.lemmas.List.Kept.{AllPairs-cons, AllPairs-filter, IsStrictlySortedBy-dedup}
pub use Rattle.std.proofs.lemmas.List.Kept.{IsStrictlySortedBy-filter}
pub use Rattle.std.proofs.lemmas.List.Sorted.{All-permutation, IsPermutation-reverse, IsPermutation-sym, answers_always}
pub use Rattle.std.proofs.lemmas.List.Sorted.{length_permutation, list_any-IsPermutation, ranks_by}
pub use Rattle.std.proofs.lemmas.List.Sorted.{searchable_from_sorted, searched, sorted_far, sum_by-IsPermutation}
pub use Rattle.std.proofs.lemmas.List.Sums.{fold-append, fold_push, length-filter, prefix_len-le-length, sum_by-append}
pub use Rattle.std.proofs.lemmas.List.Sums.{sum_by-cons, sum_by-drop_more, sum_by-swap_remove, sum_by-take-le}
pub use Rattle.std.proofs.lemmas.List.Sums.{sum_by_more, sum_by_more_le, sum_by_push, take_while-cons}
pub use Rattle.std.proofs.lemmas.Map.Made.{AllPairs-from_IsDistinct, IsDistinct-from_AllPairs, length-from_same_keys}
pub use Rattle.std.proofs.lemmas.Nat.{div_below, le-div, pow-add, pow_pos}
pub use Rattle.std.proofs.lemmas.Option.{get_or_from_slice_get, none-some, same_Some, slice_get-get_or, slice_get-map}
pub use Rattle.std.proofs.lemmas.Option.{slice_get_past, slice_get_read, slice_get_within, unwrap_or-slice_get}
pub use Rattle.std.proofs.lemmas.Result.{IfErr-weaker, IfOk-weaker, err_from_is_err_and, on_err_weaker, on_ok_weaker}
pub use Rattle.std.proofs.lemmas.Simd.{bitmask_splat, chunk-drop, leading_from_mask_l, length-chunk, map-map}
pub use Rattle.std.proofs.lemmas.Simd.{mask_l-mod, ones-mask_l, trailing_mask_l, zip2_splat}
pub use Rattle.std.proofs.lemmas.Slice.Eq.{bytes_eq-Decides, slice_eq-Decides}
pub use Rattle.std.proofs.lemmas.Slice.Zip.{AllZip-long, all_zipped_more}
pub use Rattle.std.proofs.lemmas.Str.{IsAscii-append, IsUtf8-append, IsUtf8-from_ascii, IsUtf8-from_is_utf8}
pub use Rattle.std.proofs.lemmas.Str.{IsUtf8-string_bytes, digit_value_digit, encode_ascii, is_utf8-from_IsUtf8}
pub use Rattle.std.specs.BTreeSet.{BTreeSet, Updates, contains, contains_text}
pub use Rattle.std.specs.Bool.{Decides, beq}
pub use Rattle.std.specs.Borrow.{Bor, MutBor}
pub use Rattle.std.specs.Char.{digit_char, digit_value}
pub use Rattle.std.specs.Cmp.{Equal-is, IsStrictWeakOrder, IsTotalOrder, Some-then, eq_by_cmp_equiv, int_cmp_total}
pub use Rattle.std.specs.Cmp.{nat_cmp_is, on_total, signed_Decides, then_total, tied_itself, tied_then, unsigned_tied}
pub use Rattle.std.specs.FinMap.{nat_cmp-IsAntisymmetric, same_map}
pub use Rattle.std.specs.FinMap.Entries.{below_all, is_sorted}
pub use Rattle.std.specs.Fmt.{signed_decimal}
unfoldable pub use Rattle.std.specs.Fmt.{digits}
pub use Rattle.std.specs.Int.{FitsUnsignedBits, IsInRange, int_div_euclid, int_max, int_min, w128}
pub use Rattle.std.specs.Io.KnownBytes.{Appends, Consumes, IsAtEnd, Keeps}
pub use Rattle.std.specs.List.{All, AllByRecursion, AllPairs, AllZip, HoldsAt, cons_option, count_by, dedup, dedup_from}
pub use Rattle.std.specs.List.{each_same, filter, filter_map, find, flat_map, fold, insert, list_all, list_any}
pub use Rattle.std.specs.List.{prefix_len, reduce, remove, sum, sum_by, swap_remove, take_while, zip}
unfoldable pub use Rattle.std.specs.List.{IsDistinct}
pub use Rattle.std.specs.List.Retain.{DiffersFromLast, IsFiltered}
pub use Rattle.std.specs.List.Sorted.{IsBinarySearchResult, IsNonDecreasingBy, IsPartitionPoint, IsPermutation}
pub use Rattle.std.specs.List.Sorted.{IsSearchInRange, IsSorted, IsSortedBy}
unfoldable pub use Rattle.std.specs.List.Sorted.{IsStrictlySortedBy}
pub use Rattle.std.specs.Option.{option_and_then, option_copied, option_copied_mut, option_or}
pub use Rattle.std.specs.Ordering.{MatchOrdering, eq_by_cmp, int_cmp, int_eq, is_eq, is_gt, is_lt, is_some_and, nat_cmp}
pub use Rattle.std.specs.Ordering.{ordering_index, ordering_reverse, ordering_then, partial_ordering_then}
pub use Rattle.std.specs.Prelude.{unwrap_or, ⊤}
pub use Rattle.std.specs.Result.{result_err}
pub use Rattle.std.specs.Slice.Iter.{iter_rest}
pub use Rattle.std.specs.Str.{IsAscii, bytes_eq}
unfoldable pub use Rattle.std.specs.Str.{is_utf8}
pub use Rattle.std.specs.Str.Parse.{AllDigits, ParsesUnsigned, digits_value}
pub use Rattle.std.specs.Vec.{with_item, with_items}
pub use Rattle.std.specs.Vec.Iter.{into_iter_items, into_iter_len}
pub use Rattle.std.specs.declared.cmp.Ordering.{Ordering}
pub use Rattle.std.specs.declared.cmp.Ordering.TheVariants.{Equal, Greater, Less}
pub use lib.Count.{count_trailing_zeros}
pub use lib.Lanes.{Each1, chunk, mask_l, top, zip2}
pub use native.Mathlib.Decide.{dec_lt, ℕ_discrete}
