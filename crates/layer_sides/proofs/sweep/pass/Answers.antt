use Rattle.kit_words.proofs.Common.{◌≡◌, ℕ, ◌-◌, ◌++◌, ◌∙◌, sym, ap, subst, length, take, drop, IsPermutation}
use Rattle.std.proofs.lemmas.List.{take_rest}
use Rattle.grid_geometry.specs.Common.{position_eq}
use Rattle.layer_sides.specs.Common.{bottom}
use Rattle.layer_sides.specs.Seen.{borders_seen, segments_seen, vertex_seen}
use Rattle.layer_sides.specs.Under.{AreApartFrom, AreBelow, AreNumbered, AreTurned, CutsAt, Rewrites, awaits, borders_at}
use Rattle.layer_sides.specs.Under.{is_odd_of, segment_at}
use Rattle.layer_sides.proofs.Passage.{apart_from, below_all, below_listed, below_rest, numbered_rest, rewrites_vertex, stands_behind}
use Rattle.layer_sides.proofs.Seeing.{length_seen}
use Rattle.layer_sides.proofs.sweep.pass.Goals as goal

pub ended_at-requires : goal.ended_at-requires
ended_at-requires g c =
    let items = c.args.borders.now.items in
    subst (λ m. AreBelow m c.args.list.now) (length_seen items ∙ sym (ap length c.as_slice.ensures.value))
    (below_listed (length (segments_seen items)) (λ i. awaits c.args.vertex.now.at (segment_at (segments_seen items) i)) c.args.list.now c.requires.awaits.exact)

pub in_order-requires : goal.in_order-requires
in_order-requires g c =
    let items = c.args.borders.now.items in
    let begun = c.args.vertex.now.begun.items in
    subst (AreBelow (length c.as_slice-2.result.now)) (sym c.as_slice-3.ensures.value)
    (subst (λ m. AreBelow m begun) (length_seen items ∙ sym (ap length c.as_slice-2.ensures.value))
    (below_listed (length (segments_seen items)) (λ i. position_eq (bottom (segment_at (segments_seen items) i)) c.args.vertex.now.at) begun c.requires.begun))

pub write_sides-requires-clause-below : goal.write_sides-requires-clause-below
write_sides-requires-clause-below g c =
    let items = c.args.borders.now.items in
    let list = c.args.list.now in
    let begun = c.in_ok-begun.begun.items in
    let to = c.in-Some.to in
    let cut = subst (λ xs. CutsAt (segments_seen xs) list c.args.vertex.now.at c.in-Some.from to) c.as_slice.ensures.value c.in-Some.ensures in
    let perm = subst (λ ks. IsPermutation ks begun) c.as_slice-3.ensures.value c.in_ok-begun.ensures.same in
    subst (λ ks. AreBelow (length items) (ks ++ take (length list - to) (drop to list))) (sym c.as_slice-4.ensures.value)
    (subst (λ ks. AreBelow (length items) (begun ++ ks)) (sym (take_rest list to))
    (subst (λ m. AreBelow m (begun ++ drop to list)) (length_seen items)
    (below_all (borders_seen items) (vertex_seen c.args.vertex.now) list begun c.in-Some.from to c.requires.segments c.requires.apart c.requires.awaits c.requires.begun cut perm)))

pub write_sides-requires-clause-below_too : goal.write_sides-requires-clause-below_too
write_sides-requires-clause-below_too g c =
    let items = c.args.borders.now.items in
    let list = c.args.list.now in
    let begun = c.in_ok-begun.begun.items in
    let from = c.in-Some.from in
    let cut = subst (λ xs. CutsAt (segments_seen xs) list c.args.vertex.now.at from c.in-Some.to) c.as_slice.ensures.value c.in-Some.ensures in
    let perm = subst (λ ks. IsPermutation ks begun) c.as_slice-3.ensures.value c.in_ok-begun.ensures.same in
    subst (AreBelow (length items)) (sym (take_rest list from))
    (subst (λ m. AreBelow m (drop from list)) (length_seen items)
    (below_rest (borders_seen items) (vertex_seen c.args.vertex.now) list begun from c.in-Some.to c.requires.segments c.requires.apart c.requires.awaits c.requires.begun cut perm from))

pub write_sides-requires-clause-apart : goal.write_sides-requires-clause-apart
write_sides-requires-clause-apart g c =
    let items = c.args.borders.now.items in
    let list = c.args.list.now in
    let begun = c.in_ok-begun.begun.items in
    let to = c.in-Some.to in
    let cut = subst (λ xs. CutsAt (segments_seen xs) list c.args.vertex.now.at c.in-Some.from to) c.as_slice.ensures.value c.in-Some.ensures in
    let perm = subst (λ ks. IsPermutation ks begun) c.as_slice-3.ensures.value c.in_ok-begun.ensures.same in
    subst (AreApartFrom (take (length list - to) (drop to list))) (sym c.as_slice-4.ensures.value)
    (subst (λ ks. AreApartFrom ks begun) (sym (take_rest list to))
    (apart_from (borders_seen items) (vertex_seen c.args.vertex.now) list begun c.in-Some.from to c.requires.segments c.requires.apart c.requires.awaits c.requires.begun cut perm))

pub write_sides-requires-clause-numbered : goal.write_sides-requires-clause-numbered
write_sides-requires-clause-numbered g c =
    let items = c.args.borders.now.items in
    let list = c.args.list.now in
    let begun = c.in_ok-begun.begun.items in
    let to = c.in-Some.to in
    let cut = subst (λ xs. CutsAt (segments_seen xs) list c.args.vertex.now.at c.in-Some.from to) c.as_slice.ensures.value c.in-Some.ensures in
    let perm = subst (λ ks. IsPermutation ks begun) c.as_slice-3.ensures.value c.in_ok-begun.ensures.same in
    subst (λ ks. AreNumbered (borders_at (borders_seen items) ks)) (sym (take_rest list to))
    (numbered_rest (borders_seen items) (vertex_seen c.args.vertex.now) list begun c.in-Some.from to c.requires.segments c.requires.apart c.requires.awaits c.requires.begun cut perm to)

pub write_sides-requires-clause-numbered_too : goal.write_sides-requires-clause-numbered_too
write_sides-requires-clause-numbered_too g c =
    let items = c.args.borders.now.items in
    let list = c.args.list.now in
    let begun = c.in_ok-begun.begun.items in
    let from = c.in-Some.from in
    let cut = subst (λ xs. CutsAt (segments_seen xs) list c.args.vertex.now.at from c.in-Some.to) c.as_slice.ensures.value c.in-Some.ensures in
    let perm = subst (λ ks. IsPermutation ks begun) c.as_slice-3.ensures.value c.in_ok-begun.ensures.same in
    subst (λ ks. AreNumbered (borders_at (borders_seen items) ks)) (sym (take_rest list from))
    (numbered_rest (borders_seen items) (vertex_seen c.args.vertex.now) list begun from c.in-Some.to c.requires.segments c.requires.apart c.requires.awaits c.requires.begun cut perm from)

pub returns-clause-rewrites : goal.returns-clause-rewrites
returns-clause-rewrites g c =
    let items = c.args.borders.now.items in
    let list = c.args.list.now in
    let begun = c.in_ok-begun.begun.items in
    let from = c.in-Some.from in
    let to = c.in-Some.to in
    let after = borders_seen c.write_sides.new.borders.items in
    let cut = subst (λ xs. CutsAt (segments_seen xs) list c.args.vertex.now.at from to) c.as_slice.ensures.value c.in-Some.ensures in
    let perm = subst (λ ks. IsPermutation ks begun) c.as_slice-3.ensures.value c.in_ok-begun.ensures.same in
    rewrites_vertex (borders_seen items) (vertex_seen c.args.vertex.now) list begun from to c.requires.segments c.requires.apart c.requires.awaits c.requires.begun cut perm after
    (subst (λ xs. AreTurned (segments_seen xs) begun) c.as_slice-2.ensures.value c.in_ok-begun.ensures.turned)
    (subst (λ ks. Rewrites ks (borders_seen items) after) c.as_slice-4.ensures.value c.in_ok-write_sides.ensures.rewrites)
    (subst (λ ks. AreNumbered (borders_at after (ks ++ drop to list))) c.as_slice-4.ensures.value
    (subst (λ ks. AreNumbered (borders_at after (c.as_slice-4.result.now ++ ks))) (take_rest list to) c.in_ok-write_sides.ensures.numbered))
    (subst (λ ks. (n : ℕ) → is_odd_of n (borders_at after (ks ++ drop to list)) ≡ is_odd_of n (borders_at (borders_seen items) (drop from list))) c.as_slice-4.ensures.value
    (subst (λ ks. (n : ℕ) → is_odd_of n (borders_at after (c.as_slice-4.result.now ++ ks)) ≡ is_odd_of n (borders_at (borders_seen items) (drop from list))) (take_rest list to)
    (subst (λ ks. (n : ℕ) → is_odd_of n (borders_at after (c.as_slice-4.result.now ++ take (length list - to) (drop to list))) ≡ is_odd_of n (borders_at (borders_seen items) ks)) (take_rest list from) c.in_ok-write_sides.ensures.same)))

pub returns-clause-stands : goal.returns-clause-stands
returns-clause-stands g c =
    let items = c.args.borders.now.items in
    let list = c.args.list.now in
    let begun = c.in_ok-begun.begun.items in
    let from = c.in-Some.from in
    let to = c.in-Some.to in
    let after = borders_seen c.write_sides.new.borders.items in
    let cut = subst (λ xs. CutsAt (segments_seen xs) list c.args.vertex.now.at from to) c.as_slice.ensures.value c.in-Some.ensures in
    let perm = subst (λ ks. IsPermutation ks begun) c.as_slice-3.ensures.value c.in_ok-begun.ensures.same in
    stands_behind (borders_seen items) (vertex_seen c.args.vertex.now) list begun from to c.requires.segments c.requires.apart c.requires.awaits c.requires.begun cut perm after
    (subst (λ xs. AreTurned (segments_seen xs) begun) c.as_slice-2.ensures.value c.in_ok-begun.ensures.turned)
    (subst (λ ks. Rewrites ks (borders_seen items) after) c.as_slice-4.ensures.value c.in_ok-write_sides.ensures.rewrites)
    (subst (λ ks. AreNumbered (borders_at after (ks ++ drop to list))) c.as_slice-4.ensures.value
    (subst (λ ks. AreNumbered (borders_at after (c.as_slice-4.result.now ++ ks))) (take_rest list to) c.in_ok-write_sides.ensures.numbered))
    (subst (λ ks. (n : ℕ) → is_odd_of n (borders_at after (ks ++ drop to list)) ≡ is_odd_of n (borders_at (borders_seen items) (drop from list))) c.as_slice-4.ensures.value
    (subst (λ ks. (n : ℕ) → is_odd_of n (borders_at after (c.as_slice-4.result.now ++ ks)) ≡ is_odd_of n (borders_at (borders_seen items) (drop from list))) (take_rest list to)
    (subst (λ ks. (n : ℕ) → is_odd_of n (borders_at after (c.as_slice-4.result.now ++ take (length list - to) (drop to list))) ≡ is_odd_of n (borders_at (borders_seen items) ks)) (take_rest list from) c.in_ok-write_sides.ensures.same)))
