-- Parts of a map that have rings, written one after another: later arcs leave earlier parts as they are.
use Rattle.kit_words.proofs.Common.{◌≡◌, ℕ, ◌+◌, ◌≤◌, ◌<◌, refl, sym, ap, ap₂, subst, ◌∙◌, Bool, true, List, [], ◌∷◌}
use Rattle.kit_words.proofs.Common.{◌++◌, arith, length, take, drop, map, get_or, inl, inr, nat_lt, flat_map, sum_by}
use Rattle.kit_words.proofs.Common.{AllByRecursion, append-nil, take_more, drop_more, flat_map-append, sum_by-append}
use Rattle.kit_words.proofs.Common.{sum_by-cons, all_front, all_back}
use Rattle.grid_geometry.specs.Common.{Position}
use Rattle.ring_machine.specs.Common.{Text}
use Rattle.ring_machine.proofs.Common.{In, in_recursion, map_there}
use Rattle.map_text.specs.Common.{indexes, index_of, is_arc, with_pieces, pieces, commas, comma_if, polygon_text}
use Rattle.map_text.proofs.Common.{all_arcs}
use Rattle.topo_writer.specs.Common.{written_polygon}
use Rattle.topo_writer.proofs.Later.{index_stays, with_pieces-append, ring_few}
use Rattle.topo_writer.proofs.Listed.{items_step}

-- ---- what holds of each, of parts

pub each_part : {A X : Type 0} (P : A → Type 0) (own : X → List A) (xs : List X) (x : X) → In x xs
    → AllByRecursion P (flat_map own xs) → AllByRecursion P (own x)
each_part P own [] x i h = absurd i
each_part P own (y ∷ ys) x (inl e) h = subst (λ z. AllByRecursion P (own z)) e (all_front P (own y) (flat_map own ys) h)
each_part P own (y ∷ ys) x (inr i) h = each_part P own ys x i (all_back P (own y) (flat_map own ys) h)

-- ---- rings whose pieces are arcs

-- the piece is one of the arcs
abbrev pub Known : List (List Position) → List Position → Type 0
Known arcs ps = is_arc arcs ps ≡ true

module _ (j : Position → Bool) where
  ring_same : (arcs more : List (List Position)) (ring : List Position) → AllByRecursion (Known arcs) (pieces j ring)
      → indexes j (with_pieces arcs more) ring ≡ indexes j arcs ring
  ring_same arcs more ring h =
      map_there (index_of (with_pieces arcs more)) (index_of arcs) (pieces j ring)
      (λ ps k. index_stays arcs more ps (in_recursion (Known arcs) (pieces j ring) ps h k))

  pub rings_same : (arcs more rs : List (List Position)) → AllByRecursion (Known arcs) (flat_map (pieces j) rs)
      → map (indexes j (with_pieces arcs more)) rs ≡ map (indexes j arcs) rs
  rings_same arcs more [] h = refl
  rings_same arcs more (r ∷ rs) h =
      ap₂ (λ y z. y ∷ z) (ring_same arcs more r (all_front (Known arcs) (pieces j r) (flat_map (pieces j) rs) h))
      (rings_same arcs more rs (all_back (Known arcs) (pieces j r) (flat_map (pieces j) rs) h))

  -- a polygon stays as it is written when arcs come after
  pub polygon_same : (arcs more polygon : List (List Position)) → AllByRecursion (Known arcs) (flat_map (pieces j) polygon)
      → written_polygon j (with_pieces arcs more) polygon ≡ written_polygon j arcs polygon
  polygon_same arcs more polygon h = ap polygon_text (rings_same arcs more polygon h)

  -- so many rings add at most as many arcs as they have positions
  pub rings_few : (arcs rs : List (List Position)) → length (with_pieces arcs (flat_map (pieces j) rs)) ≤ length arcs + sum_by length rs
  rings_few arcs [] = omega arith
  rings_few arcs (r ∷ rs) =
      omega (
        arith,
        ring_few j arcs r,
        rings_few (with_pieces arcs (pieces j r)) rs,
        sum_by-cons length r rs,
        ap length (with_pieces-append j arcs arcs (pieces j r) (flat_map (pieces j) rs)),
      )

-- ---- parts, one after another

-- of the parts that are left, the first one and those after it
pub left_step : {X : Type 0} (own : X → List (List Position)) (xs : List X) (i : ℕ) (x : X) → i < length xs → x ≡ get_or xs i x
    → sum_by length (flat_map own (drop i xs)) ≡ sum_by length (own x) + sum_by length (flat_map own (drop (i + 1) xs))
left_step own xs i x h e =
    ap (λ z. sum_by length (flat_map own z)) (drop_more xs i x h)
    ∙ ap (λ z. sum_by length (flat_map own (z ∷ drop (i + 1) xs))) (sym e)
    ∙ sum_by-append length (own x) (flat_map own (drop (i + 1) xs))

module _ (j : Position → Bool) (start : List (List Position)) {X : Type 0} (own : X → List (List Position)) where
  -- the arcs after these parts
  abbrev after : List X → List (List Position)
  after xs = with_pieces start (flat_map (pieces j) (flat_map own xs))

  -- one part more
  pub part_arcs : (xs : List X) (i : ℕ) (x : X) → i < length xs → x ≡ get_or xs i x → (now next : List (List Position))
      → now ≡ after (take i xs) → next ≡ with_pieces now (flat_map (pieces j) (own x)) → next ≡ after (take (i + 1) xs)
  part_arcs xs i x h e now next p q =
      let front = flat_map own (take i xs) in
      let whole : flat_map own (take (i + 1) xs) ≡ front ++ own x =
      ap (flat_map own) (take_more xs i x h ∙ ap (λ z. take i xs ++ z ∷ []) (sym e))
      ∙ flat_map-append own (take i xs) (x ∷ []) ∙ ap (λ z. front ++ z) (append-nil (own x)) in
      q ∙ ap (λ z. with_pieces z (flat_map (pieces j) (own x))) p
      ∙ sym (with_pieces-append j start start (flat_map (pieces j) front) (flat_map (pieces j) (own x)))
      ∙ ap (with_pieces start) (sym (flat_map-append (pieces j) front (own x)))
      ∙ ap (λ z. with_pieces start (flat_map (pieces j) z)) (sym whole)

  -- the parts' texts stay as they are when arcs come after
  abbrev Stays : (List (List Position) → X → Text) → Type 0
  Stays say = (arcs more : List (List Position)) (x : X) → AllByRecursion (Known arcs) (flat_map (pieces j) (own x))
      → say (with_pieces arcs more) x ≡ say arcs x

  within : (P : List Position → Type 0) (xs : List X) (x : X) → In x xs → AllByRecursion P (flat_map (pieces j) (flat_map own xs))
      → AllByRecursion P (flat_map (pieces j) (own x))
  within P [] x i h = absurd i
  within P (y ∷ ys) x (inl e) h =
      subst (λ z. AllByRecursion P (flat_map (pieces j) (own z))) e (all_front P (flat_map (pieces j) (own y)) (flat_map (pieces j) (flat_map own ys))
      (subst (AllByRecursion P) (flat_map-append (pieces j) (own y) (flat_map own ys)) h))
  within P (y ∷ ys) x (inr i) h =
      within P ys x i (all_back P (flat_map (pieces j) (own y)) (flat_map (pieces j) (flat_map own ys))
      (subst (AllByRecursion P) (flat_map-append (pieces j) (own y) (flat_map own ys)) h))

  each_known : (xs : List X) (x : X) → In x xs → AllByRecursion (Known (after xs)) (flat_map (pieces j) (own x))
  each_known xs x i = within (Known (after xs)) xs x i (all_arcs start (flat_map (pieces j) (flat_map own xs)))

  parts_stay : (say : List (List Position) → X → Text) → Stays say → (xs : List X) (more : List (List Position))
      → map (say (with_pieces (after xs) more)) xs ≡ map (say (after xs)) xs
  parts_stay say s xs more = map_there (say (with_pieces (after xs) more)) (say (after xs)) xs (λ x i. s (after xs) more x (each_known xs x i))

  pub part_text : (say : List (List Position) → X → Text) → Stays say
      → (xs : List X) (i : ℕ) (x : X) → i < length xs → x ≡ get_or xs i x → (now next : List (List Position))
      → now ≡ after (take i xs) → next ≡ with_pieces now (flat_map (pieces j) (own x))
      → (o text mid end : Text) → text ≡ o ++ commas (map (say now) (take i xs)) → mid ≡ text ++ comma_if (nat_lt 0 i) → end ≡ mid ++ say next x
      → end ≡ o ++ commas (map (say next) (take (i + 1) xs))
  part_text say s xs i x h e now next p q o text mid end a b c =
      let new = flat_map (pieces j) (own x) in
      let same : map (say now) (take i xs) ≡ map (say next) (take i xs) =
      ap (λ z. map (say z) (take i xs)) p ∙ sym (parts_stay say s (take i xs) new)
      ∙ ap (λ z. map (say (with_pieces z new)) (take i xs)) (sym p) ∙ ap (λ z. map (say z) (take i xs)) (sym q) in
      items_step (say next) xs i x h e o text mid end (a ∙ ap (λ z. o ++ commas z) same) b c
