-- A way that is cut while one goes along it is cut as the definition says, and arcs that are found by
-- an edge are those that are found whole.
use Rattle.kit_words.proofs.Common.{◌≡◌, ℕ, ◌+◌, ◌-◌, ◌≤◌, Bool, true, false, refl, sym, ap, ap₂, ◌∙◌, subst, cond}
use Rattle.kit_words.proofs.Common.{List, [], ◌∷◌, ◌++◌, arith, length, reverse, ◌<◌, take, drop, append_assoc, Option}
use Rattle.kit_words.proofs.Common.{Some, None, ℤ, pos, negsuc, map, is_some, unwrap_or, AllByRecursion, drop_more}
use Rattle.kit_words.proofs.Common.{reverse-reverse, get_or-reverse, length-reverse, and_parts, all_joined}
use Rattle.grid_geometry.specs.Common.{Position, position, position_eq}
use Rattle.ring_machine.specs.Common.{edge_eq}
use Rattle.ring_machine.proofs.Common.{same_answer, edge_eq-refl, position_eq-true, IsPiece, same_piece, reversed}
use Rattle.map_text.specs.Common.{begun, cut_round, pieces, led_from, cut_way, are_equal, index_from, is_arc}
use Rattle.map_text.specs.Common.{with_piece, with_pieces, index_of}
use Rattle.map_text.proofs.Common.{becomes_arc, are_equal-true, are_equal-refl}
use Rattle.topo_writer.specs.Common.{first_edge, last_edge, found_from, arc_found, with_found, Fits, at_place, cut_after}
use Rattle.topo_writer.specs.Common.{all_found, indexes_found, FitAll}
use Rattle.topo_writer.proofs.Later.{index_kept, with_pieces_new}

-- ---- cutting

abbrev put_before : List Position → List (List Position) → List (List Position)
put_before us [] = []
put_before us (ps ∷ pss) = (us ++ ps) ∷ pss

none_before : (pss : List (List Position)) → put_before [] pss ≡ pss
none_before [] = refl
none_before (ps ∷ pss) = refl

before_longer : (us : List Position) (p : Position) (pss : List (List Position)) → put_before (us ++ p ∷ []) pss ≡ put_before us (led_from p pss)
before_longer us p [] = refl
before_longer us p (ps ∷ pss) = ap (λ z. z ∷ pss) (append_assoc us (p ∷ []) ps)

cut_after_is : (j : Position → Bool) (us : List Position) (p : Position) (ws : List Position) → cut_after j (us ++ p ∷ []) ws ≡ put_before us (cut_way j p ws)
cut_after_is j us p [] = refl
cut_after_is j us p (q ∷ []) = ap (λ z. z ∷ []) (append_assoc us (p ∷ []) (q ∷ []))
cut_after_is j us p (q ∷ r ∷ rs) = by (j q) (cut_after_is j [] q (r ∷ rs)) (cut_after_is j (us ++ p ∷ []) q (r ∷ rs))
  where
    by : (b : Bool) → cut_after j (q ∷ []) (r ∷ rs) ≡ put_before [] (cut_way j q (r ∷ rs)) → cut_after j ((us ++ p ∷ []) ++ q ∷ []) (r ∷ rs) ≡ put_before (us ++ p ∷ []) (cut_way j q (r ∷ rs))
        → cond b (((us ++ p ∷ []) ++ q ∷ []) ∷ cut_after j (q ∷ []) (r ∷ rs)) (cut_after j ((us ++ p ∷ []) ++ q ∷ []) (r ∷ rs)) ≡ put_before us (cond b ((p ∷ q ∷ []) ∷ cut_way j q (r ∷ rs)) (led_from p (cut_way j q (r ∷ rs))))
    by true h k = ap₂ (λ y z. y ∷ z) (append_assoc us (p ∷ []) (q ∷ [])) (h ∙ none_before (cut_way j q (r ∷ rs)))
    by false h k = k ∙ before_longer us p (cut_way j q (r ∷ rs))

pub cut_way_is : (j : Position → Bool) (p : Position) (ws : List Position) → cut_after j (p ∷ []) ws ≡ cut_way j p ws
cut_way_is j p ws = cut_after_is j [] p ws ∙ none_before (cut_way j p ws)

-- the way round a ring from its first junction
pub round_is : (j : Position → Bool) (ring way : List Position) (n : ℕ) → n < length ring
    → begun j ring ≡ drop n ring ++ take n ring → way ≡ (drop n ring ++ take n ring) ++ at_place ring n ∷ []
    → cut_after j (take 1 way) (drop 1 way) ≡ pieces j ring
round_is j ring way n l b e =
    let x : Position = at_place ring n in
    let ys : List Position = drop (n + 1) ring ++ take n ring in
    let whole : drop n ring ++ take n ring ≡ x ∷ ys = ap (λ z. z ++ take n ring) (drop_more ring n (position (pos 0) (pos 0)) l) in
    let w : way ≡ x ∷ (ys ++ x ∷ []) = e ∙ ap (λ z. z ++ x ∷ []) whole in
    ap (λ z. cut_after j (take 1 z) (drop 1 z)) w ∙ cut_way_is j x (ys ++ x ∷ []) ∙ ap (cut_round j) (sym (b ∙ whole))

-- ---- finding

-- two positions or more
abbrev pub IsLong : List Position → Type 0
IsLong [] = ⊥
IsLong (p ∷ []) = ⊥
IsLong (p ∷ q ∷ ps) = Unit {0}

module _ (k : Position → Bool) (next : Position → Position → Position) where
  -- of two pieces that begin alike
  same_first : (a ps : List Position) → IsLong a → IsLong ps → IsPiece k next a → IsPiece k next ps → edge_eq (first_edge a) (first_edge ps) ≡ are_equal a ps
  same_first [] ps la lp ia ip = absurd la
  same_first (p ∷ []) ps la lp ia ip = absurd la
  same_first (p ∷ q ∷ as') [] la lp ia ip = absurd lp
  same_first (p ∷ q ∷ as') (r ∷ []) la lp ia ip = absurd lp
  same_first (p ∷ q ∷ as') (r ∷ s ∷ ps) la lp ia ip = same_answer _ _
      (λ h. let e = and_parts (position_eq p r) (position_eq q s) h in
      let x = position_eq-true p r e.0 in
      let y = position_eq-true q s e.1 in
      let is : r ∷ s ∷ ps ≡ p ∷ q ∷ ps = ap₂ (λ u v. u ∷ v ∷ ps) (sym x) (sym y) in
      ap (are_equal (p ∷ q ∷ as')) (is ∙ sym (same_piece k next [] p q as' [] ps ia (subst (IsPiece k next) is ip))) ∙ are_equal-refl (p ∷ q ∷ as'))
      (λ h. ap (λ z. edge_eq (p, q) (first_edge z)) (sym (are_equal-true (p ∷ q ∷ as') (r ∷ s ∷ ps) h)) ∙ edge_eq-refl (p, q))

  pub record Border (a : List Position) : Type 0 where
    pub piece : IsPiece k next a
    pub long : IsLong a
    pub back_long : IsLong (reverse a)
    pub last_is : last_edge a ≡ first_edge (reverse a)

  pub found_is : (n : ℕ) (arcs : List (List Position)) (ps : List Position) → AllByRecursion Border arcs → Border ps → found_from n arcs (first_edge ps) ≡ index_from n arcs ps
  found_is n [] ps h b = refl
  found_is n (a ∷ arcs) ps h b =
      let one = same_first a ps h.0.long b.long h.0.piece b.piece in
      let two = ap (λ e. edge_eq e (first_edge ps)) h.0.last_is ∙ same_first (reverse a) ps h.0.back_long b.long (reversed k next a h.0.piece) b.piece in
      ap₂ (λ x y. cond x (Some (pos n)) (cond y (Some (negsuc n)) (found_from (n + 1) arcs (first_edge ps)))) one two
      ∙ ap (λ z. cond (are_equal a ps) (Some (pos n)) (cond (are_equal (reverse a) ps) (Some (negsuc n)) z)) (found_is (n + 1) arcs ps h.1 b)

  some_is : (n : ℕ) (arcs : List (List Position)) (ps : List Position) → is_some (index_from n arcs ps) ≡ is_arc arcs ps
  some_is n [] ps = refl
  some_is n (a ∷ arcs) ps = grind (arith, some_is (n + 1) arcs ps)

  pub with_found_is : (arcs : List (List Position)) (ps : List Position) → AllByRecursion Border arcs → Border ps → with_found arcs ps ≡ with_piece arcs ps
  with_found_is arcs ps h b = ap (λ t. cond t arcs (arcs ++ ps ∷ [])) (ap is_some (found_is 0 arcs ps h b) ∙ some_is 0 arcs ps)

  -- a path in reverse is an arc where the path is
  reverse_eq : (a ps : List Position) → are_equal a (reverse ps) ≡ are_equal (reverse a) ps
  reverse_eq a ps = same_answer _ _
      (λ h. ap (λ z. are_equal z ps) (ap reverse (are_equal-true a (reverse ps) h) ∙ reverse-reverse ps) ∙ are_equal-refl ps)
      (λ h. ap (λ z. are_equal z (reverse ps)) (sym (reverse-reverse a) ∙ ap reverse (are_equal-true (reverse a) ps h)) ∙ are_equal-refl (reverse ps))

  reverse_arc : (arcs : List (List Position)) (ps : List Position) → is_arc arcs (reverse ps) ≡ is_arc arcs ps
  reverse_arc [] ps = refl
  reverse_arc (a ∷ arcs) ps =
      grind (arith, reverse_eq a ps, reverse_eq (reverse a) ps, reverse-reverse a, reverse_arc arcs ps)

  none_of : (o : Option ℤ) → is_some o ≡ false → o ≡ None
  none_of o h = grind arith

  pub fits : (arcs : List (List Position)) (ps : List Position) → AllByRecursion Border arcs → Border ps → Border (reverse ps) → 2 ≤ length ps → are_equal ps (reverse ps) ≡ false → Fits arcs ps
  fits arcs ps h b r l n = record {
    long = l;
    apart = ap (edge_eq (first_edge ps)) b.last_is ∙ same_first ps (reverse ps) b.long r.long b.piece r.piece ∙ n;
    both = λ none.
        let e : is_arc arcs ps ≡ false = sym (some_is 0 arcs ps) ∙ ap is_some (sym (found_is 0 arcs ps h b) ∙ none) in
        ap (arc_found arcs) b.last_is ∙ none_of (arc_found arcs (first_edge (reverse ps))) (ap is_some (found_is 0 arcs (reverse ps) h r) ∙ some_is 0 arcs (reverse ps) ∙ reverse_arc arcs ps ∙ e);
  }

  -- ---- all pieces, one after another

  borders_more : (arcs : List (List Position)) (ps : List Position) → AllByRecursion Border arcs → Border ps → AllByRecursion Border (with_piece arcs ps)
  borders_more arcs ps h b = grind (arith, all_joined Border arcs (ps ∷ []) h (b, tt))

  abbrev or_zero : Option ℤ → ℤ
  or_zero o = unwrap_or o (pos 0)

  -- what goes on as the pieces come is what the definition says of them all; later arcs leave the indexes as they are
  pub streamed : (arcs pss : List (List Position)) → AllByRecursion Border arcs → AllByRecursion Border pss → (all_found arcs pss ≡ with_pieces arcs pss) × (indexes_found arcs pss ≡ map (index_of (with_pieces arcs pss)) pss)
  streamed arcs [] h b = (refl, refl)
  streamed arcs (ps ∷ pss) h b =
      let w = with_found_is arcs ps h b.0 in
      let h' = borders_more arcs ps h b.0 in
      let r = streamed (with_piece arcs ps) pss h' b.1 in
      let new = with_pieces_new (with_piece arcs ps) pss in
      let one : or_zero (arc_found (with_piece arcs ps) (first_edge ps)) ≡ index_of (with_pieces (with_piece arcs ps) pss) ps =
      ap or_zero (found_is 0 (with_piece arcs ps) ps h' b.0 ∙ sym (ap (λ z. index_from 0 z ps) new.1 ∙ index_kept 0 (with_piece arcs ps) new.0 ps (becomes_arc arcs ps))) in
      (ap (λ z. all_found z pss) w ∙ r.0, ap (λ z. or_zero (arc_found z (first_edge ps)) ∷ indexes_found z pss) w ∙ ap₂ (λ y z. y ∷ z) one r.1)

  long_of : (ps : List Position) → 2 ≤ length ps → IsLong ps
  long_of [] h = absurd (omega arith)
  long_of (p ∷ []) h = absurd (omega arith)
  long_of (p ∷ q ∷ ps) h = tt

  pub border_of : (ps : List Position) → 2 ≤ length ps → IsPiece k next ps → Border ps
  border_of ps l i = record {
    piece = i;
    long = long_of ps l;
    back_long = long_of (reverse ps) (omega (arith, l, length-reverse ps));
    last_is =
        let a = get_or-reverse ps 0 (position (pos 0) (pos 0)) (omega arith) in
        let b = get_or-reverse ps 1 (position (pos 0) (pos 0)) (omega arith) in
        let m : length ps - 1 - 0 ≡ length ps - 1 = omega arith in
        let n : length ps - 1 - 1 ≡ length ps - 2 = omega arith in
        ap₂ (λ x y. (x, y)) (ap (at_place ps) (sym m) ∙ sym a) (ap (at_place ps) (sym n) ∙ sym b);
  }

  -- a path that is not its own reverse
  pub record Whole (ps : List Position) : Type 0 where
    pub long : 2 ≤ length ps
    pub piece : IsPiece k next ps
    pub one_way : are_equal ps (reverse ps) ≡ false

  pub all_borders : (pss : List (List Position)) → AllByRecursion Whole pss → AllByRecursion Border pss
  all_borders [] h = tt
  all_borders (ps ∷ pss) h = (border_of ps h.0.long h.0.piece, all_borders pss h.1)

  pub fit_all : (arcs pss : List (List Position)) → AllByRecursion Border arcs → AllByRecursion Whole pss → FitAll arcs pss
  fit_all arcs [] h b = tt
  fit_all arcs (ps ∷ pss) h b =
      let p = border_of ps b.0.long b.0.piece in
      let r = border_of (reverse ps) (omega (arith, b.0.long, length-reverse ps)) (reversed k next ps b.0.piece) in
      (fits arcs ps h p r b.0.long b.0.one_way, fit_all (with_found arcs ps) pss (subst (AllByRecursion Border) (sym (with_found_is arcs ps h p)) (borders_more arcs ps h p)) b.1)
