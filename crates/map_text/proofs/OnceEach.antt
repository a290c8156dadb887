-- Pieces, each taken once: every segment of a piece stands in exactly one arc and there once.
use Rattle.kit_words.proofs.Common.{◌≡◌, ℕ, zero, suc, ◌+◌, ◌≤◌, Bool, true, false, refl, sym, ap, ap₂, ◌∙◌, subst}
use Rattle.kit_words.proofs.Common.{cond, List, [], ◌∷◌, ◌++◌, ◌||◌, inl, inr, arith, reverse, flat_map, and_parts}
use Rattle.kit_words.proofs.Common.{AllByRecursion, false≢true, or_left, append-nil, flat_map-append, or_cases}
use Rattle.kit_words.proofs.Common.{or_right, all_joined}
use Rattle.grid_geometry.specs.Common.{Position, position_eq, Segment, Edge, links}
use Rattle.ring_machine.specs.Common.{segment_of}
use Rattle.ring_machine.proofs.Common.{position_eq-true, position_eq-refl, is_of, links-reverse, times, one}
use Rattle.ring_machine.proofs.Common.{times-append, same_ends, segment_eq-true, In, IsPiece, same_piece}
use Rattle.ring_machine.proofs.Common.{reversed_piece}
use Rattle.ring_machine.proofs.Cycles.{times-flipped}
use Rattle.map_text.specs.Common.{are_equal, is_arc, with_piece, with_pieces}

-- ---- lists compared

pub are_equal-true : (ps qs : List Position) → are_equal ps qs ≡ true → ps ≡ qs
are_equal-true [] [] h = refl
are_equal-true [] (q ∷ qs) h = absurd (false≢true h)
are_equal-true (p ∷ ps) [] h = absurd (false≢true h)
are_equal-true (p ∷ ps) (q ∷ qs) h =
    let k = and_parts (position_eq p q) (are_equal ps qs) h in
    ap₂ (λ y z. y ∷ z) (position_eq-true p q k.0) (are_equal-true ps qs k.1)

pub are_equal-refl : (ps : List Position) → are_equal ps ps ≡ true
are_equal-refl [] = refl
are_equal-refl (p ∷ ps) = rw (position_eq-refl p) (are_equal-refl ps)

abbrev pub is_same : List Position → List Position → Bool
is_same a ps = are_equal a ps || are_equal (reverse a) ps

-- ---- counts

-- an edge of the segment
find_edge : (s : Segment) (es : List Edge) → 1 ≤ times s es → (e : Edge) × In e es × (is_of s e ≡ true)
find_edge s [] h = absurd (omega arith)
find_edge s (e ∷ es) h = by (is_of s e) refl h (find_edge s es)
  where
    by : (b : Bool) → is_of s e ≡ b → 1 ≤ one b + times s es → (1 ≤ times s es → (f : Edge) × In f es × (is_of s f ≡ true)) → (f : Edge) × In f (e ∷ es) × (is_of s f ≡ true)
    by true k l r = (e, inl refl, k)
    by false k l r = let g = r (omega arith) in (g.0, inr g.1, g.2)

-- where an edge of a path stands in it
link_at : (e : Edge) (ps : List Position) → In e (links ps) → (us : List Position) × (vs : List Position) × (ps ≡ us ++ e.0 ∷ e.1 ∷ vs)
link_at e [] i = absurd i
link_at e (p ∷ []) i = absurd i
link_at e (p ∷ q ∷ ps) (inl h) = ([], ps, ap₂ (λ y z. y ∷ z ∷ ps) (ap (λ (f : Edge). f.0) h) (ap (λ (f : Edge). f.1) h))
link_at e (p ∷ q ∷ ps) (inr h) = let r = link_at e (q ∷ ps) h in (p ∷ r.0, r.1, ap (λ z. p ∷ z) r.2)

module _ (k : Position → Bool) (next : Position → Position → Position) where
  -- two pieces with a common segment
  share : (s : Segment) (a ps : List Position) → IsPiece k next a → IsPiece k next ps → 1 ≤ times s (links a) → 1 ≤ times s (links ps) → is_same a ps ≡ true
  share s a ps ia ip ha hp =
      let e = find_edge s (links a) ha in
      let f = find_edge s (links ps) hp in
      let ae = link_at e.0 a e.1 in
      let pf = link_at f.0 ps f.1 in
      elim (same_ends e.0 f.0 (segment_eq-true (segment_of e.0) s e.2 ∙ sym (segment_eq-true (segment_of f.0) s f.2))) [
        | inl h ↦
            let pf' : ps ≡ pf.0 ++ e.0.0 ∷ e.0.1 ∷ pf.1 = pf.2 ∙ ap₂ (λ y z. pf.0 ++ y ∷ z ∷ pf.1) h.0 h.1 in
            let same : a ≡ ps = ae.2 ∙ same_piece k next ae.0 e.0.0 e.0.1 ae.1 pf.0 pf.1 (subst (IsPiece k next) ae.2 ia) (subst (IsPiece k next) pf' ip) ∙ sym pf' in
            or_left (are_equal a ps) (are_equal (reverse a) ps) (ap (are_equal a) (sym same) ∙ are_equal-refl a)
        | inr h ↦
            let pf' : ps ≡ pf.0 ++ e.0.1 ∷ e.0.0 ∷ pf.1 = pf.2 ∙ ap₂ (λ y z. pf.0 ++ y ∷ z ∷ pf.1) h.0 h.1 in
            let same : ps ≡ reverse a = pf' ∙ reversed_piece k next pf.0 e.0.1 e.0.0 pf.1 ae.0 ae.1 (subst (IsPiece k next) pf' ip) (subst (IsPiece k next) ae.2 ia) ∙ ap reverse (sym ae.2) in
            or_right (are_equal a ps) (are_equal (reverse a) ps) (ap (are_equal (reverse a)) same ∙ are_equal-refl (reverse a))
      ]

  -- an arc has the segment: the piece is that arc
  shares_one : (s : Segment) (arcs : List (List Position)) (ps : List Position) → AllByRecursion (IsPiece k next) arcs → IsPiece k next ps → 1 ≤ times s (flat_map links arcs) → 1 ≤ times s (links ps) → is_arc arcs ps ≡ true
  shares_one s [] ps ia ip ha hp = absurd (omega arith)
  shares_one s (a ∷ arcs) ps ia ip ha hp = by (times s (links a)) refl (λ h. shares_one s arcs ps ia.1 ip h hp)
    where
      by : (n : ℕ) → times s (links a) ≡ n → (1 ≤ times s (flat_map links arcs) → is_arc arcs ps ≡ true) → (is_same a ps || is_arc arcs ps) ≡ true
      by zero e r = or_right (is_same a ps) (is_arc arcs ps) (r (omega (arith, times-append s (links a) (flat_map links arcs))))
      by (suc n) e r = or_left (is_same a ps) (is_arc arcs ps) (share s a ps ia.0 ip (omega arith) hp)

  -- a piece that is an arc has the segments of one
  same_times : (s : Segment) (arcs : List (List Position)) (ps : List Position) → is_arc arcs ps ≡ true → times s (links ps) ≤ times s (flat_map links arcs)
  same_times s [] ps h = absurd (false≢true h)
  same_times s (a ∷ arcs) ps h = elim (or_cases (is_same a ps) (is_arc arcs ps) h) [
    | inr k ↦ omega (arith, same_times s arcs ps k, times-append s (links a) (flat_map links arcs))
    | inl k ↦ elim (or_cases (are_equal a ps) (are_equal (reverse a) ps) k) [
      | inl l ↦ omega (arith, ap (λ z. times s (links z)) (are_equal-true a ps l), times-append s (links a) (flat_map links arcs))
      | inr l ↦ omega (arith, sym (ap (times s) (links-reverse a) ∙ times-flipped s (links a)) ∙ ap (λ z. times s (links z)) (are_equal-true (reverse a) ps l), times-append s (links a) (flat_map links arcs))
    ]
  ]

  -- each piece has a segment at most once
  pub record Simple (ps : List Position) : Type 0 where
    pub piece : IsPiece k next ps
    pub once : (s : Segment) → times s (links ps) ≤ 1

  pub record Arcs (arcs : List (List Position)) : Type 0 where
    pub pieces : AllByRecursion (IsPiece k next) arcs
    pub once : (s : Segment) → times s (flat_map links arcs) ≤ 1

  pub times-push : (s : Segment) (arcs : List (List Position)) (ps : List Position) → times s (flat_map links (arcs ++ ps ∷ [])) ≡ times s (flat_map links arcs) + times s (links ps)
  times-push s arcs ps = ap (times s) (flat_map-append links arcs (ps ∷ [])) ∙ times-append s (flat_map links arcs) (links ps ++ []) ∙ ap (λ z. times s (flat_map links arcs) + times s z) (append-nil (links ps))

  with_piece-arcs : (arcs : List (List Position)) (ps : List Position) → Arcs arcs → Simple ps → Arcs (with_piece arcs ps)
  with_piece-arcs arcs ps a p = by (is_arc arcs ps) refl
    where
      by : (b : Bool) → is_arc arcs ps ≡ b → Arcs (cond b arcs (arcs ++ ps ∷ []))
      by true e = a
      by false e = record { pieces = all_joined (IsPiece k next) arcs (ps ∷ []) a.pieces (p.piece, tt); once = λ s. new s (times s (flat_map links arcs)) (times s (links ps)) refl refl }
        where
          new : (s : Segment) (m n : ℕ) → times s (flat_map links arcs) ≡ m → times s (links ps) ≡ n → times s (flat_map links (arcs ++ ps ∷ [])) ≤ 1
          new s zero n f g = omega (arith, times-push s arcs ps, p.once s)
          new s (suc m) zero f g = omega (arith, times-push s arcs ps, a.once s)
          new s (suc m) (suc n) f g = absurd (false≢true (sym e ∙ shares_one s arcs ps a.pieces p.piece (omega arith) (omega arith)))

  with_piece-times : (s : Segment) (arcs : List (List Position)) (ps : List Position) → (times s (flat_map links arcs) ≤ times s (flat_map links (with_piece arcs ps))) × (times s (links ps) ≤ times s (flat_map links (with_piece arcs ps))) × (times s (flat_map links (with_piece arcs ps)) ≤ times s (flat_map links arcs) + times s (links ps))
  with_piece-times s arcs ps = by (is_arc arcs ps) refl
    where
      by : (b : Bool) → is_arc arcs ps ≡ b → (times s (flat_map links arcs) ≤ times s (flat_map links (cond b arcs (arcs ++ ps ∷ [])))) × (times s (links ps) ≤ times s (flat_map links (cond b arcs (arcs ++ ps ∷ [])))) × (times s (flat_map links (cond b arcs (arcs ++ ps ∷ []))) ≤ times s (flat_map links arcs) + times s (links ps))
      by true e = (omega arith, same_times s arcs ps e, omega arith)
      by false e = (omega (arith, times-push s arcs ps), omega (arith, times-push s arcs ps), omega (arith, times-push s arcs ps))

  -- all arcs
  pub with_pieces-arcs : (arcs : List (List Position)) (pss : List (List Position)) → Arcs arcs → AllByRecursion Simple pss → Arcs (with_pieces arcs pss)
  with_pieces-arcs arcs [] a p = a
  with_pieces-arcs arcs (ps ∷ pss) a p = with_pieces-arcs (with_piece arcs ps) pss (with_piece-arcs arcs ps a p.0) p.1

  pub record Covers (s : Segment) (n m r : ℕ) : Type 0 where
    pub old : n ≤ r
    pub new : 1 ≤ m → 1 ≤ r
    pub no_more : r ≤ n + m

  pub with_pieces-times : (s : Segment) (arcs pss : List (List Position)) → Covers s (times s (flat_map links arcs)) (times s (flat_map links pss)) (times s (flat_map links (with_pieces arcs pss)))
  with_pieces-times s arcs [] = record { old = omega arith; new = λ h. absurd (omega arith); no_more = omega arith }
  with_pieces-times s arcs (ps ∷ pss) =
      let w = with_piece-times s arcs ps in
      let r = with_pieces-times s (with_piece arcs ps) pss in
      let old = r.old in
      let no_more = r.no_more in
      let e = times-append s (links ps) (flat_map links pss) in
      record { old = omega arith; new = λ h. some r.new r.old h (times s (links ps)) refl; no_more = omega arith }
    where
      some : (1 ≤ times s (flat_map links pss) → 1 ≤ times s (flat_map links (with_pieces (with_piece arcs ps) pss))) → times s (flat_map links (with_piece arcs ps)) ≤ times s (flat_map links (with_pieces (with_piece arcs ps) pss)) → 1 ≤ times s (links ps ++ flat_map links pss) → (n : ℕ) → times s (links ps) ≡ n → 1 ≤ times s (flat_map links (with_pieces (with_piece arcs ps) pss))
      some f o h zero e = f (omega (arith, times-append s (links ps) (flat_map links pss)))
      some f o h (suc n) e = omega (arith, with_piece-times s arcs ps)
