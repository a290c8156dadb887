-- What stands round a position in the rings: where no junction is, every ring goes on alike.
use Rattle.kit_words.proofs.Common.{◌≡◌, ◌≤◌, Bool, true, false, refl, sym, ap, ap₂, ◌∙◌, subst, cond, List, [], ◌∷◌}
use Rattle.kit_words.proofs.Common.{◌++◌, inl, inr, arith, length, append_assoc, pos, is_gt, list_all, length-append}
use Rattle.kit_words.proofs.Common.{and_parts, not-false, ◌+◌, codes, append-nil, flat_map-append}
use Rattle.grid_geometry.specs.Common.{Position, position, position_eq, position_cmp, Segment, segment_eq}
use Rattle.ring_machine.specs.Common.{segment_of, Document, rings, around, all_equal, is_junction, Text}
use Rattle.ring_machine.proofs.Common.{position_eq-refl, position_eq-sym, segment_eq-true, In, Rotated}
use Rattle.ring_machine.proofs.Common.{rotated-trans, spot_of, with_last, place_around, in_split}
use Rattle.map_text.proofs.Cuts.{AllTriples}
use Rattle.map_text.specs.Text.{further}

snoc_inj : (xs ys : List Position) (a b : Position) → xs ++ a ∷ [] ≡ ys ++ b ∷ [] → (xs ≡ ys) × (a ≡ b)
snoc_inj [] [] a b e = (refl, cc)
snoc_inj [] (y ∷ []) a b e = cc
snoc_inj [] (y ∷ z ∷ ys) a b e = cc
snoc_inj (x ∷ []) [] a b e = cc
snoc_inj (x ∷ z ∷ xs) [] a b e = cc
snoc_inj (x ∷ xs) (y ∷ ys) a b e =
    let h : x ≡ y = cc in
    let t : xs ++ a ∷ [] ≡ ys ++ b ∷ [] = cc in
    let r = snoc_inj xs ys a b t in (ap₂ (λ y z. y ∷ z) h r.0, r.1)

-- ---- places in a ring

pub record Placed (v : Position) (ring : List Position) : Type 0 where
  pub u : Position
  pub x : Position
  pub rest : List Position
  pub turned : Rotated ring (u ∷ v ∷ x ∷ rest)

pub placed : (v : Position) (ring : List Position) → 3 ≤ length ring → In v ring → Placed v ring
placed v ring l h = by (in_split v ring h)
  where
    by : ((us : List Position) × (vs : List Position) × (ring ≡ us ++ v ∷ vs)) → Placed v ring
    by s = go (s.1 ++ s.0) refl
      where
        long : 2 ≤ length (s.1 ++ s.0)
        long = omega (arith, ap length s.2, length-append s.0 (v ∷ s.1), length-append s.1 s.0)

        at : Rotated ring (v ∷ s.1 ++ s.0)
        at = record { us = s.0; vs = v ∷ s.1; from = s.2; to = refl }

        go : (ws : List Position) → s.1 ++ s.0 ≡ ws → Placed v ring
        go [] k = absurd (omega (arith, long, ap length k))
        go (x ∷ []) k = absurd (omega (arith, long, ap length k))
        go (x ∷ y ∷ more) k =
            let tail = with_last y more in
            record {
              u = tail.1;
              x = x;
              rest = tail.0;
              turned = rotated-trans ring (v ∷ x ∷ y ∷ more) (tail.1 ∷ v ∷ x ∷ tail.0) (subst (λ z. Rotated ring (v ∷ z)) k at)
                  (record { us = v ∷ x ∷ tail.0; vs = tail.1 ∷ []; from = ap (λ z. v ∷ x ∷ z) tail.2; to = refl });
            }

-- three that follow each other on the way round
module _ (T : Position → Position → Position → Type 0) (q : Position) (qs : List Position) (l : 2 ≤ length qs) (h : (u v x : Position) (rest : List Position) → Rotated (q ∷ qs) (u ∷ v ∷ x ∷ rest) → T u v x) where
  triple : (as' : List Position) (u v x : Position) (bs : List Position) → as' ++ u ∷ v ∷ x ∷ bs ≡ (q ∷ qs) ++ q ∷ [] → T u v x
  triple as' u v x bs e = by (with_last x bs)
    where
      by : ((ys : List Position) × (z : Position) × (x ∷ bs ≡ ys ++ z ∷ [])) → T u v x
      by w = on w.0 w.2 (snoc_inj (as' ++ u ∷ v ∷ w.0) (q ∷ qs) w.1 q (append_assoc as' (u ∷ v ∷ w.0) (w.1 ∷ []) ∙ ap (λ z. as' ++ u ∷ v ∷ z) (sym w.2) ∙ e))
        where
          last : (cs : List Position) → cs ++ u ∷ v ∷ [] ≡ q ∷ qs → x ≡ q → T u v x
          last [] k f = absurd (omega (arith, ap length k))
          last (c ∷ cs) k f = h u v x cs (record { us = c ∷ cs; vs = u ∷ v ∷ []; from = sym k; to = ap (λ z. u ∷ v ∷ z ∷ cs) (let g : c ≡ q = cc in f ∙ sym g) })

          on : (ys : List Position) → x ∷ bs ≡ ys ++ w.1 ∷ [] → (as' ++ u ∷ v ∷ ys ≡ q ∷ qs) × (w.1 ≡ q) → T u v x
          on [] k s = last as' s.0 (let g : x ≡ w.1 = cc in g ∙ s.1)
          on (y ∷ ys) k s = h u v x (ys ++ as') (record { us = as'; vs = u ∷ v ∷ y ∷ ys; from = sym s.0; to = ap (λ z. u ∷ v ∷ z ∷ (ys ++ as')) (let g : x ≡ y = cc in g) })

  go : (as' bs : List Position) → as' ++ bs ≡ (q ∷ qs) ++ q ∷ [] → AllTriples T bs
  go as' [] e = tt
  go as' (u ∷ []) e = tt
  go as' (u ∷ v ∷ []) e = tt
  go as' (u ∷ v ∷ x ∷ bs) e = (triple as' u v x bs e, go (as' ++ u ∷ []) (v ∷ x ∷ bs) (append_assoc as' (u ∷ []) (v ∷ x ∷ bs) ∙ e))

  pub all_triples : AllTriples T (q ∷ qs ++ q ∷ [])
  all_triples = go [] (q ∷ qs ++ q ∷ []) refl

-- ---- neighbours

abbrev pub other_end : Position → Segment → Position
other_end u s = cond (position_eq u s.lo) s.hi s.lo

pub ends_other : (u x : Position) (t : Segment) → position_eq u x ≡ false → segment_of (u, x) ≡ t
    → (x ≡ other_end u t) × (u ≡ other_end x t)
ends_other u x t ne e = subst (λ z. (x ≡ other_end u z) × (u ≡ other_end x z)) e (by (is_gt (position_cmp u x)))
  where
    by : (b : Bool)
        → (x ≡ other_end u (cond b (record { lo = x; hi = u }) (record { lo = u; hi = x })))
        × (u ≡ other_end x (cond b (record { lo = x; hi = u }) (record { lo = u; hi = x })))
    by true = (sym (ap (λ c. cond c u x) ne), sym (ap (λ c. cond c u x) (position_eq-refl x)))
    by false = (sym (ap (λ c. cond c x u) (position_eq-refl u)), sym (ap (λ c. cond c x u) (position_eq-sym x u ∙ ne)))

abbrev pub first_of : List Segment → Segment
first_of [] = record { lo = position (pos 0) (pos 0); hi = position (pos 0) (pos 0) }
first_of (s ∷ ss) = s

first_of_equal : (ss : List Segment) (s : Segment) → all_equal ss ≡ true → In s ss → s ≡ first_of ss
first_of_equal [] s h i = absurd i
first_of_equal (t ∷ ts) s h (inl e) = sym e
first_of_equal (t ∷ ts) s h (inr i) = go ts h i
  where
    go : (us : List Segment) → list_all (segment_eq t) us ≡ true → In s us → s ≡ t
    go [] k i = absurd i
    go (u ∷ us) k (inl e) = sym (segment_eq-true t u (and_parts (segment_eq t u) _ k).0 ∙ e)
    go (u ∷ us) k (inr i) = go us (and_parts (segment_eq t u) _ k).1 i

-- at a position that is no junction each ring has the same two neighbours
pub neighbours : (d : Document) (ring : List Position) → In ring (rings d) → (u v x : Position) (rest : List Position)
    → Rotated ring (u ∷ v ∷ x ∷ rest) → is_junction d v ≡ false → segment_of (u, x) ≡ first_of (around d v)
neighbours d ring i u v x rest r h =
    first_of_equal (around d v) (segment_of (u, x)) (not-false _ h) (place_around d ring v (segment_of (u, x)) i (spot_of ring u v x rest r))

pub further_push : (ts : List Text) (t : Text) → further (ts ++ t ∷ []) ≡ further ts ++ (codes "," ++ t)
further_push ts t = flat_map-append (λ u. codes "," ++ u) ts (t ∷ []) ∙ ap (λ z. further ts ++ z) (append-nil (codes "," ++ t))
