-- A way that is cut at junctions: its edges stay, and what it is cut into are pieces.
use Rattle.kit_words.proofs.Common.{◌≡◌, Bool, true, false, refl, sym, ap, ◌∙◌, subst, cond, List, [], ◌∷◌, ◌++◌}
use Rattle.kit_words.proofs.Common.{reverse, flat_map, AllByRecursion, reverse-append}
use Rattle.grid_geometry.specs.Common.{Position, links}
use Rattle.ring_machine.proofs.Common.{Passes, IsTrail, EndsAtJunction, IsPiece}
use Rattle.map_text.specs.Common.{led_from, cut_way}

-- the first part begins as the way does
pub record Begins (p q : Position) (pss : List (List Position)) : Type 0 where
  pub first : List Position
  pub others : List (List Position)
  pub is : pss ≡ (p ∷ q ∷ first) ∷ others

pub first_part : (j : Position → Bool) (p q : Position) (qs : List Position) → Begins p q (cut_way j p (q ∷ qs))
first_part j p q [] = record { first = []; others = []; is = refl }
first_part j p q (r ∷ rs) = by (j q) (first_part j q r rs)
  where
    by : (b : Bool) → Begins q r (cut_way j q (r ∷ rs)) → Begins p q (cond b ((p ∷ q ∷ []) ∷ cut_way j q (r ∷ rs)) (led_from p (cut_way j q (r ∷ rs))))
    by true h = record { first = []; others = cut_way j q (r ∷ rs); is = refl }
    by false h = record { first = r ∷ h.first; others = h.others; is = ap (led_from p) h.is }

-- ---- the edges

longer_links : (p q r : Position) (pss : List (List Position)) → Begins q r pss → flat_map links (led_from p pss) ≡ (p, q) ∷ flat_map links pss
longer_links p q r pss h = subst (λ z. flat_map links (led_from p z) ≡ (p, q) ∷ flat_map links z) (sym h.is) refl

pub cut_links : (j : Position → Bool) (p : Position) (ps : List Position) → flat_map links (cut_way j p ps) ≡ links (p ∷ ps)
cut_links j p [] = refl
cut_links j p (q ∷ []) = refl
cut_links j p (q ∷ r ∷ rs) = by (j q) (cut_links j q (r ∷ rs))
  where
    by : (b : Bool) → flat_map links (cut_way j q (r ∷ rs)) ≡ links (q ∷ r ∷ rs) → flat_map links (cond b ((p ∷ q ∷ []) ∷ cut_way j q (r ∷ rs)) (led_from p (cut_way j q (r ∷ rs)))) ≡ (p, q) ∷ links (q ∷ r ∷ rs)
    by true h = ap (λ z. (p, q) ∷ z) h
    by false h = longer_links p q r (cut_way j q (r ∷ rs)) (first_part j q r rs) ∙ ap (λ z. (p, q) ∷ z) h

-- ---- the parts

-- three that follow each other, at every place
abbrev pub AllTriples : (Position → Position → Position → Type 0) → List Position → Type 0
AllTriples T (u ∷ v ∷ x ∷ ps) = T u v x × AllTriples T (v ∷ x ∷ ps)
AllTriples T _ = Unit {0}

-- j is where the way is cut, k is where its parts end
module _ (j k : Position → Bool) (next : Position → Position → Position) where
  -- one goes on over v, where no part ends
  abbrev pub GoesOn : Position → Position → Position → Type 0
  GoesOn u v x = k v ≡ false → Passes k next u v x

  abbrev pub AllGoOn : List Position → Type 0
  AllGoOn ps = AllTriples GoesOn ps

  -- the way is cut where parts end, and it ends where one does
  abbrev pub Marked : List Position → Type 0
  Marked [] = Unit {0}
  Marked (q ∷ []) = k q ≡ true
  Marked (q ∷ r ∷ rs) = (j q ≡ k q) × Marked (r ∷ rs)

  -- pieces, but that the first may begin anywhere
  abbrev Parts : List (List Position) → Type 0
  Parts [] = Unit {0}
  Parts (ps ∷ pss) = (IsTrail k next ps × EndsAtJunction k next ps) × AllByRecursion (IsPiece k next) pss

  ends_push : (ps : List Position) (p : Position) → k p ≡ true → EndsAtJunction k next (ps ++ p ∷ [])
  ends_push [] p h = h
  ends_push (q ∷ []) p h = h
  ends_push (q ∷ r ∷ ps) p h = ends_push (r ∷ ps) p h

  begun_right : (p : Position) (ps : List Position) → k p ≡ true → IsTrail k next (p ∷ ps) × EndsAtJunction k next (p ∷ ps) → IsPiece k next (p ∷ ps)
  begun_right p ps h t = record { trail = t.0; end = t.1; begin = subst (EndsAtJunction k next) (sym (reverse-append (p ∷ []) ps)) (ends_push (reverse ps) p h) }

  all_pieces : (p q : Position) (pss : List (List Position)) → Begins p q pss → k p ≡ true → Parts pss → AllByRecursion (IsPiece k next) pss
  all_pieces p q pss b h t =
      let t' = subst Parts b.is t in
      subst (AllByRecursion (IsPiece k next)) (sym b.is) (begun_right p (q ∷ b.first) h t'.0, t'.1)

  longer_parts : (p q r : Position) (pss : List (List Position)) → Begins q r pss → Passes k next p q r → Parts pss → Parts (led_from p pss)
  longer_parts p q r pss b h t =
      let t' = subst Parts b.is t in
      subst (λ z. Parts (led_from p z)) (sym b.is) (((h, t'.0.0), t'.0.1), t'.1)

  cut_parts : (p : Position) (ps : List Position) → AllGoOn (p ∷ ps) → Marked ps → Parts (cut_way j p ps)
  cut_parts p [] g m = tt
  cut_parts p (q ∷ []) g m = ((tt, m), tt)
  cut_parts p (q ∷ r ∷ rs) g m = by (j q) refl (cut_parts q (r ∷ rs) g.1 m.1)
    where
      by : (b : Bool) → j q ≡ b → Parts (cut_way j q (r ∷ rs)) → Parts (cond b ((p ∷ q ∷ []) ∷ cut_way j q (r ∷ rs)) (led_from p (cut_way j q (r ∷ rs))))
      by true e h = ((tt, sym m.0 ∙ e), all_pieces q r (cut_way j q (r ∷ rs)) (first_part j q r rs) (sym m.0 ∙ e) h)
      by false e h = longer_parts p q r (cut_way j q (r ∷ rs)) (first_part j q r rs) (g.0 (sym m.0 ∙ e)) h

  pub cut_pieces : (p q : Position) (qs : List Position) → k p ≡ true → AllGoOn (p ∷ q ∷ qs) → Marked (q ∷ qs) → AllByRecursion (IsPiece k next) (cut_way j p (q ∷ qs))
  cut_pieces p q qs h g m = all_pieces p q (cut_way j p (q ∷ qs)) (first_part j p q qs) h (cut_parts p (q ∷ qs) g m)
