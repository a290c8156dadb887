-- Later arcs leave the indexes of earlier rings as they are.
use Rattle.kit_words.proofs.Common.{◌≡◌, ℕ, ◌+◌, ◌≤◌, ◌<◌, Bool, true, false, refl, sym, ap, ◌∙◌, cond, List, [], ◌∷◌}
use Rattle.kit_words.proofs.Common.{◌++◌, arith, length, take, append_assoc, pos, map, get_or, unwrap_or, nat_lt}
use Rattle.kit_words.proofs.Common.{flat_map, false≢true, append-nil, length-append, take_more, flat_map-append}
use Rattle.grid_geometry.specs.Common.{Position}
use Rattle.ring_machine.specs.Common.{Text}
use Rattle.ring_machine.proofs.Common.{In, in-flat_map, in_recursion, map_there}
use Rattle.map_text.specs.Common.{index_from, index_of, indexes, is_arc, with_piece, with_pieces, pieces, commas}
use Rattle.map_text.specs.Common.{comma_if, ring_text}
use Rattle.map_text.proofs.Common.{all_arcs, pieces_length}
use Rattle.topo_writer.specs.Common.{written_ring}
use Rattle.topo_writer.proofs.Listed.{items_step}

pub index_kept : (n : ℕ) (arcs new : List (List Position)) (ps : List Position) → is_arc arcs ps ≡ true → index_from n (arcs ++ new) ps ≡ index_from n arcs ps
index_kept n [] new ps h = absurd (false≢true h)
index_kept n (a ∷ arcs) new ps h = grind (arith, index_kept (n + 1) arcs new ps)

with_piece_new : (arcs : List (List Position)) (ps : List Position) → (new : List (List Position)) × (with_piece arcs ps ≡ arcs ++ new)
with_piece_new arcs ps = by (is_arc arcs ps)
  where
    by : (b : Bool) → (new : List (List Position)) × (cond b arcs (arcs ++ ps ∷ []) ≡ arcs ++ new)
    by true = ([], sym (append-nil arcs))
    by false = (ps ∷ [], refl)

pub with_pieces_new : (arcs pss : List (List Position)) → (new : List (List Position)) × (with_pieces arcs pss ≡ arcs ++ new)
with_pieces_new arcs [] = ([], sym (append-nil arcs))
with_pieces_new arcs (ps ∷ pss) =
    let w = with_piece_new arcs ps in
    let r = with_pieces_new (with_piece arcs ps) pss in
    (w.0 ++ r.0, r.1 ∙ ap (λ z. z ++ r.0) w.1 ∙ append_assoc arcs w.0 r.0)

pub index_stays : (arcs more : List (List Position)) (ps : List Position) → is_arc arcs ps ≡ true
    → index_of (with_pieces arcs more) ps ≡ index_of arcs ps
index_stays arcs more ps h =
    let new = with_pieces_new arcs more in
    ap (λ o. unwrap_or o (pos 0)) (ap (λ z. index_from 0 z ps) new.1 ∙ index_kept 0 arcs new.0 ps h)

module _ (j : Position → Bool) (start : List (List Position)) where
  -- the arcs after these rings
  abbrev after : List (List Position) → List (List Position)
  after rs = with_pieces start (flat_map (pieces j) rs)

  ring_stays : (rs more : List (List Position)) (ring : List Position) → In ring rs
      → indexes j (with_pieces (after rs) more) ring ≡ indexes j (after rs) ring
  ring_stays rs more ring i = map_there (index_of (with_pieces (after rs) more)) (index_of (after rs)) (pieces j ring) (λ ps k.
      index_stays (after rs) more ps (in_recursion (λ qs. is_arc (after rs) qs ≡ true) (flat_map (pieces j) rs) ps (all_arcs start (flat_map (pieces j) rs))
      (in-flat_map (pieces j) ring ps rs i k)))

  rings_stay : (rs more : List (List Position))
      → map (written_ring j (with_pieces (after rs) more)) rs ≡ map (written_ring j (after rs)) rs
  rings_stay rs more = map_there (written_ring j (with_pieces (after rs) more)) (written_ring j (after rs)) rs (λ ring i. ap ring_text (ring_stays rs more ring i))

  pub with_pieces-append : (arcs xs ys : List (List Position)) → with_pieces arcs (xs ++ ys) ≡ with_pieces (with_pieces arcs xs) ys
  with_pieces-append arcs [] ys = refl
  with_pieces-append arcs (x ∷ xs) ys = with_pieces-append (with_piece arcs x) xs ys

  -- one ring more
  pub arcs_step : (rs : List (List Position)) (i : ℕ) (r : List Position) → i < length rs → r ≡ get_or rs i r → (now next : List (List Position))
      → now ≡ after (take i rs) → next ≡ with_pieces now (pieces j r) → next ≡ after (take (i + 1) rs)
  arcs_step rs i r h e now next p q =
      q ∙ ap (λ z. with_pieces z (pieces j r)) p
      ∙ sym (with_pieces-append start (flat_map (pieces j) (take i rs)) (pieces j r))
      ∙ sym (ap (with_pieces start) (ap (flat_map (pieces j)) (take_more rs i r h ∙ ap (λ z. take i rs ++ z ∷ []) (sym e))
      ∙ flat_map-append (pieces j) (take i rs) (r ∷ []) ∙ ap (λ z. flat_map (pieces j) (take i rs) ++ z) (append-nil (pieces j r))))

  pub text_step : (rs : List (List Position)) (i : ℕ) (r : List Position) → i < length rs → r ≡ get_or rs i r → (now next : List (List Position))
      → now ≡ after (take i rs) → next ≡ with_pieces now (pieces j r)
      → (o text mid end : Text) → text ≡ o ++ commas (map (written_ring j now) (take i rs)) → mid ≡ text ++ comma_if (nat_lt 0 i) → end ≡ mid ++ ring_text (indexes j next r)
      → end ≡ o ++ commas (map (written_ring j next) (take (i + 1) rs))
  text_step rs i r h e now next p q o text mid end s t u =
      let same : map (written_ring j now) (take i rs) ≡ map (written_ring j next) (take i rs) =
      ap (λ z. map (written_ring j z) (take i rs)) p ∙ sym (rings_stay (take i rs) (pieces j r))
      ∙ ap (λ z. map (written_ring j (with_pieces z (pieces j r))) (take i rs)) (sym p) ∙ ap (λ z. map (written_ring j z) (take i rs)) (sym q) in
      items_step (written_ring j next) rs i r h e o text mid end (s ∙ ap (λ z. o ++ commas z) same) t u

-- ---- how many arcs there are

with_piece_few : (arcs : List (List Position)) (ps : List Position) → length (with_piece arcs ps) ≤ length arcs + 1
with_piece_few arcs ps = grind (arith, length-append arcs (ps ∷ []))

with_pieces_few : (arcs pss : List (List Position)) → length (with_pieces arcs pss) ≤ length arcs + length pss
with_pieces_few arcs [] = omega arith
with_pieces_few arcs (ps ∷ pss) = omega (arith, with_pieces_few (with_piece arcs ps) pss, with_piece_few arcs ps)

-- a ring adds at most as many arcs as it has positions
pub ring_few : (j : Position → Bool) (arcs : List (List Position)) (ring : List Position)
    → length (with_pieces arcs (pieces j ring)) ≤ length arcs + length ring
ring_few j arcs ring = omega (arith, with_pieces_few arcs (pieces j ring), pieces_length j ring)
