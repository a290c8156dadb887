-- One item more of a layer.
use Rattle.kit_words.proofs.Common.{◌≡◌, Bool, true, false, sym, ap, ap₂, ◌∙◌, subst, List, [], ◌∷◌, ◌++◌, map}
use Rattle.kit_words.proofs.Common.{append_assoc, flat_map, map-append, flat_map-append}
use Rattle.device_io.specs.Common.{Took, TookFront}
use Rattle.device_io.specs.declared.Sink as sink
use Rattle.device_io.proofs.Common.{took_both, took_first, took_second}
use Rattle.grid_geometry.specs.Common.{Position}
use Rattle.ring_machine.specs.Common.{Document, Head, Text, is_junction}
use Rattle.map_text.specs.Common.{pieces, with_pieces, comma_if, items_text}
use Rattle.map_frame.specs.Common.{ShownItem}
use Rattle.topo_writer.specs.Common.{item_at, item_rings, written_at, is_begin, open_after, more_after}
use Rattle.topo_writer.proofs.ItemLemmas.{open_both, more_both}
use Rattle.topo_writer.proofs.Later.{with_pieces-append}
use Rattle.topo_writer.proofs.Leading.{item_rings-append}
use Rattle.topo_writer.proofs.OpenedLemmas.{items_both, begin_left}

-- ---- the text of one item

-- a comma and then a text
pub after_comma : (o : Text) (more : Bool) (t mid now : Text) → mid ≡ o ++ comma_if more → now ≡ mid ++ t → now ≡ o ++ (comma_if more ++ t)
after_comma o more t mid now e f = f ∙ ap (λ z. z ++ t) e ∙ append_assoc o (comma_if more) t

-- ---- after the items before it

module _ (d : Document) (xs : List ShownItem) (s : ShownItem) where
  abbrev one_more : List ShownItem
  one_more = xs ++ s ∷ []

  written_more : map (written_at d) one_more ≡ map (written_at d) xs ++ written_at d s ∷ []
  written_more = map-append (written_at d) xs (s ∷ [])

  pub heads_step : (now next : List Head) → now ≡ open_after [] (map (written_at d) xs) → next ≡ open_after now (written_at d s ∷ [])
      → next ≡ open_after [] (map (written_at d) one_more)
  heads_step now next p q =
      q ∙ ap (λ z. open_after z (written_at d s ∷ [])) p ∙ sym (open_both [] (map (written_at d) xs) (written_at d s ∷ []))
      ∙ ap (open_after []) (sym written_more)

  pub more_step : (now next : Bool) → now ≡ more_after false (map (written_at d) xs) → next ≡ more_after now (written_at d s ∷ [])
      → next ≡ more_after false (map (written_at d) one_more)
  more_step now next p q =
      q ∙ ap (λ z. more_after z (written_at d s ∷ [])) p ∙ sym (more_both false (map (written_at d) xs) (written_at d s ∷ []))
      ∙ ap (more_after false) (sym written_more)

  module _ (rest : List ShownItem) (begins : is_begin [] (map (written_at d) (xs ++ s ∷ rest)) ≡ true) (heads : List Head) (more : Bool)
      (h : heads ≡ open_after [] (map (written_at d) xs)) (m : more ≡ more_after false (map (written_at d) xs)) where
    abbrev before : Text
    before = items_text [] false (map (written_at d) xs)

    abbrev mine : Text
    mine = items_text heads more (written_at d s ∷ [])

    text_more : items_text [] false (map (written_at d) one_more) ≡ before ++ mine
    text_more =
        let ws = map (written_at d) xs in
        let w = written_at d s ∷ [] in
        let first : is_begin [] ws ≡ true = begin_left [] ws (map (written_at d) (s ∷ rest)) (ap (is_begin []) (sym (map-append (written_at d) xs (s ∷ rest))) ∙ begins) in
        ap (items_text [] false) written_more ∙ items_both [] false ws w first ∙ ap₂ (λ y z. before ++ items_text y z w) (sym h) (sym m)

    -- what is written of the items is that of these, and then that of the rest
    text_rest : (later : Text) × (items_text [] false (map (written_at d) (xs ++ s ∷ rest)) ≡ before ++ (mine ++ later))
    text_rest =
        let ws = map (written_at d) one_more in
        let rs = map (written_at d) rest in
        let whole : map (written_at d) (xs ++ s ∷ rest) ≡ ws ++ rs =
        ap (map (written_at d)) (sym (append_assoc xs (s ∷ []) rest)) ∙ map-append (written_at d) one_more rest in
        let later = items_text (open_after [] ws) (more_after false ws) rs in (
          later,
          ap (items_text [] false) whole
              ∙ items_both [] false ws rs (begin_left [] ws rs (ap (is_begin []) (sym whole) ∙ begins))
              ∙ ap (λ z. z ++ later) text_more ∙ append_assoc before mine later,
        )

    -- a sink after one more item, and after a prefix of it
    pub sent_step : {W : Type 0} {its : sink.Ghosts W} {a b c : W} → Took its a b before → Took its b c mine
        → Took its a c (items_text [] false (map (written_at d) one_more))
    sent_step {its = its} {a = a} {c = c} p q = subst (Took its a c) (sym text_more) (took_both p q)

    pub sent_part : {W : Type 0} {its : sink.Ghosts W} {failed : Bool} {a b c : W} → Took its a b before → TookFront its failed b c mine
        → TookFront its failed a c (items_text [] false (map (written_at d) (xs ++ s ∷ rest)))
    sent_part {its = its} {failed = failed} {a = a} {c = c} p q = subst (TookFront its failed a c) (sym text_rest.1) (took_second p (took_first text_rest.0 q))

  pub arcs_step : (start now next : List (List Position))
      → now ≡ with_pieces start (flat_map (pieces (is_junction d)) (item_rings (map (item_at d) xs)))
      → next ≡ with_pieces now (flat_map (pieces (is_junction d)) (item_rings (item_at d s ∷ [])))
      → next ≡ with_pieces start (flat_map (pieces (is_junction d)) (item_rings (map (item_at d) one_more)))
  arcs_step start now next p q =
      let j = is_junction d in
      let front = item_rings (map (item_at d) xs) in
      let mine = item_rings (item_at d s ∷ []) in
      let both : item_rings (map (item_at d) one_more) ≡ front ++ mine =
      ap item_rings (map-append (item_at d) xs (s ∷ [])) ∙ item_rings-append (map (item_at d) xs) (item_at d s ∷ []) in
      q ∙ ap (λ z. with_pieces z (flat_map (pieces j) mine)) p
      ∙ sym (with_pieces-append j start start (flat_map (pieces j) front) (flat_map (pieces j) mine))
      ∙ ap (with_pieces start) (sym (flat_map-append (pieces j) front mine))
      ∙ ap (λ z. with_pieces start (flat_map (pieces j) z)) (sym both)
