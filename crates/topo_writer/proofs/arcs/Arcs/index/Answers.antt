use Rattle.kit_words.proofs.Common.{rules, arith, ◌≡◌, pos, negsuc, None, Some, sym, ap, ap₂, subst, ◌∙◌, length, ◌++◌}
use Rattle.kit_words.proofs.Common.{cond, List, [], ◌∷◌, ◌-◌, to_z, of_z, w64, is_some, length-append}
use Rattle.std.proofs.Math.Facts.{to_z-of_z}
use Rattle.grid_geometry.specs.Common.{Position}
use Rattle.indexmap.specs.IndexMap.{get}
use Rattle.ring_machine.specs.Common.{edge_eq}
use Rattle.topo_writer.specs.Common.{arc_found, first_edge, last_edge, with_found, listed_arcs, Finds}
use Rattle.topo_writer.proofs.FoundLaws.{found_first, found_both, found_known, at_place_is}
use Rattle.topo_writer.proofs.Listed.{listed_push}
use Rattle.topo_writer.proofs.arcs.Arcs.index.Given.{Over}
use Rattle.topo_writer.proofs.arcs.Arcs.index.Goals as goal

-- ---- where the piece is found

pub returns-in-Some-clause-arcs : goal.returns-in-Some-clause-arcs
returns-in-Some-clause-arcs g c arcs h f =
    let first : (c.index-piece-0.result, c.index-piece-1.result) ≡ first_edge c.args.piece.now =
    ap₂ (λ x y. (x, y)) (at_place_is c.args.piece.now 0 _ (omega (arith, c.requires.long)) c.index-piece-0.is) (at_place_is c.args.piece.now 1 _ (omega (arith, c.requires.long)) c.index-piece-1.is) in
    subst (Finds c.args.self.now) (sym (found_known arcs c.args.piece.now _ _ (get edge_eq c.args.self.now.starts) h.has.mirrors first c.in-Some.ensures).0) h

pub returns-in-Some-clause-index : goal.returns-in-Some-clause-index
returns-in-Some-clause-index g c arcs h f =
    let first : (c.index-piece-0.result, c.index-piece-1.result) ≡ first_edge c.args.piece.now =
    ap₂ (λ x y. (x, y)) (at_place_is c.args.piece.now 0 _ (omega (arith, c.requires.long)) c.index-piece-0.is) (at_place_is c.args.piece.now 1 _ (omega (arith, c.requires.long)) c.index-piece-1.is) in
    let known = found_known arcs c.args.piece.now _ _ (get edge_eq c.args.self.now.starts) h.has.mirrors first c.in-Some.ensures in
    let e : to_z w64 (of_z w64 c.in-Some.index) ≡ c.in-Some.index = search (rules, to_z-of_z) in
    ap (λ z. arc_found z (first_edge c.args.piece.now)) known.0 ∙ known.1 ∙ ap (λ z. Some z) (sym e)

-- ---- where it becomes an arc

begin : (g : Over) (c : goal.After-self-1 g) → (c.index-piece-0.result, c.index-piece-1.result) ≡ first_edge c.args.piece.now
begin g c = ap₂ (λ x y. (x, y)) (at_place_is c.args.piece.now 0 _ (omega (arith, c.requires.long)) c.index-piece-0.is) (at_place_is c.args.piece.now 1 _ (omega (arith, c.requires.long)) c.index-piece-1.is)

begin-2 : (g : Over) (c : goal.After-self-1 g) → (c.index-piece-0-2.result, c.index-piece-1-2.result) ≡ first_edge c.args.piece.now
begin-2 g c = ap₂ (λ x y. (x, y)) (at_place_is c.args.piece.now 0 _ (omega (arith, c.requires.long)) c.index-piece-0-2.is) (at_place_is c.args.piece.now 1 _ (omega (arith, c.requires.long)) c.index-piece-1-2.is)

end : (g : Over) (c : goal.After-self-1 g) → (c.index-piece-n.result, c.index-piece-n-2.result) ≡ last_edge c.args.piece.now
end g c = ap₂ (λ x y. (x, y)) (at_place_is c.args.piece.now (length c.args.piece.now - 1) _ (omega (arith, c.requires.long)) c.index-piece-n.is) (at_place_is c.args.piece.now (length c.args.piece.now - 2) _ (omega (arith, c.requires.long)) c.index-piece-n-2.is)

module _ (g : Over) (c : goal.After-self-1 g) (arcs : List (List Position)) (h : Finds c.args.self.now arcs) where
  none_first : arc_found arcs (first_edge c.args.piece.now) ≡ None
  none_first = ap (arc_found arcs) (sym (begin g c)) ∙ sym (h.has.mirrors (c.index-piece-0.result, c.index-piece-1.result)) ∙ sym c.in_default.ensures

  grown : with_found arcs c.args.piece.now ≡ arcs ++ c.args.piece.now ∷ []
  grown = ap (λ o. cond (is_some o) arcs (arcs ++ c.args.piece.now ∷ [])) none_first

  forward_is : to_z w64 (of_z w64 c.forward-index.result) ≡ pos (length arcs)
  forward_is =
      let e : to_z w64 (of_z w64 c.forward-index.result) ≡ c.forward-index.result = search (rules, to_z-of_z) in
      e ∙ c.forward-index.ensures ∙ ap pos h.has.counts

  backward_is : to_z w64 (of_z w64 c.backward-reversed.result) ≡ negsuc (length arcs)
  backward_is =
      let e : to_z w64 (of_z w64 c.backward-reversed.result) ≡ c.backward-reversed.result = search (rules, to_z-of_z) in
      e ∙ c.backward-reversed.ensures ∙ ap negsuc h.has.counts

pub returns-clause-index : goal.returns-clause-index
returns-clause-index g c arcs h f =
    ap (λ z. arc_found z (first_edge c.args.piece.now)) (grown g c arcs h)
    ∙ found_first arcs c.args.piece.now (none_first g c arcs h) ∙ ap (λ z. Some z) (sym (forward_is g c arcs h))

pub returns-clause-arcs : goal.returns-clause-arcs
returns-clause-arcs g c arcs h f =
    let none = none_first g c arcs h in
    record {
      has = record {
        mirrors = λ e.
            found_both arcs c.args.piece.now (get edge_eq c.args.self.now.starts) (get edge_eq c.note.new.self.starts) (get edge_eq c.note-2.new.self.starts)
            (c.index-piece-0-2.result, c.index-piece-1-2.result) (c.index-piece-n.result, c.index-piece-n-2.result)
            (to_z w64 (of_z w64 c.forward-index.result)) (to_z w64 (of_z w64 c.backward-reversed.result)) (begin-2 g c) (end g c) (forward_is g c arcs h) (backward_is g c arcs h)
            h.has.mirrors none (f.both none) f.apart
            c.in_ok-note.ensures.updates.0 c.in_ok-note-2.ensures.updates.0 e
            ∙ ap (λ z. arc_found z e) (sym (grown g c arcs h));
        counts = omega (arith, h.has.counts, c.in_ok-note.ensures.count, c.in_ok-note-2.ensures.count, ap length (grown g c arcs h), length-append arcs (c.args.piece.now ∷ []));
      };
      listed =
          ap (λ v. v.items) (c.in_ok-note-2.ensures.listed ∙ c.in_ok-note.ensures.listed)
          ∙ listed_push c.args.self.now.delta arcs c.args.piece.now c.args.self.now.count _ _ _ h.has.counts h.listed c.in_ok-push_comma.ensures c.in_ok-push_arc.ensures
          ∙ ap₂ (λ b z. listed_arcs b z) (sym (c.in_ok-note-2.ensures.delta ∙ c.in_ok-note.ensures.delta)) (sym (grown g c arcs h));
    }
