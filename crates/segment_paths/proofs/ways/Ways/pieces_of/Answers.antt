use Rattle.kit_words.proofs.Common.{Contains, ap, refl, subst, length, ◌∙◌, arith, All, All-same, All-nil, All-push}
use Rattle.segment_paths.specs.Common.{paths_seen, IsPiece, IsLinkOf}
use Rattle.segment_paths.proofs.Led.{whole_known}
use Rattle.segment_paths.proofs.ways.Ways.pieces_of.Goals as goal
use Rattle.segment_paths.proofs.ways.Ways.pieces_of.Goals.{then-is_whole+in_ok-push, else-is_whole}

pub returns-clause-pieces : goal.returns-clause-pieces
returns-clause-pieces g c ss h =
    let paths = paths_seen c.args.self.now.paths.items in
    let first : All (IsPiece ss paths) c.if-is_whole.found.items = elim c.if-is_whole.branch [
      | then-is_whole+in_ok-push w ↦
          All-same (IsPiece ss paths) _ _ (ap (λ v. v.items) w.found-is ∙ w.in_ok-push.ensures.items)
          (All-push (IsPiece ss paths) _ _ (All-same (IsPiece ss paths) _ _ c.new-found.ensures.items (All-nil (IsPiece ss paths)))
          (whole_known ss paths c.args.link (subst (λ z. Contains z c.args.link) h.segments (c.is_whole.ensures.among w.if-is_whole.true))
          (c.is_whole.ensures.alone w.if-is_whole.true h.paths.ascending)))
      | else-is_whole w ↦ All-same (IsPiece ss paths) _ _ (ap (λ v. v.items) w.found-is ∙ c.new-found.ensures.items) (All-nil (IsPiece ss paths))
    ] in
    c.in_ok-push_pieces.ensures.kept ss paths first (All-same (IsPiece ss paths) _ _ c.as_slice.ensures.value h.links)

pub returns-clause-whole : goal.returns-clause-whole
returns-clause-whole g c none some =
    let same = c.in_ok-push_pieces.ensures.none (c.as_slice.ensures.value ∙ none) in
    elim c.if-is_whole.branch [
      | then-is_whole+in_ok-push w ↦ c.is_whole.ensures.among w.if-is_whole.true
      | else-is_whole w ↦ absurd (omega (arith, some, ap length (same ∙ ap (λ v. v.items) w.found-is ∙ c.new-found.ensures.items)))
    ]

pub returns-clause-same : goal.returns-clause-same
returns-clause-same g c =
    c.in_ok-push_pieces.ensures.same (elim c.if-is_whole.branch [
      | then-is_whole+in_ok-push w ↦
          All-same (IsLinkOf c.args.link) _ _ (ap (λ v. v.items) w.found-is ∙ w.in_ok-push.ensures.items)
          (All-push (IsLinkOf c.args.link) _ _ (All-same (IsLinkOf c.args.link) _ _ c.new-found.ensures.items (All-nil (IsLinkOf c.args.link))) refl)
      | else-is_whole w ↦ All-same (IsLinkOf c.args.link) _ _ (ap (λ v. v.items) w.found-is ∙ c.new-found.ensures.items) (All-nil (IsLinkOf c.args.link))
    ])
