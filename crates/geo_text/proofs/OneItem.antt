-- One item of a layer, by the piece that it is.
use Rattle.kit_words.proofs.Common.{◌≡◌, ℕ, ◌+◌, ◌∙◌, ◌∷◌, [], Bool, true, false, List, ap, ap₂, refl, sym, Ok}
use Rattle.grid_geometry.specs.Common.{Position}
use Rattle.json_spans.specs.Common.{Node}
use Rattle.ring_machine.specs.Common.{Close, Form, Head, Kept, Leaf, Open, Text}
use Rattle.topo_outline.specs.Common.{Piece, ends, items_from, leaf, numbered, polygons_at, starts, text}
use Rattle.geo_text.specs.Items.{At, after_items, close_text, closed_in, item_text, items_texts, open_text, passed, passed_in}
use Rattle.geo_features.specs.Style.{Style}
use Rattle.geo_text.proofs.ItemTexts.{after_kept, after_leaf, one_after, one_text}

module _ (s : Style) (at : At) (n : ℕ) (all : List (List (List (List Position)))) (flattens : Bool) (p : Piece) where
  -- where collections are taken apart, their begins and ends are nothing
  pub flat_begin : (h : Head) → p ≡ starts h → flattens ≡ true → items_texts flattens s at (items_from n all (p ∷ [])) ≡ Ok []
  flat_begin h is flat = ap₂ (λ (b : Bool) (q : Piece). items_texts b s at (items_from n all (q ∷ []))) flat is ∙ one_text true s at (Open h)

  pub flat_end : p ≡ ends → flattens ≡ true → items_texts flattens s at (items_from n all (p ∷ [])) ≡ Ok []
  flat_end is flat = ap₂ (λ (b : Bool) (q : Piece). items_texts b s at (items_from n all (q ∷ []))) flat is ∙ one_text true s at Close

  pub begin_text : (h : Head) → p ≡ starts h → flattens ≡ false → items_texts flattens s at (items_from n all (p ∷ [])) ≡ open_text at h
  begin_text h is flat = ap₂ (λ (b : Bool) (q : Piece). items_texts b s at (items_from n all (q ∷ []))) flat is ∙ one_text false s at (Open h)

  pub end_text : p ≡ ends → flattens ≡ false → items_texts flattens s at (items_from n all (p ∷ [])) ≡ close_text at.heads
  end_text is flat = ap₂ (λ (b : Bool) (q : Piece). items_texts b s at (items_from n all (q ∷ []))) flat is ∙ one_text false s at Close

  pub point_text : (t : Text) → p ≡ text t → items_texts flattens s at (items_from n all (p ∷ [])) ≡ item_text flattens s at (Kept t)
  point_text t is = ap (λ (q : Piece). items_texts flattens s at (items_from n all (q ∷ []))) is ∙ one_text flattens s at (Kept t)

-- ---- how far the layer is written then

passed_point : (at : At) (k : ℕ) → passed (record at { point = k }) ≡ record (passed at) { point = k }
passed_point at k = by at.heads
  where
    by : (heads : List Head) → passed_in heads (record at { point = k }) ≡ record (passed_in heads at) { point = k }
    by [] = refl
    by (h ∷ heads) = refl

module _ (at : At) (n : ℕ) (all : List (List (List (List Position)))) (flattens : Bool) (p : Piece) where
  pub after_flat_begin : (h : Head) → p ≡ starts h → flattens ≡ true → at ≡ after_items flattens at (items_from n all (p ∷ []))
  after_flat_begin h is flat = sym (ap₂ (λ (b : Bool) (q : Piece). after_items b at (items_from n all (q ∷ []))) flat is ∙ one_after true at (Open h))

  pub after_flat_end : p ≡ ends → flattens ≡ true → at ≡ after_items flattens at (items_from n all (p ∷ []))
  after_flat_end is flat = sym (ap₂ (λ (b : Bool) (q : Piece). after_items b at (items_from n all (q ∷ []))) flat is ∙ one_after true at Close)

  pub after_begin : (h : Head) → p ≡ starts h → flattens ≡ false → record at { heads = h ∷ at.heads; more = false } ≡ after_items flattens at (items_from n all (p ∷ []))
  after_begin h is flat = sym (ap₂ (λ (b : Bool) (q : Piece). after_items b at (items_from n all (q ∷ []))) flat is ∙ one_after false at (Open h))

  pub after_end : p ≡ ends → flattens ≡ false → closed_in at.heads at ≡ after_items flattens at (items_from n all (p ∷ []))
  after_end is flat = sym (ap₂ (λ (b : Bool) (q : Piece). after_items b at (items_from n all (q ∷ []))) flat is ∙ one_after false at Close)

  pub after_feature : (form : Form) (head : Head) (arcs : Node) → p ≡ leaf form head arcs → passed at ≡ after_items flattens at (items_from n all (p ∷ []))
  after_feature form head arcs is =
      let f = numbered n form head (polygons_at all n) in
      sym (ap (λ (q : Piece). after_items flattens at (items_from n all (q ∷ []))) is ∙ one_after flattens at (Leaf f) ∙ after_leaf flattens at f)

  pub after_point : (t : Text) → p ≡ text t → passed (record at { point = at.point + 1 }) ≡ after_items flattens at (items_from n all (p ∷ []))
  after_point t is =
      passed_point at (at.point + 1)
      ∙ sym (ap (λ (q : Piece). after_items flattens at (items_from n all (q ∷ []))) is ∙ one_after flattens at (Kept t) ∙ after_kept flattens at t)
