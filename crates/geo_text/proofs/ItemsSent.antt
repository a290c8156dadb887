-- The items of a layer, sent one after another.
use Rattle.kit_words.proofs.Common.{◌≡◌, ℕ, suc, ◌+◌, ◌≤◌, ◌++◌, ◌∙◌, ◌∷◌, [], Bool, true, false, List, length, ap, sym, refl, subst, arith, Option, Some, None, Result, Ok, Err, ◌<◌, append-nil, drop, get_or, length-append, map, map-append, next_drop, take, take-append-drop}
use Rattle.std.proofs.Common.{add-zero, add_assoc}
use Rattle.device_io.specs.Common.{Took, TookFront}
use Rattle.device_io.specs.declared.Sink as sink
use Rattle.device_io.proofs.Common.{took_both, took_nothing}
use Rattle.grid_geometry.specs.Common.{Position}
use Rattle.json_spans.specs.Common.{Node}
use Rattle.ring_machine.specs.Common.{Close, Form, Head, Item, Kept, Leaf, Open, Text}
use Rattle.topo_outline.specs.Common.{Piece, at_most_one, ends, items_from, leaf, leaf_of, leaves_in, numbered, polygons_at, starts, text}
use Rattle.geo_features.specs.declared.fault.ExportFault.{ExportFault}
use Rattle.geo_features.specs.declared.fault.ExportFault.TheVariants as fault
use Rattle.geo_text.specs.Exported.{TookAll, TookSome}
use Rattle.geo_features.specs.Faults.{GeoFault, ◌>>=◌}
use Rattle.geo_features.specs.Gives.{IsGeoFault, IsSendFault, of_device}
use Rattle.geo_text.specs.Items.{At, after_item, after_items, closed_in, items_text, items_texts, list_end, passed, passed_in}
use Rattle.geo_features.specs.Style.{Style}
use Rattle.geo_features.proofs.Carrying.{carry}
use Rattle.geo_text.proofs.Counted.{leaves-append}
use Rattle.geo_text.proofs.ItemTexts.{after_both, from_both, items_both}
use Rattle.geo_text.proofs.Sent.{failed, stopped}

abbrev pub Polys : Type 0
Polys = List (List (List (List Position)))

-- ---- what one item adds

few_passed : (heads : List Head) (at : At) → ((passed_in heads at).feature ≤ at.feature + 1) × ((passed_in heads at).point ≤ at.point)
few_passed [] at = (omega arith, omega arith)
few_passed (h ∷ heads) at = (omega arith, omega arith)

few_closed : (heads : List Head) (at : At) → ((closed_in heads at).feature ≤ at.feature + 1) × ((closed_in heads at).point ≤ at.point)
few_closed [] at = (omega arith, omega arith)
few_closed (h ∷ heads) at = few_passed heads (record at { heads = heads })

few_item : (flattens : Bool) (at : At) (i : Item) → ((after_item flattens at i).feature ≤ at.feature + 1) × ((after_item flattens at i).point ≤ at.point + 1)
few_item true at (Open h) = (omega arith, omega arith)
few_item true at Close = (omega arith, omega arith)
few_item false at (Open h) = (omega arith, omega arith)
few_item false at Close = let f = few_closed at.heads at in (f.0, omega (arith, f.1))
few_item true at (Leaf f) = let k = few_passed at.heads at in (k.0, omega (arith, k.1))
few_item false at (Leaf f) = let k = few_passed at.heads at in (k.0, omega (arith, k.1))
few_item true at (Kept t) = ((few_passed at.heads at).0, omega arith)
few_item false at (Kept t) = ((few_passed at.heads at).0, omega arith)

few_after : (flattens : Bool) (all : Polys) (n : ℕ) (at : At) (x : Piece)
    → ((after_items flattens at (items_from n all (x ∷ []))).feature ≤ at.feature + 1) × ((after_items flattens at (items_from n all (x ∷ []))).point ≤ at.point + 1)
unfolding after_items
few_after flattens all n at x = by (items_from n all (x ∷ [])) (one all n x)
  where
    one : (all : Polys) (n : ℕ) (x : Piece) → (i : Item) × (items_from n all (x ∷ []) ≡ i ∷ [])
    one all n (starts h) = (Open h, refl)
    one all n ends = (Close, refl)
    one all n (leaf form head arcs) = (Leaf (numbered n form head (polygons_at all n)), refl)
    one all n (text t) = (Kept t, refl)

    by : (items : List Item) → (i : Item) × (items ≡ i ∷ [])
        → ((after_items flattens at items).feature ≤ at.feature + 1) × ((after_items flattens at items).point ≤ at.point + 1)
    by items p = subst (λ z. ((after_items flattens at z).feature ≤ at.feature + 1) × ((after_items flattens at z).point ≤ at.point + 1)) (sym p.1) (few_item flattens at p.0)

one_leaf : (o : Option (Form × Node)) → length (at_most_one o) ≤ 1
one_leaf None = omega arith
one_leaf (Some f) = omega arith

leaves-one : (x : Piece) → leaves_in (x ∷ []) ≡ at_most_one (leaf_of x)
unfolding leaves_in
leaves-one x = append-nil (at_most_one (leaf_of x))

-- the elements before one, it, and those after it
pub map_split : {A B : Type 0} (f : A → B) (xs : List A) (i : ℕ) (x : A) → i < length xs → x ≡ get_or xs i x → map f xs ≡ map f (take i xs) ++ f x ∷ map f (drop (i + 1) xs)
map_split f xs i x lt is =
    ap (map f) (sym (take-append-drop i xs) ∙ ap (λ z. take i xs ++ z) (next_drop xs i x lt is)) ∙ map-append f (take i xs) (x ∷ drop (i + 1) xs)

-- ---- the items so far

-- the sink took the text of these items, the first of which is the feature with this number of the map; and so far it is written
pub record AreSent {W : Type 0} (its : sink.Ghosts W) (flattens : Bool) (s : Style) (all : Polys) (first : ℕ) (start : At) (pieces : List Piece)
    (old now : W) (at : At) (next : ℕ) : Type 0 where
  pub text : Text
  pub is : items_texts flattens s start (items_from first all pieces) ≡ Ok text
  pub took : Took its old now text
  pub at_is : at ≡ after_items flattens start (items_from first all pieces)
  pub next_is : next ≡ first + length (leaves_in pieces)
  pub few_features : at.feature ≤ start.feature + length pieces
  pub few_leaves : next ≤ first + length pieces
  pub few_points : at.point ≤ start.point + length pieces

module _ {W : Type 0} {its : sink.Ghosts W} (flattens : Bool) (s : Style) (all : Polys) (first : ℕ) (start : At) where
  pub none_sent : (now : W) → its.has_failed now ≡ false → AreSent its flattens s all first start [] now now start first
  unfolding items_texts after_items leaves_in
  none_sent now works = record {
    text = [];
    is = refl;
    took = took_nothing works;
    at_is = refl;
    next_is = sym (add-zero first);
    few_features = omega arith;
    few_leaves = omega arith;
    few_points = omega arith;
  }

  module _ (pieces : List Piece) (old mid : W) (at : At) (next : ℕ) (sent : AreSent its flattens s all first start pieces old mid at next) (x : Piece) where
    -- the items up to this one, and those after them
    split : (rest : List Piece) → items_from first all (pieces ++ rest) ≡ items_from first all pieces ++ items_from next all rest
    split rest = from_both all first pieces rest ∙ ap (λ n. items_from first all pieces ++ items_from n all rest) (sym sent.next_is)

    texts_split : (rest : List Piece) → items_texts flattens s start (items_from first all (pieces ++ rest))
        ≡ (items_texts flattens s at (items_from next all rest) >>= λ t. Ok (sent.text ++ t))
    texts_split rest =
        ap (items_texts flattens s start) (split rest) ∙ items_both flattens s start (items_from first all pieces) (items_from next all rest)
        ∙ ap (λ r. r >>= λ a. items_texts flattens s (after_items flattens start (items_from first all pieces)) (items_from next all rest) >>= λ b. Ok (a ++ b)) sent.is
        ∙ ap (λ z. items_texts flattens s z (items_from next all rest) >>= λ t. Ok (sent.text ++ t)) (sym sent.at_is)

    pub one_sent : (now : W) (t : Text) (after : At) (later : ℕ) → items_texts flattens s at (items_from next all (x ∷ [])) ≡ Ok t → Took its mid now t
        → after ≡ after_items flattens at (items_from next all (x ∷ [])) → later ≡ next + length (at_most_one (leaf_of x))
        → AreSent its flattens s all first start (pieces ++ x ∷ []) old now after later
    one_sent now t after later is took at_is later_is =
        let long : length (pieces ++ x ∷ []) ≡ length pieces + 1 = length-append pieces (x ∷ []) in
        let few = few_after flattens all next at x in
        let same : after.feature ≡ (after_items flattens at (items_from next all (x ∷ []))).feature = ap (λ (z : At). z.feature) at_is in
        let point : after.point ≡ (after_items flattens at (items_from next all (x ∷ []))).point = ap (λ (z : At). z.point) at_is in
        let more : length (leaves_in (pieces ++ x ∷ [])) ≡ length (leaves_in pieces) + length (at_most_one (leaf_of x)) =
        ap length (leaves-append pieces (x ∷ []) ∙ ap (λ z. leaves_in pieces ++ z) (leaves-one x)) ∙ length-append (leaves_in pieces) (at_most_one (leaf_of x)) in
        let one = one_leaf (leaf_of x) in
        record {
          text = sent.text ++ t;
          is = texts_split (x ∷ []) ∙ rw is refl;
          took = took_both sent.took took;
          at_is =
              at_is ∙ ap (λ z. after_items flattens z (items_from next all (x ∷ []))) sent.at_is
              ∙ sym (after_both flattens start (items_from first all pieces) (items_from next all (x ∷ [])))
              ∙ ap (after_items flattens start) (sym (split (x ∷ [])));
          next_is = omega (arith, later_is, sent.next_is, more);
          few_features = omega (arith, same, few.0, sent.few_features, long);
          few_leaves = omega (arith, later_is, sent.few_leaves, long, one);
          few_points = omega (arith, point, few.1, sent.few_points, long);
        }

    -- the next item is at fault
    pub next_stops : (rest : List Piece) (e : ExportFault) → IsGeoFault e (items_texts flattens s at (items_from next all (x ∷ [])))
        → IsGeoFault e (items_text flattens s start (items_from first all (pieces ++ x ∷ rest)))
    next_stops rest e is =
        let one = items_from next all (x ∷ []) in
        let others = items_from (next + length (leaves_in (x ∷ []))) all rest in
        let front : items_from next all (x ∷ rest) ≡ one ++ others = from_both all next (x ∷ []) rest in
        carry e (items_texts flattens s at one) (items_text flattens s start (items_from first all (pieces ++ x ∷ rest)))
        (λ f fx.
        let here : items_texts flattens s at (items_from next all (x ∷ rest)) ≡ Err f = ap (items_texts flattens s at) front ∙ items_both flattens s at one others ∙ rw fx refl in
        let whole : items_texts flattens s start (items_from first all (pieces ++ x ∷ rest)) ≡ Err f = texts_split (x ∷ rest) ∙ rw here refl in
        rw whole refl)
        is

  -- all items are sent, and then the end
  pub all_sent : (pieces : List Piece) (old mid now : W) (at : At) (next : ℕ) → AreSent its flattens s all first start pieces old mid at next
      → (t : Text) → t ≡ list_end at.feature → Took its mid now t → TookAll its old now (items_text flattens s start (items_from first all pieces))
  all_sent pieces old mid now at next sent t e took = record {
    text = sent.text ++ t;
    is = rw (sent.is, e, sent.at_is) refl;
    took = took_both sent.took took;
  }
