-- The list of values, as the writer writes it, is a value, and these are its items.
use Rattle.kit_words.proofs.Common.{◌≡◌, ℕ, suc, ◌+◌, List, [], ◌∷◌, ◌++◌, length, map, refl, sym, ap, subst}
use Rattle.kit_words.proofs.Common.{append_assoc, AllByRecursion, append-nil}
use Rattle.ring_machine.specs.Common.{Text}
use Rattle.json_spans.specs.Common.{no_space, Value, list, no_item, some_items, item, MoreItems, list_end, next_item}
use Rattle.json_spans.specs.Common.{Node, IsValue, Padded, padded, Parted, last_part, next_part, Bracketed, no_part}
use Rattle.json_spans.specs.Common.{parts, IsListOf}
use Rattle.json_spans.proofs.Common.{value_framed, stands}
use Rattle.topo_outline.specs.Common.{IsJson}
use Rattle.map_text.specs.Common.{further, list_text}
use Rattle.map_text.proofs.GrammarDeeper.{all_at_once}

abbrev pub bytes_of : Node → List ℕ
bytes_of node = node.bytes

-- ---- the value

more_items : (n : ℕ) (ts : List Text) → AllByRecursion (IsValue n) ts → MoreItems n (further ts ++ (93 ∷ [])) []
more_items n [] h = list_end
more_items n (t ∷ ts) h =
    subst (λ z. MoreItems n z []) (sym (append_assoc (44 ∷ t) (further ts) (93 ∷ [])))
    (next_item no_space (item (stands (value_framed h.0) (further ts ++ (93 ∷ []))) no_space (more_items n ts h.1)))

list_is_value : (n : ℕ) (ts : List Text) → AllByRecursion (IsValue n) ts → IsValue (suc n) (list_text ts)
list_is_value n [] h = list no_space no_item
list_is_value n (t ∷ ts) h =
    subst (λ z. Value (suc n) (91 ∷ z) []) (sym (append_assoc t (further ts) (93 ∷ [])))
    (list no_space (some_items (item (stands (value_framed h.0) (further ts ++ (93 ∷ []))) no_space (more_items n ts h.1))))

-- the list of JSON values is JSON
pub list_is_json : (ts : List Text) → AllByRecursion IsJson ts → IsJson (list_text ts)
list_is_json ts h = let all = all_at_once ts h in (suc all.0, list_is_value all.0 ts all.1)

-- ---- the items

pub bare : {A : List ℕ → Type 0} (place : ℕ) (t : List ℕ) → A t → Padded A place t (record { at_byte = place + 0; bytes = t })
bare {A = A} place t v = subst (λ z. Padded A place z (record { at_byte = place + 0; bytes = t })) (append-nil t) (padded {front = []} {bytes = t} {back = []} no_space v no_space)

record Listed (n place : ℕ) (inside : List ℕ) (ts : List Text) : Type 0 where
  nodes : List Node
  parted : Parted (Padded (IsValue n)) 93 place inside nodes
  are : map bytes_of nodes ≡ ts

listed : (n place : ℕ) (t : Text) (ts : List Text) → IsValue n t → AllByRecursion (IsValue n) ts → Listed n place ((t ++ further ts) ++ (93 ∷ [])) (t ∷ ts)
listed n place t [] v h = record {
  nodes = record { at_byte = place + 0; bytes = t } ∷ [];
  parted = subst (λ z. Parted (Padded (IsValue n)) 93 place (z ++ (93 ∷ [])) (record { at_byte = place + 0; bytes = t } ∷ [])) (sym (append-nil t)) (last_part (bare place t v));
  are = refl;
}
listed n place t (u ∷ us) v h =
    let rest = listed n (place + length t + 1) u us h.0 h.1 in
    record {
      nodes = record { at_byte = place + 0; bytes = t } ∷ rest.nodes;
      parted = subst (λ z. Parted (Padded (IsValue n)) 93 place z (record { at_byte = place + 0; bytes = t } ∷ rest.nodes)) (sym (append_assoc t (44 ∷ (u ++ further us)) (93 ∷ []))) (next_part (bare place t v) rest.parted);
      are = ap (λ (z : List Text). t ∷ z) rest.are;
    }

-- the node is a list of these texts
pub record HasTexts (node : Node) (ts : List Text) : Type 0 where
  pub nodes : List Node
  pub list : IsListOf node nodes
  pub are : map bytes_of nodes ≡ ts

all_listed : (n : ℕ) (node : Node) (ts : List Text) → node.bytes ≡ list_text ts → AllByRecursion (IsValue n) ts → HasTexts node ts
all_listed n node [] e h = record {
  nodes = [];
  list = (n, subst (λ z. Bracketed (Padded (IsValue n)) 91 93 node.at_byte z []) (sym e) (no_part no_space));
  are = refl;
}
all_listed n node (t ∷ ts) e h =
    let all = listed n (node.at_byte + 1) t ts h.0 h.1 in
    record {
      nodes = all.nodes;
      list = (n, subst (λ z. Bracketed (Padded (IsValue n)) 91 93 node.at_byte z all.nodes) (sym e) (parts all.parted));
      are = all.are;
    }

-- the items of a list are the values that it was made of
pub has_texts : (node : Node) (ts : List Text) → node.bytes ≡ list_text ts → AllByRecursion IsJson ts → HasTexts node ts
has_texts node ts e h = let all = all_at_once ts h in all_listed all.0 node ts e all.1
