-- The items of a written list stand for what it was made of, one by one.
use Rattle.kit_words.proofs.Common.{◌≡◌, List, [], ◌∷◌, map, refl, ap, AllByRecursion, AllZip}
use Rattle.ring_machine.specs.Common.{Text}
use Rattle.json_spans.specs.Common.{Node, IsListFor}
use Rattle.topo_outline.specs.Common.{IsJson}
use Rattle.map_text.specs.Common.{list_text}
use Rattle.map_text.proofs.GrammarLists.{bytes_of, has_texts, list_is_json}

pub all_mapped : {A : Type 0} (Q : A → Type 0) (P : Text → Type 0) (f : A → Text) (xs : List A) → ((x : A) → Q x → P (f x)) → AllByRecursion Q xs → AllByRecursion P (map f xs)
all_mapped Q P f [] h q = tt
all_mapped Q P f (x ∷ xs) h q = (h x q.0, all_mapped Q P f xs h q.1)

pub all_made : {A : Type 0} (Q P : A → Type 0) (xs : List A) → ((x : A) → Q x → P x) → AllByRecursion Q xs → AllByRecursion P xs
all_made Q P [] h q = tt
all_made Q P (x ∷ xs) h q = (h x q.0, all_made Q P xs h q.1)

abbrev head_of : {A : Type 0} → A → List A → A
head_of u [] = u
head_of u (t ∷ ts) = t

abbrev tail_of : {A : Type 0} → List A → List A
tail_of [] = []
tail_of (t ∷ ts) = ts

pub first_same : {A : Type 0} (s t : A) (ss ts : List A) → s ∷ ss ≡ t ∷ ts → s ≡ t
first_same s t ss ts e = ap (head_of s) e

pub rest_same : {A : Type 0} (s t : A) (ss ts : List A) → s ∷ ss ≡ t ∷ ts → ss ≡ ts
rest_same {A} s t ss ts e = ap (tail_of {A = A}) e

-- each node with these bytes stands for x, where Q holds of x
abbrev pub Stands : {A : Type 0} → (A → Type 0) → (Node → A → Type 0) → (A → Text) → Type 0
Stands {A} Q R f = (n : Node) (x : A) → Q x → n.bytes ≡ f x → R n x

pub zipped : {A : Type 0} (Q : A → Type 0) (R : Node → A → Type 0) (f : A → Text) (ns : List Node) (xs : List A) → Stands Q R f → map bytes_of ns ≡ map f xs → AllByRecursion Q xs → AllZip R ns xs
zipped Q R f [] [] h e q = tt
zipped Q R f [] (x ∷ xs) h e q = absurd cc
zipped Q R f (n ∷ ns) [] h e q = absurd cc
zipped Q R f (n ∷ ns) (x ∷ xs) h e q =
    (h n x q.0 (first_same n.bytes (f x) (map bytes_of ns) (map f xs) e), zipped Q R f ns xs h (rest_same n.bytes (f x) (map bytes_of ns) (map f xs) e) q.1)

pub list_stands : {A : Type 0} (Q : A → Type 0) (R : Node → A → Type 0) (f : A → Text) (n : Node) (xs : List A) → Stands Q R f → ((x : A) → Q x → IsJson (f x)) → AllByRecursion Q xs → n.bytes ≡ list_text (map f xs) → IsListFor R n xs
list_stands Q R f n xs h j q e =
    let found = has_texts n (map f xs) e (all_mapped Q IsJson f xs j q) in
    (found.nodes, found.list, zipped Q R f found.nodes xs h found.are q)

pub list_json : {A : Type 0} (Q : A → Type 0) (f : A → Text) (xs : List A) → ((x : A) → Q x → IsJson (f x)) → AllByRecursion Q xs → IsJson (list_text (map f xs))
list_json Q f xs j q = list_is_json (map f xs) (all_mapped Q IsJson f xs j q)

-- the two nodes of a list of two
pub record AreTwo (ns : List Node) (s t : Text) : Type 0 where
  pub first : Node
  pub second : Node
  pub are : ns ≡ first ∷ second ∷ []
  pub first_is : first.bytes ≡ s
  pub second_is : second.bytes ≡ t

pub two : (ns : List Node) (s t : Text) → map bytes_of ns ≡ s ∷ t ∷ [] → AreTwo ns s t
two [] s t e = absurd cc
two (n ∷ []) s t e = let more : [] ≡ t ∷ [] = rest_same n.bytes s [] (t ∷ []) e in absurd cc
two (m ∷ n ∷ []) s t e = record { first = m; second = n; are = refl; first_is = first_same m.bytes s (n.bytes ∷ []) (t ∷ []) e; second_is = first_same n.bytes t [] [] (rest_same m.bytes s (n.bytes ∷ []) (t ∷ []) e) }
two (m ∷ n ∷ k ∷ ns) s t e = let more : k.bytes ∷ map bytes_of ns ≡ [] = ap (λ (z : List Text). tail_of (tail_of z)) e in absurd cc
