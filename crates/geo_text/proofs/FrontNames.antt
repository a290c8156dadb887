-- The members of a layer's collection, by their names.
use Rattle.kit_words.proofs.Common.{◌≡◌, ℕ, ◌+◌, ◌<◌, ◌||◌, ◌++◌, ◌∙◌, ◌∷◌, [], Bool, true, false, not, cond, if◌then◌else◌, List, Option, Some, None, is_some, length, map, drop, get_or, ap, refl, sym, option_map, Bor, map-append, get_or_default, append-nil}
use Rattle.kit_words.proofs.Common.{append_assoc, codes, list_any, next_drop}
use Rattle.json_spans.specs.Common.{decoded}
use Rattle.ring_machine.specs.Common.{Head, Member, Text}
use Rattle.topo_outline.specs.Common.{view_head, view_kept}
use Rattle.topo_outline.specs.declared.document.Head.{Head as CodeHead}
use Rattle.topo_outline.specs.declared.document.KeptMember.{KeptMember}
use Rattle.geo_text.specs.Found.{head_or_none}
use Rattle.geo_features.specs.Names.{HasNames, first_of, is_one_of, same_text}
use Rattle.geo_text.specs.Layer.{collection_members, has_already, has_name, has_named, missing_members, no_head}

-- ---- the names of a collection

-- the names have the one that stands for this text
pub is_named : (is_there : Text → Bool) (ms : List Member) (token t : Text) (b : Bool) → HasNames is_there ms → decoded token ≡ Some t → b ≡ is_there t → b ≡ has_named ms token
is_named is_there ms token t b h e is = is ∙ h t ∙ ap (λ o. list_any (λ m. same_text (decoded m.name) o) ms) (sym e)

same_none : (o : Option Text) → same_text o None ≡ false
same_none None = refl
same_none (Some t) = refl

none_named : (ms : List Member) → false ≡ list_any (λ m. same_text (decoded m.name) None) ms
none_named [] = refl
none_named (m ∷ ms) = none_named ms ∙ ap (λ b. b || list_any (λ m. same_text (decoded m.name) None) ms) (sym (same_none (decoded m.name)))

-- a name that stands for no text is none of them
pub not_named : (ms : List Member) (token : Text) → decoded token ≡ None → false ≡ has_named ms token
not_named ms token e = none_named ms ∙ ap (λ o. list_any (λ m. same_text (decoded m.name) o) ms) (sym e)

-- without a collection all members of the topology come along
pub all_missing : (ms : List Member) → ms ≡ missing_members no_head ms
all_missing [] = refl
all_missing (m ∷ ms) = ap (λ z. m ∷ z) (all_missing ms)

-- one member of the topology more
pub missing_turn : (h : Head) (ms : List KeptMember) (i : ℕ) (m d : KeptMember) (has : Bool) (old new whole : List Member) → i < length ms → m ≡ get_or ms i d
    → has ≡ has_already h m.name.now → new ≡ old ++ (if has then [] else (view_kept m ∷ []))
    → old ++ missing_members h (map view_kept (drop i ms)) ≡ whole → new ++ missing_members h (map view_kept (drop (i + 1) ms)) ≡ whole
missing_turn h ms i m d has old new whole lt is test put inv =
    let rest = missing_members h (map view_kept (drop (i + 1) ms)) in
    let step : missing_members h (map view_kept (drop i ms)) ≡ (if has then [] else (view_kept m ∷ [])) ++ rest =
    ap (λ z. missing_members h (map view_kept z)) (next_drop ms i m lt (is ∙ get_or_default ms i d m lt))
    ∙ ap (λ b. cond (not b) (view_kept m ∷ rest) rest) (sym test) ∙ by has (view_kept m) rest in
    ap (λ z. z ++ rest) put ∙ append_assoc old (if has then [] else (view_kept m ∷ [])) rest ∙ ap (λ z. old ++ z) (sym step) ∙ inv
  where
    by : (b : Bool) (x : Member) (xs : List Member) → cond (not b) (x ∷ xs) xs ≡ (if b then [] else (x ∷ [])) ++ xs
    by true x xs = refl
    by false x xs = refl

-- it is kept, or there already
pub missing_kept : (h : Head) (ms : List KeptMember) (i : ℕ) (m d : KeptMember) (has : Bool) (old new whole : List Member) → i < length ms → m ≡ get_or ms i d
    → has ≡ has_already h m.name.now → has ≡ false → new ≡ old ++ view_kept m ∷ []
    → old ++ missing_members h (map view_kept (drop i ms)) ≡ whole → new ++ missing_members h (map view_kept (drop (i + 1) ms)) ≡ whole
missing_kept h ms i m d has old new whole lt is test absent put inv =
    missing_turn h ms i m d has old new whole lt is test (put ∙ ap (λ b. old ++ (if b then [] else (view_kept m ∷ []))) (sym absent)) inv

pub missing_left : (h : Head) (ms : List KeptMember) (i : ℕ) (m d : KeptMember) (has : Bool) (old new whole : List Member) → i < length ms → m ≡ get_or ms i d
    → has ≡ has_already h m.name.now → has ≡ true → new ≡ old
    → old ++ missing_members h (map view_kept (drop i ms)) ≡ whole → new ++ missing_members h (map view_kept (drop (i + 1) ms)) ≡ whole
missing_left h ms i m d has old new whole lt is test there put inv =
    missing_turn h ms i m d has old new whole lt is test (put ∙ sym (append-nil old) ∙ ap (λ b. old ++ (if b then [] else (view_kept m ∷ []))) (sym there)) inv

-- ---- the member that is called `name`

any_found : (words : List (List ℕ)) (ms : List Member) (o : Option Member) → o ≡ first_of words ms → list_any (λ m. is_one_of words m.name) ms ≡ is_some o
any_found words [] o e = ap is_some (sym e)
any_found words (m ∷ ms) o e = by (is_one_of words m.name) e (any_found words ms o)
  where
    by : (b : Bool) → o ≡ cond b (Some m) (first_of words ms) → (o ≡ first_of words ms → list_any (λ m. is_one_of words m.name) ms ≡ is_some o)
        → (b || list_any (λ m. is_one_of words m.name) ms) ≡ is_some o
    by true e' h = ap is_some (sym e')
    by false e' h = h e'

pub name_there : (ms : List Member) (o : Option KeptMember) (none : Bool) → option_map view_kept o ≡ first_of (codes "name" ∷ []) ms → is_some o ≡ not none → has_name ms ≡ not none
name_there ms None none e n = any_found (codes "name" ∷ []) ms None e ∙ n
name_there ms (Some m) none e n = any_found (codes "name" ∷ []) ms (Some (view_kept m)) e ∙ n

-- ---- no collection

pub no_collection : {A : Type 0} (o : Option (Bor (CodeHead A))) (ms : List Member) → o ≡ None → ms ≡ collection_members (head_or_none (option_map (λ h. view_head h.now) o)) ms
no_collection {A = A} o ms e =
    all_missing ms ∙ ap (λ (q : Option (Bor (CodeHead A))). collection_members (head_or_none (option_map (λ h. view_head h.now) q)) ms) (sym e)

pub one_kept : (old new : List KeptMember) (m : KeptMember) → new ≡ old ++ m ∷ [] → map view_kept new ≡ map view_kept old ++ view_kept m ∷ []
one_kept old new m e = ap (map view_kept) e ∙ map-append view_kept old (m ∷ [])
