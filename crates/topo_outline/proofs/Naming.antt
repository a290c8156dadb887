-- Names, and members found by them.
use Rattle.kit_words.proofs.Common.{◌≡◌, ℕ, suc, ◌+◌, ◌<◌, ◌≤◌, List, [], ◌∷◌, ◌++◌, length, get_or, drop, map, refl}
use Rattle.kit_words.proofs.Common.{sym, ap₂, ◌∙◌, add-one, drop-cons, arith, Bool, true, false, cond, Result, Ok, Err}
use Rattle.kit_words.proofs.Common.{Some, None, not, ◌||◌, ◌==◌, bytes_eq, list_any, nat_list_eq_equiv, append-nil}
use Rattle.kit_words.proofs.Common.{drop_all}
use Rattle.std.specs.Prelude.{filter}
use Rattle.std.proofs.Math.Bool.{or_comm}
use Rattle.std.proofs.lemmas.List.Recursion.{or_push}
use Rattle.json_spans.specs.Common.{Node}
use Rattle.topo_outline.specs.Common.{Word, Owner, Fault, duplicate, EntryNode, code, member, kept, kept_text, is_known}
use Rattle.topo_outline.specs.Common.{named, name_text, unquoted, word_of, view_entry, Fails, OpenFault}
use Rattle.topo_outline.specs.declared.entries.Entry.{Entry}
use Rattle.ring_machine.specs.Common.{Member}
use Rattle.topo_outline.proofs.Walking.{with_front, regroup, carry}

-- a text tested against a set is tested against a list of the same texts
pub tested : (texts : List (List ℕ)) (t : List ℕ) (has : List ℕ → Bool) (new is : Bool) → ((u : List ℕ) → list_any (bytes_eq u) texts ≡ has u) → new ≡ not (has t) → new ≡ is → not (list_any (bytes_eq t) texts) ≡ is
tested texts t has new is same e h = rw (same t) (sym e ∙ h)

pub either : (a b : Bool) → cond a true b ≡ (a || b)
either a b = grind arith

-- one more text, in a list and in what it is compared with
pub one_more : (texts : List (List ℕ)) (t : List ℕ) (old new : List ℕ → Bool) → ((u : List ℕ) → list_any (bytes_eq u) texts ≡ old u) → ((u : List ℕ) → new u ≡ (bytes_eq t u || old u)) → (u : List ℕ) → list_any (bytes_eq u) (texts ++ t ∷ []) ≡ new u
one_more texts t old new same more u = or_push (list_any (bytes_eq u)) (bytes_eq u) refl (λ x xs. refl) texts t ∙ ap₂ (λ a b. a || b) (same u) (nat_list_eq_equiv.symm u t) ∙ or_comm (old u) (bytes_eq t u) ∙ sym (more u)

pub member_step : (w : Word) (es : List Entry) (i : ℕ) (d : Entry) → i < length es → member w (map view_entry (drop i es)) ≡ cond (code (get_or es i d).word == code w) (Some (view_entry (get_or es i d))) (member w (map view_entry (drop (i + 1) es)))
member_step w es i d lt = rw (drop-cons es i d lt, add-one i) refl

pub member_end : (w : Word) (es : List Entry) (i : ℕ) → length es ≤ i → member w (map view_entry (drop i es)) ≡ None
member_end w es i le = rw (drop_all i es le) refl

abbrev pub kept_one : Bool → EntryNode → List Member
kept_one true m = []
kept_one false m = kept_text m ∷ []

kept_cons : (b : Bool) (m : EntryNode) (ms : List EntryNode) → map kept_text (cond (not b) (m ∷ ms) ms) ≡ kept_one b m ++ map kept_text ms
kept_cons b m ms = grind arith

pub kept_step : (o : Owner) (es : List Entry) (i : ℕ) (d : Entry) → i < length es → kept o (map view_entry (drop i es)) ≡ kept_one (is_known o (get_or es i d).word) (view_entry (get_or es i d)) ++ kept o (map view_entry (drop (i + 1) es))
kept_step o es i d lt = rw (drop-cons es i d lt, add-one i) (kept_cons (is_known o (get_or es i d).word) (view_entry (get_or es i d)) (filter (λ m. not (is_known o m.word)) (map view_entry (drop (suc i) es))))

pub kept_end : (o : Owner) (es : List Entry) (i : ℕ) → length es ≤ i → kept o (map view_entry (drop i es)) ≡ []
kept_end o es i le = rw (drop_all i es le) refl

-- ---- the names, one by one

pub named_turn : (seen : List (List ℕ)) (front : List EntryNode) (t : List ℕ) (m : Node × Node) (ms left : List (Node × Node)) (whole : Result (List EntryNode) Fault) → left ≡ m ∷ ms → name_text m.0 ≡ Ok t → not (list_any (bytes_eq t) seen) ≡ true → with_front front (named seen left) ≡ whole →
    with_front (front ++ record { word = word_of t; name = m.0; value = m.1 } ∷ []) (named (seen ++ t ∷ []) ms) ≡ whole
unfolding named
named_turn seen front t m ms left whole e is new h = sym (regroup front (record { word = word_of t; name = m.0; value = m.1 }) (named (seen ++ t ∷ []) ms)) ∙ rw (e, is, new) at h

pub named_again : (seen : List (List ℕ)) (front : List EntryNode) (t : List ℕ) (m : Node × Node) (ms left : List (Node × Node)) (whole : Result (List EntryNode) Fault) → left ≡ m ∷ ms → name_text m.0 ≡ Ok t → not (list_any (bytes_eq t) seen) ≡ false → with_front front (named seen left) ≡ whole → whole ≡ Err (duplicate (unquoted m.0.bytes))
unfolding named
named_again seen front t m ms left whole e is new h = sym (rw (e, is, new) at h)

pub named_stop : (o : OpenFault) (seen : List (List ℕ)) (front : List EntryNode) (m : Node × Node) (ms left : List (Node × Node)) (whole : Result (List EntryNode) Fault) → left ≡ m ∷ ms → Fails o (name_text m.0) → with_front front (named seen left) ≡ whole → Fails o whole
unfolding named
named_stop o seen front m ms left whole e is h = carry o (name_text m.0) whole (λ x fx. sym (rw (e, fx) at h)) is

pub named_end : (seen : List (List ℕ)) (front : List EntryNode) (left : List (Node × Node)) (whole : Result (List EntryNode) Fault) → left ≡ [] → with_front front (named seen left) ≡ whole → whole ≡ Ok front
unfolding named
named_end seen front left whole e h = sym (rw (e, append-nil front) at h)
