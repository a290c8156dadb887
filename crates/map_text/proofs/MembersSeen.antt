-- The members of a written object, as a reader sees them: what their names say, and their texts.
use Rattle.kit_words.proofs.Common.{◌≡◌, ◌≢◌, not, ℕ, List, [], ◌∷◌, map, Bool, true, false, refl, sym, ap, ◌∙◌, subst}
use Rattle.kit_words.proofs.Common.{cond, Option, Some, None, option_map, ◌==◌, if◌then◌else◌, AllByRecursion, AllZip}
use Rattle.kit_words.proofs.Common.{AllPairs}
use Rattle.std.specs.Prelude.{filter}
use Rattle.ring_machine.specs.Common.{Text, Member}
use Rattle.json_spans.specs.Common.{Node, decoded}
use Rattle.topo_outline.specs.declared.words.Word.{Word}
use Rattle.topo_outline.specs.declared.members.Owner.{Owner}
use Rattle.topo_outline.specs.Common.{word_of, EntryNode, entry_of, member, code, kept, kept_text, text_of, is_known}
use Rattle.topo_outline.specs.Common.{Entries, no_entry, entry, HasEntries, value_at}
use Rattle.map_text.specs.Common.{object_text}
use Rattle.map_text.proofs.GrammarLists.{bytes_of}
use Rattle.map_text.proofs.GrammarObjects.{IsMember, as_member, has_members}

-- a member without its places
pub record Seen : Type 0 where
  pub word : Word
  pub name : Text
  pub value : Text

abbrev pub seen : EntryNode → Seen
seen e = record { word = e.word; name = e.name.bytes; value = e.value.bytes }

abbrev pub seen_as : List ℕ → Member → Seen
seen_as name m = record { word = word_of name; name = m.name; value = m.value }

abbrev pub all_seen : List (List ℕ) → List Member → List Seen
all_seen [] ms = []
all_seen (t ∷ ts) [] = []
all_seen (t ∷ ts) (m ∷ ms) = seen_as t m ∷ all_seen ts ms

-- ---- the entries

abbrev pub Says : Member → List ℕ → Type 0
Says m name = decoded m.name ≡ Some name

abbrev pub entries_of : List (List ℕ) → List (Node × Node) → List EntryNode
entries_of [] ms = []
entries_of (t ∷ ts) [] = []
entries_of (t ∷ ts) (m ∷ ms) = entry_of t m ∷ entries_of ts ms

pub are_entries : (ts : List (List ℕ)) (ms : List (Node × Node)) → AllZip Says (map as_member ms) ts → Entries ms ts (entries_of ts ms)
are_entries [] [] h = no_entry
are_entries [] (m ∷ ms) h = absurd h
are_entries (t ∷ ts) [] h = absurd h
are_entries (t ∷ ts) (m ∷ ms) h = entry h.0 (are_entries ts ms h.1)

pub entries_seen : (ts : List (List ℕ)) (ms : List (Node × Node)) → map seen (entries_of ts ms) ≡ all_seen ts (map as_member ms)
entries_seen [] ms = refl
entries_seen (t ∷ ts) [] = refl
entries_seen (t ∷ ts) (m ∷ ms) = ap (λ (ss : List Seen). seen_as t (as_member m) ∷ ss) (entries_seen ts ms)

-- an object with members that are seen so
pub record IsSeen (node : Node) (ss : List Seen) : Type 0 where
  pub entries : List EntryNode
  pub has : HasEntries node entries
  pub are : map seen entries ≡ ss

pub object_seen : (node : Node) (ms : List Member) (ts : List (List ℕ)) → node.bytes ≡ object_text ms → AllByRecursion IsMember ms → AllZip Says ms ts → AllPairs (λ t u. t ≢ u) ts → IsSeen node (all_seen ts ms)
object_seen node ms ts e h s d =
    let found = has_members node ms e h in
    let says : AllZip Says (map as_member found.nodes) ts = subst (λ z. AllZip Says z ts) (sym found.are) s in
    record {
      entries = entries_of ts found.nodes;
      has = record { members = found.nodes; names = ts; object = found.object; entries = are_entries ts found.nodes says; differ = d };
      are = entries_seen ts found.nodes ∙ ap (λ (z : List Member). all_seen ts z) found.are;
    }

-- ---- members by their words

abbrev pub seen_value : ℕ → List Seen → Option Text
seen_value c [] = None
seen_value c (s ∷ ss) = if code s.word == c then Some s.value else seen_value c ss

pub value_seen : (w : Word) (es : List EntryNode) → option_map bytes_of (value_at w es) ≡ seen_value (code w) (map seen es)
value_seen w [] = refl
value_seen w (e ∷ es) = by (code e.word == code w) (value_seen w es)
  where
    by : (b : Bool) → option_map bytes_of (value_at w es) ≡ seen_value (code w) (map seen es)
        → option_map bytes_of (option_map (λ m. m.value) (cond b (Some e) (member w es))) ≡ cond b (Some e.value.bytes) (seen_value (code w) (map seen es))
    by true h = refl
    by false h = h

pub text_seen : (w : Word) (es : List EntryNode) → text_of w es ≡ seen_value (code w) (map seen es)
text_seen w [] = refl
text_seen w (e ∷ es) = by (code e.word == code w) (text_seen w es)
  where
    by : (b : Bool) → text_of w es ≡ seen_value (code w) (map seen es)
        → option_map (λ m. m.value.bytes) (cond b (Some e) (member w es)) ≡ cond b (Some e.value.bytes) (seen_value (code w) (map seen es))
    by true h = refl
    by false h = h

abbrev pub seen_kept : Owner → List Seen → List Member
seen_kept o [] = []
seen_kept o (s ∷ ss) = if is_known o s.word then seen_kept o ss else (record { name = s.name; value = s.value } ∷ seen_kept o ss)

pub kept_seen : (o : Owner) (es : List EntryNode) → kept o es ≡ seen_kept o (map seen es)
kept_seen o [] = refl
kept_seen o (e ∷ es) = by (is_known o e.word) (kept_seen o es)
  where
    by : (b : Bool) → kept o es ≡ seen_kept o (map seen es)
        → map kept_text (cond (not b) (e ∷ filter (λ m. not (is_known o m.word)) es) (filter (λ m. not (is_known o m.word)) es)) ≡ cond b (seen_kept o (map seen es)) (kept_text e ∷ seen_kept o (map seen es))
    by true h = h
    by false h = ap (λ (z : List Member). kept_text e ∷ z) h
