-- A written object has the members that the writer knows, by their words, and keeps the others.
use Rattle.kit_words.proofs.Common.{◌≡◌, not, ◌&&◌, ℕ, List, [], ◌∷◌, ◌++◌, map, Bool, true, false, refl, sym, ap, ap₂}
use Rattle.kit_words.proofs.Common.{◌∙◌, subst, cond, true≢false, Option, Some, None, option_map, ◌==◌, if◌then◌else◌}
use Rattle.kit_words.proofs.Common.{AllByRecursion, AllZip, IsDistinct, false_from_ne_true, bytes_eq-Decides}
use Rattle.kit_words.proofs.Common.{AllPairs-from_IsDistinct, IsDistinct-from_AllPairs, and_parts, not-true}
use Rattle.std.proofs.Common.{bytes_eq}
use Rattle.std.proofs.lemmas.Bool.{eqb-true, eq-eqb}
use Rattle.ring_machine.specs.Common.{Text, Member}
use Rattle.json_spans.specs.Common.{Node}
use Rattle.topo_outline.specs.declared.words.Word.{Word}
use Rattle.topo_outline.specs.declared.words.Word.TheVariants as word
use Rattle.topo_outline.specs.declared.members.Owner.{Owner}
use Rattle.topo_outline.specs.Common.{word_of, EntryNode, code, kept, text_of, is_known, HasEntries, value_at, IsJson}
use Rattle.topo_outline.specs.Common.{IsName, IfThere, IsKeptMember, AreKeptMembers}
use Rattle.map_text.specs.Common.{member_if, object_text}
use Rattle.map_text.proofs.GrammarLists.{bytes_of}
use Rattle.map_text.proofs.GrammarObjects.{IsMember, object_is_json}
use Rattle.map_text.proofs.MembersSeen.{Seen, seen, all_seen, Says, object_seen, seen_value, value_seen, text_seen, seen_kept, kept_seen}

-- a member that the writer knows, with its value if it is there
pub record Field : Type 0 where
  pub word : Word
  pub says : List ℕ
  pub token : Text
  pub value : Option Text

abbrev pub present : List Field → List Member
present [] = []
present (f ∷ fs) = member_if f.token f.value ++ present fs

abbrev name_if : List ℕ → Option Text → List (List ℕ)
name_if says None = []
name_if says (Some t) = says ∷ []

abbrev names_of : List Field → List (List ℕ)
names_of [] = []
names_of (f ∷ fs) = name_if f.says f.value ++ names_of fs

pub record IsField (o : Owner) (f : Field) : Type 0 where
  pub named : IsName f.token f.says
  pub word_is : word_of f.says ≡ f.word
  pub known : is_known o f.word ≡ true
  pub json : IfThere IsJson f.value

abbrev pub has_no : ℕ → List Field → Bool
has_no c [] = true
has_no c (f ∷ fs) = not (code f.word == c) && has_no c fs

-- no two fields have one word
abbrev pub are_apart : List Field → Bool
are_apart [] = true
are_apart (f ∷ fs) = has_no (code f.word) fs && are_apart fs

abbrev pub field_value : ℕ → List Field → Option Text
field_value c [] = None
field_value c (f ∷ fs) = if code f.word == c then f.value else field_value c fs

-- ---- words and codes

abbrev word_at : ℕ → Word
word_at c =
    if c == 0 then word.Type
    else (if c == 1 then word.Transform
    else (if c == 2 then word.Objects
    else (if c == 3 then word.Arcs
    else (if c == 4 then word.Geometries
    else (if c == 5 then word.Id
    else (if c == 6 then word.Properties
    else (if c == 7 then word.Bbox
    else (if c == 8 then word.Scale
    else (if c == 9 then word.Translate
    else word.Other)))))))))

word_back : (w : Word) → word_at (code w) ≡ w
word_back word.Type = refl
word_back word.Transform = refl
word_back word.Objects = refl
word_back word.Arcs = refl
word_back word.Geometries = refl
word_back word.Id = refl
word_back word.Properties = refl
word_back word.Bbox = refl
word_back word.Scale = refl
word_back word.Translate = refl
word_back word.Other = refl

codes_differ : (o : Owner) (u w : Word) → is_known o u ≡ false → is_known o w ≡ true → (code u == code w) ≡ false
codes_differ o u w unknown known = false_from_ne_true (code u == code w) (λ e.
    let same : u ≡ w = sym (word_back u) ∙ ap word_at (eqb-true (code u) (code w) e) ∙ word_back w in
    true≢false (sym known ∙ ap (is_known o) (sym same) ∙ unknown))

-- ---- what is seen

abbrev seen_if : Word → Text → Option Text → List Seen
seen_if w token None = []
seen_if w token (Some t) = record { word = w; name = token; value = t } ∷ []

abbrev fields_seen : List Field → List Seen
fields_seen [] = []
fields_seen (f ∷ fs) = seen_if f.word f.token f.value ++ fields_seen fs

all_fields_seen : (o : Owner) (fs : List Field) (ts : List (List ℕ)) (ms : List Member) → AllByRecursion (IsField o) fs → all_seen (names_of fs ++ ts) (present fs ++ ms) ≡ fields_seen fs ++ all_seen ts ms
all_fields_seen o [] ts ms h = refl
all_fields_seen o (f ∷ fs) ts ms h = by f.value (all_fields_seen o fs ts ms h.1)
  where
    by : (v : Option Text) → all_seen (names_of fs ++ ts) (present fs ++ ms) ≡ fields_seen fs ++ all_seen ts ms
        → all_seen ((name_if f.says v ++ names_of fs) ++ ts) ((member_if f.token v ++ present fs) ++ ms) ≡ (seen_if f.word f.token v ++ fields_seen fs) ++ all_seen ts ms
    by None e = e
    by (Some t) e = ap₂ (λ (w : Word) (ss : List Seen). let s : Seen = record { word = w; name = f.token; value = t } in s ∷ ss) h.0.word_is e

-- ---- lookups

kept_has_no : (o : Owner) (w : Word) (ms : List Member) (ts : List (List ℕ)) → is_known o w ≡ true → AllZip (IsKeptMember o) ms ts → seen_value (code w) (all_seen ts ms) ≡ None
kept_has_no o w [] [] known h = refl
kept_has_no o w [] (t ∷ ts) known h = absurd h
kept_has_no o w (m ∷ ms) [] known h = absurd h
kept_has_no o w (m ∷ ms) (t ∷ ts) known h = rw (codes_differ o (word_of t) w h.0.unknown known) (kept_has_no o w ms ts known h.1)

passes_fields : (c : ℕ) (fs : List Field) (ss : List Seen) → has_no c fs ≡ true → seen_value c (fields_seen fs ++ ss) ≡ seen_value c ss
passes_fields c [] ss h = refl
passes_fields c (f ∷ fs) ss h = by f.value (passes_fields c fs ss (and_parts (not (code f.word == c)) (has_no c fs) h).1)
  where
    by : (v : Option Text) → seen_value c (fields_seen fs ++ ss) ≡ seen_value c ss → seen_value c ((seen_if f.word f.token v ++ fields_seen fs) ++ ss) ≡ seen_value c ss
    by None e = e
    by (Some t) e = rw (not-true (code f.word == c) (and_parts (not (code f.word == c)) (has_no c fs) h).0) e

finds_field : (c : ℕ) (fs : List Field) (ss : List Seen) → are_apart fs ≡ true → seen_value c ss ≡ None → seen_value c (fields_seen fs ++ ss) ≡ field_value c fs
finds_field c [] ss h none = none
finds_field c (f ∷ fs) ss h none = by (code f.word == c) refl f.value (finds_field c fs ss (and_parts (has_no (code f.word) fs) (are_apart fs) h).1 none)
  where
    by : (b : Bool) → (code f.word == c) ≡ b → (v : Option Text) → seen_value c (fields_seen fs ++ ss) ≡ field_value c fs → seen_value c ((seen_if f.word f.token v ++ fields_seen fs) ++ ss) ≡ cond (code f.word == c) v (field_value c fs)
    by true t None e =
        let here : has_no c fs ≡ true = subst (λ z. has_no z fs ≡ true) (eqb-true (code f.word) c t) (and_parts (has_no (code f.word) fs) (are_apart fs) h).0 in
        rw t (passes_fields c fs ss here ∙ none)
    by true t (Some v) e = rw t refl
    by false t None e = rw t e
    by false t (Some v) e = rw t e

-- ---- kept members

keeps_all : (o : Owner) (ms : List Member) (ts : List (List ℕ)) → AllZip (IsKeptMember o) ms ts → seen_kept o (all_seen ts ms) ≡ ms
keeps_all o [] [] h = refl
keeps_all o [] (t ∷ ts) h = absurd h
keeps_all o (m ∷ ms) [] h = absurd h
keeps_all o (m ∷ ms) (t ∷ ts) h = rw h.0.unknown (ap (λ (z : List Member). m ∷ z) (keeps_all o ms ts h.1))

keeps_no_field : (o : Owner) (fs : List Field) (ss : List Seen) → AllByRecursion (IsField o) fs → seen_kept o (fields_seen fs ++ ss) ≡ seen_kept o ss
keeps_no_field o [] ss h = refl
keeps_no_field o (f ∷ fs) ss h = by f.value (keeps_no_field o fs ss h.1)
  where
    by : (v : Option Text) → seen_kept o (fields_seen fs ++ ss) ≡ seen_kept o ss → seen_kept o ((seen_if f.word f.token v ++ fields_seen fs) ++ ss) ≡ seen_kept o ss
    by None e = e
    by (Some t) e = rw h.0.known e

-- ---- names

all_said : (o : Owner) (fs : List Field) (ms : List Member) (ts : List (List ℕ)) → AllByRecursion (IsField o) fs → AllZip (IsKeptMember o) ms ts → AllZip Says (present fs ++ ms) (names_of fs ++ ts)
all_said o [] [] [] h k = tt
all_said o [] [] (t ∷ ts) h k = absurd k
all_said o [] (m ∷ ms) [] h k = absurd k
all_said o [] (m ∷ ms) (t ∷ ts) h k = (k.0.named.says, all_said o [] ms ts h k.1)
all_said o (f ∷ fs) ms ts h k = by f.value (all_said o fs ms ts h.1 k)
  where
    by : (v : Option Text) → AllZip Says (present fs ++ ms) (names_of fs ++ ts) → AllZip Says ((member_if f.token v ++ present fs) ++ ms) ((name_if f.says v ++ names_of fs) ++ ts)
    by None e = e
    by (Some t) e = (h.0.named.says, e)

all_are_members : (o : Owner) (fs : List Field) (ms : List Member) (ts : List (List ℕ)) → AllByRecursion (IsField o) fs → AllZip (IsKeptMember o) ms ts → AllByRecursion IsMember (present fs ++ ms)
all_are_members o [] [] ts h k = tt
all_are_members o [] (m ∷ ms) [] h k = absurd k
all_are_members o [] (m ∷ ms) (t ∷ ts) h k = (record { string = k.0.named.string; json = k.0.value }, all_are_members o [] ms ts h k.1)
all_are_members o (f ∷ fs) ms ts h k = by f.value h.0.json (all_are_members o fs ms ts h.1 k)
  where
    by : (v : Option Text) → IfThere IsJson v → AllByRecursion IsMember (present fs ++ ms) → AllByRecursion IsMember ((member_if f.token v ++ present fs) ++ ms)
    by None j e = e
    by (Some t) j e = (record { string = h.0.named.string; json = j }, e)

abbrev Unlike : List ℕ → List (List ℕ) → Type 0
Unlike s ts = AllByRecursion (λ t. bytes_eq s t ≡ false) ts

unlike_kept : (o : Owner) (s : List ℕ) (ms : List Member) (ts : List (List ℕ)) → is_known o (word_of s) ≡ true → AllZip (IsKeptMember o) ms ts → Unlike s ts
unlike_kept o s [] [] known k = tt
unlike_kept o s [] (t ∷ ts) known k = absurd k
unlike_kept o s (m ∷ ms) [] known k = absurd k
unlike_kept o s (m ∷ ms) (t ∷ ts) known k = (
  false_from_ne_true (bytes_eq s t) (λ e. true≢false (sym known ∙ ap (λ z. is_known o (word_of z)) ((bytes_eq-Decides s t).0 e) ∙ k.0.unknown)),
  unlike_kept o s ms ts known k.1,
)

unlike_fields : (o : Owner) (s : List ℕ) (fs : List Field) (ts : List (List ℕ)) → has_no (code (word_of s)) fs ≡ true → AllByRecursion (IsField o) fs → Unlike s ts → Unlike s (names_of fs ++ ts)
unlike_fields o s [] ts h k u = u
unlike_fields o s (f ∷ fs) ts h k u = by f.value (unlike_fields o s fs ts (and_parts (not (code f.word == code (word_of s))) (has_no (code (word_of s)) fs) h).1 k.1 u)
  where
    apart : (code f.word == code (word_of s)) ≡ false
    apart = not-true (code f.word == code (word_of s)) (and_parts (not (code f.word == code (word_of s))) (has_no (code (word_of s)) fs) h).0

    other : bytes_eq s f.says ≡ false
    other = false_from_ne_true (bytes_eq s f.says) (λ e.
        let same : f.word ≡ word_of s = sym k.0.word_is ∙ ap word_of (sym ((bytes_eq-Decides s f.says).0 e)) in
        true≢false (sym (eq-eqb (code f.word) (code (word_of s)) (ap code same)) ∙ apart))

    by : (v : Option Text) → Unlike s (names_of fs ++ ts) → Unlike s ((name_if f.says v ++ names_of fs) ++ ts)
    by None e = e
    by (Some t) e = (other, e)

all_distinct : (o : Owner) (fs : List Field) (ms : List Member) (ts : List (List ℕ)) → are_apart fs ≡ true → AllByRecursion (IsField o) fs → AllZip (IsKeptMember o) ms ts → IsDistinct bytes_eq ts → IsDistinct bytes_eq (names_of fs ++ ts)
unfolding IsDistinct
all_distinct o [] ms ts a h k d = d
all_distinct o (f ∷ fs) ms ts a h k d = by f.value (all_distinct o fs ms ts (and_parts (has_no (code f.word) fs) (are_apart fs) a).1 h.1 k d)
  where
    kept_unlike : Unlike f.says ts
    kept_unlike = unlike_kept o f.says ms ts (ap (is_known o) h.0.word_is ∙ h.0.known) k

    here : has_no (code (word_of f.says)) fs ≡ true
    here = subst (λ w. has_no (code w) fs ≡ true) (sym h.0.word_is) (and_parts (has_no (code f.word) fs) (are_apart fs) a).0

    by : (v : Option Text) → IsDistinct bytes_eq (names_of fs ++ ts) → IsDistinct bytes_eq ((name_if f.says v ++ names_of fs) ++ ts)
    by None e = e
    by (Some t) e = (unlike_fields o f.says fs ts here h.1 kept_unlike, e)

-- ---- the object

-- an object with the fields, each under its word, that keeps these members
pub record HasFields (o : Owner) (node : Node) (fs : List Field) (ms : List Member) : Type 0 where
  pub entries : List EntryNode
  pub has : HasEntries node entries
  pub values : (w : Word) → is_known o w ≡ true → option_map bytes_of (value_at w entries) ≡ field_value (code w) fs
  pub texts : (w : Word) → is_known o w ≡ true → text_of w entries ≡ field_value (code w) fs
  pub keeps : kept o entries ≡ ms

pub written_object : (o : Owner) (node : Node) (fs : List Field) (ms : List Member) → AllByRecursion (IsField o) fs → are_apart fs ≡ true → AreKeptMembers o ms → node.bytes ≡ object_text (present fs ++ ms) → HasFields o node fs ms
written_object o node fs ms h a k e =
    let names : List (List ℕ) = names_of fs ++ k.names in
    let distinct = all_distinct o fs ms k.names a h k.each (IsDistinct-from_AllPairs bytes_eq-Decides k.names k.differ) in
    let o' = object_seen node (present fs ++ ms) names e (all_are_members o fs ms k.names h k.each) (all_said o fs ms k.names h k.each) (AllPairs-from_IsDistinct bytes_eq-Decides names distinct) in
    let are : map seen o'.entries ≡ fields_seen fs ++ all_seen k.names ms = o'.are ∙ all_fields_seen o fs k.names ms h in
    record {
      entries = o'.entries;
      has = o'.has;
      values = λ w known. value_seen w o'.entries ∙ ap (λ (ss : List Seen). seen_value (code w) ss) are ∙ finds_field (code w) fs (all_seen k.names ms) a (kept_has_no o w ms k.names known k.each);
      texts = λ w known. text_seen w o'.entries ∙ ap (λ (ss : List Seen). seen_value (code w) ss) are ∙ finds_field (code w) fs (all_seen k.names ms) a (kept_has_no o w ms k.names known k.each);
      keeps = kept_seen o o'.entries ∙ ap (λ (ss : List Seen). seen_kept o ss) are ∙ keeps_no_field o fs (all_seen k.names ms) h ∙ keeps_all o ms k.names k.each;
    }

pub written_json : (o : Owner) (fs : List Field) (ms : List Member) → AllByRecursion (IsField o) fs → AreKeptMembers o ms → IsJson (object_text (present fs ++ ms))
written_json o fs ms h k = object_is_json (present fs ++ ms) (all_are_members o fs ms k.names h k.each)
