-- Names and members, one after another, as a loop meets them.
use Rattle.kit_words.proofs.Common.{◌≡◌, ℕ, suc, ◌+◌, ◌<◌, ◌≤◌, List, [], ◌∷◌, ◌++◌, Bool, true, false, not, cond, ◌||◌, ◌&&◌}
use Rattle.kit_words.proofs.Common.{Option, Some, None, Result, Ok, Err, length, get_or, drop, take, map, filter, find, refl, sym, ap, ap₂, ◌∙◌}
use Rattle.kit_words.proofs.Common.{list_any, list_all, bytes_eq, drop-cons, drop_all, add-one, map-append, append-nil, list_any-append, or_comm}
use Rattle.kit_words.proofs.Common.{Bor, mapped_more, subst}
use Rattle.json_spans.specs.Common.{Node, decoded}
use Rattle.ring_machine.specs.Common.{Text, Member}
use Rattle.topo_outline.specs.Common.{EntryNode, Fault, duplicate, kept_text, name_text, named, unquoted, view_kept}
use Rattle.topo_outline.specs.declared.document.KeptMember.{KeptMember}
use Rattle.topo_outline.proofs.Common.{with_front}
use Rattle.geo_features.specs.declared.fault.ExportFault.{ExportFault}
use Rattle.geo_features.specs.Faults.{GeoFault, of_map, of_opening, ◌>>=◌}
use Rattle.geo_features.specs.Gives.{IsGeoFault}
use Rattle.geo_features.specs.Names.{HasNames, is_geometry, is_one_of, same_text}
use Rattle.decimal_texts.specs.Geometries.{is_string_of}
use Rattle.geo_features.proofs.Carrying.{carry, err_not_ok, err_same, ok_same}

-- ---- words

pub any_step : (t : List ℕ) (words : List (Bor (List ℕ))) (i : ℕ) (d : Bor (List ℕ)) → i < length words
    → list_any (λ word. bytes_eq t word) (map (λ word. word.now) (drop i words))
    ≡ (bytes_eq t (get_or words i d).now || list_any (λ word. bytes_eq t word) (map (λ word. word.now) (drop (i + 1) words)))
any_step t words i d lt = rw (drop-cons words i d lt, add-one i) refl

pub any_end : (t : List ℕ) (words : List (Bor (List ℕ))) (i : ℕ) → length words ≤ i
    → list_any (λ word. bytes_eq t word) (map (λ word. word.now) (drop i words)) ≡ false
any_end t words i le = rw (drop_all i words le) refl

-- what is no string is none of these
no_string : (words : List (List ℕ)) → list_any (λ word. is_string_of word None) words ≡ false
no_string [] = refl
no_string (w ∷ words) = no_string words

pub none_says : (words : List (List ℕ)) (o : Option (List ℕ)) → o ≡ None → list_any (λ word. is_string_of word o) words ≡ false
none_says words o e = subst (λ z. list_any (λ word. is_string_of word z) words ≡ false) (sym e) (no_string words)

-- ---- members

pub first_step : (words : List (List ℕ)) (ms : List KeptMember) (i : ℕ) (d : KeptMember) → i < length ms
    → find (λ m. is_one_of words m.name) (map view_kept (drop i ms))
    ≡ cond (is_one_of words (get_or ms i d).name.now) (Some (view_kept (get_or ms i d))) (find (λ m. is_one_of words m.name) (map view_kept (drop (i + 1) ms)))
first_step words ms i d lt = rw (drop-cons ms i d lt, add-one i) refl

pub first_end : (words : List (List ℕ)) (ms : List KeptMember) (i : ℕ) → length ms ≤ i
    → find (λ m. is_one_of words m.name) (map view_kept (drop i ms)) ≡ None
first_end words ms i le = rw (drop_all i ms le) refl

abbrev pub own_one : Bool → Member → List Member
own_one true m = []
own_one false m = m ∷ []

own_cons : (b : Bool) (m : Member) (ms : List Member) → cond (not b) (m ∷ ms) ms ≡ own_one b m ++ ms
own_cons true m ms = refl
own_cons false m ms = refl

pub own_step : (ms : List KeptMember) (i : ℕ) (d : KeptMember) → i < length ms
    → filter (λ m. not (is_geometry m.name)) (map view_kept (drop i ms))
    ≡ own_one (is_geometry (get_or ms i d).name.now) (view_kept (get_or ms i d)) ++ filter (λ m. not (is_geometry m.name)) (map view_kept (drop (i + 1) ms))
own_step ms i d lt = rw (drop-cons ms i d lt, add-one i)
    (own_cons (is_geometry (get_or ms i d).name.now) (view_kept (get_or ms i d)) (filter (λ m. not (is_geometry m.name)) (map view_kept (drop (suc i) ms))))

pub own_end : (ms : List KeptMember) (i : ℕ) → length ms ≤ i
    → filter (λ m. not (is_geometry m.name)) (map view_kept (drop i ms)) ≡ []
own_end ms i le = rw (drop_all i ms le) refl

pub all_step : (ms : List KeptMember) (i : ℕ) (d : KeptMember) → i < length ms
    → list_all (λ m. is_geometry m.name) (map view_kept (drop i ms))
    ≡ (is_geometry (get_or ms i d).name.now && list_all (λ m. is_geometry m.name) (map view_kept (drop (i + 1) ms)))
all_step ms i d lt = rw (drop-cons ms i d lt, add-one i) refl

pub all_end : (ms : List KeptMember) (i : ℕ) → length ms ≤ i
    → list_all (λ m. is_geometry m.name) (map view_kept (drop i ms)) ≡ true
all_end ms i le = rw (drop_all i ms le) refl

-- the texts of the names of one member more
pub names_turn : (ms : List KeptMember) (i : ℕ) (x : KeptMember) (old new : Text → Bool) → i < length ms → x ≡ get_or ms i x
    → HasNames old (map view_kept (take i ms))
    → ((t : Text) → new t ≡ (same_text (decoded x.name.now) (Some t) || old t))
    → HasNames new (map view_kept (take (i + 1) ms))
names_turn ms i x old new lt is h more t =
    more t ∙ ap (λ b. same_text (decoded x.name.now) (Some t) || b) (h t)
    ∙ or_comm (same_text (decoded x.name.now) (Some t)) (list_any (λ m. same_text (decoded m.name) (Some t)) (map view_kept (take i ms)))
    ∙ ap (λ b. list_any (λ m. same_text (decoded m.name) (Some t)) (map view_kept (take i ms)) || b) (sym (or_false (same_text (decoded x.name.now) (Some t))))
    ∙ sym (list_any-append (λ m. same_text (decoded m.name) (Some t)) (map view_kept (take i ms)) (view_kept x ∷ []))
    ∙ ap (list_any (λ m. same_text (decoded m.name) (Some t))) (sym (mapped_more view_kept ms i x lt is))
  where
    or_false : (b : Bool) → (b || false) ≡ b
    or_false true = refl
    or_false false = refl

-- ---- the members of an object, whose names are tested

opened_fault : {A : Type 0} (r : Result A Fault) (x : GeoFault) → of_opening r ≡ Err x → (f : Fault) × (r ≡ Err f) × (x ≡ of_map f)
opened_fault (Ok a) x e = absurd (err_not_ok x a (sym e))
opened_fault (Err f) x e = (f, refl, sym (err_same (of_map f) x e))

pub opened : {A : Type 0} (r : Result A Fault) (a : A) → of_opening r ≡ Ok a → r ≡ Ok a
opened (Ok b) a e = ap (λ z. Ok z) (ok_same b a e)
opened (Err f) a e = absurd (err_not_ok (of_map f) a e)

abbrev pub kept_of : Result (List EntryNode) Fault → Result (List Member) GeoFault
kept_of r = of_opening r >>= λ es. Ok (map kept_text es)

pub kept_stop : (o : ExportFault) (texts : List (List ℕ)) (front : List EntryNode) (m : Node × Node) (ms left : List (Node × Node)) (whole : Result (List EntryNode) Fault)
    → left ≡ m ∷ ms → IsGeoFault o (of_opening (name_text m.0)) → with_front front (named texts left) ≡ whole
    → IsGeoFault o (kept_of whole)
unfolding named
kept_stop o texts front m ms left whole e is h =
    carry o (of_opening (name_text m.0)) (kept_of whole) (λ x fx. through x (opened_fault (name_text m.0) x fx)) is
  where
    through : (x : GeoFault) → (f : Fault) × (name_text m.0 ≡ Err f) × (x ≡ of_map f) → kept_of whole ≡ Err x
    through x (f, fails, same) =
        let stops : whole ≡ Err f = sym (rw (e, fails) at h) in
        rw (stops, same) refl

pub kept_wrong : (f : Fault) (whole : Result (List EntryNode) Fault) → whole ≡ Err f → kept_of whole ≡ Err (of_map f)
kept_wrong f whole e = rw e refl

pub kept_done : (front : List EntryNode) (found : List Member) (whole : Result (List EntryNode) Fault)
    → whole ≡ Ok front → found ≡ map kept_text front → kept_of whole ≡ Ok found
kept_done front found whole e is = rw (e, is) refl

pub kept_more : (old new : List KeptMember) (k : KeptMember) (front : List EntryNode) (x : EntryNode)
    → new ≡ old ++ k ∷ [] → map view_kept old ≡ map kept_text front → view_kept k ≡ kept_text x
    → map view_kept new ≡ map kept_text (front ++ x ∷ [])
kept_more old new k front x e is same =
    ap (map view_kept) e ∙ map-append view_kept old (k ∷ []) ∙ ap₂ (λ ys y. ys ++ y ∷ []) is same
    ∙ sym (map-append kept_text front (x ∷ []))
