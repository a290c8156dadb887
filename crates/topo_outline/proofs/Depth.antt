-- Geometries depth first.
use Rattle.kit_words.proofs.Common.{◌≡◌, ◌≢◌, ℕ, zero, suc, ◌-◌, List, [], ◌∷◌, ◌++◌, refl, sym, ap, ◌∙◌, append_assoc}
use Rattle.kit_words.proofs.Common.{sub-one, true, false, Result, Ok, Err, codes, append-nil}
use Rattle.json_spans.specs.Common.{Node, items}
use Rattle.topo_outline.specs.declared.words.Word.TheVariants as word
use Rattle.topo_outline.specs.Common.{Geometry, OpenFault, Fault, too_deep, ◌>>=◌, demand, Fails, EntryNode, head}
use Rattle.topo_outline.specs.Common.{Piece, starts, ends, is_list, members_of, type_of, single, is_collection}
use Rattle.topo_outline.specs.Common.{member_that, is_object, wrong, each_joined}
use Rattle.topo_outline.specs.declared.members.Owner.TheVariants as owner
use Rattle.topo_outline.specs.Shape.{geometry}
use Rattle.topo_outline.proofs.Walking.{with_front, carry}

abbrev pub inside : EntryNode → ℕ → Node → Result (List Piece) Fault
inside list d part = demand (is_object part) (wrong list) (geometry d part)

abbrev pub list_of : List EntryNode → Result EntryNode Fault
list_of ms = member_that is_list (codes "geometries") word.Geometries ms

abbrev pub enclosed : List EntryNode → Result (List Piece) Fault → Result (List Piece) Fault
enclosed ms r = r >>= λ ps. Ok (starts (head owner.Collection ms) ∷ ps ++ ends ∷ [])

pub names_fail : (o : OpenFault) (d : ℕ) (n : Node) → Fails o (members_of n) → Fails o (geometry d n)
unfolding geometry
names_fail o zero n h = carry o (members_of n) _ (λ f e. rw e refl) h
names_fail o (suc d) n h = carry o (members_of n) _ (λ f e. rw e refl) h

pub type_fails : (o : OpenFault) (d : ℕ) (n : Node) (ms : List EntryNode) → members_of n ≡ Ok ms → Fails o (type_of ms) → Fails o (geometry d n)
unfolding geometry
type_fails o zero n ms m h = carry o (type_of ms) _ (λ f e. rw (m, e) refl) h
type_fails o (suc d) n ms m h = carry o (type_of ms) _ (λ f e. rw (m, e) refl) h

pub single_fails : (o : OpenFault) (d : ℕ) (n : Node) (ms : List EntryNode) (g : Geometry) (t : EntryNode) → members_of n ≡ Ok ms → type_of ms ≡ Ok (g, t) → is_collection g ≡ false → Fails o (single g t n ms) → Fails o (geometry d n)
unfolding geometry
single_fails o zero n ms g t m k c h = carry o (single g t n ms) _ (λ f e. rw (m, k, c, e) refl) h
single_fails o (suc d) n ms g t m k c h = carry o (single g t n ms) _ (λ f e. rw (m, k, c, e) refl) h

pub single_gives : (d : ℕ) (n : Node) (ms : List EntryNode) (g : Geometry) (t : EntryNode) (p : Piece) (old new : List Piece) → members_of n ≡ Ok ms → type_of ms ≡ Ok (g, t) → is_collection g ≡ false → single g t n ms ≡ Ok p → new ≡ old ++ p ∷ [] → with_front old (geometry d n) ≡ Ok new
unfolding geometry
single_gives zero n ms g t p old new m k c h e = rw (m, k, c, h, e) refl
single_gives (suc d) n ms g t p old new m k c h e = rw (m, k, c, h, e) refl

pub list_fails : (o : OpenFault) (d : ℕ) (n : Node) (ms : List EntryNode) (g : Geometry) (t : EntryNode) → members_of n ≡ Ok ms → type_of ms ≡ Ok (g, t) → is_collection g ≡ true → Fails o (list_of ms) → Fails o (geometry d n)
unfolding geometry
list_fails o zero n ms g t m k c h = carry o (list_of ms) _ (λ f e. rw (m, k, c, e) refl) h
list_fails o (suc d) n ms g t m k c h = carry o (list_of ms) _ (λ f e. rw (m, k, c, e) refl) h

pub deep : (d : ℕ) (n : Node) (ms : List EntryNode) (g : Geometry) (t list : EntryNode) → members_of n ≡ Ok ms → type_of ms ≡ Ok (g, t) → is_collection g ≡ true → list_of ms ≡ Ok list → d ≡ 0 → geometry d n ≡ Err (too_deep n.at_byte)
unfolding geometry
deep d n ms g t list m k c l z = rw (z, m, k, c, l) refl

-- a collection is what stands in it, enclosed
pub collection : (d : ℕ) (n : Node) (ms : List EntryNode) (g : Geometry) (t list : EntryNode) → members_of n ≡ Ok ms → type_of ms ≡ Ok (g, t) → is_collection g ≡ true → list_of ms ≡ Ok list → d ≢ 0 → geometry d n ≡ enclosed ms (each_joined (inside list (d - 1)) (items list.value))
unfolding geometry
collection zero n ms g t list m k c l z = absurd (z refl)
collection (suc d) n ms g t list m k c l z = let back : suc d - 1 ≡ d = sub-one (suc d) in rw (m, k, c, l, back) refl

-- ---- the loop

joined_front : (old new xs : List Piece) (r : Result (List Piece) Fault) → old ++ xs ≡ new → with_front old (r >>= λ ys. Ok (xs ++ ys)) ≡ with_front new r
joined_front old new xs (Ok ys) e = rw (← e) (ap (λ (zs : List Piece). Ok zs) (sym (append_assoc old xs ys)))
joined_front old new xs (Err f) e = refl

joined_front_of : (old new : List Piece) (q r : Result (List Piece) Fault) → with_front old q ≡ Ok new → with_front old (q >>= λ xs. r >>= λ ys. Ok (xs ++ ys)) ≡ with_front new r
joined_front_of old new (Ok xs) r e = let same : old ++ xs ≡ new = cc in joined_front old new xs r same
joined_front_of old new (Err f) r e = absurd cc

pub joined_turn : (f : Node → Result (List Piece) Fault) (old new : List Piece) (n : Node) (ns left : List Node) (whole : Result (List Piece) Fault) → left ≡ n ∷ ns → with_front old (f n) ≡ Ok new → with_front old (each_joined f left) ≡ whole → with_front new (each_joined f ns) ≡ whole
joined_turn f old new n ns left whole e is h = sym (joined_front_of old new (f n) (each_joined f ns) is) ∙ rw e at h

pub joined_stop : (o : OpenFault) (f : Node → Result (List Piece) Fault) (old start : List Piece) (n : Node) (ns left : List Node) (r : Result (List Piece) Fault) → left ≡ n ∷ ns → Fails o (f n) → with_front old (each_joined f left) ≡ with_front start r → Fails o r
joined_stop o f old start n ns left r e is h = carry o (f n) r (λ x fx. out r (sym (rw (e, fx) at h))) is
  where
    out : (q : Result (List Piece) Fault) {x : Fault} → with_front start q ≡ Err x → q ≡ Err x
    out (Ok xs) p = absurd cc
    out (Err y) p = cc

pub joined_end : (f : Node → Result (List Piece) Fault) (old start : List Piece) (left : List Node) (r : Result (List Piece) Fault) → left ≡ [] → with_front old (each_joined f left) ≡ with_front start r → with_front start r ≡ Ok old
joined_end f old start left r e h = sym (rw (e, append-nil old) at h)

pub enclosed_fails : (o : OpenFault) (ms : List EntryNode) (r : Result (List Piece) Fault) → Fails o r → Fails o (enclosed ms r)
enclosed_fails o ms r h = carry o r (enclosed ms r) (λ f e. rw e refl) h

pub enclosed_gives : (ms : List EntryNode) (r : Result (List Piece) Fault) (first start done new : List Piece) → start ≡ first ++ starts (head owner.Collection ms) ∷ [] → with_front start r ≡ Ok done → new ≡ done ++ ends ∷ [] → with_front first (enclosed ms r) ≡ Ok new
enclosed_gives ms (Ok xs) first start done new s e d =
    let same : start ++ xs ≡ done = cc in
    rw (d, ← same, s) (ap (λ (zs : List Piece). Ok zs) (simp append_assoc))
enclosed_gives ms (Err f) first start done new s e d = absurd cc

pub collection_fails : (o : OpenFault) (d : ℕ) (n : Node) (ms : List EntryNode) (g : Geometry) (t list : EntryNode) → members_of n ≡ Ok ms → type_of ms ≡ Ok (g, t) → is_collection g ≡ true → list_of ms ≡ Ok list → d ≢ 0 → Fails o (each_joined (inside list (d - 1)) (items list.value)) → Fails o (geometry d n)
collection_fails o d n ms g t list m k c l z h = rw (collection d n ms g t list m k c l z) (enclosed_fails o ms (each_joined (inside list (d - 1)) (items list.value)) h)
