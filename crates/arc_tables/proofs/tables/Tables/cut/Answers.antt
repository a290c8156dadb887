use Rattle.kit_words.proofs.Common.{◌≡◌, ◌≢◌, inl, inr, ℕ, ◌+◌, ap, sym, ◌∙◌, subst, take, drop, length, get_or, Contains}
use Rattle.kit_words.proofs.Common.{Some, arith, IsSome, is_some, List, ◌-◌, refl, false≢true, option_copied, option_copied_mut, cases_eq}
use Rattle.kit_words.proofs.Common.{Option, None, [], ◌∷◌, true, zero, suc, set, if◌then◌else◌, same_from_all_zip}
use Rattle.std.specs.List.{count_by, fold}
use Rattle.std.proofs.Common.{take_all, length-drop}
use Rattle.slab.specs.Slab.{get, ContainsKey, Updates, with_value}
use Rattle.slab.proofs.SlabLemmas.{Updates-with_value}
use Rattle.arc_tables.specs.Common.{Arc, path_in, users_in, store_of, store, path_of, stand_at, HasRing}
use Rattle.arc_tables.proofs.Held.{stands_cut, stands_off}
use Rattle.arc_tables.proofs.WholeLemmas.{whole_alike}
use Rattle.arc_tables.proofs.CutLemmas.{Parted, cuts_of, still_known}
use Rattle.arc_tables.proofs.tables.Tables.cut.Given.{Over}
use Rattle.arc_tables.proofs.tables.Tables.cut.Goals as goal

rest : (k : ℕ) (xs : List ℕ) → take (length xs - k) (drop k xs) ≡ drop k xs
rest k xs = take_all (length xs - k) (drop k xs) (omega (arith, length-drop k xs))

-- a written value takes no more room
counted : {T : Type 0} (n : ℕ) (slots : List (Option T)) (i : ℕ) (v : T) → is_some (get_or slots i None) ≡ true
    → fold (λ a x. a + (if is_some x then 1 else 0)) n (set slots i (Some v)) ≡ fold (λ a x. a + (if is_some x then 1 else 0)) n slots
counted n [] i v h = absurd (false≢true h)
counted n (None ∷ slots) zero v h = absurd (false≢true h)
counted n (Some w ∷ slots) zero v h = refl
counted n (x ∷ slots) (suc i) v h = counted (n + (if is_some x then 1 else 0)) slots i v h

counts_same : {T : Type 0} (slots : List (Option T)) (i : ℕ) (v : T) → is_some (get_or slots i None) ≡ true → count_by is_some (set slots i (Some v)) ≡ count_by is_some slots
counts_same slots i v h = counted 0 slots i v h

pub insert_reserved-requires : goal.insert_reserved-requires
insert_reserved-requires g c =
    let there = subst (λ o. IsSome o) (sym (ap (λ s. get s c.args.i) c.reserve.ensures.rest_kept)) c.requires.there in
    let v : Arc g.row.A.Denot = record c.unwrap-arc-2.result.now { keys = c.truncate.new.self } in
    omega (arith, counts_same c.reserve.new.self.slots c.args.i v there, c.in_ok-reserve.ensures.room)

-- the allocation changed no arc
same : (g : Over) (c : goal.After-put_uses g) (j : ℕ) → get c.reserve.new.self j ≡ get c.args.self.now.arcs j
same g c j = ap (λ s. get s j) c.reserve.ensures.rest_kept

key : (g : Over) (c : goal.After-put_uses g) → c.insert_reserved.result ≡ c.vacant_key-n.result
key g c = c.insert_reserved.ensures.key ∙ sym c.vacant_key-n.ensures.value

-- arc i, which is shortened
abbrev short : (g : Over) (c : goal.After-put_uses g) → Arc g.row.A.Denot
short g c = record c.unwrap-arc-2.result.now { keys = c.truncate.new.self }

arc : (g : Over) (c : goal.After-put_uses g) → Some c.unwrap-arc.result.now ≡ get c.args.self.now.arcs c.args.i
arc g c = sym (ap option_copied c.unwrap-arc.ensures) ∙ c.get.ensures ∙ same g c c.args.i

arc_again : (g : Over) (c : goal.After-put_uses g) → Some c.unwrap-arc-2.result.now ≡ get c.args.self.now.arcs c.args.i
arc_again g c = sym (ap option_copied_mut c.unwrap-arc-2.ensures) ∙ c.get_mut.ensures.value ∙ same g c c.args.i

shortened : (g : Over) (c : goal.After-put_uses g) → Updates c.reserve.new.self (with_value c.reserve.new.self c.args.i (short g c)) c.args.i (Some (short g c))
shortened g c = Updates-with_value c.reserve.new.self c.args.i (short g c) (subst (λ o. IsSome o) (sym (same g c c.args.i)) c.requires.there)

apart : (g : Over) (c : goal.After-put_uses g) → c.args.i ≢ c.insert_reserved.result
apart g c e = false≢true (ap is_some (sym c.insert_reserved.ensures.was_vacant ∙ ap (get (with_value c.reserve.new.self c.args.i (short g c))) (sym e) ∙ (shortened g c).changed))

here : (g : Over) (c : goal.After-put_uses g) → get c.insert_reserved.new.self c.args.i ≡ Some (short g c)
here g c = c.insert_reserved.ensures.updates.others c.args.i (apart g c) ∙ (shortened g c).changed

new_there : (g : Over) (c : goal.After-put_uses g) → ContainsKey c.insert_reserved.new.self c.vacant_key-n.result
new_there g c = subst (λ k. ContainsKey c.insert_reserved.new.self k) (key g c) (ap is_some c.insert_reserved.ensures.updates.changed)

others : (g : Over) (c : goal.After-put_uses g) (j : ℕ) → j ≢ c.args.i → j ≢ c.vacant_key-n.result → get c.insert_reserved.new.self j ≡ get c.args.self.now.arcs j
others g c j f f' = c.insert_reserved.ensures.updates.others j (λ e. f' (e ∙ key g c)) ∙ (shortened g c).others j f ∙ same g c j

kept : (g : Over) (c : goal.After-put_uses g) (j : ℕ) → ContainsKey c.args.self.now.arcs j → ContainsKey c.insert_reserved.new.self j
kept g c j h = elim (cases_eq j c.args.i) [
  | inl e ↦ subst (λ k. ContainsKey c.insert_reserved.new.self k) (sym e) (ap is_some (here g c))
  | inr f ↦ elim (cases_eq j c.vacant_key-n.result) [
    | inl e ↦ subst (λ k. ContainsKey c.insert_reserved.new.self k) (sym e) (new_there g c)
    | inr f' ↦ subst (λ o. IsSome o) (sym (others g c j f f')) h
  ]
]

parted : (g : Over) (c : goal.After-put_uses g) → Parted c.args.self.now.arcs c.insert_reserved.new.self c.args.i c.vacant_key-n.result c.args.at c.in_ok-users.users.items
parted g c = record {
  vacant = sym (same g c c.vacant_key-n.result) ∙ c.vacant_key-n.ensures.vacant;
  i_there = c.requires.there;
  apart = λ e. apart g c (e ∙ sym (key g c));
  first = ap path_in (here g c) ∙ c.truncate.ensures.items ∙ ap (λ o. take (c.args.at + 1) (path_in o)) (arc_again g c);
  second = ap (λ k. path_in (get c.insert_reserved.new.self k)) (sym (key g c)) ∙ ap path_in c.insert_reserved.ensures.updates.changed ∙ c.in_ok-tail.ensures.items ∙ rest c.args.at c.deref.result.now ∙ ap (drop c.args.at) c.deref.ensures.value ∙ ap (λ o. drop c.args.at (path_in o)) (arc g c);
  others = others g c;
  users-is = same_from_all_zip _ c.unwrap-arc.result.now.rings.items c.in_ok-users.users.items c.in_ok-users.ensures.cases (λ x y e. e) ∙ ap users_in (arc g c);
  users_i = ap users_in (here g c) ∙ ap users_in (arc_again g c);
  users_n = ap (λ k. users_in (get c.insert_reserved.new.self k)) (sym (key g c)) ∙ ap users_in c.insert_reserved.ensures.updates.changed;
  kept = kept g c;
  new_there = new_there g c;
}

all : (g : Over) (c : goal.After-put_uses g) (r : ℕ) → Contains c.in_ok-users.users.items r → ContainsKey c.args.self.now.rings r → HasRing c.in_ok-news.news.items r
all g c r m h = c.in_ok-news.ensures.all r (subst (λ z. Contains z r) (sym c.as_slice.ensures) m) h

pub returns-clause-ok : goal.returns-clause-ok
returns-clause-ok g c = cuts_of c.args.self.now.arcs c.insert_reserved.new.self c.args.self.now.rings c.put_uses.new.rings c.args.i c.vacant_key-n.result c.args.at c.in_ok-users.users.items c.in_ok-news.news.items
    c.requires.inner c.requires.whole.known (parted g c) c.put_uses.ensures.put c.in_ok-news.ensures.each (all g c)

pub returns-clause-whole : goal.returns-clause-whole
returns-clause-whole g c = record {
  known = still_known c.args.self.now.arcs c.insert_reserved.new.self c.args.self.now.rings c.put_uses.new.rings c.args.i c.vacant_key-n.result c.args.at c.in_ok-users.users.items c.in_ok-news.news.items
      c.requires.inner c.requires.whole.known (parted g c) c.put_uses.ensures.put c.in_ok-news.ensures.each (all g c);
  listed = stands_off c.args.i (λ j. path_in (get c.insert_reserved.new.self j)) (stand_at c.note.new.stands.items) (stand_at c.unlist_moved.new.stands.items)
      (λ k j h. c.unlist_moved.ensures k j (elim h [ inl f ↦ inl f | inr m ↦ inr (subst (λ z. Contains z k) (ap path_in (here g c) ∙ sym c.as_slice-3.ensures.value) m) ]))
      (stands_cut c.args.i c.vacant_key-n.result (take c.args.at (path_of c.args.self.now c.args.i)) (get_or (path_of c.args.self.now c.args.i) c.args.at 0) (drop (c.args.at + 1) (path_of c.args.self.now c.args.i))
      (store c.args.self.now) (store_of c.insert_reserved.new.self c.put_uses.new.rings) (stand_at c.args.self.now.stands.items) (stand_at c.note.new.stands.items) (returns-clause-ok g c) c.requires.whole.listed (λ k j. c.note.ensures.kept k j)
      (λ k m. c.in_ok-note.ensures.noted k (subst (λ z. Contains z k) (sym (c.as_slice-2.ensures.value ∙ sym (ap (λ n. path_in (get c.insert_reserved.new.self n)) (sym (key g c)) ∙ ap path_in c.insert_reserved.ensures.updates.changed) ∙ (returns-clause-ok g c).second)) m)));
}

pub returns-in_err-news-clause-whole : goal.returns-in_err-news-clause-whole
returns-in_err-news-clause-whole g c = whole_alike c.args.self.now (record c.args.self.now { arcs = c.reserve.new.self }) (λ j. ap (λ s. get s j) c.reserve.ensures.rest_kept) (λ k. refl) (λ j m x. x) c.requires.whole

pub returns-in_err-note-clause-whole : goal.returns-in_err-note-clause-whole
returns-in_err-note-clause-whole g c = whole_alike c.args.self.now (record c.args.self.now { arcs = c.reserve.new.self; stands = c.note.new.stands }) (λ j. ap (λ s. get s j) c.reserve.ensures.rest_kept) (λ k. refl) c.note.ensures.kept c.requires.whole

pub returns-clause-arcs_there : goal.returns-clause-arcs_there
returns-clause-arcs_there g c = kept g c

pub returns-clause-new_there : goal.returns-clause-new_there
returns-clause-new_there g c = new_there g c
