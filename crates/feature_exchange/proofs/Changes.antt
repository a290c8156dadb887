-- Numbers of which some go and others come.
use Rattle.kit_words.proofs.Common.{◌≡◌, ℕ, true, sym, subst, List, [], ◌++◌, ◌⊎◌, inl, inr}
use Rattle.ring_machine.specs.Common.{are_distinct}
use Rattle.ring_machine.proofs.Common.{In, in-append, in_left, in_right, DistinctParts, distinct-append, distinct_parts}
use Rattle.ring_machine.proofs.Common.{in_swap}

-- of the old numbers these went, and these came; none of what is there now stands twice
pub record Changes (old new gone came : List ℕ) : Type 0 where
  pub was : (r : ℕ) → In r gone → In r old
  pub from : (r : ℕ) → In r new → (In r old × (In r gone → ⊥)) ⊎ In r came
  pub stays : (r : ℕ) → In r old → (In r gone → ⊥) → In r new
  pub comes : (r : ℕ) → In r came → In r new
  pub once : are_distinct new ≡ true

pub none_changes : (ns : List ℕ) → are_distinct ns ≡ true → Changes ns ns [] []
none_changes ns d = record {
  was = λ r i. absurd i;
  from = λ r i. inl (i, λ j. j);
  stays = λ r i f. i;
  comes = λ r i. absurd i;
  once = d;
}

-- in one place of the list
module _ (us gone came vs : List ℕ) (distinct : are_distinct (us ++ (gone ++ vs)) ≡ true)
    (different : are_distinct came ≡ true) (apart : (r : ℕ) → In r came → In r (us ++ (gone ++ vs)) → ⊥) where
  pub changes_at : Changes (us ++ (gone ++ vs)) (us ++ (came ++ vs)) gone came
  changes_at = record {
    was = λ r i. in_right r us (gone ++ vs) (in_left r gone vs i);
    from = λ r i. elim (in-append r us (came ++ vs) i) [
      | inl j ↦ inl (in_left r us (gone ++ vs) j, λ k. whole.apart r j (in_left r gone vs k))
      | inr j ↦ elim (in-append r came vs j) [
        | inl k ↦ inr k
        | inr k ↦ inl (in_right r us (gone ++ vs) (in_right r gone vs k), λ l. rest.apart r l k)
      ]
    ];
    stays = λ r i f. elim (in-append r us (gone ++ vs) i) [
      | inl j ↦ in_left r us (came ++ vs) j
      | inr j ↦ elim (in-append r gone vs j) [
        | inl k ↦ absurd (f k)
        | inr k ↦ in_right r us (came ++ vs) (in_right r came vs k)
      ]
    ];
    comes = λ r i. in_right r us (came ++ vs) (in_left r came vs i);
    once = distinct-append us (came ++ vs) whole.left
        (distinct-append came vs different rest.right (λ r i j. apart r i (in_right r us (gone ++ vs) (in_right r gone vs j))))
        (λ r i j. elim (in-append r came vs j) [
          | inl k ↦ apart r k (in_left r us (gone ++ vs) i)
          | inr k ↦ whole.apart r i (in_right r gone vs k)
        ]);
  }
    where
      whole : DistinctParts us (gone ++ vs)
      whole = distinct_parts us (gone ++ vs) distinct

      rest : DistinctParts gone vs
      rest = distinct_parts gone vs whole.right

-- one change after the other, where what goes then is not what came first
pub changes_twice : (old mid new gone came gone' came' : List ℕ) → Changes old mid gone came
    → Changes mid new gone' came' → ((r : ℕ) → In r gone' → In r came → ⊥)
    → Changes old new (gone ++ gone') (came ++ came')
changes_twice old mid new gone came gone' came' a b apart = record {
  was = λ r i. elim (in-append r gone gone' i) [
    | inl j ↦ a.was r j
    | inr j ↦ elim (a.from r (b.was r j)) [ inl k ↦ k.0 | inr k ↦ absurd (apart r j k) ]
  ];
  from = λ r i. elim (b.from r i) [
    | inl j ↦ elim (a.from r j.0) [
      | inl k ↦ inl (k.0, λ l. elim (in-append r gone gone' l) [ inl m ↦ k.1 m | inr m ↦ j.1 m ])
      | inr k ↦ inr (in_left r came came' k)
    ]
    | inr j ↦ inr (in_right r came came' j)
  ];
  stays = λ r i f.
      b.stays r (a.stays r i (λ k. f (in_left r gone gone' k))) (λ k. f (in_right r gone gone' k));
  comes = λ r i. elim (in-append r came came' i) [
    | inl j ↦ b.stays r (a.comes r j) (λ k. apart r k j)
    | inr j ↦ b.comes r j
  ];
  once = b.once;
}

-- with other names for the same lists
pub changes_as : (old new gone came old' new' gone' came' : List ℕ) → old' ≡ old → new' ≡ new → gone' ≡ gone
    → came' ≡ came → Changes old new gone came → Changes old' new' gone' came'
changes_as old new gone came old' new' gone' came' e f g h c =
    subst (λ z. Changes z new' gone' came') (sym e)
    (subst (λ z. Changes old z gone' came') (sym f)
    (subst (λ z. Changes old new z came') (sym g) (subst (λ z. Changes old new gone z) (sym h) c)))

-- in another order
pub changes_swap : (old new gone gone' came came' : List ℕ) → Changes old new (gone ++ gone') (came ++ came')
    → Changes old new (gone' ++ gone) (came' ++ came)
changes_swap old new gone gone' came came' c = record {
  was = λ r i. c.was r (in_swap r gone' gone i);
  from = λ r i. elim (c.from r i) [
    | inl j ↦ inl (j.0, λ k. j.1 (in_swap r gone' gone k))
    | inr j ↦ inr (in_swap r came came' j)
  ];
  stays = λ r i f. c.stays r i (λ k. f (in_swap r gone gone' k));
  comes = λ r i. c.comes r (in_swap r came' came i);
  once = c.once;
}
