-- Where at most one run of a ring's elements passes a test, the ring is that run and the rest.
use Rattle.kit_words.proofs.Common.{◌≡◌, ◌≤◌, ◌+◌, ℕ, Bool, true, false, refl, sym, ap, ap₂, ◌∙◌, cond, List, [], ◌∷◌}
use Rattle.kit_words.proofs.Common.{◌++◌, append_assoc, ◌||◌, ◌&&◌, arith, not, list_any, list_all, zip, count_by}
use Rattle.kit_words.proofs.Common.{false≢true, append-nil, sum_by-cons, list_any-append, and_parts}
use Rattle.grid_geometry.specs.Common.{Edge}
use Rattle.ring_machine.specs.Common.{runs, neighbour_edges}

-- the list, begun elsewhere, is a run of elements that pass the test, and others that do not
pub record Run {A : Type 0} (c : A → Bool) (es : List A) : Type 0 where
  pub us : List A
  pub vs : List A
  pub first : A
  pub more : List A
  pub rest : List A
  pub are : es ≡ us ++ vs
  pub turned : vs ++ us ≡ (first ∷ more) ++ rest
  pub common : list_all c (first ∷ more) ≡ true
  pub own : list_any c rest ≡ false

pub all-append : {A : Type 0} (c : A → Bool) (xs ys : List A) → list_all c xs ≡ true
    → list_all c ys ≡ true → list_all c (xs ++ ys) ≡ true
all-append c [] ys h k = k
all-append c (x ∷ xs) ys h k =
    let l = and_parts (c x) (list_all c xs) h in
    ap₂ (λ y z. y && z) l.0 (all-append c xs ys l.1 k)

module _ {A : Type 0} (c : A → Bool) where
  abbrev begin : A → A → ℕ
  begin x y = cond (not (c x) && c y) 1 0

  -- how often one that passes comes after one that does not, from x over ys to z
  abbrev ups : A → List A → A → ℕ
  ups x [] z = begin x z
  ups x (y ∷ ys) z = begin x y + ups y ys z

  begins : (x y : A) → c x ≡ false → c y ≡ true → begin x y ≡ 1
  begins x y h k = ap₂ (λ a b. cond (not a && b) 1 0) h k

  -- one that passes is reached
  one_up : (x : A) (ys : List A) (z : A) → c x ≡ false → c z ≡ true → 1 ≤ ups x ys z
  one_up x [] z h k = omega (arith, begins x z h k)
  one_up x (y ∷ ys) z h k = grind (arith, one_up y ys z)

  all_off : (x : A) (ys : List A) (z : A) → c x ≡ false → ups x ys z ≤ 0 → list_any c ys ≡ false
  all_off x [] z h n = refl
  all_off x (y ∷ ys) z h n = grind (arith, all_off y ys z)

  all_on : (x : A) (ys : List A) (z : A) → c x ≡ true → c z ≡ true → ups x ys z ≤ 0
      → list_all c ys ≡ true
  all_on x [] z h k n = refl
  all_on x (y ∷ ys) z h k n = by (c y) refl (λ l. all_on y ys z l k (omega (arith, n)))
    where
      by : (b : Bool) → c y ≡ b → (c y ≡ true → list_all c ys ≡ true) → (c y && list_all c ys)
          ≡ true
      by true e f = ap₂ (λ a b. a && b) e (f e)
      by false e f = absurd (omega (arith, n, one_up y ys z e k))

  -- first those that pass, then those that do not
  record OnOff (ys : List A) : Type 0 where
    on : List A
    off : List A
    is : ys ≡ on ++ off
    pass : list_all c on ≡ true
    fail : list_any c off ≡ false

  on_off : (x : A) (ys : List A) (z : A) → ups x ys z ≤ 0 → OnOff ys
  on_off x [] z n = record { on = []; off = []; is = refl; pass = refl; fail = refl }
  on_off x (y ∷ ys) z n = by (c y) refl (on_off y ys z (omega (arith, n)))
    where
      by : (b : Bool) → c y ≡ b → OnOff ys → OnOff (y ∷ ys)
      by true e s = record { on = y ∷ s.on; off = s.off; is = ap (λ t. y ∷ t) s.is; pass = ap₂ (λ a b. a && b) e s.pass; fail = s.fail }
      by false e s = record { on = []; off = y ∷ ys; is = refl; pass = refl; fail = ap₂ (λ a b. a || b) e (all_off y ys z e (omega (arith, n))) }

  -- first those that do not pass, then those that do
  record OffOn (ys : List A) : Type 0 where
    off : List A
    on : List A
    is : ys ≡ off ++ on
    fail : list_any c off ≡ false
    pass : list_all c on ≡ true

  off_on : (x : A) (ys : List A) (z : A) → c x ≡ false → c z ≡ true → ups x ys z ≤ 1 → OffOn ys
  off_on x [] z h k n = record { off = []; on = []; is = refl; fail = refl; pass = refl }
  off_on x (y ∷ ys) z h k n = by (c y) refl (λ l. off_on y ys z l k (omega (arith, n)))
    where
      by : (b : Bool) → c y ≡ b → (c y ≡ false → OffOn ys) → OffOn (y ∷ ys)
      by true e f = record { off = []; on = y ∷ ys; is = refl; fail = refl; pass = ap₂ (λ a b. a && b) e (all_on y ys z e k (omega (arith, n, begins x y h e))) }
      by false e f = let s = f e in record { off = y ∷ s.off; on = s.on; is = ap (λ t. y ∷ t) s.is; fail = ap₂ (λ a b. a || b) e s.fail; pass = s.pass }

  -- one that passes first: those that do not are in the middle
  record OnOffOn (ys : List A) : Type 0 where
    fore : List A
    off : List A
    aft : List A
    is : ys ≡ fore ++ (off ++ aft)
    pass : list_all c fore ≡ true
    fail : list_any c off ≡ false
    more : list_all c aft ≡ true

  on_off_on : (x : A) (ys : List A) (z : A) → c x ≡ true → c z ≡ true → ups x ys z ≤ 1
      → list_all c ys ≡ false → OnOffOn ys
  on_off_on x [] z h k n a = absurd (false≢true (sym a))
  on_off_on x (y ∷ ys) z h k n a = by (c y) refl (λ l. on_off_on y ys z l k (omega (arith, n)))
    where
      by : (b : Bool) → c y ≡ b → (c y ≡ true → list_all c ys ≡ false → OnOffOn ys)
          → OnOffOn (y ∷ ys)
      by true e f =
          let s = f e (ap (λ t. t && list_all c ys) (sym e) ∙ a) in
          record { fore = y ∷ s.fore; off = s.off; aft = s.aft; is = ap (λ t. y ∷ t) s.is; pass = ap₂ (λ p q. p && q) e s.pass; fail = s.fail; more = s.more }
      by false e f =
          let s = off_on y ys z e k (omega (arith, n)) in
          record { fore = []; off = y ∷ s.off; aft = s.on; is = ap (λ t. y ∷ t) s.is; pass = refl; fail = ap₂ (λ p q. p || q) e s.fail; more = s.pass }

  -- one that does not pass first: those that do are in the middle
  record OffOnOff (ys : List A) : Type 0 where
    fore : List A
    first : A
    on : List A
    aft : List A
    is : ys ≡ fore ++ ((first ∷ on) ++ aft)
    fail : list_any c fore ≡ false
    pass : list_all c (first ∷ on) ≡ true
    more : list_any c aft ≡ false

  off_on_off : (x : A) (ys : List A) (z : A) → c x ≡ false → ups x ys z ≤ 1 → list_any c ys ≡ true
      → OffOnOff ys
  off_on_off x [] z h n a = absurd (false≢true a)
  off_on_off x (y ∷ ys) z h n a = by (c y) refl (λ l. off_on_off y ys z l (omega (arith, n)))
    where
      by : (b : Bool) → c y ≡ b → (c y ≡ false → list_any c ys ≡ true → OffOnOff ys)
          → OffOnOff (y ∷ ys)
      by true e f =
          let s = on_off y ys z (omega (arith, n, begins x y h e)) in
          record { fore = []; first = y; on = s.on; aft = s.off; is = ap (λ t. y ∷ t) s.is; fail = refl; pass = ap₂ (λ p q. p && q) e s.pass; more = s.fail }
      by false e f =
          let s = f e (ap (λ t. t || list_any c ys) (sym e) ∙ a) in
          record { fore = y ∷ s.fore; first = s.first; on = s.on; aft = s.aft; is = ap (λ t. y ∷ t) s.is; fail = ap₂ (λ p q. p || q) e s.fail; pass = s.pass; more = s.more }

  run_all : (e : A) (es : List A) → list_all c (e ∷ es) ≡ true → Run c (e ∷ es)
  run_all e es a = record { us = []; vs = e ∷ es; first = e; more = es; rest = []; are = refl; turned = refl; common = a; own = refl }

  run_around : (e : A) (es : List A) → c e ≡ true → OnOffOn es → Run c (e ∷ es)
  run_around e es h s = by s.aft s.is s.more
    where
      common : list_all c (e ∷ s.fore) ≡ true
      common = ap₂ (λ p q. p && q) h s.pass

      by : (aft : List A) → es ≡ s.fore ++ (s.off ++ aft) → list_all c aft ≡ true → Run c (e ∷ es)
      by [] i a = record { us = []; vs = e ∷ es; first = e; more = s.fore; rest = s.off; are = refl; turned = append-nil (e ∷ es) ∙ ap (λ t. e ∷ t) (i ∙ ap (λ t. s.fore ++ t) (append-nil s.off)); common = common; own = s.fail }
      by (t ∷ aft) i a = record {
        us = (e ∷ s.fore) ++ s.off;
        vs = t ∷ aft;
        first = t;
        more = aft ++ e ∷ s.fore;
        rest = s.off;
        are = ap (λ z. e ∷ z) (i ∙ sym (append_assoc s.fore s.off (t ∷ aft)));
        turned = sym (append_assoc (t ∷ aft) (e ∷ s.fore) s.off);
        common = all-append c (t ∷ aft) (e ∷ s.fore) a common;
        own = s.fail;
      }

  run_inside : (e : A) (es : List A) → c e ≡ false → OffOnOff es → Run c (e ∷ es)
  run_inside e es h s = record {
    us = e ∷ s.fore;
    vs = (s.first ∷ s.on) ++ s.aft;
    first = s.first;
    more = s.on;
    rest = s.aft ++ e ∷ s.fore;
    are = ap (λ t. e ∷ t) s.is;
    turned = append_assoc (s.first ∷ s.on) s.aft (e ∷ s.fore);
    common = s.pass;
    own = list_any-append c s.aft (e ∷ s.fore) ∙ ap₂ (λ p q. p || q) s.more (ap₂ (λ p q. p || q) h s.fail);
  }

  run_in : (e : A) (es : List A) → list_any c (e ∷ es) ≡ true → list_all c (e ∷ es) ≡ false
      → ups e es e ≤ 1 → Run c (e ∷ es)
  run_in e es some a n = by (c e) refl
    where
      by : (b : Bool) → c e ≡ b → Run c (e ∷ es)
      by true h = run_around e es h (on_off_on e es e h h n (ap (λ t. t && list_all c es) (sym h) ∙ a))
      by false h = run_inside e es h (off_on_off e es e h n (ap (λ t. t || list_any c es) (sym h) ∙ some))

  count_cons : {B : Type 0} (p : B → Bool) (x : B) (xs : List B)
      → count_by p (x ∷ xs) ≡ cond (p x) 1 0 + count_by p xs
  count_cons p x xs = simp sum_by-cons

  ups_are : (x : A) (ys : List A) (z : A)
      → count_by (λ u. not (c u.0) && c u.1) (zip (x ∷ ys) (ys ++ z ∷ [])) ≡ ups x ys z
  ups_are x [] z = count_cons {B = A × A} (λ u. not (c u.0) && c u.1) (x, z) [] ∙ none (begin x z)
    where
      none : (n : ℕ) → n + 0 ≡ n
      none n = omega arith
  ups_are x (y ∷ ys) z = count_cons {B = A × A} (λ u. not (c u.0) && c u.1) (x, y) (zip (y ∷ ys) (ys ++ z ∷ [])) ∙ ap (λ n. begin x y + n) (ups_are y ys z)

-- some edges pass the test, in one run
pub run_of : (c : Edge → Bool) (es : List Edge) → list_any c es ≡ true → runs c es ≤ 1 → Run c es
run_of c [] some n = absurd (false≢true some)
run_of c (e ∷ es) some n = by (list_all c (e ∷ es)) refl n
  where
    by : (b : Bool) → list_all c (e ∷ es) ≡ b
        → cond b 1 (count_by (λ u. not (c u.0) && c u.1) (neighbour_edges (e ∷ es))) ≤ 1
        → Run c (e ∷ es)
    by true a k = run_all c e es a
    by false a k = run_in c e es some a (omega (arith, k, ups_are c e es e))
