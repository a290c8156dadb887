-- Two rings with one common run: the edges of the joined ring are those that only one of them has.
use Rattle.kit_words.proofs.Common.{◌≡◌, true, false, refl, sym, ap, ap₂, ◌∙◌, subst, List, [], ◌∷◌, ◌++◌, ◌&&◌, inl}
use Rattle.kit_words.proofs.Common.{inr, list_all, false≢true, append-nil}
use Rattle.grid_geometry.specs.Common.{Position, Edge, edges}
use Rattle.ring_machine.specs.Common.{is_ring, canonical, Chain, is_common, same_segments, joined}
use Rattle.ring_machine.proofs.Edges.{starts, chain_append, closed}
use Rattle.ring_machine.proofs.Arcs.{flip, flipped}
use Rattle.ring_machine.proofs.Spots.{Rotated}
use Rattle.ring_machine.proofs.First.{In, in_left, in_right}
use Rattle.ring_machine.proofs.Joining.{Parted, joined_is}
use Rattle.ring_machine.proofs.Distinct.{first_once}
use Rattle.ring_machine.proofs.Cycles.{Cycle, cycle_of, cycle_rotated, in_rotated, rotated-sym}
use Rattle.ring_machine.proofs.Cycles.{chain_parts, chain-flipped, in_flipped, flipped_in}
use Rattle.ring_machine.proofs.Cycles.{edges_canonical}
use Rattle.ring_machine.proofs.Passed.{pass_all, in_common, flip_common}
use Rattle.ring_machine.proofs.Neighbours.{all_in, in-map}
use Rattle.ring_machine.proofs.JoinedRuns.{Shared, other_of, in_other, cycle_other}

-- where a way begins and ends
same_way : (e : Edge) (es : List Edge) (p q p' q' : Position) → Chain p (e ∷ es) q
    → Chain p' (e ∷ es) q' → (p ≡ p') × (q ≡ q')
same_way e es p q p' q' h k = (sym h.0 ∙ k.0, same_end e.1 es h.1 k.1)
  where
    same_end : (a : Position) (fs : List Edge) → Chain a fs q → Chain a fs q' → q ≡ q'
    same_end a [] h k = sym h ∙ k
    same_end a (f ∷ fs) h k = same_end f.1 fs h.1 k.1

-- a way that closes is the whole cycle
nothing_more : (e : Edge) (es rest : List Edge) (p : Position) → Chain p (e ∷ es) p
    → Cycle ((e ∷ es) ++ rest) → rest ≡ []
nothing_more e es [] p h c = refl
nothing_more e es (f ∷ rest) p h c =
    let k = chain_parts c.at (e ∷ es) (f ∷ rest) c.at c.chain in
    let s = same_way e es p p c.at k.0 h k.1 in
    let again : f.0 ≡ e.0 = k.2.0 ∙ sym s.1 ∙ sym h.0 in
    absurd (first_once e.0 (starts (es ++ f ∷ rest)) c.starts_once (subst (λ p. In p (starts (es ++ f ∷ rest))) again (in-map (λ (x : Edge). x.0) f (es ++ f ∷ rest) (in_right f es (f ∷ rest) (inl refl)))))

module _ (r s : List Position) (ring : is_ring r ≡ true) (second : is_ring s ≡ true) (k : Shared r s) where
  abbrev run : List Edge
  run = k.first ∷ k.more

  -- the run in reverse is no empty list
  record Back : Type 0 where
    head : Edge
    tail : List Edge
    is : flipped run ≡ head ∷ tail

  back : Back
  back = by (flipped run) refl (in_flipped k.first run (inl refl))
    where
      by : (es : List Edge) → flipped run ≡ es → In (flip k.first) es → Back
      by [] e i = absurd i
      by (x ∷ xs) e i = record { head = x; tail = xs; is = e }

  pub here_cycle : Cycle (run ++ k.own)
  here_cycle = cycle_rotated (edges r) (run ++ k.own) k.here (cycle_of r ring)

  pub there_cycle : Cycle (flipped run ++ k.others)
  there_cycle = cycle_rotated (edges (other_of r s)) (flipped run ++ k.others) k.there (cycle_other r s second)

  pub run_in : (x : Edge) → In x run → In x (edges r)
  run_in x i = in_rotated (run ++ k.own) (edges r) x (rotated-sym (edges r) (run ++ k.own) k.here) (in_left x run k.own i)

  -- ---- the joined ring is that of both rests

  pub first_parted : Parted (is_common s) r k.own
  first_parted = record { us = k.here.us; vs = k.here.vs; e = k.first; run = k.more; are = k.here.from; turned = sym k.here.to; common = k.are_common; own = k.are_own }

  back_common : list_all (is_common r) (flipped run) ≡ true
  back_common = pass_all (is_common r) (flipped run) (λ x i. flip_common r x (run_in (flip x) (flipped_in x run i)))

  pub second_parted : Parted (is_common r) (other_of r s) k.others
  second_parted = let b = back in record {
    us = k.there.us;
    vs = k.there.vs;
    e = b.head;
    run = b.tail;
    are = k.there.from;
    turned = sym k.there.to ∙ ap (λ z. z ++ k.others) b.is;
    common = ap (list_all (is_common r)) (sym b.is) ∙ back_common;
    own = k.are_others;
  }

  pub joined_rests : joined r s ≡ canonical (starts (k.own ++ k.others))
  joined_rests = joined_is r s (other_of r s) k.own k.others refl first_parted second_parted

  -- ---- the ways between the ends of the run

  pub record Between : Type 0 where
    pub begin : Position
    pub end : Position
    pub way : Chain begin run end
    pub rest : Chain end k.own begin
    pub round : Chain begin k.others end

  pub between : Between
  between =
      let b = back in
      let h = chain_parts here_cycle.at run k.own here_cycle.at here_cycle.chain in
      let t = chain_parts there_cycle.at (flipped run) k.others there_cycle.at there_cycle.chain in
      let one : Chain there_cycle.at (b.head ∷ b.tail) t.0 = subst (λ z. Chain there_cycle.at z t.0) b.is t.1 in
      let two : Chain h.0 (b.head ∷ b.tail) here_cycle.at = subst (λ z. Chain h.0 z here_cycle.at) b.is (chain-flipped here_cycle.at run h.0 h.1) in
      let same = same_way b.head b.tail there_cycle.at t.0 h.0 here_cycle.at one two in
      record {
        begin = here_cycle.at;
        end = h.0;
        way = h.1;
        rest = h.2;
        round = subst (λ z. Chain z k.others h.0) same.1 (subst (λ z. Chain t.0 k.others z) same.0 t.2);
      }

  pub rests_closed : Chain between.end (k.own ++ k.others) between.end
  rests_closed = chain_append between.end k.own between.begin k.others between.end between.rest between.round

  -- the edges of the joined ring are the edges that only one of the rings has
  pub joined_edges : Rotated (k.own ++ k.others) (edges (joined r s))
  joined_edges =
      subst (λ z. Rotated (k.own ++ k.others) (edges z)) (sym joined_rests)
      (subst (λ z. Rotated z (edges (canonical (starts (k.own ++ k.others))))) (closed between.end (k.own ++ k.others) rests_closed) (edges_canonical (starts (k.own ++ k.others))))

  -- ---- each ring has edges of its own

  none_of_others : k.own ≡ [] → k.others ≡ []
  none_of_others e =
      let b = back in
      let w = between in
      let meet : w.end ≡ w.begin = subst (λ z. Chain w.end z w.begin) e w.rest in
      let loop : Chain w.end (flipped run) w.end = subst (λ z. Chain w.end (flipped run) z) (sym meet) (chain-flipped w.begin run w.end w.way) in
      nothing_more b.head b.tail k.others w.end (subst (λ z. Chain w.end z w.end) b.is loop) (subst (λ z. Cycle (z ++ k.others)) b.is there_cycle)

  none_of_own : k.others ≡ [] → k.own ≡ []
  none_of_own e =
      let w = between in
      let meet : w.begin ≡ w.end = subst (λ z. Chain w.begin z w.end) e w.round in
      nothing_more k.first k.more k.own w.begin (subst (λ z. Chain w.begin run z) (sym meet) w.way) here_cycle

  all_shared : k.own ≡ [] → k.others ≡ [] → same_segments r s ≡ true
  all_shared e f = ap₂ (λ y z. y && z) (pass_all (is_common s) (edges r) in_run) (pass_all (is_common r) (edges s) in_back)
    where
      in_run : (x : Edge) → In x (edges r) → is_common s x ≡ true
      in_run x i = all_in (is_common s) run x k.are_common (subst (In x) (ap (λ z. run ++ z) e ∙ append-nil run) (in_rotated (edges r) (run ++ k.own) x k.here i))

      round : (x : Edge) → In x (edges (other_of r s)) → In (flip x) (edges r)
      round x i = run_in (flip x) (flipped_in x run (subst (In x) (ap (λ z. flipped run ++ z) f ∙ append-nil (flipped run)) (in_rotated (edges (other_of r s)) (flipped run ++ k.others) x k.there i)))

      in_back : (x : Edge) → In x (edges s) → is_common r x ≡ true
      in_back x i = elim (in_other r s x i) [
        | inl j ↦ flip_common r x (round x j)
        | inr j ↦ in_common r x (round (flip x) j)
      ]

  pub some_own : same_segments r s ≡ false → k.own ≡ [] → ⊥
  some_own h e = false≢true (sym h ∙ all_shared e (none_of_others e))

  pub some_others : same_segments r s ≡ false → k.others ≡ [] → ⊥
  some_others h e = false≢true (sym h ∙ all_shared (none_of_own e) e)
