use Rattle.kit_words.proofs.Common.{◌≡◌, ℕ, sym, ap, ◌∙◌, subst, [], Option, None, is_some, arith, ◌==◌, slice_index_or}
use Rattle.kit_words.proofs.Common.{list_any, false≢true}
use Rattle.slab.specs.Slab.{get}
use Rattle.arc_tables.specs.declared.arc.Arc.{Arc}
use Rattle.arc_tables.specs.declared.arc.Ring.{Ring}
use Rattle.arc_tables.specs.declared.tables.Tables.{Tables}
use Rattle.arc_tables.specs.Common.{links, times, path_in, path_of, users_in, uses_in, uses_arc, AllDifferent, Sound}
use Rattle.arc_tables.proofs.Common.{none_contained}
use Rattle.arc_tables.proofs.Knowing.{known_of}

-- tables with no arc and no ring belong together
pub empty_sound : {A : Type 0} (t : Tables A) → t.arcs.slots ≡ [] → t.rings.slots ≡ [] → Sound t
empty_sound {A} t arcs rings = record {
  whole = record {
    known = known_of t.arcs t.rings
        (λ r i. ap (λ o. uses_arc i (uses_in o)) (no_ring r) ∙ ap (λ o. list_any (λ k. k == r) (users_in o)) (sym (no_arc i)))
        (λ i. subst AllDifferent (sym (ap users_in (no_arc i))) tt)
        (λ i h. absurd (false≢true (sym (ap is_some (no_arc i)) ∙ h)));
    listed = λ j k m. absurd (none_contained k (path_of t j) (ap path_in (no_arc j)) m);
  };
  once = record {
    apart = λ a b i j l m. absurd (omega (arith, l, none_here a b i));
    single = λ a b i. omega (arith, none_here a b i);
  };
}
  where
    no_arc : (i : ℕ) → get t.arcs i ≡ None
    no_arc i = ap (λ slots. let o : Option (Arc A) = slice_index_or slots i None in o) arcs

    no_ring : (r : ℕ) → get t.rings r ≡ None
    no_ring r = ap (λ slots. let o : Option (Ring A) = slice_index_or slots r None in o) rings

    none_here : (a b i : ℕ) → times a b (links (path_of t i)) ≡ 0
    none_here a b i = ap (λ o. times a b (links (path_in o))) (no_arc i)
