-- Which grids are taken.
use Rattle.kit_words.proofs.Common.{◌≡◌, ℕ, ◌<◌, ◌≤◌, ◌^◌, refl, ap, ap₂, subst, sym, ◌∙◌, Bool, true, false, ◌&&◌, nat_le, max}
use Rattle.kit_words.proofs.Common.{and_none, and_from, cond-false, cond-true, le-leb, lt-leb, Option, Some, None, inl, inr, ◌⊎◌}
use Rattle.decimal_texts.specs.Common.{Parts}
use Rattle.grid_decimals.specs.declared.axis.Axis.{Axis}
use Rattle.grid_decimals.specs.declared.number.Number.{Number}
use Rattle.grid_decimals.specs.Common.{AreRead, AxisOf, GridOf, axis_of, decimals_of, fits_axis, fitting, grid_by, grid_with}
use Rattle.grid_decimals.specs.Common.{most_decimals, size_of, view_axis}
use Rattle.grid_decimals.proofs.Axes.{large_in_scale, large_in_translate}

pub most_is : (a b c d m n o : ℕ) (p q : Parts × Parts) → a ≡ decimals_of p.0 → b ≡ decimals_of p.1 → c ≡ decimals_of q.0
    → d ≡ decimals_of q.1 → m ≡ max a b → n ≡ max c d → o ≡ max m n → o ≡ most_decimals p q
most_is a b c d m n o p q ea eb ec ed em en eo = eo ∙ ap₂ max (em ∙ ap₂ max ea eb) (en ∙ ap₂ max ec ed)

refused : (g : GridOf) → (nat_le g.decimals 36 && (fits_axis g.x && fits_axis g.y)) ≡ false → None ≡ fitting g
refused g e = sym (cond-false _ _ _ e)

pub refused_decimals : (d : ℕ) (p q : Parts × Parts) → 36 < d → None ≡ fitting (grid_with d p q)
refused_decimals d p q h =
    let g = grid_with d p q in
    refused g (ap (λ (t : Bool). t && (fits_axis g.x && fits_axis g.y)) (lt-leb d 36 h))

pub refused_x : (d : ℕ) (p q : Parts × Parts) → fits_axis (axis_of d p.0 q.0) ≡ false → None ≡ fitting (grid_with d p q)
refused_x d p q e =
    let g = grid_with d p q in
    refused g (ap (λ (t : Bool). nat_le d 36 && (t && fits_axis g.y)) e ∙ and_none (nat_le d 36))

pub refused_y : (d : ℕ) (p q : Parts × Parts) → fits_axis (axis_of d p.1 q.1) ≡ false → None ≡ fitting (grid_with d p q)
refused_y d p q e =
    let g = grid_with d p q in
    refused g (ap (λ (t : Bool). nat_le d 36 && (fits_axis g.x && t)) e
    ∙ (ap (λ (t : Bool). nat_le d 36 && t) (and_none (fits_axis g.x)) ∙ and_none (nat_le d 36)))

abbrev grid_from : ℕ → AxisOf → AxisOf → GridOf
grid_from d x y = record { is_given = true; decimals = d; x = x; y = y }

pub taken : (d : ℕ) (p q : Parts × Parts) (x y : Axis) → d ≤ 36
    → (view_axis x ≡ axis_of d p.0 q.0) × (fits_axis (axis_of d p.0 q.0) ≡ true)
    → (view_axis y ≡ axis_of d p.1 q.1) × (fits_axis (axis_of d p.1 q.1) ≡ true)
    → Some (grid_from d (view_axis x) (view_axis y)) ≡ fitting (grid_with d p q)
taken d p q x y h a b =
    ap Some (ap₂ (grid_from d) a.0 b.0)
    ∙ sym (cond-true _ _ _ (and_from _ _ (le-leb d 36 h) (and_from _ _ a.1 b.1)))

-- ---- numbers that are not read

over_scale : (d : ℕ) (p q : Parts × Parts) → (10 ^ 37 < size_of p.0) ⊎ (10 ^ 37 < size_of p.1) → None ≡ fitting (grid_with d p q)
over_scale d p q (inl h) = refused_x d p q (large_in_scale d p.0 q.0 h)
over_scale d p q (inr h) = refused_y d p q (large_in_scale d p.1 q.1 h)

over_translate : (d : ℕ) (p q : Parts × Parts) → (10 ^ 37 < size_of q.0) ⊎ (10 ^ 37 < size_of q.1) → None ≡ fitting (grid_with d p q)
over_translate d p q (inl h) = refused_x d p q (large_in_translate d p.0 q.0 h)
over_translate d p q (inr h) = refused_y d p q (large_in_translate d p.1 q.1 h)

by_no_scale : (p q : Option (Parts × Parts)) → AreRead None p → None ≡ grid_by p q
by_no_scale None q h = refl
by_no_scale (Some p) None h = refl
by_no_scale (Some p) (Some q) h = over_scale (most_decimals p q) p q h

by_no_translate : (p q : Option (Parts × Parts)) → AreRead None q → None ≡ grid_by p q
by_no_translate None q h = refl
by_no_translate (Some p) None h = refl
by_no_translate (Some p) (Some q) h = over_translate (most_decimals p q) p q h

pub no_scale_read : (n : Option (Number × Number)) (p q : Option (Parts × Parts)) → n ≡ None → AreRead n p → None ≡ grid_by p q
no_scale_read n p q e h = by_no_scale p q (subst (λ m. AreRead m p) e h)

pub no_translate_read : (n : Option (Number × Number)) (p q : Option (Parts × Parts)) → n ≡ None → AreRead n q → None ≡ grid_by p q
no_translate_read n p q e h = by_no_translate p q (subst (λ m. AreRead m q) e h)
