-- Texts that write numbers, and the square that three of them name.
use Rattle.kit_words.proofs.Common.{◌≡◌, ◌∙◌, ◌≤◌, ◌<◌, ap, ap₂, arith, ℕ, ℤ, List, [], ◌∷◌, Option, Result, Ok, Err, Bor, FitsSigned}
use Rattle.kit_words.proofs.Common.{IfSome, get_or, length, map, of_z, subst, sym, to_z, to_z-of_z, w64}
use Rattle.std.specs.Result.{result_ok}
use Rattle.std.specs.Str.Parse.{ParsesSigned}
use Rattle.grid_geometry.specs.Common.{Position, position}
use Rattle.map_features.specs.Windows.{IsSquareAbout}
use Rattle.map_features.specs.declared.window.Window.{Window}
use Rattle.border_show.specs.Asked.{IsSquareAsked, IsSquareNamed, Writes}

read : {E : Type 0} (text : List ℕ) (r : Result ℤ E) → ParsesSigned w64 10 text r → IfSome (result_ok r) (Writes text)
read text (Ok n) parsed = (parsed.0.0, parsed.1)
read text (Err e) parsed = tt

-- what a text is read as is what it writes
pub written : {E : Type 0} (text : List ℕ) (r : Result ℤ E) (number : Option ℤ) → ParsesSigned w64 10 text r → number ≡ result_ok r → IfSome number (Writes text)
written text r number parsed is = subst (λ (o : Option ℤ). IfSome o (Writes text)) (sym is) (read text r parsed)

fits : {E : Type 0} (text : List ℕ) (r : Result ℤ E) → ParsesSigned w64 10 text r → IfSome (result_ok r) (FitsSigned w64)
fits text (Ok n) parsed = subst (FitsSigned w64) (sym parsed.1) parsed.0.1
fits text (Err e) parsed = tt

-- and fits 64 bits
pub fitting : {E : Type 0} (text : List ℕ) (r : Result ℤ E) (number : Option ℤ) → ParsesSigned w64 10 text r → number ≡ result_ok r → IfSome number (FitsSigned w64)
fitting text r number parsed is = subst (λ (o : Option ℤ). IfSome o (FitsSigned w64)) (sym is) (fits text r parsed)

-- the square of this width about the position of two numbers is named by the texts that write them
named : (x y width : List ℕ) (across upward wide : ℤ) (middle : Position) (square : Window) → Writes x across → Writes y upward → Writes width wide
    → middle ≡ position across upward → IsSquareAbout middle wide square → IsSquareNamed x y width square
named x y width across upward wide middle square is_x is_y is_width is about = record {
  middle = middle;
  across = subst (Writes x) (sym (ap (λ (p : Position). p.x) is)) is_x;
  upward = subst (Writes y) (sym (ap (λ (p : Position). p.y) is)) is_y;
  wide = subst (Writes width) (sym about.across) is_width;
  about = subst (λ (w : ℤ). IsSquareAbout middle w square) (sym about.across) about;
}

-- the same of the three texts of a list, with numbers of 64 bits
pub named_by : (values : List (Bor (List ℕ))) (other : Bor (List ℕ)) (across upward wide : ℤ) (middle : Position) (square : Window)
    → 3 ≤ length values → length values < 4 → Writes (get_or values 0 other).now across → Writes (get_or values 1 other).now upward → Writes (get_or values 2 other).now wide
    → FitsSigned w64 across → FitsSigned w64 upward → FitsSigned w64 wide
    → middle ≡ position (to_z w64 (of_z w64 across)) (to_z w64 (of_z w64 upward)) → IsSquareAbout middle (to_z w64 (of_z w64 wide)) square
    → IsSquareAsked (map (λ (value : Bor (List ℕ)). value.now) values) square
named_by [] other across upward wide middle square least most x y w fit_x fit_y fit_w is about = absurd (omega arith)
named_by (a ∷ []) other across upward wide middle square least most x y w fit_x fit_y fit_w is about = absurd (omega arith)
named_by (a ∷ b ∷ []) other across upward wide middle square least most x y w fit_x fit_y fit_w is about = absurd (omega arith)
named_by (a ∷ b ∷ c ∷ []) other across upward wide middle square least most x y w fit_x fit_y fit_w is about =
    named a.now b.now c.now across upward wide middle square x y w
    (is ∙ ap₂ position (to_z-of_z w64 across fit_x) (to_z-of_z w64 upward fit_y))
    (subst (λ (n : ℤ). IsSquareAbout middle n square) (to_z-of_z w64 wide fit_w) about)
named_by (a ∷ b ∷ c ∷ d ∷ others) other across upward wide middle square least most x y w fit_x fit_y fit_w is about = absurd (omega arith)
