-- The elements of a drawing.
use Rattle.std.specs.Prelude.{ℤ, ℕ, List, ◌++◌, codes}
use Rattle.svg_text.specs.Escaping.{escaped}
use Rattle.svg_text.specs.Numbers.{attribute_text, number_pair_text}
use Rattle.svg_text.specs.declared.elements.ElementBox.{ElementBox}

-- the view box of this width and height, as an attribute after a space
abbrev pub view_box_text : ℤ → ℤ → List ℕ
view_box_text width height = codes " viewBox=\"0 0 " ++ (number_pair_text width height ++ codes "\"")

-- the box of an element, as attributes
abbrev pub box_attributes : ElementBox → List ℕ
box_attributes p =
    attribute_text (codes "x") p.x ++ (attribute_text (codes "y") p.y
    ++ (attribute_text (codes "width") p.width ++ attribute_text (codes "height") p.height))

-- the beginning of a picture
abbrev pub opened_picture_text : ℤ → ℤ → List ℕ
opened_picture_text width height =
    codes "<svg xmlns=\"http://www.w3.org/2000/svg\"" ++ (attribute_text (codes "width") width
    ++ (attribute_text (codes "height") height ++ (view_box_text width height ++ codes ">\n")))

-- the beginning of a view inside a picture
abbrev pub opened_view_text : ElementBox → ℤ → ℤ → List ℕ
opened_view_text p width height =
    codes "<svg" ++ (box_attributes p ++ (view_box_text width height ++ codes ">\n"))

-- a line of words
abbrev pub text_element : List ℕ → ℤ → ℤ → List ℕ → List ℕ
text_element style x y words =
    codes "<text class=\"" ++ (style ++ (codes "\"" ++ (attribute_text (codes "x") x
    ++ (attribute_text (codes "y") y ++ (codes ">" ++ (escaped words ++ codes "</text>\n"))))))
