-- Where a member stands with one comma, as a loop finds it.
use Rattle.kit_words.proofs.Common.{◌≡◌, ℕ, List, [], ◌∷◌, Bool, true, false, refl, sym, ◌∙◌, Option, Some, None}
use Rattle.json_spans.specs.Common.{Node}
use Rattle.decimal_texts.specs.Common.{says, behind, range_of}
use Rattle.decimal_texts.specs.Dropped.{end_of}

pub no_member : (name : List ℕ) (left ms : List (Node × Node)) → left ≡ [] → left ≡ ms → None ≡ range_of name None ms
unfolding range_of
no_member name left ms e is = rw (← is, e) refl

pub member_here : (name : List ℕ) (before : Option ℕ) (m next : Node × Node) (ms left : List (Node × Node)) (b : Bool) (whole : Option (ℕ × ℕ)) → left ≡ next ∷ ms → b ≡ says name m.0 → b ≡ true → range_of name before (m ∷ left) ≡ whole → Some (m.0.at_byte, next.0.at_byte) ≡ whole
unfolding range_of
member_here name before m next ms left b whole e is right h = rw (e, sym is ∙ right) at h

pub member_later : (name : List ℕ) (before : Option ℕ) (m next : Node × Node) (ms left : List (Node × Node)) (b : Bool) (to : ℕ) (whole : Option (ℕ × ℕ)) → left ≡ next ∷ ms → b ≡ says name m.0 → b ≡ false → to ≡ end_of m.1 → range_of name before (m ∷ left) ≡ whole → range_of name (Some to) (next ∷ ms) ≡ whole
unfolding range_of
member_later name before m next ms left b to whole e is wrong t h = rw t (rw (e, sym is ∙ wrong) at h)

pub last_here : (name : List ℕ) (before : Option ℕ) (m : Node × Node) (left : List (Node × Node)) (b : Bool) (to : ℕ) (range whole : Option (ℕ × ℕ)) → left ≡ [] → b ≡ says name m.0 → b ≡ true → to ≡ end_of m.1 → range ≡ behind before to → range_of name before (m ∷ left) ≡ whole → range ≡ whole
unfolding range_of
last_here name before m left b to range whole e is right t r h = rw (r, t) (rw (e, sym is ∙ right) at h)

pub last_other : (name : List ℕ) (before : Option ℕ) (m : Node × Node) (left : List (Node × Node)) (b : Bool) (whole : Option (ℕ × ℕ)) → left ≡ [] → b ≡ says name m.0 → b ≡ false → range_of name before (m ∷ left) ≡ whole → None ≡ whole
unfolding range_of
last_other name before m left b whole e is wrong h = rw (e, sym is ∙ wrong) at h
