-- A feature beside its number and its rings.
use Rattle.std.specs.Prelude.{ℕ, List, Option}
use Rattle.ring_machine.specs.Common.{Text, Form, Head, Member, FeatureOf}

-- what a feature has beside its number and its polygons
pub record Texts : Type 0 where
  pub id : Option Text
  pub form : Form
  pub properties : Option Text
  pub members : List Member

abbrev pub texts_of : {R : Type 0} → FeatureOf R → Texts
texts_of f = record {
  id = f.id;
  form = f.form;
  properties = f.properties;
  members = f.members;
}

-- the feature with this number, these texts and these polygons
abbrev pub with_texts : {R : Type 0} → ℕ → Texts → List (List R) → FeatureOf R
with_texts n t polygons = record {
  number = n;
  id = t.id;
  form = t.form;
  properties = t.properties;
  members = t.members;
  polygons = polygons;
}

-- what a feature has by what was read of it
abbrev pub read_texts : Form → Head → Texts
read_texts form head = record {
  id = head.id;
  form = form;
  properties = head.properties;
  members = head.members;
}
