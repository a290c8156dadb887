-- What is asked of a text.
use Rattle.std.specs.Prelude.{ℕ, Bool, Option, option_map}
use Rattle.ring_machine.specs.Common.{Text}
use Rattle.geo_text.specs.declared.asked.Asked.{Asked}

-- the layer's name, and how many decimals coordinates have, where these are asked for; whether rings keep the direction
-- that they have; and whether collections within the layer are taken apart into Features
pub record Wants : Type 0 where
  pub layer : Option Text
  pub decimals : Option ℕ
  pub keeps_winding : Bool
  pub flattens : Bool

abbrev pub view_asked : Asked → Wants
view_asked asked = record {
  layer = option_map (λ name. name.now) asked.layer;
  decimals = asked.decimals;
  keeps_winding = asked.keeps_winding;
  flattens = asked.flattens;
}
