-- A decimal that the code holds, as the definitions see it.
use Rattle.decimal_texts.specs.Decimal.{Parts}
use Rattle.decimal_texts.specs.declared.decimal.Decimal.{Decimal}

abbrev pub parts : Decimal → Parts
parts d = record {
  is_negative = d.is_negative;
  integer = d.integer.now;
  fraction = d.fraction.now;
  exponent = d.exponent;
}
