-- The words of this crate that others cite most, passed on from one place. Declares nothing.
pub use Rattle.border_mend.specs.Asked.{AreDifferent, IsAsked, IsCount, map_argument, option_rule, mend_program, value_given}
unfoldable pub use Rattle.border_mend.specs.Asked.{dropped}
