-- The words of this crate that others cite most, passed on from one place. Declares nothing.
pub use Rattle.edit_program.specs.Asked.{IsDepth, IsFlag, argument_of, flag_of, flag_rule, option_rule, out_rule, placed_rule, program}
