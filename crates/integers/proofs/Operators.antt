-- The operators and methods of signed numbers, as rules.
use Rattle.std.proofs.lemmas.Int.{ints, to_z-of_z}
pub use Rattle.integers.proofs.Methods.{not_less, min_is, max_is, same_bits, even_is}

-- for `#[tactic(auto, using(..))]`
pub ruleset operators = (ints, to_z-of_z, min_is, max_is, same_bits, even_is)
