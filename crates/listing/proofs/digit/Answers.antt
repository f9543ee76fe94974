use borrow.Author.Tests.{lt-ltb, le-ltb}
use Rattle.interface.specs.Listing.{digit}
use Rattle.listing.proofs.digit.Goals as goal

pub returns-then-k-lt10 : goal.returns-then-k-lt10
unfolding digit
returns-then-k-lt10 c = simp (lt-ltb _ _ c.if-k-lt10.true)

pub returns-else-k-lt10 : goal.returns-else-k-lt10
unfolding digit
returns-else-k-lt10 c = simp (le-ltb _ _ c.if-k-lt10.false)
