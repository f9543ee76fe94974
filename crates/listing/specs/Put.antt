-- A text that is put into a buffer: the writer's own vocabulary, which nobody need believe.
use Rattle.std.specs.Prelude.{◌≡◌, List, ℕ, ◌+◌, length}
use Rattle.std.proofs.lemmas.List.Edits.{sets}
use Rattle.listing.specs.declared.Text.{Text}

-- the bytes stand behind the text before, in the same buffer, of which nothing else has changed
pub record Put (before : Text) (bytes : List ℕ) (after : Text) : Type 0 where
  pub same_reference : after.out.ghost_name ≡ before.out.ghost_name
  pub size : length after.out.now ≡ length before.out.now
  pub place : after.at ≡ before.at + length bytes
  pub stored : after.out.now ≡ sets before.out.now before.at bytes
