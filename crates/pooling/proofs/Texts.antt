-- The room that a pool takes.
use mathlib.Core.Path.{◌≡◌, ap}
use mathlib.Core.List.{List}
use Prim.Native.Nat.{ℕ, ◌+◌, ◌*◌, ◌≤◌}
use native.Mathlib.Omega.{arith}
use lib.Dec.{T}
use lib.ListN.{length}
use Rattle.lists.specs.Lists.{all}
use Rattle.lists.proofs.Lists.{all_in}
use Rattle.interface.specs.Sheet.{space, cut, is_name}
use Rattle.interface.proofs.Pieces.{some_piece, length_joined, joined_cut}
use Rattle.interface.proofs.Values.{name_word}

-- line 1 with its names, of 8 bytes at most, leaves room for the rows
pub line_room : (line : List ℕ) (n : ℕ) → n ≤ 32 → n ≡ length (cut space line) → T (all is_name (cut space line)) → length line + 320 * n + 14 ≤ 10541
line_room line n h e t =
    let ws = cut space line in
    let short = length_joined space 9 ws (some_piece space line) (λ w m. omega (arith, (name_word w (all_in is_name ws t m)).short)) in
    omega (arith, ap length (joined_cut space line), short)
