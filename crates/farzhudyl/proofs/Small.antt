-- What each call can answer: the count is bounded where no check refuses.
use mathlib.Core.Path.{◌≡◌, refl}
use mathlib.Core.List.{List}
use Prim.Native.Nat.{ℕ, ◌-◌, ◌^◌, ◌<◌, ◌≤◌}
use native.Mathlib.Omega.{arith}
use lib.IntN.{ℤ}
use lib.ListN.{length}
use Rattle.lists.specs.Lists.{all}
use Rattle.clusters.specs.PairList.{row_start}
use Rattle.interface.specs.Refusals.{numbers_checks, numbers_refusal, linkage_checks, linkage_refusal, anchored_checks, anchored_refusal, back_checks, back_refusal, reader_checks, reader_refusal, sheet_checks, pool_checks, pool_refusal}
use Rattle.interface.specs.Pool.{pool_text}
use Rattle.interface.proofs.PoolScores.{pool_room}
use Rattle.clusters.specs.Groups.{kind_of}
use Rattle.clusters.proofs.PairList.{row_start_le}
use Rattle.interface.proofs.Room.{groups_few}
use Rattle.interface.proofs.Refusals.{under}
use Rattle.answers.specs.Answers.{Answer, count_of, Answered}
use Rattle.interface.specs.Listing.{groups_found}
use Rattle.interface.specs.Sheet.{entries}
use Rattle.matrix.proofs.Checks.{sized}
use Rattle.reader.proofs.Answers.{passes_few}
use Rattle.farzhudyl.proofs.Numbers.{count_most}

-- what `as_number` asks
abbrev pub Small : Answer → Type 0
Small a = count_of a < 2 ^ 63

small : {k c : ℕ} {a : Answer} → Answered k c a → (k ≡ 0 → c ≤ 10528) → Small a
small e h = omega (arith, count_most e h)

module _ {a : Answer} (n : ℕ) (l : List ℤ) where
  pub linkage_small : (room : ℕ) → Answered (linkage_refusal n l room) (n - 1) a → Small a
  unfolding linkage_refusal linkage_checks under all
  linkage_small room e = let checks = linkage_checks n l room in
      small e (λ z. let h = (sized n l checks tt z refl refl).0 in omega arith)

  pub anchored_small : (x room : ℕ) → Answered (anchored_refusal n x l room) (row_start n) a → Small a
  unfolding anchored_refusal anchored_checks under all
  anchored_small x room e = let checks = anchored_checks n x l room in
      small e (λ z. let h = row_start_le n (sized n l checks tt z refl refl).0 in omega arith)

  pub back_small : (x room : ℕ) → Answered (back_refusal n x l room) (row_start n) a → Small a
  unfolding back_refusal back_checks under all
  back_small x room e = let checks = back_checks n x l room in
      small e (λ z. let h = row_start_le n (sized n l checks tt z refl refl).0 in omega arith)

  pub numbers_small : (kind : ℤ) (sets indices : ℕ)
      → Answered (numbers_refusal kind n l sets indices) (length (groups_found kind n l)) a → Small a
  unfolding numbers_refusal numbers_checks groups_found under all
  numbers_small kind sets indices e = let checks = numbers_checks kind n l sets indices in
      small e (λ z. let h = groups_few (kind_of kind) n l (sized n l checks tt z refl refl).0 in omega arith)

pub read_small : {a : Answer} (s : List ℕ) → Answered (reader_refusal s) (entries s) a → Small a
unfolding reader_refusal reader_checks all
read_small s e = small e (λ z. let h = passes_few s z in omega arith)

pub pool_small : {a : Answer} (first second : List ℕ) (room : ℕ) → Answered (pool_refusal first second room) (length (pool_text first second)) a → Small a
unfolding pool_refusal pool_checks sheet_checks reader_checks all
pool_small first second room e = small e (pool_room first second room)
