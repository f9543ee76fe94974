use mathlib.Core.Path.{◌≡◌, ap, ◌∙◌, subst}
use mathlib.Core.List.{List, [], ◌∷◌, ◌++◌}
use Prim.Native.Nat.{ℕ, ◌+◌}
use native.Mathlib.Numerals.{add-one}
use native.Mathlib.Omega.{arith}
use borrow.Author.Rules.{rules}
use lib.IntN.{ℤ, pos}
use lib.ListN.{get_or}
use mir.Facts.{to_z-of_z}
use mir.Syntax.{w32}
use mir.Val.{SFits, to_z, of_z}
use Rattle.pairs.specs.Pairs.{carried}
use Rattle.clusters.specs.PairList.{place, score}
use Rattle.clusters.proofs.PairList.{place_lt}
use Rattle.interface.specs.SheetText.{pair_text, row_text}
use Rattle.listing.specs.declared.Text.{Text}
use Rattle.listing.specs.Put.{Put}
use Rattle.listing.proofs.Puts.{nothing_put, then}
use Rattle.writer.proofs.Texts.{no_cells, cells_next, row_cells, cell_short}
use Rattle.writer.proofs.put_row.Goals as goal

pub loop-j-init : goal.loop-j-init
loop-j-init c = record {
  place_is = c.place_of-place.ensures;
  inside = omega (arith, place_lt c.args.list.now.n c.args.i 0 (omega arith) (omega arith), c.args.list.now.fits.long);
  near = omega arith;
  put = rw no_cells (nothing_put c.args.text.now);
}

-- the pair that is put is that of i and j
pair_put : (l : List ℤ) (i j : ℕ) {k : ℕ} {a b : Text} → SFits w32 (get_or l k (pos 0)) → k ≡ place i j
    → Put a (pair_text (carried (to_z w32 (of_z w32 (get_or l k (pos 0)))))) b → Put a (pair_text (carried (score l i j))) b
unfolding score
pair_put l i j {a = a} {b = b} f e p =
    subst (λ (z : ℤ). Put a (pair_text (carried z)) b) (to_z-of_z f ∙ ap (λ (k : ℕ). get_or l k (pos 0)) e) p

pub loop-j-preserved : goal.loop-j-preserved
loop-j-preserved c = let a = c.args in
    let q = c.requires.row in
    let l = c.loop-j in
    let put = pair_put a.list.now.pairs.now a.i l.j (search rules) l.invariant.place_is c.put_pair.ensures in
    let few = cell_short a.list.now.n a.list.now.pairs.now a.list.now.fits.long q.1 a.i l.j (omega arith) (omega arith) in record {
      place_is = c.next_place-place.ensures;
      inside = omega (arith, place_lt a.list.now.n a.i (l.j + 1) (omega arith) (omega arith), a.list.now.fits.long);
      near = omega (arith, put.place, few);
      put = rw (cells_next _ _ l.j) (then l.invariant.put (then put c.put_byte.ensures));
    }

pub returns : goal.returns
returns c = let a = c.args in
    let q = c.requires.row in
    let l = c.loop-j in
    let e : l.j + 1 ≡ a.list.now.n = omega arith in
    let put = pair_put a.list.now.pairs.now a.i l.j (search rules) l.invariant.place_is c.put_pair-2.ensures in
    let few = cell_short a.list.now.n a.list.now.pairs.now a.list.now.fits.long q.1 a.i l.j (omega arith) (omega arith) in record {
      near = omega (arith, put.place, few);
      put = subst (λ (n : ℕ). Put a.text.now (row_text n (score a.list.now.pairs.now) a.i ++ (10 ∷ [])) c.put_byte-2.new.self) e
          (rw (add-one l.j, row_cells l.j) (then l.invariant.put (then put c.put_byte-2.ensures)));
    }

pub put_byte-requires : goal.put_byte-requires
put_byte-requires c = let a = c.args in
    let q = c.requires.row in
    let l = c.loop-j in
    let put = pair_put a.list.now.pairs.now a.i l.j (search rules) l.invariant.place_is c.put_pair.ensures in
    omega (arith, put.place, cell_short a.list.now.n a.list.now.pairs.now a.list.now.fits.long q.1 a.i l.j (omega arith) (omega arith))

pub put_byte-requires-2 : goal.put_byte-requires-2
put_byte-requires-2 c = let a = c.args in
    let q = c.requires.row in
    let l = c.loop-j in
    let put = pair_put a.list.now.pairs.now a.i l.j (search rules) l.invariant.place_is c.put_pair-2.ensures in
    omega (arith, put.place, cell_short a.list.now.n a.list.now.pairs.now a.list.now.fits.long q.1 a.i l.j (omega arith) (omega arith))
