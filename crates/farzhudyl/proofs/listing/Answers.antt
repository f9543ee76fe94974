use native.Mathlib.Omega.{arith}
use mir.Syntax.{w32}
use mir.Facts.{to_z-of_z}
use Rattle.std.proofs.lemmas.Result.{err_from_is_err_and}
use Rattle.clusters.specs.PairList.{row_start}
use Rattle.clusters.proofs.PairList.{row_start_mono}
use Rattle.kinds.proofs.Read.{number_read}
use Rattle.farzhudyl.proofs.Sheets.{refused_kind}
use Rattle.farzhudyl.proofs.listing.Goals as goal

pub returns-in_err-kind : goal.returns-in_err-kind
returns-in_err-kind c = let p = err_from_is_err_and c.from_residual.result c.from_residual.ensures.1 in
    let (is, wrong) = c.in_err-kind.ensures in
    rw (p.1, p.2, is) (refused_kind _ _ _ (rw (to_z-of_z {w = w32} c.ranges.kind) at wrong))

pub returns-in_default : goal.returns-in_default
returns-in_default c = rw (number_read c.ranges.kind c.in_ok-kind.ensures) at c.list_checked.ensures

pub list_in-requires : goal.list_in-requires
unfolding row_start
list_in-requires c = (c.in-Some.ensures, omega (arith, row_start_mono {k = 8} c.if-names-le8.true), omega arith)

pub returns-then-names-le8 : goal.returns-then-names-le8
returns-then-names-le8 c = rw (number_read c.ranges.kind c.in_ok-kind.ensures) at c.list_in.ensures

pub list_in-requires-then-names-le16 : goal.list_in-requires-then-names-le16
unfolding row_start
list_in-requires-then-names-le16 c = (c.in-Some.ensures, omega (arith, row_start_mono {k = 16} c.if-names-le16.true), omega arith)

pub returns-then-names-le16 : goal.returns-then-names-le16
returns-then-names-le16 c = rw (number_read c.ranges.kind c.in_ok-kind.ensures) at c.list_in-then-names-le16.ensures

pub list_in-requires-2 : goal.list_in-requires-2
unfolding row_start
list_in-requires-2 c = (c.in-Some.ensures, omega (arith, row_start_mono {k = 32} c.in-Some.ensures.line.few), omega arith)

pub returns : goal.returns
returns c = rw (number_read c.ranges.kind c.in_ok-kind.ensures) at c.list_in-2.ensures
