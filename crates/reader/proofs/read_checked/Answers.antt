use mathlib.Core.Path.{ap, ◌∙◌}
use Rattle.interface.specs.Refusals.{wrong_count, reader_checks}
use Rattle.interface.proofs.Refusals.{first_yes, first_no, right_count}
use Rattle.reader.proofs.Before.{is, behind5}
use Rattle.reader.proofs.Answers.{length_right, refused}
use Rattle.reader.proofs.read_checked.Goals as goal

pub returns-then-wrong_length : goal.returns-then-wrong_length
unfolding reader_checks
returns-then-wrong_length c = refused _ _ (first_yes (is c.wrong_length.ensures c.if-wrong_length.true))

pub returns-then-wrong_byte : goal.returns-then-wrong_byte
unfolding reader_checks
returns-then-wrong_byte c = let c2 = is c.wrong_length.ensures c.if-wrong_length.false in
    refused _ _ (first_no c2 (first_yes (is c.wrong_byte.ensures c.if-wrong_byte.true)))

pub returns-then-wrong_names : goal.returns-then-wrong_names
unfolding reader_checks
returns-then-wrong_names c = let c2 = is c.wrong_length.ensures c.if-wrong_length.false in
    let c3 = is c.wrong_byte.ensures c.if-wrong_byte.false in
    refused _ _ (first_no c2 (first_no c3 (first_yes (is c.wrong_names.ensures c.if-wrong_names.true))))

pub returns-then-equal_names : goal.returns-then-equal_names
unfolding reader_checks
returns-then-equal_names c = let c2 = is c.wrong_length.ensures c.if-wrong_length.false in
    let c3 = is c.wrong_byte.ensures c.if-wrong_byte.false in
    let c4 = is c.wrong_names.ensures c.if-wrong_names.false in
    refused _ _ (first_no c2 (first_no c3 (first_no c4 (first_yes (is c.equal_names.ensures c.if-equal_names.true)))))

pub entry_count-n-requires : goal.entry_count-n-requires
entry_count-n-requires c = (length_right _ (is c.wrong_length.ensures c.if-wrong_length.false)).1

pub returns-then-is_wrong_count : goal.returns-then-is_wrong_count
unfolding reader_checks
returns-then-is_wrong_count c = let c2 = is c.wrong_length.ensures c.if-wrong_length.false in
    let c3 = is c.wrong_byte.ensures c.if-wrong_byte.false in
    let c4 = is c.wrong_names.ensures c.if-wrong_names.false in
    let c5 = is c.equal_names.ensures c.if-equal_names.false in
    let c6 = is (c.is_wrong_count.ensures ∙ ap wrong_count c.entry_count-n.ensures) c.if-is_wrong_count.true in
    refused _ _ (behind5 _ c2 c3 c4 c5 _ (first_yes c6))

pub wrong_lines-requires : goal.wrong_lines-requires
wrong_lines-requires c = let (some, most) = length_right _ (is c.wrong_length.ensures c.if-wrong_length.false) in
    (some, most, c.entry_count-n.ensures, right_count _ (is c.is_wrong_count.ensures c.if-is_wrong_count.false))

pub returns-then-wrong_lines : goal.returns-then-wrong_lines
unfolding reader_checks
returns-then-wrong_lines c = let c2 = is c.wrong_length.ensures c.if-wrong_length.false in
    let c3 = is c.wrong_byte.ensures c.if-wrong_byte.false in
    let c4 = is c.wrong_names.ensures c.if-wrong_names.false in
    let c5 = is c.equal_names.ensures c.if-equal_names.false in
    let c6 = is (c.is_wrong_count.ensures ∙ ap wrong_count c.entry_count-n.ensures) c.if-is_wrong_count.false in
    refused _ _ (behind5 _ c2 c3 c4 c5 _ (first_no c6 (first_yes (is c.wrong_lines.ensures c.if-wrong_lines.true))))

pub read_values-requires : goal.read_values-requires
read_values-requires c = record {
  names = (
    is c.wrong_length.ensures c.if-wrong_length.false,
    is c.wrong_byte.ensures c.if-wrong_byte.false,
    is c.wrong_names.ensures c.if-wrong_names.false,
    is c.equal_names.ensures c.if-equal_names.false,
  );
  rows = (c.entry_count-n.ensures, is c.is_wrong_count.ensures c.if-is_wrong_count.false, is c.wrong_lines.ensures c.if-wrong_lines.false);
}
