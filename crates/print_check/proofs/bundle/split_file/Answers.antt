-- The rest of the bytes is the file's bytes and what follows.
use Rattle.std.proofs.Common.{arith}
use Rattle.std.proofs.lemmas.List.{take_rest}
use Rattle.print_check.proofs.BundleLaws.{no_file, file_split}
use Rattle.print_check.proofs.bundle.split_file.Goals as goal

pub returns-then-bytes-lt2 : goal.returns-then-bytes-lt2
returns-then-bytes-lt2 c = no_file c.args.bytes.now (omega arith)

pub returns : goal.returns
returns c = file_split c.args.bytes.now _ _ _ c.if-bytes-lt2.false (take_rest c.args.bytes.now 2) c.word_at.ensures.value c.split_at_checked.ensures.cases
