use Rattle.std.proofs.Common.{◌≡◌, ap, sym, ◌∙◌, arith}
use Rattle.byteorder.specs.Endian.{big_number}
use Rattle.file_model.specs.Doublewrite.{batch_in}
use Rattle.doublewrite.specs.Batches.{number_of}
use Rattle.doublewrite.proofs.HeaderLemmas.{many, beyond, valid}
use Rattle.doublewrite.proofs.header.count_of.Goals as goal

pub returns-then-count-gt-MAX_BATCH-clause-batch : goal.returns-then-count-gt-MAX_BATCH-clause-batch
returns-then-count-gt-MAX_BATCH-clause-batch c l file same holds =
    let is : c.read_u32-count.result ≡ big_number 4 c.args.header.now = c.read_u32-count.ensures in
    many c.args.header.now file c.requires holds l c.args.pages same (omega (arith, is, c.if-count-gt-MAX_BATCH.true))

pub returns-then-number-pages-clause-batch : goal.returns-then-number-pages-clause-batch
returns-then-number-pages-clause-batch c l file same holds =
    let is : c.read_u32-count.result ≡ big_number 4 c.args.header.now = c.read_u32-count.ensures in
    let n : c.number.result ≡ number_of c.args.header.now c.pages.i = c.number.ensures in
    beyond c.args.header.now file c.requires holds l c.args.pages same c.pages.i (omega (arith, is, c.pages-test.true)) (omega (arith, is, c.if-count-gt-MAX_BATCH.false)) (omega (arith, n, c.if-number-pages.true))

pub returns-clause-batch : goal.returns-clause-batch
returns-clause-batch c l file same holds =
    let is : c.read_u32-count.result ≡ big_number 4 c.args.header.now = c.read_u32-count.ensures in
    valid c.args.header.now file c.requires holds l c.args.pages same (omega (arith, is, c.if-count-gt-MAX_BATCH.false)) (λ i low. c.pages.invariant.below i (omega (arith, is, low, c.pages-test.false)))
    ∙ ap (batch_in file) (sym is)
