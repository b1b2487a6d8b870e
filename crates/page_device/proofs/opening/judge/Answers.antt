use Rattle.std.proofs.Common.{◌≡◌, ℕ, drop, ap, ap₂, sym, ◌∙◌, arith}
use Rattle.std.proofs.lemmas.Bool.{eq-eqb}
use Rattle.std.proofs.lemmas.List.{take_rest}
use Rattle.byteorder.specs.Endian.{big_number}
use Rattle.file_model.specs.Control.{short}
use Rattle.page_device.specs.Opening.{answer_of}
use Rattle.page_device.proofs.OpenLemmas.{not_equal, no_magic, other_version, past_limits, too_short, is_opened}
use Rattle.page_device.proofs.opening.judge.Goals as goal

pub returns-then-not-starts_with-clause-answer : goal.returns-then-not-starts_with-clause-answer
returns-then-not-starts_with-clause-answer c file size holds =
    sym (ap answer_of (no_magic file c.args.head.now c.requires.head holds (omega (arith, size, c.requires.control)) (sym c.starts_with.ensures.value ∙ c.if-not-starts_with.true)))

pub returns-then-version-ne-VERSION-clause-answer : goal.returns-then-version-ne-VERSION-clause-answer
returns-then-version-ne-VERSION-clause-answer c file size holds =
    let v : c.read_u32-version.result ≡ big_number 4 (drop 8 c.args.head.now) = c.read_u32-version.ensures ∙ ap (big_number 4) (take_rest c.args.head.now 8) in
    sym (ap answer_of (other_version file c.args.head.now c.requires.head holds (omega (arith, size, c.requires.control)) (sym c.starts_with.ensures.value ∙ c.if-not-starts_with.false) c.read_u32-version.result v
    (not_equal c.read_u32-version.result 1 c.if-version-ne-VERSION.true)))

pub returns-then-not-is_in_limits-clause-answer : goal.returns-then-not-is_in_limits-clause-answer
returns-then-not-is_in_limits-clause-answer c file size holds =
    let v : c.read_u32-version.result ≡ big_number 4 (drop 8 c.args.head.now) = c.read_u32-version.ensures ∙ ap (big_number 4) (take_rest c.args.head.now 8) in
    let pages : c.read_u32.result ≡ big_number 4 (drop 12 c.args.head.now) = c.read_u32.ensures ∙ ap (big_number 4) (take_rest c.args.head.now 12) in
    let log : c.read_u32-2.result ≡ big_number 4 (drop 16 c.args.head.now) = c.read_u32-2.ensures ∙ ap (big_number 4) (take_rest c.args.head.now 16) in
    sym (ap answer_of (past_limits file c.args.head.now c.requires.head holds (omega (arith, size, c.requires.control)) (sym c.starts_with.ensures.value ∙ c.if-not-starts_with.false) c.read_u32-version.result v
    (eq-eqb _ _ c.if-version-ne-VERSION.false) (record { pages = c.read_u32.result; log_kib = c.read_u32-2.result }) pages log (sym c.is_in_limits.ensures ∙ c.if-not-is_in_limits.true)))

pub returns-then-size-wanted-clause-answer : goal.returns-then-size-wanted-clause-answer
returns-then-size-wanted-clause-answer c file size holds =
    let v : c.read_u32-version.result ≡ big_number 4 (drop 8 c.args.head.now) = c.read_u32-version.ensures ∙ ap (big_number 4) (take_rest c.args.head.now 8) in
    let pages : c.read_u32.result ≡ big_number 4 (drop 12 c.args.head.now) = c.read_u32.ensures ∙ ap (big_number 4) (take_rest c.args.head.now 12) in
    let log : c.read_u32-2.result ≡ big_number 4 (drop 16 c.args.head.now) = c.read_u32-2.ensures ∙ ap (big_number 4) (take_rest c.args.head.now 16) in
    sym (ap answer_of (too_short file c.args.head.now c.requires.head holds (omega (arith, size, c.requires.control)) (sym c.starts_with.ensures.value ∙ c.if-not-starts_with.false) c.read_u32-version.result v
    (eq-eqb _ _ c.if-version-ne-VERSION.false) (record { pages = c.read_u32.result; log_kib = c.read_u32-2.result }) pages log (sym c.is_in_limits.ensures ∙ c.if-not-is_in_limits.false) (omega (arith, size, c.wanted-wanted.ensures.size, c.if-size-wanted.true)))
    ∙ ap₂ (λ (a b : ℕ). answer_of (short a b)) size (sym c.wanted-wanted.ensures.size))

pub returns-clause-answer : goal.returns-clause-answer
returns-clause-answer c file size holds =
    let v : c.read_u32-version.result ≡ big_number 4 (drop 8 c.args.head.now) = c.read_u32-version.ensures ∙ ap (big_number 4) (take_rest c.args.head.now 8) in
    let pages : c.read_u32.result ≡ big_number 4 (drop 12 c.args.head.now) = c.read_u32.ensures ∙ ap (big_number 4) (take_rest c.args.head.now 12) in
    let log : c.read_u32-2.result ≡ big_number 4 (drop 16 c.args.head.now) = c.read_u32-2.ensures ∙ ap (big_number 4) (take_rest c.args.head.now 16) in
    sym (ap answer_of (is_opened file c.args.head.now c.requires.head holds (omega (arith, size, c.requires.control)) (sym c.starts_with.ensures.value ∙ c.if-not-starts_with.false) c.read_u32-version.result v
    (eq-eqb _ _ c.if-version-ne-VERSION.false) (record { pages = c.read_u32.result; log_kib = c.read_u32-2.result }) pages log (sym c.is_in_limits.ensures ∙ c.if-not-is_in_limits.false) (omega (arith, size, c.wanted-wanted.ensures.size, c.if-size-wanted.false))))
