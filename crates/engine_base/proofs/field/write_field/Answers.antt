use Rattle.std.proofs.Common.{ap, ℕ, ◌∙◌}
use Rattle.std.proofs.lemmas.List.{take_at}
use Rattle.byteorder.specs.Endian.{big_bytes}
use Rattle.byteorder.specs.Numbers.{length-bytes_high_first}
use Rattle.engine_base.proofs.FieldLemmas.{field_told, adds_same}
use Rattle.engine_base.proofs.field.write_field.Goals as goal

pub returns-clause-sets : goal.returns-clause-sets
returns-clause-sets g c = field_told _ _ _ _ _ _ _ _ (g.P.Pages.whole c.args.p.now) c.requires.page c.requires.within c.requires.fits
    (rw c.write_uint.ensures (take_at (big_bytes c.from-width.result c.args.value) _ c.from-width.result (length-bytes_high_first c.from-width.result c.args.value) ∙ ap (λ (n : ℕ). big_bytes n c.args.value) c.from-width.ensures))
    c.in_ok-write.ensures.written

pub returns-clause-writes : goal.returns-clause-writes
returns-clause-writes g c = adds_same _ _ _ _ _ _
    (rw c.write_uint.ensures (take_at (big_bytes c.from-width.result c.args.value) _ c.from-width.result (length-bytes_high_first c.from-width.result c.args.value) ∙ ap (λ (n : ℕ). big_bytes n c.args.value) c.from-width.ensures))
    c.in_ok-write.ensures.writes
