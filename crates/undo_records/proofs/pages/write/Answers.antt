use Rattle.std.proofs.Common.{◌∙◌}
use Rattle.engine_base.specs.Addresses.{address_of}
use Rattle.undo_model.proofs.SizeLemmas.{sound_size}
use Rattle.undo_records.specs.Records.{record_of, body_of}
use Rattle.undo_records.proofs.PageLemmas.{record_told}
use Rattle.undo_records.proofs.pages.write.Goals as goal

pub encode-bytes-requires-clause-short : goal.encode-bytes-requires-clause-short
encode-bytes-requires-clause-short g c = sound_size _ (body_of c.args.rec.now.body) c.requires.sound.body

pub returns-clause-stands : goal.returns-clause-stands
returns-clause-stands g c = record_told _ _ _ (address_of c.args.at) (record_of c.args.rec.now) (address_of c.args.previous) c.as_slice.result.now (g.P.Pages.whole c.args.p.now)
    c.requires.page c.requires.within c.requires.sound c.requires.previous (c.as_slice.ensures.value ∙ c.encode-bytes.ensures) c.in_ok-write.ensures.written
