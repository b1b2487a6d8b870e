use Rattle.std.proofs.KnownBytes.{Keeps-refl}
use Rattle.lob_store.specs.Run.{streams}
use Rattle.lob_store.specs.Words.{word_bytes}
use Rattle.lob_store.proofs.TopLemmas.{refused_tells, played_tells, loaded_few, loaded_alone, due}
use Rattle.lob_store.proofs.top.run_turns.Goals as goal

pub play-requires-clause-few : goal.play-requires-clause-few
play-requires-clause-few g c = loaded_few _ _ c.in-Ok.script c.statements.result.now c.in-Ok.ensures.ok c.statements.ensures.statements

pub play-requires-clause-alone : goal.play-requires-clause-alone
play-requires-clause-alone g c = loaded_alone _ _ c.in-Ok.script c.statements.result.now c.in-Ok.ensures.ok c.statements.ensures.statements

pub returns-in-Ok-clause-tells : goal.returns-in-Ok-clause-tells
returns-in-Ok-clause-tells g c =
    played_tells _ _ c.in-Ok.script c.statements.result.now c.in-Ok.ensures.ok c.statements.ensures.statements (word_bytes c.args.words.now) _ _ _ _ _ _ c.play.result c.play.ensures.played

pub returns-in-Ok-clause-complete : goal.returns-in-Ok-clause-complete
returns-in-Ok-clause-complete g c command =
    due _ _ c.in-Ok.script c.statements.result.now c.in-Ok.ensures.ok c.statements.ensures.statements _ _ _ _ c.play.result c.play.ensures.played

pub returns-in-Err-clause-tells : goal.returns-in-Err-clause-tells
returns-in-Err-clause-tells g c =
    refused_tells (word_bytes c.args.words.now)
    (streams (g.S.Source.left c.args.script.now) (g.K.Sink.taken c.args.out.now) (g.S.Source.faults c.args.script.now) (g.K.Sink.faults c.args.out.now))
    (streams (g.S.Source.left c.load.new.source) (g.K.Sink.taken c.args.out.now) (g.S.Source.faults c.load.new.source) (g.K.Sink.faults c.args.out.now))
    c.in-Err.status (Keeps-refl (g.K.Sink.taken c.args.out.now)) c.in-Err.ensures.err
