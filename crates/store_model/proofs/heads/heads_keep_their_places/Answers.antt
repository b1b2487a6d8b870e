use Rattle.store_model.proofs.HeadLemmas.{keep_same, keep_with, keep_raised, keep_laid, keep_added, keep_pushed, keep_popped, keep_freed, keep_index, keep_undone, keep_dropped, keep_passed}
use Rattle.store_model.proofs.heads.heads_keep_their_places.Goals as goal

pub returns-clause-insert : goal.returns-clause-insert
returns-clause-insert c p lob n store = keep_with store.lobs lob

pub returns-clause-full : goal.returns-clause-full
returns-clause-full c p lob n store = keep_with store.lobs lob

pub returns-clause-versioned : goal.returns-clause-versioned
returns-clause-versioned c p pieces touched store = keep_raised _ _ store.lobs

pub returns-clause-patched : goal.returns-clause-patched
returns-clause-patched c p old new store = keep_laid new store.lobs

pub returns-clause-delete : goal.returns-clause-delete
returns-clause-delete c p store = keep_same store.lobs

pub returns-clause-piece : goal.returns-clause-piece
returns-clause-piece c page piece index free store = keep_added page piece index free store.lobs

pub returns-clause-pushed : goal.returns-clause-pushed
returns-clause-pushed c page k node v index free store = keep_pushed page k node v index free store.lobs

pub returns-clause-popped : goal.returns-clause-popped
returns-clause-popped c page k free store = keep_popped page k free store.lobs

pub returns-clause-freed : goal.returns-clause-freed
returns-clause-freed c page free store = keep_freed page free store.lobs

pub returns-clause-index : goal.returns-clause-index
returns-clause-index c page store = keep_index page store.lobs

pub returns-clause-undone : goal.returns-clause-undone
returns-clause-undone c = keep_undone

pub returns-clause-dropped : goal.returns-clause-dropped
returns-clause-dropped c page k free store = keep_dropped page k free store.lobs

pub returns-clause-passed : goal.returns-clause-passed
returns-clause-passed c = keep_passed
