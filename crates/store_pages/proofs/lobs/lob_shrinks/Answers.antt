use Rattle.store_pages.proofs.LobMoveLemmas.{lob_shrunk}
use Rattle.store_pages.proofs.lobs.lob_shrinks.Goals as goal

pub returns : goal.returns
returns c = lob_shrunk
